-- `out_done` is `out_done`. Assumes nothing.
use Rattle.std.proofs.Common.{sym, ap}
use Rattle.transfers.specs.declared.driver.Kind.{Kind}
use Rattle.transfers.specs.Step.{out_done}
use Rattle.transfers.proofs.Telling.{tells_at}
use Rattle.transfers.proofs.out_stage.out_done.Goals as goal

pub returns-in-Control : goal.returns-in-Control
returns-in-Control c = let a = c.args in λ m b. tells_at (ap (λ (k : Kind). out_done k a.x a.st a.parity m b) (sym c.in-Control.is)) (c.out_control_done.ensures m b)
