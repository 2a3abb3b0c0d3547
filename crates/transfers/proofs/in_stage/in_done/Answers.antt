-- `in_done` is `in_done`. Assumes nothing.
use Rattle.std.proofs.Common.{sym, ap}
use Rattle.transfers.specs.declared.driver.Kind.{Kind}
use Rattle.transfers.specs.Step.{in_done}
use Rattle.transfers.proofs.Telling.{moves_at}
use Rattle.transfers.proofs.in_stage.in_done.Goals as goal

pub returns-in-Control : goal.returns-in-Control
returns-in-Control c = let a = c.args in λ b. moves_at (ap (λ (k : Kind). in_done k a.status a.x a.d a.pm.now b) (sym c.in-Control.is)) (c.in_control_done.ensures b)
