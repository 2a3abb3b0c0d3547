-- `out_step` is `out_step`. Assumes nothing.
use Rattle.std.proofs.Common.{sym}
use Rattle.transfers.proofs.Telling.{moves_after}
use Rattle.transfers.specs.Writes.{quiets}
use Rattle.transfers.specs.Step.{out_step}
use Rattle.transfers.proofs.Steps.{out_complete_memory}
use Rattle.transfers.proofs.out_stage.out_step.Goals as goal

pub returns-in-Complete : goal.returns-in-Complete
unfolding out_step
returns-in-Complete c =
    let a = c.args in
    simp c.in-Complete.is
    (moves_after quiets _ c.put_quiets.ensures (record { tells = c.out_complete.ensures a.pm.now a.buf.now; memory = sym (out_complete_memory a.x a.st a.buffers a.pm.now a.buf.now) }))
