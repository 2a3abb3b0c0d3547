-- `step_out` is `step_of`: the checks in their order, then the step. Assumes nothing.
use Rattle.std.proofs.Common.{false, arith}
use Rattle.transfers.proofs.Readiness.{sound_within, served_status, may_parts}
use Rattle.transfers.proofs.step.step_out.Goals as goal

pub act_out-progress-requires : goal.act_out-progress-requires
act_out-progress-requires c =
    let r = c.in-Ok.run' in
    let k = c.in-Ok.ensures in
    let m = may_parts false r k.serves in
    (k.length_is, sound_within r.request r.stage c.args.buf.now m.1 k.length_is, served_status _ _ m.0, omega arith)
