-- `step_in` is `step_of`: the checks in their order, then the step. Assumes nothing.
use Rattle.std.proofs.Common.{true, arith}
use Rattle.transfers.proofs.Readiness.{sound_within, may_parts}
use Rattle.transfers.proofs.step.step_in.Goals as goal

pub act_in-progress-requires : goal.act_in-progress-requires
act_in-progress-requires c =
    let r = c.in-Ok.run' in
    let k = c.in-Ok.ensures in
    let m = may_parts true r k.serves in
    (k.length_is, sound_within r.request r.stage c.args.buf.now m.1 k.length_is, omega arith)
