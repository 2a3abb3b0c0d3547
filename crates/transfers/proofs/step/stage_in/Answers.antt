-- `stage_in` is `stage_step`: a stage that is no IN stage of data leaves the buffer. Assumes nothing.
use Rattle.std.proofs.Common.{rules, sym}
use Rattle.transfers.specs.Ready.{InIsStatus}
use Rattle.transfers.proofs.Steps.{stage_keeps}
use Rattle.transfers.proofs.step.stage_in.Goals as goal
use Rattle.transfers.proofs.step.stage_in.Goals.{in_default-via-in-In+else-not-st, in_default-via-in_default}

pub returns-in_default : goal.returns-in_default
returns-in_default c =
    let a = c.args in
    let e = c.stage_out.ensures in
    let s : InIsStatus a.run.stage = elim c.in_default.branch [ in_default-via-in-In+else-not-st w ↦ search rules | in_default-via-in_default w ↦ search rules ] in
    record { tells = e.tells; memory = e.memory; buffer = sym (stage_keeps a.found a.run.request a.run.stage a.buffers a.buf.now a.pm.now s) }
