-- `in_rearm` tells `in_rearm`. Assumes nothing.
use Rattle.std.proofs.Common.{arith}
use Rattle.transfers.proofs.Logs.{puts_then}
use Rattle.transfers.specs.Step.{in_rearm}
use Rattle.transfers.proofs.Armings.{in_two_few}
use Rattle.transfers.proofs.in_stage.in_rearm.Goals as goal

pub put_enable-requires : goal.put_enable-requires
put_enable-requires c =
    let a = c.args in
    omega (arith, c.in_arm_two-g.ensures.log.wrote.count, in_two_few a.buffers c.in_packets.result a.inflight, c.requires)

pub returns : goal.returns
unfolding in_rearm
returns c =
    let h = rw c.in_packets.ensures at c.in_arm_two-g.ensures in
    let n = rw c.stage_length-n.ensures at c.put_enable.ensures in
    λ m b. record { result = rw (h.packets, h.inflight, c.nothing_armed.ensures) at c.wait.ensures; log = puts_then h.log n }
