-- `in_arm_two` is `in_arm_two`. Assumes nothing.
use Rattle.std.proofs.Common.{arith}
use Rattle.transfers.specs.Arming.{in_arm_two}
use Rattle.transfers.proofs.Logs.{puts_then}
use Rattle.transfers.proofs.Armings.{in_few}
use Rattle.transfers.proofs.arming.in_arm_two.Goals as goal

pub in_arm-requires : goal.in_arm-requires
in_arm-requires c = let a = c.args in omega (arith, c.in_arm-g.ensures.log.wrote.count, in_few a.buffers a.packets a.inflight, c.requires)

pub returns : goal.returns
unfolding in_arm_two
returns c =
    let g = c.in_arm-g.ensures in
    let h = rw (g.packets, g.inflight) at c.in_arm.ensures in
    record { packets = h.packets; inflight = h.inflight; log = puts_then g.log h.log }
