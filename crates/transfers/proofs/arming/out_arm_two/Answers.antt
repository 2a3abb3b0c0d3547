-- `out_arm_two` is `out_arm_two`. Assumes nothing.
use Rattle.std.proofs.Common.{arith}
use Rattle.transfers.specs.Arming.{out_arm_two}
use Rattle.transfers.proofs.Logs.{puts_then}
use Rattle.transfers.proofs.Armings.{out_few, out_arm_sum}
use Rattle.transfers.proofs.arming.out_arm_two.Goals as goal

pub prepare-h-requires : goal.prepare-h-requires
prepare-h-requires c =
    let a = c.args in
    let g = c.prepare-g.ensures in (
      rw g.packets (omega (arith, c.requires, out_arm_sum a.buffers a.p.counters a.inflight a.p.buf.now a.pm.now)),
      omega (arith, g.log.wrote.count, c.requires, out_few a.buffers a.p.counters a.inflight a.p.buf.now a.pm.now),
    )

pub returns : goal.returns
unfolding out_arm_two
returns c =
    let g = c.prepare-g.ensures in
    let h = rw (g.packets, g.inflight, g.memory) at c.prepare-h.ensures in
    record { packets = h.packets; inflight = h.inflight; first = g.arm; second = h.arm; memory = h.memory; log = puts_then g.log h.log }
