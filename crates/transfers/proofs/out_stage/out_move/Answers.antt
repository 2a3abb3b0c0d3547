-- `out_move` is `out_move`: retire twice, arm twice, enable. Assumes nothing.
use Rattle.std.proofs.Common.{arith}
use Rattle.transfers.proofs.Logs.{puts_then}
use Rattle.transfers.specs.Step.{out_move}
use Rattle.transfers.proofs.Armings.{out_two_few}
use Rattle.transfers.proofs.out_stage.out_move.Goals as goal

pub put_enable-requires : goal.put_enable-requires
put_enable-requires c =
    let a = c.args in
    omega (arith, c.out_arm_two-g.ensures.log.wrote.count, out_two_few a.buffers c.out_packets.result c.out_retire-r-2.result.inflight a.buf.now a.pm.now, c.requires)

pub returns : goal.returns
unfolding out_move
returns c =
    let g = c.out_retire-r.ensures in
    let h = rw (g.0, g.1) at c.out_retire-r-2.ensures in
    let a = rw (c.out_packets.ensures, h.1) at c.out_arm_two-g.ensures in
    let e = rw c.stage_length-n.ensures at c.put_enable.ensures in
    let o = rw (c.target_of.ensures, a.first, a.second) at c.outs_armed-armed.ensures in
    record { tells = record { result = rw (a.packets, a.inflight, h.0, o) at c.wait.ensures; log = puts_then a.log e }; memory = a.memory }
