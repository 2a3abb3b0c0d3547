-- `start_out` is `start_out`: head, two armings, enable, go. Assumes nothing.
use Rattle.std.proofs.Common.{arith}
use Rattle.transfers.proofs.Logs.{puts_then}
use Rattle.transfers.proofs.Counts.{head_five, enable_three}
use Rattle.transfers.specs.Outcome.{start_out}
use Rattle.transfers.proofs.Armings.{out_two_few}
use Rattle.transfers.proofs.progress.start_out.Goals as goal

pub out_arm_two-g-requires : goal.out_arm_two-g-requires
out_arm_two-g-requires c =
    let a = c.args in
    (rw c.new.ensures (omega (arith, c.requires)), omega (arith, c.put_head.ensures.wrote.count, head_five a.t a.n, c.requires))

pub put_enable-requires : goal.put_enable-requires
put_enable-requires c =
    let a = c.args in
    omega (arith, c.put_head.ensures.wrote.count, head_five a.t a.n, c.out_arm_two-g.ensures.log.wrote.count, out_two_few 0 c.new.result 0 a.buf.now a.pm.now, c.requires)

pub put_go-requires : goal.put_go-requires
put_go-requires c =
    let a = c.args in
    let few = out_two_few 0 c.new.result 0 a.buf.now a.pm.now in
    omega (arith, c.put_head.ensures.wrote.count, head_five a.t a.n, c.out_arm_two-g.ensures.log.wrote.count, few, c.put_enable.ensures.wrote.count, enable_three a.t.size a.n, c.requires)

pub returns : goal.returns
unfolding start_out
returns c =
    let h = rw c.new.ensures at c.out_arm_two-g.ensures in
    record { stage = simp (h.packets, h.inflight); first = h.first; second = h.second; memory = h.memory; log = puts_then c.put_head.ensures (puts_then h.log (puts_then c.put_enable.ensures c.put_go.ensures)) }
