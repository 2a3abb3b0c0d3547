-- `start_in` is `start_in`: head, two armings, enable, go. Assumes nothing.
use Rattle.std.proofs.Common.{arith}
use Rattle.transfers.proofs.Logs.{puts_then}
use Rattle.transfers.proofs.Counts.{head_five, enable_three}
use Rattle.transfers.specs.Outcome.{start_in}
use Rattle.transfers.proofs.Armings.{in_two_few}
use Rattle.transfers.proofs.progress.start_in.Goals as goal

pub in_arm_two-g-requires : goal.in_arm_two-g-requires
in_arm_two-g-requires c = let a = c.args in omega (arith, c.put_head.ensures.wrote.count, head_five a.t a.n, c.requires)

pub put_enable-requires : goal.put_enable-requires
put_enable-requires c =
    let a = c.args in
    omega (arith, c.put_head.ensures.wrote.count, head_five a.t a.n, c.in_arm_two-g.ensures.log.wrote.count, in_two_few 0 c.new-c.result 0, c.requires)

pub put_go-requires : goal.put_go-requires
put_go-requires c =
    let a = c.args in
    omega (arith, c.put_head.ensures.wrote.count, head_five a.t a.n, c.in_arm_two-g.ensures.log.wrote.count, in_two_few 0 c.new-c.result 0, c.put_enable.ensures.wrote.count, enable_three a.t.size a.n, c.requires)

pub returns : goal.returns
unfolding start_in
returns c =
    let h = rw c.new-c.ensures at c.in_arm_two-g.ensures in
    record { stage = simp (h.packets, h.inflight); log = puts_then c.put_head.ensures (puts_then h.log (puts_then c.put_enable.ensures c.put_go.ensures)) }
