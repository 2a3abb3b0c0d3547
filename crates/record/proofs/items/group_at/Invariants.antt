-- `group_at` adds packet by packet. The invariant: what is left to do is what there was to do.
-- Assumes nothing.
use lib.ListN.{length}
use Prim.Native.Nat.{◌-◌}
use Rattle.record.proofs.Spans.{Walked}
use Rattle.record.proofs.items.group_at.Given as goal

abbrev pub invariant-loop-x : goal.invariant-loop-x
invariant-loop-x l = Walked l.s l.at l.p

abbrev pub decreases-loop-x : goal.decreases-loop-x
decreases-loop-x l = length l.s - l.p.at
