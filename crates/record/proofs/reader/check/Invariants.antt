-- `check` reads entry by entry. The invariant: what is left to do is what there was to do.
-- Assumes nothing.
use Prim.Native.Nat.{◌-◌}
use lib.ListN.{length}
use Rattle.record.proofs.Turns.{Reached}
use Rattle.record.proofs.reader.check.Given as goal

abbrev pub invariant-loop-entry : goal.invariant-loop-entry
invariant-loop-entry l = Reached l.s l.two l.p

abbrev pub decreases-loop-entry : goal.decreases-loop-entry
decreases-loop-entry l = length l.s - l.p.at
