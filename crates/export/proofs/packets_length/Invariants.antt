-- What is done has been counted. Assumes nothing.
use Prim.Native.Nat.{◌+◌, ◌-◌, ◌*◌, ◌≤◌}
use lib.ListN.{length}
use Rattle.record.specs.Verdict.{Whole}
use Rattle.export.proofs.Walking.{Walked}
use Rattle.export.proofs.packets_length.Given as goal

abbrev pub invariant-loop-l : goal.invariant-loop-l
invariant-loop-l l = (l.n ≤ 2 * l.at) × (l.at ≤ length l.s + 5) × ((w : Whole l.s) → Walked w.ms l.s l.at l.n)

abbrev pub decreases-loop-l : goal.decreases-loop-l
decreases-loop-l l = length l.s - l.at
