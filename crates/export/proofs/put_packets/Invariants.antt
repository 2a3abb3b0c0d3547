-- What is done has been put. Assumes nothing.
use mathlib.Core.Path.{◌≡◌}
use Prim.Native.Nat.{◌-◌, ◌≤◌}
use lib.ListN.{length}
use Rattle.record.specs.Verdict.{Whole}
use Rattle.export.specs.Export.{export_of}
use Rattle.export.proofs.Walking.{Stored}
use Rattle.export.proofs.put_packets.Given as goal

abbrev pub invariant-loop-l : goal.invariant-loop-l
invariant-loop-l l = (length l.out ≡ length l.initial.out) × ((w : Whole l.s) → length (export_of w.ms) ≤ length l.initial.out → Stored w.ms l.s l.at l.used l.initial.out l.out)

abbrev pub decreases-loop-l : goal.decreases-loop-l
decreases-loop-l l = length l.s - l.at
