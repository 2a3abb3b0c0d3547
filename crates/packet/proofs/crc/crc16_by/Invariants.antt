-- What is left to do is what there was to do. Assumes nothing.
use mathlib.Core.Path.{◌≡◌}
use Prim.Native.Nat.{◌≤◌}
use lib.ListN.{drop}
use Rattle.packet.specs.Crc.{remainder16}
use Rattle.packet.proofs.crc.crc16_by.Given as goal

abbrev pub invariant-loop-x : goal.invariant-loop-x
invariant-loop-x l = (remainder16 l.c (drop l.x-index l.bytes) ≡ remainder16 0xFFFF l.bytes) × (l.c ≤ 0xFFFF)
