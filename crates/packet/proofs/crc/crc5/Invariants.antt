-- What is left to do is what there was to do. Assumes nothing.
-- The next bit.
use mathlib.Core.Path.{◌≡◌}
use Prim.Native.Nat.{◌-◌, ◌≤◌}
use Rattle.packet.specs.Crc.{crc_bits, poly5}
use Rattle.packet.proofs.crc.crc5.Given as goal

abbrev pub invariant-loop : goal.invariant-loop
invariant-loop l = (crc_bits poly5 (11 - l.counter) l.c l.left ≡ crc_bits poly5 11 31 l.v) × (l.counter ≤ 11) × (l.c ≤ 31)

abbrev pub decreases-loop : goal.decreases-loop
decreases-loop l = 11 - l.counter
