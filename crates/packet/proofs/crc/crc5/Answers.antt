-- The next bit. Assumes nothing.
use mathlib.Core.Path.{◌≡◌, ap, sym, ◌∙◌}
use Prim.Native.Nat.{ℕ, suc, ◌+◌, ◌-◌, ◌/◌, ◌%◌, ◌<◌}
use native.Mathlib.Omega.{arith}
use Rattle.packet.specs.Crc.{crc_bit, crc_bits, poly5}
use Rattle.packet.proofs.crc.crc5.Goals as goal

step : (n c x : ℕ) → n < 11 → crc_bits poly5 (11 - n) c x ≡ crc_bits poly5 (11 - (n + 1)) (crc_bit poly5 c (x % 2)) (x / 2)
unfolding crc_bits
step n c x h =
    let e : 11 - n ≡ suc (11 - (n + 1)) = omega arith in
    ap (λ (k : ℕ). crc_bits poly5 k c x) e

pub loop-preserved : goal.loop-preserved
loop-preserved c =
    let l = c.loop in
    let b = c.crc5_bit-c in
    (rw b.ensures.0 (sym (step l.counter l.c l.left (omega arith)) ∙ l.invariant.0), omega arith, b.ensures.1)
