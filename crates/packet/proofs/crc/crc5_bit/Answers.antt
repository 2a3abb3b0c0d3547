-- Where the two bits differ the polynomial is taken off. Assumes nothing.
use mathlib.Core.Path.{◌≡◌, refl}
use Prim.Native.Nat.{ℕ, zero, suc, ◌/◌, ◌%◌, ◌<◌}
use native.Mathlib.Omega.{arith}
use lib.Bits.{differ, xor_lt}
use lib.Dec.{lit<}
use Rattle.packet.proofs.crc.crc5_bit.Goals as goal

other_digit : (x y : ℕ) → x < 2 → y < 2 → (x ≡ y → ⊥) → differ x y ≡ 1
other_digit zero zero hx hy d = absurd (d refl)
other_digit zero (suc zero) hx hy d = refl
other_digit zero (suc (suc y)) hx hy d = absurd (omega arith)
other_digit (suc zero) zero hx hy d = refl
other_digit (suc zero) (suc zero) hx hy d = absurd (d refl)
other_digit (suc zero) (suc (suc y)) hx hy d = absurd (omega arith)
other_digit (suc (suc x)) y hx hy d = absurd (omega arith)

pub returns-else-c-bit : goal.returns-else-c-bit
returns-else-c-bit c =
    let a = c.args in
    (rw (other_digit (a.c % 2) a.bit (omega arith) (omega arith) c.if-c-bit.false), omega (arith, xor_lt 5 (a.c / 2) 20 (omega arith) (lit< tt)))
