-- Fields of a register after a masked write. Assumes nothing.
use mathlib.Core.Path.{◌≡◌, refl, sym, ap, ◌∙◌}
use mathlib.Core.Bool.{Bool, true, false}
use Prim.Native.Nat.{ℕ, ◌+◌, ◌*◌, ◌/◌, ◌%◌, ◌^◌}
use lib.Bits.{bit_or, and_zero_r, or_zero_l}
use lib.Pow.{shr-shr, shl-shr}
use lib.Dec.{eqb}
use Rattle.transfers.specs.Registers.{field, ones, weigh}
use Rattle.transfers.specs.Log.{masked}

-- A write of the whole register.
pub all : (old v : ℕ) → masked old ones v ≡ v
all old v = ap (λ (n : ℕ). bit_or n v) (and_zero_r old) ∙ or_zero_l v

-- A value in the upper half.
pub upper : (k j x : ℕ) → field (16 + k) j (x * 2 ^ 16) ≡ field k j x
upper k j x = ap (λ (m : ℕ). m % 2 ^ j) (sym (shr-shr (x * 2 ^ 16) 16 k) ∙ ap (λ (m : ℕ). m / 2 ^ k) (shl-shr x 16))

weigh_back : (b : Bool) → eqb (weigh b 1) 1 ≡ b
weigh_back true = refl
weigh_back false = refl

-- A bit, by its number.
pub is_one : (x : ℕ) (b : Bool) → x ≡ weigh b 1 → eqb x 1 ≡ b
is_one x b e = ap (λ (y : ℕ). eqb y 1) e ∙ weigh_back b

pub same_bit : (x y : ℕ) → x ≡ y → eqb x 1 ≡ eqb y 1
same_bit x y e = ap (λ (z : ℕ). eqb z 1) e
