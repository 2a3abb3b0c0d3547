-- Fields of a register after a masked write. Assumes nothing.
use Rattle.std.proofs.Common.{◌≡◌, ℕ, ◌-◌, ◌/◌, ◌%◌, ◌^◌, ap, ◌∙◌}
use native.Mathlib.Nat.{mod-mod}
use lib.Bits.{bit_and, bit_or, or_shr, or_mod, and_shr, and_mod, and_zero_r, or_zero_l, or_zero_r, and_mask}
use Rattle.transfers.specs.Registers.{field, ones}
use Rattle.transfers.specs.Log.{masked}

split : (k j old m v : ℕ) → field k j (masked old m v) ≡ bit_or (bit_and (field k j old) (field k j (ones - m))) (field k j v)
split k j old m v =
    ap (λ (n : ℕ). n % 2 ^ j) (or_shr (bit_and old (ones - m)) v k)
    ∙ or_mod (bit_and old (ones - m) / 2 ^ k) (v / 2 ^ k) j
    ∙ ap (λ (n : ℕ). bit_or n (field k j v)) (ap (λ (n : ℕ). n % 2 ^ j) (and_shr old (ones - m) k) ∙ and_mod (old / 2 ^ k) ((ones - m) / 2 ^ k) j)

-- A field that the mask covers is the value's.
pub covered : (k j old m v : ℕ) → field k j (ones - m) ≡ 0 → field k j (masked old m v) ≡ field k j v
covered k j old m v e =
    split k j old m v
    ∙ ap (λ (n : ℕ). bit_or (bit_and (field k j old) n) (field k j v)) e
    ∙ ap (λ (n : ℕ). bit_or n (field k j v)) (and_zero_r (field k j old))
    ∙ or_zero_l (field k j v)

-- A field that the mask leaves out, with the value zero there, is the register's.
pub kept : (k j old m v : ℕ) → field k j (ones - m) ≡ 2 ^ j - 1 → field k j v ≡ 0 → field k j (masked old m v) ≡ field k j old
kept k j old m v e z =
    split k j old m v
    ∙ ap (λ (n : ℕ). bit_or (bit_and (field k j old) n) (field k j v)) e
    ∙ ap (λ (n : ℕ). bit_or (bit_and (field k j old) (2 ^ j - 1)) n) z
    ∙ or_zero_r (bit_and (field k j old) (2 ^ j - 1))
    ∙ and_mask (field k j old) j
    ∙ mod-mod (old / 2 ^ k) (2 ^ j)
