-- The remainder is linear, and so a byte at a time goes by a table of 256 entries. Assumes nothing.
use mathlib.Core.Path.{◌≡◌, refl, ap, ap₂, sym, ◌∙◌}
use mathlib.Core.Bool.{Bool, true, false, cond}
use Prim.Native.Nat.{ℕ, zero, suc, ◌*◌, ◌/◌, ◌%◌, ◌^◌, ◌<◌}
use native.Mathlib.Nat.{pow-suc, mul_assoc, mod-lt, div-add-mod'}
use lib.Pow.{pow_pos}
use native.Mathlib.Omega.{arith}
use lib.Dec.{eqb, lit<}
use lib.Bits.{differ, bit_xor, xor_comm, xor_zero_r, xor_self, xor_lt, xor_shr, xor_shifted}
use Rattle.packet.specs.Crc.{crc_bit, crc_bits, poly16, entry_of}
use Rattle.packet.proofs.Xor.{xor_half, xor_digit, xor_pairs}

-- The polynomial where a digit is 1.
abbrev pub times : ℕ → ℕ → ℕ
times poly d = cond (eqb d 1) poly 0

module _ (poly : ℕ) where
  times_differ : (x y : ℕ) → x < 2 → y < 2 → times poly (differ x y) ≡ bit_xor (times poly x) (times poly y)
  times_differ zero y hx hy = refl
  times_differ (suc zero) zero hx hy = sym (xor_zero_r poly)
  times_differ (suc zero) (suc zero) hx hy = sym (xor_self poly)
  times_differ (suc zero) (suc (suc y)) hx hy = absurd (omega arith)
  times_differ (suc (suc x)) y hx hy = absurd (omega arith)

  taken : (c : ℕ) (b : Bool) → cond b (bit_xor c poly) c ≡ bit_xor c (cond b poly 0)
  taken c true = refl
  taken c false = sym (xor_zero_r c)

  -- One bit, as a sum.
  pub bit_is : (c b : ℕ) → b < 2 → crc_bit poly c b ≡ bit_xor (c / 2) (bit_xor (times poly (c % 2)) (times poly b))
  bit_is c b h = taken (c / 2) (eqb (differ (c % 2) b) 1) ∙ ap (bit_xor (c / 2)) (times_differ (c % 2) b (omega arith) h)

  -- One bit is linear.
  bit_linear : (c d x y : ℕ) → crc_bit poly (bit_xor c d) (bit_xor x y % 2) ≡ bit_xor (crc_bit poly c (x % 2)) (crc_bit poly d (y % 2))
  bit_linear c d x y =
      bit_is (bit_xor c d) (bit_xor x y % 2) (omega arith)
      ∙ ap₂ bit_xor (xor_half c d)
      (ap₂ bit_xor
      (ap (times poly) (xor_digit c d) ∙ times_differ (c % 2) (d % 2) (omega arith) (omega arith))
      (ap (times poly) (xor_digit x y) ∙ times_differ (x % 2) (y % 2) (omega arith) (omega arith))
      ∙ xor_pairs (times poly (c % 2)) (times poly (d % 2)) (times poly (x % 2)) (times poly (y % 2)))
      ∙ xor_pairs (c / 2) (d / 2) (bit_xor (times poly (c % 2)) (times poly (x % 2))) (bit_xor (times poly (d % 2)) (times poly (y % 2)))
      ∙ sym (ap₂ bit_xor (bit_is c (x % 2) (omega arith)) (bit_is d (y % 2) (omega arith)))

  -- So are n bits.
  pub bits_linear : (n c d x y : ℕ) → crc_bits poly n (bit_xor c d) (bit_xor x y) ≡ bit_xor (crc_bits poly n c x) (crc_bits poly n d y)
  unfolding crc_bits
  bits_linear zero c d x y = refl
  bits_linear (suc n) c d x y =
      ap₂ (crc_bits poly n) (bit_linear c d x y) (xor_half x y)
      ∙ bits_linear n (crc_bit poly c (x % 2)) (crc_bit poly d (y % 2)) (x / 2) (y / 2)

  -- Data bits may stand in the remainder from the start.
  bits_swap : (n x : ℕ) → x < 2 ^ n → crc_bits poly n 0 x ≡ crc_bits poly n x 0
  unfolding crc_bits
  bits_swap zero x h = omega arith
  bits_swap (suc n) x h =
      ap₂ (crc_bits poly n) (bit_is 0 (x % 2) (omega arith) ∙ sym (xor_zero_r (times poly (x % 2)))) refl
      ∙ bits_linear n (times poly (x % 2)) 0 0 (x / 2)
      ∙ ap (bit_xor (crc_bits poly n (times poly (x % 2)) 0)) (bits_swap n (x / 2) (omega (arith, pow-suc 2 n)))
      ∙ sym (bits_linear n (times poly (x % 2)) (x / 2) 0 0)
      ∙ ap (λ (c : ℕ). crc_bits poly n c 0) (xor_comm (times poly (x % 2)) (x / 2) ∙ ap (bit_xor (x / 2)) (sym (xor_zero_r (times poly (x % 2)))) ∙ sym (bit_is x 0 (omega arith)))

  pub bits_in : (n c x : ℕ) → x < 2 ^ n → crc_bits poly n c x ≡ crc_bits poly n (bit_xor c x) 0
  bits_in n c x h =
      ap (λ (d : ℕ). crc_bits poly n d x) (sym (xor_zero_r c)) ∙ bits_linear n c 0 0 x
      ∙ ap (bit_xor (crc_bits poly n c 0)) (bits_swap n x h) ∙ sym (bits_linear n c x 0 0)

  -- High bits only move down.
  bits_high : (n h : ℕ) → crc_bits poly n (h * 2 ^ n) 0 ≡ h
  unfolding crc_bits
  bits_high zero h = omega arith
  bits_high (suc n) h =
      let double : h * 2 ^ suc n ≡ h * 2 ^ n * 2 = ap (λ (x : ℕ). h * x) (pow-suc 2 n) ∙ sym (mul_assoc h (2 ^ n) 2) in
      let even : h * 2 ^ suc n % 2 ≡ 0 = omega (arith, double) in
      let half : h * 2 ^ suc n / 2 ≡ h * 2 ^ n = omega (arith, double) in
      ap (λ (c : ℕ). crc_bits poly n c 0) (bit_is (h * 2 ^ suc n) 0 (omega arith) ∙ ap₂ (λ (x y : ℕ). bit_xor x (bit_xor (times poly y) 0)) half even ∙ xor_zero_r (h * 2 ^ n))
      ∙ bits_high n h

  pub bits_apart : (n c : ℕ) → crc_bits poly n c 0 ≡ bit_xor (c / 2 ^ n) (crc_bits poly n (c % 2 ^ n) 0)
  bits_apart n c =
      let low : c % 2 ^ n < 2 ^ n = mod-lt c (pow_pos n) in
      ap (λ (d : ℕ). crc_bits poly n d 0) (sym (xor_shifted (c / 2 ^ n) n (c % 2 ^ n) low ∙ div-add-mod' c (2 ^ n)))
      ∙ bits_linear n (c / 2 ^ n * 2 ^ n) (c % 2 ^ n) 0 0
      ∙ ap (λ (d : ℕ). bit_xor d (crc_bits poly n (c % 2 ^ n) 0)) (bits_high n (c / 2 ^ n))

-- A byte at a time: the remainder's high byte, and the table's entry for its low byte with the data's.
pub byte_by_table : (c x : ℕ) → x < 256 → crc_bits poly16 8 c x ≡ bit_xor (c / 256) (entry_of (bit_xor c x % 256))
unfolding entry_of
byte_by_table c x h =
    bits_in poly16 8 c x h ∙ bits_apart poly16 8 (bit_xor c x)
    ∙ ap (λ (d : ℕ). bit_xor d (crc_bits poly16 8 (bit_xor c x % 256) 0)) (xor_shr c x 8 ∙ ap (bit_xor (c / 256)) small ∙ xor_zero_r (c / 256))
  where
    small : x / 2 ^ 8 ≡ 0
    small = omega arith

-- A remainder stays below the polynomial's place.
pub bit_lt : (poly k c b : ℕ) → poly < 2 ^ k → c < 2 ^ k → crc_bit poly c b < 2 ^ k
bit_lt poly k c b hp hc = go (eqb (differ (c % 2) b) 1)
  where
    go : (t : Bool) → cond t (bit_xor (c / 2) poly) (c / 2) < 2 ^ k
    go true = xor_lt k (c / 2) poly (omega arith) hp
    go false = omega arith

pub bits_lt : (poly k n c x : ℕ) → poly < 2 ^ k → c < 2 ^ k → crc_bits poly n c x < 2 ^ k
unfolding crc_bits
bits_lt poly k zero c x hp hc = hc
bits_lt poly k (suc n) c x hp hc = bits_lt poly k n (crc_bit poly c (x % 2)) (x / 2) hp (bit_lt poly k c (x % 2) hp hc)

pub entry_lt : (n : ℕ) → n < 256 → entry_of n < 2 ^ 16
unfolding entry_of
entry_lt n h = bits_lt poly16 16 8 n 0 (lit< tt) (omega arith)
