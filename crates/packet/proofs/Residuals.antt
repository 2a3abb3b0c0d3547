-- Packets leave USB 2.0's residuals with right check fields, and with no others. Assumes nothing.
use mathlib.Core.Path.{◌≡◌, refl, ap, ap₂, sym, ◌∙◌}
use mathlib.Core.Bool.{cond}
use mathlib.Core.List.{List, [], ◌∷◌, ◌++◌}
use Prim.Native.Nat.{ℕ, zero, suc, ◌+◌, ◌-◌, ◌*◌, ◌/◌, ◌%◌, ◌^◌, ◌≤◌, ◌<◌}
use native.Mathlib.Nat.{pow-suc, suc-add, zero-add, mul_comm, mul_assoc}
use native.Mathlib.Omega.{arith}
use lib.Dec.{eqb, lit<}
use lib.Pow.{pow_pos}
use lib.Bits.{bit_xor, differ, xor_step, xor_self, xor_lt}
use Rattle.packet.specs.Crc.{crc_bit, crc_bits, turned, poly5, poly16, remainder16, crc16_of, crc5_of, Residual5, Residual16}
use Rattle.packet.specs.Packet.{low, checked}
use Rattle.packet.proofs.Xor.{xor_equal}
use Rattle.packet.proofs.Remainders.{bit_lt, bits_lt, bits_linear, bits_in}

-- ---- any polynomial

-- Bits after bits.
bits_add : (poly m n c lo hi : ℕ) → lo < 2 ^ m → crc_bits poly (m + n) c (lo + 2 ^ m * hi) ≡ crc_bits poly n (crc_bits poly m c lo) hi
unfolding crc_bits
bits_add poly zero n c lo hi h =
    let e : lo + 2 ^ 0 * hi ≡ hi = omega arith in
    ap₂ (λ (k x : ℕ). crc_bits poly k c x) (zero-add n) e
bits_add poly (suc m) n c lo hi h =
    let double : 2 ^ suc m * hi ≡ 2 * (2 ^ m * hi) = ap (λ (x : ℕ). x * hi) (pow-suc 2 m ∙ mul_comm (2 ^ m) 2) ∙ mul_assoc 2 (2 ^ m) hi in
    let digit : (lo + 2 ^ suc m * hi) % 2 ≡ lo % 2 = omega (arith, double) in
    let half : (lo + 2 ^ suc m * hi) / 2 ≡ lo / 2 + 2 ^ m * hi = omega (arith, double) in
    ap (λ (k : ℕ). crc_bits poly k c (lo + 2 ^ suc m * hi)) (suc-add m n)
    ∙ ap₂ (λ (d x : ℕ). crc_bits poly (m + n) (crc_bit poly c d) x) digit half
    ∙ bits_add poly m n (crc_bit poly c (lo % 2)) (lo / 2) hi (omega (arith, pow-suc 2 m))

differ_other : (x : ℕ) → x < 2 → differ x (1 - x) ≡ 1
differ_other zero h = refl
differ_other (suc zero) h = refl
differ_other (suc (suc x)) h = absurd (omega arith)

-- A number and its complement.
xor_complement : (k a : ℕ) → a < 2 ^ k → bit_xor a (2 ^ k - 1 - a) ≡ 2 ^ k - 1
xor_complement zero zero h = refl
xor_complement zero (suc a) h = absurd (omega arith)
xor_complement (suc k) a h =
    let b = 2 ^ suc k - 1 - a in
    let p = pow-suc 2 k in
    let half : b / 2 ≡ 2 ^ k - 1 - a / 2 = omega (arith, p) in
    let digit : b % 2 ≡ 1 - a % 2 = omega (arith, p) in
    let high : bit_xor (a / 2) (b / 2) ≡ 2 ^ k - 1 = ap (bit_xor (a / 2)) half ∙ xor_complement k (a / 2) (omega (arith, p)) in
    let odd : differ (a % 2) (b % 2) ≡ 1 = ap (differ (a % 2)) digit ∙ differ_other (a % 2) (omega arith) in
    xor_step a b ∙ ap₂ (λ (x y : ℕ). x * 2 + y) high odd ∙ omega (arith, p, pow_pos k)

-- After a remainder its complement leaves what all ones leave.
residual : (poly k c : ℕ) → c < 2 ^ k → crc_bits poly k c (2 ^ k - 1 - c) ≡ crc_bits poly k (2 ^ k - 1) 0
residual poly k c h = bits_in poly k c (2 ^ k - 1 - c) (omega arith) ∙ ap (λ (x : ℕ). crc_bits poly k x 0) (xor_complement k c h)

-- A polynomial that ends in + 1: turned round, its highest bit is set.
module _ (poly k : ℕ) (most : poly < 2 ^ suc k) (least : 2 ^ k ≤ poly) where
  -- Only from 0 does a bit of 0 leave 0.
  bit_from_0 : (c : ℕ) → c < 2 ^ suc k → crc_bit poly c 0 ≡ 0 → c ≡ 0
  bit_from_0 c h e = go (c % 2) refl e
    where
      go : (d : ℕ) → c % 2 ≡ d → cond (eqb (differ d 0) 1) (bit_xor (c / 2) poly) (c / 2) ≡ 0 → c ≡ 0
      go zero f q = omega arith
      go (suc zero) f q = absurd (omega (arith, pow-suc 2 k, xor_equal (c / 2) poly q))
      go (suc (suc d)) f q = absurd (omega arith)

  -- So with n bits.
  bits_from_0 : (n c : ℕ) → c < 2 ^ suc k → crc_bits poly n c 0 ≡ 0 → c ≡ 0
  unfolding crc_bits
  bits_from_0 zero c h e = e
  bits_from_0 (suc n) c h e = bit_from_0 c h (bits_from_0 n (crc_bit poly c 0) (bit_lt poly (suc k) c 0 most h) e)

  -- Two fields of a remainder's width that leave the same after it are the same.
  one_field : (c x y : ℕ) → x < 2 ^ suc k → y < 2 ^ suc k → crc_bits poly (suc k) c x ≡ crc_bits poly (suc k) c y → x ≡ y
  one_field c x y hx hy e =
      let d = bit_xor x y in
      let small = xor_lt (suc k) x y hx hy in
      xor_equal x y
      (bits_from_0 (suc k) d small
      (sym (bits_in poly (suc k) 0 d small) ∙ ap (λ (z : ℕ). crc_bits poly (suc k) z d) (sym (xor_self c)) ∙ bits_linear poly (suc k) c c x y
      ∙ ap (bit_xor (crc_bits poly (suc k) c x)) (sym e) ∙ xor_self (crc_bits poly (suc k) c x)))

-- ---- tokens

-- Eleven bits, then five.
eleven_five : (v c : ℕ) → v ≤ 2047 → crc_bits poly5 16 31 (v + 2048 * c) ≡ crc_bits poly5 5 (crc_bits poly5 11 31 v) c
eleven_five v c h = bits_add poly5 11 5 31 v c (omega arith)

pub residual_token : (v : ℕ) → v ≤ 2047 → Residual5 (checked v)
unfolding crc5_of crc_bits turned
residual_token v h = eleven_five v (crc5_of v) h ∙ residual poly5 5 (crc_bits poly5 11 31 v) (bits_lt poly5 5 11 31 v (lit< tt) (lit< tt))

-- Two bytes that leave the residual end in their CRC5.
pub token_checked : (w : ℕ) → w < 65536 → Residual5 w → w ≡ checked (w % 2048)
unfolding crc5_of
token_checked w h e =
    let v = w % 2048 in
    let split : v + 2048 * (w / 2048) ≡ w = omega arith in
    sym split
    ∙ ap (λ (c : ℕ). v + 2048 * c)
    (one_field poly5 4 (lit< tt) (lit< tt) (crc_bits poly5 11 31 v) (w / 2048) (crc5_of v) (omega arith) (omega arith)
    (sym (eleven_five v (w / 2048) (omega arith)) ∙ ap (crc_bits poly5 16 31) split ∙ e ∙ sym (residual_token v (omega arith)) ∙ eleven_five v (crc5_of v) (omega arith)))

-- ---- data

remainder_lt : (c : ℕ) (l : List ℕ) → c < 2 ^ 16 → remainder16 c l < 2 ^ 16
unfolding remainder16
remainder_lt c [] h = h
remainder_lt c (x ∷ l) h = remainder_lt (crc_bits poly16 8 c x) l (bits_lt poly16 16 8 c x (lit< tt) h)

remainder_append : (c : ℕ) (a b : List ℕ) → remainder16 c (a ++ b) ≡ remainder16 (remainder16 c a) b
unfolding remainder16
remainder_append c [] b = refl
remainder_append c (x ∷ a) b = remainder_append (crc_bits poly16 8 c x) a b

-- A word after data, as sixteen bits.
remainder_word : (c : ℕ) (d : List ℕ) (w : ℕ) → remainder16 c (d ++ low w) ≡ crc_bits poly16 16 (remainder16 c d) w
unfolding remainder16
remainder_word c d w =
    let whole : w % 256 + 256 * (w / 256) ≡ w = omega arith in
    remainder_append c d (low w) ∙ sym (bits_add poly16 8 8 (remainder16 c d) (w % 256) (w / 256) (omega arith)) ∙ ap (crc_bits poly16 16 (remainder16 c d)) whole

pub residual_data : (d : List ℕ) → Residual16 (d ++ low (crc16_of d))
unfolding crc16_of crc_bits turned
residual_data d = remainder_word 0xFFFF d (crc16_of d) ∙ residual poly16 16 (remainder16 0xFFFF d) (remainder_lt 0xFFFF d (lit< tt))

-- A word that leaves the residual after data is the CRC16 of it.
pub data_checked : (d : List ℕ) (w : ℕ) → w < 65536 → Residual16 (d ++ low w) → w ≡ crc16_of d
unfolding crc16_of
data_checked d w h e =
    one_field poly16 15 (lit< tt) (lit< tt) (remainder16 0xFFFF d) w (crc16_of d) h (omega arith)
    (sym (remainder_word 0xFFFF d w) ∙ e ∙ sym (residual_data d) ∙ remainder_word 0xFFFF d (crc16_of d))
