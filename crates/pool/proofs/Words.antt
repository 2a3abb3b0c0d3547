-- What the machine's operations on words do to the members of a set. Assumes nothing.
use Prim.Native.Nat.{ℕ, zero, suc, ◌+◌, ◌*◌, ◌-◌, ◌/◌, ◌%◌, ◌^◌, ◌<◌, min, max}
use mathlib.Core.Path.{◌≡◌, refl, ap, ap₂, sym, ◌∙◌}
use mathlib.Core.Bool.{Bool, true, false, cond, not, ◌&&◌, ◌||◌, true≢false}
use native.Mathlib.Nat.{pow-suc, one-mul}
use native.Mathlib.Omega.{arith}
use borrow.Author.Tests.{eqb-true, ne_eqb, eq-eqb}
use lib.Bits.{bit_and, bit_or, and_shr, and_step, or_shr, or_step, or_lt, and_lt}
use lib.Count.{count_trailing_zeros, under}
use lib.Dec.{eqb, eqb-zero-suc, eqb-suc-zero, eqb-suc-suc, lit<}
use lib.Pow.{pow-lt, shl_exact}
use Rattle.pool.specs.Set.{has, insert, remove, first_where, lowest_out}
use Rattle.pool.proofs.Sets.{digit, digit_bit, digit_zero, has_suc, has_none, set_of_is, same_members, first_same}

-- ---- members

-- An operation that works bit by bit, g on the numbers and h on the tests.
bitwise : (g : ℕ → ℕ → ℕ) (h : Bool → Bool → Bool) → ((a b : Bool) → g (cond a 1 0) (cond b 1 0) ≡ cond (h a b) 1 0)
    → (w q s t n : ℕ) → w / 2 ^ n ≡ q * 2 + g (s / 2 ^ n % 2) (t / 2 ^ n % 2) → has w n ≡ h (has s n) (has t n)
unfolding has
bitwise g h e w q s t n d =
    let m = ap₂ g (digit (s / 2 ^ n % 2) (omega arith)) (digit (t / 2 ^ n % 2) (omega arith)) ∙ e (has s n) (has t n) in
    digit_bit (h (has s n) (has t n)) q (w / 2 ^ n) (omega arith)

max_or : (a b : Bool) → max (cond a 1 0) (cond b 1 0) ≡ cond (a || b) 1 0
max_or true true = refl
max_or true false = refl
max_or false true = refl
max_or false false = refl

min_and : (a b : Bool) → min (cond a 1 0) (cond b 1 0) ≡ cond (a && b) 1 0
min_and true true = refl
min_and true false = refl
min_and false true = refl
min_and false false = refl

has_or : (s t n : ℕ) → has (bit_or s t) n ≡ (has s n || has t n)
has_or s t n =
    bitwise max ◌||◌ max_or (bit_or s t) (bit_or (s / 2 ^ n / 2) (t / 2 ^ n / 2)) s t n
    (or_shr s t n ∙ or_step (s / 2 ^ n) (t / 2 ^ n))

has_and : (s t n : ℕ) → has (bit_and s t) n ≡ (has s n && has t n)
has_and s t n =
    bitwise min ◌&&◌ min_and (bit_and s t) (bit_and (s / 2 ^ n / 2) (t / 2 ^ n / 2)) s t n
    (and_shr s t n ∙ and_step (s / 2 ^ n) (t / 2 ^ n))

has_pow : (n k : ℕ) → has (2 ^ n) k ≡ eqb k n
unfolding has
has_pow zero zero = refl
has_pow zero (suc k) = has_suc 1 k ∙ has_none k ∙ sym (eqb-suc-zero k)
has_pow (suc n) zero = digit_bit false (2 ^ n) (2 ^ suc n / 1) (omega (arith, pow-suc 2 n)) ∙ sym (eqb-zero-suc n)
has_pow (suc n) (suc k) =
    let half : 2 ^ suc n / 2 ≡ 2 ^ n = omega (arith, pow-suc 2 n) in
    has_suc (2 ^ suc n) k ∙ ap (λ (x : ℕ). has x k) half ∙ has_pow n k ∙ sym (eqb-suc-suc k n)

not_digit : (b : Bool) → cond (not b) 1 0 + cond b 1 0 ≡ 1
not_digit true = refl
not_digit false = refl

has_not : (w s n : ℕ) → s < 2 ^ w → n < w → has (2 ^ w - 1 - s) n ≡ not (has s n)
unfolding has
has_not zero s n h l = absurd (omega arith)
has_not (suc w) s zero h l =
    digit_bit (not (has s 0)) (2 ^ w - 1 - s / 2) ((2 ^ suc w - 1 - s) / 1)
    (omega (arith, pow-suc 2 w, digit_zero s, not_digit (has s 0)))
has_not (suc w) s (suc n) h l =
    let half : (2 ^ suc w - 1 - s) / 2 ≡ 2 ^ w - 1 - s / 2 = omega (arith, pow-suc 2 w) in
    has_suc (2 ^ suc w - 1 - s) n ∙ ap (λ (x : ℕ). has x n) half
    ∙ has_not w (s / 2) n (omega (arith, pow-suc 2 w)) (omega arith) ∙ ap not (sym (has_suc s n))

-- ---- a number more, a number less

pub shifted : (n : ℕ) → n < 32 → (1 * 2 ^ n) % 2 ^ 32 ≡ 2 ^ n
shifted n h = shl_exact 1 n 32 (lit< tt) (omega arith) ∙ one-mul (2 ^ n)

pub or_insert : (s n : ℕ) → s < 2 ^ 32 → n < 32 → bit_or s (2 ^ n) ≡ insert s n
unfolding insert
or_insert s n h l =
    sym (set_of_is (bit_or s (2 ^ n)) (λ k. has s k || eqb k n) (or_lt 32 s (2 ^ n) h (pow-lt l))
    (λ k q. has_or s (2 ^ n) k ∙ ap (λ b. has s k || b) (has_pow n k)))

pub and_remove : (s n : ℕ) → s < 2 ^ 32 → n < 32 → bit_and s (2 ^ 32 - 1 - 2 ^ n) ≡ remove s n
unfolding remove
and_remove s n h l =
    sym (set_of_is (bit_and s (2 ^ 32 - 1 - 2 ^ n)) (λ k. has s k && not (eqb k n))
    (and_lt 32 s (2 ^ 32 - 1 - 2 ^ n) h (omega arith))
    (λ k q. has_and s (2 ^ 32 - 1 - 2 ^ n) k
    ∙ ap (λ b. has s k && b) (has_not 32 (2 ^ n) k (pow-lt l) q ∙ ap not (has_pow n k))))

not_both : (b t : Bool) → (t ≡ true → b ≡ false) → (b && t) ≡ false
not_both true true h = h refl
not_both true false h = refl
not_both false t h = refl

pub and_has : (s n : ℕ) → s < 2 ^ 32 → n < 32 → not (eqb (bit_and s (2 ^ n)) 0) ≡ has s n
and_has s n h l = go (has s n) refl
  where
    go : (b : Bool) → has s n ≡ b → not (eqb (bit_and s (2 ^ n)) 0) ≡ b
    go true e =
        ap not (ne_eqb (bit_and s (2 ^ n)) 0
        (λ q. true≢false (sym (has_and s (2 ^ n) n ∙ ap₂ ◌&&◌ e (has_pow n n ∙ eq-eqb n n refl))
        ∙ ap (λ (x : ℕ). has x n) q ∙ has_none n)))
    go false e =
        ap not (eq-eqb (bit_and s (2 ^ n)) 0
        (same_members 32 (bit_and s (2 ^ n)) 0 (and_lt 32 s (2 ^ n) h (pow-lt l)) (omega arith)
        (λ k q. has_and s (2 ^ n) k
        ∙ not_both (has s k) (has (2 ^ n) k) (λ t. ap (has s) (eqb-true k n (sym (has_pow n k) ∙ t)) ∙ e) ∙ sym (has_none k))))

-- ---- the lowest number

cond_suc : (b : Bool) (x y : ℕ) → cond b (suc x) (suc y) ≡ suc (cond b x y)
cond_suc true x y = refl
cond_suc false x y = refl

first_suc : (n k : ℕ) (f : ℕ → Bool) → first_where n (suc k) f ≡ suc (first_where n k (λ i. f (suc i)))
unfolding first_where
first_suc zero k f = refl
first_suc (suc n) k f =
    ap (cond (f (suc k)) (suc k)) (first_suc n (suc k) f) ∙ cond_suc (f (suc k)) k (first_where n (suc k) (λ i. f (suc i)))

under_is : (d t : ℕ) → d < 2 → under d t ≡ cond (eqb d 1) 0 (suc t)
under_is zero t h = refl
under_is (suc zero) t h = refl
under_is (suc (suc d)) t h = absurd (omega arith)

trailing_is : (k s : ℕ) → count_trailing_zeros k s ≡ first_where k 0 (has s)
unfolding count_trailing_zeros first_where has
trailing_is zero s = refl
trailing_is (suc k) s =
    let bit : s % 2 ≡ s / 1 % 2 = omega arith in
    let rest = first_suc k 0 (has s) ∙ ap suc (first_same k 0 (λ i. has s (suc i)) (has (s / 2)) (λ i l. has_suc s i)) in
    ap₂ under bit (trailing_is k (s / 2)) ∙ under_is (s / 1 % 2) (first_where k 0 (has (s / 2))) (omega arith)
    ∙ ap (cond (has s 0) 0) (sym rest)

pub trailing_not : (s : ℕ) → s < 2 ^ 32 → count_trailing_zeros 32 (2 ^ 32 - 1 - s) ≡ lowest_out s
unfolding lowest_out
trailing_not s h =
    trailing_is 32 (2 ^ 32 - 1 - s) ∙ first_same 32 0 (has (2 ^ 32 - 1 - s)) (λ k. not (has s k)) (λ i l. has_not 32 s i h l)
