-- Laws of sets: who is a member after each operation, and what the lowest number of a kind is. Assumes nothing.
use Rattle.std.specs.Prelude.{None, Some}
use Prim.Native.Nat.{ℕ, zero, suc, ◌+◌, ◌*◌, ◌/◌, ◌%◌, ◌^◌, ◌<◌, ◌≤◌}
use mathlib.Core.Path.{◌≡◌, refl, ap, ap₂, sym, ◌∙◌}
use mathlib.Core.Bool.{Bool, true, false, cond, not, ◌&&◌, ◌||◌, or-false, true≢false}
use native.Mathlib.Nat.{pow-suc}
use native.Mathlib.Omega.{arith}
use lib.Dec.{eqb, ltb, leb-suc-zero, leb-suc-suc}
use lib.Pow.{shr-shr}
use borrow.Author.Tests.{ltb-true, ltb-false, lt-ltb, le-ltb, eqb-true, eqb-false, eq-eqb, ne_eqb, not-true, not-false}
use Rattle.pool.specs.Set.{has, set_of, insert, remove, first_where, lowest_out, option_of}

-- ---- members, bit by bit

-- The members of s from m on, counted from m.
pub has_shr : (s m n : ℕ) → has (s / 2 ^ m) n ≡ has s (m + n)
unfolding has
has_shr s m n = ap (λ (x : ℕ). eqb (x % 2) 1) (shr-shr s m n)

pub has_suc : (s n : ℕ) → has s (suc n) ≡ has (s / 2) n
has_suc s n = ap (has s) (omega arith) ∙ sym (has_shr s 1 n)

pub has_none : (n : ℕ) → has 0 n ≡ false
unfolding has
has_none zero = refl
has_none (suc n) = has_suc 0 n ∙ has_none n

-- A set of the numbers below k has no member from k on.
pub has_past : (k s n : ℕ) → s < 2 ^ k → k ≤ n → has s n ≡ false
has_past zero s n h l = ap (λ (x : ℕ). has x n) (omega arith) ∙ has_none n
has_past (suc k) s zero h l = absurd (omega arith)
has_past (suc k) s (suc n) h l = has_suc s n ∙ has_past k (s / 2) n (omega (arith, pow-suc 2 k)) (omega arith)

-- A bit and the number that it is.
pub digit : (d : ℕ) → d < 2 → d ≡ cond (eqb d 1) 1 0
digit zero h = refl
digit (suc zero) h = refl
digit (suc (suc d)) h = absurd (omega arith)

pub digit_bit : (b : Bool) (x w : ℕ) → w ≡ cond b 1 0 + 2 * x → eqb (w % 2) 1 ≡ b
digit_bit true x w e = eq-eqb (w % 2) 1 (omega arith)
digit_bit false x w e = ne_eqb (w % 2) 1 (λ q. omega arith)

digit_half : (b : Bool) (x : ℕ) → (cond b 1 0 + 2 * x) / 2 ≡ x
digit_half true x = omega arith
digit_half false x = omega arith

pub digit_zero : (s : ℕ) → s / 1 % 2 ≡ cond (has s 0) 1 0
unfolding has
digit_zero s = digit (s / 1 % 2) (omega arith)

-- ---- the set of the numbers at which a test holds

pub has_set_of : (k : ℕ) (f : ℕ → Bool) (n : ℕ) → has (set_of k f) n ≡ (ltb n k && f n)
unfolding set_of has
has_set_of zero f n = has_none n ∙ rw (leb-suc-zero n)
has_set_of (suc k) f zero =
    rw (lt-ltb 0 (suc k) (omega arith)) (digit_bit (f 0) (set_of k (λ i. f (suc i))) (set_of (suc k) f / 1) (omega arith))
has_set_of (suc k) f (suc n) =
    has_suc (set_of (suc k) f) n ∙ ap (λ (x : ℕ). has x n) (digit_half (f 0) (set_of k (λ i. f (suc i))))
    ∙ has_set_of k (λ i. f (suc i)) n ∙ rw (leb-suc-suc (suc n) k)

pub set_of_lt : (k : ℕ) (f : ℕ → Bool) → set_of k f < 2 ^ k
unfolding set_of
set_of_lt zero f = omega arith
set_of_lt (suc k) f =
    omega (arith, pow-suc 2 k, set_of_lt k (λ n. f (suc n)), digit_half (f 0) (set_of k (λ n. f (suc n))))

-- Two sets of numbers below k are one where they have the same members.
pub same_members : (k s t : ℕ) → s < 2 ^ k → t < 2 ^ k → ((n : ℕ) → n < k → has s n ≡ has t n) → s ≡ t
same_members zero s t p q h = omega arith
same_members (suc k) s t p q h =
    let rest = same_members k (s / 2) (t / 2) (omega (arith, pow-suc 2 k)) (omega (arith, pow-suc 2 k))
    (λ n l. sym (has_suc s n) ∙ h (suc n) (omega arith) ∙ has_suc t n) in
    let bit = digit_zero s ∙ ap (λ b. cond b 1 0) (h 0 (omega arith)) ∙ sym (digit_zero t) in
    omega arith

-- ---- a number more, a number less

pub has_insert : (s n k : ℕ) → has (insert s n) k ≡ (ltb k 32 && (has s k || eqb k n))
unfolding insert
has_insert s n k = has_set_of 32 (λ i. has s i || eqb i n) k

pub has_remove : (s n k : ℕ) → has (remove s n) k ≡ (ltb k 32 && (has s k && not (eqb k n)))
unfolding remove
has_remove s n k = has_set_of 32 (λ i. has s i && not (eqb i n)) k

pub insert_lt : (s n : ℕ) → insert s n < 2 ^ 32
unfolding insert
insert_lt s n = set_of_lt 32 (λ i. has s i || eqb i n)

pub remove_lt : (s n : ℕ) → remove s n < 2 ^ 32
unfolding remove
remove_lt s n = set_of_lt 32 (λ i. has s i && not (eqb i n))

-- A set is the word that it is held in, where f says its members.
pub set_of_is : (s : ℕ) (f : ℕ → Bool) → s < 2 ^ 32 → ((n : ℕ) → n < 32 → has s n ≡ f n) → set_of 32 f ≡ s
set_of_is s f h e =
    same_members 32 (set_of 32 f) s (set_of_lt 32 f) h (λ n l. has_set_of 32 f n ∙ rw (lt-ltb n 32 l) (sym (e n l)))

-- A number above 31 changes nothing.
pub insert_past : (s n : ℕ) → s < 2 ^ 32 → 32 ≤ n → insert s n ≡ s
unfolding insert
insert_past s n h l =
    set_of_is s (λ k. has s k || eqb k n) h (λ k q. rw (ne_eqb k n (λ e. omega arith)) (sym (or-false (has s k))))

without : (b t : Bool) → (t ≡ true → b ≡ false) → b ≡ (b && not t)
without true true h = h refl
without true false h = refl
without false t h = refl

-- A number that is no member can be removed, and nothing changes.
pub remove_none : (s n : ℕ) → s < 2 ^ 32 → has s n ≡ false → remove s n ≡ s
unfolding remove
remove_none s n h e =
    set_of_is s (λ k. has s k && not (eqb k n)) h (λ k q. without (has s k) (eqb k n) (λ t. ap (has s) (eqb-true k n t) ∙ e))

-- ---- the lowest number at which a test holds

-- r is the lowest of the n numbers from k on at which f holds, k + n where it holds at none.
pub record First (n k : ℕ) (f : ℕ → Bool) (r : ℕ) : Type 0 where
  pub from : k ≤ r
  pub within : r ≤ k + n
  pub before : (i : ℕ) → k ≤ i → i < r → f i ≡ false
  pub here : r < k + n → f r ≡ true

-- What holds of no number above k and not of k holds of none from k on.
none_from : (f : ℕ → Bool) (k r : ℕ) → f k ≡ false → ((i : ℕ) → suc k ≤ i → i < r → f i ≡ false)
    → (i : ℕ) → k ≤ i → i < r → f i ≡ false
none_from f k r e h i p q = go (eqb i k) refl
  where
    go : (b : Bool) → eqb i k ≡ b → f i ≡ false
    go true t = ap f (eqb-true i k t) ∙ e
    go false t = h i (omega (arith, eqb-false i k t)) q

pub first : (n k : ℕ) (f : ℕ → Bool) → First n k f (first_where n k f)
unfolding first_where
first zero k f = record {
  from = omega arith;
  within = omega arith;
  before = λ i p q. absurd (omega arith);
  here = λ q. absurd (omega arith);
}
first (suc n) k f = go (f k) refl (first n (suc k) f)
  where
    go : (b : Bool) → f k ≡ b → First n (suc k) f (first_where n (suc k) f) → First (suc n) k f (cond b k (first_where n (suc k) f))
    go true e l = record { from = omega arith; within = omega arith; before = λ i p q. absurd (omega arith); here = λ q. e }
    go false e l = record {
      from = omega arith;
      within = omega arith;
      before = none_from f k (first_where n (suc k) f) e l.before;
      here = λ q. l.here (omega arith);
    }

first_le : (n k : ℕ) (f : ℕ → Bool) (q r : ℕ) → First n k f q → First n k f r → r ≤ q
first_le n k f q r a b = go (ltb q r) refl
  where
    go : (t : Bool) → ltb q r ≡ t → r ≤ q
    go true t =
        let l = ltb-true q r t in
        absurd (true≢false (sym (a.here (omega arith)) ∙ b.before q a.from l))
    go false t = ltb-false q r t

pub first_is : (n k : ℕ) (f : ℕ → Bool) (r : ℕ) → First n k f r → first_where n k f ≡ r
first_is n k f r l =
    let q = first_where n k f in
    omega (arith, first_le n k f q r (first n k f) l, first_le n k f r q l (first n k f))

-- Two tests that agree hold first at the same number.
pub first_same : (n k : ℕ) (f g : ℕ → Bool) → ((i : ℕ) → i < k + n → f i ≡ g i) → first_where n k f ≡ first_where n k g
unfolding first_where
first_same zero k f g e = refl
first_same (suc n) k f g e =
    ap₂ (λ b x. cond b k x) (e k (omega arith)) (first_same n (suc k) f g (λ i l. e i (omega arith)))

-- The lowest clear bit: it is no member, and every lower number is one.
pub lowest_out_below : (s i : ℕ) → i < lowest_out s → has s i ≡ true
unfolding lowest_out
lowest_out_below s i h = not-false _ ((first 32 0 (λ k. not (has s k))).before i (omega arith) h)

pub lowest_out_le : (s : ℕ) → lowest_out s ≤ 32
unfolding lowest_out
lowest_out_le s = (first 32 0 (λ k. not (has s k))).within

pub lowest_out_no : (s : ℕ) → lowest_out s < 32 → has s (lowest_out s) ≡ false
unfolding lowest_out
lowest_out_no s h = not-true _ ((first 32 0 (λ k. not (has s k))).here h)

pub lowest_out_is : (s r : ℕ) → r ≤ 32 → ((i : ℕ) → i < r → has s i ≡ true) → has s r ≡ false → lowest_out s ≡ r
unfolding lowest_out
lowest_out_is s r h below out =
    first_is 32 0 (λ k. not (has s k)) r
    (record { from = omega arith; within = h; before = λ i p q. ap not (below i q); here = λ q. ap not out })

-- ---- the answer

pub option_in : (n : ℕ) → n < 32 → option_of n ≡ Some n
unfolding option_of
option_in n h = rw (lt-ltb n 32 h)

pub option_out : (n : ℕ) → 32 ≤ n → option_of n ≡ None
unfolding option_of
option_out n h = rw (le-ltb n 32 h)

pub option_some : (n m : ℕ) → option_of n ≡ Some m → (n ≡ m) × (m < 32)
unfolding option_of
option_some n m = go (ltb n 32) refl
  where
    go : (b : Bool) → ltb n 32 ≡ b → cond b (Some n) None ≡ Some m → (n ≡ m) × (m < 32)
    go true t e = let same : n ≡ m = cc in (same, omega (arith, ltb-true n 32 t))
    go false t e = absurd (let z : ◌≡◌ {A = ℕ} 0 1 = cc in omega arith)

pub option_none : (n : ℕ) → option_of n ≡ None → 32 ≤ n
unfolding option_of
option_none n = go (ltb n 32) refl
  where
    go : (b : Bool) → ltb n 32 ≡ b → cond b (Some n) None ≡ None → 32 ≤ n
    go true t e = absurd (let z : ◌≡◌ {A = ℕ} 0 1 = cc in omega arith)
    go false t e = ltb-false n 32 t
