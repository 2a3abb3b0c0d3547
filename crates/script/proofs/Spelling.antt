-- Laws of digits and of the numbers that they spell. Assumes nothing.
use mathlib.Core.Path.{◌≡◌, ap, ◌∙◌}
use mathlib.Core.Bool.{true, false}
use mathlib.Core.List.{List, [], ◌∷◌}
use Prim.Native.Nat.{ℕ, suc, min, ◌+◌, ◌*◌, ◌≤◌, ◌<◌}
use native.Mathlib.Nat.{mul-le-mul_left}
use native.Mathlib.Numerals.{add-one}
use native.Mathlib.Omega.{arith}
use borrow.Author.Tests.{lt-ltb, le-ltb, le-leb, lt-leb}
use Rattle.std.specs.Char.{digit_value}
use Rattle.std.proofs.lemmas.Bool.Decides.{nat_tests}
use lib.Dec.{leb}
use lib.ListN.{length, drop, get_or, drop_of_length-le}
use lib.Seq.{drop-cons}
use Rattle.script.specs.Numbers.{digit_of, all_digits, spelled, value_of}
use Rattle.std.proofs.Math.Bool.{and-false}
use Rattle.std.specs.Prelude.{Some, None}

-- std's value of a digit is ours, where it is below 16.
pub digit_std : (b : ℕ) → digit_of b ≡ min (digit_value b) 16
unfolding digit_of
digit_std b = grind (arith, nat_tests)

-- Digits are no smaller for being followed by others.
pub spelled_least : (base n : ℕ) (ds : List ℕ) → 1 ≤ base → n ≤ spelled base n ds
unfolding spelled
spelled_least base n [] h = omega arith
spelled_least base n (d ∷ ds) h = omega (arith, mul-le-mul_left n h, spelled_least base (n * base + digit_of d) ds h)

-- The bytes so far are digits of the base: one more is, one isn't, all are.
pub digits_more : (base : ℕ) (ds : List ℕ) (i : ℕ) → i < length ds → digit_of (get_or ds i 0) < base → all_digits base ds ≡ all_digits base (drop i ds) → all_digits base ds ≡ all_digits base (drop (i + 1) ds)
unfolding all_digits
digits_more base ds i h k e = rw add-one (e ∙ rw (drop-cons ds i 0 h, lt-ltb (digit_of (get_or ds i 0)) base k))

pub digits_not : (base : ℕ) (ds : List ℕ) (i : ℕ) → i < length ds → base ≤ digit_of (get_or ds i 0) → all_digits base ds ≡ all_digits base (drop i ds) → all_digits base ds ≡ false
unfolding all_digits
digits_not base ds i h k e = e ∙ rw (drop-cons ds i 0 h, le-ltb (digit_of (get_or ds i 0)) base k)

pub digits_end : (base : ℕ) (ds : List ℕ) (i : ℕ) → length ds ≤ i → all_digits base ds ≡ all_digits base (drop i ds) → all_digits base ds ≡ true
unfolding all_digits
digits_end base ds i h e = e ∙ rw (drop_of_length-le ds h)

-- The first i digits spell n.
pub record Spelt (base most : ℕ) (ds : List ℕ) (n i : ℕ) : Type 0 where
  pub inside : i ≤ length ds
  pub small : n ≤ most
  pub good : all_digits base ds ≡ all_digits base (drop i ds)
  pub same : spelled base 0 ds ≡ spelled base n (drop i ds)

module _ (base most : ℕ) (ds : List ℕ) (n i : ℕ) (s : Spelt base most ds n i) (h : i < length ds) where
  same_next : spelled base 0 ds ≡ spelled base (n * base + digit_of (get_or ds i 0)) (drop (suc i) ds)
  unfolding spelled
  same_next = s.same ∙ ap (spelled base n) (drop-cons ds i 0 h)

  pub spelt_more : digit_of (get_or ds i 0) < base → n * base + digit_of (get_or ds i 0) ≤ most → Spelt base most ds (n * base + digit_of (get_or ds i 0)) (i + 1)
  spelt_more k m = record {
    inside = omega arith;
    small = m;
    good = digits_more base ds i h k s.good;
    same = rw add-one same_next;
  }

  pub value_bad : base ≤ digit_of (get_or ds i 0) → value_of base most ds ≡ None
  unfolding value_of
  value_bad k =
      simp (digits_not base ds i h k s.good, and-false)

  pub value_large : 1 ≤ base → most < n * base + digit_of (get_or ds i 0) → value_of base most ds ≡ None
  unfolding value_of
  value_large k m =
      let e : leb (spelled base 0 ds) most ≡ false = lt-leb (spelled base 0 ds) most (omega (arith, same_next, spelled_least base (n * base + digit_of (get_or ds i 0)) (drop (suc i) ds) k)) in
      simp (e, and-false)

pub value_whole : (base most : ℕ) (ds : List ℕ) (n i : ℕ) → Spelt base most ds n i → length ds ≤ i → (length ds ≡ 0 → ⊥) → value_of base most ds ≡ Some n
unfolding value_of spelled
value_whole base most ds n i s h k =
    let e : spelled base 0 ds ≡ n = s.same ∙ ap (spelled base n) (drop_of_length-le ds h) in
    rw (digits_end base ds i h s.good, e, lt-ltb 0 (length ds) (omega arith), le-leb n most s.small)

pub value_none : (base most : ℕ) (ds : List ℕ) → length ds ≡ 0 → value_of base most ds ≡ None
unfolding value_of
value_none base most ds e = simp (le-ltb 0 (length ds) (omega arith))
