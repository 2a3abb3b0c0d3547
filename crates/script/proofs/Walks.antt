-- Laws of a text's parts and of texts that are the same. Assumes nothing.
use mathlib.Core.Path.{◌≡◌, refl, sym, ap, ◌∙◌}
use mathlib.Core.Bool.{Bool, true, false, cond, not, ◌&&◌}
use mathlib.Core.List.{List, [], ◌∷◌}
use Prim.Native.Nat.{ℕ, zero, suc, ◌+◌}
use native.Mathlib.Omega.{arith}
use lib.Dec.{eqb}
use lib.ListN.{length, get_or, take, drop}
use Rattle.std.proofs.Common.{nat_eq}
use Rattle.std.specs.Prelude.{position, unwrap_or, slice_get, count_by}
use Rattle.std.proofs.lemmas.List.Sums.{prefix_len-le-length, sum_by-cons}
use Rattle.std.proofs.Math.Bool.{and-false}
use Rattle.std.proofs.lemmas.Bool.Decides.{nat_tests}
use Rattle.std.specs.List.{position_or_len, slice_split, onto_first, starts_with}
use Rattle.std.specs.Cmp.Lexicographic.{pointwise}
use Rattle.script.specs.Parts.{up_to, past, part_of, parts_of, same_text}
use Rattle.script.specs.Bytes.{is_seq}

-- What stands before the first separator, and after it.
pub before : (sep : ℕ) (text : List ℕ) → take (position_or_len (λ b. nat_eq b sep) text) text ≡ up_to sep text
unfolding up_to
before sep [] = refl
before sep (b ∷ bs) = go (eqb b sep) (before sep bs)
  where
    go : (t : Bool) → take (position_or_len (λ b. nat_eq b sep) bs) bs ≡ up_to sep bs → take (cond (not t) (1 + position_or_len (λ b. nat_eq b sep) bs) 0) (b ∷ bs) ≡ cond t [] (b ∷ up_to sep bs)
    go true p = refl
    go false p =
        let e : 1 + position_or_len (λ b. nat_eq b sep) bs ≡ suc (position_or_len (λ b. nat_eq b sep) bs) = omega arith in
        ap (λ n. take n (b ∷ bs)) e ∙ ap (λ l. b ∷ l) p

pub after : (sep : ℕ) (text : List ℕ) → drop (position_or_len (λ b. nat_eq b sep) text + 1) text ≡ past sep text
unfolding past
after sep [] = refl
after sep (b ∷ bs) = go (eqb b sep) (after sep bs)
  where
    go : (t : Bool) → drop (position_or_len (λ b. nat_eq b sep) bs + 1) bs ≡ past sep bs → drop (cond (not t) (1 + position_or_len (λ b. nat_eq b sep) bs) 0 + 1) (b ∷ bs) ≡ cond t bs (past sep bs)
    go true p = refl
    go false p =
        let e : 1 + position_or_len (λ b. nat_eq b sep) bs + 1 ≡ suc (position_or_len (λ b. nat_eq b sep) bs + 1) = omega arith in
        ap (λ n. drop n (b ∷ bs)) e ∙ p

pub within : (p : ℕ → Bool) (text : List ℕ) → unwrap_or (position p text) (length text) ≡ position_or_len p text
within p text = grind (arith, nat_tests, prefix_len-le-length (λ x. not (p x)) text)

-- One more than std counts of separators.
pub counted_parts : (sep : ℕ) (text : List ℕ) → 1 + count_by (λ b. nat_eq b sep) text ≡ parts_of sep text
unfolding parts_of
counted_parts sep [] = refl
counted_parts sep (b ∷ bs) = omega (arith, sum_by-cons (λ x. cond (nat_eq x sep) 1 0) b bs, counted_parts sep bs)

-- Texts are the same where each byte is.
pub same_pointwise : (a b : List ℕ) → same_text a b ≡ pointwise nat_eq a b
unfolding same_text
same_pointwise [] [] = refl
same_pointwise [] (y ∷ b) = refl
same_pointwise (x ∷ a) [] = refl
same_pointwise (x ∷ a) (y ∷ b) = ap (λ t. eqb x y && t) (same_pointwise a b)

-- The parts are those at which std splits a text.
part_none : (sep k : ℕ) → part_of sep [] k ≡ []
unfolding part_of up_to past
part_none sep zero = refl
part_none sep (suc k) = part_none sep k

onto_front : (b : ℕ) (q : List (List ℕ)) → unwrap_or (slice_get (onto_first b q) 0) [] ≡ b ∷ unwrap_or (slice_get q 0) []
onto_front b [] = refl
onto_front b (p ∷ ps) = refl

onto_later : (b k : ℕ) (q : List (List ℕ)) → slice_get (onto_first b q) (suc k) ≡ slice_get q (suc k)
onto_later b k [] = refl
onto_later b k (p ∷ ps) = refl

pub split_part : (sep : ℕ) (text : List ℕ) (k : ℕ) → unwrap_or (slice_get (slice_split (λ b. nat_eq b sep) text) k) [] ≡ part_of sep text k
unfolding part_of up_to past
split_part sep [] zero = refl
split_part sep [] (suc k) = sym (part_none sep k)
split_part sep (b ∷ bs) zero = go (eqb b sep) (split_part sep bs 0)
  where
    go : (t : Bool) → unwrap_or (slice_get (slice_split (λ b. nat_eq b sep) bs) 0) [] ≡ up_to sep bs
        → unwrap_or (slice_get (cond t ([] ∷ slice_split (λ b. nat_eq b sep) bs) (onto_first b (slice_split (λ b. nat_eq b sep) bs))) 0) [] ≡ cond t [] (b ∷ up_to sep bs)
    go true p = refl
    go false p = onto_front b (slice_split (λ b. nat_eq b sep) bs) ∙ ap (λ l. b ∷ l) p
split_part sep (b ∷ bs) (suc k) = go (eqb b sep) (split_part sep bs k) (split_part sep bs (suc k))
  where
    go : (t : Bool) → unwrap_or (slice_get (slice_split (λ b. nat_eq b sep) bs) k) [] ≡ part_of sep bs k
        → unwrap_or (slice_get (slice_split (λ b. nat_eq b sep) bs) (suc k)) [] ≡ part_of sep (past sep bs) k
        → unwrap_or (slice_get (cond t ([] ∷ slice_split (λ b. nat_eq b sep) bs) (onto_first b (slice_split (λ b. nat_eq b sep) bs))) (suc k)) [] ≡ part_of sep (cond t bs (past sep bs)) k
    go true p q = p
    go false p q = ap (λ o. unwrap_or o []) (onto_later b k (slice_split (λ b. nat_eq b sep) bs)) ∙ q

-- Whether the bytes of p stand in a text from byte i on.
abbrev pub reads : List ℕ → ℕ → List ℕ → Bool
reads text i [] = true
reads text i (c ∷ p) = eqb (get_or text i 0) c && reads text (suc i) p

reads_tail : (x : ℕ) (text p : List ℕ) (i : ℕ) → reads (x ∷ text) (suc i) p ≡ reads text i p
reads_tail x text [] i = refl
reads_tail x text (c ∷ p) i = ap (λ t. eqb (get_or text i 0) c && t) (reads_tail x text p (suc i))

-- Texts are the same where their lengths are and each byte is.
pub same_reads : (text p : List ℕ) → same_text text p ≡ (eqb (length text) (length p) && reads text 0 p)
unfolding same_text
same_reads [] [] = refl
same_reads [] (y ∷ p) = grind (arith, nat_tests)
same_reads (x ∷ text) [] = grind (arith, nat_tests)
same_reads (x ∷ text) (y ∷ p) = grind (arith, nat_tests, reads_tail x text p 0, same_reads text p)

-- What a `match` on a text's words needs.
pub ruleset words = (nat_tests, same_reads, and-false)

-- The form `seq:LEN:START:STEP` shows in the first four bytes.
pub seq_begins : (text : List ℕ) → (starts_with nat_eq text (115 ∷ 101 ∷ 113 ∷ 58 ∷ []) && eqb (parts_of 58 text) 4) ≡ is_seq text
unfolding parts_of part_of up_to same_text
seq_begins [] = refl
seq_begins (a ∷ []) = grind (arith, nat_tests)
seq_begins (a ∷ b ∷ []) = grind (arith, nat_tests)
seq_begins (a ∷ b ∷ c ∷ []) = grind (arith, nat_tests)
seq_begins (a ∷ b ∷ c ∷ d ∷ text) = grind (arith, nat_tests)
