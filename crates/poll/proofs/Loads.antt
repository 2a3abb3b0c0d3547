-- `Loads`, proved. Assumes nothing.
use mathlib.Core.Path.{◌≡◌, refl, ap, sym, subst, ◌∙◌}
use mathlib.Core.Bool.{Bool, true, false, true≢false}
use mathlib.Core.List.{List, [], ◌∷◌}
use Prim.Native.Nat.{ℕ, zero, suc, ◌+◌, ◌≤◌, ◌<◌, min}
use native.Mathlib.Omega.{arith}
use lib.Dec.{leb}
use lib.ListN.{length, drop, get_or, get_or-eq_default}
use borrow.Author.Tests.{leb-true, leb-false}
use Rattle.pool.proofs.Cases.{by_cases}
use Rattle.std.specs.Prelude.{Result, Ok, Err}
use Rattle.poll.specs.declared.refusal.Refusal.{Refusal}
use Rattle.poll.specs.declared.refusal.Refusal.TheVariants.{Format, Bounds}
use Rattle.poll.specs.Table.{capped, built_in_of}
use Rattle.poll.specs.Reply.{Reply, result, number, number_of}
use Rattle.poll.specs.File.{is_version1, all_good, bounded_table, table_in}
use Rattle.poll.specs.Loaded.{load_reply, refusal_of, answer_of, table_after}
use Rattle.poll.specs.Loads.{Version1, Bounded, Deserves, wrong_format, out_of_bounds, taken, Loads}
use Rattle.poll.proofs.Files.{version1_bytes, version1_right, good_bounded, bounded_good}

-- ---- the built-in table

capped_length : (n i : ℕ) → length (capped i n) ≡ n
unfolding capped
capped_length zero i = refl
capped_length (suc n) i = ap suc (capped_length n (suc i))

capped_at : (n i k : ℕ) → k < n → get_or (capped i n) k 0 ≡ min (i + k) 9
unfolding capped
capped_at zero i k h = absurd (omega arith)
capped_at (suc n) i zero h = omega arith
capped_at (suc n) i (suc k) h = omega (arith, capped_at n (suc i) k (omega arith))

-- ---- what a file deserves

refused_format : (f : List ℕ) → is_version1 f ≡ false → table_in f ≡ number 28
unfolding table_in
refused_format f e = rw e

of_version1 : (f t : List ℕ) → Version1 f t → table_in f ≡ bounded_table t
unfolding table_in
of_version1 f t x = rw ((version1_right f t x).0, (version1_right f t x).1)

deserves : (f : List ℕ) → Deserves f (table_in f)
unfolding bounded_table
deserves f =
    by_cases (is_version1 f)
    (λ e. let x = version1_bytes f e in
    by_cases (all_good 0 (drop 5 f))
    (λ g. taken (drop 5 f) x (good_bounded (drop 5 f) x.entries g) (of_version1 f (drop 5 f) x ∙ rw g))
    (λ g. out_of_bounds (drop 5 f) x (λ b. true≢false (sym (bounded_good (drop 5 f) x.entries b) ∙ g)) (of_version1 f (drop 5 f) x ∙ rw g)))
    (λ e. wrong_format (λ t x. true≢false (sym (version1_right f t x).0 ∙ e)) (refused_format f e))

deserves_only : (f : List ℕ) (y : Reply (List ℕ)) → Deserves f y → y ≡ table_in f
unfolding bounded_table
deserves_only f y (wrong_format none e) = e ∙ sym (refused_format f (by_cases (is_version1 f) (λ h. absurd (none (drop 5 f) (version1_bytes f h))) (λ h. h)))
deserves_only f y (out_of_bounds t x out e) =
    let bad = by_cases (all_good 0 t) (λ g. absurd (out (good_bounded t x.entries g))) (λ g. g) in
    e ∙ sym (of_version1 f t x ∙ rw bad)
deserves_only f y (taken t x b e) = e ∙ sym (of_version1 f t x ∙ rw (bounded_good t x.entries b))

-- ---- what the contract says

-- A reply that is a table.
is_result : Reply (List ℕ) → Bool
is_result (result t) = true
is_result (number n) = false

only_taken : (a : Result (Unit {0}) Refusal) (s t : List ℕ) → load_reply a s ≡ result t → a ≡ Ok tt
unfolding is_result
only_taken (Ok x) s t e = refl
only_taken (Err why) s t e = absurd (true≢false (sym (ap is_result e)))

-- The entries of a file whose table is taken.
entry_at : (f t : List ℕ) → table_in f ≡ result t → (i : ℕ) → get_or t i 0 ≡ get_or f (5 + i) 0
unfolding is_result
entry_at f t e i = go (deserves f)
  where
    refused : (n : ℕ) → table_in f ≡ number n → ⊥
    refused n r = true≢false (ap is_result (sym e ∙ r))

    go : Deserves f (table_in f) → get_or t i 0 ≡ get_or f (5 + i) 0
    go (wrong_format none r) = absurd (refused 28 r)
    go (out_of_bounds u x out r) = absurd (refused 29 r)
    go (taken u x b r) =
        let past : suc (suc (suc (suc (suc i)))) ≡ 5 + i = omega arith in
        ap (λ (y : Reply (List ℕ)). get_or (table_after [] y) i 0) (sym e ∙ r)
        ∙ ap (λ (k : ℕ). get_or (0x50 ∷ 0x49 ∷ 0x54 ∷ 1 ∷ 0 ∷ u) k 0) past ∙ ap (λ (l : List ℕ). get_or l (5 + i) 0) (sym x.bytes)

-- The answer is the reply's.
pub answer_is : (a : Result (Unit {0}) Refusal) (t : List ℕ) (y : Reply (List ℕ)) → load_reply a t ≡ y → a ≡ answer_of y
answer_is a t y e = told a ∙ ap answer_of e
  where
    told : (a : Result (Unit {0}) Refusal) → a ≡ answer_of (load_reply a t)
    told (Ok x) = refl
    told (Err Format) = refl
    told (Err Bounds) = refl

-- A number is that of its refusal.
number_in : Reply (List ℕ) → ℕ
number_in (result t) = 0
number_in (number n) = n

pub refusal_is : (f : List ℕ) (n : ℕ) → table_in f ≡ number n → number_of (refusal_of n) ≡ n
unfolding is_result number_in
refusal_is f n e = go (deserves f)
  where
    meant : (k : ℕ) → number_of (refusal_of k) ≡ k → table_in f ≡ number k → number_of (refusal_of n) ≡ n
    meant k h r = subst (λ (m : ℕ). number_of (refusal_of m) ≡ m) (ap number_in (sym r ∙ e)) h

    go : Deserves f (table_in f) → number_of (refusal_of n) ≡ n
    go (wrong_format none r) = meant 28 refl r
    go (out_of_bounds t x out r) = meant 29 refl r
    go (taken t x b r) = absurd (true≢false (ap is_result (sym r ∙ e)))

-- ---- a table that may be in place: 256 entries, each at most its index

pub record Within (t : List ℕ) : Type 0 where
  pub whole : length t ≡ 256
  pub most : (i : ℕ) → get_or t i 0 ≤ i

within_all : (t : List ℕ) → length t ≡ 256 → ((i : ℕ) → i ≤ 255 → get_or t i 0 ≤ i) → Within t
within_all t n h = record {
  whole = n;
  most = λ i. by_cases (leb i 255) (λ e. h i (leb-true i 255 e)) (λ e. (
      let far = leb-false i 255 e in
      let none = get_or-eq_default t 0 {n = i} (omega (arith, n, far)) in
      omega (arith, none)));
}

pub built_in_within : Within built_in_of
built_in_within = within_all built_in_of (capped_length 256 0) (λ i h. (
    let its = capped_at 256 0 i (omega arith) in
    omega (arith, its)))

bounded_within : (t : List ℕ) → length t ≡ 256 → Bounded t → Within t
bounded_within t n b = within_all t n at
  where
    at : (i : ℕ) → i ≤ 255 → get_or t i 0 ≤ i
    at zero h = let none = b.zeroth in omega (arith, none)
    at (suc i) h = (b.others (suc i) (omega arith) h).1

pub taken_within : (f t : List ℕ) → table_in f ≡ result t → Within t
unfolding is_result
taken_within f t e = go (deserves f)
  where
    refused : (n : ℕ) → table_in f ≡ number n → ⊥
    refused n r = true≢false (ap is_result (sym e ∙ r))

    go : Deserves f (table_in f) → Within t
    go (wrong_format none r) = absurd (refused 28 r)
    go (out_of_bounds u x out r) = absurd (refused 29 r)
    go (taken u x b r) = subst Within (ap (table_after []) (sym r ∙ e)) (bounded_within u x.entries b)

pub loads : Loads
loads = record {
  constant = capped_length 256 0;
  capped_at_9 = λ i h. capped_at 256 0 i (omega arith) ∙ omega arith;
  deserved = deserves;
  only = deserves_only;
  entry = entry_at;
  taken_meant = λ t. refl;
  format_meant = λ t. (refl, refl);
  bounds_meant = λ t. (refl, refl);
  replaced = λ old f t table r k e. (only_taken r table t (k.answer ∙ e), k.table ∙ ap (table_after old) e);
  left_alone = λ old f table n r k e. (k.answer ∙ e, k.table ∙ ap (table_after old) e);
}
