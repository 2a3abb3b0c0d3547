-- The lengths of the packets, one after another: a full packet while another follows, then what is left. Assumes nothing.
use Rattle.std.specs.Prelude.{None}
use mathlib.Core.Path.{◌≡◌, refl, sym, ap, ap₂, ◌∙◌, subst}
use mathlib.Core.Bool.{Bool, true, false, cond}
use mathlib.Core.List.{List, [], ◌∷◌, ◌++◌}
use Prim.Native.Nat.{ℕ, zero, suc, ◌-◌, ◌/◌, ◌%◌, ◌≤◌, ◌<◌}
use native.Mathlib.Nat.{mod-eq-sub-mod, div-eq-sub-div, mod_self, mod-eq_of_lt, div-eq_of_lt, div_self, zero-mod, sub_self}
use native.Mathlib.Numerals.{add-one}
use native.Mathlib.Omega.{arith}
use lib.ListN.{replicate}
use lib.Dec.{eqb, ltb, leb}
use borrow.Author.Tests.{ltb-true, ltb-false, leb-true, leb-false, lt-ltb, le-ltb, ne_eqb}
use Rattle.pool.proofs.Cases.{by_cases}
use Rattle.cutting.specs.declared.transfer_type.TransferType.{TransferType}
use Rattle.cutting.specs.declared.transfer_type.TransferType.TheVariants.{FixedSize, VariableSize}
use Rattle.cutting.specs.Cut.{ending, lengths, none}
use Rattle.cutting.specs.Counters.{sends, zlp_of, next_of, owed_after}

-- Whether another packet follows one that is cut with n bytes left.
abbrev pub more : TransferType → ℕ → ℕ → Bool
more FixedSize p n = ltb p n
more VariableSize p n = leb p n

pub more_le : (t : TransferType) (p n : ℕ) → more t p n ≡ true → p ≤ n
more_le FixedSize p n e = let h : p < n = ltb-true p n e in omega arith
more_le VariableSize p n e = leb-true p n e

pub less_le : (t : TransferType) (p n : ℕ) → more t p n ≡ false → n ≤ p
less_le FixedSize p n e = ltb-false p n e
less_le VariableSize p n e = let h : n < p = leb-false p n e in omega arith

not_zero : (n : ℕ) → 0 < n → eqb n 0 ≡ false
not_zero n h = ne_eqb n 0 (λ (q : n ≡ 0). omega arith)

-- ---- the lengths

same_ending : (t : TransferType) (p n : ℕ) → 0 < p → more t p n ≡ true → ending t n (n % p) ≡ ending t (n - p) (n % p)
same_ending FixedSize p n h e =
    let k : p < n = ltb-true p n e in
    rw (not_zero n (omega arith), not_zero (n - p) (omega arith))
same_ending VariableSize p n h e =
    let k : p ≤ n = leb-true p n e in
    rw (not_zero n (omega arith)) (by (eqb (n % p) 0) (eqb (n - p) 0))
  where
    by : (a b : Bool) → cond a (0 ∷ []) (n % p ∷ []) ≡ cond a (cond b (0 ∷ []) (0 ∷ [])) (n % p ∷ [])
    by true true = refl
    by true false = refl
    by false b = refl

pub lengths_more : (t : TransferType) (p n : ℕ) → 0 < p → more t p n ≡ true → lengths t p n ≡ p ∷ lengths t p (n - p)
unfolding lengths
lengths_more t p n h e =
    let k : p ≤ n = more_le t p n e in
    ap₂ {C = List ℕ} (λ (q : ℕ) (r : List ℕ). replicate q p ++ r) (div-eq-sub-div h k ∙ add-one ((n - p) / p)) (same_ending t p n h e ∙ ap (ending t (n - p)) (mod-eq-sub-mod k))

lengths_short : (t : TransferType) (p n : ℕ) → n < p → lengths t p n ≡ n ∷ []
unfolding lengths
lengths_short t p zero h = rw (div-eq_of_lt h, mod-eq_of_lt h)
lengths_short t p (suc n) h = rw (div-eq_of_lt h, mod-eq_of_lt h, not_zero (suc n) (omega arith))

lengths_full : (p : ℕ) → 0 < p → lengths FixedSize p p ≡ p ∷ []
unfolding lengths
lengths_full p h = rw (div_self h, mod_self p, not_zero p h)

pub lengths_last : (t : TransferType) (p n : ℕ) → 0 < p → more t p n ≡ false → lengths t p n ≡ n ∷ []
lengths_last VariableSize p n h e = lengths_short VariableSize p n (leb-false p n e)
lengths_last FixedSize p n h e = by_cases (ltb n p)
    (λ (q : ltb n p ≡ true). lengths_short FixedSize p n (ltb-true n p q))
    (λ (q : ltb n p ≡ false).
    let a : p ≤ n = ltb-false n p q in
    let b : n ≤ p = ltb-false p n e in
    let u : n ≡ p = omega arith in
    subst (λ (k : ℕ). lengths FixedSize p k ≡ k ∷ []) (sym u) (lengths_full p h))

-- There is always a packet.
pub lengths_some : (t : TransferType) (p n : ℕ) → 0 < p → none (lengths t p n) ≡ false
lengths_some t p n h = by_cases (more t p n) (λ (q : more t p n ≡ true). rw (lengths_more t p n h q)) (λ (q : more t p n ≡ false). rw (lengths_last t p n h q))

-- ---- the counters

module _ (p : ℕ) (h : 0 < p) (k : p ≤ 64) where
  -- Another packet follows: this one is full and unmarked.
  pub next_more : (t : TransferType) (r : ℕ) → more t p r ≡ true → next_of r p (zlp_of t p r) ≡ sends p false
  next_more FixedSize r e =
      let u : p < r = ltb-true p r e in
      rw (not_zero p h, le-ltb 64 p k, not_zero r (omega arith), le-ltb r p (omega arith), e)
  next_more VariableSize r e =
      let u : p ≤ r = leb-true p r e in
      rw (not_zero p h, le-ltb 64 p k, not_zero r (omega arith), le-ltb r p u)
      (by_cases (ltb p r) (λ (q : ltb p r ≡ true). rw q)
      (λ (q : ltb p r ≡ false).
      let v : r ≡ p = let w : r ≤ p = ltb-false p r q in omega arith in
      rw q (rw v (rw mod_self))))

  pub owed_more : (t : TransferType) (r : ℕ) → more t p r ≡ true → owed_after r (zlp_of t p r) ≡ zlp_of t p (r - p)
  owed_more FixedSize r e =
      let u : p < r = ltb-true p r e in
      rw (not_zero r (omega arith), not_zero (r - p) (omega arith))
  owed_more VariableSize r e =
      let u : p ≤ r = leb-true p r e in
      rw (not_zero r (omega arith)) (ap (λ (n : ℕ). eqb n 0) (mod-eq-sub-mod u))

  -- No other follows: this one has the rest and is marked.
  pub next_last : (t : TransferType) (r : ℕ) → more t p r ≡ false → next_of r p (zlp_of t p r) ≡ sends r true
  next_last FixedSize zero e = rw (not_zero p h, le-ltb 64 p k)
  next_last VariableSize zero e = rw (not_zero p h, le-ltb 64 p k, zero-mod)
  next_last FixedSize (suc r) e =
      rw (not_zero p h, le-ltb 64 p k, not_zero (suc r) (omega arith))
      (by_cases (ltb (suc r) p) (λ (q : ltb (suc r) p ≡ true). rw q)
      (λ (q : ltb (suc r) p ≡ false).
      let v : p ≡ suc r = let a : p ≤ suc r = ltb-false (suc r) p q in let b : suc r ≤ p = ltb-false p (suc r) e in omega arith in
      rw (q, e) (ap (λ (n : ℕ). sends n true) v)))
  next_last VariableSize (suc r) e =
      let u : suc r < p = leb-false p (suc r) e in
      rw (not_zero p h, le-ltb 64 p k, not_zero (suc r) (omega arith), lt-ltb (suc r) p u)

  -- After it there is none.
  pub next_after : (t : TransferType) (r : ℕ) → more t p r ≡ false → next_of (r - r) p (owed_after r (zlp_of t p r)) ≡ None
  next_after t zero e = rw (not_zero p h, le-ltb 64 p k)
  next_after FixedSize (suc r) e = rw (not_zero p h, le-ltb 64 p k, sub_self, not_zero (suc r) (omega arith))
  next_after VariableSize (suc r) e =
      let u : suc r < p = leb-false p (suc r) e in
      rw (not_zero p h, le-ltb 64 p k, sub_self, mod-eq_of_lt u, not_zero (suc r) (omega arith))
