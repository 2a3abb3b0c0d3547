-- The table's rows of a cutting are its lengths, the last one with the star. Assumes nothing.
use mathlib.Core.Path.{◌≡◌, refl, sym, ap₂, subst}
use mathlib.Core.Bool.{Bool, true, false, not}
use mathlib.Core.List.{List, [], ◌∷◌, map}
use Prim.Native.Nat.{ℕ, zero, suc, ◌-◌, ◌≤◌, ◌<◌}
use native.Mathlib.Omega.{arith}
use lib.ListN.{length, drop, length-drop}
use lib.Seq.{length-take-le}
use Rattle.pool.proofs.Cases.{by_cases}
use Rattle.cutting.specs.declared.transfer_type.TransferType.{TransferType}
use Rattle.cutting.specs.Cut.{lengths, deal, none, numbered, out_cut}
use Rattle.cutting.specs.Table.{Row, row, out_row}
use Rattle.cutting.proofs.Lengths.{more, more_le, lengths_more, lengths_last}
use Rattle.cutting.proofs.Cutting.{deal_none}

-- Lengths with the star on the last.
unfoldable pub rows : List ℕ → List Row
rows [] = []
rows (n ∷ ns) = row (none ns) n ∷ rows ns

-- Lengths that fit into the bytes that are left.
abbrev Within : List ℕ → ℕ → Type 0
Within [] n = Unit {0}
Within (k ∷ ks) n = (k ≤ n) × Within ks (n - k)

dealt : (ns l : List ℕ) (s b : Bool) → Within ns (length l) → map out_row (numbered s b (deal ns l)) ≡ rows ns
unfolding rows deal numbered
dealt [] l s b w = refl
dealt (n ∷ ns) l s b w =
    ap₂ {C = List Row} ◌∷◌ (ap₂ {C = Row} row (deal_none ns (drop n l)) (length-take-le n l w.0))
    (dealt ns (drop n l) (not s) (not b) (subst (Within ns) (sym (length-drop n l)) w.1))

lengths_within : (m : ℕ) (t : TransferType) (p n : ℕ) → 0 < p → n ≤ m → Within (lengths t p n) n
lengths_within zero t p n h k = by_cases (more t p n)
    (λ (q : more t p n ≡ true). let u : p ≤ n = more_le t p n q in absurd (omega arith))
    (λ (q : more t p n ≡ false). rw (lengths_last t p n h q) (omega arith, tt))
lengths_within (suc m) t p n h k = by_cases (more t p n)
    (λ (q : more t p n ≡ true). let u : p ≤ n = more_le t p n q in rw (lengths_more t p n h q) (u, lengths_within m t p (n - p) h (omega arith)))
    (λ (q : more t p n ≡ false). rw (lengths_last t p n h q) (omega arith, tt))

-- The lengths of the packets are the sentence's, and the last one has the star.
pub cut_rows : (t : TransferType) (p : ℕ) (b : Bool) (l : List ℕ) → 0 < p → map out_row (out_cut t p b l) ≡ rows (lengths t p (length l))
unfolding out_cut
cut_rows t p b l h = dealt (lengths t p (length l)) l false b (lengths_within (length l) t p (length l) h (omega arith))
