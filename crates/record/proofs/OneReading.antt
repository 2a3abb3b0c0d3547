-- A record of version 2 has at most one reading. Assumes nothing.
use mathlib.Core.Path.{◌≡◌, refl, sym, ap, ap₂}
use mathlib.Core.List.{List, [], ◌∷◌, ◌++◌, map, head-eq_of_cons-eq, tail-eq_of_cons-eq}
use Prim.Native.Nat.{ℕ}
use native.Mathlib.Omega.{arith}
use lib.ListN.{length, length-append}
use Rattle.record.specs.Grammar.{Entry, Part, AllFit, parts_entries}
use Rattle.record.specs.Segments.{Element, entry, failed_entry, Segment, SegmentsFit, up_to, elements}
use Rattle.record.proofs.PlainReading.{one_plain_reading}

-- No count stands among version 1's entries.
pub no_count : {A : Type 0} (xs ys : List Entry) (m : ℕ) (r : List Element) → map entry xs ≡ map entry ys ++ (failed_entry m ∷ r) → A
no_count [] [] m r q = absurd (let z : ◌≡◌ {A = ℕ} 0 1 = cc in omega arith)
no_count [] (y ∷ ys) m r q = absurd (let z : ◌≡◌ {A = ℕ} 0 1 = cc in omega arith)
no_count (x ∷ xs) [] m r q = absurd (let z : ◌≡◌ {A = ℕ} 0 1 = cc in omega arith)
no_count (x ∷ xs) (y ∷ ys) m r q = no_count xs ys m r (tail-eq_of_cons-eq q)

all_entries : (xs ys : List Entry) → map entry xs ≡ map entry ys → xs ≡ ys
all_entries [] [] q = refl
all_entries [] (y ∷ ys) q = absurd (let z : ◌≡◌ {A = ℕ} 0 1 = cc in omega arith)
all_entries (x ∷ xs) [] q = absurd (let z : ◌≡◌ {A = ℕ} 0 1 = cc in omega arith)
all_entries (x ∷ xs) (y ∷ ys) q = let t = all_entries xs ys (tail-eq_of_cons-eq q) in let h = head-eq_of_cons-eq q in let e : x ≡ y = cc in ap₂ {C = List Entry} ◌∷◌ e t

-- What two records agree on up to their first count.
record Upto (xs ys : List Entry) (m n : ℕ) (r s : List Element) : Type 0 where
  before : xs ≡ ys
  count : m ≡ n
  after : r ≡ s

first_count : (xs ys : List Entry) (m n : ℕ) (r s : List Element) → map entry xs ++ (failed_entry m ∷ r) ≡ map entry ys ++ (failed_entry n ∷ s) → Upto xs ys m n r s
first_count [] [] m n r s q = let h = head-eq_of_cons-eq q in record { before = refl; count = cc; after = tail-eq_of_cons-eq q }
first_count [] (y ∷ ys) m n r s q = absurd (let z : ◌≡◌ {A = ℕ} 0 1 = cc in omega arith)
first_count (x ∷ xs) [] m n r s q = absurd (let z : ◌≡◌ {A = ℕ} 0 1 = cc in omega arith)
first_count (x ∷ xs) (y ∷ ys) m n r s q =
    let k = first_count xs ys m n r s (tail-eq_of_cons-eq q) in
    let h = head-eq_of_cons-eq q in
    let e : x ≡ y = cc in
    record { before = ap₂ {C = List Entry} ◌∷◌ e k.before; count = k.count; after = k.after }

-- Two lists whose ends are equally long are cut at the same place.
same_end : (a b x y : List Entry) → a ++ x ≡ b ++ y → length x ≡ length y → (a ≡ b) × (x ≡ y)
same_end [] [] x y q e = (refl, q)
same_end [] (v ∷ b) x y q e = absurd (let h = ap length q in let k = length-append b y in omega arith)
same_end (u ∷ a) [] x y q e = absurd (let h = ap length q in let k = length-append a x in omega arith)
same_end (u ∷ a) (v ∷ b) x y q e = let k = same_end a b x y (tail-eq_of_cons-eq q) e in (ap₂ {C = List Entry} ◌∷◌ (head-eq_of_cons-eq q) k.0, k.1)

same_segment : (g h : Segment) → g.whole ≡ h.whole → g.first ≡ h.first → g ≡ h
same_segment g h p q = ap₂ (λ (a : List Part) (b : List Entry). record { whole = a; first = b }) p q

-- Two readings of one record are one.
pub one_reading : (gs hs : List Segment) (ps qs : List Part) → SegmentsFit gs → SegmentsFit hs → AllFit ps → AllFit qs → elements gs ps ≡ elements hs qs → (gs ≡ hs) × (ps ≡ qs)
one_reading [] [] ps qs f g u v e = (refl, one_plain_reading ps qs u v (all_entries (parts_entries ps) (parts_entries qs) e))
one_reading [] (h ∷ hs) ps qs f g u v e = no_count (parts_entries ps) (parts_entries h.whole ++ h.first) (length h.first) (up_to hs (map entry (parts_entries qs))) e
one_reading (h ∷ hs) [] ps qs f g u v e = no_count (parts_entries qs) (parts_entries h.whole ++ h.first) (length h.first) (up_to hs (map entry (parts_entries ps))) (sym e)
one_reading (g ∷ gs) (h ∷ hs) ps qs f k u v e =
    let c = first_count (parts_entries g.whole ++ g.first) (parts_entries h.whole ++ h.first) (length g.first) (length h.first) (elements gs ps) (elements hs qs) e in
    let s = same_end (parts_entries g.whole) (parts_entries h.whole) g.first h.first c.before c.count in
    let w = one_plain_reading g.whole h.whole f.0.0 k.0.0 s.0 in
    let t = one_reading gs hs ps qs f.1 k.1 u v c.after in
    (ap₂ {C = List Segment} ◌∷◌ (same_segment g h w s.1) t.0, t.1)
