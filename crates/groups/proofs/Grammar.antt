-- The groups of the record's grammar by their packets' lengths. Assumes nothing.
use mathlib.Core.Path.{◌≡◌, refl, ap, ap₂, sym, ◌∙◌}
use mathlib.Core.Logic.{inl, inr}
use mathlib.Core.Bool.{Bool, true, false, not}
use mathlib.Core.List.{List, [], ◌∷◌, ◌++◌}
use Prim.Native.Nat.{ℕ, zero, suc, ◌≤◌}
use native.Mathlib.Omega.{arith}
use lib.ListN.{length, replicate, length-append, length-replicate}
use Rattle.record.specs.Grammar.{Four, Bytes, group, group_bytes, AllOf, Sizes, one_group, bulk_part, SentFits}
use Rattle.groups.specs.Order.{total}
use Rattle.groups.specs.Enumerates.{packet_lengths, lengths_of, Allowed}
use Rattle.groups.proofs.Shapes.{Group}

-- A group's bytes are its packets' together.
pub total_bytes : (a e : ℕ) (b : Bool) (xs : List (List ℕ)) (l : List ℕ) → total (packet_lengths (group a e b xs l)) ≡ length (group_bytes xs l)
total_bytes a e b [] l = omega arith
total_bytes a e b (x ∷ xs) l = omega (arith, total_bytes a e (not b) xs l, length-append x (group_bytes xs l))

-- The lengths of packets of one length and a last one.
full_lengths : (a e : ℕ) (b : Bool) (p : ℕ) (xs : List (List ℕ)) (l : List ℕ) → AllOf p xs → packet_lengths (group a e b xs l) ≡ replicate (length xs) p ++ (length l ∷ [])
full_lengths a e b p [] l h = refl
full_lengths a e b p (x ∷ xs) l h = ap₂ (λ (n : ℕ) (ns : List ℕ). n ∷ ns) h.0 (full_lengths a e (not b) p xs l h.1)

pub sized_group : (a e : ℕ) (b : Bool) (xs : List (List ℕ)) (l : List ℕ) → Sizes xs l → Group (packet_lengths (group a e b xs l))
sized_group a e b xs l s = record { k = length xs; p = s.p; last = length l; low = s.low; high = s.high; short = s.short; is = full_lengths a e b s.p xs l s.full }

-- A control's group, the empty packet alone too.
pub sent_group : (a : ℕ) (hi : Four) (xs : List (List ℕ)) (l : List ℕ) → SentFits hi (one_group xs l) → Group (packet_lengths (group a 0 true xs l))
sent_group a hi xs l (inl e) =
    record {
      k = 0;
      p = 64;
      last = 0;
      low = omega arith;
      high = omega arith;
      short = omega arith;
      is = ap₂ (λ (ys : List (List ℕ)) (m : List ℕ). packet_lengths (group a 0 true ys m)) e.0 e.1;
    }
sent_group a hi xs l (inr s) = sized_group a 0 true xs l s.0

-- ---- a group of each shape, of bytes 0

zeros : ℕ → List ℕ
zeros n = replicate n 0

full_zeros : (k p : ℕ) → AllOf p (replicate k (zeros p))
unfolding zeros
full_zeros zero p = tt
full_zeros (suc k) p = (length-replicate {A = ℕ} p 0, full_zeros k p)

bytes_zeros : (n : ℕ) → Bytes (zeros n)
unfolding zeros
bytes_zeros zero = tt
bytes_zeros (suc n) = (omega arith, bytes_zeros n)

bytes_append : (a b : List ℕ) → Bytes a → Bytes b → Bytes (a ++ b)
bytes_append [] b p q = q
bytes_append (x ∷ a) b p q = (p.0, bytes_append a b p.1 q)

group_zeros : (k p l : ℕ) → Bytes (group_bytes (replicate k (zeros p)) (zeros l))
group_zeros zero p l = bytes_zeros l
group_zeros (suc k) p l = bytes_append (zeros p) (group_bytes (replicate k (zeros p)) (zeros l)) (bytes_zeros p) (group_zeros k p l)

-- Every shape of at most 65,535 bytes is some bulk group's.
pub shape_allowed : (n : ℕ) (g : List ℕ) → n ≤ 65535 → Group g → total g ≤ n → Allowed n g
unfolding zeros
shape_allowed n g small d h =
    let xs = replicate d.k (zeros d.p) in
    let l = zeros d.last in
    let same : lengths_of (bulk_part 0 1 false xs l) ≡ g =
    full_lengths 0 1 false d.p xs l (full_zeros d.k d.p)
    ∙ ap₂ (λ (k m : ℕ). replicate k d.p ++ (m ∷ [])) (length-replicate d.k (zeros d.p)) (length-replicate {A = ℕ} d.last 0) ∙ sym d.is in
    let few : length (group_bytes xs l) ≤ n = omega (arith, total_bytes 0 1 false xs l, ap total same, h) in
    record {
      address = 0;
      endpoint = 1;
      pid = false;
      unmarked = xs;
      marked = l;
      fits = (
        omega arith,
        omega arith,
        omega arith,
        record {
          p = d.p;
          low = d.low;
          high = d.high;
          full = full_zeros d.k d.p;
          short = omega (arith, length-replicate {A = ℕ} d.last 0, d.short);
          total = omega (arith, few, small);
          are = group_zeros d.k d.p d.last;
        },
      );
      few = omega (arith, few);
      lengths = same;
    }
