-- Laws of the stores into a record: one after another, and the bytes that stay.
-- Assumes nothing.
use mathlib.Core.Path.{◌≡◌, refl, ap, ap₂, sym, ◌∙◌}
use mathlib.Core.List.{List, [], ◌∷◌, ◌++◌}
use Prim.Native.Nat.{ℕ, ◌+◌, ◌-◌, ◌*◌, ◌/◌, ◌%◌, ◌<◌, ◌≤◌}
use native.Mathlib.Nat.{add-zero}
use native.Mathlib.Omega.{arith}
use lib.ListN.{length, length-append}
use lib.Seq.{sets, length-sets}
use borrow.Rule.Slice.PartMut.{put_mid}
use Rattle.pool.proofs.Stores.{put_sets, sets_append}
use Rattle.record.specs.Bytes.{failed_bytes}
use Rattle.record.specs.Writer.{Put}

pub nothing : (l : List ℕ) (at : ℕ) → Put l at [] l at
nothing l at = record { bytes = refl; next = sym (add-zero at) }

-- A part of the bytes took those of another slice.
pub stored : (l part part' : List ℕ) (at : ℕ) → part' ≡ part → at + length part ≤ length l → Put l at part (put_mid at (at + length part - at) l part') (at + length part)
stored l part part' at e h = record { bytes = ap (put_mid at (at + length part - at) l) e ∙ put_sets at (at + length part - at) l part (omega arith) (omega arith); next = refl }

-- Bytes, and others after them.
pub then : {l l₁ l₂ : List ℕ} {at at₁ at₂ : ℕ} {a b : List ℕ} → Put l at a l₁ at₁ → Put l₁ at₁ b l₂ at₂ → Put l at (a ++ b) l₂ at₂
then {l} {l₁} {l₂} {at} {at₁} {at₂} {a} {b} p q = record {
  bytes = q.bytes ∙ ap₂ (λ (m : List ℕ) (n : ℕ). sets m n b) p.bytes p.next ∙ sets_append a b l at;
  next = omega (arith, p.next, q.next, length-append a b);
}

pub same_room : {l l' : List ℕ} {at at' : ℕ} {vs : List ℕ} → Put l at vs l' at' → length l' ≡ length l
same_room {l} {at = at} {vs = vs} p = ap length p.bytes ∙ length-sets l at vs

-- A count's bytes as two words of 16 bits.
abbrev pub count_halves : ℕ → List ℕ
count_halves n = 0x58 ∷ n % 65536 % 256 ∷ n % 65536 / 256 ∷ n / 65536 % 256 ∷ n / 65536 / 256 ∷ []

pub count_halves_lem : (n : ℕ) → failed_bytes n ≡ count_halves n
count_halves_lem n =
    let a : n % 256 ≡ n % 65536 % 256 = omega arith in
    let b : n / 256 % 256 ≡ n % 65536 / 256 = ap (λ (i : ℕ). i % 256) (split n) ∙ below (n / 65536) (n % 65536 / 256) (omega arith) in
    let c : n / 16777216 ≡ n / 65536 / 256 = omega arith in
    cc
  where
    split : (n : ℕ) → n / 256 ≡ n / 65536 * 256 + n % 65536 / 256
    split n = omega arith

    below : (q r : ℕ) → r < 256 → (q * 256 + r) % 256 ≡ r
    below q r h = omega arith
