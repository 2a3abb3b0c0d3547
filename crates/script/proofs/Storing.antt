-- Laws of bytes read from digits or made by a rule, and of storing them from the start on. Assumes nothing.
use mathlib.Core.Path.{◌≡◌, refl, sym, ap, ap₂, ◌∙◌}
use mathlib.Core.Bool.{Bool, true, false, ◌&&◌}
use mathlib.Core.List.{List, [], ◌∷◌, ◌++◌}
use Prim.Native.Nat.{ℕ, zero, suc, ◌+◌, ◌*◌, ◌/◌, ◌≤◌, ◌<◌}
use native.Mathlib.Nat.{zero-add}
use native.Mathlib.Omega.{arith}
use borrow.Author.Tests.{ltb-true}
use lib.Dec.{ltb}
use lib.ListN.{length, drop, get_or}
use lib.Seq.{sets}
use Rattle.std.specs.Char.{is_ascii_hexdigit}
use Rattle.std.specs.List.{list_all}
use Rattle.std.proofs.lemmas.Bool.Decides.{nat_tests}
use Rattle.std.proofs.lemmas.Grind.{elements}
use Rattle.pool.proofs.Stores.{put_sets}
use Rattle.script.specs.Numbers.{digit_of, all_digits}
use Rattle.script.specs.Bytes.{pairs_of, seq_at, seq_from}

-- Bytes put over the first n of others.
pub put_first : (d bs vs : List ℕ) (n : ℕ) → length bs ≡ n → length vs ≡ n → n ≤ length d → ((k : ℕ) → k < n → get_or bs k 0 ≡ get_or vs k 0) → bs ++ drop n d ≡ sets d 0 vs
put_first d bs vs n e v h f =
    let same : bs ≡ vs = grind (arith, elements) in
    put_sets 0 n d bs e (omega arith) ∙ ap (sets d 0) same

-- All digits are hexadecimal where std says so of each.
hex_digit : (b : ℕ) → is_ascii_hexdigit b ≡ ltb (digit_of b) 16
unfolding digit_of
hex_digit b = grind (arith, nat_tests)

pub all_hex : (ds : List ℕ) → all_digits 16 ds ≡ list_all is_ascii_hexdigit ds
unfolding all_digits
all_hex [] = refl
all_hex (d ∷ ds) = ap₂ (λ s t. s && t) (sym (hex_digit d)) (all_hex ds)

-- Each of hexadecimal digits is one.
pub hex_at : (ds : List ℕ) (i : ℕ) → all_digits 16 ds ≡ true → i < length ds → digit_of (get_or ds i 0) < 16
unfolding all_digits
hex_at [] i e h = absurd (omega arith)
hex_at (d ∷ ds) zero e h = go (ltb (digit_of d) 16) refl e
  where
    go : (t : Bool) → ltb (digit_of d) 16 ≡ t → t && all_digits 16 ds ≡ true → digit_of d < 16
    go true p q = ltb-true (digit_of d) 16 p
    go false p q = let z : ◌≡◌ {A = ℕ} 0 1 = cc in omega arith
hex_at (d ∷ ds) (suc i) e h = hex_at ds i (go (ltb (digit_of d) 16) e) (omega arith)
  where
    go : (t : Bool) → t && all_digits 16 ds ≡ true → all_digits 16 ds ≡ true
    go true q = q
    go false q = let z : ◌≡◌ {A = ℕ} 0 1 = cc in absurd (omega arith)

-- The bytes of digits in pairs.
pub pairs_length : (ds : List ℕ) → length (pairs_of ds) ≡ length ds / 2
unfolding pairs_of
pairs_length [] = omega arith
pairs_length (a ∷ []) = omega arith
pairs_length (a ∷ b ∷ ds) = omega (arith, pairs_length ds)

pub pairs_at : (ds : List ℕ) (i : ℕ) → 2 * i + 1 < length ds → get_or (pairs_of ds) i 0 ≡ digit_of (get_or ds (2 * i) 0) * 16 + digit_of (get_or ds (2 * i + 1) 0)
unfolding pairs_of
pairs_at [] i h = absurd (omega arith)
pairs_at (a ∷ []) i h = absurd (omega arith)
pairs_at (a ∷ b ∷ ds) zero h = refl
pairs_at (a ∷ b ∷ ds) (suc i) h =
    let e : suc (suc (2 * i)) ≡ 2 * suc i = omega arith in
    let f : suc (suc (2 * i + 1)) ≡ 2 * suc i + 1 = omega arith in
    pairs_at ds i (omega arith) ∙ ap₂ (λ (m n : ℕ). digit_of (get_or (a ∷ b ∷ ds) m 0) * 16 + digit_of (get_or (a ∷ b ∷ ds) n 0)) e f

-- The bytes of a rule.
pub seq_length : (start step i n : ℕ) → length (seq_from start step i n) ≡ n
unfolding seq_from
seq_length start step i zero = refl
seq_length start step i (suc n) = ap suc (seq_length start step (suc i) n)

pub seq_from_at : (start step k n i : ℕ) → i < n → get_or (seq_from start step k n) i 0 ≡ seq_at start step (k + i)
unfolding seq_from
seq_from_at start step k zero i h = absurd (omega arith)
seq_from_at start step k (suc n) zero h = let e : k ≡ k + 0 = omega arith in ap (seq_at start step) e
seq_from_at start step k (suc n) (suc i) h = let e : suc k + i ≡ k + suc i = omega arith in seq_from_at start step (suc k) n i (omega arith) ∙ ap (seq_at start step) e

pub seq_here : (start step n i : ℕ) → i < n → seq_at start step i ≡ get_or (seq_from start step 0 n) i 0
seq_here start step n i h = sym (seq_from_at start step 0 n i h ∙ ap (seq_at start step) (zero-add i))
