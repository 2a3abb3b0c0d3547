-- Laws of texts put into lent bytes. Assumes nothing.
use mathlib.Core.Path.{◌≡◌, refl, sym, ap, ◌∙◌}
use mathlib.Core.Bool.{true, false}
use mathlib.Core.List.{List, [], ◌∷◌, ◌++◌}
use Prim.Native.Nat.{ℕ, ◌+◌, ◌*◌, ◌/◌, ◌%◌, ◌<◌, ◌≤◌}
use native.Mathlib.Numerals.{add-one}
use native.Mathlib.Omega.{arith}
use borrow.Author.Tests.{le-leb, lt-leb}
use lib.ListN.{length, take, get_or}
use lib.Seq.{sets, take-suc, length-take-le}
use Rattle.io.specs.Digits.{hex_digit_ascii}
use Rattle.pool.proofs.Stores.{sets_append}
use Rattle.script.specs.Text.{fits, placed, place_after, Placed, hex_of, pairs_text}

-- A text that fits, and one that doesn't.
pub placed_there : (out : List ℕ) (at : ℕ) (text out' : List ℕ) (at' : ℕ) → at + length text ≤ length out → out' ≡ sets out at text → at' ≡ at + length text → Placed out at text out' at'
unfolding placed place_after
placed_there out at text out' at' h e n =
    let f : fits out at text ≡ true = le-leb (at + length text) (length out) h in
    record { bytes = simp f e; next = simp f n }

pub placed_not : (out : List ℕ) (at : ℕ) (text : List ℕ) → length out < at + length text → Placed out at text out at
unfolding placed place_after
placed_not out at text h =
    let f : fits out at text ≡ false = lt-leb (at + length text) (length out) h in
    record { bytes = simp f; next = simp f }

-- Bytes as pairs of digits.
pub hex_length : (bs : List ℕ) → length (hex_of bs) ≡ 2 * length bs
unfolding hex_of
hex_length [] = omega arith
hex_length (b ∷ bs) = omega (arith, hex_length bs)

hex_append : (a b : List ℕ) → hex_of (a ++ b) ≡ hex_of a ++ hex_of b
unfolding hex_of
hex_append [] b = refl
hex_append (x ∷ a) b = ap (λ (l : List ℕ). hex_digit_ascii (x / 16) ∷ hex_digit_ascii (x % 16) ∷ l) (hex_append a b)

-- A turn of a loop that puts them.
pub hex_put_more : (d bs : List ℕ) (at i : ℕ) → i < length bs
    → sets (sets d at (hex_of (take i bs))) (at + 2 * i) (hex_digit_ascii (get_or bs i 0 / 16) ∷ hex_digit_ascii (get_or bs i 0 % 16) ∷ []) ≡ sets d at (hex_of (take (i + 1) bs))
unfolding hex_of
hex_put_more d bs at i h =
    let two = hex_digit_ascii (get_or bs i 0 / 16) ∷ hex_digit_ascii (get_or bs i 0 % 16) ∷ [] in
    let e : 2 * i ≡ length (hex_of (take i bs)) = omega (arith, hex_length (take i bs), length-take-le i bs (omega arith)) in
    ap (λ (n : ℕ). sets (sets d at (hex_of (take i bs))) (at + n) two) e
    ∙ sets_append (hex_of (take i bs)) two d at
    ∙ ap (λ (l : List ℕ). sets d at l) (sym (hex_append (take i bs) (get_or bs i 0 ∷ [])))
    ∙ ap (λ (l : List ℕ). sets d at (hex_of l)) (sym (take-suc bs i 0 h))
    ∙ ap (λ (n : ℕ). sets d at (hex_of (take n bs))) (sym (add-one i))

-- The text of no bytes, and of some.
pub pairs_none : (bs : List ℕ) → length bs ≡ 0 → pairs_text bs ≡ 45 ∷ []
unfolding pairs_text
pairs_none [] e = refl
pairs_none (b ∷ bs) e = absurd (omega arith)

pub pairs_some : (bs : List ℕ) → (length bs ≡ 0 → ⊥) → pairs_text bs ≡ hex_of bs
unfolding pairs_text
pairs_some [] n = absurd (n refl)
pairs_some (b ∷ bs) n = refl

pub pairs_length : (bs : List ℕ) → (length bs ≡ 0 → ⊥) → length (pairs_text bs) ≡ 2 * length bs
pairs_length bs n = ap length (pairs_some bs n) ∙ hex_length bs
