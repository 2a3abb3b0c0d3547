-- An array's `map`. Assumes nothing.
use mathlib.Core.Path.{◌≡◌, sym, ◌∙◌}
use mathlib.Core.List.{List, map}
use Prim.Native.Nat.{ℕ, ◌<◌}
use native.Mathlib.Omega.{arith}
use lib.ListN.{length, get_or, length-map}
use denote.Param.Members.{Mut, Called}
use Rattle.std.specs.Array.{IsMapOf}
use Rattle.std.proofs.lemmas.List.{same_lists, get_or-map}

-- Where each call gives v, the list is v's.
pub mapped : {F A B : Type 0} (g : Mut F (A × Unit {0}) B) (f : F) (v : A → B) (xs : List A) (ys : List B) (n : ℕ) (z : A) → IsMapOf g f xs ys n → length xs ≡ n
    → ((p : F) (x : A) (y : B) (q : F) → Called g p (x, tt) y q → y ≡ v x) → ys ≡ map v xs
mapped {B = B} g f v xs ys n z m e h = same_lists ys (map v xs) (m.long ∙ sym e ∙ sym (length-map xs v)) at
  where
    at : (k : ℕ) (d : B) → k < length ys → get_or ys k d ≡ get_or (map v xs) k d
    at k d l =
        let c = m.at k z d (omega (arith, m.long, l)) in
        h c.0 (get_or xs k z) (get_or ys k d) c.1 c.2 ∙ sym (get_or-map v xs k z d (omega (arith, m.long, e, l)))
