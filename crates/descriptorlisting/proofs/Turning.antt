-- A turn goes on by the part that was found, and stays inside the bytes. Assumes nothing.
use Rattle.std.proofs.Common.{◌≡◌, ℕ, ◌+◌, ◌≤◌, List, length, Option, Some, refl, sym, ◌∙◌, arith}
use Rattle.descriptor.specs.Walk.{Walked, descriptor, endpoint, end, refused, walk_of}
use Rattle.descriptor.proofs.Walking.{Handed, handed, inside}
use Rattle.descriptorlisting.specs.Turn.{turn_of}

-- The next position is at least two bytes on, and inside.
pub more_inside : (b : List ℕ) (at n : ℕ) (t : Option ℕ) → t ≡ Some n → t ≡ turn_of at (walk_of b at) → (at + 2 ≤ n) × (n ≤ length b)
more_inside b at n t m e = go (walk_of b at) refl (sym e ∙ m)
  where
    here : (p : List ℕ) → Handed b at p → let q : Option ℕ = Some (at + length p) in q ≡ Some n → (at + 2 ≤ n) × (n ≤ length b)
    here p h s =
        let i = inside b at p h in
        let same : at + length p ≡ n = cc in
        (omega (arith, i, same), omega (arith, i, same))

    go : (w : Walked) → walk_of b at ≡ w → turn_of at w ≡ Some n → (at + 2 ≤ n) × (n ≤ length b)
    go (descriptor p) w s = here p (handed b at p (rw w refl)) s
    go (endpoint p f) w s = here p (handed b at p (rw w refl)) s
    go end w s = cc
    go (refused k) w s = cc
