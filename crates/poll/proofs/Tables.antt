-- What the tests of a file and a table say. Assumes nothing.
use mathlib.Core.Path.{◌≡◌, refl, ap, sym}
use mathlib.Core.Bool.{Bool, true, false, ◌&&◌, true≢false}
use mathlib.Core.List.{List}
use Prim.Native.Nat.{ℕ, suc, ◌<◌, ◌≤◌}
use lib.Dec.{eqb}
use lib.ListN.{length, drop, get_or, drop_of_length-le}
use lib.Seq.{drop-cons}
use borrow.Author.Tests.{eqb-true}
use Rattle.poll.specs.File.{headed, is_version1, entry_good, all_good}

-- Both of two tests.
pub both : (a b : Bool) → (a && b) ≡ true → (a ≡ true) × (b ≡ true)
both true b e = (refl, e)
both false b e = absurd (true≢false (sym e))

pub version1_length : (f : List ℕ) → is_version1 f ≡ true → length f ≡ 261
version1_length f e = eqb-true (length f) 261 (both (headed 1 f) (eqb (length f) 261) e).1

-- ---- all entries, one after another

pub next_good : (l : List ℕ) (i : ℕ) → i < length l → all_good i (drop i l) ≡ (entry_good i (get_or l i 0) && all_good (suc i) (drop (suc i) l))
unfolding all_good
next_good l i h = ap (all_good i) (drop-cons l i 0 h)

pub over_good : (l : List ℕ) (i : ℕ) → length l ≤ i → all_good i (drop i l) ≡ true
unfolding all_good
over_good l i h = ap (all_good i) (drop_of_length-le l h)
