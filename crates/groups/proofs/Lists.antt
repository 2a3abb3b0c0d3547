-- What stands in an ordered list, and that its members settle it. Assumes nothing.
use mathlib.Core.Path.{◌≡◌, refl, ap₂, sym, subst}
use mathlib.Core.Logic.{◌⊎◌, inl, inr}
use mathlib.Core.List.{List, [], ◌∷◌, ◌++◌}
use Prim.Native.Nat.{ℕ}
use native.Mathlib.Omega.{arith}
use Rattle.groups.specs.Order.{Smaller, Before, In, Ordered}

pub in_left : (g : List ℕ) (a b : List (List ℕ)) → In g a → In g (a ++ b)
in_left g [] b i = absurd i
in_left g (x ∷ a) b (inl e) = inl e
in_left g (x ∷ a) b (inr i) = inr (in_left g a b i)

pub in_right : (g : List ℕ) (a b : List (List ℕ)) → In g b → In g (a ++ b)
in_right g [] b i = i
in_right g (x ∷ a) b i = inr (in_right g a b i)

pub in_either : (g : List ℕ) (a b : List (List ℕ)) → In g (a ++ b) → In g a ⊎ In g b
in_either g [] b i = inr i
in_either g (x ∷ a) b (inl e) = inl (inl e)
in_either g (x ∷ a) b (inr i) = go (in_either g a b i)
  where
    go : In g a ⊎ In g b → In g (x ∷ a) ⊎ In g b
    go (inl j) = inl (inr j)
    go (inr j) = inr j

pub ordered_append : (a b : List (List ℕ)) → Ordered a → Ordered b → ((g h : List ℕ) → In g a → In h b → Before g h) → Ordered (a ++ b)
ordered_append [] b o q f = q
ordered_append (x ∷ a) b o q f = (λ h i. go h (in_either h a b i), ordered_append a b o.1 q (λ g h i j. f g h (inr i) j))
  where
    go : (h : List ℕ) → In h a ⊎ In h b → Before x h
    go h (inl i) = o.0 h i
    go h (inr i) = f x h (inl refl) i

-- Of two groups at most one stands before the other.
smaller_once : (g h : List ℕ) → Smaller g h → Smaller h g → ⊥
smaller_once [] h s t = s
smaller_once (x ∷ g) [] s t = s
smaller_once (x ∷ g) (y ∷ h) (inl s) (inl t) = omega (arith, s, t)
smaller_once (x ∷ g) (y ∷ h) (inl s) (inr t) = omega (arith, s, t.0)
smaller_once (x ∷ g) (y ∷ h) (inr s) (inl t) = omega (arith, s.0, t)
smaller_once (x ∷ g) (y ∷ h) (inr s) (inr t) = smaller_once g h s.1 t.1

before_once : (g h : List ℕ) → Before g h → Before h g → ⊥
before_once g h (inl s) (inl t) = omega (arith, s, t)
before_once g h (inl s) (inr t) = omega (arith, s, t.0)
before_once g h (inr s) (inl t) = omega (arith, s.0, t)
before_once g h (inr (e, inl s)) (inr (f, inl t)) = omega (arith, s, t)
before_once g h (inr (e, inl s)) (inr (f, inr t)) = omega (arith, s, t.0)
before_once g h (inr (e, inr s)) (inr (f, inl t)) = omega (arith, s.0, t)
before_once g h (inr (e, inr s)) (inr (f, inr t)) = smaller_once g h s.1 t.1

-- A list's first group doesn't stand there again.
first_once : (g : List ℕ) (gs : List (List ℕ)) → Ordered (g ∷ gs) → In g gs → ⊥
first_once g gs o i = before_once g g (o.0 g i) (o.0 g i)

-- Without its first group a list has what it had.
others : (g : List ℕ) (gs hs : List (List ℕ)) → Ordered (g ∷ gs) → ((h : List ℕ) → In h (g ∷ gs) → In h (g ∷ hs)) → (h : List ℕ) → In h gs → In h hs
others g gs hs o f h i = go (f h (inr i))
  where
    go : In h (g ∷ hs) → In h hs
    go (inl e) = absurd (first_once g gs o (subst (λ (x : List ℕ). In x gs) e i))
    go (inr j) = j

-- Ordered lists with one first group are the same if the rest is.
alike : (g h : List ℕ) (gs hs : List (List ℕ)) → Ordered (g ∷ gs) → Ordered (h ∷ hs) → ((k : List ℕ) → In k (g ∷ gs) → In k (h ∷ hs)) → ((k : List ℕ) → In k (h ∷ hs) → In k (g ∷ gs))
    → (((k : List ℕ) → In k gs → In k hs) → ((k : List ℕ) → In k hs → In k gs) → gs ≡ hs) → g ≡ h → g ∷ gs ≡ h ∷ hs
alike g h gs hs o q f b rest e =
    ap₂ (λ (x : List ℕ) (l : List (List ℕ)). x ∷ l) e
    (rest (others g gs hs o (λ k i. subst (λ (x : List ℕ). In k (x ∷ hs)) (sym e) (f k i)))
    (others h hs gs q (λ k i. subst (λ (x : List ℕ). In k (x ∷ gs)) e (b k i))))

-- Ordered lists of the same groups are the same.
pub same_list : (gs hs : List (List ℕ)) → Ordered gs → Ordered hs → ((g : List ℕ) → In g gs → In g hs) → ((g : List ℕ) → In g hs → In g gs) → gs ≡ hs
same_list [] [] o q f b = refl
same_list [] (h ∷ hs) o q f b = absurd (b h (inl refl))
same_list (g ∷ gs) [] o q f b = absurd (f g (inl refl))
same_list (g ∷ gs) (h ∷ hs) o q f b = go (f g (inl refl)) (b h (inl refl)) (alike g h gs hs o q f b (same_list gs hs o.1 q.1))
  where
    go : In g (h ∷ hs) → In h (g ∷ gs) → (g ≡ h → g ∷ gs ≡ h ∷ hs) → g ∷ gs ≡ h ∷ hs
    go (inl e) j same = same e
    go (inr i) (inl e) same = same (sym e)
    go (inr i) (inr j) same = absurd (before_once g h (o.0 h j) (q.0 g i))
