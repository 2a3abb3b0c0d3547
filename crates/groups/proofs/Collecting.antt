-- What `collect` puts together. Assumes nothing.
use mathlib.Core.Path.{◌≡◌, refl, sym, subst}
use mathlib.Core.Logic.{◌⊎◌, inl, inr}
use mathlib.Core.Bool.{Bool, true, false}
use mathlib.Core.List.{List, ◌++◌}
use Prim.Native.Nat.{ℕ, zero, suc, ◌+◌, ◌≤◌, ◌<◌}
use native.Mathlib.Omega.{arith}
use lib.Dec.{eqb}
use borrow.Author.Tests.{eqb-true, eqb-false}
use Rattle.groups.specs.Order.{Before, In, Ordered}
use Rattle.groups.specs.Groups.{collect}
use Rattle.groups.proofs.Lists.{in_left, in_right, in_either, ordered_append}

-- A member is given by some number.
pub record From (i n : ℕ) (f : ℕ → List (List ℕ)) (g : List ℕ) : Type 0 where
  pub j : ℕ
  pub low : i ≤ j
  pub high : j < i + n
  pub in_f : In g (f j)

pub collect_from : (n i : ℕ) (f : ℕ → List (List ℕ)) (g : List ℕ) → In g (collect i n f) → From i n f g
unfolding collect
collect_from zero i f g m = absurd m
collect_from (suc n) i f g m = go (in_either g (f i) (collect (suc i) n f) m) (collect_from n (suc i) f g)
  where
    go : In g (f i) ⊎ In g (collect (suc i) n f) → (In g (collect (suc i) n f) → From (suc i) n f g) → From i (suc n) f g
    go (inl q) ih = record { j = i; low = omega arith; high = omega arith; in_f = q }
    go (inr q) ih = let r = ih q in record { j = r.j; low = omega (arith, r.low); high = omega (arith, r.high); in_f = r.in_f }

pub collect_in : (n i j : ℕ) (f : ℕ → List (List ℕ)) (g : List ℕ) → i ≤ j → j < i + n → In g (f j) → In g (collect i n f)
unfolding collect
collect_in zero i j f g l h m = absurd (omega arith)
collect_in (suc n) i j f g l h m = go (eqb i j) refl (λ q. collect_in n (suc i) j f g q (omega arith) m)
  where
    go : (b : Bool) → eqb i j ≡ b → (suc i ≤ j → In g (collect (suc i) n f)) → In g (f i ++ collect (suc i) n f)
    go true e ih = in_left g (f i) (collect (suc i) n f) (subst (λ (k : ℕ). In g (f k)) (sym (eqb-true i j e)) m)
    go false e ih = in_right g (f i) (collect (suc i) n f) (ih (omega (arith, eqb-false i j e)))

pub collect_ordered : (n i : ℕ) (f : ℕ → List (List ℕ)) → ((j : ℕ) → i ≤ j → j < i + n → Ordered (f j))
    → ((j k : ℕ) (g h : List ℕ) → i ≤ j → j < k → k < i + n → In g (f j) → In h (f k) → Before g h) → Ordered (collect i n f)
unfolding collect
collect_ordered zero i f o b = tt
collect_ordered (suc n) i f o b =
    ordered_append (f i) (collect (suc i) n f) (o i (omega arith) (omega arith))
    (collect_ordered n (suc i) f (λ j l h. o j (omega arith) (omega arith)) (λ j k g h l m q. b j k g h (omega arith) m (omega arith)))
    (λ g h p q. let r = collect_from n (suc i) f h q in b i r.j g h (omega arith) (omega (arith, r.low)) (omega (arith, r.high)) p r.in_f)
