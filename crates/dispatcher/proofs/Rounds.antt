-- The round: the first that fits after a number. What fits is a test on numbers. Assumes nothing.
use mathlib.Core.Path.{◌≡◌, refl, sym, ap, ◌∙◌}
use mathlib.Core.Logic.{◌⊎◌, inl, inr}
use mathlib.Core.Bool.{Bool, true, false, cond, true≢false}
use Prim.Native.Nat.{ℕ, zero, suc, ◌+◌, ◌-◌, ◌%◌, ◌≤◌, ◌<◌}
use native.Mathlib.Omega.{arith}
use lib.Dec.{leb}
use borrow.Author.Tests.{leb-true, leb-false}
use Rattle.dispatcher.specs.Dispatcher.{after, first_from}

-- A number isn't both.
pub never : (x : ℕ) → 8 ≤ x → x < 8 → ⊥
never x h k = omega arith

-- A caller's number, by its test.
pub below : (c : ℕ) → leb c 7 ≡ true → c < 8
below c e = let h = leb-true c 7 e in omega (arith, h)

-- "going round after 7"
pub after_mod : (i : ℕ) → i < 8 → after i ≡ (i + 1) % 8
after_mod i h = go (leb 7 i) refl
  where
    go : (b : Bool) → leb 7 i ≡ b → cond b 0 (i + 1) ≡ (i + 1) % 8
    go true e = let l = leb-true 7 i e in omega arith
    go false e = let l = leb-false 7 i e in omega arith

-- How many numbers c lies after i, 1 to 8.
abbrev pub gap : ℕ → ℕ → ℕ
gap i c = (c + 7 - i) % 8 + 1

-- The outcome of a search from i, for a c that fits.
pub record Reached (fits : ℕ → Bool) (i c j : ℕ) : Type 0 where
  pub small : j < 8
  pub good : fits j ≡ true
  pub nearer : (j ≡ c) ⊎ (gap j c < gap i c)

-- The number after i is c, or lies one nearer to it.
after_gap : (i c : ℕ) → i < 8 → c < 8 → (after i ≡ c) ⊎ (gap (after i) c + 1 ≡ gap i c)
after_gap i c h k = go (leb 7 i) refl
  where
    at : (j : ℕ) → j ≡ (i + 1) % 8 → (j ≡ c) ⊎ (gap j c + 1 ≡ gap i c)
    at j e = by_gap (leb (gap i c) 1) refl
      where
        by_gap : (b : Bool) → leb (gap i c) 1 ≡ b → (j ≡ c) ⊎ (gap j c + 1 ≡ gap i c)
        by_gap true q = let l = leb-true (gap i c) 1 q in inl (omega arith)
        by_gap false q = let l = leb-false (gap i c) 1 q in inr (omega arith)

    go : (b : Bool) → leb 7 i ≡ b → (cond b 0 (i + 1) ≡ c) ⊎ (gap (cond b 0 (i + 1)) c + 1 ≡ gap i c)
    go true e = let l = leb-true 7 i e in at 0 (omega arith)
    go false e = let l = leb-false 7 i e in at (i + 1) (omega arith)

-- Where c fits, a search that goes far enough ends at a number that fits, at c or nearer to it than i.
pub reach : (k : ℕ) (fits : ℕ → Bool) (i c : ℕ) → i < 8 → c < 8 → fits c ≡ true → gap i c ≤ k → Reached fits i c (first_from k fits i)
unfolding first_from
reach zero fits i c hi hc f g = absurd (nogap g)
  where
    nogap : gap i c ≤ 0 → ⊥
    nogap q = omega arith
reach (suc k) fits i c hi hc f g = go (fits (after i)) refl (λ h q. reach k fits (after i) c h hc f q)
  where
    jm : after i ≡ (i + 1) % 8
    jm = after_mod i hi

    near : (after i ≡ c) ⊎ (gap (after i) c + 1 ≡ gap i c) → (after i ≡ c) ⊎ (gap (after i) c < gap i c)
    near (inl q) = inl q
    near (inr q) = inr (omega (arith, q))

    on : (x : ℕ) → gap (after i) c + 1 ≡ gap i c → (x ≡ c) ⊎ (gap x c < gap (after i) c) → (x ≡ c) ⊎ (gap x c < gap i c)
    on x q (inl z) = inl z
    on x q (inr z) = inr (omega (arith, q, z))

    more : fits (after i) ≡ false → (x : ℕ) → (after i < 8 → gap (after i) c ≤ k → Reached fits (after i) c x) → (after i ≡ c) ⊎ (gap (after i) c + 1 ≡ gap i c) → Reached fits i c x
    more e x rec (inl q) = absurd (true≢false (sym f ∙ ap fits (sym q) ∙ e))
    more e x rec (inr q) =
        let r = rec (omega (arith, jm)) (omega (arith, q)) in
        record { small = r.small; good = r.good; nearer = on x q r.nearer }

    go : (b : Bool) → fits (after i) ≡ b → (after i < 8 → gap (after i) c ≤ k → Reached fits (after i) c (first_from k fits (after i))) → Reached fits i c (cond b (after i) (first_from k fits (after i)))
    go true e rec = record { small = omega (arith, jm); good = e; nearer = near (after_gap i c hi hc) }
    go false e rec = more e (first_from k fits (after i)) rec (after_gap i c hi hc)

-- A search ends at a caller's number or at nobody.
pub first_small : (k : ℕ) (fits : ℕ → Bool) (i : ℕ) → i < 8 → first_from k fits i ≤ 8
unfolding first_from
first_small zero fits i h = omega arith
first_small (suc k) fits i h = go (fits (after i)) (first_small k fits (after i) (omega (arith, after_mod i h)))
  where
    go : (b : Bool) → first_from k fits (after i) ≤ 8 → cond b (after i) (first_from k fits (after i)) ≤ 8
    go true q = omega (arith, after_mod i h)
    go false q = q

-- One that ends at a caller's number ends at one that fits.
pub first_held : (k : ℕ) (fits : ℕ → Bool) (i : ℕ) → first_from k fits i < 8 → fits (first_from k fits i) ≡ true
unfolding first_from
first_held zero fits i h = absurd (never 8 (omega arith) h)
first_held (suc k) fits i h = go (fits (after i)) refl h (first_held k fits (after i))
  where
    go : (b : Bool) → fits (after i) ≡ b → cond b (after i) (first_from k fits (after i)) < 8 → (first_from k fits (after i) < 8 → fits (first_from k fits (after i)) ≡ true)
        → fits (cond b (after i) (first_from k fits (after i))) ≡ true
    go true e q rec = e
    go false e q rec = rec q

-- ---- the search, step by step, as the loop goes

pub after_lt : (i : ℕ) → after i < 8
after_lt i = go (leb 7 i) refl
  where
    go : (b : Bool) → leb 7 i ≡ b → cond b 0 (i + 1) < 8
    go true e = omega arith
    go false e = let l = leb-false 7 i e in omega arith

-- It ends at the next number,
pub first_here : (m : ℕ) (fits : ℕ → Bool) (i : ℕ) → 0 < m → fits (after i) ≡ true → first_from m fits i ≡ after i
unfolding first_from
first_here zero fits i h e = absurd (no h)
  where
    no : 0 < 0 → ⊥
    no q = omega arith
first_here (suc m) fits i h e = ap (λ (b : Bool). cond b (after i) (first_from m fits (after i))) e

-- goes on from there,
pub first_on : (m : ℕ) (fits : ℕ → Bool) (i : ℕ) → 0 < m → fits (after i) ≡ false → first_from m fits i ≡ first_from (m - 1) fits (after i)
unfolding first_from
first_on zero fits i h e = absurd (no h)
  where
    no : 0 < 0 → ⊥
    no q = omega arith
first_on (suc m) fits i h e = ap (λ (b : Bool). cond b (after i) (first_from m fits (after i))) e ∙ ap (λ (k : ℕ). first_from k fits (after i)) (sub m)
  where
    sub : (k : ℕ) → k ≡ suc k - 1
    sub k = omega arith

-- or ends at nobody.
pub first_end : (m : ℕ) (fits : ℕ → Bool) (i : ℕ) → m ≡ 0 → first_from m fits i ≡ 8
unfolding first_from
first_end m fits i e = ap (λ (k : ℕ). first_from k fits i) e
