-- Laws of pools: which index is handed out, when none is, and that a freed index is used again. Assumes nothing.
use Rattle.std.specs.Prelude.{None, Some}
use Prim.Native.Nat.{ℕ, min, ◌<◌, ◌≤◌, ◌^◌}
use mathlib.Core.Path.{◌≡◌, refl, ap, sym, ◌∙◌}
use mathlib.Core.Bool.{Bool, true, false, cond, not, ◌&&◌, ◌||◌}
use native.Mathlib.Omega.{arith}
use borrow.Author.Tests.{ltb-true, ltb-false, lt-ltb, eqb-true, eq-eqb, ne_eqb}
use lib.Dec.{eqb, ltb}
use Rattle.pool.specs.declared.async_pool.Pool.{Pool}
use Rattle.pool.specs.declared.async_pool.PoolIndex.{PoolIndex}
use Rattle.pool.specs.Set.{has, insert, remove, lowest_out}
use Rattle.pool.specs.Pool.{hand_out, alloc_of, free_of}
use Rattle.pool.proofs.Sets.{has_remove, remove_none, set_of_is, lowest_out_no, lowest_out_below, lowest_out_is}

-- An index that is handed out was not allocated and is below the total.
pub alloc_some : (p : Pool) (i : PoolIndex) → (alloc_of p).index ≡ Some i
    → (alloc_of p ≡ hand_out p i.0) × (i.0 < min p.total 32) × (has p.allocated.0 i.0 ≡ false)
unfolding alloc_of
alloc_some p i = go (lowest_out s) (lowest_out_no s) (ltb (lowest_out s) (min p.total 32)) refl
  where
    s : ℕ
    s = p.allocated.0

    go : (low : ℕ) → (low < 32 → has s low ≡ false) → (b : Bool) → ltb low (min p.total 32) ≡ b
        → (cond b (hand_out p low) (record { pool = p; index = None })).index ≡ Some i
        → (cond b (hand_out p low) (record { pool = p; index = None }) ≡ hand_out p i.0)
        × (i.0 < min p.total 32) × (has s i.0 ≡ false)
    go low out true t e =
        let same : low ≡ i.0 = cc in
        let under = ltb-true low (min p.total 32) t in
        (ap (hand_out p) same, omega arith, rw (← same) (out (omega arith)))
    go low out false t e = absurd (let z : ◌≡◌ {A = ℕ} 0 1 = cc in omega arith)

-- None is handed out only where every index below the total is allocated, and the pool stays as it is.
pub alloc_none : (p : Pool) → (alloc_of p).index ≡ None
    → ((alloc_of p).pool ≡ p) × ((k : ℕ) → k < min p.total 32 → has p.allocated.0 k ≡ true)
unfolding alloc_of
alloc_none p = go (lowest_out s) (lowest_out_below s) (ltb (lowest_out s) (min p.total 32)) refl
  where
    s : ℕ
    s = p.allocated.0

    go : (low : ℕ) → ((k : ℕ) → k < low → has s k ≡ true) → (b : Bool) → ltb low (min p.total 32) ≡ b
        → (cond b (hand_out p low) (record { pool = p; index = None })).index ≡ None
        → ((cond b (hand_out p low) (record { pool = p; index = None })).pool ≡ p)
        × ((k : ℕ) → k < min p.total 32 → has s k ≡ true)
    go low below true t e = absurd (let z : ◌≡◌ {A = ℕ} 0 1 = cc in omega arith)
    go low below false t e = (refl, λ k h. below k (omega (arith, ltb-false low (min p.total 32) t)))

-- An index that was not allocated is not freed, and the pool stays as it is.
pub free_none : (p : Pool) (i : PoolIndex) → p.allocated.0 < 2 ^ 32 → has p.allocated.0 i.0 ≡ false
    → free_of p i ≡ record { pool = p; was = false }
unfolding free_of
free_none p i h e = rw (e, remove_none p.allocated.0 i.0 h e)

back : (b t : Bool) → (t ≡ true → b ≡ true) → b ≡ ((b && not t) || t)
back true true h = refl
back true false h = refl
back false true h = h refl
back false false h = refl

-- Removed and inserted, a member leaves the set as it was.
pub insert_remove : (s n : ℕ) → s < 2 ^ 32 → has s n ≡ true → insert (remove s n) n ≡ s
unfolding insert
insert_remove s n h e =
    set_of_is s (λ k. has (remove s n) k || eqb k n) h
    (λ k l. back (has s k) (eqb k n) (λ t. ap (has s) (eqb-true k n t) ∙ e)
    ∙ ap (λ b. b || eqb k n) (sym (has_remove s n k ∙ ap (λ b. b && (has s k && not (eqb k n))) (lt-ltb k 32 l))))

-- Where every index below i is allocated, and i too, free of i and then alloc gives i again, and the pool as it was.
pub used_again : (p : Pool) (i : PoolIndex) → p.allocated.0 < 2 ^ 32 → i.0 < min p.total 32
    → ((k : ℕ) → k ≤ i.0 → has p.allocated.0 k ≡ true) → alloc_of (free_of p i).pool ≡ record { pool = p; index = Some i }
unfolding alloc_of free_of
used_again p i h l all =
    let s = p.allocated.0 in
    let n = i.0 in
    let low : lowest_out (remove s n) ≡ n
    = lowest_out_is (remove s n) n (omega arith)
    (λ k q. has_remove s n k ∙ rw (lt-ltb k 32 (omega arith), all k (omega arith), ne_eqb k n (λ e. omega arith)))
    (has_remove s n n ∙ rw (lt-ltb n 32 (omega arith), all n (omega arith), eq-eqb n n refl)) in
    rw (low, lt-ltb n (min p.total 32) l, insert_remove s n h (all n (omega arith)))
