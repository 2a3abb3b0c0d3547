-- A pipe's number and its index lead back to each other. Assumes nothing.
use Rattle.std.specs.Prelude.{None, Some}
use Prim.Native.Nat.{ℕ, ◌+◌, ◌-◌}
use mathlib.Core.Path.{◌≡◌, refl, ap, sym}
use mathlib.Core.Bool.{Bool, true, false, cond, ◌&&◌}
use native.Mathlib.Omega.{arith}
use borrow.Author.Tests.{leb-true, ltb-true, lt-ltb, le-leb}
use lib.Dec.{leb, ltb}
use Rattle.pool.specs.declared.async_pool.PoolIndex.{PoolIndex}
use Rattle.pool.specs.declared.pipe.PipeNumber.{PipeNumber}
use Rattle.pool.specs.Pipe.{offset, pipes, pipe_of, index_of, Counted}

pub pipe_of_lem : (i : PoolIndex) (n : PipeNumber) → Counted i n → pipe_of i ≡ Some n
unfolding pipe_of
pipe_of_lem i n c = rw (lt-ltb i.0 pipes c.1) (ap (λ (x : ℕ). Some (record { 0 = x })) (sym c.0))

pub pipe_counted : (i : PoolIndex) (n : PipeNumber) → pipe_of i ≡ Some n → Counted i n
unfolding pipe_of
pipe_counted i n = go (ltb i.0 pipes) refl
  where
    go : (b : Bool) → ltb i.0 pipes ≡ b → cond b (Some (record { 0 = i.0 + offset })) None ≡ Some n → Counted i n
    go true t e = let same : record { 0 = i.0 + offset } ≡ n = cc in (ap (λ m. m.0) (sym same), ltb-true i.0 pipes t)
    go false t e = absurd (let z : ◌≡◌ {A = ℕ} 0 1 = cc in omega arith)

pub index_of_lem : (i : PoolIndex) (n : PipeNumber) → Counted i n → index_of n ≡ Some i
unfolding index_of
index_of_lem i n c =
    let same : n.0 - offset ≡ i.0 = omega arith in
    rw (le-leb offset n.0 (omega arith), same, lt-ltb i.0 pipes c.1)

pub index_counted : (i : PoolIndex) (n : PipeNumber) → index_of n ≡ Some i → Counted i n
unfolding index_of
index_counted i n = go (leb offset n.0) (ltb (n.0 - offset) pipes) refl refl
  where
    go : (a b : Bool) → leb offset n.0 ≡ a → ltb (n.0 - offset) pipes ≡ b
        → cond (a && b) (Some (record { 0 = n.0 - offset })) None ≡ Some i → Counted i n
    go true true s t e =
        let same : record { 0 = n.0 - offset } ≡ i = cc in
        let eq = ap (λ j. j.0) same in
        (omega (arith, leb-true offset n.0 s), omega (arith, ltb-true (n.0 - offset) pipes t))
    go true false s t e = absurd (let z : ◌≡◌ {A = ℕ} 0 1 = cc in omega arith)
    go false b s t e = absurd (let z : ◌≡◌ {A = ℕ} 0 1 = cc in omega arith)

pub index_of_pipe : (i : PoolIndex) (n : PipeNumber) → pipe_of i ≡ Some n → index_of n ≡ Some i
index_of_pipe i n e = index_of_lem i n (pipe_counted i n e)

pub pipe_of_index : (i : PoolIndex) (n : PipeNumber) → index_of n ≡ Some i → pipe_of i ≡ Some n
pipe_of_index i n e = pipe_of_lem i n (index_counted i n e)
