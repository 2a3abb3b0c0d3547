-- What each call on a pool answers.
use Rattle.std.specs.Prelude.{ℕ, min, cond, ltb, None, Some}
use Rattle.pool.specs.declared.async_pool.Pool.{Pool}
use Rattle.pool.specs.declared.async_pool.PoolIndex.{PoolIndex}
use Rattle.pool.specs.declared.async_pool.Allocated.{Allocated}
use Rattle.pool.specs.declared.async_pool.Freed.{Freed}
use Rattle.pool.specs.Set.{has, insert, remove, lowest_out}

-- A pool of a total up to 32, nothing allocated.
unfoldable pub new_pool : ℕ → Pool
new_pool total = record { total = min total 32; allocated = record { 0 = 0 } }

-- Index i of the pool p is handed out.
abbrev pub hand_out : Pool → ℕ → Allocated
hand_out p i = record { pool = record { total = p.total; allocated = record { 0 = insert p.allocated.0 i } }; index = Some (record { 0 = i }) }

-- The lowest index that is not allocated, if it is below the total and 32; else none, and the pool stays as it is.
unfoldable pub alloc_of : Pool → Allocated
alloc_of p =
    let i = lowest_out p.allocated.0 in
    cond (ltb i (min p.total 32)) (hand_out p i) (record { pool = p; index = None })

-- The index is allocated no more; was says whether it was.
unfoldable pub free_of : Pool → PoolIndex → Freed
free_of p i = record {
  pool = record { total = p.total; allocated = record { 0 = remove p.allocated.0 i.0 } };
  was = has p.allocated.0 i.0;
}
