-- A pool's index and a pipe's number are counted apart: index 0 to 14 is pipe 1 to 15.
use Rattle.std.specs.Prelude.{◌≡◌, ℕ, ◌+◌, ◌-◌, ◌<◌, cond, ◌&&◌, leb, ltb, None, Option, Some}
use Rattle.pool.specs.declared.async_pool.PoolIndex.{PoolIndex}
use Rattle.pool.specs.declared.pipe.PipeNumber.{PipeNumber}

-- Pipes are counted from 1, indices from 0.
abbrev pub offset : ℕ
offset = 1

-- There are 15 pipes.
abbrev pub pipes : ℕ
pipes = 15

-- The pipe of an index.
unfoldable pub pipe_of : PoolIndex → Option PipeNumber
pipe_of i = cond (ltb i.0 pipes) (Some (record { 0 = i.0 + offset })) None

-- The index of a pipe.
unfoldable pub index_of : PipeNumber → Option PoolIndex
index_of n = cond (leb offset n.0 && ltb (n.0 - offset) pipes) (Some (record { 0 = n.0 - offset })) None

-- Pipe n has index i.
abbrev pub Counted : PoolIndex → PipeNumber → Type 0
Counted i n = (n.0 ≡ i.0 + offset) × (i.0 < pipes)
