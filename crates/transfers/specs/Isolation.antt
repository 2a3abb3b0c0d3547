-- "Two runs that agree on pipe n's being open, its packet size, sample, area, toggle and lent lengths answer a poll of n alike, though every other pipe differs."
use Rattle.std.specs.Prelude.{◌≡◌, ℕ, ◌-◌, Bool, true, false, List, length, take, drop, slice_index_or, None, Option, Some}
use Rattle.pool.specs.declared.bitset.BitSet.{BitSet}
use Rattle.pool.specs.declared.pipe.PipeNumber.{PipeNumber}
use Rattle.pool.specs.Pipe.{offset, pipes}
use Rattle.transfers.specs.declared.driver.Driver.{Driver}
use Rattle.transfers.specs.declared.driver.Pipes.{Pipes}
use Rattle.transfers.specs.declared.driver.Pipe.{Pipe}
use Rattle.transfers.specs.declared.pipes.PipeSample.{PipeSample}
use Rattle.transfers.specs.Memory.{MemoryFits}
use Rattle.transfers.specs.Pipes.{no_pipe, pipe_area, index_open, Polling, polling}
use Rattle.pool.specs.declared.async_pool.PoolIndex.{PoolIndex}

-- There is an index.
abbrev pub is_some : Option PoolIndex → Bool
is_some (Some at) = true
is_some None = false

-- Pipe n is open.
abbrev pub is_open : BitSet → PipeNumber → Bool
is_open s n = is_some (index_open s n)

-- What is held of pipe n.
abbrev pub held_of : Pipes → PipeNumber → Pipe
held_of ps n = slice_index_or ps.each (n.0 - offset) no_pipe

-- Every value of the type has 15 pipes.
abbrev pub Whole : Driver → Type 0
Whole d = length d.pipes.each ≡ pipes

-- The states agree on pipe n.
pub record SamePipe (n : PipeNumber) (ps ps' : Pipes) : Type 0 where
  pub opened : is_open ps.opened n ≡ is_open ps'.opened n
  pub size : (held_of ps n).size ≡ (held_of ps' n).size
  pub toggle : (held_of ps n).toggle ≡ (held_of ps' n).toggle

-- What is lent agrees: the lengths, and 64 bytes of pipe n's area.
pub record SameLent (n : PipeNumber) (pm pm' log log' : List ℕ) : Type 0 where
  pub bytes : length pm ≡ length pm'
  pub words : length log ≡ length log'
  pub area : MemoryFits pm → take 64 (drop (pipe_area n.0) pm) ≡ take 64 (drop (pipe_area n.0) pm')

-- The polls are alike: answer, packet and writes, and then the states agree on pipe n again.
pub record SamePoll (n : PipeNumber) (e e' : Polling Driver) : Type 0 where
  pub answer : e.answer ≡ e'.answer
  pub packet : e.packet ≡ e'.packet
  pub writes : e.writes ≡ e'.writes
  pub next : SamePipe n e.next.pipes e'.next.pipes

-- "Two runs that agree on pipe n's being open, its packet size, sample, area, toggle and lent lengths answer a poll of n alike"
abbrev pub Isolated : Type 0
Isolated =
    (n : PipeNumber) (s : PipeSample) (d d' : Driver) (pm pm' log log' : List ℕ) → Whole d → Whole d'
    → SamePipe n d.pipes d'.pipes → SameLent n pm pm' log log' → SamePoll n (polling d n s pm log) (polling d' n s pm' log')
