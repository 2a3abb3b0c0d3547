-- What the driver's own functions are held to: their results are those of an outcome, and the log has its writes.
use Rattle.std.specs.Prelude.{◌≡◌, ℕ, List}
use Rattle.transfers.specs.declared.log.Log.{Log}
use Rattle.transfers.specs.declared.progress.Progress.{Progress}
use Rattle.transfers.specs.Log.{Wrote}
use Rattle.transfers.specs.Puts.{Puts}
use Rattle.transfers.specs.Outcome.{Outcome}

-- An outcome told in a result.
abbrev pub told : Outcome → Progress
told o = record { next = o.next; answer = o.answer; toggle = o.toggle; moved = o.moved; armed = o.armed }

-- A function without packet memory and buffer: its result and its log.
pub record Tells (o : Outcome) (l : Log) (r : Progress) (l' : Log) : Type 0 where
  pub result : r ≡ told o
  pub log : Puts l o.writes l'

-- With packet memory.
pub record Moves (o : Outcome) (l : Log) (r : Progress) (m' : List ℕ) (l' : Log) : Type 0 where
  pub tells : Tells o l r l'
  pub memory : m' ≡ o.memory

-- With packet memory and the caller's buffer.
pub record Acts (o : Outcome) (l : Log) (r : Progress) (m' buf' : List ℕ) (l' : Log) : Type 0 where
  pub tells : Tells o l r l'
  pub memory : m' ≡ o.memory
  pub buffer : buf' ≡ o.buffer

-- A whole step, with the count of its writes, on the words lent.
pub record Steps (o : Outcome) (l : List ℕ) (r : Progress) (n : ℕ) (m' l' : List ℕ) : Type 0 where
  pub result : r ≡ told o
  pub memory : m' ≡ o.memory
  pub log : Wrote l 0 o.writes l' n
