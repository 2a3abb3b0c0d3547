-- The state of the interrupt pipes, call by call: the pipe that the call names, and every other one as it was.
use Rattle.std.specs.Prelude.{◌≡◌, true, false, not, List, ℕ, ◌≤◌, Ok}
use Rattle.pool.specs.declared.pipe.PipeNumber.{PipeNumber}
use Rattle.transfers.specs.declared.host_controller.TransferExtras.{TransferExtras}
use Rattle.transfers.specs.declared.driver.Driver.{Driver}
use Rattle.transfers.specs.declared.driver.Pipes.{Pipes}
use Rattle.transfers.specs.declared.pipes.PipeSample.{PipeSample}
use Rattle.transfers.specs.Pipes.{opening, closing, polling}
use Rattle.transfers.specs.Isolation.{is_open, held_of, Whole, SamePipe}
use Rattle.transfers.specs.declared.pipes.Poll.TheVariants.{Packet, Waiting}

-- "index 0 to 14 is pipe 1 to 15": every pipe but n is as it was, open or not, its size and its toggle.
abbrev pub OthersSame : PipeNumber → Pipes → Pipes → Type 0
OthersSame n ps ps' = (k : PipeNumber) → 1 ≤ k.0 → k.0 ≤ 15 → (k.0 ≡ n.0 → ⊥) → SamePipe k ps ps'

-- A pipe that was not open is open with the caller's packet size, and starts with DATA0.
pub record AfterOpen (n : PipeNumber) (p : ℕ) (ps ps' : Pipes) : Type 0 where
  pub shut : is_open ps.opened n ≡ false
  pub opened : is_open ps'.opened n ≡ true
  pub size : (held_of ps' n).size ≡ p
  pub toggle : (held_of ps' n).toggle ≡ false
  pub others : OthersSame n ps ps'

-- "Closing is a call": a pipe that was open is not; its size and its toggle stay.
pub record AfterClose (n : PipeNumber) (ps ps' : Pipes) : Type 0 where
  pub opened : is_open ps.opened n ≡ true
  pub shut : is_open ps'.opened n ≡ false
  pub size : (held_of ps' n).size ≡ (held_of ps n).size
  pub toggle : (held_of ps' n).toggle ≡ (held_of ps n).toggle
  pub others : OthersSame n ps ps'

-- "A packet flips the toggle": the pipe was open and still is, and its size stays.
pub record AfterPacket (n : PipeNumber) (ps ps' : Pipes) : Type 0 where
  pub opened : is_open ps.opened n ≡ true
  pub still : is_open ps'.opened n ≡ true
  pub size : (held_of ps' n).size ≡ (held_of ps n).size
  pub toggle : (held_of ps' n).toggle ≡ not (held_of ps n).toggle
  pub others : OthersSame n ps ps'

-- For every driver value of 15 pipes and whatever is lent.
pub record PipeStates : Type 0 where
  pub open_pipe : (d : Driver) (address : ℕ) (extras : TransferExtras) (endpoint size interval : ℕ) (log : List ℕ) (n : PipeNumber) → Whole d
      → (opening d address extras endpoint size interval log).answer ≡ Ok n
      → AfterOpen n size d.pipes (opening d address extras endpoint size interval log).next.pipes
  pub close_pipe : (d : Driver) (n : PipeNumber) → Whole d → (closing d n).answer ≡ Ok tt → AfterClose n d.pipes (closing d n).next.pipes
  pub poll_packet : (d : Driver) (n : PipeNumber) (s : PipeSample) (pm log : List ℕ) → Whole d
      → (polling d n s pm log).answer ≡ Ok Packet → AfterPacket n d.pipes (polling d n s pm log).next.pipes
  pub poll_waiting : (d : Driver) (n : PipeNumber) (s : PipeSample) (pm log : List ℕ)
      → (polling d n s pm log).answer ≡ Ok Waiting → (polling d n s pm log).next.pipes ≡ d.pipes
