-- `call` says what the driver's functions do: whatever meets a function's contract is what `call` says of it.
use Rattle.std.specs.Prelude.{◌≡◌, Bool, List, ℕ, length, Option, Result}
use Rattle.pool.specs.declared.pipe.PipeNumber.{PipeNumber}
use Rattle.transfers.specs.declared.host_controller.TransferExtras.{TransferExtras}
use Rattle.transfers.specs.declared.host_controller.InterruptPacket.{InterruptPacket}
use Rattle.transfers.specs.declared.sample.Sample.{Sample}
use Rattle.transfers.specs.declared.control.Begun.{Begun}
use Rattle.transfers.specs.declared.control.Stepped.{Stepped}
use Rattle.transfers.specs.declared.pipes.PipeSample.{PipeSample}
use Rattle.transfers.specs.declared.irq.Woken.{Woken}
use Rattle.transfers.specs.declared.driver.Driver.{Driver}
use Rattle.transfers.specs.Log.{logged}
use Rattle.transfers.specs.Calls.{step_of, cancel_of}
use Rattle.transfers.specs.Driver.{begun, stepped, dropped, DidBegin, DidStep}
use Rattle.transfers.specs.Pipes.{opening, closing, polling, DidOpen, DidPoll}
use Rattle.transfers.specs.Irq.{waking, DidWake}
use Rattle.transfers.specs.Detect.{detecting, DidDetect}
use Rattle.record.specs.Calls.{Begin, begin, step, cancel, open_pipe, close_pipe, poll_pipe, interrupt, detect, beginning, call}
use Rattle.transfers.specs.declared.refusal.Refusal.{Refusal}
use Rattle.transfers.specs.declared.host_controller.DeviceStatus.{DeviceStatus}
use Rattle.transfers.specs.declared.pipes.Poll.{Poll}

-- Call by call: the whole result, and of it the next state, the answer, what was armed and the count; packet memory and the log at exit; how many writes are said.
pub record Ties : Type 0 where
  pub begins : (d : Driver) (x : Begin) (buf m log : List ℕ) (r : Begun Driver) (m' l' : List ℕ) → DidBegin d (beginning d.transfer x buf m log) log r m' l'
      → let o = call d (begin x buf m log) in
      (r ≡ begun d (beginning d.transfer x buf m log)) × (r.next ≡ o.next) × (r.answer ≡ o.answer) × (r.armed ≡ o.armed) × (m' ≡ o.memory) × (l' ≡ logged log 0 o.writes)
  pub steps : (d : Driver) (b : Bool) (y : Sample) (buf m log : List ℕ) (r : Stepped) (m' l' : List ℕ) → DidStep d (step_of b d.transfer y buf m log) log r m' l'
      → let o = call d (step b y buf m log) in
      (r ≡ stepped d (step_of b d.transfer y buf m log)) × (r.next ≡ o.next) × (r.answer ≡ o.answer) × (r.armed ≡ o.armed) × (r.failed ≡ o.failed) × (m' ≡ o.memory) × (l' ≡ logged log 0 o.writes)
  pub cancels : (d : Driver) → let r = dropped d (cancel_of d.transfer) in let o = call d cancel in (r.next ≡ o.next) × (r.answer ≡ o.answer) × (r.failed ≡ o.failed)
  pub opens : (d : Driver) (a : ℕ) (x : TransferExtras) (e p i : ℕ) (log : List ℕ) (next : Driver) (b : Result PipeNumber Refusal) (k : ℕ) (l' : List ℕ) → DidOpen (opening d a x e p i log) next b k log l'
      → let o = call d (open_pipe a x e p i log) in (next ≡ o.next) × (b ≡ o.answer) × (l' ≡ logged log 0 o.writes) × (k ≡ length o.writes)
  pub closes : (d : Driver) (n : PipeNumber) → let r = closing d n in let o = call d (close_pipe n) in (r.next ≡ o.next) × (r.answer ≡ o.answer)
  pub polls : (d : Driver) (n : PipeNumber) (y : PipeSample) (m log : List ℕ) (next : Driver) (b : Result Poll Refusal) (p : InterruptPacket) (k : ℕ) (l' : List ℕ)
      → DidPoll (polling d n y m log) next b p k log l' → let o = call d (poll_pipe n y m log) in
      (next ≡ o.next) × (b ≡ o.answer) × (p ≡ (polling d n y m log).packet) × (l' ≡ logged log 0 o.writes) × (k ≡ length o.writes)
  pub wakes : (d : Driver) (ints status : ℕ) (log : List ℕ) (r : Woken) (l' : List ℕ) → DidWake (waking ints status log) r log l'
      → let o = call d (interrupt ints status log) in (d ≡ o.next) × (r.answer ≡ o.answer) × (l' ≡ logged log 0 o.writes) × (r.writes ≡ length o.writes)
  pub detects : (d : Driver) (sie : ℕ) (log : List ℕ) (next : Driver) (b : Result (Option DeviceStatus) Refusal) (k : ℕ) (l' : List ℕ) → DidDetect (detecting d sie log) next b k log l'
      → let o = call d (detect sie log) in (next ≡ o.next) × (b ≡ o.answer) × (l' ≡ logged log 0 o.writes) × (k ≡ length o.writes)
