-- The driver calls of term 3: "begin, step, cancel, open, close, poll, interrupt routine and detection", each with all its arguments and what it is lent.
use Rattle.std.specs.Prelude.{Bool, List, [], ℕ, None, Option, Result}
use Rattle.pool.specs.declared.pipe.PipeNumber.{PipeNumber}
use Rattle.cutting.specs.declared.transfer_type.TransferType.{TransferType}
use Rattle.transfers.specs.declared.host_controller.DataPhase.{DataPhase}
use Rattle.transfers.specs.declared.host_controller.TransferExtras.{TransferExtras}
use Rattle.transfers.specs.declared.wire.SetupPacket.{SetupPacket}
use Rattle.transfers.specs.declared.wire.Direction.{Direction}
use Rattle.transfers.specs.declared.wire.Direction.TheVariants.{In, Out}
use Rattle.transfers.specs.declared.sample.Sample.{Sample}
use Rattle.transfers.specs.declared.answers.Armed.{Armed}
use Rattle.transfers.specs.declared.pipes.PipeSample.{PipeSample}
use Rattle.transfers.specs.declared.driver.Driver.{Driver}
use Rattle.transfers.specs.Log.{Write}
use Rattle.transfers.specs.Answers.{nothing_armed}
use Rattle.transfers.specs.Outcome.{Outcome}
use Rattle.transfers.specs.Calls.{step_of, cancel_of, Beginning, begin_control_of, begin_bulk_in_of, begin_bulk_out_of}
use Rattle.transfers.specs.Pipes.{opening, closing, polling}
use Rattle.transfers.specs.Irq.{waking}
use Rattle.transfers.specs.Detect.{detecting}
use Rattle.transfers.specs.Driver.{begun as begun_of, stepped as stepped_of, dropped}
use Rattle.transfers.specs.declared.refusal.Refusal.{Refusal}
use Rattle.transfers.specs.declared.answers.Step.{Step}
use Rattle.transfers.specs.declared.host_controller.DeviceStatus.{DeviceStatus}
use Rattle.transfers.specs.declared.irq.Wake.{Wake}
use Rattle.transfers.specs.declared.driver.Run.{Run}
use Rattle.transfers.specs.declared.pipes.Poll.{Poll}

-- What a begin asks for: a control (address, extras, packet size, SETUP, phase) or a bulk transfer (direction, address, endpoint, packet size, type, toggle).
pub data Begin : Type 0 where
  control_begin : ℕ → TransferExtras → ℕ → SetupPacket → DataPhase → Begin
  bulk_begin : Direction → ℕ → ℕ → ℕ → TransferType → Bool → Begin

-- A begin and a step are lent a buffer, packet memory and a log; a poll packet memory and a log; open (address, extras, endpoint, packet size, interval),
-- the interrupt routine (INTS, BUFF_STATUS) and detection (SIE_STATUS) a log. A step is `step_in` (true) or `step_out` (false).
pub data Call : Type 0 where
  begin : Begin → List ℕ → List ℕ → List ℕ → Call
  step : Bool → Sample → List ℕ → List ℕ → List ℕ → Call
  cancel : Call
  open_pipe : ℕ → TransferExtras → ℕ → ℕ → ℕ → List ℕ → Call
  close_pipe : PipeNumber → Call
  poll_pipe : PipeNumber → PipeSample → List ℕ → List ℕ → Call
  interrupt : ℕ → ℕ → List ℕ → Call
  detect : ℕ → List ℕ → Call

-- The answers of a call: results and refusals.
abbrev pub Answer : Call → Type 0
Answer (begin x buf m log) = Result (Unit {0}) Refusal
Answer (step b y buf m log) = Result Step Refusal
Answer cancel = Result (Unit {0}) Refusal
Answer (open_pipe a x e p i log) = Result PipeNumber Refusal
Answer (close_pipe n) = Result (Unit {0}) Refusal
Answer (poll_pipe n y m log) = Result Poll Refusal
Answer (interrupt ints status log) = Result Wake Refusal
Answer (detect sie log) = Result (Option DeviceStatus) Refusal

-- What a call does: the next state, the answer, the writes that its log holds in order (`logged` of transfers), packet memory as it leaves it, what it answers that it armed, and the count that it answers for a transfer that failed.
pub record Effect (c : Call) : Type 0 where
  pub next : Driver
  pub answer : Answer c
  pub writes : List Write
  pub memory : List ℕ
  pub armed : Armed
  pub failed : Option ℕ

-- A begin of the three: `begin_control`, `begin_bulk_in`, `begin_bulk_out`.
abbrev pub beginning : Option Run → Begin → List ℕ → List ℕ → List ℕ → Beginning
beginning t (control_begin a x p s ph) buf m log = begin_control_of t a x p s ph buf m log
beginning t (bulk_begin In a e p k b) buf m log = begin_bulk_in_of t a e p k b buf m log
beginning t (bulk_begin Out a e p k b) buf m log = begin_bulk_out_of t a e p k b buf m log

-- The driver's begin, by what it hands back.
abbrev pub begins : Driver → (x : Begin) (buf m log : List ℕ) → Beginning → Effect (begin x buf m log)
begins d x buf m log o = let r = begun_of d o in record { next = r.next; answer = r.answer; writes = o.writes; memory = o.memory; armed = r.armed; failed = None }

-- The driver's step, the same way.
abbrev pub steps : Driver → (b : Bool) (y : Sample) (buf m log : List ℕ) → Outcome → Effect (step b y buf m log)
steps d b y buf m log o = let r = stepped_of d o in record { next = r.next; answer = r.answer; writes = o.writes; memory = o.memory; armed = r.armed; failed = r.failed }

-- A call, by the definitions that the driver's functions are proved equal to (`Ties`). Only begin and step store in packet memory and arm.
unfoldable pub call : Driver → (c : Call) → Effect c
call d (begin x buf m log) = begins d x buf m log (beginning d.transfer x buf m log)
call d (step b y buf m log) = steps d b y buf m log (step_of b d.transfer y buf m log)
call d cancel = let r = dropped d (cancel_of d.transfer) in record { next = r.next; answer = r.answer; writes = []; memory = []; armed = nothing_armed; failed = r.failed }
call d (open_pipe a x e p i log) = let o = opening d a x e p i log in record { next = o.next; answer = o.answer; writes = o.writes; memory = []; armed = nothing_armed; failed = None }
call d (close_pipe n) = let o = closing d n in record { next = o.next; answer = o.answer; writes = []; memory = []; armed = nothing_armed; failed = None }
call d (poll_pipe n y m log) = let o = polling d n y m log in record { next = o.next; answer = o.answer; writes = o.writes; memory = m; armed = nothing_armed; failed = None }
call d (interrupt ints status log) = let o = waking ints status log in record { next = d; answer = o.answer; writes = o.writes; memory = []; armed = nothing_armed; failed = None }
call d (detect sie log) = let o = detecting d sie log in record { next = o.next; answer = o.answer; writes = o.writes; memory = []; armed = nothing_armed; failed = None }
