-- A control transfer from one stage to the next, step by step: whom each stage is for, which way it goes and how long it is, by the registers that the step's whole log leaves.
-- Of the driver it takes the calls, their answers, and the types of its state.
use Rattle.std.specs.Prelude.{◌≡◌, Bool, true, false, List, ℕ, eqb, length, None, Ok, Option, Some}
use Rattle.transfers.specs.declared.host_controller.DataPhase.{DataPhase}
use Rattle.transfers.specs.declared.host_controller.DataPhase.TheVariants.{In as phase_in, Out as phase_out, None as phase_none}
use Rattle.transfers.specs.declared.host_controller.TransferExtras.{TransferExtras}
use Rattle.transfers.specs.declared.wire.SetupPacket.{SetupPacket}
use Rattle.transfers.specs.declared.wire.Direction.{Direction}
use Rattle.transfers.specs.declared.wire.Direction.TheVariants.{In, Out}
use Rattle.transfers.specs.declared.sample.Sample.{Sample}
use Rattle.transfers.specs.declared.driver.Request.{Request}
use Rattle.transfers.specs.declared.driver.Kind.TheVariants.{Control as control}
use Rattle.transfers.specs.declared.driver.Stage.{Stage}
use Rattle.transfers.specs.declared.driver.Stage.TheVariants.{Setup as setup_stage, In as in_stage, Out as out_stage}
use Rattle.transfers.specs.Log.{Write}
use Rattle.transfers.specs.Outcome.{Outcome}
use Rattle.transfers.specs.Calls.{step_of, begin_control_of}
use Rattle.transfers.specs.Apart.{Every}
use Rattle.rules.specs.Datasheet.{PointsAt, Starts}
use Rattle.rules.specs.Received.{ends_stage}
use Rattle.transfers.specs.declared.answers.Step.TheVariants.{Waiting}
use Rattle.transfers.specs.declared.driver.Run.{Run}

-- ---- the stages

-- "The control stages go SETUP, data, status": the one under way, and its direction.
pub data ControlStage : Type 0 where
  setup_now : ControlStage
  data_now : Direction → ControlStage
  status_now : Direction → ControlStage

-- A stage after SETUP, by whether it is the status.
abbrev pub later_stage : Bool → Direction → ControlStage
later_stage false d = data_now d
later_stage true d = status_now d

-- The stage that a state is in.
abbrev pub stage_now : Stage → ControlStage
stage_now setup_stage = setup_now
stage_now (in_stage st) = later_stage st.status In
stage_now (out_stage st) = later_stage st.status Out

-- The other direction.
abbrev pub opposite : Direction → Direction
opposite In = Out
opposite Out = In

-- "SETUP, data, status of the other direction"; with no data the status is IN (USB 2.0 8.5.3). After the status comes another transfer's SETUP.
abbrev pub following : ControlStage → DataPhase → ControlStage
following setup_now phase_in = data_now In
following setup_now phase_out = data_now Out
following setup_now phase_none = status_now In
following (data_now d) ph = status_now (opposite d)
following (status_now d) ph = setup_now

-- Its direction; SETUP goes OUT.
abbrev pub direction_now : ControlStage → Direction
direction_now setup_now = Out
direction_now (data_now d) = d
direction_now (status_now d) = d

-- Its length: SETUP has 8 bytes, data wLength, a status none.
abbrev pub bytes_now : ℕ → ControlStage → ℕ
bytes_now wLength setup_now = 8
bytes_now wLength (data_now d) = wLength
bytes_now wLength (status_now d) = 0

-- ---- a step

-- What is kept of a control: address, packet size, phase, wLength, and the length of the caller's buffer.
abbrev pub control_request : ℕ → ℕ → DataPhase → ℕ → ℕ → Request
control_request a p ph wLength n = record { address = a; size = p; kind = control (record { phase = ph; wLength = wLength }); length = n }

-- A stage of n bytes begins: the state says so and keeps the request, and the whole log points at endpoint 0 of the request's address and starts in the stage's direction.
pub record Enters (x : Request) (g : ControlStage) (n old : ℕ) (o : Outcome) : Type 0 where
  pub stage : Stage
  pub next : o.next ≡ Some (record { request = x; stage = stage })
  pub now : stage_now stage ≡ g
  pub points : PointsAt x.address 0 x.size n old o.writes
  pub starts : Starts (direction_now g) old o.writes

-- No write is to register q.
abbrev pub Leaves : ℕ → List Write → Type 0
Leaves q = Every (λ r m v. eqb q r ≡ false)

-- No transaction is started, and none is pointed elsewhere: SIE_CTRL, ADDR_ENDP and EPX_CONTROL aren't written.
pub record StartsNone (ws : List Write) : Type 0 where
  pub sie : Leaves 0x5011_004C ws
  pub whom : Leaves 0x5011_0000 ws
  pub epx : Leaves 0x5010_0100 ws

-- The transfer has ended, or goes on in the same stage with the same request.
pub data Remains (x : Request) (st : Stage) (t : Option Run) : Type 0 where
  over : t ≡ None → Remains x st t
  onward : (st' : Stage) → t ≡ Some (record { request = x; stage = st' }) → stage_now st' ≡ stage_now st → Remains x st t

-- On any state under way, and whatever the sample shows, is lent, or stands in the registers before:
pub record ControlStages : Type 0 where
  -- A begin that is accepted keeps the caller's address, packet size, phase and wLength, and is in SETUP.
  pub begin : (t : Option Run) (a : ℕ) (x : TransferExtras) (p : ℕ) (s : SetupPacket) (ph : DataPhase) (lent m log : List ℕ) → let o = begin_control_of t a x p s ph lent m log in
      o.answer ≡ Ok tt → o.next ≡ Some (record { request = control_request a p ph s.wLength (length lent); stage = setup_stage })
  -- A step that finds TRANS_COMPLETE and answers waiting begins the stage that follows.
  pub enters : (filling : Bool) (a p : ℕ) (ph : DataPhase) (wLength n : ℕ) (st : Stage) (s : Sample) (lent m log : List ℕ) (again : Bool) (old : ℕ) → ends_stage s ≡ true
      → let x = control_request a p ph wLength n in
      let g = following (stage_now st) ph in
      let o = step_of filling (Some (record { request = x; stage = st })) s lent m log in
      o.answer ≡ Ok (Waiting again) → Enters x g (bytes_now wLength g) old o
  -- None follows the status.
  pub ends : (filling : Bool) (a p : ℕ) (ph : DataPhase) (wLength n : ℕ) (st : Stage) (d : Direction) (s : Sample) (lent m log : List ℕ) (again : Bool) → ends_stage s ≡ true → stage_now st ≡ status_now d
      → (step_of filling (Some (record { request = control_request a p ph wLength n; stage = st })) s lent m log).answer ≡ Ok (Waiting again) → ⊥
  -- A step that doesn't find TRANS_COMPLETE stays in its stage, bulk too.
  pub remains : (filling : Bool) (x : Request) (st : Stage) (s : Sample) (lent m log : List ℕ) → ends_stage s ≡ false
      → Remains x st (step_of filling (Some (record { request = x; stage = st })) s lent m log).next
  -- It starts nothing; nor does a step that doesn't answer waiting.
  pub starts_none : (filling : Bool) (t : Option Run) (s : Sample) (lent m log : List ℕ) → ends_stage s ≡ false → StartsNone (step_of filling t s lent m log).writes
  pub ends_none : (filling : Bool) (t : Option Run) (s : Sample) (lent m log : List ℕ) → let o = step_of filling t s lent m log in
      ((again : Bool) → o.answer ≡ Ok (Waiting again) → ⊥) → StartsNone o.writes
