-- "Waiting now enables trans complete and all six error interrupts. Every other write by which begin or step enables interrupts sets these seven too, its other bits as before."
-- The seven are TRANS_COMPLETE (bit 3) and DATA_SEQ, RX_TIMEOUT, RX_OVERFLOW, BIT_STUFF, CRC and STALL (bits 5 to 10) of INTE: 0x7E8.
use Rattle.std.specs.Prelude.{◌≡◌, Bool, true, false, cond, ◌⊎◌, List, [], ◌∷◌, ◌++◌, ℕ, ◌*◌, eqb, leb, length, None, Ok, Option, Some}
use Rattle.pool.specs.declared.pipe.PipeNumber.{PipeNumber}
use Rattle.cutting.specs.declared.transfer_type.TransferType.{TransferType}
use Rattle.transfers.specs.declared.host_controller.DataPhase.{DataPhase}
use Rattle.transfers.specs.declared.host_controller.TransferExtras.{TransferExtras}
use Rattle.transfers.specs.declared.wire.SetupPacket.{SetupPacket}
use Rattle.transfers.specs.declared.sample.Sample.{Sample}
use Rattle.transfers.specs.declared.pipes.PipeSample.{PipeSample}
use Rattle.transfers.specs.declared.driver.Driver.{Driver}
use Rattle.transfers.specs.declared.driver.Request.{Request}
use Rattle.transfers.specs.declared.driver.Kind.{Kind}
use Rattle.transfers.specs.declared.driver.Kind.TheVariants.{Control as control, Bulk as bulk}
use Rattle.transfers.specs.declared.driver.Stage.{Stage}
use Rattle.transfers.specs.declared.driver.Stage.TheVariants.{Setup as setup_stage, In as in_stage, Out as out_stage}
use Rattle.transfers.specs.Log.{Write, wr}
use Rattle.transfers.specs.Reply.{step_reply}
use Rattle.transfers.specs.Calls.{step_of, begin_control_of, begin_bulk_in_of, begin_bulk_out_of}
use Rattle.transfers.specs.Pipes.{opening, polling}
use Rattle.rules.specs.Received.{quiet}
use Rattle.rules.specs.HandsBack.{has_acted}
use Rattle.transfers.specs.declared.driver.Run.{Run}

-- Of a call's writes those to INTE.
unfoldable pub to_inte : List Write → List Write
to_inte [] = []
to_inte (wr r m v ∷ ws) = cond (eqb r 0x5011_0090) (wr r m v ∷ to_inte ws) (to_inte ws)

-- One write, which sets these bits and leaves the others.
abbrev pub inte_sets : ℕ → List Write
inte_sets v = wr 0x5011_0090 v v ∷ []

-- The seven, and BUFF_STATUS (bit 4) exactly where n bytes are two packets' size or more.
abbrev pub seven_for : ℕ → ℕ → List Write
seven_for p n = inte_sets (cond (leb (2 * p) n) 0x7F8 0x7E8)

-- The bytes of a data stage: wLength, or the bulk buffer's n.
abbrev pub data_bytes : Kind → ℕ → ℕ
data_bytes (control c) n = c.wLength
data_bytes (bulk b) n = n

-- The bytes of a stage: a status stage has none.
abbrev pub stage_bytes : Request → Bool → ℕ
stage_bytes x true = 0
stage_bytes x false = data_bytes x.kind x.length

-- What a stage sets as its packets begin or go on to move; SETUP sets none.
abbrev pub stage_sets : Request → Stage → List Write
stage_sets x setup_stage = []
stage_sets x (in_stage st) = seven_for x.size (stage_bytes x st.status)
stage_sets x (out_stage st) = seven_for x.size (stage_bytes x st.status)

-- The same of a transfer; none once it has ended.
abbrev pub transfer_sets : Option Run → List Write
transfer_sets None = []
transfer_sets (Some r) = stage_sets r.request r.stage

-- A ready poll of a data or status stage first clears the seven, and no other bit.
abbrev pub stage_clears : Stage → List Write
stage_clears setup_stage = []
stage_clears (in_stage st) = wr 0x5011_0090 0x7E8 0 ∷ []
stage_clears (out_stage st) = wr 0x5011_0090 0x7E8 0 ∷ []

-- The same of a transfer.
abbrev pub transfer_clears : Option Run → List Write
transfer_clears None = []
transfer_clears (Some r) = stage_clears r.stage

-- A step on t that leaves u, by whether its sample is quiet: then it waits, and sets the seven alone.
abbrev pub step_sets : Bool → Option Run → Option Run → List Write
step_sets true t u = inte_sets 0x7E8
step_sets false t u = transfer_clears t ++ transfer_sets u

-- Every write to INTE of every begin, step, open and poll, on any state and whatever is lent. Those of detection and of the interrupt routine are in `HandsBack`; a begin
-- or step that is refused writes nothing (`refuses` there).
pub record Enables : Type 0 where
  -- SETUP's.
  pub begin_control : (t : Option Run) (a : ℕ) (x : TransferExtras) (p : ℕ) (s : SetupPacket) (ph : DataPhase) (buf m log : List ℕ) → to_inte (begin_control_of t a x p s ph buf m log).writes ≡ []
  pub begin_bulk_in : (t : Option Run) (a e p : ℕ) (k : TransferType) (b : Bool) (buf m log : List ℕ)
      → let o = begin_bulk_in_of t a e p k b buf m log in o.answer ≡ Ok tt → to_inte o.writes ≡ seven_for p (length buf)
  pub begin_bulk_out : (t : Option Run) (a e p : ℕ) (k : TransferType) (b : Bool) (buf m log : List ℕ)
      → let o = begin_bulk_out_of t a e p k b buf m log in o.answer ≡ Ok tt → to_inte o.writes ≡ seven_for p (length buf)
  pub step : (filling : Bool) (t : Option Run) (s : Sample) (buf m log : List ℕ)
      → let o = step_of filling t s buf m log in has_acted (step_reply o.answer) ≡ true → to_inte o.writes ≡ step_sets (quiet s) t o.next
  -- So that no pipe turns off what a transfer waits for.
  pub opens : (d : Driver) (address : ℕ) (extras : TransferExtras) (endpoint size interval : ℕ) (log : List ℕ) → to_inte (opening d address extras endpoint size interval log).writes ≡ []
  pub poll : (d : Driver) (n : PipeNumber) (s : PipeSample) (pm log : List ℕ) → let ws = (polling d n s pm log).writes in (to_inte ws ≡ []) ⊎ (to_inte ws ≡ inte_sets 0x10)
