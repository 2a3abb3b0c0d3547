-- Which slots the logs arm, read from EP_BUFFER_CONTROL 0 alone: a write that sets a slot's AVAILABLE arms it with what its half then shows.
use Rattle.std.specs.Prelude.{◌≡◌, Bool, true, false, cond, ◌&&◌, List, [], ◌∷◌, ◌++◌, map, ℕ, ◌≤◌, eqb, length, take, None, Ok, Option}
use Rattle.cutting.specs.declared.transfer_type.TransferType.{TransferType}
use Rattle.cutting.specs.declared.transfer_type.TransferType.TheVariants.{FixedSize}
use Rattle.cutting.specs.Cut.{Packet, packet, in_cut_of}
use Rattle.cutting.specs.Rules.{All}
use Rattle.transfers.specs.declared.host_controller.DataPhase.{DataPhase}
use Rattle.transfers.specs.declared.host_controller.DataPhase.TheVariants.{In as phase_in}
use Rattle.transfers.specs.declared.host_controller.TransferExtras.{TransferExtras}
use Rattle.transfers.specs.declared.wire.SetupPacket.{SetupPacket}
use Rattle.transfers.specs.declared.sample.Sample.{Sample}
use Rattle.transfers.specs.Log.{Write, wr, masked}
use Rattle.transfers.specs.Calls.{step_of, begin_bulk_in_of, begin_control_of}
use Rattle.rules.specs.Fields.{BufferControl, read_buffer_control}
use Rattle.rules.specs.Received.{ends_stage, StepCall, tallied, tally_start, ControlTally, in_setup, in_data, in_status, control_tally, Running, step_by, step_in, after_step, after_steps}
use Rattle.transfers.specs.declared.answers.Step.TheVariants.{Done}
use Rattle.transfers.specs.declared.driver.Run.{Run}

-- A slot, and what its half shows.
pub record ArmedSlot : Type 0 where
  pub slot : Bool
  pub shows : BufferControl

-- A write with mask m and value v that leaves the word w, for one slot.
abbrev pub armed_at : Bool → ℕ → ℕ → ℕ → List ArmedSlot
armed_at s m v w = cond ((read_buffer_control m s).AVAILABLE && (read_buffer_control v s).AVAILABLE) (record { slot = s; shows = read_buffer_control w s } ∷ []) []

-- The same for both, where the write is to EP_BUFFER_CONTROL 0.
abbrev pub arms_both : Bool → ℕ → ℕ → ℕ → List ArmedSlot
arms_both false m v w = []
arms_both true m v w = armed_at false m v w ++ armed_at true m v w

-- The slots that writes arm, in order; `old` is the register's word before them.
unfoldable pub armings : ℕ → List Write → List ArmedSlot
armings old [] = []
armings old (wr r m v ∷ ws) = arms_both (eqb 0x5010_0080 r) m v (masked old m v) ++ armings (cond (eqb 0x5010_0080 r) (masked old m v) old) ws

-- ---- whatever the state

-- In a stage that goes on a step arms only slots whose AVAILABLE its sample shows clear: IN and OUT, on any state and whatever is lent.
pub record ArmsFree : Type 0 where
  pub step : (filling : Bool) (t : Option Run) (s : Sample) (buf m log : List ℕ) (old : ℕ)
      → ends_stage s ≡ false → All (λ (a : ArmedSlot). (read_buffer_control s.buffers a.slot).AVAILABLE ≡ false) (armings old (step_of filling t s buf m log).writes)

-- ---- from begin to done

-- A slot armed with a packet.
abbrev pub shown : Bool → Packet ℕ → ArmedSlot
shown full (packet s b last n) = record { slot = s; shows = record { LENGTH = n; AVAILABLE = true; PID = b; LAST = last; FULL = full } }

-- The writes of a list of steps.
unfoldable pub writes_of : Bool → Running → List StepCall → List Write
writes_of filling h [] = []
writes_of filling h (y ∷ ys) = (step_by filling h y).writes ++ writes_of filling (after_step (step_by filling h y)) ys

-- What a control In has armed: its data stage's slots so far, then its status, one empty packet OUT, DATA1, marked.
abbrev pub control_armed : List (Packet ℕ) → ControlTally → List ArmedSlot
control_armed slots in_setup = []
control_armed slots (in_data s) = map (shown false) (take s.armed slots)
control_armed slots (in_status s) = map (shown false) (take s.armed slots) ++ (shown true (packet false true true 0) ∷ [])

-- The slots armed IN: those that aren't FULL.
abbrev pub slots_in : List ArmedSlot → List ArmedSlot
slots_in [] = []
slots_in (a ∷ l) = cond a.shows.FULL (slots_in l) (a ∷ slots_in l)

-- The slots that the logs of an IN begin and of every list of steps arm are the first of the cutting, as many as the samples tell; none of these is FULL. The step that answers done arms none.
pub record ArmsAsCut : Type 0 where
  pub bulk : (t : Option Run) (a e p : ℕ) (k : TransferType) (b : Bool) (lent m log : List ℕ) (ys : List StepCall) (old : ℕ)
      → (begin_bulk_in_of t a e p k b lent m log).answer ≡ Ok tt
      → let h : Running = record { transfer = (begin_bulk_in_of t a e p k b lent m log).next; buffer = lent } in
      let slots = in_cut_of k p b (length lent) in
      ((after_steps true h ys).transfer ≡ None → ⊥)
      → armings old ((begin_bulk_in_of t a e p k b lent m log).writes ++ writes_of true h ys) ≡ map (shown false) (take (tallied (length slots) (tally_start (length slots)) ys).armed slots)
  pub bulk_done : (t : Option Run) (a e p : ℕ) (k : TransferType) (b : Bool) (lent m log : List ℕ) (ys : List StepCall) (y : StepCall) (count old : ℕ)
      → (begin_bulk_in_of t a e p k b lent m log).answer ≡ Ok tt
      → let h = after_steps true (record { transfer = (begin_bulk_in_of t a e p k b lent m log).next; buffer = lent }) ys in
      (step_in h y).answer ≡ Ok (Done count) → armings old (step_in h y).writes ≡ []
  pub control : (t : Option Run) (a : ℕ) (x : TransferExtras) (p : ℕ) (s : SetupPacket) (lent m log : List ℕ) (ys : List StepCall) (old : ℕ)
      → s.wLength ≤ 0xFFFF
      → (begin_control_of t a x p s phase_in lent m log).answer ≡ Ok tt
      → let h : Running = record { transfer = (begin_control_of t a x p s phase_in lent m log).next; buffer = lent } in
      let slots = in_cut_of FixedSize p true s.wLength in
      ((after_steps true h ys).transfer ≡ None → ⊥)
      → armings old ((begin_control_of t a x p s phase_in lent m log).writes ++ writes_of true h ys) ≡ control_armed slots (control_tally (length slots) in_setup ys)
  pub control_done : (t : Option Run) (a : ℕ) (x : TransferExtras) (p : ℕ) (s : SetupPacket) (lent m log : List ℕ) (ys : List StepCall) (y : StepCall) (count old : ℕ)
      → s.wLength ≤ 0xFFFF
      → (begin_control_of t a x p s phase_in lent m log).answer ≡ Ok tt
      → let h = after_steps true (record { transfer = (begin_control_of t a x p s phase_in lent m log).next; buffer = lent }) ys in
      (step_in h y).answer ≡ Ok (Done count) → armings old (step_in h y).writes ≡ []
  -- A control Out or None that answers done has armed one slot IN, its status: slot 0, DATA1, marked, of length p.
  pub status : (filling : Bool) (t : Option Run) (a : ℕ) (x : TransferExtras) (p : ℕ) (s : SetupPacket) (ph : DataPhase) (lent m log : List ℕ) (ys : List StepCall) (y : StepCall) (count old : ℕ)
      → (ph ≡ phase_in → ⊥)
      → (begin_control_of t a x p s ph lent m log).answer ≡ Ok tt
      → let h : Running = record { transfer = (begin_control_of t a x p s ph lent m log).next; buffer = lent } in
      (step_by filling (after_steps filling h ys) y).answer ≡ Ok (Done count)
      → slots_in (armings old ((begin_control_of t a x p s ph lent m log).writes ++ writes_of filling h (ys ++ (y ∷ [])))) ≡ shown false (packet false true true p) ∷ []
