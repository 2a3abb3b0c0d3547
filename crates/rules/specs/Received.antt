-- An IN transfer from its begin to its done, told by the samples and packet memories that its steps were lent: which packets were retired, and what the caller gets of them.
-- Bits, masks and addresses are document 01's and the datasheet's numbers. Of the driver it takes only the calls and their answers.
use Rattle.std.specs.Prelude.{◌≡◌, Bool, true, false, not, ◌&&◌, List, [], ◌∷◌, ◌++◌, map, ℕ, zero, suc, ◌+◌, ◌≤◌, min, eqb, leb, ltb, length, take, drop, None, Ok, Option}
use Rattle.std.specs.Int.Bits.{bit_and}
use Rattle.cutting.specs.declared.transfer_type.TransferType.{TransferType}
use Rattle.cutting.specs.declared.transfer_type.TransferType.TheVariants.{FixedSize}
use Rattle.cutting.specs.Cut.{in_cut_of}
use Rattle.cutting.specs.Rules.{joined}
use Rattle.cutting.specs.Retire.{sum}
use Rattle.transfers.specs.declared.host_controller.DataPhase.TheVariants.{In as phase_in}
use Rattle.transfers.specs.declared.host_controller.TransferExtras.{TransferExtras}
use Rattle.transfers.specs.declared.wire.SetupPacket.{SetupPacket}
use Rattle.transfers.specs.declared.sample.Sample.{Sample}
use Rattle.transfers.specs.Registers.{bit}
use Rattle.transfers.specs.Outcome.{Outcome}
use Rattle.transfers.specs.Calls.{step_of, begin_bulk_in_of, begin_control_of}
use Rattle.rules.specs.Fields.{read_buffer_control}
use Rattle.transfers.specs.declared.answers.Step.TheVariants.{Done}
use Rattle.transfers.specs.declared.driver.Run.{Run}

-- ---- what a sample shows

-- "A poll is ready when INTR and 0x7F8 is not zero": else it is quiet.
abbrev pub quiet : Sample → Bool
quiet s = eqb (bit_and s.intr 0x7F8) 0

-- TRANS_COMPLETE is bit 18 of SIE_STATUS.
abbrev pub complete : Sample → Bool
complete s = bit 18 s.status

-- "Else .. TRANS_COMPLETE wins": the step ends its stage.
abbrev pub ends_stage : Sample → Bool
ends_stage s = not (quiet s) && complete s

-- "Slots alternate from 0": the slot of packet k.
unfoldable pub slot_of : ℕ → Bool
slot_of zero = false
slot_of (suc k) = not (slot_of k)

-- ---- what a step is lent

-- A step's call, the buffer apart.
pub record StepCall : Type 0 where
  pub sample : Sample
  pub memory : List ℕ
  pub log : List ℕ

-- "15 packet memory not 4,096 bytes, or log below 192 words"; else the call is not refused.
abbrev pub lent_well : StepCall → Bool
lent_well y = eqb (length y.memory) 4096 && leb 192 (length y.log)

-- A slot's packet: LENGTH bytes "at 0x180, then 0x1C0".
abbrev pub packet_at : StepCall → Bool → List ℕ
packet_at y false = take (read_buffer_control y.sample.buffers false).LENGTH (drop 0x180 y.memory)
packet_at y true = take (read_buffer_control y.sample.buffers true).LENGTH (drop 0x1C0 y.memory)

-- ---- what the samples tell of a stage

-- So far: how many slots were armed, and the packets that were retired, in order.
pub record Tally : Type 0 where
  pub armed : ℕ
  pub retired : List (List ℕ)

-- The packet of the next slot in flight is retired.
abbrev pub retire_if : Bool → StepCall → Tally → Tally
retire_if false y s = s
retire_if true y s = record { armed = s.armed; retired = s.retired ++ (packet_at y (slot_of (length s.retired)) ∷ []) }

-- It is in flight, and FULL.
abbrev pub may_retire : StepCall → Tally → Bool
may_retire y s = ltb (length s.retired) s.armed && (read_buffer_control y.sample.buffers (slot_of (length s.retired))).FULL

-- One slot.
unfoldable pub retire_one : StepCall → Tally → Tally
retire_one y s = retire_if (may_retire y s) y s

-- "retire up to two slots"
abbrev pub retire_two : StepCall → Tally → Tally
retire_two y s = retire_one y (retire_one y s)

-- The next of the slots is armed.
abbrev pub arm_if : Bool → ℕ → ℕ
arm_if false a = a
arm_if true a = a + 1

-- One slot, where there is one left to arm and it isn't AVAILABLE. "At most two are in flight": with r retired, fewer than r + 2 were armed.
unfoldable pub arm_one : ℕ → ℕ → ℕ → ℕ → ℕ
arm_one slots w r a = arm_if (ltb a slots && (ltb a (r + 2) && not (read_buffer_control w (slot_of a)).AVAILABLE)) a

-- "arm up to two"
abbrev pub arm_two : ℕ → ℕ → Tally → Tally
arm_two slots w s = let r = length s.retired in record { armed = arm_one slots w r (arm_one slots w r s.armed); retired = s.retired }

-- A step, by whether it is lent well, quiet, and complete: "None of these: retire up to two slots, arm up to two"; "A completed data or status stage also retires up to two."
abbrev pub tally_by : Bool → Bool → Bool → ℕ → StepCall → Tally → Tally
tally_by false q c slots y s = s
tally_by true true c slots y s = s
tally_by true false true slots y s = retire_two y s
tally_by true false false slots y s = arm_two slots y.sample.buffers (retire_two y s)

-- A step.
unfoldable pub tally_step : ℕ → StepCall → Tally → Tally
tally_step slots y s = tally_by (lent_well y) (quiet y.sample) (complete y.sample) slots y s

-- A list of steps.
unfoldable pub tallied : ℕ → Tally → List StepCall → Tally
tallied slots s [] = s
tallied slots s (y ∷ ys) = tallied slots (tally_step slots y s) ys

-- A stage with so many slots begins: up to two are armed.
abbrev pub tally_start : ℕ → Tally
tally_start slots = record { armed = min slots 2; retired = [] }

-- The packets of a bulk IN that steps retired, with so many slots to arm.
abbrev pub received : ℕ → List StepCall → List (List ℕ)
received slots ys = (tallied slots (tally_start slots) ys).retired

-- ---- what they tell of a control In

-- "The control stages go SETUP, data, status".
pub data ControlTally : Type 0 where
  in_setup : ControlTally
  in_data : Tally → ControlTally
  in_status : Tally → ControlTally

-- A step, by whether it acts and ends its stage.
abbrev pub control_by : Bool → ℕ → StepCall → ControlTally → ControlTally
control_by false slots y in_setup = in_setup
control_by true slots y in_setup = in_data (tally_start slots)
control_by false slots y (in_data s) = in_data (tally_step slots y s)
control_by true slots y (in_data s) = in_status (tally_step slots y s)
control_by b slots y (in_status s) = in_status s

-- A list of steps.
unfoldable pub control_tally : ℕ → ControlTally → List StepCall → ControlTally
control_tally slots f [] = f
control_tally slots f (y ∷ ys) = control_tally slots (control_by (lent_well y && ends_stage y.sample) slots y f) ys

-- The packets retired so far.
abbrev pub retired_in : ControlTally → List (List ℕ)
retired_in in_setup = []
retired_in (in_data s) = s.retired
retired_in (in_status s) = s.retired

-- The packets that the steps of a control In retired.
abbrev pub control_received : ℕ → List StepCall → List (List ℕ)
control_received slots ys = retired_in (control_tally slots in_setup ys)

-- ---- the calls

-- The transfer and the buffer between two steps: "Each call takes the driver's state by value and hands the next one back", and each step is lent the buffer that the one before it left.
pub record Running : Type 0 where
  pub transfer : Option Run
  pub buffer : List ℕ

-- A step: `step_in` where it fills the buffer, else `step_out`.
abbrev pub step_by : Bool → Running → StepCall → Outcome
step_by filling h y = step_of filling h.transfer y.sample h.buffer y.memory y.log

-- `step_in`.
abbrev pub step_in : Running → StepCall → Outcome
step_in h y = step_by true h y

-- What a step leaves.
abbrev pub after_step : Outcome → Running
after_step o = record { transfer = o.next; buffer = o.buffer }

-- A list of steps.
unfoldable pub after_steps : Bool → Running → List StepCall → Running
after_steps filling h [] = h
after_steps filling h (y ∷ ys) = after_steps filling (after_step (step_by filling h y)) ys

-- ---- what the caller gets

-- "The bulk toggle flips once per retired packet".
unfoldable pub toggled : Bool → List (List ℕ) → Bool
toggled b [] = b
toggled b (l ∷ ls) = toggled (not b) ls

-- Of packets received with room for n bytes: the count is the sum of their lengths, n at most; the buffer has that many of their bytes, in order and each once, then what was lent.
pub record Moved (n : ℕ) (lent : List ℕ) (packets : List (List ℕ)) (count : ℕ) (buffer : List ℕ) : Type 0 where
  pub counted : count ≡ min n (sum (map length packets))
  pub bytes : buffer ≡ take count (joined packets) ++ drop count lent

-- For every list of steps from a begin that is accepted to the step that answers done, refused and waiting ones among them:
pub record Receives : Type 0 where
  -- bulk IN: at most its buffer's length, and the toggle flipped once per packet;
  pub bulk : (t : Option Run) (a e p : ℕ) (k : TransferType) (b : Bool) (lent m log : List ℕ) (ys : List StepCall) (y : StepCall) (count : ℕ)
      → (begin_bulk_in_of t a e p k b lent m log).answer ≡ Ok tt
      → let o = step_in (after_steps true (record { transfer = (begin_bulk_in_of t a e p k b lent m log).next; buffer = lent }) ys) y in
      let got = received (length (in_cut_of k p b (length lent))) (ys ++ (y ∷ [])) in
      o.answer ≡ Ok (Done count) → Moved (length lent) lent got count o.buffer × (o.toggle ≡ toggled b got) × (o.next ≡ None)
  -- control In: at most wLength bytes, those of its data stage.
  pub control : (t : Option Run) (a : ℕ) (x : TransferExtras) (p : ℕ) (s : SetupPacket) (lent m log : List ℕ) (ys : List StepCall) (y : StepCall) (count : ℕ)
      → s.wLength ≤ 0xFFFF
      → (begin_control_of t a x p s phase_in lent m log).answer ≡ Ok tt
      → let o = step_in (after_steps true (record { transfer = (begin_control_of t a x p s phase_in lent m log).next; buffer = lent }) ys) y in
      let got = control_received (length (in_cut_of FixedSize p true s.wLength)) (ys ++ (y ∷ [])) in
      o.answer ≡ Ok (Done count) → Moved s.wLength lent got count o.buffer × (o.next ≡ None)
  -- A packet is as long as LENGTH says.
  pub lengths : (y : StepCall) (s : Bool) → lent_well y ≡ true → length (packet_at y s) ≡ (read_buffer_control y.sample.buffers s).LENGTH
