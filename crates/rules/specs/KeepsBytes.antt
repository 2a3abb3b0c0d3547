-- The caller's buffer at a step's numbers: "a transfer ended by answers 1 to 7 or 9 .. keeps the bytes received so far". For every state and whatever is lent.
-- Bits and addresses are document 01's and the datasheet's numbers. Of the driver it takes only the calls, their answers and an IN stage's counters.
use Rattle.std.specs.Prelude.{◌≡◌, Bool, true, false, List, [], ◌∷◌, ◌++◌, map, ℕ, ◌+◌, ◌≤◌, min, ltb, length, take, drop, None, Ok, Option, Some}
use Rattle.cutting.specs.declared.transfer_type.TransferType.{TransferType}
use Rattle.cutting.specs.declared.transfer_type.TransferType.TheVariants.{FixedSize}
use Rattle.cutting.specs.Cut.{in_cut_of}
use Rattle.cutting.specs.Retire.{sum}
use Rattle.transfers.specs.declared.host_controller.DataPhase.TheVariants.{In as phase_in}
use Rattle.transfers.specs.declared.host_controller.TransferExtras.{TransferExtras}
use Rattle.transfers.specs.declared.wire.SetupPacket.{SetupPacket}
use Rattle.transfers.specs.declared.sample.Sample.{Sample}
use Rattle.transfers.specs.declared.driver.Request.{Request}
use Rattle.transfers.specs.declared.driver.Stage.{Stage}
use Rattle.transfers.specs.declared.driver.Stage.TheVariants.{Setup as setup_stage, In as in_stage, Out as out_stage}
use Rattle.transfers.specs.declared.driver.InStage.{InStage}
use Rattle.transfers.specs.Calls.{step_of, begin_bulk_in_of, begin_control_of}
use Rattle.transfers.specs.Reply.{number, step_reply}
use Rattle.rules.specs.Fields.{read_buffer_control}
use Rattle.rules.specs.Received.{slot_of, StepCall, packet_at, received, control_received, Running, step_in, after_steps, Moved}
use Rattle.transfers.specs.declared.driver.Run.{Run}

-- A packet stored from an offset on, as much of it as there is room for; every other byte stays.
abbrev pub packet_stored : ℕ → ℕ → List ℕ → List ℕ → List ℕ
packet_stored off room packet buf = let k = min room (length packet) in take off buf ++ take k packet ++ drop (off + k) buf

-- "9 slot length above 64; that packet isn't copied": by whether the next slot's is the long one. If not, its packet was retired and stored, and the long one is the other slot's.
abbrev pub buffer_by : Bool → InStage → StepCall → List ℕ → List ℕ
buffer_by true st y buf = buf
buffer_by false st y buf = packet_stored st.offset st.remain (packet_at y st.retire) buf

-- The buffer at 9.
abbrev pub buffer_at_nine : InStage → StepCall → List ℕ → List ℕ
buffer_at_nine st y buf = buffer_by (ltb 64 (read_buffer_control y.sample.buffers st.retire).LENGTH) st y buf

-- The same of a stage told by its samples: the packets retired before the step, and the next slot's, if it isn't the long one.
abbrev pub packets_by : Bool → StepCall → List (List ℕ) → List (List ℕ)
packets_by true y got = got
packets_by false y got = got ++ (packet_at y (slot_of (length got)) ∷ [])

-- The packets kept at 9.
abbrev pub packets_at_nine : StepCall → List (List ℕ) → List (List ℕ)
packets_at_nine y got = packets_by (ltb 64 (read_buffer_control y.sample.buffers (slot_of (length got))).LENGTH) y got

-- An IN stage.
abbrev pub is_in_stage : Stage → Bool
is_in_stage setup_stage = false
is_in_stage (in_stage st) = true
is_in_stage (out_stage st) = false

-- A transfer in an IN stage.
abbrev pub receiving : Option Run → Bool
receiving None = false
receiving (Some r) = is_in_stage r.stage

-- A transfer in a given IN stage, with the buffer lent.
abbrev pub in_stage_at : Request → InStage → List ℕ → Running
in_stage_at x st buf = record { transfer = Some (record { request = x; stage = in_stage st }); buffer = buf }

-- The whole claim.
pub record KeepsBytes : Type 0 where
  -- A step that answers a number other than 9 leaves the buffer as lent: 1 to 7 among them.
  pub failed : (filling : Bool) (t : Option Run) (s : Sample) (buf m log : List ℕ) (n : ℕ)
      → let o = step_of filling t s buf m log in step_reply o.answer ≡ number n → (n ≡ 9 → ⊥) → o.buffer ≡ buf
  -- So does a step that sends, whatever it answers.
  pub sends : (t : Option Run) (s : Sample) (buf m log : List ℕ) → (step_of false t s buf m log).buffer ≡ buf
  -- "step, IN retire": only an IN stage answers 9.
  pub only : (filling : Bool) (t : Option Run) (s : Sample) (buf m log : List ℕ) → step_reply (step_of filling t s buf m log).answer ≡ number 9 → receiving t ≡ true
  -- 9 keeps the bytes received so far, those below the stage's offset, and the buffer's length,
  pub below : (x : Request) (st : InStage) (buf : List ℕ) (y : StepCall)
      → let o = step_in (in_stage_at x st buf) y in step_reply o.answer ≡ number 9 → (take st.offset o.buffer ≡ take st.offset buf) × (length o.buffer ≡ length buf)
  -- and adds the packet retired before the long one; offset and rest are within 65,535 bytes, as 14 and wLength's 16 bits have it.
  pub long : (x : Request) (st : InStage) (buf : List ℕ) (y : StepCall) → st.offset + st.remain ≤ 0xFFFF
      → let o = step_in (in_stage_at x st buf) y in step_reply o.answer ≡ number 9 → o.buffer ≡ buffer_at_nine st y buf
  -- From a bulk IN begin on, while the transfer is under way: the buffer has the bytes received so far, in order and each once, then what was lent;
  pub bulk : (t : Option Run) (a e p : ℕ) (k : TransferType) (b : Bool) (lent m log : List ℕ) (ys : List StepCall) → (begin_bulk_in_of t a e p k b lent m log).answer ≡ Ok tt
      → let h = after_steps true (record { transfer = (begin_bulk_in_of t a e p k b lent m log).next; buffer = lent }) ys in
      let got = received (length (in_cut_of k p b (length lent))) ys in
      (h.transfer ≡ None → ⊥) → Moved (length lent) lent got (min (length lent) (sum (map length got))) h.buffer
  -- "a transfer ended by answers 1 to 7 .. keeps the bytes received so far".
  pub bulk_failed : (t : Option Run) (a e p : ℕ) (k : TransferType) (b : Bool) (lent m log : List ℕ) (ys : List StepCall) (y : StepCall) (n : ℕ) → (begin_bulk_in_of t a e p k b lent m log).answer ≡ Ok tt
      → let h = after_steps true (record { transfer = (begin_bulk_in_of t a e p k b lent m log).next; buffer = lent }) ys in
      let got = received (length (in_cut_of k p b (length lent))) ys in
      (h.transfer ≡ None → ⊥) → step_reply (step_in h y).answer ≡ number n → 1 ≤ n → n ≤ 7 → Moved (length lent) lent got (min (length lent) (sum (map length got))) (step_in h y).buffer
  -- The same of 9, with the packet retired before the long one.
  pub bulk_long : (t : Option Run) (a e p : ℕ) (k : TransferType) (b : Bool) (lent m log : List ℕ) (ys : List StepCall) (y : StepCall) → (begin_bulk_in_of t a e p k b lent m log).answer ≡ Ok tt
      → let h = after_steps true (record { transfer = (begin_bulk_in_of t a e p k b lent m log).next; buffer = lent }) ys in
      let got = packets_at_nine y (received (length (in_cut_of k p b (length lent))) ys) in
      step_reply (step_in h y).answer ≡ number 9 → Moved (length lent) lent got (min (length lent) (sum (map length got))) (step_in h y).buffer
  -- A control In, as the bulk IN: at most wLength bytes, those of its data stage;
  pub control : (t : Option Run) (a : ℕ) (x : TransferExtras) (p : ℕ) (s : SetupPacket) (lent m log : List ℕ) (ys : List StepCall) → s.wLength ≤ 0xFFFF → (begin_control_of t a x p s phase_in lent m log).answer ≡ Ok tt
      → let h = after_steps true (record { transfer = (begin_control_of t a x p s phase_in lent m log).next; buffer = lent }) ys in
      let got = control_received (length (in_cut_of FixedSize p true s.wLength)) ys in
      (h.transfer ≡ None → ⊥) → Moved s.wLength lent got (min s.wLength (sum (map length got))) h.buffer
  -- and ended by 1 to 7.
  pub control_failed : (t : Option Run) (a : ℕ) (x : TransferExtras) (p : ℕ) (s : SetupPacket) (lent m log : List ℕ) (ys : List StepCall) (y : StepCall) (n : ℕ) → s.wLength ≤ 0xFFFF
      → (begin_control_of t a x p s phase_in lent m log).answer ≡ Ok tt
      → let h = after_steps true (record { transfer = (begin_control_of t a x p s phase_in lent m log).next; buffer = lent }) ys in
      let got = control_received (length (in_cut_of FixedSize p true s.wLength)) ys in
      (h.transfer ≡ None → ⊥) → step_reply (step_in h y).answer ≡ number n → 1 ≤ n → n ≤ 7 → Moved s.wLength lent got (min s.wLength (sum (map length got))) (step_in h y).buffer
