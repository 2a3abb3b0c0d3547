-- What every call leaves alone and what it hands back, for every driver value and all arguments. Bits, masks and addresses are document 01's and the datasheet's numbers.
use Rattle.std.specs.Prelude.{◌≡◌, Bool, true, false, ◌&&◌, ◌||◌, ◌⊎◌, List, [], ◌∷◌, ◌++◌, ℕ, zero, suc, ◌+◌, ◌-◌, ◌*◌, ◌/◌, ◌%◌, ◌^◌, ◌≤◌, min, eqb, leb, length, take, drop, replicate, None, Option, Some}
use Rattle.pool.specs.declared.pipe.PipeNumber.{PipeNumber}
use Rattle.cutting.specs.declared.transfer_type.TransferType.{TransferType}
use Rattle.transfers.specs.declared.host_controller.UsbSpeed.TheVariants.{Low1_5, Full12}
use Rattle.transfers.specs.declared.host_controller.DeviceStatus.{DeviceStatus}
use Rattle.transfers.specs.declared.host_controller.DeviceStatus.TheVariants.{Present, Absent}
use Rattle.transfers.specs.declared.host_controller.DataPhase.{DataPhase}
use Rattle.transfers.specs.declared.host_controller.TransferExtras.{TransferExtras}
use Rattle.transfers.specs.declared.wire.SetupPacket.{SetupPacket}
use Rattle.transfers.specs.declared.answers.Armed.{Armed}
use Rattle.transfers.specs.declared.sample.Sample.{Sample}
use Rattle.transfers.specs.declared.pipes.PipeSample.{PipeSample}
use Rattle.transfers.specs.declared.driver.DeskRule.{DeskRule}
use Rattle.transfers.specs.declared.driver.DeskRule.TheVariants.{One, Two}
use Rattle.transfers.specs.declared.driver.Driver.{Driver}
use Rattle.transfers.specs.declared.driver.Kind.{Kind}
use Rattle.transfers.specs.declared.driver.Kind.TheVariants.{Control as control, Bulk as bulk}
use Rattle.transfers.specs.Log.{Write, wr}
use Rattle.transfers.specs.Outcome.{Outcome}
use Rattle.transfers.specs.Calls.{Beginning, Cancelling, step_of, cancel_of, begin_control_of, begin_bulk_in_of, begin_bulk_out_of}
use Rattle.transfers.specs.Driver.{begun, stepped, dropped}
use Rattle.transfers.specs.Pipes.{opening, closing, polling}
use Rattle.transfers.specs.Irq.{waking}
use Rattle.transfers.specs.Detect.{detecting}
use Rattle.transfers.specs.Reply.{Reply, result, number, begin_reply, StepResult, waiting, done, step_reply, cancel_reply, open_reply, close_reply, packet, no_packet, poll_reply, irq_reply, changed, unchanged, detect_reply}
use Rattle.transfers.specs.Registers.{bit}
use Rattle.transfers.specs.Apart.{Every}
use Rattle.rules.specs.Received.{quiet, ends_stage}
use Rattle.transfers.specs.declared.driver.Run.{Run}

-- ---- the parts of the state that a call has nothing to do with

-- The control pipe's calls leave pipes and last status, the pipes' calls transfer, count and last status, detection all but the last status; every call the desk rule. The interrupt routine has no state.
pub record LeavesAlone : Type 0 where
  pub begin : (d : Driver) (o : Beginning) → ((begun d o).next.pipes ≡ d.pipes) × ((begun d o).next.last ≡ d.last) × ((begun d o).next.rule ≡ d.rule)
  pub step : (d : Driver) (o : Outcome) → ((stepped d o).next.pipes ≡ d.pipes) × ((stepped d o).next.last ≡ d.last) × ((stepped d o).next.rule ≡ d.rule)
  pub cancel : (d : Driver) (o : Cancelling) → ((dropped d o).next.pipes ≡ d.pipes) × ((dropped d o).next.last ≡ d.last) × ((dropped d o).next.rule ≡ d.rule)
  pub opens : (d : Driver) (address : ℕ) (extras : TransferExtras) (endpoint size interval : ℕ) (log : List ℕ)
      → let e = (opening d address extras endpoint size interval log).next in (e.transfer ≡ d.transfer) × (e.entries ≡ d.entries) × (e.last ≡ d.last) × (e.rule ≡ d.rule)
  pub close : (d : Driver) (n : PipeNumber)
      → let e = (closing d n).next in (e.transfer ≡ d.transfer) × (e.entries ≡ d.entries) × (e.last ≡ d.last) × (e.rule ≡ d.rule)
  pub poll : (d : Driver) (n : PipeNumber) (s : PipeSample) (pm log : List ℕ)
      → let e = (polling d n s pm log).next in (e.transfer ≡ d.transfer) × (e.entries ≡ d.entries) × (e.last ≡ d.last) × (e.rule ≡ d.rule)
  pub detect : (d : Driver) (sie : ℕ) (log : List ℕ)
      → let e = (detecting d sie log).next in (e.transfer ≡ d.transfer) × (e.entries ≡ d.entries) × (e.pipes ≡ d.pipes) × (e.rule ≡ d.rule)

-- Of a call's two toggles the first goes out under desk rule 1, the second under rule 2.
abbrev pub ByRule : DeskRule → Bool → Bool → Bool → Type 0
ByRule One t v out = out ≡ t
ByRule Two t v out = out ≡ v

-- What the driver's begin, step and cancel hand back is what the transfer's do; "The answer counts the writes".
pub record HandsOn : Type 0 where
  pub begin : (d : Driver) (o : Beginning)
      → let r = begun d o in (r.next.transfer ≡ o.next) × (r.answer ≡ o.answer) × (r.armed ≡ o.armed) × (r.writes ≡ length o.writes)
  pub step : (d : Driver) (o : Outcome)
      → let r = stepped d o in (r.next.transfer ≡ o.next) × (r.answer ≡ o.answer) × ByRule d.rule o.toggle o.moved r.toggle × (r.armed ≡ o.armed) × (r.writes ≡ length o.writes)
  pub cancel : (d : Driver) (o : Cancelling) → let r = dropped d o in (r.next.transfer ≡ o.next) × (r.answer ≡ o.answer) × ByRule d.rule o.toggle o.moved r.toggle

-- ---- "A call refused before it acts changes nothing"

-- No SETUP and no OUT packet.
abbrev pub none_armed : Armed
none_armed = record { setup = None; first = None; second = None }

-- "1 to 7 and 9 end the transfer"
abbrev pub ends_transfer : ℕ → Bool
ends_transfer n = (leb 1 n && leb n 7) || eqb n 9

-- A step has acted where it answers a result or one of these.
abbrev pub has_acted : Reply StepResult → Bool
has_acted (result r) = true
has_acted (number n) = ends_transfer n

-- "Every other number leaves state, packet memory, log, record and buffer untouched": a begin.
pub record BeginUntouched (d : Driver) (o : Beginning) (m : List ℕ) : Type 0 where
  pub next : (begun d o).next ≡ d
  pub armed : o.armed ≡ none_armed
  pub writes : o.writes ≡ []
  pub memory : o.memory ≡ m

-- A step.
pub record StepUntouched (d : Driver) (o : Outcome) (buf m : List ℕ) : Type 0 where
  pub next : (stepped d o).next ≡ d
  pub armed : o.armed ≡ none_armed
  pub writes : o.writes ≡ []
  pub memory : o.memory ≡ m
  pub buffer : o.buffer ≡ buf

-- Every call that answers a number; of a step's numbers those that don't end the transfer, which are 15 and 16.
pub record RefusedUntouched : Type 0 where
  pub begin_control : (d : Driver) (a : ℕ) (x : TransferExtras) (p : ℕ) (s : SetupPacket) (ph : DataPhase) (buf m log : List ℕ) (n : ℕ)
      → let o = begin_control_of d.transfer a x p s ph buf m log in begin_reply o.answer ≡ number n → BeginUntouched d o m
  pub begin_bulk_in : (d : Driver) (a e p : ℕ) (k : TransferType) (b : Bool) (buf m log : List ℕ) (n : ℕ)
      → let o = begin_bulk_in_of d.transfer a e p k b buf m log in begin_reply o.answer ≡ number n → BeginUntouched d o m
  pub begin_bulk_out : (d : Driver) (a e p : ℕ) (k : TransferType) (b : Bool) (buf m log : List ℕ) (n : ℕ)
      → let o = begin_bulk_out_of d.transfer a e p k b buf m log in begin_reply o.answer ≡ number n → BeginUntouched d o m
  pub step : (d : Driver) (filling : Bool) (s : Sample) (buf m log : List ℕ) (n : ℕ)
      → let o = step_of filling d.transfer s buf m log in
      step_reply o.answer ≡ number n → ends_transfer n ≡ false → ((n ≡ 15) ⊎ (n ≡ 16)) × StepUntouched d o buf m
  pub cancel : (d : Driver) (n : ℕ) → cancel_reply (cancel_of d.transfer).answer ≡ number n → (dropped d (cancel_of d.transfer)).next ≡ d
  pub opens : (d : Driver) (address : ℕ) (extras : TransferExtras) (endpoint size interval : ℕ) (log : List ℕ) (n : ℕ)
      → let o = opening d address extras endpoint size interval log in open_reply o.answer ≡ number n → (o.next ≡ d) × (o.writes ≡ [])
  pub close : (d : Driver) (p : PipeNumber) (n : ℕ) → close_reply (closing d p).answer ≡ number n → (closing d p).next ≡ d
  pub poll : (d : Driver) (p : PipeNumber) (s : PipeSample) (pm log : List ℕ) (n : ℕ)
      → let o = polling d p s pm log in poll_reply o.answer ≡ number n → (o.next ≡ d) × (o.writes ≡ [])
  pub irq : (ints status : ℕ) (log : List ℕ) (n : ℕ) → irq_reply (waking ints status log).answer ≡ number n → (waking ints status log).writes ≡ []
  pub detect : (d : Driver) (sie : ℕ) (log : List ℕ) (n : ℕ)
      → let o = detecting d sie log in detect_reply o.answer ≡ number n → (o.next ≡ d) × (o.writes ≡ [])

-- ---- "The bulk toggle goes in with the begin and comes out with done."

-- The toggle that a transfer came with; a control transfer has none.
abbrev pub kind_toggle : Kind → Bool
kind_toggle (control c) = false
kind_toggle (bulk b) = b.toggle

-- Nothing under way has none either.
abbrev pub came_with : Option Run → Bool
came_with None = false
came_with (Some r) = kind_toggle r.request.kind

-- "The bulk toggle flips .. only when the transfer ends in done.": desk rule 1's toggle. What rule 2 hands out is said by `Toggles`.
pub record KeepsToggle : Type 0 where
  -- A begin that is accepted keeps the toggle handed in,
  pub begin_in : (t : Option Run) (a e p : ℕ) (k : TransferType) (b : Bool) (buf m log : List ℕ)
      → let o = begin_bulk_in_of t a e p k b buf m log in begin_reply o.answer ≡ result tt → came_with o.next ≡ b
  pub begin_out : (t : Option Run) (a e p : ℕ) (k : TransferType) (b : Bool) (buf m log : List ℕ)
      → let o = begin_bulk_out_of t a e p k b buf m log in begin_reply o.answer ≡ result tt → came_with o.next ≡ b
  -- so does a step that answers waiting,
  pub waits : (filling : Bool) (t : Option Run) (s : Sample) (buf m log : List ℕ) (again : Bool)
      → let o = step_of filling t s buf m log in step_reply o.answer ≡ result (waiting again) → came_with o.next ≡ came_with t
  -- and it is what every step that doesn't answer done hands out,
  pub step : (filling : Bool) (t : Option Run) (s : Sample) (buf m log : List ℕ)
      → let o = step_of filling t s buf m log in ((count : ℕ) → step_reply o.answer ≡ result (done count) → ⊥) → o.toggle ≡ came_with t
  -- and every cancel.
  pub cancel : (t : Option Run) → (cancel_of t).toggle ≡ came_with t

-- ---- the end of a transfer

-- "a transfer ended by answers 1 to 7 or 9 frees the control pipe": so do done and a cancel.
pub record Frees : Type 0 where
  pub after_done : (filling : Bool) (t : Option Run) (s : Sample) (buf m log : List ℕ) (count : ℕ)
      → let o = step_of filling t s buf m log in step_reply o.answer ≡ result (done count) → o.next ≡ None
  pub after_number : (filling : Bool) (t : Option Run) (s : Sample) (buf m log : List ℕ) (n : ℕ)
      → let o = step_of filling t s buf m log in step_reply o.answer ≡ number n → ends_transfer n ≡ true → o.next ≡ None
  pub after_cancel : (t : Option Run) → cancel_reply (cancel_of t).answer ≡ result tt → (cancel_of t).next ≡ None

-- ---- a step's first write

-- "writing 0xFF08_0000 to SIE_STATUS"
abbrev pub clears_status : Write
clears_status = wr 0x5011_0050 0xFFFF_FFFF 0xFF08_0000

-- "Waiting now enables trans complete and all six error interrupts": bits 3 and 5 to 10 of INTE.
abbrev pub enables_waiting : Write
enables_waiting = wr 0x5011_0090 0x7E8 0x7E8

-- A step that acts.
pub record StepWrites : Type 0 where
  -- INTR and 0x7F8 all zero: "waiting, after writing 0xFF08_0000 to SIE_STATUS and enabling" these seven.
  pub quietly : (filling : Bool) (t : Option Run) (s : Sample) (buf m log : List ℕ)
      → let o = step_of filling t s buf m log in has_acted (step_reply o.answer) ≡ true → quiet s ≡ true
      → (step_reply o.answer ≡ result (waiting false)) × (o.next ≡ t) × (o.armed ≡ none_armed) × (o.writes ≡ clears_status ∷ enables_waiting ∷ []) × (o.memory ≡ m) × (o.buffer ≡ buf)
  -- "Else the same SIE_STATUS write is made": first.
  pub first : (filling : Bool) (t : Option Run) (s : Sample) (buf m log : List ℕ)
      → let o = step_of filling t s buf m log in has_acted (step_reply o.answer) ≡ true → take 1 o.writes ≡ clears_status ∷ []
  -- "TRANS_COMPLETE: that is bit 18": a step that doesn't end its stage by it doesn't clear it, so that none is lost.
  pub uncleared : (filling : Bool) (t : Option Run) (s : Sample) (buf m log : List ℕ) → ends_stage s ≡ false → Every (λ r n v. r ≡ 0x5011_0050 → bit 18 v ≡ false) (step_of filling t s buf m log).writes

-- ---- poll

-- "Buffer of pipe n at 0x200 + 128 × n .., at most 64 bytes handed out": k bytes, then zeros.
abbrev pub area_bytes : List ℕ → ℕ → ℕ → List ℕ
area_bytes pm n k = take k (drop (0x200 + 128 * n) pm) ++ replicate (64 - k) 0

-- LENGTH, bits 0 to 9 of EP_BUFFER_CONTROL, 64 at most.
abbrev pub length_out : PipeSample → ℕ
length_out s = min (s.buffer % 0x400) 64

-- What a poll hands out, and what a waiting one writes.
pub record PollHandsOut : Type 0 where
  -- Address and endpoint are bits 0 to 6 and 16 to 19 of HOST_ADDR_ENDP.
  pub packets : (d : Driver) (n : PipeNumber) (s : PipeSample) (pm log : List ℕ)
      → let o = polling d n s pm log in poll_reply o.answer ≡ result packet
      → o.packet ≡ record { address = s.address % 0x80; endpoint = s.address / 0x1_0000 % 0x10; size = length_out s; «data» = area_bytes pm n.0 (length_out s) }
  -- No packet: all zeros.
  pub zeros : (d : Driver) (n : PipeNumber) (s : PipeSample) (pm log : List ℕ)
      → let o = polling d n s pm log in (poll_reply o.answer ≡ result packet → ⊥) → o.packet ≡ record { address = 0; endpoint = 0; size = 0; «data» = replicate 64 0 }
  -- BUFF_STATUS is enabled in INTE, pipe n in INT_EP_CTRL, and its two bits of EP_STATUS_STALL_NAK are cleared.
  pub waits : (d : Driver) (n : PipeNumber) (s : PipeSample) (pm log : List ℕ)
      → let o = polling d n s pm log in poll_reply o.answer ≡ result no_packet
      → (o.next ≡ d) × (o.writes ≡ wr 0x5011_0090 0x10 0x10 ∷ wr 0x5011_0054 (2 ^ n.0) (2 ^ n.0) ∷ wr 0x5011_0070 0xFFFF_FFFF (3 * 2 ^ (2 * n.0)) ∷ [])

-- ---- detection and the interrupt routine

-- "0 absent, 1 low, 2 and 3 full"
abbrev pub at_speed : ℕ → DeviceStatus
at_speed zero = Absent
at_speed (suc zero) = Present Low1_5
at_speed (suc (suc n)) = Present Full12

-- The speed field, bits 8 and 9 of SIE_STATUS.
abbrev pub status_shown : ℕ → DeviceStatus
status_shown sie = at_speed (sie / 0x100 % 4)

-- "it answers a change from the last status or waiting, and enables the connect interrupt either way": bit 0 of INTE.
pub record Detects : Type 0 where
  pub same : (d : Driver) (sie : ℕ) (log : List ℕ) → 192 ≤ length log → status_shown sie ≡ d.last
      → let o = detecting d sie log in (detect_reply o.answer ≡ result unchanged) × (o.next ≡ d) × (o.writes ≡ wr 0x5011_0090 1 1 ∷ [])
  pub other : (d : Driver) (sie : ℕ) (log : List ℕ) → 192 ≤ length log → (status_shown sie ≡ d.last → ⊥)
      → let o = detecting d sie log in (detect_reply o.answer ≡ result (changed (status_shown sie))) × (o.next.last ≡ status_shown sie) × (o.writes ≡ wr 0x5011_0090 1 1 ∷ [])

-- Every bit of BUFF_STATUS but the control pipe's two is cleared, where INTS has BUFF_STATUS (bit 4).
abbrev pub clears_buffers : ℕ → List Write
clears_buffers zero = []
clears_buffers (suc n) = wr 0x5011_0058 0xFFFF_FFFF 0xFFFF_FFFC ∷ []

-- Then every interrupt that INTS shows is disabled.
pub record IrqWrites : Type 0 where
  pub writes : (ints status : ℕ) (log : List ℕ) → 192 ≤ length log → (waking ints status log).writes ≡ clears_buffers (ints / 0x10 % 2) ++ (wr 0x5011_0090 ints 0 ∷ [])

-- The whole claim.
pub record HandsBack : Type 0 where
  pub leaves : LeavesAlone
  pub hands_on_of : HandsOn
  pub refuses : RefusedUntouched
  pub toggle : KeepsToggle
  pub frees : Frees
  pub steps : StepWrites
  pub polls : PollHandsOut
  pub detects : Detects
  pub irqs : IrqWrites
