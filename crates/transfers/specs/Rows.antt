-- Document 01's "Numbers by the place of the check": what each call answers, in the document's numbers and its order of checks.
use Rattle.std.specs.Prelude.{ℕ, ◌+◌, ◌-◌, ◌*◌, Bool, true, false, cond, not, ◌&&◌, ◌||◌, List, length, ◌==◌, bit_and, nat_le, nat_lt, None, Option, Some}
use Rattle.pool.specs.Set.{set_of, first_where}
use Rattle.transfers.specs.declared.host_controller.DeviceStatus.{DeviceStatus}
use Rattle.transfers.specs.declared.host_controller.DataPhase.{DataPhase}
use Rattle.transfers.specs.declared.host_controller.DataPhase.TheVariants.{In as phase_in, Out as phase_out, None as phase_none}
use Rattle.transfers.specs.declared.wire.Direction.{Direction}
use Rattle.transfers.specs.declared.wire.Direction.TheVariants.{In, Out}
use Rattle.transfers.specs.declared.irq.Wake.{Wake}
use Rattle.transfers.specs.declared.sample.Sample.{Sample}
use Rattle.transfers.specs.declared.driver.Request.{Request}
use Rattle.transfers.specs.declared.driver.Kind.{Kind}
use Rattle.transfers.specs.declared.driver.Kind.TheVariants.{Control as control, Bulk as bulk}
use Rattle.transfers.specs.declared.driver.Stage.{Stage}
use Rattle.transfers.specs.declared.driver.Stage.TheVariants.{Setup as setup_stage, In as in_stage, Out as out_stage}
use Rattle.transfers.specs.declared.driver.InStage.{InStage}
use Rattle.transfers.specs.Reply.{Reply, result, number, StepResult, waiting, done, PollResult, packet, no_packet, DetectResult, changed, unchanged}
use Rattle.transfers.specs.Registers.{field, bit}
use Rattle.transfers.specs.Retiring.{in_retire_one}
use Rattle.transfers.specs.State.{control_of}
use Rattle.transfers.specs.Step.{in_received, lent}
use Rattle.transfers.specs.Calls.{may_step, is_idle}
use Rattle.transfers.specs.Detect.{same_status, status_of}
use Rattle.transfers.specs.declared.driver.Run.{Run}

-- Number n where a condition fails, else the rest.
abbrev pub unless : {A : Type 0} → Bool → ℕ → Reply A → Reply A
unless true n rest = rest
unless false n rest = number n

-- ---- begin: "8 a transfer is under way; 12 address above 127; 11 bulk endpoint not 1 to 15; 13 packet size not 1 to 64; 14 bulk buffer above 65,535 bytes"

-- A control's fields, address and packet size: it has no endpoint and no limit of its buffer.
abbrev pub control_fields_row : ℕ → ℕ → Reply (Unit {0})
control_fields_row a p = unless (nat_le a 127) 12 (unless (nat_le 1 p && nat_le p 64) 13 (result tt))

-- A bulk transfer's: address, endpoint, packet size and its buffer's length.
abbrev pub bulk_fields_row : ℕ → ℕ → ℕ → ℕ → Reply (Unit {0})
bulk_fields_row a e p n = unless (nat_le a 127) 12 (unless (nat_le 1 e && nat_le e 15) 11 (unless (nat_le 1 p && nat_le p 64) 13 (unless (nat_le n 65535) 14 (result tt))))

-- A control begin.
abbrev pub control_row : Option Run → ℕ → ℕ → List ℕ → List ℕ → Reply (Unit {0})
control_row t a p m log = unless (length m == 4096 && nat_le 192 (length log)) 15 (unless (is_idle t) 8 (control_fields_row a p))

-- A bulk begin, IN or OUT.
abbrev pub bulk_row : Option Run → ℕ → ℕ → ℕ → List ℕ → List ℕ → List ℕ → Reply (Unit {0})
bulk_row t a e p buf m log = unless (length m == 4096 && nat_le 192 (length log)) 15 (unless (is_idle t) 8 (bulk_fields_row a e p (length buf)))

-- ---- step and cancel

-- SETUP done: "7 In or Out buffer shorter than wLength (None has no such check)".
abbrev pub setup_row : DataPhase → Bool → Reply StepResult
setup_row phase_in short = unless (not short) 7 (result (waiting true))
setup_row phase_out short = unless (not short) 7 (result (waiting true))
setup_row phase_none short = result (waiting true)

-- "In counts received bytes, Out counts the whole lent buffer even where wLength is less, None counts 0."
abbrev pub phase_count : DataPhase → ℕ → ℕ → ℕ
phase_count phase_in n received = received
phase_count phase_out n received = n
phase_count phase_none n received = 0

-- The same of a bulk transfer.
abbrev pub bulk_count : Direction → ℕ → ℕ → ℕ
bulk_count In n received = received
bulk_count Out n received = n

-- A completed data or status stage: a control's data stage is followed by its status stage, every other is the end, "done with a count".
abbrev pub end_row : Kind → Bool → ℕ → ℕ → Reply StepResult
end_row (control c) false n received = result (waiting true)
end_row (control c) true n received = result (done (phase_count c.phase n received))
end_row (bulk b) status n received = result (done (bulk_count b.direction n received))

-- A slot's FULL in EP_BUFFER_CONTROL: slot 0 has the lower half.
abbrev pub slot_full : ℕ → Bool → Bool
slot_full w false = bit 15 w
slot_full w true = bit 31 w

-- Its LENGTH.
abbrev pub slot_length : ℕ → Bool → ℕ
slot_length w false = field 0 10 w
slot_length w true = field 16 10 w

-- "9 slot length above 64", of the up to two slots that are retired: those in flight that are FULL, the second after the first.
abbrev pub too_long_of : InStage → ℕ → Bool
too_long_of st w =
    let s = st.retire in
    nat_lt 0 st.inflight && slot_full w s && (nat_lt 64 (slot_length w s) || (nat_lt 1 st.inflight && slot_full w (not s) && nat_lt 64 (slot_length w (not s))))

-- The bytes received once these are retired.
abbrev pub received_by : InStage → ℕ → List ℕ → List ℕ → ℕ
received_by st w buf m =
    let g = in_retire_one w (in_received st) st.inflight (lent st.status buf) m in
    (in_retire_one w g.packets g.inflight g.buffer m).packets.offset

-- TRANS_COMPLETE, by the stage.
abbrev pub complete_row : Request → Stage → ℕ → List ℕ → List ℕ → Reply StepResult
complete_row x setup_stage w buf m = let c = control_of x.kind in setup_row c.phase (nat_lt x.length c.wLength)
complete_row x (in_stage st) w buf m = unless (not (too_long_of st w)) 9 (end_row x.kind st.status x.length (received_by st w buf m))
complete_row x (out_stage st) w buf m = end_row x.kind st.status x.length st.received

-- Neither complete nor failed: "retire up to two slots, arm up to two, waiting; in SETUP only waiting".
abbrev pub goes_on_row : Stage → ℕ → Reply StepResult
goes_on_row setup_stage w = result (waiting true)
goes_on_row (in_stage st) w = unless (not (too_long_of st w)) 9 (result (waiting true))
goes_on_row (out_stage st) w = result (waiting true)

-- "errors in the order DATA_SEQ, STALL, RX_OVERFLOW, RX_TIMEOUT, BIT_STUFF, CRC": "6 DATA_SEQ, 1 STALL, 3 RX_OVERFLOW, 2 RX_TIMEOUT, 4 BIT_STUFF, 5 CRC".
abbrev pub error_row : ℕ → Reply StepResult → Reply StepResult
error_row status none =
    cond (bit 31 status) (number 6) (cond (bit 29 status) (number 1) (cond (bit 26 status) (number 3)
    (cond (bit 27 status) (number 2) (cond (bit 25 status) (number 4) (cond (bit 24 status) (number 5) none)))))

-- "A poll is ready when INTR and 0x7F8 is not zero", else waiting; ready, "TRANS_COMPLETE wins; then errors"
abbrev pub acts_row : Request → Stage → Sample → List ℕ → List ℕ → Reply StepResult
acts_row x st s buf m =
    cond (bit_and s.intr 0x7F8 == 0) (result (waiting false))
    (cond (bit 18 s.status) (complete_row x st s.buffers buf m) (error_row s.status (goes_on_row st s.buffers)))

-- "16 nothing under way that this call serves, or a state with ..; then, step only, 15 buffer length not that of begin"
abbrev pub under_way_row : Bool → Option Run → Sample → List ℕ → List ℕ → Reply StepResult
under_way_row filling None s buf m = number 16
under_way_row filling (Some r) s buf m = unless (may_step filling r) 16 (unless (length buf == r.request.length) 15 (acts_row r.request r.stage s buf m))

-- A step that fills the buffer, or one that sends it.
abbrev pub step_row_of : Bool → Option Run → Sample → List ℕ → List ℕ → List ℕ → Reply StepResult
step_row_of filling t s buf m log = unless (length m == 4096 && nat_le 192 (length log)) 15 (under_way_row filling t s buf m)

-- A cancel: 16 where neither step serves the state.
abbrev pub cancel_row : Option Run → Reply (Unit {0})
cancel_row None = number 16
cancel_row (Some r) = unless (may_step true r || may_step false r) 16 (result tt)

-- ---- interrupt pipes: `opened` is the word of the set of open pipes, "index 0 to 14 is pipe 1 to 15"

-- The lowest index whose pipe isn't open, 15 where all 15 are open.
abbrev pub lowest_shut : ℕ → ℕ
lowest_shut opened = first_where 15 0 (λ i. not (bit i opened))

-- "12, 11, 13 as at begin; 10 all 15 open"
abbrev pub open_row_of : ℕ → ℕ → ℕ → ℕ → List ℕ → Reply ℕ
open_row_of opened a e p log =
    unless (nat_le 192 (length log)) 15
    (unless (nat_le a 127) 12 (unless (nat_le 1 e && nat_le e 15) 11 (unless (nat_le 1 p && nat_le p 64) 13 (unless (nat_lt (lowest_shut opened) 15) 10 (result (lowest_shut opened + 1))))))

-- "17 pipe not open, or its number not 1 to 15"
abbrev pub number_open : ℕ → ℕ → Bool
number_open opened n = nat_le 1 n && nat_le n 15 && bit (n - 1) opened

-- A close.
abbrev pub close_row_of : ℕ → ℕ → Reply (Unit {0})
close_row_of opened n = unless (number_open opened n) 17 (result tt)

-- A poll: a packet where FULL, bit 15 of EP_BUFFER_CONTROL, is set.
abbrev pub poll_row : ℕ → ℕ → ℕ → List ℕ → List ℕ → Reply PollResult
poll_row opened n buffer m log =
    unless (length m == 4096 && nat_le 192 (length log)) 15 (unless (number_open opened n) 17 (cond (bit 15 buffer) (result packet) (result no_packet)))

-- ---- interrupt routine and detection

-- "The interrupt routine now looks at 0 to 15": the pipes with a bit of BUFF_STATUS, where its interrupt is raised, and "`on_irq` wakes pipe 0 by the same mask", 0x7F8.
abbrev pub irq_row : ℕ → ℕ → List ℕ → Reply Wake
irq_row ints status log =
    unless (nat_le 192 (length log)) 15
    (result (record {
      pipes = set_of 16 (λ i. (bit 4 ints && not (field (2 * i) 2 status == 0)) || (i == 0 && not (bit_and ints 0x7F8 == 0)));
      detect = bit 0 ints;
    }))

-- "it answers a change from the last status or waiting"
abbrev pub detect_row : DeviceStatus → ℕ → List ℕ → Reply DetectResult
detect_row last sie log = unless (nat_le 192 (length log)) 15 (cond (same_status (status_of sie) last) (result unchanged) (result (changed (status_of sie))))
