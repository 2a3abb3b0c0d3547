-- The state of a transfer: whom it talks to, how long its stages are, who serves it, and which states are sound.
use Rattle.std.specs.Prelude.{ℕ, ◌+◌, Bool, true, false, not, ◌&&◌, nat_le}
use Rattle.transfers.specs.declared.host_controller.DataPhase.{DataPhase}
use Rattle.transfers.specs.declared.host_controller.DataPhase.TheVariants.{In as phase_in, Out as phase_out, None as phase_none}
use Rattle.transfers.specs.declared.wire.Direction.{Direction}
use Rattle.transfers.specs.declared.wire.Direction.TheVariants.{In, Out}
use Rattle.transfers.specs.declared.writes.Target.{Target}
use Rattle.transfers.specs.declared.driver.Request.{Request}
use Rattle.transfers.specs.declared.driver.Kind.{Kind}
use Rattle.transfers.specs.declared.driver.Kind.TheVariants.{Control as control, Bulk as bulk}
use Rattle.transfers.specs.declared.driver.Control.{Control}
use Rattle.transfers.specs.declared.driver.Stage.{Stage}
use Rattle.transfers.specs.declared.driver.Stage.TheVariants.{Setup as setup_stage, In as in_stage, Out as out_stage}

-- A control transfer uses endpoint 0.
abbrev pub endpoint_of : Kind → ℕ
endpoint_of (control c) = 0
endpoint_of (bulk b) = b.endpoint

-- "DATA1 first in data and status"; a bulk transfer starts with its toggle.
abbrev pub first_pid : Kind → Bool
first_pid (control c) = true
first_pid (bulk b) = b.toggle

-- Where a transfer goes, its packet size and its first PID.
abbrev pub target_of : Request → Target
target_of x = record { address = x.address; endpoint = endpoint_of x.kind; size = x.size; pid = first_pid x.kind }

-- The length of a data stage: wLength, or the bulk buffer's. A status stage has length 0.
abbrev pub data_length : Kind → ℕ → ℕ
data_length (control c) n = c.wLength
data_length (bulk b) n = n

-- The length of a stage: data, or status.
abbrev pub stage_length : Request → Bool → ℕ
stage_length x true = 0
stage_length x false = data_length x.kind x.length

-- ---- who serves it: `step_in` lends a buffer to fill (bulk IN, control In and None), `step_out` one to send

-- A control's phase fills the buffer, or sends it.
abbrev pub fills_of : DataPhase → Bool
fills_of phase_in = true
fills_of phase_out = false
fills_of phase_none = true

-- A bulk direction.
abbrev pub is_in : Direction → Bool
is_in In = true
is_in Out = false

-- The transfer fills the buffer.
abbrev pub fills : Kind → Bool
fills (control c) = fills_of c.phase
fills (bulk b) = is_in b.direction

-- Two tests have the same outcome.
abbrev pub same : Bool → Bool → Bool
same true b = b
same false b = not b

-- "The control stages go SETUP, data, status of the other direction"; with no data, the status stage is IN.
abbrev pub phase_has : DataPhase → Bool → Bool → Bool
phase_has phase_in inward status = same inward (not status)
phase_has phase_out inward status = same inward status
phase_has phase_none inward status = inward && status

-- A transfer has such a stage; a bulk transfer has no status stage.
abbrev pub kind_has : Kind → Bool → Bool → Bool
kind_has (control c) inward status = phase_has c.phase inward status
kind_has (bulk b) inward status = not status && same inward (is_in b.direction)

-- Only a control transfer has SETUP.
abbrev pub is_control : Kind → Bool
is_control (control c) = true
is_control (bulk b) = false

-- The stage is one that the transfer has.
abbrev pub stage_fits : Kind → Stage → Bool
stage_fits k setup_stage = is_control k
stage_fits k (in_stage st) = kind_has k true st.status
stage_fits k (out_stage st) = kind_has k false st.status

-- "16 nothing under way that this call serves"
unfoldable pub served : Bool → Kind → Stage → Bool
served filling k st = same filling (fills k) && stage_fits k st

-- ---- "16 .. a state with more than two in flight, with offset plus rest above the stage's length, with a data or status stage
-- longer than begin's buffer, or with an address, endpoint or packet size that begin refuses"

-- "12 address above 127"
abbrev pub address_good : ℕ → Bool
address_good a = nat_le a 127

-- "11 bulk endpoint not 1 to 15"
abbrev pub endpoint_good : ℕ → Bool
endpoint_good e = nat_le 1 e && nat_le e 15

-- "13 packet size not 1 to 64"
abbrev pub size_good : ℕ → Bool
size_good p = nat_le 1 p && nat_le p 64

-- A control has no endpoint of its own.
abbrev pub kind_good : Kind → Bool
kind_good (control c) = true
kind_good (bulk b) = endpoint_good b.endpoint

-- "an address, endpoint or packet size that begin refuses"
abbrev pub request_good : Request → Bool
request_good x = address_good x.address && (size_good x.size && kind_good x.kind)

-- n is the stage's length, len begin's buffer's.
abbrev pub moving_good : ℕ → ℕ → ℕ → ℕ → ℕ → Bool
moving_good inflight offset remain n len = nat_le inflight 2 && (nat_le (offset + remain) n && nat_le n len)

-- The same of a stage; SETUP has no counters.
abbrev pub stage_good : Request → Stage → Bool
stage_good x setup_stage = true
stage_good x (in_stage st) = moving_good st.inflight st.offset st.remain (stage_length x st.status) x.length
stage_good x (out_stage st) = moving_good st.inflight st.offset st.remain (stage_length x st.status) x.length

-- A state that 16 lets pass.
unfoldable pub sound : Request → Stage → Bool
sound x st = request_good x && stage_good x st

-- SETUP's fields; a bulk transfer has no SETUP stage.
abbrev pub control_of : Kind → Control
control_of (control c) = c
control_of (bulk b) = record { phase = phase_none; wLength = 0 }
