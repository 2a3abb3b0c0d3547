-- The calls on the control pipe: begin, step and cancel, with document 01's checks in its order.
use Rattle.std.specs.Prelude.{ℕ, Bool, true, false, cond, ◌&&◌, List, [], ◌++◌, length, ◌==◌, nat_le, Err, None, Ok, Option, Result, Some}
use Rattle.cutting.specs.declared.transfer_type.TransferType.{TransferType}
use Rattle.transfers.specs.declared.host_controller.UsbError.TheVariants.{AllPipesInUse, NoSuchEndpoint}
use Rattle.transfers.specs.declared.host_controller.DataPhase.{DataPhase}
use Rattle.transfers.specs.declared.host_controller.TransferExtras.{TransferExtras}
use Rattle.transfers.specs.declared.wire.SetupPacket.{SetupPacket}
use Rattle.transfers.specs.declared.wire.Direction.{Direction}
use Rattle.transfers.specs.declared.wire.Direction.TheVariants.{In, Out}
use Rattle.transfers.specs.declared.refusal.Refusal.{Refusal}
use Rattle.transfers.specs.declared.refusal.Refusal.TheVariants.{Usb, Address, PacketSize, BufferSize, LentMemory, State}
use Rattle.transfers.specs.declared.answers.Armed.{Armed}
use Rattle.transfers.specs.declared.sample.Sample.{Sample}
use Rattle.transfers.specs.declared.driver.Run.{Run}
use Rattle.transfers.specs.declared.driver.Request.{Request}
use Rattle.transfers.specs.declared.driver.Kind.TheVariants.{Control as control, Bulk as bulk}
use Rattle.transfers.specs.declared.driver.Stage.{Stage}
use Rattle.transfers.specs.declared.driver.Stage.TheVariants.{Setup as setup_stage, In as in_stage, Out as out_stage}
use Rattle.transfers.specs.Log.{Write}
use Rattle.transfers.specs.Memory.{lent_fits}
use Rattle.transfers.specs.Answers.{nothing_armed, outs_armed}
use Rattle.transfers.specs.Writes.{setup_words, setup_start}
use Rattle.transfers.specs.State.{target_of, served, address_good, endpoint_good, size_good, sound}
use Rattle.transfers.specs.Outcome.{Outcome, toggle_in, toggle_out, start_in, start_out}
use Rattle.transfers.specs.Step.{acts}

-- ---- step: `filling` is the call that lends a buffer to fill (`step_in`), else the one that lends bytes to send (`step_out`)

-- The toggle that a transfer under way came with.
abbrev pub held_toggle : Option Run → Bool
held_toggle None = false
held_toggle (Some r) = toggle_in r.request.kind

-- "Every other number leaves state, packet memory, log, record and buffer untouched."
abbrev pub refuses : Option Run → Refusal → List ℕ → List ℕ → Outcome
refuses t e m buf = record { next = t; answer = Err e; toggle = held_toggle t; moved = held_toggle t; armed = nothing_armed; writes = []; memory = m; buffer = buf }

-- "16 ..; then, step only, 15 buffer length not that of begin"
abbrev pub step_if : Bool → Bool → Run → Sample → List ℕ → List ℕ → Outcome
step_if false fits r s buf m = refuses (Some r) State m buf
step_if true false r s buf m = refuses (Some r) LentMemory m buf
step_if true true r s buf m = acts r.request r.stage s buf m

-- "16 nothing under way that this call serves, or a state with .."
abbrev pub may_step : Bool → Run → Bool
may_step filling r = served filling r.request.kind r.stage && sound r.request r.stage

-- "15 packet memory not 4,096 bytes, or log below 192 words", then 16.
abbrev pub step_lent : Bool → Bool → Option Run → Sample → List ℕ → List ℕ → Outcome
step_lent false filling t s buf m = refuses t LentMemory m buf
step_lent true filling None s buf m = refuses None State m buf
step_lent true filling (Some r) s buf m = step_if (may_step filling r) (length buf == r.request.length) r s buf m

-- A step, on any state and whatever is lent.
unfoldable pub step_of : Bool → Option Run → Sample → List ℕ → List ℕ → List ℕ → Outcome
step_of filling t s buf m log = step_lent (lent_fits m log) filling t s buf m

-- ---- cancel: "Dropping the future becomes a cancel that frees the control pipe and writes no register."

-- What a cancel does: the next state, the answer, and the toggle that desk rule 1 hands out and the one that rule 2 does.
pub record Cancelling : Type 0 where
  pub next : Option Run
  pub answer : Result (Unit {0}) Refusal
  pub toggle : Bool
  pub moved : Bool

-- 16 where no step serves the state, which then stays.
abbrev pub cancel_if : Bool → Option Run → Bool → Bool → Cancelling
cancel_if false t b v = record { next = t; answer = Err State; toggle = b; moved = b }
cancel_if true t b v = record { next = None; answer = Ok tt; toggle = b; moved = v }

-- The parity of the packets that a stage has retired.
abbrev pub stage_parity : Stage → Bool
stage_parity setup_stage = false
stage_parity (in_stage st) = st.retire
stage_parity (out_stage st) = st.retire

-- One of the two steps serves it.
abbrev pub either_serves : Run → Bool
either_serves r = cond (may_step true r) true (may_step false r)

-- A cancel, on any state.
unfoldable pub cancel_of : Option Run → Cancelling
cancel_of None = cancel_if false None false false
cancel_of (Some r) = cancel_if (either_serves r) (Some r) (toggle_in r.request.kind) (toggle_out r.request.kind (stage_parity r.stage))

-- A state that the calls leave: nothing under way, or a transfer that one of them serves.
abbrev pub well_formed : Option Run → Bool
well_formed None = true
well_formed (Some r) = either_serves r

-- ---- begin

-- What a begin does: the next state, the answer, what was armed, the writes, and packet memory.
pub record Beginning : Type 0 where
  pub next : Option Run
  pub answer : Result (Unit {0}) Refusal
  pub armed : Armed
  pub writes : List Write
  pub memory : List ℕ

-- "Every other number leaves state, packet memory, log, record and buffer untouched."
abbrev pub refuses_begin : Option Run → Refusal → List ℕ → Beginning
refuses_begin t e m = record { next = t; answer = Err e; armed = nothing_armed; writes = []; memory = m }

-- "12 address above 127; 11 bulk endpoint not 1 to 15; 13 packet size not 1 to 64; 14 bulk buffer above 65,535 bytes"
abbrev pub fields_refusal : Bool → Bool → Bool → Bool → Result (Unit {0}) Refusal
fields_refusal false e p n = Err Address
fields_refusal true false p n = Err (Usb NoSuchEndpoint)
fields_refusal true true false n = Err PacketSize
fields_refusal true true true false = Err BufferSize
fields_refusal true true true true = Ok tt

-- "15 ..; 8 a transfer is under way", then the fields.
abbrev pub begin_refusal : Bool → Bool → Result (Unit {0}) Refusal → Result (Unit {0}) Refusal
begin_refusal false idle r = Err LentMemory
begin_refusal true false r = Err (Usb AllPipesInUse)
begin_refusal true true r = r

-- Refused, or begun.
abbrev pub begin_or : Result (Unit {0}) Refusal → Option Run → List ℕ → Beginning → Beginning
begin_or (Err e) t m b = refuses_begin t e m
begin_or (Ok tt) t m b = b

-- No transfer is under way.
abbrev pub is_idle : Option Run → Bool
is_idle None = true
is_idle (Some r) = false

-- SETUP is sent.
abbrev pub begins_control : ℕ → TransferExtras → ℕ → SetupPacket → DataPhase → ℕ → List ℕ → Beginning
begins_control a x p s ph n m = record {
  next = Some (record { request = record { address = a; size = p; kind = control (record { phase = ph; wLength = s.wLength }); length = n }; stage = setup_stage });
  answer = Ok tt;
  armed = record { setup = Some (record { address = a; setup = s }); first = None; second = None };
  writes = setup_words s ++ setup_start a x;
  memory = m;
}

-- A control begin: it has no endpoint and no limit of its buffer (11, 14).
unfoldable pub begin_control_of : Option Run → ℕ → TransferExtras → ℕ → SetupPacket → DataPhase → List ℕ → List ℕ → List ℕ → Beginning
begin_control_of t a x p s ph buf m log =
    begin_or (begin_refusal (lent_fits m log) (is_idle t) (fields_refusal (address_good a) true (size_good p) true)) t m (begins_control a x p s ph (length buf) m)

-- What is kept of a bulk begin.
abbrev pub bulk_request : Direction → ℕ → ℕ → ℕ → Bool → ℕ → Request
bulk_request d a e p t n = record { address = a; size = p; kind = bulk (record { direction = d; endpoint = e; toggle = t }); length = n }

-- The first packets are armed.
abbrev pub begins_bulk_in : Request → TransferType → List ℕ → Beginning
begins_bulk_in x k m =
    let s = start_in (target_of x) k false x.length in
    record { next = Some (record { request = x; stage = in_stage s.stage }); answer = Ok tt; armed = nothing_armed; writes = s.writes; memory = m }

-- The same OUT: what was armed is answered.
abbrev pub begins_bulk_out : Request → ℕ → TransferType → List ℕ → List ℕ → Beginning
begins_bulk_out x e k buf m =
    let s = start_out (target_of x) k false 0 x.length buf m in
    record { next = Some (record { request = x; stage = out_stage s.stage }); answer = Ok tt; armed = outs_armed x.address e s.first s.second; writes = s.writes; memory = s.memory }

-- A bulk IN begin, on any state and whatever is lent.
unfoldable pub begin_bulk_in_of : Option Run → ℕ → ℕ → ℕ → TransferType → Bool → List ℕ → List ℕ → List ℕ → Beginning
begin_bulk_in_of t a e p k b buf m log =
    begin_or (begin_refusal (lent_fits m log) (is_idle t) (fields_refusal (address_good a) (endpoint_good e) (size_good p) (nat_le (length buf) 0xFFFF))) t m (begins_bulk_in (bulk_request In a e p b (length buf)) k m)

-- A bulk OUT begin, on any state and whatever is lent.
unfoldable pub begin_bulk_out_of : Option Run → ℕ → ℕ → ℕ → TransferType → Bool → List ℕ → List ℕ → List ℕ → Beginning
begin_bulk_out_of t a e p k b buf m log =
    begin_or (begin_refusal (lent_fits m log) (is_idle t) (fields_refusal (address_good a) (endpoint_good e) (size_good p) (nat_le (length buf) 0xFFFF))) t m (begins_bulk_out (bulk_request Out a e p b (length buf)) e k buf m)
