-- What a step or a begin does: the next state, the answer, the toggle handed out under either desk rule, what was armed, the writes, packet memory and buffer as it leaves them.
use Rattle.std.specs.Prelude.{ℕ, Bool, true, false, not, List, [], ◌++◌, Err, None, Ok, Option, Result, Some}
use Rattle.cutting.specs.declared.transfer_type.TransferType.{TransferType}
use Rattle.cutting.specs.declared.transfer_type.TransferType.TheVariants.{FixedSize}
use Rattle.cutting.specs.Counters.{in_start_of, out_start}
use Rattle.transfers.specs.declared.host_controller.UsbError.{UsbError}
use Rattle.transfers.specs.declared.refusal.Refusal.TheVariants.{Usb}
use Rattle.transfers.specs.declared.answers.Armed.{Armed}
use Rattle.transfers.specs.declared.wire.Direction.TheVariants.{In, Out}
use Rattle.transfers.specs.declared.writes.Target.{Target}
use Rattle.transfers.specs.declared.driver.Request.{Request}
use Rattle.transfers.specs.declared.driver.Kind.{Kind}
use Rattle.transfers.specs.declared.driver.Kind.TheVariants.{Control as control, Bulk as bulk}
use Rattle.transfers.specs.declared.driver.Stage.{Stage}
use Rattle.transfers.specs.declared.driver.Stage.TheVariants.{In as in_stage, Out as out_stage}
use Rattle.transfers.specs.declared.driver.InStage.{InStage}
use Rattle.transfers.specs.declared.driver.OutStage.{OutStage}
use Rattle.transfers.specs.Log.{Write}
use Rattle.transfers.specs.Answers.{nothing_armed, outs_armed}
use Rattle.transfers.specs.Writes.{head_writes, enable_writes, go_writes}
use Rattle.transfers.specs.Arming.{in_arm_two, out_arm_two}
use Rattle.transfers.specs.State.{endpoint_of, target_of}
use Rattle.transfers.specs.declared.answers.Step.TheVariants.{Waiting}
use Rattle.transfers.specs.declared.refusal.Refusal.{Refusal}
use Rattle.transfers.specs.declared.answers.Step.{Step}
use Rattle.transfers.specs.declared.driver.Run.{Run}
use Rattle.cutting.specs.declared.packetiser.Arm.{Arm}

-- What a step does: the next state, the answer, the toggle that desk rule 1 hands out and the one that rule 2 does, what was armed, the writes, packet memory and buffer.
pub record Outcome : Type 0 where
  pub next : Option Run
  pub answer : Result Step Refusal
  pub toggle : Bool
  pub moved : Bool
  pub armed : Armed
  pub writes : List Write
  pub memory : List ℕ
  pub buffer : List ℕ

-- Writes that come before.
abbrev pub after : List Write → Outcome → Outcome
after ws o = record { next = o.next; answer = o.answer; toggle = o.toggle; moved = o.moved; armed = o.armed; writes = ws ++ o.writes; memory = o.memory; buffer = o.buffer }

-- The toggle that came in with a bulk begin; a control transfer has none.
abbrev pub toggle_in : Kind → Bool
toggle_in (control c) = false
toggle_in (bulk b) = b.toggle

-- "The bulk toggle flips once per retired packet": by the parity of their number.
abbrev pub flipped : Bool → Bool → Bool
flipped t false = t
flipped t true = not t

-- The toggle of a bulk transfer after the packets retired: it goes out with done, and under rule 2 with a failure or a cancel.
abbrev pub toggle_out : Kind → Bool → Bool
toggle_out (control c) parity = false
toggle_out (bulk b) parity = flipped b.toggle parity

-- The transfer ends, and frees the control pipe.
abbrev pub ended : Result Step Refusal → Bool → Bool → List ℕ → List ℕ → Outcome
ended a t v m buf = record { next = None; answer = a; toggle = t; moved = v; armed = nothing_armed; writes = []; memory = m; buffer = buf }

-- The transfer ends with an error's number (1 to 7 and 9): "Desk rule 1 leaves the bulk toggle as it was .. rule 2 flips it once per packet retired before the failure".
abbrev pub failed : Request → Bool → UsbError → List ℕ → List ℕ → Outcome
failed x parity e m buf = ended (Err (Usb e)) (toggle_in x.kind) (toggle_out x.kind parity) m buf

-- The transfer goes on in a stage. `again` is the poll's being ready.
abbrev pub waits : Request → Stage → Bool → Armed → List Write → List ℕ → List ℕ → Outcome
waits x st again a ws m buf =
    record { next = Some (record { request = x; stage = st }); answer = Ok (Waiting again); toggle = toggle_in x.kind; moved = toggle_in x.kind; armed = a; writes = ws; memory = m; buffer = buf }

-- ---- a stage of n bytes begins: its first packets are armed and the transaction is started (rp2040.rs, `control_transfer_inner`)

-- An IN stage at its start, and the writes.
pub record InStarted : Type 0 where
  pub stage : InStage
  pub writes : List Write

-- An IN stage of n bytes begins.
unfoldable pub start_in : Target → TransferType → Bool → ℕ → InStarted
start_in t k status n =
    let g = in_arm_two 0 (in_start_of k t.size t.pid n) 0 in
    record {
      stage = record { status = status; slot = g.packets.slot; toarm = g.packets.remain; zlp = g.packets.zlp; retire = false; remain = n; offset = 0; inflight = g.inflight };
      writes = head_writes t n ++ (g.writes ++ (enable_writes t.size n ++ go_writes In));
    }

-- An OUT stage at its start, the writes, packet memory, and what was armed.
pub record OutStarted : Type 0 where
  pub stage : OutStage
  pub writes : List Write
  pub memory : List ℕ
  pub first : Option Arm
  pub second : Option Arm

-- An OUT stage of n bytes begins.
unfoldable pub start_out : Target → TransferType → Bool → ℕ → ℕ → List ℕ → List ℕ → OutStarted
start_out t k status received n buf m =
    let g = out_arm_two 0 (out_start k t.size t.pid n) 0 buf m in
    record {
      stage = record { status = status; slot = g.packets.slot; remain = g.packets.remain; offset = g.packets.offset; zlp = g.packets.zlp; retire = false; inflight = g.inflight; received = received };
      writes = head_writes t n ++ (g.writes ++ (enable_writes t.size n ++ go_writes Out));
      memory = g.memory;
      first = g.first;
      second = g.second;
    }

-- A control transfer goes into its data or status stage; its packets are cut as FixedSize.
abbrev pub enters_in : Request → Bool → ℕ → List ℕ → List ℕ → Outcome
enters_in x status n m buf =
    let s = start_in (target_of x) FixedSize status n in
    waits x (in_stage s.stage) true nothing_armed s.writes m buf

-- `lent` is what it sends from.
abbrev pub enters_out : Request → Bool → ℕ → ℕ → List ℕ → List ℕ → List ℕ → Outcome
enters_out x status received n lent m buf =
    let s = start_out (target_of x) FixedSize status received n lent m in
    waits x (out_stage s.stage) true (outs_armed x.address (endpoint_of x.kind) s.first s.second) s.writes s.memory buf
