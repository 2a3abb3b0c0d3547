-- Begin and step store in packet memory only within 0x180 to 0x1FF. Assumes nothing.
use Rattle.std.proofs.Common.{◌≡◌, ℕ, suc, ◌+◌, ◌≤◌, Bool, true, false, eqb, ltb, leb, List, [], ◌∷◌, length, take, drop, set, refl, ap, ◌∙◌, arith, length-take, drop-set-lt, Err, None, Ok, Option, Result, Some}
use lib.Seq.{sets, take-set-le}
use Rattle.cutting.specs.declared.transfer_type.TransferType.{TransferType}
use Rattle.cutting.specs.declared.transfer_type.TransferType.TheVariants.{FixedSize}
use Rattle.cutting.specs.declared.packetiser.OutCounters.{OutCounters}
use Rattle.cutting.specs.declared.depacketiser.InDepacketiser.{InDepacketiser}
use Rattle.cutting.specs.Counters.{out_start, out_next}
use Rattle.cutting.proofs.Next.{out_fits}
use Rattle.transfers.specs.declared.host_controller.DataPhase.{DataPhase}
use Rattle.transfers.specs.declared.host_controller.DataPhase.TheVariants.{In as phase_in, Out as phase_out, None as phase_none}
use Rattle.transfers.specs.declared.host_controller.TransferExtras.{TransferExtras}
use Rattle.transfers.specs.declared.wire.SetupPacket.{SetupPacket}
use Rattle.transfers.specs.declared.wire.Direction.TheVariants.{In, Out}
use Rattle.transfers.specs.declared.writes.Target.{Target}
use Rattle.transfers.specs.declared.sample.Sample.{Sample}
use Rattle.transfers.specs.declared.sample.Found.{Found}
use Rattle.transfers.specs.declared.sample.Found.TheVariants.{Complete, Failed, Neither}
use Rattle.transfers.specs.declared.driver.Run.{Run}
use Rattle.transfers.specs.declared.driver.Request.{Request}
use Rattle.transfers.specs.declared.driver.Kind.{Kind}
use Rattle.transfers.specs.declared.driver.Kind.TheVariants.{Control as control, Bulk as bulk}
use Rattle.transfers.specs.declared.driver.Stage.{Stage}
use Rattle.transfers.specs.declared.driver.Stage.TheVariants.{Setup as setup_stage, In as in_stage, Out as out_stage}
use Rattle.transfers.specs.declared.driver.InStage.{InStage}
use Rattle.transfers.specs.declared.driver.OutStage.{OutStage}
use Rattle.transfers.specs.Memory.{slot_address, lent_fits, SlotsOnly}
use Rattle.transfers.specs.Sample.{classify}
use Rattle.transfers.specs.Arming.{may_arm, out_armed, out_arm_if, out_arm, out_arm_two}
use Rattle.transfers.specs.Retiring.{InRetiring, in_retire_one}
use Rattle.transfers.specs.State.{target_of, control_of, address_good, endpoint_good, size_good}
use Rattle.transfers.specs.Outcome.{Outcome, start_out}
use Rattle.transfers.specs.Step.{setup_done, setup_step, in_received, in_control_done, in_done, in_second_done, in_first_done, in_complete, in_second_moved, in_first_moved, in_move, in_step, out_packets, out_retire_two, out_move, out_step, lent, keeping, stage_step, polls, acts}
use Rattle.transfers.specs.Calls.{step_if, may_step, step_lent, step_of, fields_refusal, begin_refusal, Beginning, begin_or, is_idle, bulk_request, begins_control, begin_control_of, begins_bulk_in, begin_bulk_in_of, begins_bulk_out, begin_bulk_out_of}
use Rattle.transfers.proofs.Stores.{slot_inside}
use Rattle.transfers.proofs.Steps.{rearm_memory, out_complete_memory}
use Rattle.transfers.specs.declared.refusal.Refusal.{Refusal}
use Rattle.cutting.specs.declared.packetiser.Arm.{Arm}

pub sets_below : (vs : List ℕ) (k : ℕ) (l : List ℕ) (i : ℕ) → k ≤ i → take k (sets l i vs) ≡ take k l
sets_below [] k l i h = refl
sets_below (v ∷ vs) k l i h = sets_below vs k (set l i v) (suc i) (omega arith) ∙ take-set-le k l i v h

pub sets_above : (vs : List ℕ) (k : ℕ) (l : List ℕ) (i : ℕ) → i + length vs ≤ k → drop k (sets l i vs) ≡ drop k l
sets_above [] k l i h = refl
sets_above (v ∷ vs) k l i h = sets_above vs k (set l i v) (suc i) (omega arith) ∙ drop-set-lt k l i v (omega arith)

pub slots_same : (m : List ℕ) → SlotsOnly m m
slots_same m = record { below = refl; above = refl }

slots_at : {m m' : List ℕ} → m' ≡ m → SlotsOnly m m'
slots_at e = record { below = ap (take 0x180) e; above = ap (drop 0x200) e }

slots_then : {m m₁ m₂ : List ℕ} → SlotsOnly m m₁ → SlotsOnly m₁ m₂ → SlotsOnly m m₂
slots_then p q = record { below = q.below ∙ p.below; above = q.above ∙ p.above }

-- ---- arming

arm_slots : (w : ℕ) (c : OutCounters) (k : ℕ) (buf m : List ℕ) → SlotsOnly m (out_arm w c k buf m).memory
unfolding out_arm
arm_slots w c k buf m = may (may_arm w k c.slot)
  where
    with_arm : (a : Option Arm) → (out_next c).arm ≡ a → SlotsOnly m (out_armed a (out_next c).rest k c.offset buf m).memory
    with_arm None e = slots_same m
    with_arm (Some a) e =
        let n = length-take a.length (drop c.offset buf) in
        let f = out_fits c a e in
        let s = slot_inside a.slot in
        record {
          below = sets_below (take a.length (drop c.offset buf)) 0x180 m (slot_address a.slot) s.0;
          above = sets_above (take a.length (drop c.offset buf)) 0x200 m (slot_address a.slot) (omega (arith, n, f.small, s.1));
        }

    may : (b : Bool) → SlotsOnly m (out_arm_if b c k buf m).memory
    may false = slots_same m
    may true = with_arm (out_next c).arm refl

two_slots : (w : ℕ) (c : OutCounters) (k : ℕ) (buf m : List ℕ) → SlotsOnly m (out_arm_two w c k buf m).memory
unfolding out_arm_two
two_slots w c k buf m = let g = out_arm w c k buf m in slots_then (arm_slots w c k buf m) (arm_slots w g.packets g.inflight buf g.memory)

start_slots : (t : Target) (k : TransferType) (status : Bool) (received n : ℕ) (buf m : List ℕ) → SlotsOnly m (start_out t k status received n buf m).memory
unfolding start_out
start_slots t k status received n buf m = two_slots 0 (out_start k t.size t.pid n) 0 buf m

-- ---- steps

setup_done_slots : (ph : DataPhase) (s : Bool) (x : Request) (n : ℕ) (buf m : List ℕ) → SlotsOnly m (setup_done ph s x n buf m).memory
setup_done_slots phase_in true x n buf m = slots_same m
setup_done_slots phase_in false x n buf m = slots_same m
setup_done_slots phase_out true x n buf m = slots_same m
setup_done_slots phase_out false x n buf m = start_slots (target_of x) FixedSize false 0 n buf m
setup_done_slots phase_none s x n buf m = slots_same m

setup_slots : (f : Found) (x : Request) (buf m : List ℕ) → SlotsOnly m (setup_step f x buf m).memory
unfolding setup_step
setup_slots Complete x buf m = let c = control_of x.kind in setup_done_slots c.phase (ltb x.length c.wLength) x c.wLength buf m
setup_slots (Failed e) x buf m = slots_same m
setup_slots Neither x buf m = slots_same m

in_control_slots : (s : Bool) (ph : DataPhase) (x : Request) (n : ℕ) (m buf : List ℕ) → SlotsOnly m (in_control_done s ph x n m buf).memory
in_control_slots true ph x n m buf = slots_same m
in_control_slots false ph x n m buf = start_slots (target_of x) FixedSize true n 0 [] m

in_done_slots : (k : Kind) (s : Bool) (x : Request) (d : InDepacketiser) (m buf : List ℕ) → SlotsOnly m (in_done k s x d m buf).memory
in_done_slots (control c) s x d m buf = in_control_slots s c.phase x d.offset m buf
in_done_slots (bulk b) s x d m buf = slots_same m

in_second_slots : (b : Bool) (h : InRetiring) (x : Request) (s : Bool) (m : List ℕ) → SlotsOnly m (in_second_done b h x s m).memory
in_second_slots true h x s m = slots_same m
in_second_slots false h x s m = in_done_slots x.kind s x h.packets m h.buffer

in_first_slots : (b : Bool) (g : InRetiring) (w : ℕ) (x : Request) (s : Bool) (m : List ℕ) → SlotsOnly m (in_first_done b g w x s m).memory
in_first_slots true g w x s m = slots_same m
in_first_slots false g w x s m = let h = in_retire_one w g.packets g.inflight g.buffer m in in_second_slots h.long h x s m

in_moved_slots : (b : Bool) (h : InRetiring) (w : ℕ) (x : Request) (st : InStage) (m : List ℕ) → SlotsOnly m (in_second_moved b h w x st m).memory
in_moved_slots true h w x st m = slots_same m
in_moved_slots false h w x st m = slots_at (rearm_memory x st h.packets h.inflight w m h.buffer)

in_move_slots : (b : Bool) (g : InRetiring) (w : ℕ) (x : Request) (st : InStage) (m : List ℕ) → SlotsOnly m (in_first_moved b g w x st m).memory
in_move_slots true g w x st m = slots_same m
in_move_slots false g w x st m = let h = in_retire_one w g.packets g.inflight g.buffer m in in_moved_slots h.long h w x st m

in_slots : (f : Found) (x : Request) (st : InStage) (w : ℕ) (buf m : List ℕ) → SlotsOnly m (in_step f x st w buf m).memory
unfolding in_step in_complete in_move
in_slots Complete x st w buf m = let g = in_retire_one w (in_received st) st.inflight buf m in in_first_slots g.long g w x st.status m
in_slots (Failed e) x st w buf m = slots_same m
in_slots Neither x st w buf m = let g = in_retire_one w (in_received st) st.inflight buf m in in_move_slots g.long g w x st m

out_slots : (f : Found) (x : Request) (st : OutStage) (w : ℕ) (buf m : List ℕ) → SlotsOnly m (out_step f x st w buf m).memory
unfolding out_step out_move
out_slots Complete x st w buf m = slots_at (out_complete_memory x st w m buf)
out_slots (Failed e) x st w buf m = slots_same m
out_slots Neither x st w buf m = two_slots w (out_packets x st) (out_retire_two w st.retire st.inflight).inflight buf m

keeping_slots : (s : Bool) (buf : List ℕ) (o : Outcome) (m : List ℕ) → SlotsOnly m o.memory → SlotsOnly m (keeping s buf o).memory
keeping_slots true buf o m p = p
keeping_slots false buf o m p = p

stage_slots : (f : Found) (x : Request) (st : Stage) (w : ℕ) (buf m : List ℕ) → SlotsOnly m (stage_step f x st w buf m).memory
stage_slots f x setup_stage w buf m = setup_slots f x buf m
stage_slots f x (in_stage st) w buf m =
    keeping_slots st.status buf (in_step f x st w (lent st.status buf) m) m (in_slots f x st w (lent st.status buf) m)
stage_slots f x (out_stage st) w buf m =
    keeping_slots st.status buf (out_step f x st w (lent st.status buf) m) m (out_slots f x st w (lent st.status buf) m)

polls_slots : (p : Option Found) (x : Request) (st : Stage) (w : ℕ) (buf m : List ℕ) → SlotsOnly m (polls p x st w buf m).memory
polls_slots None x st w buf m = slots_same m
polls_slots (Some f) x st w buf m = stage_slots f x st w buf m

step_if_slots : (a b : Bool) (r : Run) (s : Sample) (buf m : List ℕ) → SlotsOnly m (step_if a b r s buf m).memory
unfolding acts
step_if_slots false b r s buf m = slots_same m
step_if_slots true false r s buf m = slots_same m
step_if_slots true true r s buf m = polls_slots (classify s.status s.intr) r.request r.stage s.buffers buf m

step_lent_slots : (l b : Bool) (t : Option Run) (s : Sample) (buf m : List ℕ) → SlotsOnly m (step_lent l b t s buf m).memory
step_lent_slots false b t s buf m = slots_same m
step_lent_slots true b None s buf m = slots_same m
step_lent_slots true b (Some r) s buf m = step_if_slots (may_step b r) (eqb (length buf) r.request.length) r s buf m

pub step_slots : (b : Bool) (t : Option Run) (s : Sample) (buf m log : List ℕ) → SlotsOnly m (step_of b t s buf m log).memory
unfolding step_of
step_slots b t s buf m log = step_lent_slots (lent_fits m log) b t s buf m

-- ---- begins

begin_or_slots : (r : Result (Unit {0}) Refusal) (t : Option Run) (m : List ℕ) (b : Beginning) → SlotsOnly m b.memory → SlotsOnly m (begin_or r t m b).memory
begin_or_slots (Err e) t m b p = slots_same m
begin_or_slots (Ok tt) t m b p = p

pub begin_control_slots : (t : Option Run) (a : ℕ) (x : TransferExtras) (p : ℕ) (s : SetupPacket) (ph : DataPhase) (buf m log : List ℕ) → SlotsOnly m (begin_control_of t a x p s ph buf m log).memory
unfolding begin_control_of
begin_control_slots t a x p s ph buf m log =
    begin_or_slots (begin_refusal (lent_fits m log) (is_idle t) (fields_refusal (address_good a) true (size_good p) true)) t m (begins_control a x p s ph (length buf) m) (slots_same m)

pub begin_bulk_in_slots : (t : Option Run) (a e p : ℕ) (k : TransferType) (b : Bool) (buf m log : List ℕ) → SlotsOnly m (begin_bulk_in_of t a e p k b buf m log).memory
unfolding begin_bulk_in_of
begin_bulk_in_slots t a e p k b buf m log =
    begin_or_slots (begin_refusal (lent_fits m log) (is_idle t) (fields_refusal (address_good a) (endpoint_good e) (size_good p) (leb (length buf) 0xFFFF))) t m
    (begins_bulk_in (bulk_request In a e p b (length buf)) k m) (slots_same m)

pub begin_bulk_out_slots : (t : Option Run) (a e p : ℕ) (k : TransferType) (b : Bool) (buf m log : List ℕ) → SlotsOnly m (begin_bulk_out_of t a e p k b buf m log).memory
unfolding begin_bulk_out_of
begin_bulk_out_slots t a e p k b buf m log =
    let x = bulk_request Out a e p b (length buf) in
    begin_or_slots (begin_refusal (lent_fits m log) (is_idle t) (fields_refusal (address_good a) (endpoint_good e) (size_good p) (leb (length buf) 0xFFFF))) t m
    (begins_bulk_out x e k buf m) (start_slots (target_of x) k false 0 (length buf) buf m)
