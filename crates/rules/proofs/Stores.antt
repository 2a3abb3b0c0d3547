-- What begin and step leave of packet memory as lent. Assumes nothing.
use Rattle.std.specs.Prelude.{Err, None, Ok, Option, Result, Some}
use mathlib.Core.Path.{◌≡◌, refl, ap, sym, ◌∙◌}
use mathlib.Core.Bool.{Bool, true, false, ◌&&◌, true≢false}
use mathlib.Core.List.{List, [], ◌∷◌}
use Prim.Native.Nat.{ℕ, suc, ◌+◌, ◌≤◌, ◌<◌}
use native.Mathlib.Omega.{arith}
use borrow.Author.Tests.{le-leb, lt-ltb}
use lib.ListN.{length, set, get_or, take, drop, length-take}
use lib.Dec.{eqb, leb, ltb}
use lib.Seq.{sets, length-sets, get_or-set_other, ext_get_or}
use Rattle.cutting.specs.declared.transfer_type.TransferType.{TransferType}
use Rattle.cutting.specs.declared.transfer_type.TransferType.TheVariants.{FixedSize}
use Rattle.cutting.specs.declared.packetiser.OutCounters.{OutCounters}
use Rattle.cutting.specs.declared.depacketiser.InDepacketiser.{InDepacketiser}
use Rattle.cutting.specs.Counters.{out_start, out_next}
use Rattle.transfers.specs.declared.host_controller.DataPhase.{DataPhase}
use Rattle.transfers.specs.declared.host_controller.DataPhase.TheVariants.{In as phase_in, Out as phase_out, None as phase_none}
use Rattle.transfers.specs.declared.host_controller.TransferExtras.{TransferExtras}
use Rattle.transfers.specs.declared.wire.SetupPacket.{SetupPacket}
use Rattle.transfers.specs.declared.wire.Direction.TheVariants.{In, Out}
use Rattle.transfers.specs.declared.writes.Target.{Target}
use Rattle.transfers.specs.declared.answers.Armed.{Armed}
use Rattle.transfers.specs.declared.sample.Sample.{Sample}
use Rattle.transfers.specs.declared.sample.Found.{Found}
use Rattle.transfers.specs.declared.sample.Found.TheVariants.{Complete, Failed, Neither}
use Rattle.transfers.specs.declared.driver.Run.{Run}
use Rattle.transfers.specs.declared.driver.Request.{Request}
use Rattle.transfers.specs.declared.driver.Kind.{Kind}
use Rattle.transfers.specs.declared.driver.Kind.TheVariants.{Control as control, Bulk as bulk}
use Rattle.transfers.specs.declared.driver.Stage.{Stage}
use Rattle.transfers.specs.declared.driver.Stage.TheVariants.{Setup as setup_stage, In as in_stage, Out as out_stage}
use Rattle.transfers.specs.declared.driver.InStage.{InStage}
use Rattle.transfers.specs.declared.driver.OutStage.{OutStage}
use Rattle.transfers.specs.Memory.{slot_address, lent_fits}
use Rattle.transfers.specs.Answers.{out_of, outs_armed}
use Rattle.transfers.specs.Sample.{classify}
use Rattle.transfers.specs.Arming.{may_arm, out_armed, out_arm_if, out_arm, out_arm_two}
use Rattle.transfers.specs.Retiring.{InRetiring, in_retire_one}
use Rattle.transfers.specs.State.{endpoint_of, target_of, control_of, address_good, endpoint_good, size_good}
use Rattle.transfers.specs.Outcome.{Outcome, start_out}
use Rattle.transfers.specs.Step.{setup_done, setup_step, in_received, in_control_done, in_done, in_second_done, in_first_done, in_complete, in_second_moved, in_first_moved, in_move, in_step, out_packets, out_retire_two, out_move, out_step, lent, keeping, stage_step, polls, acts}
use Rattle.transfers.specs.Calls.{step_if, may_step, step_lent, step_of, fields_refusal, begin_refusal, Beginning, begin_or, is_idle, bulk_request, begins_control, begin_control_of, begins_bulk_in, begin_bulk_in_of, begins_bulk_out, begin_bulk_out_of}
use Rattle.transfers.proofs.Steps.{rearm_memory, out_complete_memory}
use Rattle.rules.specs.Stores.{slot_start, packet_byte, StoresArmed, Stores}
use Rattle.transfers.specs.declared.refusal.Refusal.{Refusal}
use Rattle.cutting.specs.declared.packetiser.Arm.{Arm}

-- What is stored leaves every byte before and after it.
sets_outside : (vs l : List ℕ) (at i : ℕ) → (at ≤ i → i < at + length vs → ⊥) → get_or (sets l at vs) i 0 ≡ get_or l i 0
sets_outside [] l at i h = refl
sets_outside (v ∷ vs) l at i h =
    sets_outside vs (set l at v) (suc at) i (λ p q. h (omega arith) (omega arith)) ∙ get_or-set_other l at i v 0 (λ e. h (omega arith) (omega arith))

-- A byte that is none of n from a place on.
outside : (at n i : ℕ) → (leb at i && ltb i (at + n)) ≡ false → at ≤ i → i < at + n → ⊥
outside at n i e p q =
    let t : (leb at i && ltb i (at + n)) ≡ true = rw (le-leb at i p, lt-ltb i (at + n) q) in
    true≢false (sym t ∙ e)

slot_start_lem : (s : Bool) → slot_address s ≡ slot_start s
slot_start_lem false = refl
slot_start_lem true = refl

-- Memory of one length that differs in no byte is the same.
stores : (a : Armed) (m m' : List ℕ) → length m' ≡ length m
    → ((i : ℕ) → packet_byte a.first i ≡ false → packet_byte a.second i ≡ false → get_or m' i 0 ≡ get_or m i 0) → StoresArmed a m m'
stores a m m' r b = record {
  none = λ f s. ext_get_or 0 m' m r (λ i h. b i (ap (λ o. packet_byte o i) f) (ap (λ o. packet_byte o i) s));
  same_length = r;
  bytes = b;
}

stores_at : {a : Armed} {m m' : List ℕ} → m' ≡ m → StoresArmed a m m'
stores_at e = record { none = λ f s. e; same_length = ap (λ (l : List ℕ). length l) e; bytes = λ i f s. ap (λ (l : List ℕ). get_or l i 0) e }

stores_same : {a : Armed} (m : List ℕ) → StoresArmed a m m
stores_same m = stores_at refl

-- ---- arming

arm_stores : (address endpoint w : ℕ) (c : OutCounters) (k : ℕ) (buf m : List ℕ)
    → (length (out_arm w c k buf m).memory ≡ length m)
    × ((i : ℕ) → packet_byte (out_of address endpoint (out_arm w c k buf m).arm) i ≡ false → get_or (out_arm w c k buf m).memory i 0 ≡ get_or m i 0)
unfolding out_arm
arm_stores address endpoint w c k buf m = may (may_arm w k c.slot)
  where
    with_arm : (a : Option Arm) → (length (out_armed a (out_next c).rest k c.offset buf m).memory ≡ length m)
        × ((i : ℕ) → packet_byte (out_of address endpoint (out_armed a (out_next c).rest k c.offset buf m).arm) i ≡ false
        → get_or (out_armed a (out_next c).rest k c.offset buf m).memory i 0 ≡ get_or m i 0)
    with_arm None = (refl, λ i e. refl)
    with_arm (Some a) =
        let vs = take a.length (drop c.offset buf) in (
          length-sets m (slot_address a.slot) vs,
          λ i e. sets_outside vs m (slot_address a.slot) i
              (λ p q. outside (slot_start a.slot) a.length i e (omega (arith, slot_start_lem a.slot))
              (omega (arith, slot_start_lem a.slot, length-take a.length (drop c.offset buf)))),
        )

    may : (b : Bool) → (length (out_arm_if b c k buf m).memory ≡ length m)
        × ((i : ℕ) → packet_byte (out_of address endpoint (out_arm_if b c k buf m).arm) i ≡ false → get_or (out_arm_if b c k buf m).memory i 0 ≡ get_or m i 0)
    may false = (refl, λ i e. refl)
    may true = with_arm (out_next c).arm

two_stores : (address endpoint w : ℕ) (c : OutCounters) (k : ℕ) (buf m : List ℕ)
    → StoresArmed (outs_armed address endpoint (out_arm_two w c k buf m).first (out_arm_two w c k buf m).second) m (out_arm_two w c k buf m).memory
unfolding out_arm_two
two_stores address endpoint w c k buf m =
    let g = out_arm w c k buf m in
    let p = arm_stores address endpoint w c k buf m in
    let q = arm_stores address endpoint w g.packets g.inflight buf g.memory in
    stores _ m _ (q.0 ∙ p.0) (λ i f s. q.1 i s ∙ p.1 i f)

start_stores : (address endpoint : ℕ) (t : Target) (k : TransferType) (status : Bool) (received n : ℕ) (buf m : List ℕ)
    → StoresArmed (outs_armed address endpoint (start_out t k status received n buf m).first (start_out t k status received n buf m).second) m (start_out t k status received n buf m).memory
unfolding start_out
start_stores address endpoint t k status received n buf m = two_stores address endpoint 0 (out_start k t.size t.pid n) 0 buf m

-- ---- steps

setup_done_stores : (ph : DataPhase) (s : Bool) (x : Request) (n : ℕ) (buf m : List ℕ) → StoresArmed (setup_done ph s x n buf m).armed m (setup_done ph s x n buf m).memory
setup_done_stores phase_in true x n buf m = stores_same m
setup_done_stores phase_in false x n buf m = stores_same m
setup_done_stores phase_out true x n buf m = stores_same m
setup_done_stores phase_out false x n buf m = start_stores x.address (endpoint_of x.kind) (target_of x) FixedSize false 0 n buf m
setup_done_stores phase_none s x n buf m = stores_same m

setup_stores : (f : Found) (x : Request) (buf m : List ℕ) → StoresArmed (setup_step f x buf m).armed m (setup_step f x buf m).memory
unfolding setup_step
setup_stores Complete x buf m = let c = control_of x.kind in setup_done_stores c.phase (ltb x.length c.wLength) x c.wLength buf m
setup_stores (Failed e) x buf m = stores_same m
setup_stores Neither x buf m = stores_same m

in_control_stores : (s : Bool) (ph : DataPhase) (x : Request) (n : ℕ) (m buf : List ℕ) → StoresArmed (in_control_done s ph x n m buf).armed m (in_control_done s ph x n m buf).memory
in_control_stores true ph x n m buf = stores_same m
in_control_stores false ph x n m buf = start_stores x.address (endpoint_of x.kind) (target_of x) FixedSize true n 0 [] m

in_done_stores : (k : Kind) (s : Bool) (x : Request) (d : InDepacketiser) (m buf : List ℕ) → StoresArmed (in_done k s x d m buf).armed m (in_done k s x d m buf).memory
in_done_stores (control c) s x d m buf = in_control_stores s c.phase x d.offset m buf
in_done_stores (bulk b) s x d m buf = stores_same m

in_second_stores : (b : Bool) (h : InRetiring) (x : Request) (s : Bool) (m : List ℕ) → StoresArmed (in_second_done b h x s m).armed m (in_second_done b h x s m).memory
in_second_stores true h x s m = stores_same m
in_second_stores false h x s m = in_done_stores x.kind s x h.packets m h.buffer

in_first_stores : (b : Bool) (g : InRetiring) (w : ℕ) (x : Request) (s : Bool) (m : List ℕ) → StoresArmed (in_first_done b g w x s m).armed m (in_first_done b g w x s m).memory
in_first_stores true g w x s m = stores_same m
in_first_stores false g w x s m = let h = in_retire_one w g.packets g.inflight g.buffer m in in_second_stores h.long h x s m

in_moved_stores : (b : Bool) (h : InRetiring) (w : ℕ) (x : Request) (st : InStage) (m : List ℕ) → StoresArmed (in_second_moved b h w x st m).armed m (in_second_moved b h w x st m).memory
in_moved_stores true h w x st m = stores_same m
in_moved_stores false h w x st m = stores_at (rearm_memory x st h.packets h.inflight w m h.buffer)

in_move_stores : (b : Bool) (g : InRetiring) (w : ℕ) (x : Request) (st : InStage) (m : List ℕ) → StoresArmed (in_first_moved b g w x st m).armed m (in_first_moved b g w x st m).memory
in_move_stores true g w x st m = stores_same m
in_move_stores false g w x st m = let h = in_retire_one w g.packets g.inflight g.buffer m in in_moved_stores h.long h w x st m

in_stores : (f : Found) (x : Request) (st : InStage) (w : ℕ) (buf m : List ℕ) → StoresArmed (in_step f x st w buf m).armed m (in_step f x st w buf m).memory
unfolding in_step in_complete in_move
in_stores Complete x st w buf m = let g = in_retire_one w (in_received st) st.inflight buf m in in_first_stores g.long g w x st.status m
in_stores (Failed e) x st w buf m = stores_same m
in_stores Neither x st w buf m = let g = in_retire_one w (in_received st) st.inflight buf m in in_move_stores g.long g w x st m

out_stores : (f : Found) (x : Request) (st : OutStage) (w : ℕ) (buf m : List ℕ) → StoresArmed (out_step f x st w buf m).armed m (out_step f x st w buf m).memory
unfolding out_step out_move
out_stores Complete x st w buf m = stores_at (out_complete_memory x st w m buf)
out_stores (Failed e) x st w buf m = stores_same m
out_stores Neither x st w buf m = two_stores x.address (endpoint_of x.kind) w (out_packets x st) (out_retire_two w st.retire st.inflight).inflight buf m

keeping_stores : (s : Bool) (buf : List ℕ) (o : Outcome) (m : List ℕ) → StoresArmed o.armed m o.memory → StoresArmed (keeping s buf o).armed m (keeping s buf o).memory
keeping_stores true buf o m p = p
keeping_stores false buf o m p = p

stage_stores : (f : Found) (x : Request) (st : Stage) (w : ℕ) (buf m : List ℕ) → StoresArmed (stage_step f x st w buf m).armed m (stage_step f x st w buf m).memory
stage_stores f x setup_stage w buf m = setup_stores f x buf m
stage_stores f x (in_stage st) w buf m =
    keeping_stores st.status buf (in_step f x st w (lent st.status buf) m) m (in_stores f x st w (lent st.status buf) m)
stage_stores f x (out_stage st) w buf m =
    keeping_stores st.status buf (out_step f x st w (lent st.status buf) m) m (out_stores f x st w (lent st.status buf) m)

polls_stores : (p : Option Found) (x : Request) (st : Stage) (w : ℕ) (buf m : List ℕ) → StoresArmed (polls p x st w buf m).armed m (polls p x st w buf m).memory
polls_stores None x st w buf m = stores_same m
polls_stores (Some f) x st w buf m = stage_stores f x st w buf m

step_if_stores : (a b : Bool) (r : Run) (s : Sample) (buf m : List ℕ) → StoresArmed (step_if a b r s buf m).armed m (step_if a b r s buf m).memory
unfolding acts
step_if_stores false b r s buf m = stores_same m
step_if_stores true false r s buf m = stores_same m
step_if_stores true true r s buf m = polls_stores (classify s.status s.intr) r.request r.stage s.buffers buf m

step_lent_stores : (l b : Bool) (t : Option Run) (s : Sample) (buf m : List ℕ) → StoresArmed (step_lent l b t s buf m).armed m (step_lent l b t s buf m).memory
step_lent_stores false b t s buf m = stores_same m
step_lent_stores true b None s buf m = stores_same m
step_lent_stores true b (Some r) s buf m = step_if_stores (may_step b r) (eqb (length buf) r.request.length) r s buf m

step_stores : (b : Bool) (t : Option Run) (s : Sample) (buf m log : List ℕ) → StoresArmed (step_of b t s buf m log).armed m (step_of b t s buf m log).memory
unfolding step_of
step_stores b t s buf m log = step_lent_stores (lent_fits m log) b t s buf m

-- ---- begins

begin_or_stores : (r : Result (Unit {0}) Refusal) (t : Option Run) (m : List ℕ) (b : Beginning) → StoresArmed b.armed m b.memory → StoresArmed (begin_or r t m b).armed m (begin_or r t m b).memory
begin_or_stores (Err e) t m b p = stores_same m
begin_or_stores (Ok tt) t m b p = p

begin_control_stores : (t : Option Run) (a : ℕ) (x : TransferExtras) (p : ℕ) (s : SetupPacket) (ph : DataPhase) (buf m log : List ℕ) → StoresArmed (begin_control_of t a x p s ph buf m log).armed m (begin_control_of t a x p s ph buf m log).memory
unfolding begin_control_of
begin_control_stores t a x p s ph buf m log =
    begin_or_stores (begin_refusal (lent_fits m log) (is_idle t) (fields_refusal (address_good a) true (size_good p) true)) t m (begins_control a x p s ph (length buf) m) (stores_same m)

begin_bulk_in_stores : (t : Option Run) (a e p : ℕ) (k : TransferType) (b : Bool) (buf m log : List ℕ) → StoresArmed (begin_bulk_in_of t a e p k b buf m log).armed m (begin_bulk_in_of t a e p k b buf m log).memory
unfolding begin_bulk_in_of
begin_bulk_in_stores t a e p k b buf m log =
    begin_or_stores (begin_refusal (lent_fits m log) (is_idle t) (fields_refusal (address_good a) (endpoint_good e) (size_good p) (leb (length buf) 0xFFFF))) t m
    (begins_bulk_in (bulk_request In a e p b (length buf)) k m) (stores_same m)

begin_bulk_out_stores : (t : Option Run) (a e p : ℕ) (k : TransferType) (b : Bool) (buf m log : List ℕ) → StoresArmed (begin_bulk_out_of t a e p k b buf m log).armed m (begin_bulk_out_of t a e p k b buf m log).memory
unfolding begin_bulk_out_of
begin_bulk_out_stores t a e p k b buf m log =
    let x = bulk_request Out a e p b (length buf) in
    begin_or_stores (begin_refusal (lent_fits m log) (is_idle t) (fields_refusal (address_good a) (endpoint_good e) (size_good p) (leb (length buf) 0xFFFF))) t m
    (begins_bulk_out x e k buf m) (start_stores x.address e (target_of x) k false 0 (length buf) buf m)

pub stores_armed : Stores
stores_armed = record {
  step = step_stores;
  control = begin_control_stores;
  bulk_in = begin_bulk_in_stores;
  bulk_out = begin_bulk_out_stores;
}
