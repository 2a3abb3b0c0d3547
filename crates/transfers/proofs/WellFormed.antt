-- From a state that the calls leave, begin, step and cancel leave such a state again: among others, never more than two in flight. Assumes nothing.
use Rattle.std.proofs.Common.{◌≡◌, ℕ, ◌+◌, ◌≤◌, Bool, true, false, cond, ◌&&◌, eqb, ltb, leb, List, [], length, sym, refl, ap, ◌∙◌, arith, ltb-false, le-leb, leb-true, Err, None, Ok, Option, Result, Some}
use Rattle.cutting.specs.declared.transfer_type.TransferType.{TransferType}
use Rattle.cutting.specs.declared.transfer_type.TransferType.TheVariants.{FixedSize}
use Rattle.cutting.specs.declared.depacketiser.InDepacketiser.{InDepacketiser}
use Rattle.cutting.specs.Counters.{in_start_of, out_start}
use Rattle.transfers.specs.declared.host_controller.DataPhase.{DataPhase}
use Rattle.transfers.specs.declared.host_controller.DataPhase.TheVariants.{In as phase_in, Out as phase_out, None as phase_none}
use Rattle.transfers.specs.declared.host_controller.TransferExtras.{TransferExtras}
use Rattle.transfers.specs.declared.wire.SetupPacket.{SetupPacket}
use Rattle.transfers.specs.declared.wire.Direction.TheVariants.{In, Out}
use Rattle.transfers.specs.declared.writes.Target.{Target}
use Rattle.transfers.specs.declared.sample.Sample.{Sample}
use Rattle.transfers.specs.declared.sample.Found.{Found}
use Rattle.transfers.specs.declared.sample.Found.TheVariants.{Complete, Failed, Neither}
use Rattle.transfers.specs.declared.driver.Run.{Run}
use Rattle.transfers.specs.declared.driver.Request.{Request}
use Rattle.transfers.specs.declared.driver.Kind.{Kind}
use Rattle.transfers.specs.declared.driver.Kind.TheVariants.{Control as control, Bulk as bulk}
use Rattle.transfers.specs.declared.driver.Control.{Control}
use Rattle.transfers.specs.declared.driver.Stage.{Stage}
use Rattle.transfers.specs.declared.driver.Stage.TheVariants.{Setup as setup_stage, In as in_stage, Out as out_stage}
use Rattle.transfers.specs.declared.driver.InStage.{InStage}
use Rattle.transfers.specs.declared.driver.OutStage.{OutStage}
use Rattle.transfers.specs.Memory.{lent_fits}
use Rattle.transfers.specs.Sample.{classify}
use Rattle.transfers.specs.Arming.{in_arm_two, out_arm_two}
use Rattle.transfers.specs.Retiring.{InRetiring, in_retire_one, out_retire_one}
use Rattle.transfers.specs.State.{target_of, stage_length, fills, same, phase_has, kind_has, is_control, stage_fits, served, address_good, endpoint_good, size_good, request_good, moving_good, stage_good, sound, control_of}
use Rattle.transfers.specs.Outcome.{Outcome, start_in, start_out}
use Rattle.transfers.specs.Step.{setup_done, setup_step, in_received, in_packets, in_done, in_second_done, in_first_done, in_complete, in_rearm, in_second_moved, in_first_moved, in_move, in_step, out_packets, out_retire_two, out_control_done, out_done, out_complete, out_move, out_step, lent, keeping, stage_step, polls, acts}
use Rattle.transfers.specs.Calls.{may_step, either_serves, well_formed, step_if, step_lent, step_of, cancel_if, cancel_of, is_idle, fields_refusal, begin_refusal, Beginning, begin_or, bulk_request, begins_control, begin_control_of, begins_bulk_in, begin_bulk_in_of, begins_bulk_out, begin_bulk_out_of}
use Rattle.transfers.proofs.Readiness.{both, may_parts}
use Rattle.transfers.proofs.Beginnings.{none_fields}
use Rattle.transfers.proofs.Armings.{in_two_flight, out_two_flight, out_two_sum, in_retires, out_retires}
use Rattle.transfers.specs.declared.refusal.Refusal.{Refusal}

no : {A : Type 0} → false ≡ true → A
no e = absurd (let z : ◌≡◌ {A = ℕ} 0 1 = cc in omega arith)

and : {a b : Bool} → a ≡ true → b ≡ true → (a && b) ≡ true
and {a} {b} p q = rw (p, q)

-- A stage that its request has, in a sound state.
pub record Good (x : Request) (st : Stage) : Type 0 where
  pub fit : stage_fits x.kind st ≡ true
  pub request : request_good x ≡ true
  pub stage : stage_good x st ≡ true

good_sound : {x : Request} {st : Stage} → Good x st → sound x st ≡ true
unfolding sound
good_sound g = and g.request g.stage

pub good_well : (x : Request) (st : Stage) → Good x st → well_formed (Some (record { request = x; stage = st })) ≡ true
unfolding served
good_well x st g = go (fills x.kind) (stage_fits x.kind st) (sound x st) g.fit (good_sound g)
  where
    go : (f a b : Bool) → a ≡ true → b ≡ true → cond ((same true f && a) && b) true ((same false f && a) && b) ≡ true
    go true true true p q = refl
    go false true true p q = refl
    go true true false p q = no q
    go false true false p q = no q
    go true false b p q = no p
    go false false b p q = no p

pub may_good : (b : Bool) (r : Run) → may_step b r ≡ true → Good r.request r.stage
unfolding served sound
may_good b r e =
    let u = may_parts b r e in
    let f = both (same b (fills r.request.kind)) (stage_fits r.request.kind r.stage) u.0 in
    let s = both (request_good r.request) (stage_good r.request r.stage) u.1 in
    record { fit = f.1; request = s.0; stage = s.1 }

moving : (k off r n len : ℕ) → k ≤ 2 → off + r ≤ n → n ≤ len → moving_good k off r n len ≡ true
moving k off r n len a b c = and (le-leb k 2 a) (and (le-leb (off + r) n b) (le-leb n len c))

-- The parts of a sound moving stage.
record Moving (k off r n len : ℕ) : Type 0 where
  flight : k ≤ 2
  within : off + r ≤ n
  room : n ≤ len

moving_parts : (k off r n len : ℕ) → moving_good k off r n len ≡ true → Moving k off r n len
moving_parts k off r n len e =
    let u = both (leb k 2) (leb (off + r) n && leb n len) e in
    let v = both (leb (off + r) n) (leb n len) u.1 in
    record { flight = leb-true k 2 u.0; within = leb-true (off + r) n v.0; room = leb-true n len v.1 }

-- ---- stages that begin

start_in_good : (x : Request) (t : Target) (k : TransferType) (status : Bool) (n : ℕ) → request_good x ≡ true → kind_has x.kind true status ≡ true → stage_length x status ≡ n → n ≤ x.length
    → Good x (in_stage (start_in t k status n).stage)
unfolding start_in
start_in_good x t k status n g f e h = record {
  fit = f;
  request = g;
  stage = moving (in_arm_two 0 (in_start_of k t.size t.pid n) 0).inflight 0 n (stage_length x status) x.length (in_two_flight 0 (in_start_of k t.size t.pid n) 0 (omega arith)) (omega arith) (omega arith);
}

start_out_good : (x : Request) (t : Target) (k : TransferType) (status : Bool) (received n : ℕ) (buf m : List ℕ) → request_good x ≡ true → kind_has x.kind false status ≡ true → stage_length x status ≡ n → n ≤ x.length
    → Good x (out_stage (start_out t k status received n buf m).stage)
unfolding start_out
start_out_good x t k status received n buf m g f e h =
    let c = out_start k t.size t.pid n in
    let a = out_arm_two 0 c 0 buf m in
    record {
      fit = f;
      request = g;
      stage = moving a.inflight a.packets.offset a.packets.remain (stage_length x status) x.length (out_two_flight 0 c 0 buf m (omega arith)) (omega (arith, out_two_sum 0 c 0 buf m)) (omega arith);
    }

abbrev Well : Outcome → Type 0
Well o = well_formed o.next ≡ true

-- ---- SETUP

setup_done_well : (ph : DataPhase) (s : Bool) (x : Request) (c : Control) (buf m : List ℕ) → x.kind ≡ control c → c.phase ≡ ph → (s ≡ false → c.wLength ≤ x.length) → request_good x ≡ true
    → Well (setup_done ph s x c.wLength buf m)
setup_done_well phase_in true x c buf m e f h g = refl
setup_done_well phase_in false x c buf m e f h g =
    good_well x (in_stage (start_in (target_of x) FixedSize false c.wLength).stage) (start_in_good x (target_of x) FixedSize false c.wLength g (rw (e, f)) (rw e) (h refl))
setup_done_well phase_out true x c buf m e f h g = refl
setup_done_well phase_out false x c buf m e f h g =
    good_well x (out_stage (start_out (target_of x) FixedSize false 0 c.wLength buf m).stage) (start_out_good x (target_of x) FixedSize false 0 c.wLength buf m g (rw (e, f)) (rw e) (h refl))
setup_done_well phase_none s x c buf m e f h g =
    good_well x (in_stage (start_in (target_of x) FixedSize true 0).stage) (start_in_good x (target_of x) FixedSize true 0 g (rw (e, f)) refl (omega arith))

setup_well : (f : Found) (x : Request) (buf m : List ℕ) → Good x setup_stage → Well (setup_step f x buf m)
unfolding setup_step
setup_well Complete x buf m g = by x.kind refl
  where
    by : (k : Kind) → x.kind ≡ k → Well (setup_done (control_of x.kind).phase (ltb x.length (control_of x.kind).wLength) x (control_of x.kind).wLength buf m)
    by (control c) e = rw (ap control_of e) (setup_done_well c.phase (ltb x.length c.wLength) x c buf m e refl (ltb-false x.length c.wLength) g.request)
    by (bulk b) e = no (sym (ap is_control e) ∙ g.fit)
setup_well (Failed e) x buf m g = refl
setup_well Neither x buf m g = good_well x setup_stage g

-- ---- IN

in_phase : (ph : DataPhase) → phase_has ph true false ≡ true → phase_has ph false true ≡ true
in_phase phase_in e = refl
in_phase phase_out e = no e
in_phase phase_none e = no e

in_done_well : (x : Request) (st : InStage) (d : InDepacketiser) (m buf : List ℕ) → Good x (in_stage st) → Well (in_done x.kind st.status x d m buf)
in_done_well x st d m buf g = by x.kind refl st.status refl
  where
    by : (k : Kind) → x.kind ≡ k → (s : Bool) → st.status ≡ s → Well (in_done k s x d m buf)
    by (control c) e true q = refl
    by (control c) e false q =
        let f : phase_has c.phase true false ≡ true = sym (ap (λ (k : Kind). kind_has k true st.status) e ∙ ap (phase_has c.phase true) q) ∙ g.fit in
        good_well x (out_stage (start_out (target_of x) FixedSize true d.offset 0 [] m).stage)
        (start_out_good x (target_of x) FixedSize true d.offset 0 [] m g.request (rw e (in_phase c.phase f)) refl (omega arith))
    by (bulk b) e s q = refl

in_second_well : (b : Bool) (h : InRetiring) (x : Request) (st : InStage) (m : List ℕ) → Good x (in_stage st) → Well (in_second_done b h x st.status m)
in_second_well true h x st m g = refl
in_second_well false h x st m g = in_done_well x st h.packets m h.buffer g

in_first_well : (b : Bool) (h : InRetiring) (w : ℕ) (x : Request) (st : InStage) (m : List ℕ) → Good x (in_stage st) → Well (in_first_done b h w x st.status m)
in_first_well true h w x st m g = refl
in_first_well false h w x st m g = let i = in_retire_one w h.packets h.inflight h.buffer m in in_second_well i.long i x st m g

rearm_well : (x : Request) (st : InStage) (d : InDepacketiser) (k w : ℕ) (m buf : List ℕ) → Good x (in_stage st) → k ≤ 2 → d.offset + d.remain ≡ st.offset + st.remain → Well (in_rearm x st d k w m buf)
unfolding in_rearm
rearm_well x st d k w m buf g h e =
    let p = moving_parts st.inflight st.offset st.remain (stage_length x st.status) x.length g.stage in
    let a = in_arm_two w (in_packets x st) k in
    good_well x (in_stage (record { status = st.status; slot = a.packets.slot; toarm = a.packets.remain; zlp = a.packets.zlp; retire = d.parity; remain = d.remain; offset = d.offset; inflight = a.inflight }))
    (record {
      fit = g.fit;
      request = g.request;
      stage = moving a.inflight d.offset d.remain (stage_length x st.status) x.length (in_two_flight w (in_packets x st) k h) (omega (arith, p.within)) p.room;
    })

in_moved_well : (b : Bool) (h : InRetiring) (w : ℕ) (x : Request) (st : InStage) (m : List ℕ) → Good x (in_stage st) → h.inflight ≤ 2 → h.packets.offset + h.packets.remain ≡ st.offset + st.remain → Well (in_second_moved b h w x st m)
in_moved_well true h w x st m g f e = refl
in_moved_well false h w x st m g f e = rearm_well x st h.packets h.inflight w m h.buffer g f e

in_move_well : (b : Bool) (h : InRetiring) (w : ℕ) (x : Request) (st : InStage) (m : List ℕ) → Good x (in_stage st) → h.inflight ≤ 2 → h.packets.offset + h.packets.remain ≡ st.offset + st.remain → Well (in_first_moved b h w x st m)
in_move_well true h w x st m g f e = refl
in_move_well false h w x st m g f e =
    let i = in_retire_one w h.packets h.inflight h.buffer m in
    let r = in_retires w h.packets h.inflight h.buffer m in
    in_moved_well i.long i w x st m g (omega (arith, r.flight)) (r.sum ∙ e)

in_well : (f : Found) (x : Request) (st : InStage) (w : ℕ) (buf m : List ℕ) → Good x (in_stage st) → Well (in_step f x st w buf m)
unfolding in_step in_complete in_move
in_well Complete x st w buf m g = let h = in_retire_one w (in_received st) st.inflight buf m in in_first_well h.long h w x st m g
in_well (Failed e) x st w buf m g = refl
in_well Neither x st w buf m g =
    let h = in_retire_one w (in_received st) st.inflight buf m in
    let r = in_retires w (in_received st) st.inflight buf m in
    let p = moving_parts st.inflight st.offset st.remain (stage_length x st.status) x.length g.stage in
    in_move_well h.long h w x st m g (omega (arith, r.flight, p.flight)) r.sum

-- ---- OUT

out_phase : (ph : DataPhase) → phase_has ph false false ≡ true → phase_has ph true true ≡ true
out_phase phase_in e = no e
out_phase phase_out e = refl
out_phase phase_none e = no e

out_done_well : (x : Request) (st : OutStage) (p : Bool) (m buf : List ℕ) → Good x (out_stage st) → Well (out_done x.kind x st p m buf)
out_done_well x st p m buf g = by x.kind refl
  where
    status : (c : Control) → x.kind ≡ control c → (s : Bool) → st.status ≡ s → Well (out_control_done s x st.received m buf)
    status c e true q = refl
    status c e false q =
        let f : phase_has c.phase false false ≡ true = sym (ap (λ (k : Kind). kind_has k false st.status) e ∙ ap (phase_has c.phase false) q) ∙ g.fit in
        good_well x (in_stage (start_in (target_of x) FixedSize true 0).stage) (start_in_good x (target_of x) FixedSize true 0 g.request (rw e (out_phase c.phase f)) refl (omega arith))

    by : (k : Kind) → x.kind ≡ k → Well (out_done k x st p m buf)
    by (control c) e = status c e st.status refl
    by (bulk b) e = refl

out_well : (f : Found) (x : Request) (st : OutStage) (w : ℕ) (buf m : List ℕ) → Good x (out_stage st) → Well (out_step f x st w buf m)
unfolding out_step out_complete out_move
out_well Complete x st w buf m g = out_done_well x st (out_retire_two w st.retire st.inflight).parity m buf g
out_well (Failed e) x st w buf m g = refl
out_well Neither x st w buf m g =
    let r = out_retire_two w st.retire st.inflight in
    let o = out_retire_one w st.retire st.inflight in
    let a = out_arm_two w (out_packets x st) r.inflight buf m in
    let p = moving_parts st.inflight st.offset st.remain (stage_length x st.status) x.length g.stage in
    let f : r.inflight ≤ 2 = omega (arith, p.flight, out_retires w st.retire st.inflight, out_retires w o.parity o.inflight) in
    good_well x (out_stage (record { status = st.status; slot = a.packets.slot; remain = a.packets.remain; offset = a.packets.offset; zlp = a.packets.zlp; retire = r.parity; inflight = a.inflight; received = st.received }))
    (record {
      fit = g.fit;
      request = g.request;
      stage = moving a.inflight a.packets.offset a.packets.remain (stage_length x st.status) x.length (out_two_flight w (out_packets x st) r.inflight buf m f)
          (omega (arith, p.within, out_two_sum w (out_packets x st) r.inflight buf m)) p.room;
    })

-- ---- the calls

keeping_well : (s : Bool) (buf : List ℕ) (o : Outcome) → Well o → Well (keeping s buf o)
keeping_well true buf o p = p
keeping_well false buf o p = p

stage_well : (f : Found) (x : Request) (st : Stage) (w : ℕ) (buf m : List ℕ) → Good x st → Well (stage_step f x st w buf m)
stage_well f x setup_stage w buf m g = setup_well f x buf m g
stage_well f x (in_stage st) w buf m g = keeping_well st.status buf (in_step f x st w (lent st.status buf) m) (in_well f x st w (lent st.status buf) m g)
stage_well f x (out_stage st) w buf m g = keeping_well st.status buf (out_step f x st w (lent st.status buf) m) (out_well f x st w (lent st.status buf) m g)

polls_well : (p : Option Found) (x : Request) (st : Stage) (w : ℕ) (buf m : List ℕ) → Good x st → Well (polls p x st w buf m)
polls_well None x st w buf m g = good_well x st g
polls_well (Some f) x st w buf m g = stage_well f x st w buf m g

step_if_well : (a b fill : Bool) (r : Run) (s : Sample) (buf m : List ℕ) → may_step fill r ≡ a → well_formed (Some r) ≡ true → Well (step_if a b r s buf m)
unfolding acts
step_if_well false b fill r s buf m e h = h
step_if_well true false fill r s buf m e h = h
step_if_well true true fill r s buf m e h = polls_well (classify s.status s.intr) r.request r.stage s.buffers buf m (may_good fill r e)

step_lent_well : (l b : Bool) (t : Option Run) (s : Sample) (buf m : List ℕ) → well_formed t ≡ true → Well (step_lent l b t s buf m)
step_lent_well false b t s buf m h = h
step_lent_well true b None s buf m h = h
step_lent_well true b (Some r) s buf m h = step_if_well (may_step b r) (eqb (length buf) r.request.length) b r s buf m refl h

pub step_well : (b : Bool) (t : Option Run) (s : Sample) (buf m log : List ℕ) → well_formed t ≡ true → well_formed (step_of b t s buf m log).next ≡ true
unfolding step_of
step_well b t s buf m log h = step_lent_well (lent_fits m log) b t s buf m h

cancel_if_well : (b : Bool) (t : Option Run) (c v : Bool) → well_formed t ≡ true → well_formed (cancel_if b t c v).next ≡ true
cancel_if_well true t c v h = refl
cancel_if_well false t c v h = h

pub cancel_well : (t : Option Run) → well_formed t ≡ true → well_formed (cancel_of t).next ≡ true
unfolding cancel_of
cancel_well None h = refl
cancel_well (Some r) h = cancel_if_well (either_serves r) (Some r) _ _ h

begin_or_well : (r : Result (Unit {0}) Refusal) (t : Option Run) (m : List ℕ) (b : Beginning) → well_formed t ≡ true → (r ≡ Ok tt → well_formed b.next ≡ true) → well_formed (begin_or r t m b).next ≡ true
begin_or_well (Err e) t m b h f = h
begin_or_well (Ok tt) t m b h f = f refl

pub begin_control_well : (t : Option Run) (a : ℕ) (x : TransferExtras) (p : ℕ) (s : SetupPacket) (ph : DataPhase) (buf m log : List ℕ) → well_formed t ≡ true → well_formed (begin_control_of t a x p s ph buf m log).next ≡ true
unfolding begin_control_of
begin_control_well t a x p s ph buf m log h =
    begin_or_well (begin_refusal (lent_fits m log) (is_idle t) (fields_refusal (address_good a) true (size_good p) true)) t m (begins_control a x p s ph (length buf) m) h
    (λ (e : begin_refusal (lent_fits m log) (is_idle t) (fields_refusal (address_good a) true (size_good p) true) ≡ Ok tt).
    let f = none_fields (lent_fits m log) (is_idle t) (address_good a) true (size_good p) true e in
    good_well (record { address = a; size = p; kind = control (record { phase = ph; wLength = s.wLength }); length = length buf }) setup_stage
    (record { fit = refl; request = and f.0 (and f.2 refl); stage = refl }))

pub begin_bulk_in_well : (t : Option Run) (a e p : ℕ) (k : TransferType) (b : Bool) (buf m log : List ℕ) → well_formed t ≡ true → well_formed (begin_bulk_in_of t a e p k b buf m log).next ≡ true
unfolding begin_bulk_in_of
begin_bulk_in_well t a e p k b buf m log h =
    let x = bulk_request In a e p b (length buf) in
    begin_or_well (begin_refusal (lent_fits m log) (is_idle t) (fields_refusal (address_good a) (endpoint_good e) (size_good p) (leb (length buf) 0xFFFF))) t m (begins_bulk_in x k m) h
    (λ (q : begin_refusal (lent_fits m log) (is_idle t) (fields_refusal (address_good a) (endpoint_good e) (size_good p) (leb (length buf) 0xFFFF)) ≡ Ok tt).
    let f = none_fields (lent_fits m log) (is_idle t) (address_good a) (endpoint_good e) (size_good p) (leb (length buf) 0xFFFF) q in
    good_well x (in_stage (start_in (target_of x) k false (length buf)).stage)
    (start_in_good x (target_of x) k false (length buf) (and f.0 (and f.2 f.1)) refl refl (omega arith)))

pub begin_bulk_out_well : (t : Option Run) (a e p : ℕ) (k : TransferType) (b : Bool) (buf m log : List ℕ) → well_formed t ≡ true → well_formed (begin_bulk_out_of t a e p k b buf m log).next ≡ true
unfolding begin_bulk_out_of
begin_bulk_out_well t a e p k b buf m log h =
    let x = bulk_request Out a e p b (length buf) in
    begin_or_well (begin_refusal (lent_fits m log) (is_idle t) (fields_refusal (address_good a) (endpoint_good e) (size_good p) (leb (length buf) 0xFFFF))) t m (begins_bulk_out x e k buf m) h
    (λ (q : begin_refusal (lent_fits m log) (is_idle t) (fields_refusal (address_good a) (endpoint_good e) (size_good p) (leb (length buf) 0xFFFF)) ≡ Ok tt).
    let f = none_fields (lent_fits m log) (is_idle t) (address_good a) (endpoint_good e) (size_good p) (leb (length buf) 0xFFFF) q in
    good_well x (out_stage (start_out (target_of x) k false 0 (length buf) buf m).stage)
    (start_out_good x (target_of x) k false 0 (length buf) buf m (and f.0 (and f.2 f.1)) refl refl (omega arith)))
