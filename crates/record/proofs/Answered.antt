-- What begin and step answer that they armed is the wire record, for every list of calls. Assumes nothing.
use Rattle.std.specs.Prelude.{Err, None, Ok, Option, Result, Some}
use mathlib.Core.Path.{◌≡◌, refl, ap, ◌∙◌}
use mathlib.Core.Bool.{Bool, true, false}
use mathlib.Core.List.{List, [], ◌∷◌, ◌++◌, map}
use Prim.Native.Nat.{ℕ, ◌≤◌}
use lib.ListN.{length, take, drop}
use lib.Dec.{eqb, ltb, leb}
use Rattle.cutting.specs.declared.transfer_type.TransferType.{TransferType}
use Rattle.cutting.specs.declared.transfer_type.TransferType.TheVariants.{FixedSize}
use Rattle.cutting.specs.declared.depacketiser.InDepacketiser.{InDepacketiser}
use Rattle.cutting.specs.Counters.{out_start}
use Rattle.transfers.specs.declared.host_controller.UsbError.{UsbError}
use Rattle.transfers.specs.declared.host_controller.UsbError.TheVariants.{BufferTooSmall, ProtocolError}
use Rattle.transfers.specs.declared.host_controller.DataPhase.{DataPhase}
use Rattle.transfers.specs.declared.host_controller.DataPhase.TheVariants.{In as phase_in, Out as phase_out, None as phase_none}
use Rattle.transfers.specs.declared.wire.Direction.TheVariants.{In, Out}
use Rattle.transfers.specs.declared.answers.Armed.{Armed}
use Rattle.transfers.specs.declared.sample.Sample.{Sample}
use Rattle.transfers.specs.declared.sample.Found.TheVariants.{Complete, Failed, Neither}
use Rattle.transfers.specs.declared.driver.DeskRule.{DeskRule}
use Rattle.transfers.specs.declared.driver.Driver.{Driver}
use Rattle.transfers.specs.declared.driver.Request.{Request}
use Rattle.transfers.specs.declared.driver.Kind.{Kind}
use Rattle.transfers.specs.declared.driver.Kind.TheVariants.{Control as control_kind, Bulk as bulk_kind}
use Rattle.transfers.specs.declared.driver.Stage.{Stage}
use Rattle.transfers.specs.declared.driver.Stage.TheVariants.{Setup as setup_stage, In as in_stage, Out as out_stage}
use Rattle.transfers.specs.declared.driver.InStage.{InStage}
use Rattle.transfers.specs.declared.driver.OutStage.{OutStage}
use Rattle.transfers.specs.Log.{Write}
use Rattle.transfers.specs.Memory.{lent_fits}
use Rattle.record.specs.Chip.{slot_place}
use Rattle.transfers.specs.Registers.{addr_endp}
use Rattle.transfers.specs.Sample.{classify}
use Rattle.transfers.specs.Writes.{enable_writes, polled, awaits, quiets}
use Rattle.transfers.specs.Arming.{in_arm_two, out_arm_two}
use Rattle.transfers.specs.Answers.{nothing_armed, outs_armed}
use Rattle.transfers.specs.State.{endpoint_of, target_of, stage_length, control_of, address_good, endpoint_good, size_good}
use Rattle.transfers.specs.Retiring.{InRetiring, in_retire_one}
use Rattle.transfers.specs.Outcome.{Outcome, after, toggle_in, toggle_out, failed, start_in, start_out}
use Rattle.transfers.specs.Step.{setup_done, setup_step, in_packets, in_received, in_done, in_second_done, in_first_done, in_complete, in_rearm, in_second_moved, in_first_moved, in_move, in_step, out_packets, out_retire_two, out_control_done, out_done, out_complete, out_move, out_step, lent, keeping, polls, acts}
use Rattle.transfers.specs.Calls.{step_if, may_step, step_lent, step_of, cancel_if, stage_parity, either_serves, cancel_of, Beginning, begin_or, is_idle, begins_control, begin_control_of, bulk_request, begins_bulk_in, begins_bulk_out, begin_bulk_in_of, begin_bulk_out_of}
use Rattle.transfers.specs.Pipes.{opening, polling}
use Rattle.transfers.specs.Irq.{waking}
use Rattle.transfers.specs.Detect.{detecting}
use Rattle.transfers.proofs.Apart.{open_apart, poll_apart, irq_apart, detect_apart}
use Rattle.record.specs.Grammar.{out}
use Rattle.record.specs.Wire.{File, performs, events, entry_of, wire}
use Rattle.transfers.specs.Driver.{fresh}
use Rattle.record.specs.Calls.{Begin, control_begin, bulk_begin, Call, begin, step, cancel, open_pipe, close_pipe, poll_pipe, interrupt, detect, call, beginning}
use Rattle.record.specs.Armed.{entries_armed}
use Rattle.record.specs.Asked.{Typed, AllTyped, TypedBegin}
use Rattle.record.specs.Writer.{armed_in_range}
use Rattle.record.proofs.Logs.{Silent, silent_nil, silent_apart, silent_enable}
use Rattle.record.proofs.Stages.{between, start_log, heads, in_two, out_two, arm_events}
use Rattle.record.proofs.Begins.{request_of, Checked, endpoint_small}
use Rattle.record.proofs.Ranged.{two_small, none_ranged, outs_ranged, setup_ranged}
use Rattle.record.proofs.Inv.{Shown, shown_by, shown_file, wire_none}
use Rattle.record.proofs.Starting.{start_in_lem, setup_wire}
use Rattle.record.proofs.Stepping.{polled_only, quietened, completed, silent_polled, silent_quietened, silent_completed, silent_awaiting}
use Rattle.record.proofs.Beginning.{control_refusal, bulk_refusal, passed, checked_control, checked_bulk}
use Rattle.transfers.specs.declared.refusal.Refusal.{Refusal}
use Rattle.transfers.specs.declared.driver.Run.{Run}
use Rattle.transfers.specs.declared.sample.Found.{Found}
use Rattle.cutting.specs.declared.packetiser.Arm.{Arm}

-- ---- the invariant: in an OUT stage ADDR_ENDP shows the transfer's address and endpoint

pub record Good (x : Request) : Type 0 where
  pub addr : x.address ≤ 127
  pub endp : endpoint_of x.kind ≤ 15

abbrev pub Shows : File → Request → Stage → Type 0
Shows f x setup_stage = Unit {0}
Shows f x (in_stage st) = Unit {0}
Shows f x (out_stage st) = Shown f x.address (endpoint_of x.kind)

abbrev pub Known : File → Option Run → Type 0
Known f None = Unit {0}
Known f (Some r) = Good r.request × Shows f r.request r.stage

shows_file : (f g : File) (x : Request) (st : Stage) → g addr_endp ≡ f addr_endp → Shows f x st → Shows g x st
shows_file f g x setup_stage e i = tt
shows_file f g x (in_stage st) e i = tt
shows_file f g x (out_stage st) e i = shown_file f g x.address (endpoint_of x.kind) e i

known_file : (f g : File) (t : Option Run) → g addr_endp ≡ f addr_endp → Known f t → Known g t
known_file f g None e i = tt
known_file f g (Some r) e i = (i.0, shows_file f g r.request r.stage e i.1)

-- What a call leaves, writes, stores and says that it armed.
pub record Tells (f : File) (t : Option Run) (ws : List Write) (m : List ℕ) (a : Armed) : Type 0 where
  pub known : Known (performs f ws) t
  pub is : wire f ws m ≡ entries_armed m a
  pub ranged : armed_in_range a ≡ true

abbrev Told : File → Outcome → Type 0
Told f o = Tells f o.next o.writes o.memory o.armed

-- A silent log that arms nothing.
still : (f : File) (t : Option Run) (ws : List Write) (m : List ℕ) → Silent ws → Known f t → Tells f t ws m nothing_armed
still f t ws m s i = record { known = known_file f (performs f ws) t (s.addr f) i; is = wire_none f ws m (s.are f); ranged = none_ranged }

keeps : (f : File) (s : Bool) (now : List ℕ) (o : Outcome) → Told f (after quietened o) → Told f (after polled_only (keeping s now (after quiets o)))
keeps f true now o h = h
keeps f false now o h = h

-- ---- packets

arms_wire : (f : File) (ws : List Write) (m : List ℕ) (x y : ℕ) (a b : Option Arm) → events f ws ≡ arm_events a ++ arm_events b → Shown (performs f ws) x y
    → wire f ws m ≡ entries_armed m (outs_armed x y a b)
unfolding wire
arms_wire f ws m x y a b e s = ap (map (entry_of (performs f ws) m)) e ∙ by a b
  where
    by : (a b : Option Arm) → map (entry_of (performs f ws) m) (arm_events a ++ arm_events b) ≡ entries_armed m (outs_armed x y a b)
    by None None = refl
    by None (Some b) = λ i. out (s.addr i) (s.endp i) b.pid b.last (take b.length (drop (slot_place b.slot) m)) ∷ []
    by (Some a) None = λ i. out (s.addr i) (s.endp i) a.pid a.last (take a.length (drop (slot_place a.slot) m)) ∷ []
    by (Some a) (Some b) = λ i.
        out (s.addr i) (s.endp i) a.pid a.last (take a.length (drop (slot_place a.slot) m))
        ∷ out (s.addr i) (s.endp i) b.pid b.last (take b.length (drop (slot_place b.slot) m)) ∷ []

starts_out : (pre : List Write) (x : Request) (t : TransferType) (status : Bool) (received n : ℕ) (now m : List ℕ) (f : File) → Silent pre → Good x
    → Tells f (Some (record { request = x; stage = out_stage (start_out (target_of x) t status received n now m).stage })) (pre ++ (start_out (target_of x) t status received n now m).writes)
    (start_out (target_of x) t status received n now m).memory
    (outs_armed x.address (endpoint_of x.kind) (start_out (target_of x) t status received n now m).first (start_out (target_of x) t status received n now m).second)
unfolding start_out
starts_out pre x t status received n now m f sp gd =
    let T = target_of x in
    let c = out_start t T.size T.pid n in
    let g = out_arm_two 0 c 0 now m in
    let ws = start_log pre T n g.writes Out in
    let h = heads pre g.writes (arm_events g.first ++ arm_events g.second) T n Out sp (out_two 0 c 0 now m) f in
    let s = shown_by (performs f ws) x.address (endpoint_of x.kind) gd.addr gd.endp h.addr in
    record {
      known = (gd, s);
      is = arms_wire f ws g.memory x.address (endpoint_of x.kind) g.first g.second h.are s;
      ranged = outs_ranged x.address (endpoint_of x.kind) g.first g.second gd.addr gd.endp (two_small 0 c 0 now m);
    }

starts_in : (pre : List Write) (x : Request) (t : TransferType) (status : Bool) (n : ℕ) (m : List ℕ) (f : File) → Silent pre → Good x
    → Tells f (Some (record { request = x; stage = in_stage (start_in (target_of x) t status n).stage })) (pre ++ (start_in (target_of x) t status n).writes) m nothing_armed
starts_in pre x t status n m f sp gd = record { known = (gd, tt); is = wire_none f (pre ++ (start_in (target_of x) t status n).writes) m (start_in_lem pre x t status n f sp); ranged = none_ranged }

-- ---- a step

module _ (f : File) (x : Request) (gd : Good x) (now m : List ℕ) where
  tells_failed : (ws : List Write) (e : UsbError) (bf : List ℕ) → Silent (ws ++ []) → Told f (after ws (failed x false e m bf))
  tells_failed ws e bf s = still f None (ws ++ []) m s tt

  tells_setup : Told f (after polled_only (setup_step Complete x now m))
  unfolding setup_step
  tells_setup = let c = control_of x.kind in by c.phase (ltb x.length c.wLength) c.wLength
    where
      by : (ph : DataPhase) (v : Bool) (n : ℕ) → Told f (after polled_only (setup_done ph v x n now m))
      by phase_in true n = tells_failed polled_only BufferTooSmall now silent_polled
      by phase_in false n = starts_in polled_only x FixedSize false n m f silent_polled gd
      by phase_out true n = tells_failed polled_only BufferTooSmall now silent_polled
      by phase_out false n = starts_out polled_only x FixedSize false 0 n now m f silent_polled gd
      by phase_none v n = starts_in polled_only x FixedSize true 0 m f silent_polled gd

  tells_in_done : (k : Kind) (status : Bool) (d : InDepacketiser) (bf : List ℕ) → Told f (after completed (in_done k status x d m bf))
  tells_in_done (bulk_kind b) status d bf = still f None completed m silent_completed tt
  tells_in_done (control_kind c) true d bf = still f None completed m silent_completed tt
  tells_in_done (control_kind c) false d bf = starts_out completed x FixedSize true d.offset 0 [] m f silent_completed gd

  tells_in_complete : (st : InStage) (wd : ℕ) (bf : List ℕ) → Told f (after quietened (in_complete x st wd bf m))
  unfolding in_complete
  tells_in_complete st wd bf = let g = in_retire_one wd (in_received st) st.inflight bf m in first g.long g
    where
      second : (v : Bool) (h : InRetiring) → Told f (after completed (in_second_done v h x st.status m))
      second true h = tells_failed completed ProtocolError h.buffer silent_completed
      second false h = tells_in_done x.kind st.status h.packets h.buffer

      first : (v : Bool) (g : InRetiring) → Told f (after quietened (in_first_done v g wd x st.status m))
      first true g = tells_failed quietened ProtocolError g.buffer silent_quietened
      first false g = let h = in_retire_one wd g.packets g.inflight g.buffer m in second h.long h

  tells_rearm : (st : InStage) (d : InDepacketiser) (k wd : ℕ) (bf : List ℕ) → Told f (after quietened (in_rearm x st d k wd m bf))
  unfolding in_rearm
  tells_rearm st d k wd bf =
      let g = in_arm_two wd (in_packets x st) k in
      let last = enable_writes x.size (stage_length x st.status) in
      let s = between quietened g.writes last [] silent_quietened (in_two wd (in_packets x st) k) (silent_enable x.size (stage_length x st.status)) in
      record { known = (gd, tt); is = wire_none f (quietened ++ (g.writes ++ last)) m (s.are f); ranged = none_ranged }

  tells_in_move : (st : InStage) (wd : ℕ) (bf : List ℕ) → Told f (after quietened (in_move x st wd bf m))
  unfolding in_move
  tells_in_move st wd bf = let g = in_retire_one wd (in_received st) st.inflight bf m in first g.long g
    where
      second : (v : Bool) (h : InRetiring) → Told f (after quietened (in_second_moved v h wd x st m))
      second true h = tells_failed quietened ProtocolError h.buffer silent_quietened
      second false h = tells_rearm st h.packets h.inflight wd h.buffer

      first : (v : Bool) (g : InRetiring) → Told f (after quietened (in_first_moved v g wd x st m))
      first true g = tells_failed quietened ProtocolError g.buffer silent_quietened
      first false g = let h = in_retire_one wd g.packets g.inflight g.buffer m in second h.long h

  tells_out_complete : (st : OutStage) (wd : ℕ) (bf : List ℕ) → Told f (after quietened (out_complete x st wd m bf))
  unfolding out_complete
  tells_out_complete st wd bf = by x.kind (out_retire_two wd st.retire st.inflight).parity
    where
      control_done : (s : Bool) → Told f (after completed (out_control_done s x st.received m bf))
      control_done true = still f None completed m silent_completed tt
      control_done false = starts_in completed x FixedSize true 0 m f silent_completed gd

      by : (k : Kind) (parity : Bool) → Told f (after completed (out_done k x st parity m bf))
      by (control_kind c) parity = control_done st.status
      by (bulk_kind b) parity = still f None completed m silent_completed tt

  tells_out_move : (st : OutStage) (wd : ℕ) (bf : List ℕ) → Shown f x.address (endpoint_of x.kind) → Told f (after quietened (out_move x st wd bf m))
  unfolding out_move
  tells_out_move st wd bf sh =
      let r = out_retire_two wd st.retire st.inflight in
      let g = out_arm_two wd (out_packets x st) r.inflight bf m in
      let last = enable_writes x.size (stage_length x st.status) in
      let ws = quietened ++ (g.writes ++ last) in
      let s = between quietened g.writes last (arm_events g.first ++ arm_events g.second) silent_quietened (out_two wd (out_packets x st) r.inflight bf m)
      (silent_enable x.size (stage_length x st.status)) in
      let sh' = shown_file f (performs f ws) x.address (endpoint_of x.kind) (s.addr f) sh in
      record {
        known = (gd, sh');
        is = arms_wire f ws g.memory x.address (endpoint_of x.kind) g.first g.second (s.are f) sh';
        ranged = outs_ranged x.address (endpoint_of x.kind) g.first g.second gd.addr gd.endp (two_small wd (out_packets x st) r.inflight bf m);
      }

  tells_polls : (st : Stage) (p : Option Found) (wd : ℕ) → Shows f x st → Told f (polls p x st wd now m)
  unfolding setup_step in_step out_step
  tells_polls st None wd i = still f (Some (record { request = x; stage = st })) (polled ∷ awaits ∷ []) m silent_awaiting (gd, i)
  tells_polls setup_stage (Some Complete) wd i = tells_setup
  tells_polls setup_stage (Some (Failed e)) wd i = tells_failed polled_only e now silent_polled
  tells_polls setup_stage (Some Neither) wd i = still f (Some (record { request = x; stage = setup_stage })) polled_only m silent_polled (gd, tt)
  tells_polls (in_stage st) (Some Complete) wd i = keeps f st.status now (in_complete x st wd (lent st.status now) m) (tells_in_complete st wd (lent st.status now))
  tells_polls (in_stage st) (Some (Failed e)) wd i = keeps f st.status now (failed x st.retire e m (lent st.status now)) (tells_failed quietened e (lent st.status now) silent_quietened)
  tells_polls (in_stage st) (Some Neither) wd i = keeps f st.status now (in_move x st wd (lent st.status now) m) (tells_in_move st wd (lent st.status now))
  tells_polls (out_stage st) (Some Complete) wd i = keeps f st.status now (out_complete x st wd m (lent st.status now)) (tells_out_complete st wd (lent st.status now))
  tells_polls (out_stage st) (Some (Failed e)) wd i = keeps f st.status now (failed x st.retire e m (lent st.status now)) (tells_failed quietened e (lent st.status now) silent_quietened)
  tells_polls (out_stage st) (Some Neither) wd i = keeps f st.status now (out_move x st wd (lent st.status now) m) (tells_out_move st wd (lent st.status now) i)

tells_step : (f : File) (b : Bool) (t : Option Run) (y : Sample) (now m log : List ℕ) → Known f t → Told f (step_of b t y now m log)
unfolding step_of acts
tells_step f b t y now m log i = at (lent_fits m log) t i
  where
    at : (p : Bool) (t : Option Run) → Known f t → Told f (step_lent p b t y now m)
    at false t i = still f t [] m silent_nil i
    at true None i = still f None [] m silent_nil tt
    at true (Some r) i = by (may_step b r) (eqb (length now) r.request.length)
      where
        by : (p q : Bool) → Told f (step_if p q r y now m)
        by false q = still f (Some r) [] m silent_nil i
        by true false = still f (Some r) [] m silent_nil i
        by true true = tells_polls f r.request i.0 now m r.stage (classify y.status y.intr) y.buffers i.1

-- ---- a begin

abbrev Tells-begin : File → Beginning → Type 0
Tells-begin f o = Tells f o.next o.writes o.memory o.armed

begins_or : (f : File) (t : Option Run) (m : List ℕ) (r : Result (Unit {0}) Refusal) (o : Beginning) → Known f t → (r ≡ Ok tt → Tells-begin f o) → Tells-begin f (begin_or r t m o)
begins_or f t m (Err why) o i h = still f t [] m silent_nil i
begins_or f t m (Ok tt) o i h = h refl

good_of : (x : Begin) (buf : List ℕ) → Checked x buf → Good (request_of x buf)
good_of x buf ck = record { addr = ck.addr; endp = endpoint_small x buf ck }

tells_begin : (f : File) (t : Option Run) (x : Begin) (buf m log : List ℕ) → TypedBegin x → Known f t → Tells-begin f (beginning t x buf m log)
unfolding begin_control_of begin_bulk_in_of begin_bulk_out_of
tells_begin f t (control_begin a z p s ph) buf m log ty i =
    begins_or f t m (control_refusal t a p m log) (begins_control a z p s ph (length buf) m) i
    (λ q.
    let k = passed (lent_fits m log) (is_idle t) (address_good a) true (size_good p) true q in
    let ck = checked_control a z p s ph buf k.address k.size ty.2 in
    record { known = (good_of (control_begin a z p s ph) buf ck, tt); is = setup_wire f a z s m ck.addr ty.2; ranged = setup_ranged (record { address = a; setup = s }) ck.addr })
tells_begin f t (bulk_begin In a e p k b) buf m log ty i =
    begins_or f t m (bulk_refusal t a e p buf m log) (begins_bulk_in (bulk_request In a e p b (length buf)) k m) i
    (λ q.
    let j = passed (lent_fits m log) (is_idle t) (address_good a) (endpoint_good e) (size_good p) (leb (length buf) 0xFFFF) q in
    let ck = checked_bulk In a e p k b buf j.address j.endpoint j.size j.room in
    starts_in [] (bulk_request In a e p b (length buf)) k false (length buf) m f silent_nil (good_of (bulk_begin In a e p k b) buf ck))
tells_begin f t (bulk_begin Out a e p k b) buf m log ty i =
    begins_or f t m (bulk_refusal t a e p buf m log) (begins_bulk_out (bulk_request Out a e p b (length buf)) e k buf m) i
    (λ q.
    let j = passed (lent_fits m log) (is_idle t) (address_good a) (endpoint_good e) (size_good p) (leb (length buf) 0xFFFF) q in
    let ck = checked_bulk Out a e p k b buf j.address j.endpoint j.size j.room in
    starts_out [] (bulk_request Out a e p b (length buf)) k false 0 (length buf) buf m f silent_nil (good_of (bulk_begin Out a e p k b) buf ck))

-- ---- every call and every list

tells_cancel : (f : File) (t : Option Run) → Known f t → Tells f (cancel_of t).next [] [] nothing_armed
unfolding cancel_of
tells_cancel f None i = still f None [] [] silent_nil tt
tells_cancel f (Some r) i = by (either_serves r)
  where
    by : (b : Bool) → Tells f (cancel_if b (Some r) (toggle_in r.request.kind) (toggle_out r.request.kind (stage_parity r.stage))).next [] [] nothing_armed
    by false = still f (Some r) [] [] silent_nil i
    by true = still f None [] [] silent_nil tt

pub tells_call : (c : Call) (d : Driver) (f : File) → Typed c → Known f d.transfer
    → Tells f (call d c).next.transfer (call d c).writes (call d c).memory (call d c).armed
unfolding call
tells_call (begin x buf m log) d f ty i = tells_begin f d.transfer x buf m log ty.0 i
tells_call (step b y now m log) d f ty i = tells_step f b d.transfer y now m log i
tells_call cancel d f ty i = tells_cancel f d.transfer i
tells_call (open_pipe a x e p k log) d f ty i = let ws = (opening d a x e p k log).writes in still f d.transfer ws [] (silent_apart ws (open_apart d a x e p k log)) i
tells_call (close_pipe k) d f ty i = still f d.transfer [] [] silent_nil i
tells_call (poll_pipe k y m log) d f ty i = let ws = (polling d k y m log).writes in still f d.transfer ws m (silent_apart ws (poll_apart d k y m log)) i
tells_call (interrupt ints status log) d f ty i = let ws = (waking ints status log).writes in still f d.transfer ws [] (silent_apart ws (irq_apart ints status log)) i
tells_call (detect sie log) d f ty i = let ws = (detecting d sie log).writes in still f d.transfer ws [] (silent_apart ws (detect_apart d sie log)) i

-- What is armed along a list of calls lies in its ranges.
abbrev pub AllRanged : Driver → List Call → Type 0
AllRanged d [] = Unit {0}
AllRanged d (c ∷ cs) = (armed_in_range (call d c).armed ≡ true) × AllRanged (call d c).next cs

ranged_from : (cs : List Call) (f : File) (d : Driver) → AllTyped cs → Known f d.transfer → AllRanged d cs
ranged_from [] f d ty i = tt
ranged_from (c ∷ cs) f d ty i = let k = tells_call c d f ty.0 i in (k.ranged, ranged_from cs (performs f (call d c).writes) (call d c).next ty.1 k.known)

pub all_ranged : (rule : DeskRule) (cs : List Call) → AllTyped cs → AllRanged (fresh rule) cs
all_ranged rule cs ty = ranged_from cs (λ q. 0) (fresh rule) ty tt
