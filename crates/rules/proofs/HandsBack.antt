-- What every call leaves alone and what it hands back. Assumes nothing.
use Rattle.std.specs.Prelude.{Err, None, Ok, Option, Result, Some}
use mathlib.Core.Path.{◌≡◌, refl, sym, ap, ◌∙◌, subst}
use mathlib.Core.Bool.{Bool, true, false, cond, true≢false}
use mathlib.Core.Logic.{◌⊎◌, inl, inr}
use mathlib.Core.List.{List, [], ◌∷◌, ◌++◌}
use Prim.Native.Nat.{ℕ, zero, suc, ◌*◌, ◌/◌, ◌%◌, ◌^◌, ◌≤◌, ◌<◌}
use native.Mathlib.Nat.{div-one}
use native.Mathlib.Omega.{arith}
use borrow.Author.Tests.{le-leb}
use lib.Bits.{bit_and}
use lib.Dec.{eqb, leb, ltb}
use lib.ListN.{length, take, replicate}
use Rattle.pool.specs.declared.pipe.PipeNumber.{PipeNumber}
use Rattle.cutting.specs.declared.transfer_type.TransferType.{TransferType}
use Rattle.cutting.specs.declared.depacketiser.InDepacketiser.{InDepacketiser}
use Rattle.transfers.specs.declared.host_controller.UsbError.{UsbError}
use Rattle.transfers.specs.declared.host_controller.UsbError.TheVariants.{Stall, Timeout, Overflow, BitStuffError, CrcError, DataSeqError}
use Rattle.transfers.specs.declared.host_controller.DeviceStatus.{DeviceStatus}
use Rattle.transfers.specs.declared.host_controller.DataPhase.{DataPhase}
use Rattle.transfers.specs.declared.host_controller.DataPhase.TheVariants.{In as phase_in, Out as phase_out, None as phase_none}
use Rattle.transfers.specs.declared.host_controller.TransferExtras.{TransferExtras}
use Rattle.transfers.specs.declared.host_controller.InterruptPacket.{InterruptPacket}
use Rattle.transfers.specs.declared.wire.SetupPacket.{SetupPacket}
use Rattle.transfers.specs.declared.wire.Direction.TheVariants.{In, Out}
use Rattle.transfers.specs.declared.refusal.Refusal.{Refusal}
use Rattle.transfers.specs.declared.refusal.Refusal.TheVariants.{LentMemory, State}
use Rattle.transfers.specs.declared.sample.Sample.{Sample}
use Rattle.transfers.specs.declared.sample.Found.TheVariants.{Complete, Failed, Neither}
use Rattle.transfers.specs.declared.pipes.PipeSample.{PipeSample}
use Rattle.transfers.specs.declared.driver.DeskRule.{DeskRule}
use Rattle.transfers.specs.declared.driver.DeskRule.TheVariants.{One, Two}
use Rattle.transfers.specs.declared.driver.Driver.{Driver}
use Rattle.transfers.specs.declared.driver.Run.{Run}
use Rattle.transfers.specs.declared.driver.Request.{Request}
use Rattle.transfers.specs.declared.driver.Kind.{Kind}
use Rattle.transfers.specs.declared.driver.Kind.TheVariants.{Control as control, Bulk as bulk}
use Rattle.transfers.specs.declared.driver.Stage.{Stage}
use Rattle.transfers.specs.declared.driver.Stage.TheVariants.{Setup as setup_stage, In as in_stage, Out as out_stage}
use Rattle.transfers.specs.declared.driver.InStage.{InStage}
use Rattle.transfers.specs.declared.driver.OutStage.{OutStage}
use Rattle.transfers.specs.Log.{Write, wr}
use Rattle.transfers.specs.Memory.{log_fits, lent_fits}
use Rattle.transfers.specs.Refusal.{error_number, number_of}
use Rattle.transfers.specs.Registers.{bit}
use Rattle.transfers.specs.Writes.{arm_writes, enable_writes}
use Rattle.transfers.specs.Reply.{Reply, result, number, begin_reply, StepResult, waiting, done, step_reply, cancel_reply, open_reply, close_reply, packet, no_packet, poll_reply, irq_reply, changed, unchanged, detect_reply}
use Rattle.transfers.specs.Sample.{errors, first_of, classify}
use Rattle.transfers.specs.Retiring.{InRetiring, in_retire_one}
use Rattle.transfers.specs.State.{control_of, address_good, endpoint_good, size_good}
use Rattle.transfers.specs.Outcome.{Outcome, toggle_in, toggle_out, failed}
use Rattle.transfers.specs.Step.{setup_done, setup_step, in_received, in_done, in_second_done, in_first_done, in_complete, in_second_moved, in_first_moved, in_rearm, in_move, in_step, out_retire_two, out_control_done, out_done, out_complete, out_move, out_step, lent, keeping, stage_step, polls, acts}
use Rattle.transfers.specs.Calls.{held_toggle, refuses, step_if, may_step, step_lent, step_of, cancel_if, stage_parity, either_serves, cancel_of, Beginning, fields_refusal, begin_refusal, begin_or, is_idle, begins_control, begin_control_of, bulk_request, begins_bulk_in, begin_bulk_in_of, begins_bulk_out, begin_bulk_out_of}
use Rattle.transfers.specs.Driver.{with_transfer, toggle_by_rule, dropped}
use Rattle.transfers.specs.Pipes.{opening, closing, index_open, packet_data, packet_of, poll_full, poll_if, polling_pipe, polling, with_pipes}
use Rattle.transfers.specs.Irq.{clear_writes, waking_if, waking}
use Rattle.transfers.specs.Detect.{status_at, status_of, same_status, detecting_if, detecting_status, with_last, detecting}
use Rattle.transfers.proofs.Statuses.{same_status_lem, other_status}
use Rattle.transfers.proofs.Untouched.{open_refused, close_refused, poll_refused, detect_refused}
use Rattle.rules.specs.Received.{quiet}
use Rattle.rules.proofs.GoesOn.{GoesOn, step_every}
use Rattle.rules.specs.HandsBack.{LeavesAlone, ByRule, HandsOn, none_armed, ends_transfer, has_acted, BeginUntouched, StepUntouched, RefusedUntouched, kind_toggle, came_with, KeepsToggle, Frees, clears_status, enables_waiting, StepWrites, area_bytes, length_out, PollHandsOut, at_speed, status_shown, clears_buffers, HandsBack}
use Rattle.transfers.specs.declared.answers.Step.TheVariants.{Done, Waiting}
use Rattle.transfers.specs.declared.answers.Step.{Step}
use Rattle.pool.specs.declared.async_pool.PoolIndex.{PoolIndex}
use Rattle.transfers.specs.declared.pipes.Poll.TheVariants.{Packet as polled_packet, Waiting as poll_waiting}
use Rattle.transfers.specs.declared.pipes.Poll.{Poll}

leaves_alone : LeavesAlone
leaves_alone = record {
  begin = λ d o. (refl, refl, refl);
  step = λ d o. (refl, refl, refl);
  cancel = λ d o. (refl, refl, refl);
  opens = λ d a x e p i log. (refl, refl, refl, refl);
  close = λ d n. (refl, refl, refl, refl);
  poll = λ d n s pm log. (refl, refl, refl, refl);
  detect = λ d sie log. (refl, refl, refl, refl);
}

by_rule : (r : DeskRule) (t v : Bool) → ByRule r t v (toggle_by_rule r t v)
by_rule One t v = refl
by_rule Two t v = refl

hands_on : HandsOn
hands_on = record {
  begin = λ d o. (refl, refl, refl, refl);
  step = λ d o. (refl, refl, by_rule d.rule o.toggle o.moved, refl, refl);
  cancel = λ d o. (refl, refl, by_rule d.rule o.toggle o.moved);
}

-- ---- a step that acts

pub same_toggle : (k : Kind) → toggle_in k ≡ kind_toggle k
same_toggle (control c) = refl
same_toggle (bulk b) = refl

-- By its answer: the toggle handed out, and the next state.
abbrev pub Fair : Bool → Result Step Refusal → Bool → Option Run → Type 0
Fair b (Ok (Waiting again)) g t = (g ≡ b) × (came_with t ≡ b)
Fair b (Ok (Done count)) g t = t ≡ None
Fair b (Err why) g t = (g ≡ b) × (t ≡ None) × (ends_transfer (number_of why) ≡ true)

abbrev pub FairOf : Request → Outcome → Type 0
FairOf x o = Fair (kind_toggle x.kind) o.answer o.toggle o.next

failed_fair : (x : Request) (parity : Bool) (e : UsbError) (m buf : List ℕ) → ends_transfer (error_number e) ≡ true → FairOf x (failed x parity e m buf)
failed_fair x parity e m buf h = (same_toggle x.kind, refl, h)

keeping_fair : (x : Request) (s : Bool) (buf : List ℕ) (o : Outcome) → FairOf x o → FairOf x (keeping s buf o)
keeping_fair x true buf o h = h
keeping_fair x false buf o h = h

setup_fair : (ph : DataPhase) (short : Bool) (x : Request) (n : ℕ) (buf m : List ℕ) → FairOf x (setup_done ph short x n buf m)
setup_fair phase_in true x n buf m = (same_toggle x.kind, refl, refl)
setup_fair phase_in false x n buf m = (same_toggle x.kind, refl)
setup_fair phase_out true x n buf m = (same_toggle x.kind, refl, refl)
setup_fair phase_out false x n buf m = (same_toggle x.kind, refl)
setup_fair phase_none short x n buf m = (same_toggle x.kind, refl)

in_done_fair : (k : Kind) (status : Bool) (x : Request) (d : InDepacketiser) (m buf : List ℕ) → FairOf x (in_done k status x d m buf)
in_done_fair (control c) true x d m buf = refl
in_done_fair (control c) false x d m buf = (same_toggle x.kind, refl)
in_done_fair (bulk b) status x d m buf = refl

in_complete_fair : (x : Request) (st : InStage) (w : ℕ) (buf m : List ℕ) → FairOf x (in_complete x st w buf m)
unfolding in_complete
in_complete_fair x st w buf m = go g.long
  where
    g : InRetiring
    g = in_retire_one w (in_received st) st.inflight buf m

    h : InRetiring
    h = in_retire_one w g.packets g.inflight g.buffer m

    second : (b : Bool) → FairOf x (in_second_done b h x st.status m)
    second true = (same_toggle x.kind, refl, refl)
    second false = in_done_fair x.kind st.status x h.packets m h.buffer

    go : (b : Bool) → FairOf x (in_first_done b g w x st.status m)
    go true = (same_toggle x.kind, refl, refl)
    go false = second h.long

in_move_fair : (x : Request) (st : InStage) (w : ℕ) (buf m : List ℕ) → FairOf x (in_move x st w buf m)
unfolding in_move in_rearm
in_move_fair x st w buf m = go g.long
  where
    g : InRetiring
    g = in_retire_one w (in_received st) st.inflight buf m

    h : InRetiring
    h = in_retire_one w g.packets g.inflight g.buffer m

    second : (b : Bool) → FairOf x (in_second_moved b h w x st m)
    second true = (same_toggle x.kind, refl, refl)
    second false = (same_toggle x.kind, refl)

    go : (b : Bool) → FairOf x (in_first_moved b g w x st m)
    go true = (same_toggle x.kind, refl, refl)
    go false = second h.long

out_done_fair : (k : Kind) (x : Request) (st : OutStage) (parity : Bool) (m buf : List ℕ) → FairOf x (out_done k x st parity m buf)
out_done_fair (control c) x st parity m buf = go st.status
  where
    go : (b : Bool) → FairOf x (out_control_done b x st.received m buf)
    go true = refl
    go false = (same_toggle x.kind, refl)
out_done_fair (bulk b) x st parity m buf = refl

complete_fair : (x : Request) (st : Stage) (w : ℕ) (buf m : List ℕ) → FairOf x (stage_step Complete x st w buf m)
unfolding setup_step in_step out_step out_complete
complete_fair x setup_stage w buf m = let c = control_of x.kind in setup_fair c.phase (ltb x.length c.wLength) x c.wLength buf m
complete_fair x (in_stage st) w buf m =
    keeping_fair x st.status buf (in_step Complete x st w (lent st.status buf) m) (in_complete_fair x st w (lent st.status buf) m)
complete_fair x (out_stage st) w buf m =
    keeping_fair x st.status buf (out_step Complete x st w (lent st.status buf) m)
    (out_done_fair x.kind x st (out_retire_two w st.retire st.inflight).parity m (lent st.status buf))

error_fair : (e : UsbError) (x : Request) (st : Stage) (w : ℕ) (buf m : List ℕ) → ends_transfer (error_number e) ≡ true → FairOf x (stage_step (Failed e) x st w buf m)
unfolding setup_step in_step out_step
error_fair e x setup_stage w buf m h = failed_fair x false e m buf h
error_fair e x (in_stage st) w buf m h =
    keeping_fair x st.status buf (in_step (Failed e) x st w (lent st.status buf) m) (failed_fair x st.retire e m (lent st.status buf) h)
error_fair e x (out_stage st) w buf m h =
    keeping_fair x st.status buf (out_step (Failed e) x st w (lent st.status buf) m) (failed_fair x st.retire e m (lent st.status buf) h)

goes_on_fair : (x : Request) (st : Stage) (w : ℕ) (buf m : List ℕ) → FairOf x (stage_step Neither x st w buf m)
unfolding setup_step in_step out_step out_move
goes_on_fair x setup_stage w buf m = (same_toggle x.kind, refl)
goes_on_fair x (in_stage st) w buf m =
    keeping_fair x st.status buf (in_step Neither x st w (lent st.status buf) m) (in_move_fair x st w (lent st.status buf) m)
goes_on_fair x (out_stage st) w buf m =
    keeping_fair x st.status buf (out_step Neither x st w (lent st.status buf) m) (same_toggle x.kind, refl)

pub acts_fair : (x : Request) (st : Stage) (s : Sample) (buf m : List ℕ) → FairOf x (acts x st s buf m)
unfolding acts classify
acts_fair x st s buf m = polled (eqb (bit_and s.intr 0x7F8) 0) (bit 18 s.status)
  where
    w : ℕ
    w = s.buffers

    error : (a b c d e f : Bool)
        → FairOf x (stage_step (cond a (Failed DataSeqError) (cond b (Failed Stall) (cond c (Failed Overflow)
        (cond d (Failed Timeout) (cond e (Failed BitStuffError) (cond f (Failed CrcError) Neither)))))) x st w buf m)
    error true b c d e f = error_fair DataSeqError x st w buf m refl
    error false true c d e f = error_fair Stall x st w buf m refl
    error false false true d e f = error_fair Overflow x st w buf m refl
    error false false false true e f = error_fair Timeout x st w buf m refl
    error false false false false true f = error_fair BitStuffError x st w buf m refl
    error false false false false false true = error_fair CrcError x st w buf m refl
    error false false false false false false = goes_on_fair x st w buf m

    polled : (z c : Bool) → FairOf x (polls (cond z None (Some (cond c Complete (first_of s.status errors)))) x st w buf m)
    polled true c = (same_toggle x.kind, refl)
    polled false true = complete_fair x st w buf m
    polled false false = error (bit 31 s.status) (bit 29 s.status) (bit 26 s.status) (bit 27 s.status) (bit 25 s.status) (bit 24 s.status)

-- ---- every step: refused with 15 or 16, or one that acts

pub by_step : (P : Outcome → Type 0) (filling : Bool) (t : Option Run) (s : Sample) (buf m log : List ℕ)
    → P (refuses t LentMemory m buf) → P (refuses t State m buf) → ((r : Run) → t ≡ Some r → P (acts r.request r.stage s buf m)) → P (step_of filling t s buf m log)
unfolding step_of
by_step P filling None s buf m log a b c = go (lent_fits m log)
  where
    go : (l : Bool) → P (step_lent l filling None s buf m)
    go false = a
    go true = b
by_step P filling (Some r) s buf m log a b c = go (lent_fits m log) (may_step filling r) (eqb (length buf) r.request.length)
  where
    may : (v n : Bool) → P (step_if v n r s buf m)
    may false n = b
    may true false = a
    may true true = c r refl

    go : (l v n : Bool) → P (step_lent l filling (Some r) s buf m)
    go false v n = a
    go true v n = may (may_step filling r) (eqb (length buf) r.request.length)

clash : {A : Type 0} {n : ℕ} {r : StepResult} → number n ≡ result r → A
clash {n = n} {r = r} e = absurd (let z : ◌≡◌ {A = ℕ} 0 1 = cc in omega arith)

fair_number : (b : Bool) (a : Result Step Refusal) (g : Bool) (t : Option Run) (n : ℕ) → Fair b a g t → step_reply a ≡ number n → (t ≡ None) × (ends_transfer n ≡ true)
fair_number b (Ok (Waiting again)) g t n f e = clash (sym e)
fair_number b (Ok (Done count)) g t n f e = clash (sym e)
fair_number b (Err why) g t n f e = let same : number_of why ≡ n = cc in (f.1, ap ends_transfer (sym same) ∙ f.2)

fair_waits : (b : Bool) (a : Result Step Refusal) (g : Bool) (t : Option Run) (again : Bool) → Fair b a g t → step_reply a ≡ result (waiting again) → came_with t ≡ b
fair_waits b (Ok (Waiting again)) g t h f e = f.1
fair_waits b (Ok (Done count)) g t h f e = absurd (let z : ◌≡◌ {A = ℕ} 0 1 = cc in omega arith)
fair_waits b (Err why) g t h f e = clash e

fair_done : (b : Bool) (a : Result Step Refusal) (g : Bool) (t : Option Run) (count : ℕ) → Fair b a g t → step_reply a ≡ result (done count) → t ≡ None
fair_done b (Ok (Waiting again)) g t h f e = absurd (let z : ◌≡◌ {A = ℕ} 0 1 = cc in omega arith)
fair_done b (Ok (Done count)) g t h f e = f
fair_done b (Err why) g t h f e = clash e

fair_toggle : (b : Bool) (a : Result Step Refusal) (g : Bool) (t : Option Run) → Fair b a g t → ((count : ℕ) → step_reply a ≡ result (done count) → ⊥) → g ≡ b
fair_toggle b (Ok (Waiting again)) g t f h = f.0
fair_toggle b (Ok (Done count)) g t f h = absurd (h count refl)
fair_toggle b (Err why) g t f h = f.0

held : (t : Option Run) → held_toggle t ≡ came_with t
held None = refl
held (Some r) = same_toggle r.request.kind

-- ---- refused

begin_refused : (d : Driver) (r : Result (Unit {0}) Refusal) (m : List ℕ) (b : Beginning) (n : ℕ) → begin_reply b.answer ≡ result tt
    → begin_reply (begin_or r d.transfer m b).answer ≡ number n → BeginUntouched d (begin_or r d.transfer m b) m
begin_refused d (Err e) m b n k h = record { next = refl; armed = refl; writes = refl; memory = refl }
begin_refused d (Ok tt) m b n k h = absurd (let z : ◌≡◌ {A = ℕ} 0 1 = cc in omega arith)

control_refused : (d : Driver) (a : ℕ) (x : TransferExtras) (p : ℕ) (s : SetupPacket) (ph : DataPhase) (buf m log : List ℕ) (n : ℕ)
    → begin_reply (begin_control_of d.transfer a x p s ph buf m log).answer ≡ number n → BeginUntouched d (begin_control_of d.transfer a x p s ph buf m log) m
unfolding begin_control_of
control_refused d a x p s ph buf m log n h =
    begin_refused d (begin_refusal (lent_fits m log) (is_idle d.transfer) (fields_refusal (address_good a) true (size_good p) true)) m (begins_control a x p s ph (length buf) m) n refl h

bulk_in_refused : (d : Driver) (a e p : ℕ) (k : TransferType) (b : Bool) (buf m log : List ℕ) (n : ℕ)
    → begin_reply (begin_bulk_in_of d.transfer a e p k b buf m log).answer ≡ number n → BeginUntouched d (begin_bulk_in_of d.transfer a e p k b buf m log) m
unfolding begin_bulk_in_of
bulk_in_refused d a e p k b buf m log n h =
    begin_refused d (begin_refusal (lent_fits m log) (is_idle d.transfer) (fields_refusal (address_good a) (endpoint_good e) (size_good p) (leb (length buf) 0xFFFF))) m
    (begins_bulk_in (bulk_request In a e p b (length buf)) k m) n refl h

bulk_out_refused : (d : Driver) (a e p : ℕ) (k : TransferType) (b : Bool) (buf m log : List ℕ) (n : ℕ)
    → begin_reply (begin_bulk_out_of d.transfer a e p k b buf m log).answer ≡ number n → BeginUntouched d (begin_bulk_out_of d.transfer a e p k b buf m log) m
unfolding begin_bulk_out_of
bulk_out_refused d a e p k b buf m log n h =
    begin_refused d (begin_refusal (lent_fits m log) (is_idle d.transfer) (fields_refusal (address_good a) (endpoint_good e) (size_good p) (leb (length buf) 0xFFFF))) m
    (begins_bulk_out (bulk_request Out a e p b (length buf)) e k buf m) n refl h

step_refused : (d : Driver) (filling : Bool) (s : Sample) (buf m log : List ℕ) (n : ℕ)
    → step_reply (step_of filling d.transfer s buf m log).answer ≡ number n → ends_transfer n ≡ false
    → ((n ≡ 15) ⊎ (n ≡ 16)) × StepUntouched d (step_of filling d.transfer s buf m log) buf m
step_refused d filling s buf m log n =
    by_step (λ (o : Outcome). step_reply o.answer ≡ number n → ends_transfer n ≡ false → ((n ≡ 15) ⊎ (n ≡ 16)) × StepUntouched d o buf m) filling d.transfer s buf m log
    (λ e h. (inl (sym (is 15 e)), record { next = refl; armed = refl; writes = refl; memory = refl; buffer = refl }))
    (λ e h. (inr (sym (is 16 e)), record { next = refl; armed = refl; writes = refl; memory = refl; buffer = refl }))
    (λ r q e h. let o = acts r.request r.stage s buf m in
    absurd (true≢false (sym (fair_number (kind_toggle r.request.kind) o.answer o.toggle o.next n (acts_fair r.request r.stage s buf m) e).1 ∙ h)))
  where
    is : (k : ℕ) → ◌≡◌ {A = Reply StepResult} (number k) (number n) → k ≡ n
    is k e = cc

cancel_refused : (d : Driver) (n : ℕ) → cancel_reply (cancel_of d.transfer).answer ≡ number n → (dropped d (cancel_of d.transfer)).next ≡ d
unfolding cancel_of
cancel_refused d n = go d.transfer refl
  where
    stays : (t : Option Run) → d.transfer ≡ t → (v g k : Bool) → cancel_reply (cancel_if v t g k).answer ≡ number n → (dropped d (cancel_if v t g k)).next ≡ d
    stays t q false g k e = ap (λ (t : Option Run). with_transfer d t d.entries) (sym q)
    stays t q true g k e = absurd (let z : ◌≡◌ {A = ℕ} 0 1 = cc in omega arith)

    go : (t : Option Run) → d.transfer ≡ t → cancel_reply (cancel_of t).answer ≡ number n → (dropped d (cancel_of t)).next ≡ d
    go None q e = stays None q false false false e
    go (Some r) q e = stays (Some r) q (either_serves r) (toggle_in r.request.kind) (toggle_out r.request.kind (stage_parity r.stage)) e

open_why : (a : Result PipeNumber Refusal) (n : ℕ) (A : Type 0) → open_reply a ≡ number n → ((why : Refusal) → a ≡ Err why → A) → A
open_why (Ok p) n A e k = absurd (let z : ◌≡◌ {A = ℕ} 0 1 = cc in omega arith)
open_why (Err why) n A e k = k why refl

close_why : (a : Result (Unit {0}) Refusal) (n : ℕ) (A : Type 0) → close_reply a ≡ number n → ((why : Refusal) → a ≡ Err why → A) → A
close_why (Ok tt) n A e k = absurd (let z : ◌≡◌ {A = ℕ} 0 1 = cc in omega arith)
close_why (Err why) n A e k = k why refl

poll_why : (a : Result Poll Refusal) (n : ℕ) (A : Type 0) → poll_reply a ≡ number n → ((why : Refusal) → a ≡ Err why → A) → A
poll_why (Ok polled_packet) n A e k = absurd (let z : ◌≡◌ {A = ℕ} 0 1 = cc in omega arith)
poll_why (Ok poll_waiting) n A e k = absurd (let z : ◌≡◌ {A = ℕ} 0 1 = cc in omega arith)
poll_why (Err why) n A e k = k why refl

detect_why : (a : Result (Option DeviceStatus) Refusal) (n : ℕ) (A : Type 0) → detect_reply a ≡ number n → ((why : Refusal) → a ≡ Err why → A) → A
detect_why (Ok (Some s)) n A e k = absurd (let z : ◌≡◌ {A = ℕ} 0 1 = cc in omega arith)
detect_why (Ok None) n A e k = absurd (let z : ◌≡◌ {A = ℕ} 0 1 = cc in omega arith)
detect_why (Err why) n A e k = k why refl

irq_refused : (ints status : ℕ) (log : List ℕ) (n : ℕ) → irq_reply (waking ints status log).answer ≡ number n → (waking ints status log).writes ≡ []
unfolding waking
irq_refused ints status log n = go (log_fits log)
  where
    go : (b : Bool) → irq_reply (waking_if b ints status).answer ≡ number n → (waking_if b ints status).writes ≡ []
    go false e = refl
    go true e = absurd (let z : ◌≡◌ {A = ℕ} 0 1 = cc in omega arith)

refuses_all : RefusedUntouched
refuses_all = record {
  begin_control = control_refused;
  begin_bulk_in = bulk_in_refused;
  begin_bulk_out = bulk_out_refused;
  step = step_refused;
  cancel = cancel_refused;
  opens = λ d a x e p i log n h. let o = opening d a x e p i log in open_why o.answer n ((o.next ≡ d) × (o.writes ≡ [])) h (open_refused d a x e p i log);
  close = λ d p n h. close_why (closing d p).answer n ((closing d p).next ≡ d) h (close_refused d p);
  poll = λ d p s pm log n h. let o = polling d p s pm log in poll_why o.answer n ((o.next ≡ d) × (o.writes ≡ [])) h (λ why e. let r = poll_refused d p s pm log why e in (r.0, r.2));
  irq = irq_refused;
  detect = λ d sie log n h. let o = detecting d sie log in detect_why o.answer n ((o.next ≡ d) × (o.writes ≡ [])) h (detect_refused d sie log);
}

-- ---- toggles, and the end of a transfer

begun_toggle : (r : Result (Unit {0}) Refusal) (t : Option Run) (m : List ℕ) (b : Beginning) (g : Bool) → came_with b.next ≡ g
    → begin_reply (begin_or r t m b).answer ≡ result tt → came_with (begin_or r t m b).next ≡ g
begun_toggle (Err e) t m b g k h = absurd (let z : ◌≡◌ {A = ℕ} 0 1 = cc in omega arith)
begun_toggle (Ok tt) t m b g k h = k

in_toggle : (t : Option Run) (a e p : ℕ) (k : TransferType) (b : Bool) (buf m log : List ℕ)
    → begin_reply (begin_bulk_in_of t a e p k b buf m log).answer ≡ result tt → came_with (begin_bulk_in_of t a e p k b buf m log).next ≡ b
unfolding begin_bulk_in_of
in_toggle t a e p k b buf m log h =
    begun_toggle (begin_refusal (lent_fits m log) (is_idle t) (fields_refusal (address_good a) (endpoint_good e) (size_good p) (leb (length buf) 0xFFFF))) t m
    (begins_bulk_in (bulk_request In a e p b (length buf)) k m) b refl h

out_toggle : (t : Option Run) (a e p : ℕ) (k : TransferType) (b : Bool) (buf m log : List ℕ)
    → begin_reply (begin_bulk_out_of t a e p k b buf m log).answer ≡ result tt → came_with (begin_bulk_out_of t a e p k b buf m log).next ≡ b
unfolding begin_bulk_out_of
out_toggle t a e p k b buf m log h =
    begun_toggle (begin_refusal (lent_fits m log) (is_idle t) (fields_refusal (address_good a) (endpoint_good e) (size_good p) (leb (length buf) 0xFFFF))) t m
    (begins_bulk_out (bulk_request Out a e p b (length buf)) e k buf m) b refl h

waits_toggle : (filling : Bool) (t : Option Run) (s : Sample) (buf m log : List ℕ) (again : Bool)
    → step_reply (step_of filling t s buf m log).answer ≡ result (waiting again) → came_with (step_of filling t s buf m log).next ≡ came_with t
waits_toggle filling t s buf m log again =
    by_step (λ (o : Outcome). step_reply o.answer ≡ result (waiting again) → came_with o.next ≡ came_with t) filling t s buf m log
    (λ e. clash e) (λ e. clash e)
    (λ r q e. let o = acts r.request r.stage s buf m in
    fair_waits (kind_toggle r.request.kind) o.answer o.toggle o.next again (acts_fair r.request r.stage s buf m) e ∙ sym (ap came_with q))

step_toggle : (filling : Bool) (t : Option Run) (s : Sample) (buf m log : List ℕ)
    → ((count : ℕ) → step_reply (step_of filling t s buf m log).answer ≡ result (done count) → ⊥) → (step_of filling t s buf m log).toggle ≡ came_with t
step_toggle filling t s buf m log =
    by_step (λ (o : Outcome). ((count : ℕ) → step_reply o.answer ≡ result (done count) → ⊥) → o.toggle ≡ came_with t) filling t s buf m log
    (λ h. held t) (λ h. held t)
    (λ r q h. let o = acts r.request r.stage s buf m in
    fair_toggle (kind_toggle r.request.kind) o.answer o.toggle o.next (acts_fair r.request r.stage s buf m) h ∙ sym (ap came_with q))

cancel_toggle : (t : Option Run) → (cancel_of t).toggle ≡ came_with t
unfolding cancel_of
cancel_toggle None = refl
cancel_toggle (Some r) = go (either_serves r)
  where
    go : (v : Bool) → (cancel_if v (Some r) (toggle_in r.request.kind) (toggle_out r.request.kind (stage_parity r.stage))).toggle ≡ kind_toggle r.request.kind
    go true = same_toggle r.request.kind
    go false = same_toggle r.request.kind

keeps_toggle : KeepsToggle
keeps_toggle = record { begin_in = in_toggle; begin_out = out_toggle; waits = waits_toggle; step = step_toggle; cancel = cancel_toggle }

done_frees : (filling : Bool) (t : Option Run) (s : Sample) (buf m log : List ℕ) (count : ℕ)
    → step_reply (step_of filling t s buf m log).answer ≡ result (done count) → (step_of filling t s buf m log).next ≡ None
done_frees filling t s buf m log count =
    by_step (λ (o : Outcome). step_reply o.answer ≡ result (done count) → o.next ≡ None) filling t s buf m log
    (λ e. clash e) (λ e. clash e)
    (λ r q e. let o = acts r.request r.stage s buf m in
    fair_done (kind_toggle r.request.kind) o.answer o.toggle o.next count (acts_fair r.request r.stage s buf m) e)

failed_frees : (filling : Bool) (t : Option Run) (s : Sample) (buf m log : List ℕ) (n : ℕ)
    → step_reply (step_of filling t s buf m log).answer ≡ number n → ends_transfer n ≡ true → (step_of filling t s buf m log).next ≡ None
failed_frees filling t s buf m log n =
    by_step (λ (o : Outcome). step_reply o.answer ≡ number n → ends_transfer n ≡ true → o.next ≡ None) filling t s buf m log
    (λ e h. absurd (true≢false (sym h ∙ ap ends_transfer (sym (is 15 e)))))
    (λ e h. absurd (true≢false (sym h ∙ ap ends_transfer (sym (is 16 e)))))
    (λ r q e h. let o = acts r.request r.stage s buf m in
    (fair_number (kind_toggle r.request.kind) o.answer o.toggle o.next n (acts_fair r.request r.stage s buf m) e).0)
  where
    is : (k : ℕ) → ◌≡◌ {A = Reply StepResult} (number k) (number n) → k ≡ n
    is k e = cc

cancel_frees : (t : Option Run) → cancel_reply (cancel_of t).answer ≡ result tt → (cancel_of t).next ≡ None
unfolding cancel_of
cancel_frees None e = refl
cancel_frees (Some r) e = go (either_serves r) e
  where
    go : (v : Bool) → let o = cancel_if v (Some r) (toggle_in r.request.kind) (toggle_out r.request.kind (stage_parity r.stage)) in cancel_reply o.answer ≡ result tt → o.next ≡ None
    go true e = refl
    go false e = absurd (let z : ◌≡◌ {A = ℕ} 0 1 = cc in omega arith)

frees_all : Frees
frees_all = record { after_done = done_frees; after_number = failed_frees; after_cancel = cancel_frees }

-- ---- a step's first write

QuietStep : Option Run → List ℕ → List ℕ → Outcome → Type 0
QuietStep t buf m o =
    (step_reply o.answer ≡ result (waiting false)) × (o.next ≡ t) × (o.armed ≡ none_armed) × (o.writes ≡ clears_status ∷ enables_waiting ∷ []) × (o.memory ≡ m) × (o.buffer ≡ buf)

acts_quiet : (x : Request) (st : Stage) (s : Sample) (buf m : List ℕ) → quiet s ≡ true → QuietStep (Some (record { request = x; stage = st })) buf m (acts x st s buf m)
unfolding acts classify QuietStep
acts_quiet x st s buf m = go (quiet s)
  where
    go : (z : Bool) → z ≡ true → QuietStep (Some (record { request = x; stage = st })) buf m (polls (cond z None (Some (cond (bit 18 s.status) Complete (first_of s.status errors)))) x st s.buffers buf m)
    go true e = (refl, refl, refl, refl, refl, refl)
    go false e = absurd (true≢false (sym e))

acts_first : (x : Request) (st : Stage) (s : Sample) (buf m : List ℕ) → take 1 (acts x st s buf m).writes ≡ clears_status ∷ []
unfolding acts classify
acts_first x st s buf m = go (quiet s)
  where
    go : (z : Bool) → take 1 (polls (cond z None (Some (cond (bit 18 s.status) Complete (first_of s.status errors)))) x st s.buffers buf m).writes ≡ clears_status ∷ []
    go true = refl
    go false = refl

quietly : (filling : Bool) (t : Option Run) (s : Sample) (buf m log : List ℕ)
    → has_acted (step_reply (step_of filling t s buf m log).answer) ≡ true → quiet s ≡ true → QuietStep t buf m (step_of filling t s buf m log)
quietly filling t s buf m log =
    by_step (λ (o : Outcome). has_acted (step_reply o.answer) ≡ true → quiet s ≡ true → QuietStep t buf m o) filling t s buf m log
    (λ a q. absurd (true≢false (sym a))) (λ a q. absurd (true≢false (sym a)))
    (λ r e a q. subst (λ (u : Option Run). QuietStep u buf m (acts r.request r.stage s buf m)) (sym e) (acts_quiet r.request r.stage s buf m q))

first_write : (filling : Bool) (t : Option Run) (s : Sample) (buf m log : List ℕ)
    → has_acted (step_reply (step_of filling t s buf m log).answer) ≡ true → take 1 (step_of filling t s buf m log).writes ≡ clears_status ∷ []
first_write filling t s buf m log =
    by_step (λ (o : Outcome). has_acted (step_reply o.answer) ≡ true → take 1 o.writes ≡ clears_status ∷ []) filling t s buf m log
    (λ a. absurd (true≢false (sym a))) (λ a. absurd (true≢false (sym a))) (λ r e a. acts_first r.request r.stage s buf m)

-- A write to SIE_STATUS doesn't clear TRANS_COMPLETE; of the other registers nothing is asked.
uncleared_goes : GoesOn (λ r n v. r ≡ 0x5011_0050 → bit 18 v ≡ false)
unfolding arm_writes enable_writes
uncleared_goes = record {
  arm = λ f a. (λ e. absurd (omega arith), (λ e. absurd (omega arith), (λ e. absurd (omega arith), tt)));
  enable = λ p n. (λ e. refl, (λ e. absurd (omega arith), (λ e. absurd (omega arith), tt)));
  poll = λ e. refl;
  wait = λ e. absurd (omega arith);
  quiet = (λ e. absurd (omega arith), (λ e. absurd (omega arith), tt));
}

step_writes : StepWrites
unfolding QuietStep
step_writes = record { quietly = quietly; first = first_write; uncleared = λ f t s buf m log e. step_every (λ r n v. r ≡ 0x5011_0050 → bit 18 v ≡ false) uncleared_goes f t s buf m log e }

-- ---- poll

packet_is : (s : PipeSample) (pm : List ℕ) (n : ℕ)
    → ◌≡◌ {A = InterruptPacket} (packet_of n s pm)
    (record { address = s.address % 0x80; endpoint = s.address / 0x1_0000 % 0x10; size = length_out s; «data» = area_bytes pm n (length_out s) })
unfolding packet_data
packet_is s pm n = rw (div-one s.address, div-one s.buffer)

poll_packet : (d : Driver) (n : PipeNumber) (s : PipeSample) (pm log : List ℕ) → poll_reply (polling d n s pm log).answer ≡ result packet
    → (polling d n s pm log).packet ≡ packet_of n.0 s pm
unfolding polling_pipe poll_full
poll_packet d n s pm log = go (lent_fits pm log) (index_open d.pipes.opened n) (bit 15 s.buffer)
  where
    go : (b : Bool) (o : Option PoolIndex) (f : Bool) → poll_reply (poll_if b o f d.pipes n s pm).answer ≡ result packet → (poll_if b o f d.pipes n s pm).packet ≡ packet_of n.0 s pm
    go false o f e = absurd (let z : ◌≡◌ {A = ℕ} 0 1 = cc in omega arith)
    go true None f e = absurd (let z : ◌≡◌ {A = ℕ} 0 1 = cc in omega arith)
    go true (Some at) false e = absurd (let z : ◌≡◌ {A = ℕ} 0 1 = cc in omega arith)
    go true (Some at) true e = refl

poll_zeros : (d : Driver) (n : PipeNumber) (s : PipeSample) (pm log : List ℕ) → (poll_reply (polling d n s pm log).answer ≡ result packet → ⊥)
    → (polling d n s pm log).packet ≡ record { address = 0; endpoint = 0; size = 0; «data» = replicate 64 0 }
unfolding polling_pipe poll_full
poll_zeros d n s pm log = go (lent_fits pm log) (index_open d.pipes.opened n) (bit 15 s.buffer)
  where
    go : (b : Bool) (o : Option PoolIndex) (f : Bool) → (poll_reply (poll_if b o f d.pipes n s pm).answer ≡ result packet → ⊥)
        → (poll_if b o f d.pipes n s pm).packet ≡ record { address = 0; endpoint = 0; size = 0; «data» = replicate 64 0 }
    go false o f h = refl
    go true None f h = refl
    go true (Some at) false h = refl
    go true (Some at) true h = absurd (h refl)

poll_waits : (d : Driver) (n : PipeNumber) (s : PipeSample) (pm log : List ℕ) → poll_reply (polling d n s pm log).answer ≡ result no_packet
    → ((polling d n s pm log).next ≡ d)
    × ((polling d n s pm log).writes ≡ wr 0x5011_0090 0x10 0x10 ∷ wr 0x5011_0054 (2 ^ n.0) (2 ^ n.0) ∷ wr 0x5011_0070 0xFFFF_FFFF (3 * 2 ^ (2 * n.0)) ∷ [])
unfolding polling_pipe poll_full
poll_waits d n s pm log = go (lent_fits pm log) (index_open d.pipes.opened n) (bit 15 s.buffer)
  where
    go : (b : Bool) (o : Option PoolIndex) (f : Bool) → poll_reply (poll_if b o f d.pipes n s pm).answer ≡ result no_packet
        → (with_pipes d (poll_if b o f d.pipes n s pm).next ≡ d)
        × ((poll_if b o f d.pipes n s pm).writes ≡ wr 0x5011_0090 0x10 0x10 ∷ wr 0x5011_0054 (2 ^ n.0) (2 ^ n.0) ∷ wr 0x5011_0070 0xFFFF_FFFF (3 * 2 ^ (2 * n.0)) ∷ [])
    go false o f e = absurd (let z : ◌≡◌ {A = ℕ} 0 1 = cc in omega arith)
    go true None f e = absurd (let z : ◌≡◌ {A = ℕ} 0 1 = cc in omega arith)
    go true (Some at) false e = (refl, refl)
    go true (Some at) true e = absurd (let z : ◌≡◌ {A = ℕ} 0 1 = cc in omega arith)

polls_all : PollHandsOut
polls_all = record { packets = λ d n s pm log e. poll_packet d n s pm log e ∙ packet_is s pm n.0; zeros = poll_zeros; waits = poll_waits }

-- ---- detection and the interrupt routine

at_speed_lem : (n : ℕ) → status_at n ≡ at_speed n
at_speed_lem zero = refl
at_speed_lem (suc zero) = refl
at_speed_lem (suc (suc n)) = refl

status_shown_lem : (sie : ℕ) → status_of sie ≡ status_shown sie
status_shown_lem sie = at_speed_lem (sie / 0x100 % 4)

detect_same : (d : Driver) (sie : ℕ) (log : List ℕ) → 192 ≤ length log → status_shown sie ≡ d.last
    → (detect_reply (detecting d sie log).answer ≡ result unchanged) × ((detecting d sie log).next ≡ d) × ((detecting d sie log).writes ≡ wr 0x5011_0090 1 1 ∷ [])
unfolding detecting_status
detect_same d sie log fits e = go (log_fits log) (same_status (status_of sie) d.last) (le-leb 192 (length log) fits) refl
  where
    go : (l v : Bool) → l ≡ true → same_status (status_of sie) d.last ≡ v
        → let o = detecting_if l v d.last (status_of sie) in
        (detect_reply o.answer ≡ result unchanged) × ((with_last d o).next ≡ d) × (o.writes ≡ wr 0x5011_0090 1 1 ∷ [])
    go false v h q = absurd (true≢false (sym h))
    go true true h q = (refl, refl, refl)
    go true false h q = absurd (other_status (status_of sie) d.last q (status_shown_lem sie ∙ e))

detect_other : (d : Driver) (sie : ℕ) (log : List ℕ) → 192 ≤ length log → (status_shown sie ≡ d.last → ⊥)
    → (detect_reply (detecting d sie log).answer ≡ result (changed (status_shown sie))) × ((detecting d sie log).next.last ≡ status_shown sie)
    × ((detecting d sie log).writes ≡ wr 0x5011_0090 1 1 ∷ [])
unfolding detecting_status
detect_other d sie log fits e = go (log_fits log) (same_status (status_of sie) d.last) (le-leb 192 (length log) fits) refl
  where
    go : (l v : Bool) → l ≡ true → same_status (status_of sie) d.last ≡ v
        → let o = detecting_if l v d.last (status_of sie) in
        (detect_reply o.answer ≡ result (changed (status_shown sie))) × (o.next ≡ status_shown sie) × (o.writes ≡ wr 0x5011_0090 1 1 ∷ [])
    go false v h q = absurd (true≢false (sym h))
    go true true h q = absurd (e (sym (status_shown_lem sie) ∙ same_status_lem (status_of sie) d.last q))
    go true false h q = (ap (λ (s : DeviceStatus). result (changed s)) (status_shown_lem sie), status_shown_lem sie, refl)

clears : (v : ℕ) → v < 2 → clear_writes (eqb v 1) ≡ clears_buffers v
clears zero h = refl
clears (suc zero) h = refl
clears (suc (suc n)) h = absurd (omega arith)

irq_writes : (ints status : ℕ) (log : List ℕ) → 192 ≤ length log → (waking ints status log).writes ≡ clears_buffers (ints / 0x10 % 2) ++ (wr 0x5011_0090 ints 0 ∷ [])
unfolding waking
irq_writes ints status log fits = go (log_fits log) (le-leb 192 (length log) fits)
  where
    go : (l : Bool) → l ≡ true → (waking_if l ints status).writes ≡ clears_buffers (ints / 0x10 % 2) ++ (wr 0x5011_0090 ints 0 ∷ [])
    go false h = absurd (true≢false (sym h))
    go true h = ap (λ (l : List Write). l ++ (wr 0x5011_0090 ints 0 ∷ [])) (clears (ints / 0x10 % 2) (omega arith))

pub hands_back : HandsBack
hands_back = record {
  leaves = leaves_alone;
  hands_on_of = hands_on;
  refuses = refuses_all;
  toggle = keeps_toggle;
  frees = frees_all;
  steps = step_writes;
  polls = polls_all;
  detects = record { same = detect_same; other = detect_other };
  irqs = record { writes = irq_writes };
}
