-- The count of stages tells the driver's stage, and an OUT stage has armed a packet: `sends_next` says what the logs say. Assumes nothing.
use Rattle.std.specs.Prelude.{Err, None, Ok, Option, Result, Some}
use mathlib.Core.Path.{◌≡◌, refl, sym, ap, ◌∙◌, subst}
use mathlib.Core.Bool.{Bool, true, false, cond, ◌||◌}
use mathlib.Core.List.{List, [], ◌∷◌, ◌++◌, map}
use Prim.Native.Nat.{ℕ, suc, ◌≤◌}
use native.Mathlib.Omega.{arith}
use lib.ListN.{length, take}
use lib.Dec.{eqb, leb, ltb}
use Rattle.cutting.specs.declared.depacketiser.InDepacketiser.{InDepacketiser}
use Rattle.transfers.specs.declared.host_controller.DataPhase.TheVariants.{In as phase_in, Out as phase_out, None as phase_none}
use Rattle.transfers.specs.declared.wire.Direction.TheVariants.{In, Out}
use Rattle.transfers.specs.declared.answers.Armed.{Armed}
use Rattle.transfers.specs.declared.sample.Sample.{Sample}
use Rattle.transfers.specs.declared.sample.Found.TheVariants.{Complete, Failed, Neither}
use Rattle.transfers.specs.declared.driver.DeskRule.{DeskRule}
use Rattle.transfers.specs.declared.driver.Driver.{Driver}
use Rattle.transfers.specs.declared.driver.Run.{Run}
use Rattle.transfers.specs.declared.driver.Request.{Request}
use Rattle.transfers.specs.declared.driver.Stage.{Stage}
use Rattle.transfers.specs.declared.driver.Stage.TheVariants.{Setup as setup_stage, In as in_stage, Out as out_stage}
use Rattle.transfers.specs.declared.driver.InStage.{InStage}
use Rattle.transfers.specs.declared.driver.OutStage.{OutStage}
use Rattle.transfers.specs.Memory.{lent_fits}
use Rattle.transfers.specs.Sample.{classify}
use Rattle.transfers.specs.Answers.{outs_armed as outs_said}
use Rattle.transfers.specs.State.{endpoint_of, first_pid, address_good, endpoint_good, size_good}
use Rattle.transfers.specs.Retiring.{InRetiring, in_retire_one}
use Rattle.transfers.specs.Outcome.{Outcome, toggle_in, toggle_out, start_in, start_out, enters_out}
use Rattle.transfers.specs.Step.{setup_done, setup_step, in_received, in_done, in_second_done, in_first_done, in_complete, in_rearm, in_second_moved, in_first_moved, in_move, in_step, out_retire_two, out_done, out_complete, out_move, out_step, lent, keeping, polls, acts}
use Rattle.transfers.specs.Calls.{step_if, may_step, step_lent, step_of, cancel_if, stage_parity, either_serves, cancel_of, Beginning, begin_or, is_idle, begins_control, begin_control_of, bulk_request, begins_bulk_in, begins_bulk_out, begin_bulk_in_of, begin_bulk_out_of}
use Rattle.transfers.specs.Driver.{fresh}
use Rattle.record.specs.Grammar.{Entry, setup, out}
use Rattle.record.specs.Wire.{File, performs, Event, setup_at, out_at, events, entry_of, wire}
use Rattle.record.specs.Armed.{setups_armed, outs_armed, entries_armed}
use Rattle.record.specs.Calls.{Begin, control_begin, bulk_begin, Call, begin, step, cancel, open_pipe, close_pipe, poll_pipe, interrupt, detect, call, beginning}
use Rattle.record.proofs.Beginning.{control_refusal, bulk_refusal, passed, checked_control, checked_bulk}
use borrow.Author.Tests.{ltb-false}
use Rattle.cutting.specs.declared.transfer_type.TransferType.TheVariants.{FixedSize}
use Rattle.cutting.specs.declared.packetiser.OutCounters.{OutCounters}
use Rattle.cutting.specs.Counters.{out_next, out_start}
use Rattle.cutting.specs.Cut.{out_cut}
use Rattle.cutting.specs.Left.{OutLeft, stop, go}
use Rattle.cutting.proofs.Cutting.{out_cut_lem}
use Rattle.transfers.specs.Arming.{may_arm, out_armed, out_arm_if, out_arm, out_arm_two}
use Rattle.record.specs.Asked.{Typed, AllTyped, TypedBegin}
use Rattle.record.specs.Told.{Live, no_transfer, live, finds, Told, untold}
use Rattle.record.specs.Shown.{ends, note_step, note, shown, shown_from}
use Rattle.record.specs.Premises.{sends_next}
use Rattle.record.specs.Stages.{any_out, turns, next_sends, StagesFrom}
use Rattle.record.proofs.Heard.{next_live, next_count, after, hears_is}
use Rattle.record.proofs.Chips.{is_complete, finds_is}
use Rattle.record.proofs.Arming.{Packets}
use Rattle.record.proofs.Cuts.{all_cut}
use Rattle.record.proofs.Begins.{address_of, size_of, kind_of, request_of, Checked}
use Rattle.record.proofs.Answered.{Known, tells_call}
use Rattle.record.proofs.Exists.{cut_some}
use Rattle.record.proofs.Stepping.{FatalPoll, poll_fatal}
use Rattle.transfers.specs.declared.answers.Step.TheVariants.{Done, Waiting}
use Rattle.transfers.specs.declared.refusal.Refusal.{Refusal}
use Rattle.transfers.specs.declared.answers.Step.{Step}
use Rattle.transfers.specs.declared.answers.ArmedOut.{ArmedOut}
use Rattle.transfers.specs.declared.answers.ArmedSetup.{ArmedSetup}
use Rattle.cutting.specs.declared.packetiser.Arm.{Arm}
use Rattle.transfers.specs.declared.sample.Found.{Found}

-- ---- a call's log starts an OUT packet exactly where it says that it armed one

abbrev is_out_entry : Entry → Bool
is_out_entry (setup a lo hi) = false
is_out_entry (out a e b last l) = true

abbrev any_entry : List Entry → Bool
any_entry [] = false
any_entry (e ∷ es) = is_out_entry e || any_entry es

any_wired : (f : File) (m : List ℕ) (es : List Event) → any_entry (map (entry_of f m) es) ≡ any_out es
any_wired f m [] = refl
any_wired f m (setup_at lo hi ∷ es) = any_wired f m es
any_wired f m (out_at s b last n ∷ es) = refl

abbrev is_said : Option ArmedOut → Bool
is_said None = false
is_said (Some x) = true

abbrev says_out : Armed → Bool
says_out a = is_said a.first || is_said a.second

any_said : (m : List ℕ) (a : Armed) → any_entry (entries_armed m a) ≡ says_out a
any_said m a = by a.setup
  where
    outs : (x y : Option ArmedOut) → any_entry (outs_armed m x ++ outs_armed m y) ≡ is_said x || is_said y
    outs None None = refl
    outs None (Some y) = refl
    outs (Some x) None = refl
    outs (Some x) (Some y) = refl

    by : (s : Option ArmedSetup) → any_entry (setups_armed s ++ (outs_armed m a.first ++ outs_armed m a.second)) ≡ says_out a
    by None = outs a.first a.second
    by (Some s) = outs a.first a.second

starts_said : (c : Call) (d : Driver) (f : File) → Typed c → Known f d.transfer → any_out (events f (call d c).writes) ≡ says_out (call d c).armed
unfolding wire
starts_said c d f ty i =
    let o = call d c in
    sym (any_wired (performs f o.writes) o.memory (events f o.writes)) ∙ ap any_entry (tells_call c d f ty i).is ∙ any_said o.memory o.armed

-- ---- an OUT stage arms a packet where it begins

abbrev is_arm : Option Arm → Bool
is_arm None = false
is_arm (Some a) = true

some_first : (buf now m : List ℕ) (c : OutCounters) (ks : Packets) → c.slot ≡ false → OutLeft buf c ks → (ks ≡ [] → ⊥) → is_arm (out_arm_two 0 c 0 now m).first ≡ true
unfolding out_arm_two out_arm
some_first buf now m c ks e l h =
    subst (λ (v : Bool). is_arm (out_arm_if v c 0 now m).arm ≡ true) (sym (ap (λ (s : Bool). may_arm 0 0 s) e)) (by l h)
  where
    by : {ks : Packets} → OutLeft buf c ks → (ks ≡ [] → ⊥) → is_arm (out_armed (out_next c).arm (out_next c).rest 0 c.offset now m).arm ≡ true
    by (stop q) h = absurd (h refl)
    by (go a q s i l) h = subst (λ (x : Option Arm). is_arm (out_armed x (out_next c).rest 0 c.offset now m).arm ≡ true) (sym q) refl

said_first : (a e : ℕ) (x y : Option Arm) → is_arm x ≡ true → says_out (outs_said a e x y) ≡ true
said_first a e None y h = absurd (let z : ◌≡◌ {A = ℕ} 0 1 = cc in omega arith)
said_first a e (Some x) y h = refl

-- ---- the stages of a transfer, each with the count of those reported complete before it

abbrev AtIn : Begin → ℕ → Bool → Type 0
AtIn (control_begin a x p s phase_in) n false = n ≡ 1
AtIn (control_begin a x p s phase_in) n true = ⊥
AtIn (control_begin a x p s phase_out) n false = ⊥
AtIn (control_begin a x p s phase_out) n true = n ≡ 2
AtIn (control_begin a x p s phase_none) n false = ⊥
AtIn (control_begin a x p s phase_none) n true = n ≡ 1
AtIn (bulk_begin In a e p t b) n false = n ≡ 0
AtIn (bulk_begin In a e p t b) n true = ⊥
AtIn (bulk_begin Out a e p t b) n v = ⊥

abbrev AtOut : Begin → ℕ → Bool → Type 0
AtOut (control_begin a x p s phase_in) n false = ⊥
AtOut (control_begin a x p s phase_in) n true = n ≡ 2
AtOut (control_begin a x p s phase_out) n false = n ≡ 1
AtOut (control_begin a x p s phase_out) n true = ⊥
AtOut (control_begin a x p s phase_none) n v = ⊥
AtOut (bulk_begin In a e p t b) n v = ⊥
AtOut (bulk_begin Out a e p t b) n false = n ≡ 0
AtOut (bulk_begin Out a e p t b) n true = ⊥

abbrev AtSetup : Begin → ℕ → Type 0
AtSetup (control_begin a x p s ph) n = n ≡ 0
AtSetup (bulk_begin d a e p t b) n = ⊥

abbrev At : Begin → ℕ → Stage → Type 0
At x n setup_stage = AtSetup x n
At x n (in_stage st) = AtIn x n st.status
At x n (out_stage st) = AtOut x n st.status

abbrev is_out : Stage → Bool
is_out setup_stage = false
is_out (in_stage st) = false
is_out (out_stage st) = true

sends_at : (x : Begin) (buf : List ℕ) (n : ℕ) (st : Stage) → At x n st → sends_next (live x buf) n ≡ is_out st
sends_at x buf n setup_stage h = by x h
  where
    by : (x : Begin) → AtSetup x n → sends_next (live x buf) n ≡ false
    by (control_begin a z p s phase_in) h = ap (λ (k : ℕ). eqb k 2) h
    by (control_begin a z p s phase_out) h = ap (λ (k : ℕ). eqb k 1) h
    by (control_begin a z p s phase_none) h = refl
    by (bulk_begin d a e p t b) h = absurd h
sends_at x buf n (in_stage st) h = by x st.status h
  where
    by : (x : Begin) (v : Bool) → AtIn x n v → sends_next (live x buf) n ≡ false
    by (control_begin a z p s phase_in) false h = ap (λ (k : ℕ). eqb k 2) h
    by (control_begin a z p s phase_in) true h = absurd h
    by (control_begin a z p s phase_out) false h = absurd h
    by (control_begin a z p s phase_out) true h = ap (λ (k : ℕ). eqb k 1) h
    by (control_begin a z p s phase_none) v h = refl
    by (bulk_begin In a e p t b) v h = refl
    by (bulk_begin Out a e p t b) v h = absurd h
sends_at x buf n (out_stage st) h = by x st.status h
  where
    by : (x : Begin) (v : Bool) → AtOut x n v → sends_next (live x buf) n ≡ true
    by (control_begin a z p s phase_in) false h = absurd h
    by (control_begin a z p s phase_in) true h = ap (λ (k : ℕ). eqb k 2) h
    by (control_begin a z p s phase_out) false h = ap (λ (k : ℕ). eqb k 1) h
    by (control_begin a z p s phase_out) true h = absurd h
    by (control_begin a z p s phase_none) v h = absurd h
    by (bulk_begin In a e p t b) v h = absurd h
    by (bulk_begin Out a e p t b) false h = ap (λ (k : ℕ). eqb k 0) h
    by (bulk_begin Out a e p t b) true h = absurd h

-- ---- what holds between calls

abbrev Stays : Begin → List ℕ → ℕ → Bool → Option Run → Type 0
Stays x buf n b None = ⊥
Stays x buf n b (Some r) = (r.request ≡ request_of x buf) × At x n r.stage × (is_out r.stage ≡ b)

abbrev Held : Live → ℕ → Bool → Option Run → Type 0
Held no_transfer n b None = b ≡ false
Held no_transfer n b (Some r) = ⊥
Held (live x buf) n b t = Checked x buf × Stays x buf n b t

held_sends : (l : Live) (n : ℕ) (b : Bool) (t : Option Run) → Held l n b t → sends_next l n ≡ b
held_sends no_transfer n b None h = sym h
held_sends no_transfer n b (Some r) h = absurd h
held_sends (live x buf) n b None h = absurd h.1
held_sends (live x buf) n b (Some r) h = sends_at x buf n r.stage h.1.1 ∙ h.1.2

-- ---- a step that acts

-- c: the step finds TRANS_COMPLETE; b: the stage had armed an OUT packet.
abbrev Turned : Begin → List ℕ → ℕ → Bool → Bool → Result Step Refusal → Option Run → Armed → Type 0
Turned x buf n b c (Ok (Waiting again)) t a = Stays x buf (cond c (suc n) n) (cond c (says_out a) (b || says_out a)) t
Turned x buf n b c (Ok (Done k)) t a = (t ≡ None) × (says_out a ≡ false)
Turned x buf n b c (Err why) t a = (ends why ≡ true) × (t ≡ None) × (says_out a ≡ false)

abbrev Turn : Begin → List ℕ → ℕ → Bool → Bool → Outcome → Type 0
Turn x buf n b c o = Turned x buf n b c o.answer o.next o.armed

or_false : (b : Bool) → b ≡ b || false
or_false true = refl
or_false false = refl

turn_keeping : (x : Begin) (buf : List ℕ) (n : ℕ) (b c s : Bool) (now : List ℕ) (o : Outcome) → Turn x buf n b c o → Turn x buf n b c (keeping s now o)
turn_keeping x buf n b c true now o h = h
turn_keeping x buf n b c false now o h = h

turn_enters : (x : Begin) (buf : List ℕ) (n : ℕ) (b status : Bool) (received k : ℕ) (sent m bf l : List ℕ) (ks : Packets)
    → OutLeft l (out_start FixedSize (size_of x) (first_pid (kind_of x)) k) ks → (ks ≡ [] → ⊥) → AtOut x (suc n) status
    → Turn x buf n b true (enters_out (request_of x buf) status received k sent m bf)
unfolding start_out
turn_enters x buf n b status received k sent m bf l ks q h g =
    let c = out_start FixedSize (size_of x) (first_pid (kind_of x)) k in
    let t = out_arm_two 0 c 0 sent m in
    (refl, g, sym (said_first (address_of x) (endpoint_of (kind_of x)) t.first t.second (some_first l sent m c ks refl q h)))

turn_setup : (x : Begin) (buf : List ℕ) → Checked x buf → (n : ℕ) (now m : List ℕ) → AtSetup x n → Turn x buf n false true (setup_step Complete (request_of x buf) now m)
unfolding setup_step start_in
turn_setup (control_begin a z p s phase_in) buf ck n now m h = by (ltb (length buf) s.wLength)
  where
    by : (v : Bool) → Turn (control_begin a z p s phase_in) buf n false true (setup_done phase_in v (request_of (control_begin a z p s phase_in) buf) s.wLength now m)
    by true = (refl, refl, refl)
    by false = (refl, ap suc h, refl)
turn_setup (control_begin a z p s phase_out) buf ck n now m h = by (ltb (length buf) s.wLength) refl
  where
    by : (v : Bool) → ltb (length buf) s.wLength ≡ v → Turn (control_begin a z p s phase_out) buf n false true (setup_done phase_out v (request_of (control_begin a z p s phase_out) buf) s.wLength now m)
    by true q = (refl, refl, refl)
    by false q =
        let room : s.wLength ≤ length buf = ltb-false (length buf) s.wLength q in
        let small = ck.kind.4 in
        turn_enters (control_begin a z p s phase_out) buf n false false 0 s.wLength now m now buf (out_cut FixedSize p true (take s.wLength buf))
        (out_cut_lem FixedSize p true ck.low ck.high buf s.wLength (omega arith) room) (cut_some FixedSize p true (take s.wLength buf) ck.low) (ap suc h)
turn_setup (control_begin a z p s phase_none) buf ck n now m h = (refl, ap suc h, refl)
turn_setup (bulk_begin d a e p t b) buf ck n now m h = absurd h

turn_in_done : (x : Begin) (buf : List ℕ) → Checked x buf → (n : ℕ) (v : Bool) (dp : InDepacketiser) (m bf : List ℕ) → AtIn x n v → Turn x buf n false true (in_done (kind_of x) v (request_of x buf) dp m bf)
turn_in_done (control_begin a z p s phase_in) buf ck n false dp m bf h =
    turn_enters (control_begin a z p s phase_in) buf n false true dp.offset 0 [] m bf [] (out_cut FixedSize p true [])
    (out_cut_lem FixedSize p true ck.low ck.high [] 0 (omega arith) (omega arith)) (cut_some FixedSize p true [] ck.low) (ap suc h)
turn_in_done (control_begin a z p s phase_in) buf ck n true dp m bf h = absurd h
turn_in_done (control_begin a z p s phase_out) buf ck n false dp m bf h = absurd h
turn_in_done (control_begin a z p s phase_out) buf ck n true dp m bf h = (refl, refl)
turn_in_done (control_begin a z p s phase_none) buf ck n false dp m bf h = absurd h
turn_in_done (control_begin a z p s phase_none) buf ck n true dp m bf h = (refl, refl)
turn_in_done (bulk_begin d a e p t b) buf ck n v dp m bf h = (refl, refl)

turn_in_complete : (x : Begin) (buf : List ℕ) → Checked x buf → (n : ℕ) (st : InStage) (w : ℕ) (bf m : List ℕ) → AtIn x n st.status → Turn x buf n false true (in_complete (request_of x buf) st w bf m)
unfolding in_complete
turn_in_complete x buf ck n st w bf m h = let g = in_retire_one w (in_received st) st.inflight bf m in first g.long g
  where
    second : (v : Bool) (g : InRetiring) → Turn x buf n false true (in_second_done v g (request_of x buf) st.status m)
    second true g = (refl, refl, refl)
    second false g = turn_in_done x buf ck n st.status g.packets m g.buffer h

    first : (v : Bool) (g : InRetiring) → Turn x buf n false true (in_first_done v g w (request_of x buf) st.status m)
    first true g = (refl, refl, refl)
    first false g = let k = in_retire_one w g.packets g.inflight g.buffer m in second k.long k

turn_in_move : (x : Begin) (buf : List ℕ) (n : ℕ) (st : InStage) (w : ℕ) (bf m : List ℕ) → AtIn x n st.status → Turn x buf n false false (in_move (request_of x buf) st w bf m)
unfolding in_move in_rearm
turn_in_move x buf n st w bf m h = let g = in_retire_one w (in_received st) st.inflight bf m in first g.long g
  where
    second : (v : Bool) (g : InRetiring) → Turn x buf n false false (in_second_moved v g w (request_of x buf) st m)
    second true g = (refl, refl, refl)
    second false g = (refl, h, refl)

    first : (v : Bool) (g : InRetiring) → Turn x buf n false false (in_first_moved v g w (request_of x buf) st m)
    first true g = (refl, refl, refl)
    first false g = let k = in_retire_one w g.packets g.inflight g.buffer m in second k.long k

turn_out_done : (x : Begin) (buf : List ℕ) (n : ℕ) (st : OutStage) (parity : Bool) (m bf : List ℕ) → AtOut x n st.status → Turn x buf n true true (out_done (kind_of x) (request_of x buf) st parity m bf)
unfolding start_in
turn_out_done x buf n st parity m bf h = by x st.status h
  where
    at : Bool → OutStage
    at v = record { status = v; slot = st.slot; remain = st.remain; offset = st.offset; zlp = st.zlp; retire = st.retire; inflight = st.inflight; received = st.received }

    by : (x : Begin) (v : Bool) → AtOut x n v → Turn x buf n true true (out_done (kind_of x) (request_of x buf) (at v) parity m bf)
    by (control_begin a z p s phase_in) true h = (refl, refl)
    by (control_begin a z p s phase_in) false h = absurd h
    by (control_begin a z p s phase_out) true h = absurd h
    by (control_begin a z p s phase_out) false h = (refl, ap suc h, refl)
    by (control_begin a z p s phase_none) v h = absurd h
    by (bulk_begin d a e p t b) v h = (refl, refl)

turn_polls : (x : Begin) (buf : List ℕ) → Checked x buf → (n : ℕ) (st : Stage) (p : Option Found) (w : ℕ) (now m : List ℕ) → FatalPoll p → At x n st
    → Turn x buf n (is_out st) (is_complete p) (polls p (request_of x buf) st w now m)
unfolding setup_step in_step out_step out_complete out_move
turn_polls x buf ck n st None w now m f h = (refl, h, or_false (is_out st))
turn_polls x buf ck n setup_stage (Some Complete) w now m f h = turn_setup x buf ck n now m h
turn_polls x buf ck n setup_stage (Some (Failed e)) w now m f h = (f, refl, refl)
turn_polls x buf ck n setup_stage (Some Neither) w now m f h = (refl, h, refl)
turn_polls x buf ck n (in_stage st) (Some Complete) w now m f h =
    turn_keeping x buf n false true st.status now _ (turn_in_complete x buf ck n st w (lent st.status now) m h)
turn_polls x buf ck n (in_stage st) (Some (Failed e)) w now m f h = turn_keeping x buf n false false st.status now _ (f, refl, refl)
turn_polls x buf ck n (in_stage st) (Some Neither) w now m f h = turn_keeping x buf n false false st.status now _ (turn_in_move x buf n st w (lent st.status now) m h)
turn_polls x buf ck n (out_stage st) (Some Complete) w now m f h =
    turn_keeping x buf n true true st.status now _ (turn_out_done x buf n st (out_retire_two w st.retire st.inflight).parity m (lent st.status now) h)
turn_polls x buf ck n (out_stage st) (Some (Failed e)) w now m f h = turn_keeping x buf n true false st.status now _ (f, refl, refl)
turn_polls x buf ck n (out_stage st) (Some Neither) w now m f h = turn_keeping x buf n true false st.status now _ (refl, h, refl)

-- ---- every call

same_held : (l : Live) (n : ℕ) (s : Bool) (t : Option Run) → Held l n s t → Held l n (s || false) t
same_held l n s t h = subst (λ (v : Bool). Held l n v t) (or_false s) h

turned_held : (x : Begin) (buf : List ℕ) → Checked x buf → (n : ℕ) (s : Bool) (y : Sample) (now : List ℕ) (a : Result Step Refusal) (t : Option Run) (am : Armed) → Turned x buf n s (finds y) a t am
    → let k = note_step a y now in Held (next_live k (live x buf)) (next_count k n) (cond (turns k) (says_out am) (s || says_out am)) t
turned_held x buf ck n s y now (Ok (Waiting again)) t am h = (ck, h)
turned_held x buf ck n s y now (Ok (Done k)) t am h = subst (λ (u : Option Run). Held no_transfer 0 (says_out am) u) (sym h.0) h.1
turned_held x buf ck n s y now (Err why) t am h = rw h.0 (subst (λ (u : Option Run). Held no_transfer 0 (says_out am) u) (sym h.1) h.2)

abbrev StepHeld : Live → ℕ → Bool → Sample → List ℕ → Outcome → Type 0
StepHeld l n s y now o = let k = note_step o.answer y now in Held (next_live k l) (next_count k n) (cond (turns k) (says_out o.armed) (s || says_out o.armed)) o.next

acts_held : (x : Begin) (buf : List ℕ) (n : ℕ) (s : Bool) (r : Run) (y : Sample) (now m : List ℕ) → Held (live x buf) n s (Some r) → StepHeld (live x buf) n s y now (acts r.request r.stage y now m)
unfolding acts
acts_held x buf n s r y now m h =
    let p = classify y.status y.intr in
    let k = turn_polls x buf h.0 n r.stage p y.buffers now m (poll_fatal y.status y.intr) h.1.1 in
    let g : Turn x buf n s (finds y) (polls p (request_of x buf) r.stage y.buffers now m) =
    subst (λ (v : Bool). Turn x buf n s v (polls p (request_of x buf) r.stage y.buffers now m)) (sym (finds_is y))
    (subst (λ (v : Bool). Turn x buf n v (is_complete p) (polls p (request_of x buf) r.stage y.buffers now m)) h.1.2 k) in
    subst (λ (q : Request). StepHeld (live x buf) n s y now (polls p q r.stage y.buffers now m)) (sym h.1.0)
    (let o = polls p (request_of x buf) r.stage y.buffers now m in turned_held x buf h.0 n s y now o.answer o.next o.armed g)

step_held : (b : Bool) (l : Live) (n : ℕ) (s : Bool) (t : Option Run) (y : Sample) (now m log : List ℕ) → Held l n s t → StepHeld l n s y now (step_of b t y now m log)
unfolding step_of
step_held b l n s t y now m log h = at (lent_fits m log) l t h
  where
    at : (p : Bool) (l : Live) (t : Option Run) → Held l n s t → StepHeld l n s y now (step_lent p b t y now m)
    at false l t h = same_held l n s t h
    at true l None h = same_held l n s None h
    at true no_transfer (Some r) h = absurd h
    at true (live x buf) (Some r) h = by (may_step b r) (eqb (length now) r.request.length)
      where
        by : (p q : Bool) → StepHeld (live x buf) n s y now (step_if p q r y now m)
        by false q = same_held (live x buf) n s (Some r) h
        by true false = same_held (live x buf) n s (Some r) h
        by true true = acts_held x buf n s r y now m h

abbrev BeginHeld : Begin → List ℕ → List ℕ → List ℕ → Live → ℕ → Bool → Beginning → Type 0
BeginHeld x buf m log l n s o =
    let k = note (begin x buf m log) o.answer in
    Held (next_live k l) (next_count k n) (cond (turns k) (says_out o.armed) (s || says_out o.armed)) o.next

begun_held : (x : Begin) (buf m log : List ℕ) (l : Live) (n : ℕ) (s : Bool) (t : Option Run) (why : Result (Unit {0}) Refusal) (o : Beginning) → Held l n s t → (why ≡ Ok tt → BeginHeld x buf m log l n s o)
    → BeginHeld x buf m log l n s (begin_or why t m o)
begun_held x buf m log l n s t (Err why) o h k = same_held l n s t h
begun_held x buf m log l n s t (Ok tt) o h k = k refl

begin_held : (x : Begin) (buf m log : List ℕ) (l : Live) (n : ℕ) (s : Bool) (t : Option Run) → TypedBegin x → Held l n s t → BeginHeld x buf m log l n s (beginning t x buf m log)
unfolding begin_control_of begin_bulk_in_of begin_bulk_out_of start_in start_out
begin_held (control_begin a z p v ph) buf m log l n s t ty h =
    begun_held (control_begin a z p v ph) buf m log l n s t (control_refusal t a p m log) (begins_control a z p v ph (length buf) m) h
    (λ q.
    let k = passed (lent_fits m log) (is_idle t) (address_good a) true (size_good p) true q in
    (checked_control a z p v ph buf k.address k.size ty.2, (refl, refl, refl)))
begin_held (bulk_begin In a e p k b) buf m log l n s t ty h =
    begun_held (bulk_begin In a e p k b) buf m log l n s t (bulk_refusal t a e p buf m log) (begins_bulk_in (bulk_request In a e p b (length buf)) k m) h
    (λ q.
    let j = passed (lent_fits m log) (is_idle t) (address_good a) (endpoint_good e) (size_good p) (leb (length buf) 0xFFFF) q in
    (checked_bulk In a e p k b buf j.address j.endpoint j.size j.room, (refl, refl, refl)))
begin_held (bulk_begin Out a e p k b) buf m log l n s t ty h =
    begun_held (bulk_begin Out a e p k b) buf m log l n s t (bulk_refusal t a e p buf m log) (begins_bulk_out (bulk_request Out a e p b (length buf)) e k buf m) h
    (λ q.
    let j = passed (lent_fits m log) (is_idle t) (address_good a) (endpoint_good e) (size_good p) (leb (length buf) 0xFFFF) q in
    let ck = checked_bulk Out a e p k b buf j.address j.endpoint j.size j.room in
    let c = out_start k p b (length buf) in
    let g = out_arm_two 0 c 0 buf m in
    (ck, (refl, refl, sym (said_first a e g.first g.second (some_first buf buf m c (out_cut k p b buf) refl (all_cut k p b buf ck.low ck.high ck.kind.2) (cut_some k p b buf ck.low))))))

cancel_held : (l : Live) (n : ℕ) (s : Bool) (t : Option Run) → Held l n s t
    → let o = cancel_of t in let k = note cancel o.answer in Held (next_live k l) (next_count k n) (cond (turns k) false (s || false)) o.next
unfolding cancel_of
cancel_held l n s None h = same_held l n s None h
cancel_held l n s (Some r) h = by (either_serves r)
  where
    by : (b : Bool) → let o = cancel_if b (Some r) (toggle_in r.request.kind) (toggle_out r.request.kind (stage_parity r.stage)) in let k = note cancel o.answer in Held (next_live k l) (next_count k n) (cond (turns k) false (s || false)) o.next
    by false = same_held l n s (Some r) h
    by true = refl

call_held : (c : Call) (d : Driver) (l : Live) (n : ℕ) (s : Bool) → Typed c → Held l n s d.transfer
    → let o = call d c in let k = note c o.answer in Held (next_live k l) (next_count k n) (cond (turns k) (says_out o.armed) (s || says_out o.armed)) o.next.transfer
unfolding call
call_held (begin x buf m log) d l n s ty h = begin_held x buf m log l n s d.transfer ty.0 h
call_held (step b y now m log) d l n s ty h = step_held b l n s d.transfer y now m log h
call_held cancel d l n s ty h = cancel_held l n s d.transfer h
call_held (open_pipe a x e p k log) d l n s ty h = same_held l n s d.transfer h
call_held (close_pipe k) d l n s ty h = same_held l n s d.transfer h
call_held (poll_pipe k y m log) d l n s ty h = same_held l n s d.transfer h
call_held (interrupt ints status log) d l n s ty h = same_held l n s d.transfer h
call_held (detect sie log) d l n s ty h = same_held l n s d.transfer h

-- ---- every list

stages_from : (cs : List Call) (b : Bool) (t : Told) (d : Driver) → AllTyped cs → Known t.file d.transfer → Held t.live t.stages b d.transfer → StagesFrom b t (shown_from d cs)
unfolding StagesFrom shown_from
stages_from [] b t d ty i h = held_sends t.live t.stages b d.transfer h
stages_from (c ∷ cs) b t d ty i h =
    let o = call d c in
    let u = after t (shown c o) in
    let k = note c o.answer in
    let b' = next_sends k b (events t.file o.writes) in (
      held_sends t.live t.stages b d.transfer h,
      subst (λ (v : Told). StagesFrom b' v (shown_from o.next cs)) (hears_is t (shown c o))
          (stages_from cs b' u o.next ty.1 (tells_call c d t.file ty.0 i).known
          (subst (λ (v : Bool). Held u.live u.stages (cond (turns k) v (b || v)) o.next.transfer) (sym (starts_said c d t.file ty.0 i)) (call_held c d t.live t.stages b ty.0 h))),
    )

pub stages : (rule : DeskRule) (f : File) (cs : List Call) → AllTyped cs → StagesFrom false (untold f) (shown_from (fresh rule) cs)
stages rule f cs ty = stages_from cs false (untold f) (fresh rule) ty tt refl
