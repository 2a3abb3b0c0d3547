-- A run for each part of the grammar, in front of any list. What it writes follows from Forward: only its premises and its begin are shown here. Assumes nothing.
use Rattle.std.specs.Prelude.{Err, None, Ok, Option, Result, Some}
use mathlib.Core.Path.{◌≡◌, refl, sym, ap, ◌∙◌, subst}
use mathlib.Core.Bool.{Bool, true, false, not, cond, ◌&&◌, true≢false}
use mathlib.Core.List.{List, [], ◌∷◌, ◌++◌, map}
use Prim.Native.Nat.{ℕ, zero, suc, ◌+◌, ◌-◌, ◌≤◌, ◌<◌}
use native.Mathlib.Omega.{arith}
use lib.ListN.{length, take}
use lib.Dec.{ltb}
use borrow.Author.Tests.{lt-ltb, le-ltb, le-leb}
use Rattle.cutting.specs.declared.transfer_type.TransferType.{TransferType}
use Rattle.cutting.specs.declared.transfer_type.TransferType.TheVariants.{FixedSize}
use Rattle.cutting.specs.declared.packetiser.OutCounters.{OutCounters}
use Rattle.cutting.specs.Cut.{packet, lengths, deal, none as empty, numbered, out_cut}
use Rattle.cutting.specs.Counters.{out_start}
use Rattle.cutting.specs.Left.{OutLeft}
use Rattle.cutting.proofs.Lengths.{lengths_some}
use Rattle.cutting.proofs.Cutting.{deal_none, out_cut_lem}
use Rattle.transfers.specs.declared.driver.DeskRule.TheVariants.{One}
use Rattle.transfers.specs.declared.host_controller.DataPhase.{DataPhase}
use Rattle.transfers.specs.declared.host_controller.DataPhase.TheVariants.{In as phase_in, Out as phase_out, None as phase_none}
use Rattle.transfers.specs.declared.host_controller.TransferExtras.{TransferExtras}
use Rattle.transfers.specs.declared.wire.SetupPacket.{SetupPacket}
use Rattle.transfers.specs.declared.wire.Direction.TheVariants.{In, Out}
use Rattle.transfers.specs.declared.answers.Armed.{Armed}
use Rattle.transfers.specs.declared.sample.Sample.{Sample}
use Rattle.transfers.specs.declared.sample.Found.TheVariants.{Complete, Neither}
use Rattle.transfers.specs.declared.driver.Driver.{Driver}
use Rattle.transfers.specs.declared.driver.Request.{Request}
use Rattle.transfers.specs.declared.driver.Stage.{Stage}
use Rattle.transfers.specs.declared.driver.Stage.TheVariants.{Setup as setup_stage, In as in_stage, Out as out_stage}
use Rattle.transfers.specs.declared.driver.InStage.{InStage}
use Rattle.transfers.specs.declared.driver.OutStage.{OutStage}
use Rattle.transfers.specs.Log.{Write}
use Rattle.transfers.specs.Memory.{lent_fits}
use Rattle.transfers.specs.Sample.{classify}
use Rattle.transfers.specs.Writes.{enable_writes, quiets, completes}
use Rattle.transfers.specs.Arming.{may_arm, out_arm_two}
use Rattle.transfers.specs.Answers.{nothing_armed, outs_armed}
use Rattle.transfers.specs.State.{endpoint_of, first_pid, target_of, stage_length, same, kind_has, served}
use Rattle.transfers.specs.Retiring.{InRetiring}
use Rattle.transfers.specs.Outcome.{Outcome, after, flipped, ended, waits, start_in, start_out, enters_in, enters_out}
use Rattle.transfers.specs.Step.{setup_done, setup_step, in_received, in_done, in_second_done, in_first_done, in_complete, in_step, out_packets, out_retire_two, out_done, out_complete, out_move, out_step, lent, keeping, stage_step, polls}
use Rattle.transfers.specs.Calls.{step_of, Beginning, begins_control, begin_control_of, begins_bulk_out, begin_bulk_out_of}
use Rattle.transfers.proofs.Armings.{out_two_flight, out_two_sum}
use Rattle.transfers.proofs.OpenPipes.{lent_sizes}
use Rattle.record.specs.Grammar.{Bytes}
use Rattle.record.specs.Wire.{File, performs, Event, events}
use Rattle.transfers.specs.Entries.{armed_count, entries_begun, entries_stepped}
use Rattle.transfers.specs.Driver.{fresh, with_transfer}
use Rattle.record.specs.Calls.{Begin, control_begin, bulk_begin, Call, begin, step, beginning, call}
use Rattle.record.specs.Asked.{Words, TypedSample, TypedBegin, AllTyped, Begun}
use Rattle.record.specs.Told.{no_transfer, live, Watch, not_armed, in_slot, taken, seen, marks, finds, stepped, broke}
use Rattle.record.specs.Shown.{ends, note_step, note, shown_from}
use Rattle.record.specs.Premises.{sends_next, LentIts, LentIf, TakenIf, CallGood, CallLent, Unrefused}
use Rattle.record.specs.Fates.{begun_by, begun_from}
use Rattle.record.proofs.Heard.{next_live, next_watch, next_count, breaks}
use Rattle.record.proofs.Unbroken.{UnbrokenFrom}
use Rattle.record.proofs.Logs.{Silent, silent_nil, silent_enable}
use Rattle.record.proofs.Chips.{is_complete, finds_is}
use Rattle.record.proofs.Stages.{between, start_log, heads, out_two, arm_events}
use Rattle.record.proofs.Arming.{Packets, ev_of, none_cons, Two, two, two_alike}
use Rattle.record.proofs.Cuts.{all_cut}
use Rattle.record.proofs.Begins.{address_of, size_of, kind_of, request_of, busy, Checked}
use Rattle.record.proofs.Starting.{counters_back, moved_to}
use Rattle.record.proofs.Stepping.{polled_only, quietened, completed, silent_polled, silent_quietened, silent_completed}
use Rattle.record.proofs.Sane.{Fit, acts_when, start_in_fit, start_out_fit, none_available, retire_two, retire_in}
use Rattle.transfers.specs.declared.answers.Step.TheVariants.{Done, Waiting}
use Rattle.transfers.specs.declared.refusal.Refusal.{Refusal}
use Rattle.transfers.specs.declared.answers.Step.{Step}
use Rattle.transfers.specs.declared.driver.Run.{Run}
use Rattle.transfers.specs.declared.sample.Found.{Found}

-- ---- the samples of a run: no slot available or full; BUFF_STATUS, or TRANS_COMPLETE

abbrev move_sample : Sample
move_sample = record { status = 0; intr = 0x10; buffers = 0 }

abbrev done_sample : Sample
done_sample = record { status = 0x0004_0000; intr = 8; buffers = 0 }

moves : classify move_sample.status move_sample.intr ≡ Some Neither
unfolding classify
moves = refl

completing : classify done_sample.status done_sample.intr ≡ Some Complete
unfolding classify
completing = refl

move_typed : TypedSample move_sample
move_typed = (omega arith, omega arith, omega arith)

done_typed : TypedSample done_sample
done_typed = (omega arith, omega arith, omega arith)

-- ---- the watch

abbrev IsSet : Watch → Type 0
IsSet not_armed = ⊥
IsSet (in_slot s) = Unit {0}
IsSet taken = Unit {0}

-- The last packet is marked.
abbrev Record : Packets → Type 0
Record [] = Unit {0}
Record (packet s b true l ∷ ks) = Record ks
Record (packet s b false l ∷ ks) = (ks ≡ [] → ⊥) × Record ks

set_marks : (new rest : Packets) (w : Watch) → Record (new ++ rest) → (new ++ rest ≡ [] → IsSet w) → rest ≡ [] → IsSet (marks w (map ev_of new))
set_marks [] rest w q h e = h e
set_marks (packet s b true l ∷ new) rest w q h e = set_marks new rest (in_slot s) q (λ r. tt) e
set_marks (packet s b false l ∷ new) rest w q h e = set_marks new rest w q.1 (λ r. absurd (q.0 r)) e

marked_after : (new rest : Packets) → Record (new ++ rest) → Record rest
marked_after [] rest q = q
marked_after (packet s b true l ∷ new) rest q = marked_after new rest q
marked_after (packet s b false l ∷ new) rest q = marked_after new rest q.1

seen_taken : (w : Watch) → IsSet w → seen w done_sample ≡ taken
seen_taken not_armed h = absurd h
seen_taken (in_slot true) h = refl
seen_taken (in_slot false) h = refl
seen_taken taken h = refl

set_seen : (w : Watch) → IsSet w → IsSet (seen w move_sample)
set_seen not_armed h = h
set_seen (in_slot true) h = tt
set_seen (in_slot false) h = tt
set_seen taken h = tt

-- ---- a cutting has a packet, and its last one is marked

numbered_marked : (s b : Bool) (l : List (List ℕ)) → Record (numbered s b l)
unfolding numbered
numbered_marked s b [] = tt
numbered_marked s b (x ∷ []) = tt
numbered_marked s b (x ∷ y ∷ l) = (none_cons (packet (not s) (not b) (empty l) y) (numbered (not (not s)) (not (not b)) l), numbered_marked (not s) (not b) (y ∷ l))

numbered_some : (s b : Bool) (l : List (List ℕ)) → empty l ≡ false → numbered s b l ≡ [] → ⊥
unfolding numbered
numbered_some s b [] e q = true≢false e
numbered_some s b (x ∷ l) e q = none_cons (packet s b (empty l) x) (numbered (not s) (not b) l) q

cut_marked : (t : TransferType) (p : ℕ) (b : Bool) (l : List ℕ) → Record (out_cut t p b l)
unfolding out_cut
cut_marked t p b l = numbered_marked false b (deal (lengths t p (length l)) l)

pub cut_some : (t : TransferType) (p : ℕ) (b : Bool) (l : List ℕ) → 0 < p → out_cut t p b l ≡ [] → ⊥
unfolding out_cut
cut_some t p b l h = numbered_some false b (deal (lengths t p (length l)) l) (deal_none (lengths t p (length l)) l ∙ lengths_some t p (length l) h)

-- ---- premises

lent_own : (x : Begin) (buf : List ℕ) → LentIts (live x buf) buf
lent_own (control_begin a z p s phase_in) buf = tt
lent_own (control_begin a z p s phase_out) buf = refl
lent_own (control_begin a z p s phase_none) buf = tt
lent_own (bulk_begin In a e p t b) buf = tt
lent_own (bulk_begin Out a e p t b) buf = refl

lent_if : (x : Begin) (buf : List ℕ) (es : List Event) → LentIf es (live x buf) buf
lent_if x buf [] = tt
lent_if x buf (e ∷ es) = lent_own x buf

-- Nothing is under way.
abbrev pub Rest : Driver → Type 0
Rest d = d.transfer ≡ None

-- A list that meets the premises from every driver with nothing under way, whatever was counted, watched and written before; and the transfers that it begins.
pub record Free (cs : List Call) (gs : List Begun) : Type 0 where
  pub typed : AllTyped cs
  pub premises : (n : ℕ) (w : Watch) (f : File) (d : Driver) → Rest d → UnbrokenFrom no_transfer n w f d cs
  pub begun : (d : Driver) → Rest d → begun_from (shown_from d cs) ≡ gs

-- A transfer in front of a list.
pub record Running (g : Begun) (gs : List Begun) : Type 0 where
  pub calls : List Call
  pub free : Free calls (g ∷ gs)

none_begun : (a : Result Step Refusal) (y : Sample) (now : List ℕ) → begun_by (note_step a y now) ≡ []
none_begun (Ok (Waiting again)) y now = refl
none_begun (Ok (Done k)) y now = refl
none_begun (Err why) y now = by (ends why)
  where
    by : (v : Bool) → begun_by (cond v broke (stepped false y now)) ≡ []
    by true = refl
    by false = refl

module _ (m log : List ℕ) (fits : lent_fits m log ≡ true) (mb : Bytes m) (lw : Words log) (later : List Call) (gs : List Begun) (free : Free later gs) where
  -- The calls of a transfer under way end it with a count, and the list goes on.
  record Fin (e : Driver) (x : Begin) (buf : List ℕ) (n : ℕ) (w : Watch) (f : File) (t : Option Run) (cs : List Call) : Type 0 where
    typed : AllTyped cs
    premises : (k : ℕ) → UnbrokenFrom (live x buf) n w f (with_transfer e t k) cs
    begun : (k : ℕ) → begun_from (shown_from (with_transfer e t k) cs) ≡ gs

  -- The same after a step's outcome.
  record Goes (e : Driver) (x : Begin) (buf : List ℕ) (n : ℕ) (w : Watch) (f : File) (y : Sample) (o : Outcome) (cs : List Call) : Type 0 where
    typed : AllTyped cs
    counts : breaks (note_step o.answer y buf) ≡ false
    good : CallGood (note_step o.answer y buf) (live x buf) n w (events f o.writes)
    lends : CallLent (note_step o.answer y buf) (live x buf)
    unrefused : (b : Bool) → Unrefused (step b y buf m log) o.answer
    premises : (k : ℕ) → UnbrokenFrom (next_live (note_step o.answer y buf) (live x buf)) (next_count (note_step o.answer y buf) n) (next_watch (note_step o.answer y buf) w (events f o.writes)) (performs f o.writes) (with_transfer e o.next k) cs
    begun : (k : ℕ) → begun_from (shown_from (with_transfer e o.next k) cs) ≡ gs

  module _ (e : Driver) (x : Begin) (buf : List ℕ) (n : ℕ) (w : Watch) (f : File) where
    fin_step : (b : Bool) (t : Option Run) (y : Sample) (cs : List Call) (o : Outcome) → Bytes buf → TypedSample y → step_of b t y buf m log ≡ o → Goes e x buf n w f y o cs
        → Fin e x buf n w f t (step b y buf m log ∷ cs)
    unfolding UnbrokenFrom begun_from call shown_from
    fin_step b t y cs o bb ty q g = record {
      typed = ((ty, bb, mb, lw), g.typed);
      premises = λ k. subst (λ (o : Outcome). (breaks (note_step o.answer y buf) ≡ false) × CallGood (note_step o.answer y buf) (live x buf) n w (events f o.writes)
          × (CallLent (note_step o.answer y buf) (live x buf) × Unrefused (step b y buf m log) o.answer)
          × UnbrokenFrom (next_live (note_step o.answer y buf) (live x buf)) (next_count (note_step o.answer y buf) n) (next_watch (note_step o.answer y buf) w (events f o.writes)) (performs f o.writes) (with_transfer e o.next (entries_stepped o.answer k o.armed)) cs) (sym q)
          (g.counts, g.good, (g.lends, g.unrefused b), g.premises (entries_stepped o.answer k o.armed));
      begun = λ k. subst (λ (o : Outcome). begun_by (note_step o.answer y buf) ++ begun_from (shown_from (with_transfer e o.next (entries_stepped o.answer k o.armed)) cs) ≡ gs) (sym q)
          (ap (λ (l : List Begun). l ++ begun_from (shown_from (with_transfer e o.next (entries_stepped o.answer k o.armed)) cs)) (none_begun o.answer y buf) ∙ g.begun (entries_stepped o.answer k o.armed));
    }

    goes_wait : (y : Sample) (st : Stage) (again : Bool) (am : Armed) (ws : List Write) (m' bf : List ℕ) (cs : List Call) (c : Bool) → finds y ≡ c
        → TakenIf (c && sends_next (live x buf) n) (seen w y)
        → Fin e x buf (cond c (suc n) n) (marks (cond c not_armed (seen w y)) (events f ws)) (performs f ws) (busy x buf st) cs
        → Goes e x buf n w f y (waits (request_of x buf) st again am ws m' bf) cs
    goes_wait y st again am ws m' bf cs c q t h = record {
      typed = h.typed;
      counts = refl;
      begun = h.begun;
      lends = lent_own x buf;
      unrefused = λ b. tt;
      good = (lent_if x buf (events f ws), subst (λ (v : Bool). TakenIf (v && sends_next (live x buf) n) (seen w y)) (sym q) t);
      premises = λ k. subst (λ (v : Bool). UnbrokenFrom (live x buf) (cond v (suc n) n) (marks (cond v not_armed (seen w y)) (events f ws)) (performs f ws)
          (with_transfer e (busy x buf st) k) cs) (sym q) (h.premises k);
    }

    goes_done : (k : ℕ) (t : Bool) (ws : List Write) (bf : List ℕ) → TakenIf (true && sends_next (live x buf) n) (seen w done_sample)
        → Goes e x buf n w f done_sample (after ws (ended (Ok (Done k)) t t m bf)) later
    goes_done k t ws bf h = record {
      typed = free.typed;
      counts = refl;
      begun = λ j. free.begun (with_transfer e None j) refl;
      lends = lent_own x buf;
      unrefused = λ b. tt;
      good = (lent_if x buf (events f (ws ++ [])), subst (λ (v : Bool). TakenIf (v && sends_next (live x buf) n) (seen w done_sample)) (sym (finds_is done_sample ∙ ap is_complete completing)) h);
      premises = λ j. free.premises 0 not_armed (performs f (ws ++ [])) (with_transfer e None j) refl;
    }

    keeps : (s : Bool) (y : Sample) (o : Outcome) (cs : List Call) → Goes e x buf n w f y (after quietened o) cs
        → Goes e x buf n w f y (after polled_only (keeping s buf (after quiets o))) cs
    keeps true y o cs h = record { typed = h.typed; counts = h.counts; good = h.good; lends = h.lends; unrefused = h.unrefused; premises = h.premises; begun = h.begun }
    keeps false y o cs h = h

    fin_stage : (b : Bool) (t : Option Run) (y : Sample) (cs : List Call) (s : Bool) (o : Outcome) → Bytes buf → TypedSample y
        → step_of b t y buf m log ≡ after polled_only (keeping s buf (after quiets o))
        → Goes e x buf n w f y (after quietened o) cs → Fin e x buf n w f t (step b y buf m log ∷ cs)
    fin_stage b t y cs s o bb ty q g = fin_step b t y cs (after polled_only (keeping s buf (after quiets o))) bb ty q (keeps s y o cs g)

  -- ---- a step that finds TRANS_COMPLETE

  module _ (b : Bool) (x : Begin) (buf : List ℕ) (ck : Checked x buf) where
    step_done : (st : Stage) → served b (kind_of x) st ≡ true → Fit (request_of x buf) st
        → step_of b (busy x buf st) done_sample buf m log ≡ after polled_only (stage_step Complete (request_of x buf) st 0 buf m)
    step_done st sv h = acts_when b x buf st done_sample m log fits ck sv h ∙ ap (λ (p : Option Found). polls p (request_of x buf) st 0 buf m) completing

    in_completes : (st : InStage) → served b (kind_of x) (in_stage st) ≡ true → Fit (request_of x buf) (in_stage st)
        → step_of b (busy x buf (in_stage st)) done_sample buf m log
        ≡ after polled_only (keeping st.status buf (after quiets (after (completes ∷ []) (in_done (kind_of x) st.status (request_of x buf) (in_received st) m (lent st.status buf)))))
    unfolding in_step in_complete
    in_completes st sv h =
        let X = request_of x buf in
        let bf = lent st.status buf in
        let one = retire_in (in_received st) st.inflight bf m in
        step_done (in_stage st) sv h
        ∙ ap (λ (g : InRetiring). after polled_only (keeping st.status buf (after quiets (in_first_done g.long g 0 X st.status m)))) one
        ∙ ap (λ (g : InRetiring). after polled_only (keeping st.status buf (after quiets (after (completes ∷ []) (in_second_done g.long g X st.status m))))) one

    out_completes : (st : OutStage) → served b (kind_of x) (out_stage st) ≡ true → Fit (request_of x buf) (out_stage st)
        → step_of b (busy x buf (out_stage st)) done_sample buf m log
        ≡ after polled_only (keeping st.status buf (after quiets (after (completes ∷ [])
        (out_done (kind_of x) (request_of x buf) st (out_retire_two 0 st.retire st.inflight).parity m (lent st.status buf)))))
    unfolding out_step out_complete
    out_completes st sv h = step_done (out_stage st) sv h

  -- ---- an OUT stage: as many steps as packets, then the completing one

  out_run : Bool → List ℕ → ℕ → List Call → List Call
  out_run b buf zero tail = step b done_sample buf m log ∷ tail
  out_run b buf (suc k) tail = step b move_sample buf m log ∷ out_run b buf k tail

  module _ (e : Driver) (b : Bool) (x : Begin) (buf : List ℕ) (ck : Checked x buf) (bb : Bytes buf) (status : Bool) (n : ℕ) (tail : List Call)
      (sv : (st : OutStage) → st.status ≡ status → served b (kind_of x) (out_stage st) ≡ true)
      (complete : (w : Watch) (f : File) (st : OutStage) → st.status ≡ status → IsSet w → Fit (request_of x buf) (out_stage st)
      → Fin e x buf n w f (busy x buf (out_stage st)) (step b done_sample buf m log ∷ tail)) where
    out_moves : (st : OutStage) → st.status ≡ status → Fit (request_of x buf) (out_stage st)
        → step_of b (busy x buf (out_stage st)) move_sample buf m log
        ≡ after polled_only (keeping st.status buf (after quiets (out_move (request_of x buf) st 0 (lent st.status buf) m)))
    unfolding out_step
    out_moves st q h = acts_when b x buf (out_stage st) move_sample m log fits ck (sv st q) h ∙ ap (λ (p : Option Found). polls p (request_of x buf) (out_stage st) 0 buf m) moves

    out_run_lem : (k : ℕ) (w : Watch) (f : File) (st : OutStage) (ks : Packets) → st.status ≡ status → Fit (request_of x buf) (out_stage st)
        → OutLeft (lent st.status buf) (out_packets (request_of x buf) st) ks
        → Record ks → (ks ≡ [] → IsSet w) → length ks ≤ k → Fin e x buf n w f (busy x buf (out_stage st)) (out_run b buf k tail)
    unfolding out_run out_move
    out_run_lem zero w f st [] q h l mk i le = complete w f st q (i refl) h
    out_run_lem zero w f st (p ∷ ks) q h l mk i le = absurd (omega arith)
    out_run_lem (suc k) w f st ks q h l mk i le =
        let X = request_of x buf in
        let r = out_retire_two 0 st.retire st.inflight in
        let j = r.inflight in
        let few : j ≡ st.inflight - 1 - 1 = retire_two st.retire st.inflight in
        let two_most : st.inflight ≤ 2 = h.flight in
        let small : j < 2 = omega arith in
        let can : may_arm 0 j st.slot ≡ true = rw (lt-ltb j 2 small, none_available st.slot) in
        let c = out_packets X st in
        let u = lent st.status buf in
        let g = out_arm_two 0 c j u m in
        let t = two u 0 c ks j m (lent_sizes m log fits).0 l in
        let last = enable_writes (size_of x) (stage_length X st.status) in
        let ws = quietened ++ (g.writes ++ last) in
        let s = between quietened g.writes last (arm_events g.first ++ arm_events g.second) silent_quietened (out_two 0 c j u m) (silent_enable (size_of x) (stage_length X st.status)) in
        let ev : events f ws ≡ map ev_of t.new = s.are f ∙ t.says in
        let mk' : Record (t.new ++ t.rest) = subst Record t.split mk in
        let pr = t.progress can in
        let st' = moved_to st g r.parity in
        let a = two_alike 0 c j u m in
        let within : st.offset + st.remain ≤ stage_length X st.status = h.inside in
        fin_stage e x buf n w f b (busy x buf (out_stage st)) move_sample (out_run b buf k tail) st.status (out_move X st 0 u m) bb move_typed (out_moves st q h)
        (goes_wait e x buf n w f move_sample (out_stage st') true (outs_armed (address_of x) (endpoint_of (kind_of x)) g.first g.second) ws g.memory u (out_run b buf k tail) false (finds_is move_sample ∙ ap is_complete moves)
        tt
        (out_run_lem k (marks (seen w move_sample) (events f ws)) (performs f ws) st' t.rest q
        (record { flight = out_two_flight 0 c j u m (omega arith); inside = omega (arith, out_two_sum 0 c j u m); room = h.room })
        (subst (λ (d : OutCounters). OutLeft u d t.rest) (counters_back (first_pid (kind_of x)) (size_of x) g.packets a.pid a.size) t.left)
        (marked_after t.new t.rest mk')
        (λ (z : t.rest ≡ []). subst (λ (es : List Event). IsSet (marks (seen w move_sample) es)) (sym ev)
        (set_marks t.new t.rest (seen w move_sample) mk' (λ (v : t.new ++ t.rest ≡ []). set_seen w (i (t.split ∙ v))) z))
        (omega arith)))

    -- From its start.
    out_start_lem : (pre : List Write) (ty : TransferType) (received : ℕ) (sent : List ℕ) (ks : Packets) (f : File) → Silent pre → sent ≡ lent status buf
        → OutLeft (lent status buf) (out_start ty (size_of x) (first_pid (kind_of x)) (stage_length (request_of x buf) status)) ks → Record ks → (ks ≡ [] → ⊥)
        → stage_length (request_of x buf) status ≤ length buf
        → Fin e x buf n (marks not_armed (events f (pre ++ (start_out (target_of (request_of x buf)) ty status received (stage_length (request_of x buf) status) sent m).writes)))
        (performs f (pre ++ (start_out (target_of (request_of x buf)) ty status received (stage_length (request_of x buf) status) sent m).writes))
        (busy x buf (out_stage (start_out (target_of (request_of x buf)) ty status received (stage_length (request_of x buf) status) sent m).stage))
        (out_run b buf (length ks) tail)
    unfolding start_out
    out_start_lem pre ty received sent ks f sp same l mk ne room =
        let X = request_of x buf in
        let T = target_of X in
        let k = stage_length X status in
        let c = out_start ty (size_of x) (first_pid (kind_of x)) k in
        let g = out_arm_two 0 c 0 sent m in
        let t : Two (lent status buf) true ks g = subst (λ (u : List ℕ). Two (lent status buf) true ks (out_arm_two 0 c 0 u m)) (sym same) (two (lent status buf) 0 c ks 0 m (lent_sizes m log fits).0 l) in
        let h = heads pre g.writes (arm_events g.first ++ arm_events g.second) T k Out sp (out_two 0 c 0 sent m) f in
        let ws = start_log pre T k g.writes Out in
        let ev : events f ws ≡ map ev_of t.new = h.are ∙ t.says in
        let mk' : Record (t.new ++ t.rest) = subst Record t.split mk in
        let pr = t.progress refl in
        let a = two_alike 0 c 0 sent m in
        out_run_lem (length ks) (marks not_armed (events f ws)) (performs f ws) (start_out T ty status received k sent m).stage t.rest refl (start_out_fit X ty status received sent m room)
        (subst (λ (d : OutCounters). OutLeft (lent status buf) d t.rest) (counters_back (first_pid (kind_of x)) (size_of x) g.packets a.pid a.size) t.left)
        (marked_after t.new t.rest mk')
        (λ (z : t.rest ≡ []). subst (λ (es : List Event). IsSet (marks not_armed es)) (sym ev)
        (set_marks t.new t.rest not_armed mk' (λ (v : t.new ++ t.rest ≡ []). absurd (ne (t.split ∙ v))) z))
        (omega arith)

  -- ---- a begin

  begin_run : (x : Begin) (buf : List ℕ) (cs : List Call) (o : Beginning) → TypedBegin x → Bytes buf → beginning None x buf m log ≡ o → o.answer ≡ Ok tt
      → ((e : Driver) (f : File) → Fin e x buf 0 (marks not_armed (events f o.writes)) (performs f o.writes) o.next cs) → Running (record { fields = x; buffer = buf }) gs
  unfolding UnbrokenFrom begun_from call shown_from
  begin_run x buf cs o ty bb q a fin =
      let c = begin x buf m log in
      record {
        calls = c ∷ cs;
        free = record {
          typed = ((ty, bb, mb, lw), (fin (fresh One) (λ k. 0)).typed);
          premises = λ n w f d r.
              subst (λ (o : Beginning). (breaks (note c o.answer) ≡ false) × CallGood (note c o.answer) no_transfer n w (events f o.writes)
              × (CallLent (note c o.answer) no_transfer × Unrefused c o.answer)
              × UnbrokenFrom (next_live (note c o.answer) no_transfer) (next_count (note c o.answer) n) (next_watch (note c o.answer) w (events f o.writes)) (performs f o.writes) (with_transfer d o.next (entries_begun o.answer d.entries o.armed)) cs)
              (sym (ap (λ (t : Option Run). beginning t x buf m log) r ∙ q))
              (subst (λ (v : Result (Unit {0}) Refusal). (breaks (note c v) ≡ false) × CallGood (note c v) no_transfer n w (events f o.writes)
              × (CallLent (note c v) no_transfer × Unrefused c v)
              × UnbrokenFrom (next_live (note c v) no_transfer) (next_count (note c v) n) (next_watch (note c v) w (events f o.writes)) (performs f o.writes) (with_transfer d o.next (entries_begun v d.entries o.armed)) cs)
              (sym a) (refl, tt, (tt, tt), (fin d f).premises (armed_count o.armed)));
          begun = λ d r.
              subst (λ (o : Beginning). begun_by (note c o.answer) ++ begun_from (shown_from (with_transfer d o.next (entries_begun o.answer d.entries o.armed)) cs) ≡ record { fields = x; buffer = buf } ∷ gs)
              (sym (ap (λ (t : Option Run). beginning t x buf m log) r ∙ q))
              (subst (λ (v : Result (Unit {0}) Refusal). begun_by (note c v) ++ begun_from (shown_from (with_transfer d o.next (entries_begun v d.entries o.armed)) cs) ≡ record { fields = x; buffer = buf } ∷ gs)
              (sym a) (ap (λ (l : List Begun). record { fields = x; buffer = buf } ∷ l) ((fin d (λ k. 0)).begun (armed_count o.armed))));
        };
      }

  -- ---- a bulk OUT

  pub run_bulk : (a e p : ℕ) (t : TransferType) (b : Bool) (buf : List ℕ) → Bytes buf → Checked (bulk_begin Out a e p t b) buf → Running (record { fields = bulk_begin Out a e p t b; buffer = buf }) gs
  unfolding begin_bulk_out_of served
  run_bulk a e p t b buf bb ck =
      let x = bulk_begin Out a e p t b in
      let X = request_of x buf in
      let ks = out_cut t p b buf in
      let left = all_cut t p b buf ck.low ck.high ck.kind.2 in
      let serves : (st : OutStage) → st.status ≡ false → served false (kind_of x) (out_stage st) ≡ true = λ st q. ap (λ (v : Bool). kind_has (kind_of x) false v) q in
      let small : a ≤ 127 = ck.addr in
      let short : p ≤ 64 = ck.high in
      begin_run x buf (out_run false buf (length ks) later) (begins_bulk_out X e t buf m) (omega arith, let k : e ≤ 15 = ck.kind.1 in omega arith, omega arith) bb
      (rw (fits, le-leb a 127 ck.addr, le-leb 1 e ck.kind.0, le-leb e 15 ck.kind.1, le-leb 1 p ck.low, le-leb p 64 ck.high, le-leb (length buf) 0xFFFF ck.kind.2)) refl
      (λ d f. out_start_lem d false x buf ck bb false 0 later serves
      (λ w f st q i h.
      let parity = (out_retire_two 0 st.retire st.inflight).parity in
      let u = lent st.status buf in
      fin_stage d x buf 0 w f false (busy x buf (out_stage st)) done_sample later st.status (after (completes ∷ []) (out_done (kind_of x) X st parity m u)) bb done_typed
      (out_completes false x buf ck st (serves st q) h) (goes_done d x buf 0 w f (length buf) (flipped b parity) completed u (seen_taken w i)))
      [] t 0 buf ks f silent_nil refl left (cut_marked t p b buf) (cut_some t p b buf ck.low) (omega arith))

  -- ---- controls

  module _ (a : ℕ) (z : TransferExtras) (p : ℕ) (s : SetupPacket) (buf : List ℕ) (bb : Bytes buf) where
    abbrev asks : DataPhase → Begin
    asks ph = control_begin a z p s ph

    abbrev asked : DataPhase → Request
    asked ph = request_of (control_begin a z p s ph) buf

    from_setup : (ph : DataPhase) (cs : List Call) → Checked (asks ph) buf
        → ((e : Driver) (w : Watch) (f : File) → Fin e (asks ph) buf 0 w f (busy (asks ph) buf setup_stage) cs)
        → Running (record { fields = asks ph; buffer = buf }) gs
    unfolding begin_control_of
    from_setup ph cs ck fin =
        let o = begins_control a z p s ph (length buf) m in
        let small : a ≤ 127 = ck.addr in
        let short : p ≤ 64 = ck.high in
        begin_run (asks ph) buf cs o (omega arith, omega arith, ck.kind) bb
        (rw (fits, le-leb a 127 ck.addr, le-leb 1 p ck.low, le-leb p 64 ck.high)) refl
        (λ e f. fin e (marks not_armed (events f o.writes)) (performs f o.writes))

    -- SETUP is done.
    setup_done_lem : (b : Bool) (ph : DataPhase) → Checked (asks ph) buf → served b (kind_of (asks ph)) setup_stage ≡ true → (v : Bool) → ltb (length buf) s.wLength ≡ v
        → step_of b (busy (asks ph) buf setup_stage) done_sample buf m log ≡ after polled_only (setup_done ph v (asked ph) s.wLength buf m)
    unfolding setup_step
    setup_done_lem b ph ck sv v q = step_done b (asks ph) buf ck setup_stage sv tt ∙ ap (λ (u : Bool). after polled_only (setup_done ph u (asked ph) s.wLength buf m)) q

    -- The last stage, IN: one step.
    in_last : (e : Driver) (b : Bool) (ph : DataPhase) (n : ℕ) (w : Watch) (f : File) (st : InStage) → Checked (asks ph) buf → st.status ≡ true
        → served b (kind_of (asks ph)) (in_stage st) ≡ true → Fit (asked ph) (in_stage st)
        → TakenIf (sends_next (live (asks ph) buf) n) (seen w done_sample)
        → Fin e (asks ph) buf n w f (busy (asks ph) buf (in_stage st)) (step b done_sample buf m log ∷ later)
    in_last e b ph n w f st ck q sv h t =
        let x = asks ph in
        let X = asked ph in
        let done = after (completes ∷ []) (in_done (kind_of x) true X (in_received st) m []) in
        fin_stage e x buf n w f b (busy x buf (in_stage st)) done_sample later true done bb done_typed
        (in_completes b x buf ck st sv h
        ∙ ap (λ (v : Bool). after polled_only (keeping v buf (after quiets (after (completes ∷ []) (in_done (kind_of x) v X (in_received st) m (lent v buf)))))) q)
        (goes_done e x buf n w f _ false completed [] t)

    -- An OUT stage is complete, in terms of its status.
    abbrev at : OutStage → Bool → OutStage
    at st v = record { status = v; slot = st.slot; remain = st.remain; offset = st.offset; zlp = st.zlp; retire = st.retire; inflight = st.inflight; received = st.received }

    abbrev out_done_as : DataPhase → OutStage → Bool → Outcome
    out_done_as ph st v = after (completes ∷ []) (out_done (kind_of (asks ph)) (asked ph) (at st v) (out_retire_two 0 st.retire st.inflight).parity m (lent v buf))

    out_done_lem : (b : Bool) (ph : DataPhase) (st : OutStage) (v : Bool) → Checked (asks ph) buf → st.status ≡ v → served b (kind_of (asks ph)) (out_stage st) ≡ true
        → Fit (asked ph) (out_stage st)
        → step_of b (busy (asks ph) buf (out_stage st)) done_sample buf m log ≡ after polled_only (keeping v buf (after quiets (out_done_as ph st v)))
    out_done_lem b ph st v ck q sv h = out_completes b (asks ph) buf ck st sv h ∙ ap (λ (v : Bool). after polled_only (keeping v buf (after quiets (out_done_as ph st v)))) q

    pub run_none : Checked (asks phase_none) buf → Running (record { fields = asks phase_none; buffer = buf }) gs
    unfolding served start_in
    run_none ck =
        let x = asks phase_none in
        let X = asked phase_none in
        let i = start_in (target_of X) FixedSize true 0 in
        let ws = polled_only ++ i.writes in
        let tail = step true done_sample buf m log ∷ later in
        from_setup phase_none (step true done_sample buf m log ∷ tail) ck
        (λ e w f. fin_step e x buf 0 w f true (busy x buf setup_stage) done_sample tail (after polled_only (enters_in X true 0 m buf)) bb done_typed (setup_done_lem true phase_none ck refl (ltb (length buf) s.wLength) refl)
        (goes_wait e x buf 0 w f done_sample (in_stage i.stage) true nothing_armed ws m buf tail true (finds_is done_sample ∙ ap is_complete completing) tt
        (in_last e true phase_none 1 (marks not_armed (events f ws)) (performs f ws) i.stage ck refl refl (start_in_fit X FixedSize true (omega arith)) tt)))

    pub run_in : Checked (asks phase_in) buf → s.wLength ≤ length buf → Running (record { fields = asks phase_in; buffer = buf }) gs
    unfolding served start_in
    run_in ck room =
        let x = asks phase_in in
        let X = asked phase_in in
        let ks = out_cut FixedSize p true [] in
        let i = start_in (target_of X) FixedSize false s.wLength in
        let o = start_out (target_of X) FixedSize true 0 0 [] m in
        let ws = polled_only ++ i.writes in
        let vs = completed ++ o.writes in
        let rest = out_run true buf (length ks) later in
        let tail = step true done_sample buf m log ∷ rest in
        let serves : (st : OutStage) → st.status ≡ true → served true (kind_of x) (out_stage st) ≡ true = λ st q. ap (λ (v : Bool). kind_has (kind_of x) false v) q in
        from_setup phase_in (step true done_sample buf m log ∷ tail) ck
        (λ e w f.
        let w₁ = marks not_armed (events f ws) in
        let f₁ = performs f ws in
        fin_step e x buf 0 w f true (busy x buf setup_stage) done_sample tail (after polled_only (enters_in X false s.wLength m buf)) bb done_typed (setup_done_lem true phase_in ck refl false (le-ltb (length buf) s.wLength room))
        (goes_wait e x buf 0 w f done_sample (in_stage i.stage) true nothing_armed ws m buf tail true (finds_is done_sample ∙ ap is_complete completing) tt
        (fin_stage e x buf 1 w₁ f₁ true (busy x buf (in_stage i.stage)) done_sample rest false (after (completes ∷ []) (enters_out X true 0 0 [] m buf)) bb done_typed
        (in_completes true x buf ck i.stage refl (start_in_fit X FixedSize false room))
        (goes_wait e x buf 1 w₁ f₁ done_sample (out_stage o.stage) true (outs_armed a 0 o.first o.second) vs o.memory buf rest true (finds_is done_sample ∙ ap is_complete completing) tt
        (out_start_lem e true x buf ck bb true 2 later serves
        (λ w f st q t h. fin_stage e x buf 2 w f true (busy x buf (out_stage st)) done_sample later true (out_done_as phase_in st true) bb done_typed
        (out_done_lem true phase_in st true ck q (serves st q) h) (goes_done e x buf 2 w f st.received false completed [] (seen_taken w t)))
        completed FixedSize 0 [] ks f₁ silent_completed refl (out_cut_lem FixedSize p true ck.low ck.high [] 0 (omega arith) (omega arith)) (cut_marked FixedSize p true [])
        (cut_some FixedSize p true [] ck.low) (omega arith))))))

    pub run_out : Checked (asks phase_out) buf → s.wLength ≤ length buf → Running (record { fields = asks phase_out; buffer = buf }) gs
    unfolding served start_in
    run_out ck room =
        let x = asks phase_out in
        let X = asked phase_out in
        let wl = s.wLength in
        let ks = out_cut FixedSize p true (take wl buf) in
        let o = start_out (target_of X) FixedSize false 0 wl buf m in
        let i = start_in (target_of X) FixedSize true 0 in
        let ws = polled_only ++ o.writes in
        let vs = completed ++ i.writes in
        let tail = step false done_sample buf m log ∷ later in
        let rest = out_run false buf (length ks) tail in
        let small = ck.kind.4 in
        let serves : (st : OutStage) → st.status ≡ false → served false (kind_of x) (out_stage st) ≡ true = λ st q. ap (λ (v : Bool). kind_has (kind_of x) false v) q in
        from_setup phase_out (step false done_sample buf m log ∷ rest) ck
        (λ e w f.
        fin_step e x buf 0 w f false (busy x buf setup_stage) done_sample rest (after polled_only (enters_out X false 0 wl buf m buf)) bb done_typed (setup_done_lem false phase_out ck refl false (le-ltb (length buf) wl room))
        (goes_wait e x buf 0 w f done_sample (out_stage o.stage) true (outs_armed a 0 o.first o.second) ws o.memory buf rest true (finds_is done_sample ∙ ap is_complete completing) tt
        (out_start_lem e false x buf ck bb false 1 tail serves
        (λ w f st q t h. fin_stage e x buf 1 w f false (busy x buf (out_stage st)) done_sample tail false (out_done_as phase_out st false) bb done_typed
        (out_done_lem false phase_out st false ck q (serves st q) h)
        (goes_wait e x buf 1 w f done_sample (in_stage i.stage) true nothing_armed vs m buf tail true (finds_is done_sample ∙ ap is_complete completing) (seen_taken w t)
        (in_last e false phase_out 2 (marks not_armed (events f vs)) (performs f vs) i.stage ck refl refl (start_in_fit X FixedSize true (omega arith)) tt)))
        polled_only FixedSize 0 buf ks f silent_polled refl (out_cut_lem FixedSize p true ck.low ck.high buf wl (omega arith) room) (cut_marked FixedSize p true (take wl buf))
        (cut_some FixedSize p true (take wl buf) ck.low) room)))
