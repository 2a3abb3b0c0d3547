-- A step keeps the invariant: it starts the first of the entries that are due. Assumes nothing.
use Rattle.std.specs.Prelude.{None, Ok, Option, Some}
use mathlib.Core.Path.{◌≡◌, refl, sym, ap, ◌∙◌, subst}
use mathlib.Core.Bool.{Bool, true, false, cond, ◌&&◌, true≢false}
use mathlib.Core.List.{List, [], ◌∷◌, ◌++◌, append-nil}
use Prim.Native.Nat.{ℕ, suc, ◌≤◌}
use native.Mathlib.Omega.{arith}
use lib.ListN.{length, take}
use lib.Dec.{eqb, ltb}
use lib.Bits.{bit_and}
use borrow.Author.Tests.{ltb-false}
use Rattle.cutting.specs.declared.transfer_type.TransferType.TheVariants.{FixedSize}
use Rattle.cutting.specs.declared.depacketiser.InDepacketiser.{InDepacketiser}
use Rattle.cutting.specs.Cut.{out_cut}
use Rattle.cutting.specs.Counters.{out_start}
use Rattle.cutting.specs.Left.{OutLeft, Ends}
use Rattle.cutting.proofs.Cutting.{out_cut_lem, out_ends}
use Rattle.transfers.specs.declared.host_controller.UsbError.{UsbError}
use Rattle.transfers.specs.declared.host_controller.UsbError.TheVariants.{BufferTooSmall, ProtocolError}
use Rattle.transfers.specs.declared.host_controller.DataPhase.TheVariants.{In as phase_in, Out as phase_out, None as phase_none}
use Rattle.transfers.specs.declared.wire.Direction.TheVariants.{In, Out}
use Rattle.transfers.specs.declared.refusal.Refusal.{Refusal}
use Rattle.transfers.specs.declared.refusal.Refusal.TheVariants.{Usb, LentMemory, State}
use Rattle.transfers.specs.declared.answers.Armed.{Armed as ArmedAnswer}
use Rattle.transfers.specs.declared.sample.Sample.{Sample}
use Rattle.transfers.specs.declared.sample.Found.{Found}
use Rattle.transfers.specs.declared.sample.Found.TheVariants.{Complete, Failed, Neither}
use Rattle.transfers.specs.declared.driver.Driver.{Driver}
use Rattle.transfers.specs.declared.driver.Run.{Run}
use Rattle.transfers.specs.declared.driver.Request.{Request}
use Rattle.transfers.specs.declared.driver.Stage.{Stage}
use Rattle.transfers.specs.declared.driver.Stage.TheVariants.{Setup as setup_stage, In as in_stage, Out as out_stage}
use Rattle.transfers.specs.declared.driver.InStage.{InStage}
use Rattle.transfers.specs.declared.driver.OutStage.{OutStage}
use Rattle.transfers.specs.Log.{Write}
use Rattle.transfers.specs.Memory.{lent_fits}
use Rattle.transfers.specs.Registers.{bit}
use Rattle.transfers.specs.Masks.{ready_mask}
use Rattle.transfers.specs.Sample.{Error, errors, first_of, classify}
use Rattle.transfers.specs.Writes.{enable_writes, polled, awaits, quiets, completes}
use Rattle.transfers.specs.Arming.{may_arm, in_arm_two, OutArmings, out_arm_two}
use Rattle.cutting.specs.declared.packetiser.OutCounters.{OutCounters}
use Rattle.transfers.specs.Answers.{nothing_armed, outs_armed}
use Rattle.transfers.specs.State.{endpoint_of, first_pid, target_of, stage_length}
use Rattle.transfers.specs.Retiring.{InRetiring, in_retire_one}
use Rattle.transfers.specs.Outcome.{Outcome, after, flipped, ended, failed as fails, waits, start_in, start_out, enters_in, enters_out}
use Rattle.transfers.specs.Step.{setup_done, setup_step, in_packets, in_received, in_done, in_second_done, in_first_done, in_complete, in_rearm, in_second_moved, in_first_moved, in_move, in_step, out_packets, out_retire_two, out_done, out_complete, out_move, out_step, lent, keeping, polls, acts}
use Rattle.transfers.specs.Calls.{refuses, step_if, may_step, step_lent, step_of}
use Rattle.transfers.proofs.OpenPipes.{lent_sizes}
use Rattle.record.specs.Grammar.{Entry}
use Rattle.record.specs.Wire.{File, performs, Event, events, wire}
use Rattle.record.specs.Calls.{Begin, control_begin, bulk_begin, step, steps}
use Rattle.record.specs.Told.{Live, no_transfer, live, Watch, not_armed, taken, seen, marks, finds}
use Rattle.record.specs.Shown.{ends, note_step}
use Rattle.record.specs.Premises.{sends_next, LentIts, LentIf, TakenIf, CallGood}
use Rattle.record.proofs.Chips.{is_complete, finds_is}
use Rattle.record.proofs.Logs.{Silent, silent_enable}
use Rattle.record.proofs.Stages.{between, in_two, out_two, arm_events}
use Rattle.record.proofs.Arming.{Packets, Over, none_armed, Two, two, two_alike}
use Rattle.record.proofs.Begins.{address_of, size_of, kind_of, request_of, Checked, Room}
use Rattle.record.proofs.Inv.{entries_of, due_after, InLegal, OutLegal, shown_file, Sending, StageInv, BusyInv, Inv, Kept, wire_none, same_due, over_seen, stage_kept, inv_kept}
use Rattle.record.proofs.Starting.{counters_back, moved_to, arming, start_out_lem, start_starts, start_in_lem}
use Rattle.transfers.specs.declared.answers.Step.TheVariants.{Done}
use Rattle.cutting.specs.declared.packetiser.Arm.{Arm}

-- ---- an error that a sample shows ends the transfer

abbrev pub Fatal : Found → Type 0
Fatal Complete = Unit {0}
Fatal (Failed e) = ends (Usb e) ≡ true
Fatal Neither = Unit {0}

abbrev pub FatalPoll : Option Found → Type 0
FatalPoll None = Unit {0}
FatalPoll (Some f) = Fatal f

abbrev AllFatal : List Error → Type 0
AllFatal [] = Unit {0}
AllFatal (e ∷ es) = (ends (Usb e.is) ≡ true) × AllFatal es

first_fatal : (w : ℕ) (es : List Error) → AllFatal es → Fatal (first_of w es)
first_fatal w [] h = tt
first_fatal w (e ∷ es) h = by (bit e.place w) (first_fatal w es h.1)
  where
    by : (v : Bool) → Fatal (first_of w es) → Fatal (cond v (Failed e.is) (first_of w es))
    by true k = h.0
    by false k = k

pub poll_fatal : (status intr : ℕ) → FatalPoll (classify status intr)
unfolding classify
poll_fatal status intr = by (eqb (bit_and intr ready_mask) 0) (bit 18 status)
  where
    by : (v c : Bool) → FatalPoll (cond v None (Some (cond c Complete (first_of status errors))))
    by true c = tt
    by false true = tt
    by false false = first_fatal status errors (refl, (refl, (refl, (refl, (refl, (refl, tt))))))

pub found_ends : (y : Sample) (e : UsbError) → classify y.status y.intr ≡ Some (Failed e) → ends (Usb e) ≡ true
found_ends y e q = subst FatalPoll q (poll_fatal y.status y.intr)

-- ---- the writes of a step before it starts anything

abbrev pub polled_only : List Write
polled_only = polled ∷ []

abbrev pub quietened : List Write
quietened = polled ∷ quiets

abbrev pub completed : List Write
completed = quietened ++ (completes ∷ [])

pub silent_polled : Silent polled_only
silent_polled = record { are = λ f. refl; addr = λ f. refl }

pub silent_quietened : Silent quietened
silent_quietened = record { are = λ f. refl; addr = λ f. refl }

pub silent_completed : Silent completed
silent_completed = record { are = λ f. refl; addr = λ f. refl }

pub silent_awaiting : Silent (polled ∷ awaits ∷ [])
silent_awaiting = record { are = λ f. refl; addr = λ f. refl }

-- What a step sends from is what its begin was lent.
lent_same : (x : Begin) (status : Bool) (n : ℕ) (buf now : List ℕ) → OutLegal x buf status n → LentIts (live x buf) now → lent status now ≡ lent status buf
lent_same x true n buf now g h = refl
lent_same (control_begin a z p s phase_in) false n buf now g h = absurd g
lent_same (control_begin a z p s phase_out) false n buf now g h = h
lent_same (control_begin a z p s phase_none) false n buf now g h = absurd g
lent_same (bulk_begin In a e p t b) false n buf now g h = absurd g
lent_same (bulk_begin Out a e p t b) false n buf now g h = h

-- It arms nothing, or was lent what its begin was lent: it arms the same.
lent_arms : (x : Begin) (status : Bool) (n : ℕ) (buf now : List ℕ) (w : ℕ) (c : OutCounters) (k : ℕ) (m : List ℕ) → OutLegal x buf status n
    → LentIf (arm_events (out_arm_two w c k (lent status now) m).first ++ arm_events (out_arm_two w c k (lent status now) m).second) (live x buf) now
    → out_arm_two w c k (lent status now) m ≡ out_arm_two w c k (lent status buf) m
lent_arms x status n buf now w c k m g = by (out_arm_two w c k (lent status now) m).first (out_arm_two w c k (lent status now) m).second refl refl
  where
    same : LentIts (live x buf) now → out_arm_two w c k (lent status now) m ≡ out_arm_two w c k (lent status buf) m
    same h = ap (λ (u : List ℕ). out_arm_two w c k u m) (lent_same x status n buf now g h)

    by : (a b : Option Arm) → (out_arm_two w c k (lent status now) m).first ≡ a → (out_arm_two w c k (lent status now) m).second ≡ b → LentIf (arm_events a ++ arm_events b) (live x buf) now
        → out_arm_two w c k (lent status now) m ≡ out_arm_two w c k (lent status buf) m
    by None None p q h = none_armed w c k (lent status now) (lent status buf) m p q
    by None (Some b) p q h = same h
    by (Some a) b p q h = same h

-- The next report of an OUT stage is told from the count.
sends_now : (x : Begin) (buf : List ℕ) (status : Bool) (n : ℕ) → OutLegal x buf status n → sends_next (live x buf) n ≡ true
sends_now (control_begin a z p s phase_in) buf true n g = ap (λ (k : ℕ). eqb k 2) g
sends_now (control_begin a z p s phase_in) buf false n g = absurd g
sends_now (control_begin a z p s phase_out) buf true n g = absurd g
sends_now (control_begin a z p s phase_out) buf false n g = ap (λ (k : ℕ). eqb k 1) g.0
sends_now (control_begin a z p s phase_none) buf status n g = absurd g
sends_now (bulk_begin In a e p t b) buf status n g = absurd g
sends_now (bulk_begin Out a e p t b) buf true n g = absurd g
sends_now (bulk_begin Out a e p t b) buf false n g = ap (λ (k : ℕ). eqb k 0) g

-- An OUT stage that is reported complete has no packet left.
none_due : (x : Begin) (buf : List ℕ) (n : ℕ) (w : Watch) (f : File) (st : OutStage) (rest : List Entry) (y : Sample) → OutLegal x buf st.status n
    → Sending x buf w f st rest → finds y ≡ true
    → TakenIf (finds y && sends_next (live x buf) n) (seen w y) → rest ≡ []
none_due x buf n w f st rest y g i e h =
    let s : seen w y ≡ taken = rw (sends_now x buf st.status n g, e) at h in
    let o : i.packets ≡ [] = subst (λ (v : Watch). Over v i.packets) s (over_seen w y i.packets i.over) in
    i.due ∙ ap (entries_of x) o

module _ (d : Driver) (b : Bool) (y : Sample) (now m log : List ℕ) (n : ℕ) (w : Watch) (f : File) where
  -- What is to be shown of an outcome of a step.
  abbrev Step : Begin → List ℕ → List Entry → Outcome → Type 0
  Step x buf rest o = Kept (live x buf) n w f rest (step b y now m log) (steps d b y now m log o)

  abbrev Fine : Begin → List ℕ → List Entry → Outcome → Type 0
  Fine x buf rest o = CallGood (note_step o.answer y now) (live x buf) n w (events f o.writes) → Step x buf rest o

  -- The buffer doesn't matter.
  keeps : (s : Bool) (x : Begin) (buf : List ℕ) (rest : List Entry) (o : Outcome) → Fine x buf rest (after quietened o)
      → Fine x buf rest (after polled_only (keeping s now (after quiets o)))
  keeps true x buf rest o h = h
  keeps false x buf rest o h = h

  -- ---- the four ways in which a step ends

  -- A refusal that ends the transfer.
  ok_failed : (x : Begin) (buf : List ℕ) (rest : List Entry) (ws : List Write) (e : UsbError) (bf : List ℕ) → ends (Usb e) ≡ true → Silent (ws ++ [])
      → Fine x buf rest (after ws (fails (request_of x buf) false e m bf))
  ok_failed x buf rest ws e bf k s h = record { rest' = []; inv = rw k refl; split = rw k (wire_none f (ws ++ []) m (s.are f)); room = λ q r. absurd (true≢false (rw k at q)) }

  -- The end with a count: nothing is due.
  ok_done : (x : Begin) (buf : List ℕ) (rest : List Entry) (ws : List Write) (k : ℕ) (t : Bool) (bf : List ℕ) → Silent (ws ++ []) → rest ≡ [] → Room x buf
      → Step x buf rest (after ws (ended (Ok (Done k)) t t m bf))
  ok_done x buf rest ws k t bf s e r = record {
    rest' = [];
    inv = refl;
    room = λ q v. r;
    split = append-nil rest ∙ e ∙ sym (append-nil (wire f (ws ++ []) m) ∙ wire_none f (ws ++ []) m (s.are f));
  }

  -- Waiting.
  ok_wait : (x : Begin) (buf : List ℕ) → Checked x buf
      → (rest rest' : List Entry) (st : Stage) (again : Bool) (am : ArmedAnswer) (ws : List Write) (m' bf : List ℕ) (c : Bool) → finds y ≡ c
      → StageInv x buf (cond c (suc n) n) (marks (cond c not_armed (seen w y)) (events f ws)) (performs f ws) st rest' → rest ++ [] ≡ wire f ws m' ++ rest'
      → Step x buf rest (waits (request_of x buf) st again am ws m' bf)
  ok_wait x buf ck rest rest' st again am ws m' bf c e i s = record {
    rest' = rest';
    split = s;
    room = λ q r. r;
    inv = subst (λ (v : Bool). BusyInv x buf (cond v (suc n) n) (marks (cond v not_armed (seen w y)) (events f ws)) (performs f ws) (record { request = request_of x buf; stage = st }) rest') (sym e)
        (record { same = refl; checked = ck; stage = i });
  }

  -- Waiting in the same stage, with nothing started.
  ok_same : (x : Begin) (buf : List ℕ) → Checked x buf → (rest : List Entry) (st : Stage) (again : Bool) (ws : List Write) → Silent ws → finds y ≡ false
      → StageInv x buf n w f st rest
      → Step x buf rest (waits (request_of x buf) st again nothing_armed ws m now)
  ok_same x buf ck rest st again ws s e i =
      ok_wait x buf ck rest rest st again nothing_armed ws m now false e
      (stage_kept x buf n w (marks (seen w y) (events f ws)) f (performs f ws) st rest (λ ks o. rw (s.are f) (over_seen w y ks o)) (s.addr f) i)
      (same_due f ws m rest (s.are f))

  -- ---- a stage is complete and the next one starts

  enters_in_lem : (x : Begin) (buf : List ℕ) → Checked x buf → (rest : List Entry) (ws : List Write) (status : Bool) (k : ℕ) (bf : List ℕ) → Silent ws → finds y ≡ true
      → InLegal x buf status (suc n) → rest ≡ due_after x status
      → Step x buf rest (after ws (enters_in (request_of x buf) status k m bf))
  unfolding start_in
  enters_in_lem x buf ck rest ws status k bf sp e g q =
      let X = request_of x buf in
      let s = start_in (target_of X) FixedSize status k in
      ok_wait x buf ck rest rest (in_stage s.stage) true nothing_armed (ws ++ s.writes) m bf true e (g, q)
      (same_due f (ws ++ s.writes) m rest (start_in_lem ws X FixedSize status k f sp))

  enters_out_lem : (x : Begin) (buf : List ℕ) → Checked x buf → (rest : List Entry) (ws : List Write) (status : Bool) (received k : ℕ) (sent bf : List ℕ) (ks : Packets)
      → Silent ws → finds y ≡ true
      → OutLegal x buf status (suc n)
      → out_arm_two 0 (out_start FixedSize (size_of x) (first_pid (kind_of x)) k) 0 sent m ≡ out_arm_two 0 (out_start FixedSize (size_of x) (first_pid (kind_of x)) k) 0 (lent status buf) m
      → length m ≡ 4096 → OutLeft (lent status buf) (out_start FixedSize (size_of x) (first_pid (kind_of x)) k) ks
      → Ends ks → rest ≡ entries_of x ks
      → Step x buf rest (after ws (enters_out (request_of x buf) status received k sent m bf))
  unfolding start_out
  enters_out_lem x buf ck rest ws status received k sent bf ks sp e g same full l en q =
      let X = request_of x buf in
      let s = start_out (target_of X) FixedSize status received k sent m in
      let a = start_out_lem ws x buf FixedSize status received k sent m f ks sp ck same full l en in
      ok_wait x buf ck rest (entries_of x a.rest) (out_stage s.stage) true (outs_armed (address_of x) (endpoint_of (kind_of x)) s.first s.second) (ws ++ s.writes) s.memory bf true e
      (g, a.sending) (append-nil rest ∙ q ∙ a.split)

  -- ---- SETUP is done

  setup_done_lem : (x : Begin) (buf : List ℕ) → Checked x buf → (rest : List Entry) → finds y ≡ true → length m ≡ 4096 → StageInv x buf n w f setup_stage rest
      → Fine x buf rest (after polled_only (setup_step Complete (request_of x buf) now m))
  unfolding setup_step
  setup_done_lem (control_begin a z p s phase_in) buf ck rest e full i = by (ltb (length buf) s.wLength)
    where
      by : (v : Bool) → Fine (control_begin a z p s phase_in) buf rest (after polled_only (setup_done phase_in v (request_of (control_begin a z p s phase_in) buf) s.wLength now m))
      by true = ok_failed (control_begin a z p s phase_in) buf rest polled_only BufferTooSmall now refl silent_polled
      by false = λ h. enters_in_lem (control_begin a z p s phase_in) buf ck rest polled_only false s.wLength now silent_polled e (ap suc i.1) i.2
  setup_done_lem (control_begin a z p s phase_out) buf ck rest e full i = by (ltb (length buf) s.wLength) refl
    where
      by : (v : Bool) → ltb (length buf) s.wLength ≡ v
          → Fine (control_begin a z p s phase_out) buf rest (after polled_only (setup_done phase_out v (request_of (control_begin a z p s phase_out) buf) s.wLength now m))
      by true q = ok_failed (control_begin a z p s phase_out) buf rest polled_only BufferTooSmall now refl silent_polled
      by false q = λ h.
          let room : s.wLength ≤ length buf = ltb-false (length buf) s.wLength q in
          let small = ck.kind.4 in
          let x = control_begin a z p s phase_out in
          let g : OutLegal x buf false (suc n) = (ap suc i.1, room) in
          let ev = start_starts polled_only (request_of x buf) FixedSize false 0 s.wLength now m f silent_polled in
          enters_out_lem x buf ck rest polled_only false 0 s.wLength now now (out_cut FixedSize p true (take s.wLength buf)) silent_polled e g
          (lent_arms x false (suc n) buf now 0 (out_start FixedSize p true s.wLength) 0 m g (subst (λ (es : List Event). LentIf es (live x buf) now) ev h.0)) full
          (out_cut_lem FixedSize p true ck.low ck.high buf s.wLength (omega arith) room) (out_ends FixedSize p true (take s.wLength buf)) i.2
  setup_done_lem (control_begin a z p s phase_none) buf ck rest e full i = λ h. enters_in_lem (control_begin a z p s phase_none) buf ck rest polled_only true 0 now silent_polled e tt i.2
  setup_done_lem (bulk_begin dir a ep p t c) buf ck rest e full i = absurd i.0

  -- ---- an IN stage

  in_done_lem : (x : Begin) (buf : List ℕ) → Checked x buf → (rest : List Entry) (status : Bool) (dp : InDepacketiser) (bf : List ℕ) → finds y ≡ true → length m ≡ 4096
      → InLegal x buf status n → rest ≡ due_after x status
      → Step x buf rest (after completed (in_done (kind_of x) status (request_of x buf) dp m bf))
  in_done_lem (control_begin a z p s phase_in) buf ck rest false dp bf e full g q =
      enters_out_lem (control_begin a z p s phase_in) buf ck rest completed true dp.offset 0 [] bf (out_cut FixedSize p true []) silent_completed e (ap suc g) refl full
      (out_cut_lem FixedSize p true ck.low ck.high [] 0 (omega arith) (omega arith)) (out_ends FixedSize p true []) q
  in_done_lem (control_begin a z p s phase_in) buf ck rest true dp bf e full g q = absurd g
  in_done_lem (control_begin a z p s phase_out) buf ck rest false dp bf e full g q = absurd g
  in_done_lem (control_begin a z p s phase_out) buf ck rest true dp bf e full g q = ok_done (control_begin a z p s phase_out) buf rest completed (length buf) false bf silent_completed q g
  in_done_lem (control_begin a z p s phase_none) buf ck rest false dp bf e full g q = absurd g
  in_done_lem (control_begin a z p s phase_none) buf ck rest true dp bf e full g q = ok_done (control_begin a z p s phase_none) buf rest completed 0 false bf silent_completed q tt
  in_done_lem (bulk_begin In a ep p t c) buf ck rest status dp bf e full g q = ok_done (bulk_begin In a ep p t c) buf rest completed dp.offset (flipped c dp.parity) bf silent_completed q tt
  in_done_lem (bulk_begin Out a ep p t c) buf ck rest status dp bf e full g q = absurd g

  module _ (x : Begin) (buf : List ℕ) (ck : Checked x buf) (rest : List Entry) where
    abbrev X : Request
    X = request_of x buf

    in_complete_lem : (st : InStage) (wd : ℕ) (bf : List ℕ) → finds y ≡ true → length m ≡ 4096 → StageInv x buf n w f (in_stage st) rest
        → Fine x buf rest (after quietened (in_complete X st wd bf m))
    unfolding in_complete
    in_complete_lem st wd bf e full i = let g = in_retire_one wd (in_received st) st.inflight bf m in first g.long g
      where
        second : (v : Bool) (h : InRetiring) → Fine x buf rest (after completed (in_second_done v h X st.status m))
        second true h = ok_failed x buf rest completed ProtocolError h.buffer refl silent_completed
        second false h = λ k. in_done_lem x buf ck rest st.status h.packets h.buffer e full i.0 i.1

        first : (v : Bool) (g : InRetiring) → Fine x buf rest (after quietened (in_first_done v g wd X st.status m))
        first true g = ok_failed x buf rest quietened ProtocolError g.buffer refl silent_quietened
        first false g = let h = in_retire_one wd g.packets g.inflight g.buffer m in second h.long h

    in_rearm_lem : (st : InStage) (dp : InDepacketiser) (k wd : ℕ) (bf : List ℕ) → finds y ≡ false → StageInv x buf n w f (in_stage st) rest
        → Step x buf rest (after quietened (in_rearm X st dp k wd m bf))
    unfolding in_rearm
    in_rearm_lem st dp k wd bf e i =
        let g = in_arm_two wd (in_packets X st) k in
        let last = enable_writes (size_of x) (stage_length X st.status) in
        let s = between quietened g.writes last [] silent_quietened (in_two wd (in_packets X st) k) (silent_enable (size_of x) (stage_length X st.status)) in
        let st' : InStage = record { status = st.status; slot = g.packets.slot; toarm = g.packets.remain; zlp = g.packets.zlp; retire = dp.parity; remain = dp.remain; offset = dp.offset; inflight = g.inflight } in
        ok_wait x buf ck rest rest (in_stage st') true nothing_armed (quietened ++ (g.writes ++ last)) m bf false e i (same_due f (quietened ++ (g.writes ++ last)) m rest (s.are f))

    in_move_lem : (st : InStage) (wd : ℕ) (bf : List ℕ) → finds y ≡ false → StageInv x buf n w f (in_stage st) rest → Fine x buf rest (after quietened (in_move X st wd bf m))
    unfolding in_move
    in_move_lem st wd bf e i = let g = in_retire_one wd (in_received st) st.inflight bf m in first g.long g
      where
        second : (v : Bool) (h : InRetiring) → Fine x buf rest (after quietened (in_second_moved v h wd X st m))
        second true h = ok_failed x buf rest quietened ProtocolError h.buffer refl silent_quietened
        second false h = λ k. in_rearm_lem st h.packets h.inflight wd h.buffer e i

        first : (v : Bool) (g : InRetiring) → Fine x buf rest (after quietened (in_first_moved v g wd X st m))
        first true g = ok_failed x buf rest quietened ProtocolError g.buffer refl silent_quietened
        first false g = let h = in_retire_one wd g.packets g.inflight g.buffer m in second h.long h

  -- ---- an OUT stage

  out_done_lem : (x : Begin) (buf : List ℕ) → Checked x buf → (rest : List Entry) (st : OutStage) (parity : Bool) (bf : List ℕ) → finds y ≡ true
      → OutLegal x buf st.status n
      → (TakenIf (finds y && sends_next (live x buf) n) (seen w y) → rest ≡ []) → Fine x buf rest (after completed (out_done (kind_of x) (request_of x buf) st parity m bf))
  out_done_lem x buf ck rest st parity bf e g q = by x st.status ck g q
    where
      at : Bool → OutStage
      at v = record { status = v; slot = st.slot; remain = st.remain; offset = st.offset; zlp = st.zlp; retire = st.retire; inflight = st.inflight; received = st.received }

      by : (x : Begin) (v : Bool) → Checked x buf → OutLegal x buf v n → (TakenIf (finds y && sends_next (live x buf) n) (seen w y) → rest ≡ [])
          → Fine x buf rest (after completed (out_done (kind_of x) (request_of x buf) (at v) parity m bf))
      by (control_begin a z p s phase_in) true ck g q = λ h. ok_done (control_begin a z p s phase_in) buf rest completed st.received false bf silent_completed (q h.1) tt
      by (control_begin a z p s phase_in) false ck g q = absurd g
      by (control_begin a z p s phase_out) true ck g q = absurd g
      by (control_begin a z p s phase_out) false ck g q = λ h. enters_in_lem (control_begin a z p s phase_out) buf ck rest completed true 0 bf silent_completed e g.1 (q h.1)
      by (control_begin a z p s phase_none) v ck g q = absurd g
      by (bulk_begin In a ep p t c) v ck g q = absurd g
      by (bulk_begin Out a ep p t c) v ck g q = λ h. ok_done (bulk_begin Out a ep p t c) buf rest completed (length buf) (flipped c parity) bf silent_completed (q h.1) tt

  module _ (x : Begin) (buf : List ℕ) (ck : Checked x buf) (rest : List Entry) where
    out_complete_lem : (st : OutStage) (wd : ℕ) (bf : List ℕ) → finds y ≡ true → StageInv x buf n w f (out_stage st) rest
        → Fine x buf rest (after quietened (out_complete (request_of x buf) st wd m bf))
    unfolding out_complete
    out_complete_lem st wd bf e i =
        out_done_lem x buf ck rest st (out_retire_two wd st.retire st.inflight).parity bf e i.0 (none_due x buf n w f st rest y i.0 i.1 e)

    out_move_lem : (st : OutStage) → finds y ≡ false → length m ≡ 4096 → StageInv x buf n w f (out_stage st) rest
        → Fine x buf rest (after quietened (out_move (request_of x buf) st y.buffers (lent st.status now) m))
    unfolding out_move
    out_move_lem st e full i h =
        let X = request_of x buf in
        let o = i.1 in
        let wd = y.buffers in
        let r = out_retire_two wd st.retire st.inflight in
        let c = out_packets X st in
        let g = out_arm_two wd c r.inflight (lent st.status now) m in
        let can = may_arm wd r.inflight st.slot in
        let last = enable_writes (size_of x) (stage_length X st.status) in
        let ws = quietened ++ (g.writes ++ last) in
        let s = between quietened g.writes last (arm_events g.first ++ arm_events g.second) silent_quietened (out_two wd c r.inflight (lent st.status now) m)
        (silent_enable (size_of x) (stage_length X st.status)) in
        let t : Two (lent st.status buf) can o.packets g =
        subst (λ (u : OutArmings). Two (lent st.status buf) can o.packets u)
        (sym (lent_arms x st.status n buf now wd c r.inflight m i.0 (subst (λ (es : List Event). LentIf es (live x buf) now) (s.are f) h.0)))
        (two (lent st.status buf) wd c o.packets r.inflight m full o.left) in
        let st' = moved_to st g r.parity in
        let k = two_alike wd c r.inflight (lent st.status now) m in
        let a = arming x buf (seen w y) f can o.packets g ws st' t (s.are f) (shown_file f (performs f ws) (address_of x) (endpoint_of (kind_of x)) (s.addr f) o.shown) o.ends
        (over_seen w y o.packets o.over) (counters_back (first_pid (kind_of x)) (size_of x) g.packets k.pid k.size) in
        ok_wait x buf ck rest (entries_of x a.rest) (out_stage st') true (outs_armed (address_of x) (endpoint_of (kind_of x)) g.first g.second) ws g.memory (lent st.status now) false e
        (i.0, a.sending) (append-nil rest ∙ o.due ∙ a.split)

    -- ---- the step

    step_polls : (st : Stage) (p : Option Found) → classify y.status y.intr ≡ p → length m ≡ 4096 → StageInv x buf n w f st rest
        → Fine x buf rest (polls p (request_of x buf) st y.buffers now m)
    unfolding setup_step in_step out_step
    step_polls st None e full i h = ok_same x buf ck rest st false (polled ∷ awaits ∷ []) silent_awaiting (finds_is y ∙ ap is_complete e) i
    step_polls setup_stage (Some Complete) e full i h = setup_done_lem x buf ck rest (finds_is y ∙ ap is_complete e) full i h
    step_polls setup_stage (Some (Failed u)) e full i h = ok_failed x buf rest polled_only u now (found_ends y u e) silent_polled h
    step_polls setup_stage (Some Neither) e full i h = ok_same x buf ck rest setup_stage true polled_only silent_polled (finds_is y ∙ ap is_complete e) i
    step_polls (in_stage st) (Some Complete) e full i h =
        keeps st.status x buf rest (in_complete (request_of x buf) st y.buffers (lent st.status now) m) (in_complete_lem x buf ck rest st y.buffers (lent st.status now) (finds_is y ∙ ap is_complete e) full i) h
    step_polls (in_stage st) (Some (Failed u)) e full i h =
        keeps st.status x buf rest (fails (request_of x buf) st.retire u m (lent st.status now)) (ok_failed x buf rest quietened u (lent st.status now) (found_ends y u e) silent_quietened) h
    step_polls (in_stage st) (Some Neither) e full i h =
        keeps st.status x buf rest (in_move (request_of x buf) st y.buffers (lent st.status now) m) (in_move_lem x buf ck rest st y.buffers (lent st.status now) (finds_is y ∙ ap is_complete e) i) h
    step_polls (out_stage st) (Some Complete) e full i h =
        keeps st.status x buf rest (out_complete (request_of x buf) st y.buffers m (lent st.status now)) (out_complete_lem st y.buffers (lent st.status now) (finds_is y ∙ ap is_complete e) i) h
    step_polls (out_stage st) (Some (Failed u)) e full i h =
        keeps st.status x buf rest (fails (request_of x buf) st.retire u m (lent st.status now)) (ok_failed x buf rest quietened u (lent st.status now) (found_ends y u e) silent_quietened) h
    step_polls (out_stage st) (Some Neither) e full i h =
        keeps st.status x buf rest (out_move (request_of x buf) st y.buffers (lent st.status now) m) (out_move_lem st (finds_is y ∙ ap is_complete e) full i) h

-- ---- the checks before it

step_refused : (d : Driver) (b : Bool) (y : Sample) (now m log : List ℕ) (l : Live) (n : ℕ) (w : Watch) (f : File) (t : Option Run) (rest : List Entry) (why : Refusal)
    → ends why ≡ false
    → Inv l n w f t rest → Kept l n w f rest (step b y now m log) (steps d b y now m log (refuses t why m now))
step_refused d b y now m log l n w f t rest why e i =
    record { rest' = rest; inv = rw e (inv_kept l n w (seen w y) f f t rest (over_seen w y) refl i); split = rw e (same_due f [] m rest refl); room = λ q r. rw e at r }

step_acts : (d : Driver) (b : Bool) (y : Sample) (now m log : List ℕ) (x : Begin) (buf : List ℕ) (n : ℕ) (w : Watch) (f : File) (r : Run) (rest : List Entry)
    → length m ≡ 4096 → BusyInv x buf n w f r rest
    → Fine d b y now m log n w f x buf rest (acts r.request r.stage y now m)
unfolding acts
step_acts d b y now m log x buf n w f r rest full i =
    subst (λ (q : Request). Fine d b y now m log n w f x buf rest (polls (classify y.status y.intr) q r.stage y.buffers now m)) (sym i.same)
    (step_polls d b y now m log n w f x buf i.checked rest r.stage (classify y.status y.intr) refl full i.stage)

step_lent_lem : (d : Driver) (b : Bool) (y : Sample) (now m log : List ℕ) (l : Live) (n : ℕ) (w : Watch) (f : File) (t : Option Run) (rest : List Entry) (p : Bool)
    → lent_fits m log ≡ p → Inv l n w f t rest
    → CallGood (note_step (step_lent p b t y now m).answer y now) l n w (events f (step_lent p b t y now m).writes) → Kept l n w f rest (step b y now m log) (steps d b y now m log (step_lent p b t y now m))
step_lent_lem d b y now m log l n w f t rest false e i h = step_refused d b y now m log l n w f t rest LentMemory refl i
step_lent_lem d b y now m log l n w f None rest true e i h = step_refused d b y now m log l n w f None rest State refl i
step_lent_lem d b y now m log no_transfer n w f (Some r) rest true e i h = absurd i
step_lent_lem d b y now m log (live x buf) n w f (Some r) rest true e i h = by (may_step b r) (eqb (length now) r.request.length) h
  where
    by : (p q : Bool) → Fine d b y now m log n w f x buf rest (step_if p q r y now m)
    by false q k = step_refused d b y now m log (live x buf) n w f (Some r) rest State refl i
    by true false k = step_refused d b y now m log (live x buf) n w f (Some r) rest LentMemory refl i
    by true true k = step_acts d b y now m log x buf n w f r rest (lent_sizes m log e).0 i k

pub step_kept : (d : Driver) (b : Bool) (y : Sample) (now m log : List ℕ) (l : Live) (n : ℕ) (w : Watch) (f : File) (t : Option Run) (rest : List Entry)
    → Inv l n w f t rest
    → CallGood (note_step (step_of b t y now m log).answer y now) l n w (events f (step_of b t y now m log).writes) → Kept l n w f rest (step b y now m log) (steps d b y now m log (step_of b t y now m log))
unfolding step_of
step_kept d b y now m log l n w f t rest i h = step_lent_lem d b y now m log l n w f t rest (lent_fits m log) refl i h
