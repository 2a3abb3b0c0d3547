-- The same of a control In, through its three stages. Assumes nothing.
use Rattle.std.specs.Prelude.{None, Ok, Option, Result, Some}
use mathlib.Core.Path.{◌≡◌, refl, sym, ap, ap₂, ◌∙◌, subst}
use mathlib.Core.Bool.{Bool, true, false, not, ◌&&◌}
use mathlib.Core.List.{List, [], ◌∷◌, ◌++◌, map, append_assoc, append-nil}
use Prim.Native.Nat.{ℕ, ◌≤◌, min}
use native.Mathlib.Omega.{arith}
use lib.Dec.{ltb}
use lib.ListN.{length, take, length-append}
use lib.Seq.{take_at}
use borrow.Author.Tests.{ltb-false}
use Rattle.pool.proofs.Cases.{by_cases}
use Rattle.cutting.specs.declared.transfer_type.TransferType.TheVariants.{FixedSize}
use Rattle.cutting.specs.Retire.{sum}
use Rattle.cutting.specs.Cut.{Packet, packet, in_cut_of}
use Rattle.transfers.specs.declared.host_controller.UsbError.{UsbError}
use Rattle.transfers.specs.declared.host_controller.TransferExtras.{TransferExtras}
use Rattle.transfers.specs.declared.host_controller.DataPhase.TheVariants.{In as phase_in}
use Rattle.transfers.specs.declared.wire.SetupPacket.{SetupPacket}
use Rattle.transfers.specs.declared.wire.Direction.TheVariants.{Out}
use Rattle.transfers.specs.declared.sample.Found.{Found}
use Rattle.transfers.specs.declared.sample.Found.TheVariants.{Complete, Failed, Neither}
use Rattle.transfers.specs.declared.driver.Run.{Run}
use Rattle.transfers.specs.declared.driver.Request.{Request}
use Rattle.transfers.specs.declared.driver.Kind.TheVariants.{Control as control}
use Rattle.transfers.specs.declared.driver.Stage.{Stage}
use Rattle.transfers.specs.declared.driver.Stage.TheVariants.{Setup as setup_stage, In as in_stage, Out as out_stage}
use Rattle.transfers.specs.declared.driver.InStage.{InStage}
use Rattle.transfers.specs.declared.driver.OutStage.{OutStage}
use Rattle.transfers.specs.Log.{Write}
use Rattle.transfers.specs.Memory.{lent_fits}
use Rattle.transfers.specs.Sample.{classify}
use Rattle.transfers.specs.Writes.{enable_writes, polled, quiets, completes}
use Rattle.transfers.specs.Arming.{out_arm_two}
use Rattle.transfers.specs.State.{stage_length, target_of, address_good, size_good}
use Rattle.transfers.specs.Outcome.{Outcome, after, start_in, start_out}
use Rattle.transfers.specs.Step.{in_received, setup_done, setup_step, out_packets, out_retire_two, out_control_done, out_complete, out_move, out_step, lent, keeping, stage_step, polls}
use Rattle.transfers.specs.Calls.{well_formed, is_idle, fields_refusal, begin_refusal, Beginning, begins_control, begin_control_of}
use Rattle.transfers.proofs.OpenPipes.{between}
use Rattle.transfers.proofs.Beginnings.{none_fields}
use Rattle.transfers.proofs.WellFormed.{step_well, begin_control_well}
use Rattle.rules.specs.Received.{quiet, complete, StepCall, lent_well, Tally, retire_one, tally_by, tally_step, tally_start, ControlTally, in_setup, in_data, in_status, control_by, control_tally, retired_in, control_received, Running, step_in, after_step, after_steps, Moved}
use Rattle.rules.specs.Fields.{word_after}
use Rattle.rules.specs.Armed.{ArmedSlot, armings, shown, writes_of, control_armed}
use Rattle.cutting.proofs.Rules.{map_append}
use Rattle.rules.proofs.Armed.{armings_append, arms_shown, enable_silent, polled_silent, quiets_silent, completes_silent, pending_silent, setup_silent, none_armed, start_armings}
use Rattle.rules.proofs.Retired.{no, retire_armed, kept_length}
use Rattle.rules.proofs.Spent.{out_two_spent, status_start}
use Rattle.rules.proofs.InStage.{ending, not_done, waiting_not, refused_not, fills_may, step_polls, refused_lent, by_poll, Stands, Comes, fails, goes, finishes, comes, starts_armed, starts, start_events}
use Rattle.cutting.specs.declared.packetiser.Arm.{Arm}
use Rattle.cutting.specs.declared.packetiser.OutCounters.{OutCounters}
use Rattle.cutting.specs.Counters.{out_start}
use Rattle.rules.proofs.Steps.{absurd_done, done_is, control_tally_end, control_tally_more, control_tally_none, after_more, writes_more, writes_none, after_none, idle_next, idle_not, kept_moved, accepted, none_idle}
use Rattle.transfers.specs.declared.answers.Step.TheVariants.{Done}
use Rattle.transfers.specs.declared.refusal.Refusal.{Refusal}

module _ (a p n : ℕ) (first : List ℕ) (few : n ≤ 0xFFFF) (low : 1 ≤ p) (high : p ≤ 64) where
  abbrev control_x : Request
  control_x = record { address = a; size = p; kind = control (record { phase = phase_in; wLength = n }); length = length first }

  abbrev slots : ℕ
  slots = length (in_cut_of FixedSize p true n)

  abbrev busy : Stage → Option Run
  busy st = Some (record { request = control_x; stage = st })

  -- ---- SETUP

  abbrev begins : InStage
  begins = (start_in (target_of control_x) FixedSize false n).stage

  data SetupComes (buf : List ℕ) (o : Outcome) : Bool → Type 0 where
    setup_fails : {b : Bool} → o.next ≡ None → not_done o.answer → SetupComes buf o b
    setup_stays : o.next ≡ busy setup_stage → o.buffer ≡ buf → not_done o.answer → ((old : ℕ) → armings old o.writes ≡ []) → SetupComes buf o false
    setup_ends : n ≤ length first → o.next ≡ busy (in_stage begins) → o.buffer ≡ buf → not_done o.answer
        → ((old : ℕ) → armings old o.writes ≡ armings old (start_in (target_of control_x) FixedSize false n).writes) → SetupComes buf o true

  setup_completes : (w : ℕ) (buf m : List ℕ) → SetupComes buf (after (polled ∷ []) (stage_step Complete control_x setup_stage w buf m)) true
  unfolding setup_step
  setup_completes w buf m = by (ltb (length first) n) refl
    where
      by : (b : Bool) → ltb (length first) n ≡ b → SetupComes buf (after (polled ∷ []) (setup_done phase_in b control_x n buf m)) true
      by true e = setup_fails refl (refused_not _)
      by false e = setup_ends (ltb-false (length first) n e) refl refl (waiting_not true) (λ old. polled_silent old (start_in (target_of control_x) FixedSize false n).writes)

  setup_neither : (w : ℕ) (buf m : List ℕ) → SetupComes buf (after (polled ∷ []) (stage_step Neither control_x setup_stage w buf m)) false
  unfolding setup_step
  setup_neither w buf m = setup_stays refl refl (waiting_not true) (λ old. polled_silent old [] ∙ none_armed old)

  setup_failed : (e : UsbError) (w : ℕ) (buf m : List ℕ) → SetupComes buf (after (polled ∷ []) (stage_step (Failed e) control_x setup_stage w buf m)) false
  unfolding setup_step
  setup_failed e w buf m = setup_fails refl (refused_not _)

  setup_comes : (y : StepCall) (buf : List ℕ) → well_formed (busy setup_stage) ≡ true → length buf ≡ length first → SetupComes buf (step_in (record { transfer = busy setup_stage; buffer = buf }) y) (ending y)
  setup_comes y buf g e =
      let r : Run = record { request = control_x; stage = setup_stage } in
      let w = y.sample.buffers in
      let m = y.memory in
      by_cases (lent_well y)
      (λ (l : lent_well y ≡ true).
      let o = step_polls r y buf (fills_may r refl g) e l in
      subst (λ (u : Outcome). SetupComes buf u (ending y)) (sym o)
      (subst (λ (v : Bool). SetupComes buf (polls (classify y.sample.status y.sample.intr) control_x setup_stage w buf m) (v && (not (quiet y.sample) && complete y.sample))) (sym l)
      (by_poll y.sample (λ (u : Option Found) (q c : Bool). SetupComes buf (polls u control_x setup_stage w buf m) (not q && c))
      (λ c. setup_stays refl refl (waiting_not false) pending_silent) (setup_completes w buf m) (λ x. setup_failed x w buf m) (setup_neither w buf m))))
      (λ (l : lent_well y ≡ false).
      let z = refused_lent (busy setup_stage) y buf l in
      subst (λ (v : Bool). SetupComes buf (step_in (record { transfer = busy setup_stage; buffer = buf }) y) (v && (not (quiet y.sample) && complete y.sample))) (sym l) (setup_stays z.0 z.1 z.2 (λ old. ap (armings old) z.3 ∙ none_armed old)))

  -- ---- status

  -- Nothing is left to send.
  record Spent (st : OutStage) : Type 0 where
    status : st.status ≡ true
    remain : st.remain ≡ 0
    zlp : st.zlp ≡ false

  data StatusComes (st : OutStage) (buf : List ℕ) (o : Outcome) : Type 0 where
    status_fails : o.next ≡ None → not_done o.answer → StatusComes st buf o
    status_stays : (st' : OutStage) → o.next ≡ busy (out_stage st') → Spent st' → st'.received ≡ st.received → o.buffer ≡ buf → not_done o.answer → ((old : ℕ) → armings old o.writes ≡ []) → StatusComes st buf o
    status_ends : o.next ≡ None → o.answer ≡ Ok (Done st.received) → o.buffer ≡ buf → ((old : ℕ) → armings old o.writes ≡ []) → StatusComes st buf o

  module _ (st : OutStage) (buf : List ℕ) (spent : Spent st) (w : ℕ) (m : List ℕ) where
    status_of : (f : Found) → StatusComes st buf (after (polled ∷ []) (keeping true buf (out_step f control_x st w [] m))) → StatusComes st buf (after (polled ∷ []) (stage_step f control_x (out_stage st) w buf m))
    status_of f k = subst (λ (b : Bool). StatusComes st buf (after (polled ∷ []) (keeping b buf (out_step f control_x st w (lent b buf) m)))) (sym spent.status) k

    status_completes : StatusComes st buf (after (polled ∷ []) (keeping true buf (out_step Complete control_x st w [] m)))
    unfolding out_step out_complete
    status_completes =
        let f : Bool → Outcome = λ (b : Bool). out_control_done b control_x st.received m [] in
        status_ends (ap (λ (b : Bool). (f b).next) spent.status) (ap (λ (b : Bool). (f b).answer) spent.status) refl
        (λ old. polled_silent old (quiets ++ ((completes ∷ []) ++ (f st.status).writes)) ∙ quiets_silent old ((completes ∷ []) ++ (f st.status).writes) ∙ completes_silent old (f st.status).writes
        ∙ ap (λ (b : Bool). armings old (f b).writes) spent.status ∙ none_armed old)

    status_fails_lem : (e : UsbError) → StatusComes st buf (after (polled ∷ []) (keeping true buf (out_step (Failed e) control_x st w [] m)))
    unfolding out_step
    status_fails_lem e = status_fails refl (refused_not _)

    status_neither : StatusComes st buf (after (polled ∷ []) (keeping true buf (out_step Neither control_x st w [] m)))
    unfolding out_step out_move
    status_neither =
        let r = out_retire_two w st.retire st.inflight in
        let c = out_packets control_x st in
        let g = out_arm_two w c r.inflight [] m in
        let two = out_two_spent w c r.inflight [] m spent.remain spent.zlp in
        let en = enable_writes p (stage_length control_x st.status) in
        status_stays (record { status = st.status; slot = g.packets.slot; remain = g.packets.remain; offset = g.packets.offset; zlp = g.packets.zlp; retire = r.parity; inflight = g.inflight; received = st.received })
        refl (record { status = spent.status; remain = ap (λ (d : OutCounters). d.remain) two.0 ∙ spent.remain; zlp = ap (λ (d : OutCounters). d.zlp) two.0 ∙ spent.zlp }) refl refl (waiting_not true)
        (λ old. polled_silent old (quiets ++ (g.writes ++ en)) ∙ quiets_silent old (g.writes ++ en) ∙ ap (λ (l : List Write). armings old (l ++ en)) two.1 ∙ enable_silent p (stage_length control_x st.status) old)

  status_comes : (y : StepCall) (st : OutStage) (buf : List ℕ) → well_formed (busy (out_stage st)) ≡ true → Spent st → length buf ≡ length first
      → StatusComes st buf (step_in (record { transfer = busy (out_stage st); buffer = buf }) y)
  status_comes y st buf g s e =
      let r : Run = record { request = control_x; stage = out_stage st } in
      let w = y.sample.buffers in
      let m = y.memory in
      by_cases (lent_well y)
      (λ (l : lent_well y ≡ true).
      let o = step_polls r y buf (fills_may r refl g) e l in
      subst (StatusComes st buf) (sym o)
      (by_poll y.sample (λ (u : Option Found) (q c : Bool). StatusComes st buf (polls u control_x (out_stage st) w buf m))
      (λ c. status_stays st refl s refl refl (waiting_not false) pending_silent)
      (status_of st buf s w m Complete (status_completes st buf s w m))
      (λ x. status_of st buf s w m (Failed x) (status_fails_lem st buf s w m x))
      (status_of st buf s w m Neither (status_neither st buf s w m))))
      (λ (l : lent_well y ≡ false).
      let z = refused_lent (busy (out_stage st)) y buf l in
      status_stays st z.0 s refl z.1 z.2 (λ old. ap (armings old) z.3 ∙ none_armed old))

  -- ---- the status stage at its start

  abbrev status_armed : List ArmedSlot
  status_armed = shown true (packet false true true 0) ∷ []

  out_status : (r : ℕ) (m : List ℕ) → let g = start_out (target_of control_x) FixedSize true r 0 [] m in
      Spent g.stage × (g.stage.received ≡ r) × ((old : ℕ) → armings old g.writes ≡ status_armed)
  unfolding start_out
  out_status r m =
      let e = status_start p true m low high in
      let c : Arm = record { slot = false; pid = true; last = true; length = 0 } in (
        record { status = refl; remain = ap (λ (d : OutCounters). d.remain) e.0; zlp = ap (λ (d : OutCounters). d.zlp) e.0 },
        refl,
        λ old. start_armings (target_of control_x) 0 Out (out_arm_two 0 (out_start FixedSize p true 0) 0 [] m).writes old status_armed (λ v. ap (armings v) e.1 ∙ arms_shown true c v (omega arith)),
      )

  -- ---- where the transfer is

  abbrev cut_slots : List (Packet ℕ)
  cut_slots = in_cut_of FixedSize p true n

  -- `ws`: the writes so far.
  data ControlAt (h : Running) (ws : List Write) : ControlTally → Type 0 where
    gone : {f : ControlTally} → h.transfer ≡ None → ControlAt h ws f
    at_setup : h.transfer ≡ busy setup_stage → well_formed h.transfer ≡ true → h.buffer ≡ first → ((old : ℕ) → armings old ws ≡ []) → ControlAt h ws in_setup
    at_data : {s : Tally} (st : InStage) (past ls : List (Packet ℕ)) (room : n ≤ length first) → h.transfer ≡ busy (in_stage st) → well_formed h.transfer ≡ true
        → Stands control_x slots n first few room st h.buffer s ls → cut_slots ≡ past ++ ls → ((old : ℕ) → armings old ws ≡ map (shown false) past) → ControlAt h ws (in_data s)
    at_status : {s : Tally} (st : OutStage) → h.transfer ≡ busy (out_stage st) → well_formed h.transfer ≡ true → Spent st
        → Moved n first s.retired st.received h.buffer → length h.buffer ≡ length first
        → ((old : ℕ) → armings old ws ≡ map (shown false) (take s.armed cut_slots) ++ status_armed) → ControlAt h ws (in_status s)

  well_next : (h : Running) (y : StepCall) → well_formed h.transfer ≡ true → well_formed (step_in h y).next ≡ true
  well_next h y w = step_well true h.transfer y.sample h.buffer y.memory y.log w

  -- What is armed so far, and then by one step.
  more_armed : (ws vs : List Write) (a b : List ArmedSlot) → ((old : ℕ) → armings old ws ≡ a) → ((old : ℕ) → armings old vs ≡ b) → (old : ℕ) → armings old (ws ++ vs) ≡ a ++ b
  more_armed ws vs a b e f old = armings_append ws vs old ∙ ap₂ {C = List ArmedSlot} ◌++◌ (e old) (f (word_after 0x5010_0080 old ws))

  none_more : (ws vs : List Write) (a : List ArmedSlot) → ((old : ℕ) → armings old ws ≡ a) → ((old : ℕ) → armings old vs ≡ []) → (old : ℕ) → armings old (ws ++ vs) ≡ a
  none_more ws vs a e f old = more_armed ws vs a [] e f old ∙ append-nil a

  -- The slots armed so far are the first ones.
  past_armed : (st : InStage) (buf : List ℕ) (s : Tally) (past ls : List (Packet ℕ)) (room : n ≤ length first) → Stands control_x slots n first few room st buf s ls → cut_slots ≡ past ++ ls → past ≡ take s.armed cut_slots
  past_armed st buf s past ls room d sp =
      let z : length past ≡ s.armed = let u = d.standing.many in let v = ap length sp ∙ length-append past ls in omega arith in
      sym (ap (take s.armed) sp ∙ take_at past ls s.armed z)

  -- The step that ends a stage arms none of its slots.
  ending_armed : (y : StepCall) (s : Tally) → ending y ≡ true → (tally_step slots y s).armed ≡ s.armed
  unfolding tally_step
  ending_armed y s e = by (lent_well y) (quiet y.sample) (complete y.sample) e
    where
      by : (l q c : Bool) → (l && (not q && c)) ≡ true → (tally_by l q c slots y s).armed ≡ s.armed
      by false q c e = refl
      by true true c e = refl
      by true false true e = retire_armed y (retire_one y s) ∙ retire_armed y s
      by true false false e = no (sym e)

  setup_on : (h : Running) (ws : List Write) (y : StepCall) → well_formed h.transfer ≡ true → h.buffer ≡ first → ((old : ℕ) → armings old ws ≡ []) → (b : Bool) → SetupComes h.buffer (step_in h y) b
      → ControlAt (after_step (step_in h y)) (ws ++ (step_in h y).writes) (control_by b slots y in_setup)
  setup_on h ws y w e v b (setup_fails q f) = gone q
  setup_on h ws y w e v b (setup_stays q u f g) = at_setup q (well_next h y w) (u ∙ e) (none_more ws (step_in h y).writes [] v g)
  setup_on h ws y w e v b (setup_ends room q u f g) =
      let r = starts_armed control_x slots n first few room FixedSize (target_of control_x) refl refl low high refl in
      at_data begins r.now r.rest room q (well_next h y w)
      (subst (λ (z : List ℕ). Stands control_x slots n first few room begins z (tally_start slots) r.rest) (sym (u ∙ e)) (starts control_x slots n first few room FixedSize (target_of control_x) refl refl low high refl))
      r.split (more_armed ws (step_in h y).writes [] (map (shown false) r.now) v (λ old. g old ∙ start_events (target_of control_x) FixedSize n old r.now r.events))

  data_on : (h : Running) (ws : List Write) (y : StepCall) (s : Tally) (st : InStage) (past ls : List (Packet ℕ)) (room : n ≤ length first) → well_formed h.transfer ≡ true
      → Stands control_x slots n first few room st h.buffer s ls → cut_slots ≡ past ++ ls → ((old : ℕ) → armings old ws ≡ map (shown false) past)
      → Comes control_x slots n first few room y s ls (step_in h y) → ControlAt (after_step (step_in h y)) (ws ++ (step_in h y).writes) (control_by (ending y) slots y (in_data s))
  data_on h ws y s st past ls room w c sp ev (fails q f) = gone q
  data_on h ws y s st past ls room w c sp ev (goes st' now rest u q d f sq eq) = subst (λ (v : Bool). ControlAt (after_step (step_in h y)) (ws ++ (step_in h y).writes) (control_by v slots y (in_data s))) (sym u)
      (at_data st' (past ++ now) rest room q (well_next h y w) d (sp ∙ ap (λ (l : List (Packet ℕ)). past ++ l) sq ∙ sym (append_assoc past now rest))
      (λ old. more_armed ws (step_in h y).writes (map (shown false) past) (map (shown false) now) ev eq old ∙ sym (map_append (shown false) past now)))
  data_on h ws y s st past ls room w c sp ev (finishes d buf u kp n₁ a₁ t₁ b₁ v₁) = subst (λ (v : Bool). ControlAt (after_step (step_in h y)) (ws ++ (step_in h y).writes) (control_by v slots y (in_data s))) (sym u)
      (let g = out_status d.offset y.memory in
      at_status {s = tally_step slots y s} (start_out (target_of control_x) FixedSize true d.offset 0 [] y.memory).stage n₁ (well_next h y w) g.0
      (rw (b₁, g.1) (kept_moved n first few room (tally_step slots y s).retired d buf kp))
      (ap length b₁ ∙ kept_length n first few room (tally_step slots y s).retired d buf kp)
      (λ old. more_armed ws (step_in h y).writes (map (shown false) past) status_armed ev (λ v. v₁ v ∙ g.2 v) old
      ∙ ap (λ (l : List (Packet ℕ)). map (shown false) l ++ status_armed) (past_armed st h.buffer s past ls room c sp ∙ ap (λ (k : ℕ). take k cut_slots) (sym (ending_armed y s u)))))

  status_on : (h : Running) (ws : List Write) (y : StepCall) (s : Tally) (st : OutStage) → well_formed h.transfer ≡ true → Moved n first s.retired st.received h.buffer → length h.buffer ≡ length first
      → ((old : ℕ) → armings old ws ≡ map (shown false) (take s.armed cut_slots) ++ status_armed)
      → StatusComes st h.buffer (step_in h y) → ControlAt (after_step (step_in h y)) (ws ++ (step_in h y).writes) (in_status s)
  status_on h ws y s st w v l ev (status_fails q f) = gone q
  status_on h ws y s st w v l ev (status_stays st' q sp r u f g) = at_status {s = s} st' q (well_next h y w) sp (rw (r, u) v) (ap length u ∙ l)
      (none_more ws (step_in h y).writes (map (shown false) (take s.armed cut_slots) ++ status_armed) ev g)
  status_on h ws y s st w v l ev (status_ends q a₁ u g) = gone q

  still_status : (b : Bool) (y : StepCall) (s : Tally) → in_status s ≡ control_by b slots y (in_status s)
  still_status true y s = refl
  still_status false y s = refl

  -- ---- a step, by where the transfer is

  setup_step_lem : (h : Running) (y : StepCall) → h.transfer ≡ busy setup_stage → well_formed h.transfer ≡ true → h.buffer ≡ first → SetupComes h.buffer (step_in h y) (ending y)
  setup_step_lem h y e w b =
      subst (λ (t : Option Run). SetupComes h.buffer (step_in (record { transfer = t; buffer = h.buffer }) y) (ending y)) (sym e) (setup_comes y h.buffer (sym (ap well_formed e) ∙ w) (ap length b))

  data_step : (h : Running) (y : StepCall) (s : Tally) (st : InStage) (ls : List (Packet ℕ)) (room : n ≤ length first) → h.transfer ≡ busy (in_stage st) → well_formed h.transfer ≡ true
      → Stands control_x slots n first few room st h.buffer s ls → Comes control_x slots n first few room y s ls (step_in h y)
  data_step h y s st ls room e w d =
      subst (λ (t : Option Run). Comes control_x slots n first few room y s ls (step_in (record { transfer = t; buffer = h.buffer }) y)) (sym e)
      (comes control_x slots n first few room y st h.buffer s ls refl (sym (ap well_formed e) ∙ w) refl d)

  status_step : (h : Running) (y : StepCall) (st : OutStage) → h.transfer ≡ busy (out_stage st) → well_formed h.transfer ≡ true → Spent st → length h.buffer ≡ length first → StatusComes st h.buffer (step_in h y)
  status_step h y st e w sp l =
      subst (λ (t : Option Run). StatusComes st h.buffer (step_in (record { transfer = t; buffer = h.buffer }) y)) (sym e) (status_comes y st h.buffer (sym (ap well_formed e) ∙ w) sp l)

  control_step : (h : Running) (ws : List Write) (f : ControlTally) (y : StepCall) → ControlAt h ws f → ControlAt (after_step (step_in h y)) (ws ++ (step_in h y).writes) (control_by (ending y) slots y f)
  control_step h ws f y (gone e) = gone (idle_next true h y e)
  control_step h ws f y (at_setup e w b v) = setup_on h ws y w b v (ending y) (setup_step_lem h y e w b)
  control_step h ws f y (at_data {s = s} st past ls room e w d sp ev) = data_on h ws y s st past ls room w d sp ev (data_step h y s st ls room e w d)
  control_step h ws f y (at_status {s = s} st e w sp v l ev) =
      subst (ControlAt (after_step (step_in h y)) (ws ++ (step_in h y).writes)) (still_status (ending y) y s) (status_on h ws y s st w v l ev (status_step h y st e w sp l))

  control_steps : (ys : List StepCall) (h : Running) (ws : List Write) (f : ControlTally) → ControlAt h ws f → ControlAt (after_steps true h ys) (ws ++ writes_of true h ys) (control_tally slots f ys)
  control_steps [] h ws f q = rw (after_none true h, control_tally_none slots f, writes_none true h, append-nil ws) q
  control_steps (y ∷ ys) h ws f q =
      rw (after_more true h y ys, control_tally_more slots f y ys, writes_more true h y ys)
      (subst (λ (l : List Write). ControlAt (after_steps true (after_step (step_in h y)) ys) l (control_tally slots (control_by (ending y) slots y f) ys)) (append_assoc ws (step_in h y).writes (writes_of true (after_step (step_in h y)) ys))
      (control_steps ys (after_step (step_in h y)) (ws ++ (step_in h y).writes) (control_by (ending y) slots y f) (control_step h ws f y q)))

  abbrev Ended : (h : Running) (y : StepCall) (count : ℕ) → List (List ℕ) → Type 0
  Ended h y count got = Moved n first got count (step_in h y).buffer × ((step_in h y).next ≡ None) × ((old : ℕ) → armings old (step_in h y).writes ≡ [])

  control_end : (h : Running) (ws : List Write) (f : ControlTally) (y : StepCall) (count : ℕ) → ControlAt h ws f → (step_in h y).answer ≡ Ok (Done count) → Ended h y count (retired_in (control_by (ending y) slots y f))
  control_end h ws f y count (gone e) q = absurd_done (step_in h y).answer count (idle_not true h y e) q
  control_end h ws f y count (at_setup e w b ev) q = by (ending y) (setup_step_lem h y e w b)
    where
      by : (v : Bool) → SetupComes h.buffer (step_in h y) v → Ended h y count (retired_in (control_by v slots y in_setup))
      by v (setup_fails i j) = absurd_done (step_in h y).answer count j q
      by v (setup_stays i j k g) = absurd_done (step_in h y).answer count k q
      by v (setup_ends i j k l g) = absurd_done (step_in h y).answer count l q
  control_end h ws f y count (at_data {s = s} st past ls room e w d sp ev) q = by (data_step h y s st ls room e w d)
    where
      by : Comes control_x slots n first few room y s ls (step_in h y) → Ended h y count (retired_in (control_by (ending y) slots y (in_data s)))
      by (fails i j) = absurd_done (step_in h y).answer count j q
      by (goes i j k l m o₁ p₁ q₁ r₁) = absurd_done (step_in h y).answer count p₁ q
      by (finishes d₁ buf u kp n₁ a₁ t₁ b₁ v₁) = absurd_done (step_in h y).answer count (subst not_done (sym a₁) (waiting_not true)) q
  control_end h ws f y count (at_status {s = s} st e w sp v l ev) q =
      subst (λ (g : ControlTally). Ended h y count (retired_in g)) (still_status (ending y) y s) (by (status_step h y st e w sp l))
    where
      by : StatusComes st h.buffer (step_in h y) → Ended h y count s.retired
      by (status_fails i j) = absurd_done (step_in h y).answer count j q
      by (status_stays st' i j k u f₁ g) = absurd_done (step_in h y).answer count f₁ q
      by (status_ends i a₁ u g) = (subst (λ (c : ℕ). Moved n first s.retired c (step_in h y).buffer) (done_is st.received count (sym a₁ ∙ q)) (rw u v), i, g)

  -- While it is under way.
  so_far : (h : Running) (ws : List Write) (f : ControlTally) (old : ℕ) → ControlAt h ws f → (h.transfer ≡ None → ⊥) → armings old ws ≡ control_armed cut_slots f
  so_far h ws f old (gone e) x = absurd (x e)
  so_far h ws f old (at_setup e w b ev) x = ev old
  so_far h ws f old (at_data {s = s} st past ls room e w d sp ev) x = ev old ∙ ap (map (shown false)) (past_armed st h.buffer s past ls room d sp)
  so_far h ws f old (at_status {s = s} st e w sp v l ev) x = ev old

  -- What the caller has by then.
  has_moved : (h : Running) (ws : List Write) (f : ControlTally) → ControlAt h ws f → (h.transfer ≡ None → ⊥) → Moved n first (retired_in f) (min n (sum (map length (retired_in f)))) h.buffer
  has_moved h ws f (gone e) x = absurd (x e)
  has_moved h ws f (at_setup e w b ev) x =
      let z : 0 ≡ min n 0 = omega arith in
      let none : Moved n first [] 0 h.buffer = record { counted = z; bytes = b } in
      subst (λ (c : ℕ). Moved n first [] c h.buffer) z none
  has_moved h ws f (at_data {s = s} st past ls room e w d sp ev) x =
      let z = kept_moved n first few room s.retired (in_received st) h.buffer d.flying.kept in
      subst (λ (c : ℕ). Moved n first s.retired c h.buffer) z.counted z
  has_moved h ws f (at_status {s = s} st e w sp v l ev) x = subst (λ (c : ℕ). Moved n first s.retired c h.buffer) v.counted v

-- A control In begin that is accepted.
module _ (t : Option Run) (a : ℕ) (x : TransferExtras) (p : ℕ) (s : SetupPacket) (first m log : List ℕ) (few : s.wLength ≤ 0xFFFF) (q : (begin_control_of t a x p s phase_in first m log).answer ≡ Ok tt) where
  abbrev begun : Running
  begun = record { transfer = (begin_control_of t a x p s phase_in first m log).next; buffer = first }

  abbrev begun_writes : List Write
  begun_writes = (begin_control_of t a x p s phase_in first m log).writes

  abbrev fields : Result (Unit {0}) Refusal
  fields = fields_refusal (address_good a) true (size_good p) true

  begins_ok : (begin_refusal (lent_fits m log) (is_idle t) fields ≡ Ok tt) × (begin_control_of t a x p s phase_in first m log ≡ begins_control a x p s phase_in (length first) m)
  unfolding begin_control_of
  begins_ok = accepted (begin_refusal (lent_fits m log) (is_idle t) fields) t m (begins_control a x p s phase_in (length first) m) q

  sizes : (1 ≤ p) × (p ≤ 64)
  sizes = between 1 p 64 (none_fields (lent_fits m log) (is_idle t) (address_good a) true (size_good p) true begins_ok.0).2

  abbrev many_slots : ℕ
  many_slots = length (in_cut_of FixedSize p true s.wLength)

  control_at : (ys : List StepCall) → ControlAt a p s.wLength first few sizes.0 sizes.1 (after_steps true begun ys) (begun_writes ++ writes_of true begun ys) (control_tally many_slots in_setup ys)
  control_at ys = control_steps a p s.wLength first few sizes.0 sizes.1 ys begun begun_writes in_setup
      (at_setup (ap (λ (z : Beginning). z.next) begins_ok.1) (begin_control_well t a x p s phase_in first m log (none_idle (lent_fits m log) t fields begins_ok.0)) refl
      (λ old. ap (λ (z : Beginning). armings old z.writes) begins_ok.1 ∙ setup_silent s a x old))

  pub control_armed_lem : (ys : List StepCall) (old : ℕ) → ((after_steps true begun ys).transfer ≡ None → ⊥) → armings old (begun_writes ++ writes_of true begun ys) ≡ control_armed (in_cut_of FixedSize p true s.wLength) (control_tally many_slots in_setup ys)
  control_armed_lem ys old y = so_far a p s.wLength first few sizes.0 sizes.1 (after_steps true begun ys) (begun_writes ++ writes_of true begun ys) (control_tally many_slots in_setup ys) old (control_at ys) y

  pub control_so_far : (ys : List StepCall) → ((after_steps true begun ys).transfer ≡ None → ⊥)
      → let got = control_received many_slots ys in Moved s.wLength first got (min s.wLength (sum (map length got))) (after_steps true begun ys).buffer
  control_so_far ys y = has_moved a p s.wLength first few sizes.0 sizes.1 (after_steps true begun ys) (begun_writes ++ writes_of true begun ys) (control_tally many_slots in_setup ys) (control_at ys) y

  pub control_ended : (ys : List StepCall) (y : StepCall) (count : ℕ) → let o = step_in (after_steps true begun ys) y in
      o.answer ≡ Ok (Done count) → Moved s.wLength first (control_received many_slots (ys ++ (y ∷ []))) count o.buffer × (o.next ≡ None) × ((old : ℕ) → armings old o.writes ≡ [])
  control_ended ys y count d =
      subst (λ (f : ControlTally). Ended a p s.wLength first few sizes.0 sizes.1 (after_steps true begun ys) y count (retired_in f)) (sym (control_tally_end many_slots ys y in_setup))
      (control_end a p s.wLength first few sizes.0 sizes.1 (after_steps true begun ys) (begun_writes ++ writes_of true begun ys) (control_tally many_slots in_setup ys) y count (control_at ys) d)
