-- A control Out or None arms one slot IN, its status. Assumes nothing.
use Rattle.std.specs.Prelude.{None, Ok, Option, Some}
use mathlib.Core.Path.{◌≡◌, refl, sym, ap, ap₂, ◌∙◌, subst}
use mathlib.Core.Bool.{Bool, true, false, cond}
use mathlib.Core.List.{List, [], ◌∷◌, ◌++◌, append_assoc, append-nil}
use Prim.Native.Nat.{ℕ, ◌≤◌}
use lib.Dec.{eqb, ltb}
use lib.ListN.{length}
use Rattle.cutting.specs.declared.transfer_type.TransferType.TheVariants.{FixedSize}
use Rattle.cutting.specs.declared.packetiser.Arm.{Arm}
use Rattle.cutting.specs.declared.packetiser.InPacketiser.{InPacketiser}
use Rattle.cutting.specs.declared.packetiser.OutCounters.{OutCounters}
use Rattle.cutting.specs.declared.depacketiser.InDepacketiser.{InDepacketiser}
use Rattle.cutting.specs.Cut.{packet}
use Rattle.cutting.specs.Counters.{in_start_of, out_start, out_next}
use Rattle.cutting.proofs.Next.{out_fits}
use Rattle.transfers.specs.declared.host_controller.DataPhase.{DataPhase}
use Rattle.transfers.specs.declared.host_controller.DataPhase.TheVariants.{In as phase_in, Out as phase_out, None as phase_none}
use Rattle.transfers.specs.declared.host_controller.TransferExtras.{TransferExtras}
use Rattle.transfers.specs.declared.wire.SetupPacket.{SetupPacket}
use Rattle.transfers.specs.declared.wire.Direction.TheVariants.{In, Out}
use Rattle.transfers.specs.declared.sample.Found.{Found}
use Rattle.transfers.specs.declared.sample.Found.TheVariants.{Complete, Failed, Neither}
use Rattle.transfers.specs.declared.driver.Run.{Run}
use Rattle.transfers.specs.declared.driver.Request.{Request}
use Rattle.transfers.specs.declared.driver.Kind.TheVariants.{Control as control}
use Rattle.transfers.specs.declared.driver.Stage.{Stage}
use Rattle.transfers.specs.declared.driver.Stage.TheVariants.{Setup as setup_stage, In as in_stage, Out as out_stage}
use Rattle.transfers.specs.declared.driver.InStage.{InStage}
use Rattle.transfers.specs.declared.driver.OutStage.{OutStage}
use Rattle.transfers.specs.declared.writes.Target.{Target}
use Rattle.transfers.specs.Log.{Write}
use Rattle.transfers.specs.Memory.{lent_fits}
use Rattle.transfers.specs.Sample.{classify}
use Rattle.transfers.specs.Writes.{head_writes, enable_writes, go_writes, polled, quiets, completes}
use Rattle.transfers.specs.Arming.{may_arm, in_arm_two, out_armed, out_arm_if, out_arm, out_arm_two}
use Rattle.transfers.specs.Retiring.{InRetiring, in_retire_one}
use Rattle.transfers.specs.State.{stage_length, target_of, address_good, size_good}
use Rattle.transfers.specs.Outcome.{Outcome, after, start_in, start_out}
use Rattle.transfers.specs.Step.{setup_done, setup_step, in_packets, in_received, in_control_done, in_second_done, in_first_done, in_complete, in_rearm, in_second_moved, in_first_moved, in_move, in_step, out_packets, out_retire_two, out_control_done, out_done, out_complete, out_move, out_step, lent, keeping, stage_step, polls, acts}
use Rattle.transfers.specs.Calls.{step_if, may_step, step_lent, step_of, is_idle, fields_refusal, begin_refusal, Beginning, begins_control, begin_control_of}
use Rattle.transfers.proofs.Beginnings.{none_fields}
use Rattle.transfers.proofs.OpenPipes.{between}
use Rattle.rules.specs.Fields.{word_after}
use Rattle.rules.specs.Received.{StepCall, Running, step_by, after_step, after_steps}
use Rattle.rules.specs.Armed.{ArmedSlot, armings, shown, writes_of, slots_in}
use Rattle.rules.proofs.Armed.{armings_append, arms_shown, head_silent, enable_silent, go_silent, polled_silent, quiets_silent, completes_silent, pending_silent, setup_silent, none_armed, start_armings}
use Rattle.rules.proofs.InStage.{not_done, waiting_not, refused_not, by_poll}
use Rattle.rules.proofs.Spent.{in_two_spent, status_start_in}
use Rattle.rules.proofs.Steps.{absurd_done, after_more, writes_more, writes_none, writes_end, after_none, idle_next, idle_not, accepted}
use Rattle.transfers.specs.declared.answers.Step.TheVariants.{Done}

slots_append : (a b : List ArmedSlot) → slots_in (a ++ b) ≡ slots_in a ++ slots_in b
slots_append [] b = refl
slots_append (x ∷ a) b = by x.shows.FULL (slots_append a b)
  where
    by : (f : Bool) → slots_in (a ++ b) ≡ slots_in a ++ slots_in b → cond f (slots_in (a ++ b)) (x ∷ slots_in (a ++ b)) ≡ cond f (slots_in a) (x ∷ slots_in a) ++ slots_in b
    by true e = e
    by false e = ap (λ (l : List ArmedSlot). x ∷ l) e

-- ---- what writes arm IN

unfoldable Got : List ArmedSlot → List Write → Type 0
Got l ws = (old : ℕ) → slots_in (armings old ws) ≡ l

got_then : (l k : List ArmedSlot) (a b : List Write) → Got l a → Got k b → Got (l ++ k) (a ++ b)
unfolding Got
got_then l k a b p q old =
    ap slots_in (armings_append a b old) ∙ slots_append (armings old a) (armings (word_after 0x5010_0080 old a) b) ∙ ap₂ {C = List ArmedSlot} ◌++◌ (p old) (q (word_after 0x5010_0080 old a))

got_silent : (ws : List Write) → ((old : ℕ) → armings old ws ≡ []) → Got [] ws
unfolding Got
got_silent ws e old = ap slots_in (e old)

got_armed : (l : List ArmedSlot) (ws : List Write) → ((old : ℕ) → armings old ws ≡ l) → Got (slots_in l) ws
unfolding Got
got_armed l ws e old = ap slots_in (e old)

got_after : (l : List ArmedSlot) (ws vs : List Write) → ((old : ℕ) (us : List Write) → armings old (ws ++ us) ≡ armings old us) → Got l vs → Got l (ws ++ vs)
unfolding Got
got_after l ws vs e p old = ap slots_in (e old vs) ∙ p old

got_at : (l : List ArmedSlot) (ws : List Write) → Got l ws → (old : ℕ) → slots_in (armings old ws) ≡ l
unfolding Got
got_at l ws p = p

none_got : Got [] []
none_got = got_silent [] none_armed

-- OUT packets are FULL.
out_armed_got : (o : Option Arm) (c : OutCounters) (k off : ℕ) (buf m : List ℕ) → ((a : Arm) → o ≡ Some a → a.length ≤ 64) → Got [] (out_armed o c k off buf m).writes
out_armed_got None c k off buf m h = none_got
out_armed_got (Some a) c k off buf m h = got_armed (shown true (packet a.slot a.pid a.last a.length) ∷ []) (out_armed (Some a) c k off buf m).writes (λ old. arms_shown true a old (h a refl))

out_arm_got : (w : ℕ) (c : OutCounters) (k : ℕ) (buf m : List ℕ) → Got [] (out_arm w c k buf m).writes
unfolding out_arm
out_arm_got w c k buf m = by (may_arm w k c.slot)
  where
    by : (b : Bool) → Got [] (out_arm_if b c k buf m).writes
    by false = none_got
    by true = out_armed_got (out_next c).arm (out_next c).rest k c.offset buf m (λ a e. (out_fits c a e).small)

out_two_got : (w : ℕ) (c : OutCounters) (k : ℕ) (buf m : List ℕ) → Got [] (out_arm_two w c k buf m).writes
unfolding out_arm_two
out_two_got w c k buf m =
    let g = out_arm w c k buf m in
    got_then [] [] g.writes (out_arm w g.packets g.inflight buf g.memory).writes (out_arm_got w c k buf m) (out_arm_got w g.packets g.inflight buf g.memory)

-- A stage's start arms IN what its packets' writes arm.
start_got : (t : Target) (n : ℕ) (ws : List Write) → Got [] ws → Got [] (head_writes t n ++ (ws ++ (enable_writes t.size n ++ go_writes Out)))
start_got t n ws g =
    let en = enable_writes t.size n in
    got_then [] [] (head_writes t n) (ws ++ (en ++ go_writes Out)) (got_silent (head_writes t n) (head_silent t n))
    (got_then [] [] ws (en ++ go_writes Out) g (got_then [] [] en (go_writes Out) (got_silent en (enable_silent t.size n)) (got_silent (go_writes Out) (go_silent Out))))

-- ---- the transfer

module _ (a p n len : ℕ) (ph : DataPhase) (not_in : ph ≡ phase_in → ⊥) (low : 1 ≤ p) (high : p ≤ 64) where
  abbrev asks : Request
  asks = record { address = a; size = p; kind = control (record { phase = ph; wLength = n }); length = len }

  abbrev busy : Stage → Option Run
  busy st = Some (record { request = asks; stage = st })

  abbrev one : List ArmedSlot
  one = shown false (packet false true true p) ∷ []

  -- Before the status stage: SETUP, or an OUT data stage.
  abbrev Early : Stage → Type 0
  Early setup_stage = Unit {0}
  Early (in_stage st) = ⊥
  Early (out_stage st) = st.status ≡ false

  -- The status stage, its slot armed.
  record Armed (st : InStage) : Type 0 where
    status : st.status ≡ true
    toarm : st.toarm ≡ 0
    zlp : st.zlp ≡ false

  -- What a step comes to, with `l` armed before it.
  data Comes (l : List ArmedSlot) (o : Outcome) : Type 0 where
    fails : o.next ≡ None → not_done o.answer → Comes l o
    ends : o.next ≡ None → l ≡ one → Got [] o.writes → Comes l o
    early : (st : Stage) → o.next ≡ busy st → Early st → not_done o.answer → l ≡ [] → Got [] o.writes → Comes l o
    late : (st : InStage) (k : List ArmedSlot) → o.next ≡ busy (in_stage st) → Armed st → not_done o.answer → Got k o.writes → l ++ k ≡ one → Comes l o

  after_comes : (l : List ArmedSlot) (ws : List Write) (o : Outcome) → ((old : ℕ) (us : List Write) → armings old (ws ++ us) ≡ armings old us) → Comes l o → Comes l (after ws o)
  after_comes l ws o e (fails q f) = fails q f
  after_comes l ws o e (ends q r g) = ends q r (got_after [] ws o.writes e g)
  after_comes l ws o e (early st q r f s g) = early st q r f s (got_after [] ws o.writes e g)
  after_comes l ws o e (late st k q r f g s) = late st k q r f (got_after k ws o.writes e g) s

  keeping_comes : (l : List ArmedSlot) (b : Bool) (buf : List ℕ) (o : Outcome) → Comes l o → Comes l (keeping b buf o)
  keeping_comes l false buf o k = k
  keeping_comes l true buf o (fails q f) = fails q f
  keeping_comes l true buf o (ends q r g) = ends q r g
  keeping_comes l true buf o (early st q r f s g) = early st q r f s g
  keeping_comes l true buf o (late st k q r f g s) = late st k q r f g s

  -- ---- the status stage begins

  status_begins : Armed (start_in (target_of asks) FixedSize true 0).stage × Got one (start_in (target_of asks) FixedSize true 0).writes
  unfolding start_in
  status_begins =
      let e = status_start_in p true low high in
      let c : Arm = record { slot = false; pid = true; last = true; length = p } in
      let ws = (in_arm_two 0 (in_start_of FixedSize p true 0) 0).writes in (
        record { status = refl; toarm = ap (λ (d : InPacketiser). d.remain) e.0; zlp = ap (λ (d : InPacketiser). d.zlp) e.0 },
        got_armed one (start_in (target_of asks) FixedSize true 0).writes (λ old. start_armings (target_of asks) 0 In ws old one (λ v. ap (armings v) e.1 ∙ arms_shown false c v high)),
      )

  -- ---- SETUP

  out_begins : (buf m : List ℕ) → ((start_out (target_of asks) FixedSize false 0 n buf m).stage.status ≡ false) × Got [] (start_out (target_of asks) FixedSize false 0 n buf m).writes
  unfolding start_out
  out_begins buf m =
      let c = out_start FixedSize p true n in
      (refl, start_got (target_of asks) n (out_arm_two 0 c 0 buf m).writes (out_two_got 0 c 0 buf m))

  setup_done_lem : (q : DataPhase) → (q ≡ phase_in → ⊥) → (b : Bool) (buf m : List ℕ) → Comes [] (setup_done q b asks n buf m)
  setup_done_lem phase_in f b buf m = absurd (f refl)
  setup_done_lem phase_out f true buf m = fails refl (refused_not _)
  setup_done_lem phase_out f false buf m =
      let g = out_begins buf m in
      early (out_stage (start_out (target_of asks) FixedSize false 0 n buf m).stage) refl g.0 (waiting_not true) refl g.1
  setup_done_lem phase_none f b buf m =
      late (start_in (target_of asks) FixedSize true 0).stage one refl status_begins.0 (waiting_not true) status_begins.1 refl

  setup_comes : (f : Found) (buf m : List ℕ) → Comes [] (setup_step f asks buf m)
  unfolding setup_step
  setup_comes Complete buf m = setup_done_lem ph not_in (ltb len n) buf m
  setup_comes (Failed e) buf m = fails refl (refused_not _)
  setup_comes Neither buf m = early setup_stage refl tt (waiting_not true) refl none_got

  -- ---- an OUT data stage

  out_comes : (f : Found) (st : OutStage) (w : ℕ) (buf m : List ℕ) → st.status ≡ false → Comes [] (out_step f asks st w buf m)
  unfolding out_step out_complete out_move
  out_comes Complete st w buf m e =
      let parity = (out_retire_two w st.retire st.inflight).parity in
      after_comes [] quiets (out_complete asks st w m buf) quiets_silent
      (after_comes [] (completes ∷ []) (out_done asks.kind asks st parity m buf) completes_silent
      (subst (λ (b : Bool). Comes [] (out_control_done b asks st.received m buf)) (sym e)
      (late (start_in (target_of asks) FixedSize true 0).stage one refl status_begins.0 (waiting_not true) status_begins.1 refl)))
  out_comes (Failed x) st w buf m e = fails refl (refused_not _)
  out_comes Neither st w buf m e =
      let r = out_retire_two w st.retire st.inflight in
      let g = out_arm_two w (out_packets asks st) r.inflight buf m in
      let k = stage_length asks st.status in
      after_comes [] quiets (out_move asks st w buf m) quiets_silent
      (early (out_stage (record { status = st.status; slot = g.packets.slot; remain = g.packets.remain; offset = g.packets.offset; zlp = g.packets.zlp; retire = r.parity; inflight = g.inflight; received = st.received }))
      refl e (waiting_not true) refl
      (got_then [] [] g.writes (enable_writes p k) (out_two_got w (out_packets asks st) r.inflight buf m) (got_silent (enable_writes p k) (enable_silent p k))))

  -- ---- the status stage

  module _ (st : InStage) (h : Armed st) (w : ℕ) (buf m : List ℕ) where
    in_second_done_lem : (b : Bool) (i : InRetiring) → Comes one (in_second_done b i asks st.status m)
    in_second_done_lem true i = fails refl (refused_not _)
    in_second_done_lem false i = subst (λ (b : Bool). Comes one (in_control_done b ph asks i.packets.offset m i.buffer)) (sym h.status) (ends refl refl none_got)

    in_first_done_lem : (b : Bool) (g : InRetiring) → Comes one (in_first_done b g w asks st.status m)
    in_first_done_lem true g = fails refl (refused_not _)
    in_first_done_lem false g =
        let i = in_retire_one w g.packets g.inflight g.buffer m in
        after_comes one (completes ∷ []) (in_second_done i.long i asks st.status m) completes_silent (in_second_done_lem i.long i)

    in_rearmed : (d : InDepacketiser) (k : ℕ) (b : List ℕ) → Comes one (in_rearm asks st d k w m b)
    unfolding in_rearm
    in_rearmed d k b =
        let g = in_arm_two w (in_packets asks st) k in
        let two = in_two_spent w (in_packets asks st) k h.toarm h.zlp in
        let en = enable_writes p (stage_length asks st.status) in
        late (record { status = st.status; slot = g.packets.slot; toarm = g.packets.remain; zlp = g.packets.zlp; retire = d.parity; remain = d.remain; offset = d.offset; inflight = g.inflight })
        [] refl (record { status = h.status; toarm = ap (λ (c : InPacketiser). c.remain) two.0 ∙ h.toarm; zlp = ap (λ (c : InPacketiser). c.zlp) two.0 ∙ h.zlp })
        (waiting_not true) (got_silent (g.writes ++ en) (λ old. ap (λ (l : List Write). armings old (l ++ en)) two.1 ∙ enable_silent p (stage_length asks st.status) old)) refl

    in_second_moved_lem : (b : Bool) (i : InRetiring) → Comes one (in_second_moved b i w asks st m)
    in_second_moved_lem true i = fails refl (refused_not _)
    in_second_moved_lem false i = in_rearmed i.packets i.inflight i.buffer

    in_first_moved_lem : (b : Bool) (g : InRetiring) → Comes one (in_first_moved b g w asks st m)
    in_first_moved_lem true g = fails refl (refused_not _)
    in_first_moved_lem false g = let i = in_retire_one w g.packets g.inflight g.buffer m in in_second_moved_lem i.long i

    in_comes : (f : Found) → Comes one (in_step f asks st w buf m)
    unfolding in_step in_complete in_move
    in_comes Complete = let g = in_retire_one w (in_received st) st.inflight buf m in after_comes one quiets (in_complete asks st w buf m) quiets_silent (in_first_done_lem g.long g)
    in_comes (Failed x) = fails refl (refused_not _)
    in_comes Neither = let g = in_retire_one w (in_received st) st.inflight buf m in after_comes one quiets (in_move asks st w buf m) quiets_silent (in_first_moved_lem g.long g)

  -- ---- a step

  -- Where the transfer is, with `l` armed so far.
  data At (l : List ArmedSlot) : Stage → Type 0 where
    at_early : {st : Stage} → Early st → l ≡ [] → At l st
    at_status : {st : InStage} → Armed st → l ≡ one → At l (in_stage st)

  same_stage : (l : List ArmedSlot) (st : Stage) → At l st → (o : Outcome) → o.next ≡ busy st → not_done o.answer → ((old : ℕ) → armings old o.writes ≡ []) → Comes l o
  same_stage l st (at_early e z) o q f s = early st q e f z (got_silent o.writes s)
  same_stage l st (at_status {st = st'} h z) o q f s = late st' [] q h f (got_silent o.writes s) (append-nil l ∙ z)

  stage_comes : (l : List ArmedSlot) (st : Stage) → At l st → (f : Found) (w : ℕ) (buf m : List ℕ) → Comes l (stage_step f asks st w buf m)
  stage_comes l st (at_early e z) f w buf m = subst (λ (k : List ArmedSlot). Comes k (stage_step f asks st w buf m)) (sym z) (by st e)
    where
      by : (st : Stage) → Early st → Comes [] (stage_step f asks st w buf m)
      by setup_stage e = setup_comes f buf m
      by (in_stage st) e = absurd e
      by (out_stage st) e = keeping_comes [] st.status buf (out_step f asks st w (lent st.status buf) m) (out_comes f st w (lent st.status buf) m e)
  stage_comes l st (at_status {st = st'} h z) f w buf m =
      subst (λ (k : List ArmedSlot). Comes k (stage_step f asks (in_stage st') w buf m)) (sym z)
      (keeping_comes one st'.status buf (in_step f asks st' w (lent st'.status buf) m) (in_comes st' h w (lent st'.status buf) m f))

  step_comes : (filling : Bool) (l : List ArmedSlot) (st : Stage) (buf : List ℕ) (y : StepCall) → At l st → Comes l (step_by filling (record { transfer = busy st; buffer = buf }) y)
  unfolding step_of acts
  step_comes filling l st buf y at = lent_comes (lent_fits y.memory y.log)
    where
      r : Run
      r = record { request = asks; stage = st }

      ready : (f : Found) → Comes l (after (polled ∷ []) (stage_step f asks st y.sample.buffers buf y.memory))
      ready f = after_comes l (polled ∷ []) (stage_step f asks st y.sample.buffers buf y.memory) polled_silent (stage_comes l st at f y.sample.buffers buf y.memory)

      polled_comes : Comes l (polls (classify y.sample.status y.sample.intr) asks st y.sample.buffers buf y.memory)
      polled_comes = by_poll y.sample (λ (u : Option Found) (q c : Bool). Comes l (polls u asks st y.sample.buffers buf y.memory))
          (λ c. same_stage l st at (polls None asks st y.sample.buffers buf y.memory) refl (waiting_not false) pending_silent)
          (ready Complete) (λ e. ready (Failed e)) (ready Neither)

      if_comes : (c d : Bool) → Comes l (step_if c d r y.sample buf y.memory)
      if_comes false d = same_stage l st at (step_if false d r y.sample buf y.memory) refl (refused_not _) none_armed
      if_comes true false = same_stage l st at (step_if true false r y.sample buf y.memory) refl (refused_not _) none_armed
      if_comes true true = polled_comes

      lent_comes : (b : Bool) → Comes l (step_lent b filling (Some r) y.sample buf y.memory)
      lent_comes false = same_stage l st at (step_lent false filling (Some r) y.sample buf y.memory) refl (refused_not _) none_armed
      lent_comes true = if_comes (may_step filling r) (eqb (length buf) len)

  -- ---- lists of steps

  data Standing (h : Running) (ws : List Write) : Type 0 where
    gone : h.transfer ≡ None → Standing h ws
    under : (st : Stage) (l : List ArmedSlot) → h.transfer ≡ busy st → At l st → Got l ws → Standing h ws

  running_comes : (filling : Bool) (h : Running) (y : StepCall) (st : Stage) (l : List ArmedSlot) → h.transfer ≡ busy st → At l st → Comes l (step_by filling h y)
  running_comes filling h y st l e at = subst (λ (t : Option Run). Comes l (step_by filling (record { transfer = t; buffer = h.buffer }) y)) (sym e) (step_comes filling l st h.buffer y at)

  on_step : (filling : Bool) (h : Running) (ws : List Write) (y : StepCall) → Standing h ws → Standing (after_step (step_by filling h y)) (ws ++ (step_by filling h y).writes)
  on_step filling h ws y (gone e) = gone (idle_next filling h y e)
  on_step filling h ws y (under st l e at g) = by (running_comes filling h y st l e at)
    where
      by : Comes l (step_by filling h y) → Standing (after_step (step_by filling h y)) (ws ++ (step_by filling h y).writes)
      by (fails q f) = gone q
      by (ends q r k) = gone q
      by (early st' q r f z k) = under st' (l ++ []) q (at_early r (append-nil l ∙ z)) (got_then l [] ws (step_by filling h y).writes g k)
      by (late st' k q r f u z) = under (in_stage st') (l ++ k) q (at_status r z) (got_then l k ws (step_by filling h y).writes g u)

  on_steps : (filling : Bool) (ys : List StepCall) (h : Running) (ws : List Write) → Standing h ws → Standing (after_steps filling h ys) (ws ++ writes_of filling h ys)
  on_steps filling [] h ws q = rw (after_none filling h, writes_none filling h, append-nil ws) q
  on_steps filling (y ∷ ys) h ws q =
      let o = step_by filling h y in
      rw (after_more filling h y ys, writes_more filling h y ys)
      (subst (Standing (after_steps filling (after_step o) ys)) (append_assoc ws o.writes (writes_of filling (after_step o) ys)) (on_steps filling ys (after_step o) (ws ++ o.writes) (on_step filling h ws y q)))

  at_end : (filling : Bool) (h : Running) (ws : List Write) (y : StepCall) (count : ℕ) → Standing h ws → (step_by filling h y).answer ≡ Ok (Done count) → Got one (ws ++ (step_by filling h y).writes)
  at_end filling h ws y count (gone e) d = absurd_done (step_by filling h y).answer count (idle_not filling h y e) d
  at_end filling h ws y count (under st l e at g) d = by (running_comes filling h y st l e at)
    where
      by : Comes l (step_by filling h y) → Got one (ws ++ (step_by filling h y).writes)
      by (fails q f) = absurd_done (step_by filling h y).answer count f d
      by (ends q r k) = subst (λ (i : List ArmedSlot). Got i (ws ++ (step_by filling h y).writes)) (append-nil l ∙ r) (got_then l [] ws (step_by filling h y).writes g k)
      by (early st' q r f z k) = absurd_done (step_by filling h y).answer count f d
      by (late st' k q r f u z) = absurd_done (step_by filling h y).answer count f d

pub status_armed : (filling : Bool) (t : Option Run) (a : ℕ) (x : TransferExtras) (p : ℕ) (s : SetupPacket) (ph : DataPhase) (first m log : List ℕ) → (ph ≡ phase_in → ⊥)
    → (begin_control_of t a x p s ph first m log).answer ≡ Ok tt
    → (ys : List StepCall) (y : StepCall) (count : ℕ)
    → let h : Running = record { transfer = (begin_control_of t a x p s ph first m log).next; buffer = first } in
    (step_by filling (after_steps filling h ys) y).answer ≡ Ok (Done count)
    → (old : ℕ) → slots_in (armings old ((begin_control_of t a x p s ph first m log).writes ++ writes_of filling h (ys ++ (y ∷ [])))) ≡ shown false (packet false true true p) ∷ []
unfolding begin_control_of
status_armed filling t a x p s ph first m log not_in q ys y count d old =
    let fields = fields_refusal (address_good a) true (size_good p) true in
    let ok = accepted (begin_refusal (lent_fits m log) (is_idle t) fields) t m (begins_control a x p s ph (length first) m) q in
    let sizes = between 1 p 64 (none_fields (lent_fits m log) (is_idle t) (address_good a) true (size_good p) true ok.0).2 in
    let b = begin_control_of t a x p s ph first m log in
    let h : Running = record { transfer = b.next; buffer = first } in
    let begun = under setup_stage [] (ap (λ (z : Beginning). z.next) ok.1) (at_early tt refl) (got_silent b.writes (λ v. ap (λ (z : Beginning). armings v z.writes) ok.1 ∙ setup_silent s a x v)) in
    let o = step_by filling (after_steps filling h ys) y in
    let l = writes_of filling h ys in
    ap (λ (ws : List Write). slots_in (armings old (b.writes ++ ws))) (writes_end filling ys h y)
    ∙ ap (λ (ws : List Write). slots_in (armings old ws)) (sym (append_assoc b.writes l o.writes))
    ∙ got_at (shown false (packet false true true p) ∷ []) ((b.writes ++ l) ++ o.writes)
    (at_end a p s.wLength (length first) ph not_in sizes.0 sizes.1 filling (after_steps filling h ys) (b.writes ++ l) y count
    (on_steps a p s.wLength (length first) ph not_in sizes.0 sizes.1 filling ys h b.writes begun) d) old
