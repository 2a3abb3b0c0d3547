-- A step's whole log, in each stage of a control transfer. Assumes nothing.
use Rattle.std.specs.Prelude.{Result, Err, None, Ok, Option, Some}
use mathlib.Core.Path.{◌≡◌, refl, sym, ap, ◌∙◌, subst}
use mathlib.Core.Bool.{Bool, true, false, not, cond, ◌&&◌}
use mathlib.Core.List.{List, [], ◌∷◌, ◌++◌}
use Prim.Native.Nat.{ℕ, ◌≤◌}
use native.Mathlib.Omega.{arith}
use lib.Dec.{eqb, ltb}
use lib.ListN.{length}
use borrow.Author.Tests.{leb-true}
use Rattle.cutting.specs.declared.transfer_type.TransferType.TheVariants.{FixedSize}
use Rattle.cutting.specs.declared.packetiser.Arm.{Arm}
use Rattle.cutting.specs.declared.packetiser.InPacketiser.{InPacketiser}
use Rattle.cutting.specs.declared.packetiser.OutCounters.{OutCounters}
use Rattle.cutting.specs.declared.depacketiser.InDepacketiser.{InDepacketiser}
use Rattle.cutting.specs.Counters.{in_start_of, out_start}
use Rattle.transfers.specs.declared.host_controller.UsbError.{UsbError}
use Rattle.transfers.specs.declared.host_controller.DataPhase.{DataPhase}
use Rattle.transfers.specs.declared.host_controller.DataPhase.TheVariants.{In as phase_in, Out as phase_out, None as phase_none}
use Rattle.transfers.specs.declared.host_controller.TransferExtras.{TransferExtras}
use Rattle.transfers.specs.declared.refusal.Refusal.{Refusal}
use Rattle.transfers.specs.declared.wire.SetupPacket.{SetupPacket}
use Rattle.transfers.specs.declared.wire.Direction.{Direction}
use Rattle.transfers.specs.declared.wire.Direction.TheVariants.{In, Out}
use Rattle.transfers.specs.declared.writes.Target.{Target}
use Rattle.transfers.specs.declared.sample.Sample.{Sample}
use Rattle.transfers.specs.declared.sample.Found.TheVariants.{Complete, Failed, Neither}
use Rattle.transfers.specs.declared.driver.Run.{Run}
use Rattle.transfers.specs.declared.driver.Request.{Request}
use Rattle.transfers.specs.declared.driver.Kind.{Kind}
use Rattle.transfers.specs.declared.driver.Kind.TheVariants.{Control as control, Bulk as bulk}
use Rattle.transfers.specs.declared.driver.Stage.{Stage}
use Rattle.transfers.specs.declared.driver.Stage.TheVariants.{Setup as setup_stage, In as in_stage, Out as out_stage}
use Rattle.transfers.specs.declared.driver.InStage.{InStage}
use Rattle.transfers.specs.declared.driver.OutStage.{OutStage}
use Rattle.transfers.specs.Log.{Write, wr, masked}
use Rattle.transfers.specs.Memory.{lent_fits}
use Rattle.transfers.specs.Sample.{classify}
use Rattle.transfers.specs.Writes.{head_writes, arm_writes, enable_writes, go_writes, polled, quiets, completes}
use Rattle.transfers.specs.Arming.{in_arm_two, out_arm_two}
use Rattle.transfers.specs.Retiring.{InRetiring, in_retire_one}
use Rattle.transfers.specs.State.{target_of, address_good, size_good, kind_good, request_good, stage_good, sound, control_of}
use Rattle.transfers.specs.Outcome.{Outcome, after, start_in, start_out, enters_in, enters_out}
use Rattle.transfers.specs.Step.{setup_done, setup_step, in_received, in_done, in_second_done, in_first_done, in_complete, in_rearm, in_second_moved, in_first_moved, in_move, in_step, out_retire_two, out_control_done, out_done, out_complete, out_move, out_step, lent, keeping, stage_step, polls, acts}
use Rattle.transfers.specs.Calls.{is_idle, fields_refusal, begin_refusal, Beginning, begins_control, begin_control_of, step_if, may_step, step_lent, step_of}
use Rattle.transfers.proofs.Readiness.{both, may_parts}
use Rattle.rules.specs.Fields.{word_after, read_endpoint_control, read_addr_endp, read_sie_ctrl}
use Rattle.rules.specs.Datasheet.{PointsAt, Starts}
use Rattle.rules.specs.Received.{ends_stage}
use Rattle.rules.specs.ControlStages.{ControlStage, setup_now, data_now, status_now, later_stage, stage_now, following, direction_now, bytes_now, control_request, Enters, Leaves, StartsNone, Remains, over, onward, ControlStages}
use Rattle.rules.proofs.Datasheet.{points as head_points, starts as go_starts}
use Rattle.rules.proofs.Lists.{every_append}
use Rattle.rules.proofs.Retired.{no}
use Rattle.rules.proofs.InStage.{by_poll}
use Rattle.rules.proofs.Steps.{accepted}
use Rattle.rules.proofs.Decoded.{in_two_every, out_two_every}
use Rattle.rules.proofs.GoesOn.{GoesOn, failed_every, neither_every, step_every}
use Rattle.transfers.specs.declared.answers.Step.{Step}
use Rattle.transfers.specs.declared.answers.Step.TheVariants.{Done, Waiting}
use Rattle.transfers.specs.declared.sample.Found.{Found}

-- ---- registers that writes leave alone

left_before : (q : ℕ) (a b : List Write) (old : ℕ) → Leaves q a → word_after q old (a ++ b) ≡ word_after q old b
left_before q [] b old h = refl
left_before q (wr r m v ∷ a) b old h = ap (λ (x : Bool). word_after q (cond x (masked old m v) old) (a ++ b)) h.0 ∙ left_before q a b old h.1

left : (q : ℕ) (ws : List Write) (old : ℕ) → Leaves q ws → word_after q old ws ≡ old
left q [] old h = refl
left q (wr r m v ∷ ws) old h = ap (λ (x : Bool). word_after q (cond x (masked old m v) old) ws) h.0 ∙ left q ws old h.1

left_after : (q : ℕ) (a b : List Write) (old : ℕ) → Leaves q b → word_after q old (a ++ b) ≡ word_after q old a
left_after q [] b old h = left q b old h
left_after q (wr r m v ∷ a) b old h = left_after q a b (cond (eqb q r) (masked old m v) old) h

-- A register that is none of EP_BUFFER_CONTROL 0, SIE_STATUS, BUFF_STATUS and INTE, nor a delay.
record Other (q : ℕ) : Type 0 where
  buffer : eqb q 0x5010_0080 ≡ false
  delay : eqb q 0 ≡ false
  status : eqb q 0x5011_0050 ≡ false
  buffs : eqb q 0x5011_0058 ≡ false
  inte : eqb q 0x5011_0090 ≡ false

sie_other : Other 0x5011_004C
sie_other = record { buffer = refl; delay = refl; status = refl; buffs = refl; inte = refl }

whom_other : Other 0x5011_0000
whom_other = record { buffer = refl; delay = refl; status = refl; buffs = refl; inte = refl }

epx_other : Other 0x5010_0100
epx_other = record { buffer = refl; delay = refl; status = refl; buffs = refl; inte = refl }

-- ---- what leaves such a register alone

module _ (q : ℕ) (o : Other q) where
  then : (a b : List Write) → Leaves q a → Leaves q b → Leaves q (a ++ b)
  then a b h k = every_append (λ r m v. eqb q r ≡ false) a b h k

  arm_leaves : (f : Bool) (a : Arm) → Leaves q (arm_writes f a)
  unfolding arm_writes
  arm_leaves f a = (o.buffer, (o.delay, (o.buffer, tt)))

  enable_leaves : (p n : ℕ) → Leaves q (enable_writes p n)
  unfolding enable_writes
  enable_leaves p n = (o.status, (o.buffs, (o.inte, tt)))

  polled_leaves : Leaves q (polled ∷ [])
  polled_leaves = (o.status, tt)

  completes_leaves : Leaves q (completes ∷ [])
  completes_leaves = (o.status, tt)

  quiets_leaves : Leaves q quiets
  quiets_leaves = (o.buffs, (o.inte, tt))

  in_two_leaves : (w : ℕ) (c : InPacketiser) (k : ℕ) → Leaves q (in_arm_two w c k).writes
  in_two_leaves w c k = in_two_every (λ r m v. eqb q r ≡ false) arm_leaves w c k

  out_two_leaves : (w : ℕ) (c : OutCounters) (k : ℕ) (buf m : List ℕ) → Leaves q (out_arm_two w c k buf m).writes
  out_two_leaves w c k buf m = out_two_every (λ r m v. eqb q r ≡ false) arm_leaves w c k buf m

  goes : GoesOn (λ r m v. eqb q r ≡ false)
  goes = record { arm = arm_leaves; enable = enable_leaves; poll = o.status; wait = o.inte; quiet = quiets_leaves }

  -- ---- a step that doesn't wait

  abbrev Quits : Outcome → Type 0
  Quits u = ((again : Bool) → u.answer ≡ Ok (Waiting again) → ⊥) → Leaves q u.writes

  setup_done_quits : (ph : DataPhase) (short : Bool) (x : Request) (n : ℕ) (buf m : List ℕ) → Quits (setup_done ph short x n buf m)
  setup_done_quits phase_in true x n buf m f = tt
  setup_done_quits phase_in false x n buf m f = absurd (f true refl)
  setup_done_quits phase_out true x n buf m f = tt
  setup_done_quits phase_out false x n buf m f = absurd (f true refl)
  setup_done_quits phase_none short x n buf m f = absurd (f true refl)

  in_done_quits : (k : Kind) (status : Bool) (x : Request) (d : InDepacketiser) (m buf : List ℕ) → Quits (in_done k status x d m buf)
  in_done_quits (control c) true x d m buf f = tt
  in_done_quits (control c) false x d m buf f = absurd (f true refl)
  in_done_quits (bulk b) status x d m buf f = tt

  in_second_quits : (b : Bool) (h : InRetiring) (x : Request) (status : Bool) (m : List ℕ) → Quits (in_second_done b h x status m)
  in_second_quits true h x status m f = tt
  in_second_quits false h x status m f = in_done_quits x.kind status x h.packets m h.buffer f

  in_first_quits : (b : Bool) (g : InRetiring) (w : ℕ) (x : Request) (status : Bool) (m : List ℕ) → Quits (in_first_done b g w x status m)
  in_first_quits true g w x status m f = tt
  in_first_quits false g w x status m f = let h = in_retire_one w g.packets g.inflight g.buffer m in (o.status, in_second_quits h.long h x status m f)

  out_control_quits : (status : Bool) (x : Request) (received : ℕ) (m buf : List ℕ) → Quits (out_control_done status x received m buf)
  out_control_quits true x received m buf f = tt
  out_control_quits false x received m buf f = absurd (f true refl)

  out_done_quits : (k : Kind) (x : Request) (st : OutStage) (parity : Bool) (m buf : List ℕ) → Quits (out_done k x st parity m buf)
  out_done_quits (control c) x st parity m buf f = out_control_quits st.status x st.received m buf f
  out_done_quits (bulk b) x st parity m buf f = tt

  keeping_quits : (b : Bool) (buf : List ℕ) (u : Outcome) → Quits u → Quits (keeping b buf u)
  keeping_quits true buf u h f = h f
  keeping_quits false buf u h f = h f

  complete_quits : (x : Request) (st : Stage) (w : ℕ) (buf m : List ℕ) → Quits (stage_step Complete x st w buf m)
  unfolding setup_step in_step in_complete out_step out_complete
  complete_quits x setup_stage w buf m f = let c = control_of x.kind in setup_done_quits c.phase (ltb x.length c.wLength) x c.wLength buf m f
  complete_quits x (in_stage st) w buf m f =
      let b = lent st.status buf in
      let g = in_retire_one w (in_received st) st.inflight b m in
      keeping_quits st.status buf (in_step Complete x st w b m) (λ e. (o.buffs, (o.inte, in_first_quits g.long g w x st.status m e))) f
  complete_quits x (out_stage st) w buf m f =
      let b = lent st.status buf in
      keeping_quits st.status buf (out_step Complete x st w b m) (λ e. (o.buffs, (o.inte, (o.status, out_done_quits x.kind x st (out_retire_two w st.retire st.inflight).parity m b e)))) f

  module _ (s : Sample) where
    polls_quits : (x : Request) (st : Stage) (buf m : List ℕ) → Quits (polls (classify s.status s.intr) x st s.buffers buf m)
    polls_quits x st buf m = by_poll s (λ (p : Option Found) (a c : Bool). Quits (polls p x st s.buffers buf m))
        (λ c f. (o.status, (o.inte, tt)))
        (λ f. (o.status, complete_quits x st s.buffers buf m f))
        (λ e f. (o.status, failed_every (λ r m v. eqb q r ≡ false) goes e x st s.buffers buf m))
        (λ f. (o.status, neither_every (λ r m v. eqb q r ≡ false) goes x st s.buffers buf m))

    step_if_quits : (a b : Bool) (r : Run) (buf m : List ℕ) → Quits (step_if a b r s buf m)
    unfolding acts
    step_if_quits false b r buf m f = tt
    step_if_quits true false r buf m f = tt
    step_if_quits true true r buf m f = polls_quits r.request r.stage buf m f

    step_lent_quits : (l b : Bool) (t : Option Run) (buf m : List ℕ) → Quits (step_lent l b t s buf m)
    step_lent_quits false b t buf m f = tt
    step_lent_quits true b None buf m f = tt
    step_lent_quits true b (Some r) buf m f = step_if_quits (may_step b r) (eqb (length buf) r.request.length) r buf m f

starts_none : (filling : Bool) (t : Option Run) (s : Sample) (buf m log : List ℕ) → ends_stage s ≡ false → StartsNone (step_of filling t s buf m log).writes
starts_none f t s buf m log e = record {
  sie = step_every (λ r m v. eqb 0x5011_004C r ≡ false) (goes 0x5011_004C sie_other) f t s buf m log e;
  whom = step_every (λ r m v. eqb 0x5011_0000 r ≡ false) (goes 0x5011_0000 whom_other) f t s buf m log e;
  epx = step_every (λ r m v. eqb 0x5010_0100 r ≡ false) (goes 0x5010_0100 epx_other) f t s buf m log e;
}

ends_none : (filling : Bool) (t : Option Run) (s : Sample) (buf m log : List ℕ) → let u = step_of filling t s buf m log in ((again : Bool) → u.answer ≡ Ok (Waiting again) → ⊥) → StartsNone u.writes
unfolding step_of
ends_none b t s buf m log f = record {
  sie = step_lent_quits 0x5011_004C sie_other s (lent_fits m log) b t buf m f;
  whom = step_lent_quits 0x5011_0000 whom_other s (lent_fits m log) b t buf m f;
  epx = step_lent_quits 0x5010_0100 epx_other s (lent_fits m log) b t buf m f;
}

-- ---- the same stage and request

module _ (x : Request) where
  keeping_remains : (st : Stage) (b : Bool) (buf : List ℕ) (u : Outcome) → Remains x st u.next → Remains x st (keeping b buf u).next
  keeping_remains st true buf u h = h
  keeping_remains st false buf u h = h

  in_second_remains : (st : InStage) (b : Bool) (h : InRetiring) (w : ℕ) (m : List ℕ) → Remains x (in_stage st) (in_second_moved b h w x st m).next
  unfolding in_rearm
  in_second_remains st true h w m = over refl
  in_second_remains st false h w m = onward _ refl refl

  in_first_remains : (st : InStage) (b : Bool) (g : InRetiring) (w : ℕ) (m : List ℕ) → Remains x (in_stage st) (in_first_moved b g w x st m).next
  in_first_remains st true g w m = over refl
  in_first_remains st false g w m = let h = in_retire_one w g.packets g.inflight g.buffer m in in_second_remains st h.long h w m

  failed_remains : (e : UsbError) (st : Stage) (w : ℕ) (buf m : List ℕ) → Remains x st (stage_step (Failed e) x st w buf m).next
  unfolding setup_step in_step out_step
  failed_remains e setup_stage w buf m = over refl
  failed_remains e (in_stage st) w buf m = keeping_remains (in_stage st) st.status buf (in_step (Failed e) x st w (lent st.status buf) m) (over refl)
  failed_remains e (out_stage st) w buf m = keeping_remains (out_stage st) st.status buf (out_step (Failed e) x st w (lent st.status buf) m) (over refl)

  neither_remains : (st : Stage) (w : ℕ) (buf m : List ℕ) → Remains x st (stage_step Neither x st w buf m).next
  unfolding setup_step in_step out_step in_move out_move
  neither_remains setup_stage w buf m = onward setup_stage refl refl
  neither_remains (in_stage st) w buf m =
      let b = lent st.status buf in
      let g = in_retire_one w (in_received st) st.inflight b m in
      keeping_remains (in_stage st) st.status buf (in_step Neither x st w b m) (in_first_remains st g.long g w m)
  neither_remains (out_stage st) w buf m = keeping_remains (out_stage st) st.status buf (out_step Neither x st w (lent st.status buf) m) (onward _ refl refl)

  module _ (st : Stage) (s : Sample) (goes : ends_stage s ≡ false) where
    polls_remains : (buf m : List ℕ) → Remains x st (polls (classify s.status s.intr) x st s.buffers buf m).next
    polls_remains buf m = by_poll s (λ (p : Option Found) (a c : Bool). (not a && c) ≡ false → Remains x st (polls p x st s.buffers buf m).next)
        (λ c e. onward st refl refl)
        (λ e. no e)
        (λ f e. failed_remains f st s.buffers buf m)
        (λ e. neither_remains st s.buffers buf m)
        goes

    step_if_remains : (a b : Bool) (buf m : List ℕ) → Remains x st (step_if a b (record { request = x; stage = st }) s buf m).next
    unfolding acts
    step_if_remains false b buf m = onward st refl refl
    step_if_remains true false buf m = onward st refl refl
    step_if_remains true true buf m = polls_remains buf m

    step_lent_remains : (l f : Bool) (buf m : List ℕ) → Remains x st (step_lent l f (Some (record { request = x; stage = st })) s buf m).next
    step_lent_remains false f buf m = onward st refl refl
    step_lent_remains true f buf m = step_if_remains (may_step f (record { request = x; stage = st })) (eqb (length buf) x.length) buf m

remains : (filling : Bool) (x : Request) (st : Stage) (s : Sample) (buf m log : List ℕ) → ends_stage s ≡ false → Remains x st (step_of filling (Some (record { request = x; stage = st })) s buf m log).next
unfolding step_of
remains f x st s buf m log e = step_lent_remains x st s e (lent_fits m log) f buf m

-- ---- a stage's start, with its packets' writes in the middle

module _ (t : Target) (n : ℕ) (d : Direction) (ws : List Write) (arm : (q : ℕ) → Other q → Leaves q ws) where
  abbrev rest : List Write
  rest = ws ++ (enable_writes t.size n ++ go_writes d)

  rest_leaves : (q : ℕ) → Other q → eqb q 0x5011_004C ≡ false → Leaves q rest
  unfolding go_writes
  rest_leaves q o e =
      then q o ws (enable_writes t.size n ++ go_writes d) (arm q o)
      (then q o (enable_writes t.size n) (go_writes d) (enable_leaves q o t.size n) (e, (o.delay, (e, tt))))

  head_leaves : Leaves 0x5011_004C (head_writes t n)
  unfolding head_writes
  head_leaves = (refl, (refl, (refl, (refl, (refl, tt)))))

  stage_points : (old : ℕ) → t.address ≤ 127 → t.endpoint ≤ 15 → PointsAt t.address t.endpoint t.size n old (head_writes t n ++ rest)
  stage_points old h k =
      let p = head_points t n old h k in
      record {
        epx = ap read_endpoint_control (left_after 0x5010_0100 (head_writes t n) rest old (rest_leaves 0x5010_0100 epx_other refl)) ∙ p.epx;
        whom = ap read_addr_endp (left_after 0x5011_0000 (head_writes t n) rest old (rest_leaves 0x5011_0000 whom_other refl)) ∙ p.whom;
      }

  stage_starts : (old : ℕ) → Starts d old (head_writes t n ++ rest)
  stage_starts old =
      let q : ℕ = 0x5011_004C in
      let en = enable_writes t.size n in
      record {
        going =
            ap read_sie_ctrl (left_before q (head_writes t n) rest old head_leaves ∙ left_before q ws (en ++ go_writes d) old (arm q sie_other) ∙ left_before q en (go_writes d) old (enable_leaves q sie_other t.size n))
            ∙ (go_starts d old).going;
      }

-- ---- a stage that is complete

waiting_refused : {A : Type 0} (r : Refusal) (b : Bool) → Err r ≡ Ok (Waiting b) → A
waiting_refused r b e = absurd (let z : ◌≡◌ {A = ℕ} 0 1 = cc in omega arith)

waiting_done : {A : Type 0} (n : ℕ) (b : Bool) → ◌≡◌ {A = Result Step Refusal} (Ok (Done n)) (Ok (Waiting b)) → A
waiting_done n b e = absurd (let z : ◌≡◌ {A = ℕ} 0 1 = cc in omega arith)

setup_not : (d : Direction) → setup_now ≡ status_now d → ⊥
setup_not d e = let z : ◌≡◌ {A = ℕ} 0 1 = cc in omega arith

data_not : (c d : Direction) → data_now c ≡ status_now d → ⊥
data_not c d e = let z : ◌≡◌ {A = ℕ} 0 1 = cc in omega arith

later_way : (b : Bool) (d : Direction) → direction_now (later_stage b d) ≡ d
later_way true d = refl
later_way false d = refl

module _ (a p : ℕ) (ph : DataPhase) (wLength n old : ℕ) (near : a ≤ 127) where
  abbrev asks : Request
  asks = control_request a p ph wLength n

  -- Where it waits, the next stage has begun, and it was not the status.
  unfoldable Goes : ControlStage → Outcome → Type 0
  Goes c u = (again : Bool) → u.answer ≡ Ok (Waiting again) → Enters asks (following c ph) (bytes_now wLength (following c ph)) old u × ((d : Direction) → c ≡ status_now d → ⊥)

  enters_in_lem : (status : Bool) (k : ℕ) (c : ControlStage) (m buf : List ℕ) → following c ph ≡ later_stage status In → bytes_now wLength (following c ph) ≡ k → ((d : Direction) → c ≡ status_now d → ⊥)
      → Goes c (enters_in asks status k m buf)
  unfolding Goes start_in
  enters_in_lem status k c m buf e f y again q =
      let t = target_of asks in
      let g = in_arm_two 0 (in_start_of FixedSize p true k) 0 in
      let arm : (r : ℕ) → Other r → Leaves r g.writes = λ r o. in_two_leaves r o 0 (in_start_of FixedSize p true k) 0 in
      let s = start_in t FixedSize status k in (
        record {
          stage = in_stage s.stage;
          next = refl;
          now = sym e;
          points = subst (λ (i : ℕ). PointsAt a 0 p i old s.writes) (sym f) (stage_points t k In g.writes arm old near (omega arith));
          starts = subst (λ (i : Direction). Starts i old s.writes) (sym (ap direction_now e ∙ later_way status In)) (stage_starts t k In g.writes arm old);
        },
        y,
      )

  enters_out_lem : (status : Bool) (received k : ℕ) (c : ControlStage) (from m buf : List ℕ) → following c ph ≡ later_stage status Out → bytes_now wLength (following c ph) ≡ k → ((d : Direction) → c ≡ status_now d → ⊥)
      → Goes c (enters_out asks status received k from m buf)
  unfolding Goes start_out
  enters_out_lem status received k c from m buf e f y again q =
      let t = target_of asks in
      let g = out_arm_two 0 (out_start FixedSize p true k) 0 from m in
      let arm : (r : ℕ) → Other r → Leaves r g.writes = λ r o. out_two_leaves r o 0 (out_start FixedSize p true k) 0 from m in
      let s = start_out t FixedSize status received k from m in (
        record {
          stage = out_stage s.stage;
          next = refl;
          now = sym e;
          points = subst (λ (i : ℕ). PointsAt a 0 p i old s.writes) (sym f) (stage_points t k Out g.writes arm old near (omega arith));
          starts = subst (λ (i : Direction). Starts i old s.writes) (sym (ap direction_now e ∙ later_way status Out)) (stage_starts t k Out g.writes arm old);
        },
        y,
      )

  goes_refused : (c : ControlStage) (u : Outcome) (r : Refusal) → u.answer ≡ Err r → Goes c u
  unfolding Goes
  goes_refused c u r e again q = waiting_refused r again (sym e ∙ q)

  goes_done : (c : ControlStage) (u : Outcome) (k : ℕ) → u.answer ≡ Ok (Done k) → Goes c u
  unfolding Goes
  goes_done c u k e again q = waiting_done k again (sym e ∙ q)

  -- Writes that come before.
  goes_after : (c : ControlStage) (ws : List Write) (u : Outcome) → ((q : ℕ) → Other q → Leaves q ws) → Goes c u → Goes c (after ws u)
  unfolding Goes
  goes_after c ws u h k again q =
      let e = k again q in (
        record {
          stage = e.0.stage;
          next = e.0.next;
          now = e.0.now;
          points = record {
            epx = ap read_endpoint_control (left_before 0x5010_0100 ws u.writes old (h 0x5010_0100 epx_other)) ∙ e.0.points.epx;
            whom = ap read_addr_endp (left_before 0x5011_0000 ws u.writes old (h 0x5011_0000 whom_other)) ∙ e.0.points.whom;
          };
          starts = record { going = ap read_sie_ctrl (left_before 0x5011_004C ws u.writes old (h 0x5011_004C sie_other)) ∙ e.0.starts.going };
        },
        e.1,
      )

  goes_keeping : (c : ControlStage) (b : Bool) (buf : List ℕ) (u : Outcome) → Goes c u → Goes c (keeping b buf u)
  unfolding Goes
  goes_keeping c false buf u h again q = h again q
  goes_keeping c true buf u h again q =
      let e = h again q in
      (record { stage = e.0.stage; next = e.0.next; now = e.0.now; points = e.0.points; starts = e.0.starts }, e.1)

  in_second_goes : (b status : Bool) (h : InRetiring) (m : List ℕ) → Goes (later_stage status In) (in_second_done b h asks status m)
  in_second_goes true status h m = goes_refused (later_stage status In) (in_second_done true h asks status m) _ refl
  in_second_goes false true h m = goes_done (status_now In) (in_second_done false h asks true m) _ refl
  in_second_goes false false h m = enters_out_lem true h.packets.offset 0 (data_now In) [] m h.buffer refl refl (data_not In)

  in_first_goes : (b status : Bool) (g : InRetiring) (w : ℕ) (m : List ℕ) → Goes (later_stage status In) (in_first_done b g w asks status m)
  in_first_goes true status g w m = goes_refused (later_stage status In) (in_first_done true g w asks status m) _ refl
  in_first_goes false status g w m =
      let h = in_retire_one w g.packets g.inflight g.buffer m in
      goes_after (later_stage status In) (completes ∷ []) (in_second_done h.long h asks status m) completes_leaves (in_second_goes h.long status h m)

  out_control_goes : (status : Bool) (received : ℕ) (m buf : List ℕ) → Goes (later_stage status Out) (out_control_done status asks received m buf)
  out_control_goes true received m buf = goes_done (status_now Out) (out_control_done true asks received m buf) received refl
  out_control_goes false received m buf = enters_in_lem true 0 (data_now Out) m buf refl refl (data_not Out)

  in_goes : (st : InStage) (w : ℕ) (buf m : List ℕ) → Goes (later_stage st.status In) (in_step Complete asks st w buf m)
  unfolding in_step in_complete
  in_goes st w buf m =
      let g = in_retire_one w (in_received st) st.inflight buf m in
      goes_after (later_stage st.status In) quiets (in_first_done g.long g w asks st.status m) quiets_leaves (in_first_goes g.long st.status g w m)

  out_goes : (st : OutStage) (w : ℕ) (buf m : List ℕ) → Goes (later_stage st.status Out) (out_step Complete asks st w buf m)
  unfolding out_step out_complete
  out_goes st w buf m =
      let c = later_stage st.status Out in
      let u = out_control_done st.status asks st.received m buf in
      goes_after c quiets (after (completes ∷ []) u) quiets_leaves (goes_after c (completes ∷ []) u completes_leaves (out_control_goes st.status st.received m buf))

module _ (a p wLength n old : ℕ) (near : a ≤ 127) where
  setup_goes : (ph : DataPhase) (short : Bool) (buf m : List ℕ) → Goes a p ph wLength n old near setup_now (setup_done ph short (control_request a p ph wLength n) wLength buf m)
  setup_goes phase_in true buf m = goes_refused a p phase_in wLength n old near setup_now (setup_done phase_in true (control_request a p phase_in wLength n) wLength buf m) _ refl
  setup_goes phase_in false buf m = enters_in_lem a p phase_in wLength n old near false wLength setup_now m buf refl refl setup_not
  setup_goes phase_out true buf m = goes_refused a p phase_out wLength n old near setup_now (setup_done phase_out true (control_request a p phase_out wLength n) wLength buf m) _ refl
  setup_goes phase_out false buf m = enters_out_lem a p phase_out wLength n old near false 0 wLength setup_now buf m buf refl refl setup_not
  setup_goes phase_none short buf m = enters_in_lem a p phase_none wLength n old near true 0 setup_now m buf refl refl setup_not

  stage_goes : (ph : DataPhase) (st : Stage) (w : ℕ) (buf m : List ℕ) → Goes a p ph wLength n old near (stage_now st) (stage_step Complete (control_request a p ph wLength n) st w buf m)
  unfolding setup_step
  stage_goes ph setup_stage w buf m = setup_goes ph (ltb n wLength) buf m
  stage_goes ph (in_stage st) w buf m =
      let b = lent st.status buf in
      let x = control_request a p ph wLength n in
      goes_keeping a p ph wLength n old near (later_stage st.status In) st.status buf (in_step Complete x st w b m) (in_goes a p ph wLength n old near st w b m)
  stage_goes ph (out_stage st) w buf m =
      let b = lent st.status buf in
      let x = control_request a p ph wLength n in
      goes_keeping a p ph wLength n old near (later_stage st.status Out) st.status buf (out_step Complete x st w b m) (out_goes a p ph wLength n old near st w b m)

-- ---- a step that finds it

module _ (a p : ℕ) (ph : DataPhase) (wLength n : ℕ) (st : Stage) (s : Sample) (again : Bool) (old : ℕ) (found : ends_stage s ≡ true) where
  abbrev held : Run
  held = record { request = control_request a p ph wLength n; stage = st }

  abbrev Gone : Outcome → Type 0
  Gone u = u.answer ≡ Ok (Waiting again) → Enters (control_request a p ph wLength n) (following (stage_now st) ph) (bytes_now wLength (following (stage_now st) ph)) old u × ((d : Direction) → stage_now st ≡ status_now d → ⊥)

  polls_gone : (buf m : List ℕ) → a ≤ 127 → Gone (polls (classify s.status s.intr) held.request st s.buffers buf m)
  unfolding Goes
  polls_gone buf m near = by_poll s (λ (u : Option Found) (q c : Bool). (not q && c) ≡ true → Gone (polls u held.request st s.buffers buf m))
      (λ c e. no (sym e))
      (λ e. goes_after a p ph wLength n old near (stage_now st) (polled ∷ []) (stage_step Complete held.request st s.buffers buf m) polled_leaves (stage_goes a p wLength n old near ph st s.buffers buf m) again)
      (λ f e. no (sym e))
      (λ e. no (sym e))
      found

  step_if_gone : (b c : Bool) (buf m : List ℕ) → (b ≡ true → a ≤ 127) → Gone (step_if b c held s buf m)
  unfolding acts
  step_if_gone false c buf m h q = waiting_refused _ again q
  step_if_gone true false buf m h q = waiting_refused _ again q
  step_if_gone true true buf m h q = polls_gone buf m (h refl) q

  near_of : (f : Bool) → may_step f held ≡ true → a ≤ 127
  unfolding sound
  near_of f e =
      let x = held.request in
      let g = (both (request_good x) (stage_good x st) (may_parts f held e).1).0 in
      leb-true a 127 (both (address_good a) (size_good p && kind_good x.kind) g).0

  step_lent_gone : (l f : Bool) (buf m : List ℕ) → Gone (step_lent l f (Some held) s buf m)
  step_lent_gone false f buf m q = waiting_refused _ again q
  step_lent_gone true f buf m q = step_if_gone (may_step f held) (eqb (length buf) n) buf m (near_of f) q

  step_gone : (f : Bool) (buf m log : List ℕ) → Gone (step_of f (Some held) s buf m log)
  unfolding step_of
  step_gone f buf m log q = step_lent_gone (lent_fits m log) f buf m q

-- ---- begin

begin_keeps : (t : Option Run) (a : ℕ) (x : TransferExtras) (p : ℕ) (s : SetupPacket) (ph : DataPhase) (buf m log : List ℕ) → (begin_control_of t a x p s ph buf m log).answer ≡ Ok tt
    → (begin_control_of t a x p s ph buf m log).next ≡ Some (record { request = control_request a p ph s.wLength (length buf); stage = setup_stage })
unfolding begin_control_of
begin_keeps t a x p s ph buf m log q =
    let ok = accepted (begin_refusal (lent_fits m log) (is_idle t) (fields_refusal (address_good a) true (size_good p) true)) t m (begins_control a x p s ph (length buf) m) q in
    ap (λ (b : Beginning). b.next) ok.1

pub control_stages : ControlStages
control_stages = record {
  begin = begin_keeps;
  enters = λ filling a p ph wLength n st s buf m log again old e q. (step_gone a p ph wLength n st s again old e filling buf m log q).0;
  ends = λ filling a p ph wLength n st d s buf m log again e f q. (step_gone a p ph wLength n st s again 0 e filling buf m log q).1 d f;
  remains = remains;
  starts_none = starts_none;
  ends_none = ends_none;
}
