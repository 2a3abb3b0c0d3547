-- The toggle that goes out with a failure or a cancel, along every list of calls. Assumes nothing.
use Rattle.std.specs.Prelude.{Err, None, Ok, Option, Result, Some}
use mathlib.Core.Path.{◌≡◌, refl, sym, ap, ap₂, ◌∙◌, subst}
use mathlib.Core.Bool.{Bool, true, false, not, cond, ◌&&◌}
use mathlib.Core.Logic.{◌⊎◌, inl, inr}
use mathlib.Core.List.{List, [], ◌∷◌}
use Prim.Native.Nat.{ℕ, ◌+◌, ◌<◌}
use native.Mathlib.Omega.{arith}
use lib.Dec.{eqb, leb, ltb}
use lib.ListN.{length}
use borrow.Author.Tests.{ltb-true}
use Rattle.cutting.specs.declared.transfer_type.TransferType.{TransferType}
use Rattle.cutting.specs.declared.packetiser.InPacketiser.{InPacketiser}
use Rattle.cutting.specs.declared.depacketiser.InDepacketiser.{InDepacketiser}
use Rattle.cutting.specs.Cut.{Packet, in_cut_of, out_cut}
use Rattle.cutting.specs.Retire.{in_retire}
use Rattle.transfers.specs.declared.wire.Direction.{Direction}
use Rattle.transfers.specs.declared.wire.Direction.TheVariants.{In, Out}
use Rattle.transfers.specs.declared.refusal.Refusal.{Refusal}
use Rattle.transfers.specs.declared.refusal.Refusal.TheVariants.{LentMemory, State}
use Rattle.transfers.specs.declared.sample.Sample.{Sample}
use Rattle.transfers.specs.declared.sample.Found.{Found}
use Rattle.transfers.specs.declared.sample.Found.TheVariants.{Complete, Failed, Neither}
use Rattle.transfers.specs.declared.driver.Driver.{Driver}
use Rattle.transfers.specs.declared.driver.Run.{Run}
use Rattle.transfers.specs.declared.driver.DeskRule.{DeskRule}
use Rattle.transfers.specs.declared.driver.DeskRule.TheVariants.{One, Two}
use Rattle.transfers.specs.declared.driver.Request.{Request}
use Rattle.transfers.specs.declared.driver.Kind.{Kind}
use Rattle.transfers.specs.declared.driver.Kind.TheVariants.{Control as control, Bulk as bulk_kind}
use Rattle.transfers.specs.declared.driver.Stage.{Stage}
use Rattle.transfers.specs.declared.driver.Stage.TheVariants.{Setup as setup_stage, In as in_stage, Out as out_stage}
use Rattle.transfers.specs.declared.driver.InStage.{InStage}
use Rattle.transfers.specs.declared.driver.OutStage.{OutStage}
use Rattle.transfers.specs.Refusal.{number_of}
use Rattle.transfers.specs.Sample.{full, length_in}
use Rattle.transfers.specs.Retiring.{InRetiring, in_taken, in_retire_if, in_retire_one}
use Rattle.transfers.specs.Log.{Write}
use Rattle.transfers.specs.Writes.{polled, quiets, completes}
use Rattle.transfers.specs.Arming.{in_arm_two}
use Rattle.transfers.specs.Memory.{lent_fits}
use Rattle.transfers.specs.State.{target_of, address_good, endpoint_good, size_good}
use Rattle.transfers.specs.Outcome.{Outcome, after, toggle_in, toggle_out, flipped, start_in, start_out}
use Rattle.transfers.specs.Step.{in_packets, in_received, in_second_done, in_first_done, in_complete, in_rearm, in_second_moved, in_first_moved, in_move, in_found, in_step, lent, keeping, stage_step, polls, acts}
use Rattle.transfers.specs.Calls.{well_formed, refuses, step_of, Cancelling, cancel_if, stage_parity, either_serves, cancel_of, is_idle, fields_refusal, begin_refusal, Beginning, begin_or, begins_control, begin_control_of, bulk_request, begins_bulk_in, begin_bulk_in_of, begins_bulk_out, begin_bulk_out_of}
use Rattle.transfers.specs.Driver.{fresh, toggle_by_rule}
use Rattle.transfers.proofs.OpenPipes.{between}
use Rattle.transfers.proofs.Beginnings.{none_fields, bulk_good}
use Rattle.transfers.proofs.Readiness.{both}
use Rattle.transfers.proofs.WellFormed.{step_well, cancel_well, begin_control_well, begin_bulk_in_well, begin_bulk_out_well}
use Rattle.record.specs.Calls.{Begin, control_begin, bulk_begin, Call, begin, step, cancel, open_pipe, close_pipe, poll_pipe, interrupt, detect, beginning, call}
use Rattle.rules.specs.Fields.{read_buffer_control}
use Rattle.rules.specs.Received.{quiet, complete, ends_stage, slot_of}
use Rattle.rules.specs.Sends.{SentTally, sent_if, sent_one, sent_two, send_two, sent_by, flip_times}
use Rattle.rules.specs.Toggles.{BulkUnderWay, UnderWay, none, bulk, is_done, done_one, done_two, tallied_by, moved_on, stepped_on, tells, failing, retired_before, StepToggle, CancelToggle, CallToggle, TogglesFrom, Toggles}
use Rattle.rules.specs.HandsBack.{ends_transfer, kind_toggle}
use Rattle.rules.proofs.Retired.{no, slot_more}
use Rattle.rules.proofs.InStage.{not_done, waiting_not, refused_not, by_poll, starts_armed, starts as starts_in}
use Rattle.rules.proofs.Arms.{Standing, arm_two_lem}
use Rattle.rules.proofs.Steps.{absurd_done}
use Rattle.rules.proofs.KeepsBytes.{StaysWith, NoToggle, Keeps, first_one, second_one, Long, HeldBy, Nine, parity_toggle, acts_keeps, by_busy, by_idle, same_long}
use Rattle.rules.proofs.Sends.{At, Comes, fails as fails_out, goes as goes_out, finishes as finishes_out, polled_comes, starts as starts_out, same_full, same_flight, flips_slot}
use Rattle.rules.proofs.HandsBack.{Fair, acts_fair, same_toggle}
use Rattle.transfers.specs.declared.answers.Step.TheVariants.{Done, Waiting}
use Rattle.transfers.specs.declared.answers.Step.{Step}

-- ---- receiving: one slot

turned : (c : InDepacketiser) (n : ℕ) → (in_retire c n).rest.parity ≡ not c.parity
unfolding in_retire
turned c n = refl

done_in : (w : ℕ) (c : InDepacketiser) (k : ℕ) (buf m : List ℕ) (s : SentTally) → c.parity ≡ slot_of s.retired → s.armed ≡ s.retired + k
    → let g = in_retire_one w c k buf m in let t = done_one In w s in g.long ≡ false → (g.packets.parity ≡ slot_of t.retired) × (t.armed ≡ t.retired + g.inflight)
unfolding in_retire_one done_one
done_in w c k buf m s turn flight =
    subst (λ (v : Bool). let g = in_retire_if (ltb 0 k && full w c.parity) n c k buf m in let t = sent_if v s in g.long ≡ false → (g.packets.parity ≡ slot_of t.retired) × (t.armed ≡ t.retired + g.inflight)) test
    (by (ltb 0 k && full w c.parity) refl)
  where
    n : ℕ
    n = length_in w c.parity

    test : (ltb 0 k && full w c.parity) ≡ is_done In w s
    test = ap₂ {C = Bool} ◌&&◌ (same_flight s.armed s.retired k flight) (ap (full w) turn ∙ same_full w (slot_of s.retired))

    taken : (l : Bool) → 0 < k → let g = in_taken l n c k buf m in g.long ≡ false → (g.packets.parity ≡ slot_of (s.retired + 1)) × (s.armed ≡ s.retired + 1 + g.inflight)
    taken true z e = no e
    taken false z e = (turned c n ∙ ap not turn ∙ sym (slot_more s.retired), omega arith)

    by : (v : Bool) → (ltb 0 k && full w c.parity) ≡ v → let g = in_retire_if v n c k buf m in let t = sent_if v s in g.long ≡ false → (g.packets.parity ≡ slot_of t.retired) × (t.armed ≡ t.retired + g.inflight)
    by false e f = (turn, flight)
    by true e f = taken (ltb 64 n) (ltb-true 0 k (both (ltb 0 k) (full w c.parity) e).0) f

done_armed : (d : Direction) (w : ℕ) (s : SentTally) → (done_one d w s).armed ≡ s.armed
unfolding done_one
done_armed d w s = by (is_done d w s)
  where
    by : (v : Bool) → (sent_if v s).armed ≡ s.armed
    by true = refl
    by false = refl

-- ---- a bulk IN in its data stage

module _ (a e p : ℕ) (k : TransferType) (b : Bool) (n : ℕ) where
  abbrev in_x : Request
  in_x = bulk_request In a e p b n

  abbrev slots : ℕ
  slots = length (in_cut_of k p b n)

  abbrev in_busy : InStage → Option Run
  in_busy st = Some (record { request = in_x; stage = in_stage st })

  record InAt (st : InStage) (s : SentTally) : Type 0 where
    left : List (Packet ℕ)
    data_stage : st.status ≡ false
    turn : st.retire ≡ slot_of s.retired
    standing : Standing slots b p s.retired s.armed left (in_packets in_x st) st.inflight

  -- What a step that acts comes to.
  data InComes (s t : SentTally) (o : Outcome) : Type 0 where
    fails : o.next ≡ None → not_done o.answer → InComes s t o
    goes : (st : InStage) → o.next ≡ in_busy st → InAt st t → not_done o.answer → InComes s t o
    finishes : o.next ≡ None → o.toggle ≡ flip_times b s.retired → InComes s t o

  after_comes : (s t : SentTally) (ws : List Write) (o : Outcome) → InComes s t o → InComes s t (after ws o)
  after_comes s t ws o (fails q f) = fails q f
  after_comes s t ws o (goes st q h f) = goes st q h f
  after_comes s t ws o (finishes q f) = finishes q f

  module _ (st : InStage) (s : SentTally) (h : InAt st s) (w : ℕ) (buf m : List ℕ) where
    abbrev one : InRetiring
    one = in_retire_one w (in_received st) st.inflight buf m

    abbrev two : InRetiring
    two = in_retire_one w one.packets one.inflight one.buffer m

    abbrev both_done : SentTally
    both_done = done_two In w s

    abbrev on : SentTally
    on = send_two slots w both_done

    first : one.long ≡ false → (one.packets.parity ≡ slot_of (done_one In w s).retired) × ((done_one In w s).armed ≡ (done_one In w s).retired + one.inflight)
    first = done_in w (in_received st) st.inflight buf m s h.turn h.standing.flight

    second : one.long ≡ false → two.long ≡ false → (two.packets.parity ≡ slot_of both_done.retired) × (both_done.armed ≡ both_done.retired + two.inflight)
    second f = done_in w one.packets one.inflight one.buffer m (done_one In w s) (first f).0 (first f).1

    completed : InComes both_done on (in_complete in_x st w buf m)
    unfolding in_complete
    completed = go one.long refl
      where
        then : one.long ≡ false → (v : Bool) → two.long ≡ v → InComes both_done on (in_second_done v two in_x st.status m)
        then f true g = fails refl (refused_not _)
        then f false g = finishes refl (ap (flipped b) (second f g).0 ∙ flips_slot b both_done.retired)

        go : (v : Bool) → one.long ≡ v → InComes both_done on (in_first_done v one w in_x st.status m)
        go true f = fails refl (refused_not _)
        go false f = after_comes both_done on (completes ∷ []) (in_second_done two.long two in_x st.status m) (then f two.long refl)

    rearmed : one.long ≡ false → two.long ≡ false → InComes both_done on (in_rearm in_x st two.packets two.inflight w m two.buffer)
    unfolding in_rearm
    rearmed f g =
        let from = h.standing in
        let z = second f g in
        let armed : both_done.armed ≡ s.armed = done_armed In w (done_one In w s) ∙ done_armed In w s in
        let i = arm_two_lem slots b p w both_done.retired both_done.armed h.left (in_packets in_x st) two.inflight
        (record { slot = from.slot ∙ ap slot_of (sym armed); hands = from.hands; many = ap (λ (j : ℕ). j + length h.left) armed ∙ from.many; flight = z.1; pid = from.pid; size = from.size }) in
        let v = in_arm_two w (in_packets in_x st) two.inflight in
        let next : InStage = record { status = st.status; slot = v.packets.slot; toarm = v.packets.remain; zlp = v.packets.zlp; retire = two.packets.parity; remain = two.packets.remain; offset = two.packets.offset; inflight = v.inflight } in
        let is : v.packets ≡ in_packets in_x next = λ j. record { slot = v.packets.slot; pid = i.standing.pid j; remain = v.packets.remain; size = i.standing.size j; zlp = v.packets.zlp } in
        goes next refl
        (record { left = i.rest; data_stage = h.data_stage; turn = z.0; standing = subst (λ (c : InPacketiser). Standing slots b p both_done.retired on.armed i.rest c v.inflight) is i.standing })
        (waiting_not true)

    moved : InComes both_done on (in_move in_x st w buf m)
    unfolding in_move
    moved = go one.long refl
      where
        then : one.long ≡ false → (v : Bool) → two.long ≡ v → InComes both_done on (in_second_moved v two w in_x st m)
        then f true g = fails refl (refused_not _)
        then f false g = rearmed f g

        go : (v : Bool) → one.long ≡ v → InComes both_done on (in_first_moved v one w in_x st m)
        go true f = fails refl (refused_not _)
        go false f = then f two.long refl

    ready : (f : Found) → InComes both_done on (in_found f in_x st w buf m) → InComes both_done on (after (polled ∷ []) (stage_step f in_x (in_stage st) w buf m))
    unfolding in_step
    ready f c =
        subst (λ (v : Bool). InComes both_done on (after (polled ∷ []) (keeping v buf (in_step f in_x st w (lent v buf) m)))) (sym h.data_stage)
        (after_comes both_done on (polled ∷ []) (in_step f in_x st w buf m) (after_comes both_done on quiets (in_found f in_x st w buf m) c))

  in_comes : (st : InStage) (s : SentTally) → InAt st s → (y : Sample) (buf m : List ℕ)
      → InComes (done_two In y.buffers s) (tallied_by (quiet y) In slots y.buffers s) (acts in_x (in_stage st) y buf m)
  unfolding acts
  in_comes st s h y buf m =
      let w = y.buffers in
      by_poll y (λ (u : Option Found) (q c : Bool). InComes (done_two In w s) (tallied_by q In slots w s) (polls u in_x (in_stage st) w buf m))
      (λ c. goes st refl h (waiting_not false))
      (ready st s h w buf m Complete (completed st s h w buf m))
      (λ x. ready st s h w buf m (Failed x) (fails refl (refused_not _)))
      (ready st s h w buf m Neither (moved st s h w buf m))

-- ---- the transfer under way, as the calls tell it

abbrev NotBulkKind : Kind → Type 0
NotBulkKind (control c) = Unit {0}
NotBulkKind (bulk_kind b) = ⊥

abbrev NotBulk : Option Run → Type 0
NotBulk None = Unit {0}
NotBulk (Some r) = NotBulkKind r.request.kind

record InHolds (b : Bool) (packets : ℕ) (s : SentTally) (t : Option Run) : Type 0 where
  a : ℕ
  e : ℕ
  p : ℕ
  k : TransferType
  n : ℕ
  st : InStage
  is : t ≡ in_busy a e p k b n st
  many : packets ≡ length (in_cut_of k p b n)
  at : InAt a e p k b n st s

abbrev out_busy : ℕ → ℕ → ℕ → Bool → ℕ → OutStage → Option Run
out_busy a e p b n st = Some (record { request = bulk_request Out a e p b n; stage = out_stage st })

record OutHolds (b : Bool) (packets : ℕ) (s : SentTally) (t : Option Run) : Type 0 where
  a : ℕ
  e : ℕ
  p : ℕ
  k : TransferType
  first : List ℕ
  st : OutStage
  is : t ≡ out_busy a e p b (length first) st
  many : packets ≡ length (out_cut k p b first)
  at : At a e p k b first st s

abbrev BulkHolds : Direction → Bool → ℕ → SentTally → Option Run → Type 0
BulkHolds In b packets s t = InHolds b packets s t
BulkHolds Out b packets s t = OutHolds b packets s t

abbrev Holds : UnderWay → Option Run → Type 0
Holds none t = NotBulk t
Holds (bulk u) t = BulkHolds u.direction u.toggle u.packets u.tally t

-- ---- which of the two toggles goes out

handed : (rule : DeskRule) (t v w : Bool) → t ≡ w → v ≡ w → toggle_by_rule rule t v ≡ w
handed One t v w e f = e
handed Two t v w e f = f

handed_failing : (rule : DeskRule) (t v b : Bool) (n : ℕ) → t ≡ b → v ≡ flip_times b n → toggle_by_rule rule t v ≡ failing rule b n
handed_failing One t v b n e f = e
handed_failing Two t v b n e f = f

-- ---- a step

-- What it hands out, and that the state still is what the calls tell.
abbrev Told : DeskRule → UnderWay → Sample → Outcome → Type 0
Told rule u y o = StepToggle rule u y o.answer (toggle_by_rule rule o.toggle o.moved) × Holds (stepped_on u y o.answer) o.next

-- A bulk transfer's step that acts, by its answer, from: how it goes on, what done hands out, and rule 2's toggle with the packets of earlier steps and at 9.
acts_told : (rule : DeskRule) (u : BulkUnderWay) (x : Request) (st : Stage) (y : Sample) (buf m : List ℕ) → let o = acts x st y buf m in kind_toggle x.kind ≡ u.toggle
    → (StaysWith x o.next → Holds (bulk (moved_on u y)) o.next)
    → ((count : ℕ) → o.answer ≡ Ok (Done count) → o.toggle ≡ flip_times u.toggle (done_two u.direction y.buffers u.tally).retired)
    → parity_toggle x st ≡ flip_times u.toggle u.tally.retired
    → ((n : ℕ) → Nine x.kind st y.buffers buf m o.buffer o.moved → eqb n 9 ≡ true → o.moved ≡ flip_times u.toggle (retired_before n u y))
    → Told rule (bulk u) y o
acts_told rule u x st y buf m kd goes_on ends earlier nine = by o.answer refl (acts_fair x st y buf m) (acts_keeps x st y buf m)
  where
    o : Outcome
    o = acts x st y buf m

    N : List ℕ → Bool → Type 0
    N = Nine x.kind st y.buffers buf m

    refused : (n : ℕ) → ((o.buffer ≡ buf) × (o.moved ≡ parity_toggle x st) × (eqb n 9 ≡ false)) ⊎ (N o.buffer o.moved × (eqb n 9 ≡ true)) → o.moved ≡ flip_times u.toggle (retired_before n u y)
    refused n (inl z) = rw z.2 (z.1 ∙ earlier)
    refused n (inr z) = nine n z.0 z.1

    by : (a : Result Step Refusal) → o.answer ≡ a → Fair (kind_toggle x.kind) a o.toggle o.next → Keeps buf x (parity_toggle x st) N a o.buffer o.toggle o.moved o.next
        → StepToggle rule (bulk u) y a (toggle_by_rule rule o.toggle o.moved) × Holds (stepped_on (bulk u) y a) o.next
    by (Ok (Waiting again)) q f k = (handed rule o.toggle o.moved u.toggle (f.0 ∙ kd) (k.0 ∙ f.0 ∙ kd), goes_on k.1)
    by (Ok (Done count)) q f k = (handed rule o.toggle o.moved _ (ends count q) (k.0 ∙ ends count q), subst NotBulk (sym f) tt)
    by (Err why) q f k =
        let e = handed_failing rule o.toggle o.moved u.toggle (retired_before (number_of why) u y) (f.0 ∙ kd) (refused (number_of why) k) in
        let over : NotBulk o.next = subst NotBulk (sym f.1) tt in
        rw f.2 (e, over)

-- A step refused with 15 or 16.
held_refused : (rule : DeskRule) (u : BulkUnderWay) (y : Sample) (r : Run) (why : Refusal) (m buf : List ℕ) → kind_toggle r.request.kind ≡ u.toggle → ends_transfer (number_of why) ≡ false → Holds (bulk u) (Some r)
    → Told rule (bulk u) y (refuses (Some r) why m buf)
held_refused rule u y r why m buf kd f h =
    let e = same_toggle r.request.kind ∙ kd in
    rw f (handed rule _ _ u.toggle e e, h)

-- ---- a step of a bulk IN

-- 9: the next slot's packet is the long one, or was retired before it.
long_parity : (st : InStage) (w : ℕ) (buf m : List ℕ) → Long st w buf m → (first_one st w buf m).packets.parity ≡ cond (ltb 64 (length_in w st.retire)) st.retire (not st.retire)
unfolding in_retire_one
long_parity st w buf m = go (ltb 0 st.inflight && full w st.retire) refl
  where
    n : ℕ
    n = length_in w st.retire

    taken : (l : Bool) → (in_taken l n (in_received st) st.inflight buf m).packets.parity ≡ cond l st.retire (not st.retire)
    taken true = refl
    taken false = turned (in_received st) n

    go : (t : Bool) → (ltb 0 st.inflight && full w st.retire) ≡ t
        → (let g = in_retire_if t n (in_received st) st.inflight buf m in (g.long ≡ true) ⊎ ((g.long ≡ false) × ((second_one w g m).long ≡ true)))
        → (in_retire_if t n (in_received st) st.inflight buf m).packets.parity ≡ cond (ltb 64 n) st.retire (not st.retire)
    go false e (inl f) = no (sym f)
    go false e (inr f) = no (sym f.1 ∙ ap (λ (t : Bool). (in_retire_if t n (in_received st) st.inflight buf m).long) e)
    go true e z = taken (ltb 64 n)

flip_more : (b : Bool) (r : ℕ) → flipped b (not (slot_of r)) ≡ flip_times b (r + 1)
flip_more b r = ap (flipped b) (sym (slot_more r)) ∙ flips_slot b (r + 1)

in_told : (rule : DeskRule) (b : Bool) (packets : ℕ) (s : SentTally) (t : Option Run) (y : Sample) (filling : Bool) (buf m log : List ℕ) → InHolds b packets s t
    → Told rule (bulk (record { direction = In; toggle = b; packets = packets; tally = s })) y (step_of filling t y buf m log)
in_told rule b packets s t y filling buf m log h =
    subst (λ (t : Option Run). Told rule (bulk u) y (step_of filling t y buf m log)) (sym h.is)
    (by_busy (Told rule (bulk u) y) filling r y buf m log (held_refused rule u y r LentMemory m buf refl refl here) (held_refused rule u y r State m buf refl refl here)
    (λ f g l. acts_told rule u x (in_stage h.st) y buf m refl (goes_on comes) (ends comes) (ap (flipped b) h.at.turn ∙ flips_slot b s.retired) nine))
  where
    u : BulkUnderWay
    u = record { direction = In; toggle = b; packets = packets; tally = s }

    x : Request
    x = in_x h.a h.e h.p h.k b h.n

    r : Run
    r = record { request = x; stage = in_stage h.st }

    here : InHolds b packets s (Some r)
    here = record { a = h.a; e = h.e; p = h.p; k = h.k; n = h.n; st = h.st; is = refl; many = h.many; at = h.at }

    o : Outcome
    o = acts x (in_stage h.st) y buf m

    w : ℕ
    w = y.buffers

    ComesTo : Type 0
    ComesTo = InComes h.a h.e h.p h.k b h.n (done_two In w s) (tallied_by (quiet y) In (slots h.a h.e h.p h.k b h.n) w s) o

    comes : ComesTo
    comes = in_comes h.a h.e h.p h.k b h.n h.st s h.at y buf m

    goes_on : ComesTo → StaysWith x o.next → Holds (bulk (moved_on u y)) o.next
    goes_on (fails f g) z = absurd (subst (StaysWith x) f z)
    goes_on (finishes f g) z = absurd (subst (StaysWith x) f z)
    goes_on (goes st f at g) z = record {
      a = h.a;
      e = h.e;
      p = h.p;
      k = h.k;
      n = h.n;
      st = st;
      is = f;
      many = h.many;
      at = subst (λ (j : ℕ). InAt h.a h.e h.p h.k b h.n st (tallied_by (quiet y) In j w s)) (sym h.many) at;
    }

    ends : ComesTo → (count : ℕ) → o.answer ≡ Ok (Done count) → o.toggle ≡ flip_times b (done_two In w s).retired
    ends (fails f g) count q = absurd_done o.answer count g q
    ends (goes st f at g) count q = absurd_done o.answer count g q
    ends (finishes f g) count q = g

    nine : (n : ℕ) → Nine x.kind (in_stage h.st) w buf m o.buffer o.moved → eqb n 9 ≡ true → o.moved ≡ flip_times b (retired_before n u y)
    nine n held f =
        let z = subst (λ (c : Bool). HeldBy x.kind c h.st w buf m o.buffer o.moved) h.at.data_stage held in
        rw f (z.2 ∙ ap (flipped b) (long_parity h.st w buf m z.0) ∙ by (ltb 64 (length_in w h.st.retire)) (ap (λ (c : Bool). ltb 64 (length_in w c)) h.at.turn ∙ ap (ltb 64) (same_long w (slot_of s.retired))))
      where
        by : (l : Bool) → l ≡ ltb 64 (read_buffer_control w (slot_of s.retired)).LENGTH
            → flipped b (cond l h.st.retire (not h.st.retire)) ≡ flip_times b (cond (not (ltb 64 (read_buffer_control w (slot_of s.retired)).LENGTH)) (s.retired + 1) s.retired)
        by true e = rw (sym e) (ap (flipped b) h.at.turn ∙ flips_slot b s.retired)
        by false e = rw (sym e) (ap (λ (c : Bool). flipped b (not c)) h.at.turn ∙ flip_more b s.retired)

-- ---- a step of a bulk OUT

done_out : (w : ℕ) (s : SentTally) → sent_two w s ≡ done_two Out w s
unfolding sent_one done_one
done_out w s = refl

-- The step goes on: no TRANS_COMPLETE, or nothing raised.
tally_on : (packets w : ℕ) (s : SentTally) (q c : Bool) → (not q && c) ≡ false → sent_by true q c packets w s ≡ tallied_by q Out packets w s
tally_on packets w s true c e = refl
tally_on packets w s false true e = no e
tally_on packets w s false false e = ap (send_two packets w) (done_out w s)

tally_end : (packets w : ℕ) (s : SentTally) (q c : Bool) → (not q && c) ≡ true → sent_by true q c packets w s ≡ done_two Out w s
tally_end packets w s true c e = no (sym e)
tally_end packets w s false true e = done_out w s
tally_end packets w s false false e = no (sym e)

out_comes : (a e p : ℕ) (k : TransferType) (b : Bool) (first : List ℕ) (st : OutStage) (s : SentTally) → At a e p k b first st s → (y : Sample) (buf m log : List ℕ)
    → Comes a e p k b first (ends_stage y) (sent_by true (quiet y) (complete y) (length (out_cut k p b first)) y.buffers s) (acts (bulk_request Out a e p b (length first)) (out_stage st) y buf m)
unfolding acts
out_comes a e p k b first st s h y buf m log = polled_comes a e p k b first st s h (record { call = record { sample = y; memory = m; log = log }; bytes = buf })

out_told : (rule : DeskRule) (b : Bool) (packets : ℕ) (s : SentTally) (t : Option Run) (y : Sample) (filling : Bool) (buf m log : List ℕ) → OutHolds b packets s t
    → Told rule (bulk (record { direction = Out; toggle = b; packets = packets; tally = s })) y (step_of filling t y buf m log)
out_told rule b packets s t y filling buf m log h =
    subst (λ (t : Option Run). Told rule (bulk u) y (step_of filling t y buf m log)) (sym h.is)
    (by_busy (Told rule (bulk u) y) filling r y buf m log (held_refused rule u y r LentMemory m buf refl refl here) (held_refused rule u y r State m buf refl refl here)
    (λ f g l. acts_told rule u x (out_stage h.st) y buf m refl (goes_on comes) (ends comes) (ap (flipped b) h.at.stands.turn ∙ flips_slot b s.retired) (λ n z. absurd z)))
  where
    u : BulkUnderWay
    u = record { direction = Out; toggle = b; packets = packets; tally = s }

    x : Request
    x = bulk_request Out h.a h.e h.p b (length h.first)

    r : Run
    r = record { request = x; stage = out_stage h.st }

    here : OutHolds b packets s (Some r)
    here = record { a = h.a; e = h.e; p = h.p; k = h.k; first = h.first; st = h.st; is = refl; many = h.many; at = h.at }

    o : Outcome
    o = acts x (out_stage h.st) y buf m

    w : ℕ
    w = y.buffers

    packets_out : ℕ
    packets_out = length (out_cut h.k h.p b h.first)

    ComesTo : Type 0
    ComesTo = Comes h.a h.e h.p h.k b h.first (ends_stage y) (sent_by true (quiet y) (complete y) packets_out w s) o

    comes : ComesTo
    comes = out_comes h.a h.e h.p h.k b h.first h.st s h.at y buf m log

    goes_on : ComesTo → StaysWith x o.next → Holds (bulk (moved_on u y)) o.next
    goes_on (fails_out c f g) z = absurd (subst (StaysWith x) f z)
    goes_on (finishes_out c f g i) z = absurd (subst (StaysWith x) f z)
    goes_on (goes_out c st f at g) z = record {
      a = h.a;
      e = h.e;
      p = h.p;
      k = h.k;
      first = h.first;
      st = st;
      is = f;
      many = h.many;
      at = subst (λ (j : ℕ). At h.a h.e h.p h.k b h.first st (tallied_by (quiet y) Out j w s)) (sym h.many)
          (subst (At h.a h.e h.p h.k b h.first st) (tally_on packets_out w s (quiet y) (complete y) c) at);
    }

    ends : ComesTo → (count : ℕ) → o.answer ≡ Ok (Done count) → o.toggle ≡ flip_times b (done_two Out w s).retired
    ends (fails_out c f g) count q = absurd_done o.answer count g q
    ends (goes_out c st f at g) count q = absurd_done o.answer count g q
    ends (finishes_out c f g i) count q = i ∙ ap (λ (j : SentTally). flip_times b j.retired) (tally_end packets_out w s (quiet y) (complete y) c)

-- ---- a step with no bulk transfer under way

stays_none : (x : Request) (t : Option Run) → NotBulkKind x.kind → StaysWith x t → NotBulk t
stays_none x None h s = tt
stays_none x (Some r) h s = subst (λ (z : Request). NotBulkKind z.kind) (sym s) h

none_in : (k : Kind) → NotBulkKind k → toggle_in k ≡ false
none_in (control c) h = refl
none_in (bulk_kind b) h = absurd h

none_out : (k : Kind) (parity : Bool) → NotBulkKind k → toggle_out k parity ≡ false
none_out (control c) parity h = refl
none_out (bulk_kind b) parity h = absurd h

none_done : (k : Kind) (t : Bool) → NotBulkKind k → NoToggle k t → t ≡ false
none_done (control c) t h e = e
none_done (bulk_kind b) t h e = absurd h

none_nine : (k : Kind) (st : Stage) (w : ℕ) (buf m b : List ℕ) (v : Bool) → NotBulkKind k → Nine k st w buf m b v → v ≡ false
none_nine k setup_stage w buf m b v h z = absurd z
none_nine k (out_stage st) w buf m b v h z = absurd z
none_nine k (in_stage st) w buf m b v h z = by st.status z
  where
    by : (s : Bool) → HeldBy k s st w buf m b v → v ≡ false
    by true z = z.2 ∙ none_out k (first_one st w [] m).packets.parity h
    by false z = z.2 ∙ none_out k (first_one st w buf m).packets.parity h

none_told : (rule : DeskRule) (t : Option Run) (y : Sample) (filling : Bool) (buf m log : List ℕ) → NotBulk t → Told rule none y (step_of filling t y buf m log)
none_told rule None y filling buf m log h = by_idle (Told rule none y) filling y buf m log (handed rule false false false refl refl, tt) (handed rule false false false refl refl, tt)
none_told rule (Some r) y filling buf m log h =
    by_busy (Told rule none y) filling r y buf m log (held_out, h) (held_out, h)
    (λ f g l.
    let fair = acts_fair x r.stage y buf m in
    let keeps = acts_keeps x r.stage y buf m in
    (handed rule o.toggle o.moved false (first o.answer fair keeps) (second o.answer fair keeps), over o.answer fair keeps))
  where
    x : Request
    x = r.request

    o : Outcome
    o = acts x r.stage y buf m

    came : toggle_in x.kind ≡ false
    came = none_in x.kind h

    held_out : toggle_by_rule rule (toggle_in x.kind) (toggle_in x.kind) ≡ false
    held_out = handed rule (toggle_in x.kind) (toggle_in x.kind) false came came

    first : (w : Result Step Refusal) → Fair (kind_toggle x.kind) w o.toggle o.next
        → Keeps buf x (parity_toggle x r.stage) (Nine x.kind r.stage y.buffers buf m) w o.buffer o.toggle o.moved o.next → o.toggle ≡ false
    first (Ok (Waiting again)) f k = f.0 ∙ sym (same_toggle x.kind) ∙ came
    first (Ok (Done count)) f k = none_done x.kind o.toggle h k.1
    first (Err why) f k = f.0 ∙ sym (same_toggle x.kind) ∙ came

    second : (w : Result Step Refusal) → Fair (kind_toggle x.kind) w o.toggle o.next
        → Keeps buf x (parity_toggle x r.stage) (Nine x.kind r.stage y.buffers buf m) w o.buffer o.toggle o.moved o.next → o.moved ≡ false
    second (Ok (Waiting again)) f k = k.0 ∙ first (Ok (Waiting again)) f k
    second (Ok (Done count)) f k = k.0 ∙ first (Ok (Done count)) f k
    second (Err why) f (inl z) = z.1 ∙ none_out x.kind (stage_parity r.stage) h
    second (Err why) f (inr z) = none_nine x.kind r.stage y.buffers buf m o.buffer o.moved h z.0

    over : (w : Result Step Refusal) → Fair (kind_toggle x.kind) w o.toggle o.next
        → Keeps buf x (parity_toggle x r.stage) (Nine x.kind r.stage y.buffers buf m) w o.buffer o.toggle o.moved o.next → NotBulk o.next
    over (Ok (Waiting again)) f k = stays_none x o.next h k.1
    over (Ok (Done count)) f k = subst NotBulk (sym f) tt
    over (Err why) f k = subst NotBulk (sym f.1) tt

step_told : (rule : DeskRule) (u : UnderWay) (t : Option Run) (y : Sample) (filling : Bool) (buf m log : List ℕ) → Holds u t → Told rule u y (step_of filling t y buf m log)
step_told rule none t y filling buf m log h = none_told rule t y filling buf m log h
step_told rule (bulk u) t y filling buf m log h = by u.direction h
  where
    by : (d : Direction) → BulkHolds d u.toggle u.packets u.tally t → Told rule (bulk (record { direction = d; toggle = u.toggle; packets = u.packets; tally = u.tally })) y (step_of filling t y buf m log)
    by In h = in_told rule u.toggle u.packets u.tally t y filling buf m log h
    by Out h = out_told rule u.toggle u.packets u.tally t y filling buf m log h

-- ---- a cancel

abbrev Dropped : DeskRule → UnderWay → Cancelling → Type 0
Dropped rule u o = CancelToggle rule u o.answer (toggle_by_rule rule o.toggle o.moved) × Holds (tells u cancel o.answer) o.next

-- Of a bulk transfer whose stage has the parity of the packets retired.
bulk_dropped : (rule : DeskRule) (u : BulkUnderWay) (r : Run) (parity v : Bool) → v ≡ true → Holds (bulk u) (Some r) → flipped u.toggle parity ≡ flip_times u.toggle u.tally.retired
    → Dropped rule (bulk u) (cancel_if v (Some r) u.toggle (flipped u.toggle parity))
bulk_dropped rule u r parity true good h e = (handed_failing rule u.toggle (flipped u.toggle parity) u.toggle u.tally.retired refl e, tt)
bulk_dropped rule u r parity false good h e = no (sym good)

none_dropped : (rule : DeskRule) (t : Option Run) → NotBulk t → Dropped rule none (cancel_of t)
unfolding cancel_of
none_dropped rule None h = (handed rule false false false refl refl, tt)
none_dropped rule (Some r) h = by (either_serves r)
  where
    t : Bool
    t = toggle_in r.request.kind

    came : t ≡ false
    came = none_in r.request.kind h

    by : (v : Bool) → Dropped rule none (cancel_if v (Some r) t (toggle_out r.request.kind (stage_parity r.stage)))
    by true = (handed rule t (toggle_out r.request.kind (stage_parity r.stage)) false came (none_out r.request.kind (stage_parity r.stage) h), tt)
    by false = (handed rule t t false came came, h)

in_dropped : (rule : DeskRule) (b : Bool) (packets : ℕ) (s : SentTally) (t : Option Run) → well_formed t ≡ true → InHolds b packets s t → Dropped rule (bulk (record { direction = In; toggle = b; packets = packets; tally = s })) (cancel_of t)
unfolding cancel_of
in_dropped rule b packets s t well h =
    let r : Run = record { request = in_x h.a h.e h.p h.k b h.n; stage = in_stage h.st } in
    let v : BulkUnderWay = record { direction = In; toggle = b; packets = packets; tally = s } in
    let here : InHolds b packets s (Some r) = record { a = h.a; e = h.e; p = h.p; k = h.k; n = h.n; st = h.st; is = refl; many = h.many; at = h.at } in
    subst (λ (t : Option Run). Dropped rule (bulk v) (cancel_of t)) (sym h.is)
    (bulk_dropped rule v r h.st.retire (either_serves r) (sym (ap well_formed h.is) ∙ well) here (ap (flipped b) h.at.turn ∙ flips_slot b s.retired))

out_dropped : (rule : DeskRule) (b : Bool) (packets : ℕ) (s : SentTally) (t : Option Run) → well_formed t ≡ true → OutHolds b packets s t → Dropped rule (bulk (record { direction = Out; toggle = b; packets = packets; tally = s })) (cancel_of t)
unfolding cancel_of
out_dropped rule b packets s t well h =
    let r : Run = record { request = bulk_request Out h.a h.e h.p b (length h.first); stage = out_stage h.st } in
    let v : BulkUnderWay = record { direction = Out; toggle = b; packets = packets; tally = s } in
    let here : OutHolds b packets s (Some r) = record { a = h.a; e = h.e; p = h.p; k = h.k; first = h.first; st = h.st; is = refl; many = h.many; at = h.at } in
    subst (λ (t : Option Run). Dropped rule (bulk v) (cancel_of t)) (sym h.is)
    (bulk_dropped rule v r h.st.retire (either_serves r) (sym (ap well_formed h.is) ∙ well) here (ap (flipped b) h.at.stands.turn ∙ flips_slot b s.retired))

cancel_told : (rule : DeskRule) (u : UnderWay) (t : Option Run) → well_formed t ≡ true → Holds u t → Dropped rule u (cancel_of t)
cancel_told rule none t well h = none_dropped rule t h
cancel_told rule (bulk u) t well h = by u.direction h
  where
    by : (d : Direction) → BulkHolds d u.toggle u.packets u.tally t → Dropped rule (bulk (record { direction = d; toggle = u.toggle; packets = u.packets; tally = u.tally })) (cancel_of t)
    by In h = in_dropped rule u.toggle u.packets u.tally t well h
    by Out h = out_dropped rule u.toggle u.packets u.tally t well h

-- ---- a begin

abbrev Opened : UnderWay → (x : Begin) (buf m log : List ℕ) → Beginning → Type 0
Opened u x buf m log o = Holds (tells u (begin x buf m log) o.answer) o.next

begin_or_lem : (u : UnderWay) (x : Begin) (buf m log : List ℕ) (t : Option Run) (w : Result (Unit {0}) Refusal) (o : Beginning) → Holds u t → (w ≡ Ok tt → Opened u x buf m log o) → Opened u x buf m log (begin_or w t m o)
begin_or_lem u x buf m log t (Err why) o h f = h
begin_or_lem u x buf m log t (Ok tt) o h f = f refl

begin_told : (u : UnderWay) (t : Option Run) (x : Begin) (buf m log : List ℕ) → Holds u t → Opened u x buf m log (beginning t x buf m log)
unfolding begin_control_of begin_bulk_in_of begin_bulk_out_of
begin_told u t (control_begin a z p s ph) buf m log h =
    begin_or_lem u (control_begin a z p s ph) buf m log t (begin_refusal (lent_fits m log) (is_idle t) (fields_refusal (address_good a) true (size_good p) true)) (begins_control a z p s ph (length buf) m) h (λ q. tt)
begin_told u t (bulk_begin In a e p k b) buf m log h =
    let x = bulk_request In a e p b (length buf) in
    let w = begin_refusal (lent_fits m log) (is_idle t) (fields_refusal (address_good a) (endpoint_good e) (size_good p) (leb (length buf) 0xFFFF)) in
    begin_or_lem u (bulk_begin In a e p k b) buf m log t w (begins_bulk_in x k m) h
    (λ q.
    let good = bulk_good t a e p buf m log q in
    let sizes = between 1 p 64 (none_fields (lent_fits m log) (is_idle t) (address_good a) (endpoint_good e) (size_good p) (leb (length buf) 0xFFFF) q).2 in
    let n = length (in_cut_of k p b (length buf)) in
    let i = starts_armed x n (length buf) buf good.few (omega arith) k (target_of x) refl refl sizes.0 sizes.1 refl in
    let z = starts_in x n (length buf) buf good.few (omega arith) k (target_of x) refl refl sizes.0 sizes.1 refl in
    record {
      a = a;
      e = e;
      p = p;
      k = k;
      n = length buf;
      st = (start_in (target_of x) k false (length buf)).stage;
      is = refl;
      many = refl;
      at = record { left = i.rest; data_stage = z.data_stage; turn = z.flying.kept.parity; standing = z.standing };
    })
begin_told u t (bulk_begin Out a e p k b) buf m log h =
    let x = bulk_request Out a e p b (length buf) in
    let w = begin_refusal (lent_fits m log) (is_idle t) (fields_refusal (address_good a) (endpoint_good e) (size_good p) (leb (length buf) 0xFFFF)) in
    begin_or_lem u (bulk_begin Out a e p k b) buf m log t w (begins_bulk_out x e k buf m) h
    (λ q.
    let good = bulk_good t a e p buf m log q in
    let sizes = between 1 p 64 (none_fields (lent_fits m log) (is_idle t) (address_good a) (endpoint_good e) (size_good p) (leb (length buf) 0xFFFF) q).2 in
    record {
      a = a;
      e = e;
      p = p;
      k = k;
      first = buf;
      st = (start_out (target_of x) k false 0 (length buf) buf m).stage;
      is = refl;
      many = refl;
      at = starts_out t a e p k b buf m log (ap (λ (v : Result (Unit {0}) Refusal). (begin_or v t m (begins_bulk_out x e k buf m)).answer) q) sizes.0 sizes.1 good.few;
    })

-- ---- every list of calls

call_told : (c : Call) (d : Driver) (u : UnderWay) → well_formed d.transfer ≡ true → Holds u d.transfer → CallToggle d.rule u d c × Holds (tells u c (call d c).answer) (call d c).next.transfer
unfolding call
call_told (begin x buf m log) d u well h = (tt, begin_told u d.transfer x buf m log h)
call_told (step filling y buf m log) d u well h = step_told d.rule u d.transfer y filling buf m log h
call_told cancel d u well h = cancel_told d.rule u d.transfer well h
call_told (open_pipe a x e p i log) d u well h = (tt, h)
call_told (close_pipe n) d u well h = (tt, h)
call_told (poll_pipe n y m log) d u well h = (tt, h)
call_told (interrupt ints status log) d u well h = (tt, h)
call_told (detect sie log) d u well h = (tt, h)

begin_well : (t : Option Run) (x : Begin) (buf m log : List ℕ) → well_formed t ≡ true → well_formed (beginning t x buf m log).next ≡ true
begin_well t (control_begin a z p s ph) buf m log h = begin_control_well t a z p s ph buf m log h
begin_well t (bulk_begin In a e p k b) buf m log h = begin_bulk_in_well t a e p k b buf m log h
begin_well t (bulk_begin Out a e p k b) buf m log h = begin_bulk_out_well t a e p k b buf m log h

call_well : (c : Call) (d : Driver) → well_formed d.transfer ≡ true → well_formed (call d c).next.transfer ≡ true
unfolding call
call_well (begin x buf m log) d h = begin_well d.transfer x buf m log h
call_well (step filling y buf m log) d h = step_well filling d.transfer y buf m log h
call_well cancel d h = cancel_well d.transfer h
call_well (open_pipe a x e p i log) d h = h
call_well (close_pipe n) d h = h
call_well (poll_pipe n y m log) d h = h
call_well (interrupt ints status log) d h = h
call_well (detect sie log) d h = h

rule_stays : (c : Call) (d : Driver) → (call d c).next.rule ≡ d.rule
unfolding call
rule_stays (begin x buf m log) d = refl
rule_stays (step filling y buf m log) d = refl
rule_stays cancel d = refl
rule_stays (open_pipe a x e p i log) d = refl
rule_stays (close_pipe n) d = refl
rule_stays (poll_pipe n y m log) d = refl
rule_stays (interrupt ints status log) d = refl
rule_stays (detect sie log) d = refl

toggles_from : (cs : List Call) (d : Driver) (u : UnderWay) → well_formed d.transfer ≡ true → Holds u d.transfer → TogglesFrom d.rule u d cs
unfolding TogglesFrom
toggles_from [] d u well h = tt
toggles_from (c ∷ cs) d u well h =
    let z = call_told c d u well h in
    let o = call d c in
    (z.0, subst (λ (rule : DeskRule). TogglesFrom rule (tells u c o.answer) o.next cs) (rule_stays c d) (toggles_from cs o.next (tells u c o.answer) (call_well c d well) z.1))

pub toggles : Toggles
toggles rule cs = toggles_from cs (fresh rule) none refl tt
