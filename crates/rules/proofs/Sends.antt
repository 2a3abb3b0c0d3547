-- Every list of steps from a bulk OUT begin to its done hands the caller what the samples tell. Assumes nothing.
use Rattle.std.specs.Prelude.{None, Ok, Option, Some}
use mathlib.Core.Path.{◌≡◌, refl, sym, ap, ap₂, ◌∙◌, subst}
use mathlib.Core.Bool.{Bool, true, false, not, cond, ◌&&◌}
use mathlib.Core.List.{List, [], ◌∷◌, ◌++◌}
use Prim.Native.Nat.{ℕ, zero, suc, ◌+◌, ◌-◌, ◌≤◌, min}
use native.Mathlib.Omega.{arith}
use lib.Dec.{eqb, leb, ltb}
use lib.ListN.{length}
use lib.Seq.{take-length}
use borrow.Author.Tests.{ltb-true, ltb-false, lt-ltb, le-ltb}
use Rattle.pool.proofs.Cases.{by_cases}
use Rattle.cutting.specs.declared.transfer_type.TransferType.{TransferType}
use Rattle.cutting.specs.declared.packetiser.Arm.{Arm}
use Rattle.cutting.specs.declared.packetiser.OutCounters.{OutCounters}
use Rattle.cutting.specs.declared.packetiser.Next.{Next}
use Rattle.cutting.specs.Cut.{Packet, out_cut}
use Rattle.cutting.specs.Counters.{next_of, pid_of, out_start, out_gives, out_next}
use Rattle.cutting.specs.Left.{OutLeft, stop, go}
use Rattle.cutting.proofs.Cutting.{out_cut_lem}
use Rattle.transfers.specs.declared.wire.Direction.TheVariants.{Out}
use Rattle.transfers.specs.declared.sample.Found.{Found}
use Rattle.transfers.specs.declared.sample.Found.TheVariants.{Complete, Failed, Neither}
use Rattle.transfers.specs.declared.driver.Run.{Run}
use Rattle.transfers.specs.declared.driver.Request.{Request}
use Rattle.transfers.specs.declared.driver.Stage.TheVariants.{Out as out_stage}
use Rattle.transfers.specs.declared.driver.OutStage.{OutStage}
use Rattle.transfers.specs.Log.{Write}
use Rattle.transfers.specs.Memory.{lent_fits}
use Rattle.transfers.specs.Sample.{available, full, classify}
use Rattle.transfers.specs.Writes.{polled, quiets}
use Rattle.transfers.specs.Arming.{may_arm, OutArming, out_kept, out_armed, out_arm_if, out_arm, out_arm_two}
use Rattle.transfers.specs.Retiring.{out_retire_if, out_retire_one}
use Rattle.transfers.specs.State.{target_of, fills, same, served, stage_fits, address_good, endpoint_good, size_good}
use Rattle.transfers.specs.Outcome.{Outcome, after, flipped, start_out}
use Rattle.transfers.specs.Step.{out_packets, out_retire_two, out_complete, out_move, out_found, out_step, lent, keeping, stage_step, polls, acts}
use Rattle.transfers.specs.Calls.{may_step, well_formed, is_idle, step_if, step_lent, step_of, fields_refusal, begin_refusal, Beginning, bulk_request, begins_bulk_out, begin_bulk_out_of}
use Rattle.transfers.proofs.Readiness.{both, may_parts}
use Rattle.transfers.proofs.OpenPipes.{between}
use Rattle.transfers.proofs.Beginnings.{none_fields, bulk_good}
use Rattle.transfers.proofs.WellFormed.{step_well, begin_bulk_out_well}
use Rattle.rules.specs.Fields.{read_buffer_control}
use Rattle.rules.specs.Received.{quiet, complete, ends_stage, slot_of, StepCall, arm_if, arm_one}
use Rattle.rules.specs.Sends.{SendCall, acting, SentTally, was_sent, sent_if, sent_one, sent_two, send_two, sent_by, sent_step, sent_steps, sent, step_out, after_sends, flip_times, Sends}
use Rattle.rules.proofs.Retired.{no, slot_suc, slot_zero, slot_more}
use Rattle.rules.proofs.Armed.{same_available}
use Rattle.rules.proofs.InStage.{not_done, waiting_not, refused_not, by_poll}
use Rattle.rules.proofs.Steps.{absurd_done, done_is, idle_next, idle_not, accepted, none_idle}
use Rattle.rules.proofs.Arms.{no_arm, two_armed}
use Rattle.transfers.specs.declared.answers.Step.TheVariants.{Done}

-- ---- the counters after a packet

record After (c : OutCounters) (v : Next OutCounters) : Type 0 where
  size : v.rest.size ≡ c.size
  pid : v.rest.pid ≡ c.pid
  none : v.arm ≡ None → v.rest ≡ c
  some : (a : Arm) → v.arm ≡ Some a → v.rest.slot ≡ not c.slot

after_next : (x : Option (ℕ × Bool)) (c : OutCounters) → After c (out_gives x c)
after_next None c = record { size = refl; pid = refl; none = λ e. refl; some = λ a e. no_arm a e }
after_next (Some (n, last)) c =
    record { size = refl; pid = refl; none = λ e. no_arm (record { slot = c.slot; pid = pid_of c.pid c.slot; last = last; length = n }) (sym e); some = λ a e. refl }

next_after : (c : OutCounters) → After c (out_next c)
unfolding out_next
next_after c = after_next (cond (ltb (0xFFFF - c.offset) c.remain) None (next_of c.remain c.size c.zlp)) c

-- ---- what one arming does

arm_no : (w : ℕ) (c : OutCounters) (k : ℕ) (buf m : List ℕ) → may_arm w k c.slot ≡ false → out_arm w c k buf m ≡ out_kept c k m
unfolding out_arm
arm_no w c k buf m e = ap (λ (v : Bool). out_arm_if v c k buf m) e

arm_end : (w : ℕ) (c : OutCounters) (k : ℕ) (buf m : List ℕ) → (out_next c).arm ≡ None → out_arm w c k buf m ≡ out_kept c k m
unfolding out_arm
arm_end w c k buf m e = by (may_arm w k c.slot)
  where
    by : (v : Bool) → out_arm_if v c k buf m ≡ out_kept c k m
    by false = refl
    by true = ap (λ (x : Option Arm). out_armed x (out_next c).rest k c.offset buf m) e ∙ ap (λ (d : OutCounters). out_kept d k m) ((next_after c).none e)

arm_go : (w : ℕ) (c : OutCounters) (k : ℕ) (buf m : List ℕ) (a : Arm) → may_arm w k c.slot ≡ true → (out_next c).arm ≡ Some a
    → ((out_arm w c k buf m).packets ≡ (out_next c).rest) × ((out_arm w c k buf m).inflight ≡ k + 1)
unfolding out_arm
arm_go w c k buf m a q e =
    let f = ap (λ (v : Bool). out_arm_if v c k buf m) q ∙ ap (λ (x : Option Arm). out_armed x (out_next c).rest k c.offset buf m) e in
    (ap (λ (g : OutArming). g.packets) f, ap (λ (g : OutArming). g.inflight) f)

pub same_full : (w : ℕ) (s : Bool) → full w s ≡ (read_buffer_control w s).FULL
same_full w false = refl
same_full w true = refl

pub same_flight : (a r k : ℕ) → a ≡ r + k → ltb 0 k ≡ ltb r a
same_flight a r k e = by_cases (ltb 0 k)
    (λ (q : ltb 0 k ≡ true). let z = ltb-true 0 k q in q ∙ sym (lt-ltb r a (omega arith)))
    (λ (q : ltb 0 k ≡ false). let z = ltb-false 0 k q in q ∙ sym (le-ltb r a (omega arith)))

same_two : (a r k : ℕ) → a ≡ r + k → ltb k 2 ≡ ltb a (r + 2)
same_two a r k e = by_cases (ltb k 2)
    (λ (h : ltb k 2 ≡ true). let z = ltb-true k 2 h in h ∙ sym (lt-ltb a (r + 2) (omega arith)))
    (λ (h : ltb k 2 ≡ false). let z = ltb-false k 2 h in h ∙ sym (le-ltb a (r + 2) (omega arith)))

pub flips_slot : (b : Bool) (k : ℕ) → flipped b (slot_of k) ≡ flip_times b k
unfolding flip_times
flips_slot b zero = ap (flipped b) slot_zero
flips_slot b (suc k) = ap (flipped b) (slot_suc k) ∙ by (slot_of k) ∙ ap not (flips_slot b k)
  where
    twice : (b : Bool) → b ≡ not (not b)
    twice true = refl
    twice false = refl

    by : (s : Bool) → flipped b (not s) ≡ not (flipped b s)
    by true = twice b
    by false = refl

-- ---- the driver's counters, with so many armed and retired

module _ (packets : ℕ) (b : Bool) (p : ℕ) (first : List ℕ) where
  pub record Stands (s : SentTally) (c : OutCounters) (parity : Bool) (k : ℕ) : Type 0 where
    left : List (Packet (List ℕ))
    slot : c.slot ≡ slot_of s.armed
    hands : OutLeft first c left
    many : s.armed + length left ≡ packets
    flight : s.armed ≡ s.retired + k
    pub turn : parity ≡ slot_of s.retired
    pid : c.pid ≡ b
    size : c.size ≡ p

  -- ---- retiring

  retired_one : (w : ℕ) (s : SentTally) (c : OutCounters) (parity : Bool) (k : ℕ) → Stands s c parity k → Stands (sent_one w s) c (out_retire_one w parity k).parity (out_retire_one w parity k).inflight
  unfolding sent_one out_retire_one
  retired_one w s c parity k h =
      subst (λ (v : Bool). Stands (sent_if v s) c (out_retire_if (ltb 0 k && not (full w parity)) parity k).parity (out_retire_if (ltb 0 k && not (full w parity)) parity k).inflight) test
      (by (ltb 0 k && not (full w parity)) refl)
    where
      test : (ltb 0 k && not (full w parity)) ≡ was_sent w s
      test = ap₂ {C = Bool} ◌&&◌ (same_flight s.armed s.retired k h.flight) (ap not (ap (full w) h.turn ∙ same_full w (slot_of s.retired)))

      by : (v : Bool) → (ltb 0 k && not (full w parity)) ≡ v → Stands (sent_if v s) c (out_retire_if v parity k).parity (out_retire_if v parity k).inflight
      by false e = h
      by true e =
          let z = ltb-true 0 k (both (ltb 0 k) (not (full w parity)) e).0 in
          let f = h.flight in
          record { left = h.left; slot = h.slot; hands = h.hands; many = h.many; flight = omega arith; turn = ap not h.turn ∙ sym (slot_more s.retired); pid = h.pid; size = h.size }

  retired_two : (w : ℕ) (s : SentTally) (c : OutCounters) (parity : Bool) (k : ℕ) → Stands s c parity k → Stands (sent_two w s) c (out_retire_two w parity k).parity (out_retire_two w parity k).inflight
  retired_two w s c parity k h = let g = out_retire_one w parity k in retired_one w (sent_one w s) c g.parity g.inflight (retired_one w s c parity k h)

  -- ---- arming

  abbrev armed_one : ℕ → SentTally → SentTally
  armed_one w s = record { armed = arm_one packets w s.retired s.armed; retired = s.retired }

  module _ (w : ℕ) (s : SentTally) (c : OutCounters) (parity : Bool) (k : ℕ) (buf m : List ℕ) (h : Stands s c parity k) where
    abbrev may : Bool
    may = ltb s.armed (s.retired + 2) && not (read_buffer_control w (slot_of s.armed)).AVAILABLE

    abbrev next : ℕ
    next = arm_one packets w s.retired s.armed

    same_may : may_arm w k c.slot ≡ may
    same_may = ap₂ {C = Bool} ◌&&◌ (same_two s.armed s.retired k h.flight) (ap not (ap (available w) h.slot ∙ same_available w (slot_of s.armed)))

    stays : next ≡ s.armed → out_arm w c k buf m ≡ out_kept c k m → Stands (armed_one w s) (out_arm w c k buf m).packets parity (out_arm w c k buf m).inflight
    stays e f = rw (e, f) h

    none_left : ltb s.armed packets ≡ false → next ≡ s.armed
    unfolding arm_one
    none_left e = ap (λ (v : Bool). arm_if (v && may) s.armed) e

    may_not : may ≡ false → next ≡ s.armed
    unfolding arm_one
    may_not e = by (ltb s.armed packets) may e
      where
        by : (u v : Bool) → v ≡ false → arm_if (u && v) s.armed ≡ s.armed
        by true v e = ap (λ (b : Bool). arm_if b s.armed) e
        by false v e = refl

    arms : ltb s.armed packets ≡ true → may ≡ true → next ≡ s.armed + 1
    unfolding arm_one
    arms e f = ap₂ {C = ℕ} (λ (u v : Bool). arm_if (u && v) s.armed) e f

    by_left : (ks : List (Packet (List ℕ))) → OutLeft first c ks → h.left ≡ ks → Stands (armed_one w s) (out_arm w c k buf m).packets parity (out_arm w c k buf m).inflight
    by_left ks (stop e) q = let n = h.many in let z = ap length q in stays (none_left (le-ltb s.armed packets (omega arith))) (arm_end w c k buf m e)
    by_left ks (go {ks = ks'} x e small room l) q = by_cases may
        (λ (u : may ≡ true).
        let i = h.many in
        let y = ap length q in
        let f = arm_go w c k buf m x (same_may ∙ u) e in
        let g = arms (lt-ltb s.armed packets (omega arith)) u in
        let n = next_after c in
        rw (g, f.0, f.1) (record {
          left = ks';
          slot = n.some x e ∙ ap not h.slot ∙ sym (slot_more s.armed);
          hands = l;
          many = omega arith;
          flight = let z = h.flight in omega arith;
          turn = h.turn;
          pid = n.pid ∙ h.pid;
          size = n.size ∙ h.size;
        }))
        (λ (u : may ≡ false). stays (may_not u) (arm_no w c k buf m (same_may ∙ u)))

    armed_one_lem : Stands (armed_one w s) (out_arm w c k buf m).packets parity (out_arm w c k buf m).inflight
    armed_one_lem = by_left h.left h.hands refl

  armed_two : (w : ℕ) (s : SentTally) (c : OutCounters) (parity : Bool) (k : ℕ) (buf m : List ℕ) → Stands s c parity k
      → Stands (send_two packets w s) (out_arm_two w c k buf m).packets parity (out_arm_two w c k buf m).inflight
  unfolding out_arm_two
  armed_two w s c parity k buf m h =
      let g = out_arm w c k buf m in
      armed_one_lem w (armed_one w s) g.packets parity g.inflight buf g.memory (armed_one_lem w s c parity k buf m h)

-- ---- a step of the transfer

-- One that sends is served by `step_out`.
sends_may : (r : Run) → fills r.request.kind ≡ false → well_formed (Some r) ≡ true → may_step false r ≡ true
unfolding served
sends_may r f h = by_cases (may_step true r)
    (λ (e : may_step true r ≡ true).
    let s = both (same true (fills r.request.kind)) (stage_fits r.request.kind r.stage) (may_parts true r e).0 in
    no (sym s.0 ∙ f))
    (λ (e : may_step true r ≡ false). ap (λ (v : Bool). cond v true (may_step false r)) (sym e) ∙ h)

module _ (a e p : ℕ) (k : TransferType) (b : Bool) (first : List ℕ) where
  abbrev bulk_x : Request
  bulk_x = bulk_request Out a e p b (length first)

  abbrev many : ℕ
  many = length (out_cut k p b first)

  abbrev busy : OutStage → Option Run
  busy st = Some (record { request = bulk_x; stage = out_stage st })

  pub record At (st : OutStage) (s : SentTally) : Type 0 where
    pub data_stage : st.status ≡ false
    pub stands : Stands many b p first s (out_packets bulk_x st) st.retire st.inflight

  -- What a step comes to: whether it ends the stage, and the tally after it.
  pub data Comes (ends : Bool) (s : SentTally) (o : Outcome) : Type 0 where
    fails : ends ≡ false → o.next ≡ None → not_done o.answer → Comes ends s o
    goes : ends ≡ false → (st : OutStage) → o.next ≡ busy st → At st s → not_done o.answer → Comes ends s o
    finishes : ends ≡ true → o.next ≡ None → o.answer ≡ Ok (Done (length first)) → o.toggle ≡ flip_times b s.retired → Comes ends s o

  after_comes : (ends : Bool) (s : SentTally) (ws : List Write) (o : Outcome) → Comes ends s o → Comes ends s (after ws o)
  after_comes ends s ws o (fails u q f) = fails u q f
  after_comes ends s ws o (goes u st q h f) = goes u st q h f
  after_comes ends s ws o (finishes u q f g) = finishes u q f g

  module _ (st : OutStage) (s : SentTally) (h : At st s) (w : ℕ) (buf m : List ℕ) where
    completed : Comes true (sent_two w s) (out_complete bulk_x st w m buf)
    unfolding out_complete
    completed =
        let r = retired_two many b p first w s (out_packets bulk_x st) st.retire st.inflight h.stands in
        finishes refl refl refl (ap (flipped b) r.turn ∙ flips_slot b (sent_two w s).retired)

    moved : Comes false (send_two many w (sent_two w s)) (out_move bulk_x st w buf m)
    unfolding out_move
    moved =
        let v = out_retire_two w st.retire st.inflight in
        let g = out_arm_two w (out_packets bulk_x st) v.inflight buf m in
        let r = retired_two many b p first w s (out_packets bulk_x st) st.retire st.inflight h.stands in
        let i = armed_two many b p first w (sent_two w s) (out_packets bulk_x st) v.parity v.inflight buf m r in
        let next : OutStage = record { status = st.status; slot = g.packets.slot; remain = g.packets.remain; offset = g.packets.offset; zlp = g.packets.zlp; retire = v.parity; inflight = g.inflight; received = st.received } in
        let is : g.packets ≡ out_packets bulk_x next = λ j. record { slot = g.packets.slot; pid = i.pid j; remain = g.packets.remain; offset = g.packets.offset; size = i.size j; zlp = g.packets.zlp } in
        goes refl next refl
        (record { data_stage = h.data_stage; stands = subst (λ (c : OutCounters). Stands many b p first (send_two many w (sent_two w s)) c v.parity g.inflight) is i }) (waiting_not true)

    ready : (f : Found) (ends : Bool) (s' : SentTally) → Comes ends s' (out_found f bulk_x st w buf m) → Comes ends s' (after (polled ∷ []) (stage_step f bulk_x (out_stage st) w buf m))
    unfolding out_step
    ready f ends s' c =
        subst (λ (v : Bool). Comes ends s' (after (polled ∷ []) (keeping v buf (out_step f bulk_x st w (lent v buf) m)))) (sym h.data_stage)
        (after_comes ends s' (polled ∷ []) (out_step f bulk_x st w buf m) (after_comes ends s' quiets (out_found f bulk_x st w buf m) c))

  -- Any call of `step_out`.
  module _ (st : OutStage) (s : SentTally) (h : At st s) (z : SendCall) where
    abbrev y : StepCall
    y = z.call

    abbrev run : Run
    run = record { request = bulk_x; stage = out_stage st }

    abbrev tells : Bool → SentTally
    tells v = sent_by v (quiet y.sample) (complete y.sample) many y.sample.buffers s

    pub polled_comes : Comes (ends_stage y.sample) (tells true) (polls (classify y.sample.status y.sample.intr) bulk_x (out_stage st) y.sample.buffers z.bytes y.memory)
    polled_comes =
        let w = y.sample.buffers in
        by_poll y.sample (λ (u : Option Found) (q c : Bool). Comes (not q && c) (sent_by true q c many w s) (polls u bulk_x (out_stage st) w z.bytes y.memory))
        (λ c. goes refl st refl h (waiting_not false))
        (ready st s h w z.bytes y.memory Complete true (sent_two w s) (completed st s h w z.bytes y.memory))
        (λ x. ready st s h w z.bytes y.memory (Failed x) false (send_two many w (sent_two w s)) (fails refl refl (refused_not _)))
        (ready st s h w z.bytes y.memory Neither false (send_two many w (sent_two w s)) (moved st s h w z.bytes y.memory))

    if_comes : (v : Bool) → Comes (v && ends_stage y.sample) (tells v) (step_if true v run y.sample z.bytes y.memory)
    unfolding acts
    if_comes false = goes refl st refl h (refused_not _)
    if_comes true = polled_comes

    lent_comes : may_step false run ≡ true → (u : Bool) → Comes ((u && eqb (length z.bytes) (length first)) && ends_stage y.sample) (tells (u && eqb (length z.bytes) (length first))) (step_lent u false (Some run) y.sample z.bytes y.memory)
    lent_comes may false = goes refl st refl h (refused_not _)
    lent_comes may true =
        let v = eqb (length z.bytes) (length first) in
        subst (λ (c : Bool). Comes (v && ends_stage y.sample) (tells v) (step_if c v run y.sample z.bytes y.memory)) (sym may) (if_comes v)

    step_comes : may_step false run ≡ true → Comes (acting (length first) z && ends_stage y.sample) (sent_step many (length first) z s) (step_out (busy st) z)
    unfolding step_of sent_step
    step_comes may = lent_comes may (lent_fits y.memory y.log)

  -- ---- lists of steps

  data SendsAt (t : Option Run) (s : SentTally) : Type 0 where
    over : t ≡ None → SendsAt t s
    under : (st : OutStage) → t ≡ busy st → well_formed t ≡ true → At st s → SendsAt t s

  any_comes : (t : Option Run) (s : SentTally) (z : SendCall) (st : OutStage) → t ≡ busy st → well_formed t ≡ true → At st s
      → Comes (acting (length first) z && ends_stage z.call.sample) (sent_step many (length first) z s) (step_out t z)
  any_comes t s z st q w h =
      subst (λ (u : Option Run). Comes (acting (length first) z && ends_stage z.call.sample) (sent_step many (length first) z s) (step_out u z)) (sym q)
      (step_comes st s h z (sends_may (record { request = bulk_x; stage = out_stage st }) refl (sym (ap well_formed q) ∙ w)))

  on_step : (t : Option Run) (s : SentTally) (z : SendCall) → SendsAt t s → SendsAt (step_out t z).next (sent_step many (length first) z s)
  on_step t s z (over q) = over (idle_next false (record { transfer = t; buffer = z.bytes }) z.call q)
  on_step t s z (under st q w h) = by (any_comes t s z st q w h)
    where
      by : Comes (acting (length first) z && ends_stage z.call.sample) (sent_step many (length first) z s) (step_out t z) → SendsAt (step_out t z).next (sent_step many (length first) z s)
      by (fails u v f) = over v
      by (goes u st' v h' f) = under st' v (step_well false t z.call.sample z.bytes z.call.memory z.call.log w) h'
      by (finishes u v f g) = over v

  on_steps : (zs : List SendCall) (t : Option Run) (s : SentTally) → SendsAt t s → SendsAt (after_sends t zs) (sent_steps many (length first) s zs)
  unfolding after_sends sent_steps
  on_steps [] t s q = q
  on_steps (z ∷ zs) t s q = on_steps zs (step_out t z).next (sent_step many (length first) z s) (on_step t s z q)

  at_done : (t : Option Run) (s : SentTally) (z : SendCall) (count : ℕ) → SendsAt t s → (step_out t z).answer ≡ Ok (Done count)
      → (count ≡ length first) × ((step_out t z).toggle ≡ flip_times b (sent_step many (length first) z s).retired) × ((step_out t z).next ≡ None)
  at_done t s z count (over q) d = absurd_done (step_out t z).answer count (idle_not false (record { transfer = t; buffer = z.bytes }) z.call q) d
  at_done t s z count (under st q w h) d = by (any_comes t s z st q w h)
    where
      by : Comes (acting (length first) z && ends_stage z.call.sample) (sent_step many (length first) z s) (step_out t z)
          → (count ≡ length first) × ((step_out t z).toggle ≡ flip_times b (sent_step many (length first) z s).retired) × ((step_out t z).next ≡ None)
      by (fails u v f) = absurd_done (step_out t z).answer count f d
      by (goes u st' v h' f) = absurd_done (step_out t z).answer count f d
      by (finishes u v f g) = (done_is count (length first) (sym d ∙ f), g, v)

  at_complete : (t : Option Run) (s : SentTally) (z : SendCall) → SendsAt t s → (t ≡ None → ⊥) → (acting (length first) z && ends_stage z.call.sample) ≡ true → (step_out t z).answer ≡ Ok (Done (length first))
  at_complete t s z (over q) n c = absurd (n q)
  at_complete t s z (under st q w h) n c = by (any_comes t s z st q w h)
    where
      by : Comes (acting (length first) z && ends_stage z.call.sample) (sent_step many (length first) z s) (step_out t z) → (step_out t z).answer ≡ Ok (Done (length first))
      by (fails u v f) = no (sym c ∙ u)
      by (goes u st' v h' f) = no (sym c ∙ u)
      by (finishes u v f g) = f

sent_end : (packets n : ℕ) (zs : List SendCall) (z : SendCall) (s : SentTally) → sent_steps packets n s (zs ++ (z ∷ [])) ≡ sent_step packets n z (sent_steps packets n s zs)
unfolding sent_steps
sent_end packets n [] z s = refl
sent_end packets n (x ∷ zs) z s = sent_end packets n zs z (sent_step packets n x s)

-- ---- a begin that is accepted

module _ (t : Option Run) (a e p : ℕ) (k : TransferType) (b : Bool) (first m log : List ℕ) (q : (begin_bulk_out_of t a e p k b first m log).answer ≡ Ok tt) where
  abbrev start : SentTally
  start = record { armed = min (length (out_cut k p b first)) 2; retired = 0 }

  pub starts : 1 ≤ p → p ≤ 64 → length first ≤ 0xFFFF → At a e p k b first (start_out (target_of (bulk_request Out a e p b (length first))) k false 0 (length first) first m).stage start
  unfolding start_out
  starts low high few =
      let c = out_start k p b (length first) in
      let packets = length (out_cut k p b first) in
      let g = out_arm_two 0 c 0 first m in
      let x = bulk_request Out a e p b (length first) in
      let st = (start_out (target_of x) k false 0 (length first) first m).stage in
      let cut : OutLeft first c (out_cut k p b first) = subst (λ (l : List ℕ). OutLeft first c (out_cut k p b l)) (take-length first) (out_cut_lem k p b low high first (length first) few (omega arith)) in
      let i = armed_two packets b p first 0 (record { armed = 0; retired = 0 }) c false 0 first m
      (record { left = out_cut k p b first; slot = sym slot_zero; hands = cut; many = omega arith; flight = refl; turn = sym slot_zero; pid = refl; size = refl }) in
      let is : g.packets ≡ out_packets x st = λ j. record { slot = g.packets.slot; pid = i.pid j; remain = g.packets.remain; offset = g.packets.offset; size = i.size j; zlp = g.packets.zlp } in
      record {
        data_stage = refl;
        stands = subst (λ (u : ℕ). Stands packets b p first (record { armed = u; retired = 0 }) (out_packets x st) false g.inflight) (two_armed packets)
            (subst (λ (c : OutCounters). Stands packets b p first (send_two packets 0 (record { armed = 0; retired = 0 })) c false g.inflight) is i);
      }

  begins : SendsAt a e p k b first (begin_bulk_out_of t a e p k b first m log).next start
  unfolding begin_bulk_out_of
  begins =
      let fields = fields_refusal (address_good a) (endpoint_good e) (size_good p) (leb (length first) 0xFFFF) in
      let r = begin_refusal (lent_fits m log) (is_idle t) fields in
      let x = bulk_request Out a e p b (length first) in
      let ok = accepted r t m (begins_bulk_out x e k first m) q in
      let good = bulk_good t a e p first m log ok.0 in
      let sizes = between 1 p 64 (none_fields (lent_fits m log) (is_idle t) (address_good a) (endpoint_good e) (size_good p) (leb (length first) 0xFFFF) ok.0).2 in
      under (start_out (target_of x) k false 0 (length first) first m).stage (ap (λ (z : Beginning). z.next) ok.1)
      (begin_bulk_out_well t a e p k b first m log (none_idle (lent_fits m log) t fields ok.0)) (starts sizes.0 sizes.1 good.few)

  sends_at : (zs : List SendCall) → SendsAt a e p k b first (after_sends (begin_bulk_out_of t a e p k b first m log).next zs) (sent_steps (length (out_cut k p b first)) (length first) start zs)
  sends_at zs = on_steps a e p k b first zs (begin_bulk_out_of t a e p k b first m log).next start begins

  bulk_done : (zs : List SendCall) (z : SendCall) (count : ℕ) → let o = step_out (after_sends (begin_bulk_out_of t a e p k b first m log).next zs) z in
      o.answer ≡ Ok (Done count) → (count ≡ length first) × (o.toggle ≡ flip_times b (sent (length (out_cut k p b first)) (length first) (zs ++ (z ∷ [])))) × (o.next ≡ None)
  bulk_done zs z count d =
      let packets = length (out_cut k p b first) in
      let u = after_sends (begin_bulk_out_of t a e p k b first m log).next zs in
      let f = at_done a e p k b first u (sent_steps packets (length first) start zs) z count (sends_at zs) d in
      (f.0, f.1 ∙ ap (λ (s : SentTally). flip_times b s.retired) (sym (sent_end packets (length first) zs z start)), f.2)

  bulk_completed : (zs : List SendCall) (z : SendCall) → let u = after_sends (begin_bulk_out_of t a e p k b first m log).next zs in
      (u ≡ None → ⊥) → (acting (length first) z && ends_stage z.call.sample) ≡ true → (step_out u z).answer ≡ Ok (Done (length first))
  bulk_completed zs z n c =
      at_complete a e p k b first (after_sends (begin_bulk_out_of t a e p k b first m log).next zs) (sent_steps (length (out_cut k p b first)) (length first) start zs) z (sends_at zs) n c

pub bulk_sends : Sends
bulk_sends = record {
  bulk = λ t a e p k b first m log zs z count q d. bulk_done t a e p k b first m log q zs z count d;
  completed = λ t a e p k b first m log zs z q n c. bulk_completed t a e p k b first m log q zs z n c;
}
