-- A step in an IN data stage does to the buffer and the counters what its sample tells. Assumes nothing.
use Rattle.std.specs.Prelude.{Err, None, Ok, Option, Result, Some}
use mathlib.Core.Path.{◌≡◌, refl, sym, ap, ap₂, ◌∙◌, subst}
use mathlib.Core.Bool.{Bool, true, false, not, cond, ◌&&◌}
use mathlib.Core.List.{List, [], ◌∷◌, ◌++◌, map, append-nil}
use Prim.Native.Nat.{ℕ, ◌+◌, ◌≤◌, min}
use native.Mathlib.Omega.{arith}
use lib.ListN.{length}
use borrow.Author.Tests.{eq-eqb}
use Rattle.pool.proofs.Cases.{by_cases}
use Rattle.cutting.specs.declared.transfer_type.TransferType.{TransferType}
use Rattle.cutting.specs.declared.packetiser.InPacketiser.{InPacketiser}
use Rattle.cutting.specs.declared.depacketiser.InDepacketiser.{InDepacketiser}
use Rattle.cutting.specs.Cut.{Packet, in_cut_of}
use Rattle.cutting.specs.Counters.{in_start_of}
use Rattle.cutting.specs.Left.{InLeft}
use Rattle.cutting.proofs.Cutting.{in_cut}
use Rattle.transfers.specs.declared.host_controller.UsbError.{UsbError}
use Rattle.transfers.specs.declared.refusal.Refusal.{Refusal}
use Rattle.transfers.specs.declared.writes.Target.{Target}
use Rattle.transfers.specs.declared.sample.Sample.{Sample}
use Rattle.transfers.specs.declared.sample.Found.{Found}
use Rattle.transfers.specs.declared.sample.Found.TheVariants.{Complete, Failed, Neither}
use Rattle.transfers.specs.declared.driver.Run.{Run}
use Rattle.transfers.specs.declared.driver.Request.{Request}
use Rattle.transfers.specs.declared.driver.Stage.TheVariants.{In as in_stage}
use Rattle.transfers.specs.declared.driver.InStage.{InStage}
use Rattle.transfers.specs.Registers.{bit}
use Rattle.transfers.specs.Sample.{Error, errors, first_of, classify}
use Rattle.transfers.specs.Arming.{InArming, in_arm_two}
use Rattle.transfers.specs.Retiring.{InRetiring, in_retire_one}
use Rattle.transfers.specs.State.{stage_length, fills, same, served, stage_fits, first_pid}
use Rattle.transfers.specs.Outcome.{Outcome, after, start_in}
use Rattle.transfers.specs.Log.{Write}
use Rattle.transfers.specs.declared.wire.Direction.TheVariants.{In}
use Rattle.transfers.specs.Writes.{enable_writes, polled, quiets, completes}
use Rattle.transfers.specs.Step.{in_found, in_packets, in_received, in_done, in_second_done, in_first_done, in_complete, in_rearm, in_second_moved, in_first_moved, in_move, in_step, lent, keeping, stage_step, polls, acts}
use Rattle.transfers.specs.Calls.{may_step, well_formed, step_if, step_lent, step_of}
use Rattle.transfers.proofs.Readiness.{both, may_parts}
use Rattle.transfers.proofs.OpenPipes.{lent_sizes}
use Rattle.rules.specs.Received.{StepCall, lent_well, quiet, complete, slot_of, Tally, retire_one, retire_two, arm_two, tally_by, tally_step, tally_start, ends_stage, step_in}
use Rattle.cutting.proofs.Filled.{stored_none}
use Rattle.rules.proofs.Retired.{no, slot_zero, retire_armed, Kept, kept_length, Flying, One, too_long_of, fine, one}
use Rattle.rules.specs.Fields.{word_after}
use Rattle.rules.specs.Armed.{ArmedSlot, armings, shown}
use Rattle.rules.proofs.Armed.{armings_append, enable_silent, polled_silent, quiets_silent, completes_silent, pending_silent, none_armed, start_armings}
use Rattle.rules.proofs.Arms.{Standing, Arming, arm_two_lem, start_armed}
use Rattle.transfers.specs.declared.answers.Step.TheVariants.{Done, Waiting}
use Rattle.transfers.specs.declared.answers.Step.{Step}

unfoldable pub not_done : (a : Result Step Refusal) → Type 0
not_done a = (n : ℕ) → a ≡ Ok (Done n) → ⊥

pub waiting_not : (b : Bool) → not_done (Ok (Waiting b))
unfolding not_done
waiting_not b n e = let z : ◌≡◌ {A = ℕ} 0 1 = cc in omega arith

pub refused_not : (r : Refusal) → not_done (Err r)
unfolding not_done
refused_not r n e = let z : ◌≡◌ {A = ℕ} 0 1 = cc in omega arith

-- ---- a step acts

-- It isn't refused, and ends its stage.
abbrev pub ending : StepCall → Bool
ending y = lent_well y && ends_stage y.sample

-- A transfer that fills is served by `step_in`.
pub fills_may : (r : Run) → fills r.request.kind ≡ true → well_formed (Some r) ≡ true → may_step true r ≡ true
unfolding served
fills_may r f h = by_cases (may_step true r) (λ (e : may_step true r ≡ true). e)
    (λ (e : may_step true r ≡ false).
    let g : may_step false r ≡ true = ap (λ (b : Bool). cond b true (may_step false r)) (sym e) ∙ h in
    let s = both (same false (fills r.request.kind)) (stage_fits r.request.kind r.stage) (may_parts false r g).0 in
    no (sym (sym (ap (same false) f) ∙ s.0)))

pub step_polls : (r : Run) (y : StepCall) (buf : List ℕ) → may_step true r ≡ true → length buf ≡ r.request.length → lent_well y ≡ true
    → step_in (record { transfer = Some r; buffer = buf }) y ≡ polls (classify y.sample.status y.sample.intr) r.request r.stage y.sample.buffers buf y.memory
unfolding step_of acts
step_polls r y buf m n l =
    ap (λ (v : Bool). step_lent v true (Some r) y.sample buf y.memory) l
    ∙ ap₂ {C = Outcome} (λ (u v : Bool). step_if u v r y.sample buf y.memory) m (eq-eqb (length buf) r.request.length n)

pub refused_lent : (t : Option Run) (y : StepCall) (buf : List ℕ) → lent_well y ≡ false
    → ((step_in (record { transfer = t; buffer = buf }) y).next ≡ t) × ((step_in (record { transfer = t; buffer = buf }) y).buffer ≡ buf) × not_done (step_in (record { transfer = t; buffer = buf }) y).answer
    × ((step_in (record { transfer = t; buffer = buf }) y).writes ≡ [])
unfolding step_of
refused_lent t y buf l = rw l (refl, refl, refused_not _, refl)

-- An error is no completion.
failed_not : (e : UsbError) → Failed e ≡ Complete → ⊥
failed_not e q = let z : ◌≡◌ {A = ℕ} 0 1 = cc in omega arith

neither_not : Neither ≡ Complete → ⊥
neither_not q = let z : ◌≡◌ {A = ℕ} 0 1 = cc in omega arith

cond_error : (b : Bool) (e : UsbError) (f : Found) → (f ≡ Complete → ⊥) → cond b (Failed e) f ≡ Complete → ⊥
cond_error true e f n q = failed_not e q
cond_error false e f n q = n q

found_error : (w : ℕ) (es : List Error) → first_of w es ≡ Complete → ⊥
found_error w [] e = neither_not e
found_error w (x ∷ es) e = cond_error (bit x.place w) x.is (first_of w es) (found_error w es) e

-- By what the sample shows: quiet, complete, an error, or none of these.
pub by_poll : (s : Sample) (P : Option Found → Bool → Bool → Type 0)
    → ((c : Bool) → P None true c) → P (Some Complete) false true → ((e : UsbError) → P (Some (Failed e)) false false) → P (Some Neither) false false
    → P (classify s.status s.intr) (quiet s) (complete s)
unfolding classify
by_poll s P pending done failed neither = go (quiet s) (complete s) (first_of s.status errors) (found_error s.status errors)
  where
    go : (q c : Bool) (f : Found) → (f ≡ Complete → ⊥) → P (cond q None (Some (cond c Complete f))) q c
    go true c f n = pending c
    go false true f n = done
    go false false Complete n = absurd (n refl)
    go false false (Failed e) n = failed e
    go false false Neither n = neither

-- ---- the stage

module _ (x : Request) (slots n : ℕ) (first : List ℕ) (few : n ≤ 0xFFFF) (room : n ≤ length first) where
  pub record Stands (st : InStage) (buf : List ℕ) (s : Tally) (ls : List (Packet ℕ)) : Type 0 where
    pub data_stage : st.status ≡ false
    pub flying : Flying n first few room s (in_received st) st.inflight buf
    pub standing : Standing slots (first_pid x.kind) x.size (length s.retired) s.armed ls (in_packets x st) st.inflight

  -- What a step in the stage comes to, with `ls` the slots left to arm.
  pub data Comes (y : StepCall) (s : Tally) (ls : List (Packet ℕ)) (o : Outcome) : Type 0 where
    fails : o.next ≡ None → not_done o.answer → Comes y s ls o
    goes : (st : InStage) (now rest : List (Packet ℕ)) → ending y ≡ false → o.next ≡ Some (record { request = x; stage = in_stage st }) → Stands st o.buffer (tally_step slots y s) rest → not_done o.answer
        → ls ≡ now ++ rest → ((old : ℕ) → armings old o.writes ≡ map (shown false) now) → Comes y s ls o
    finishes : (d : InDepacketiser) (buf : List ℕ) → ending y ≡ true → Kept n first few room (tally_step slots y s).retired d buf
        → o.next ≡ (in_done x.kind false x d y.memory buf).next → o.answer ≡ (in_done x.kind false x d y.memory buf).answer
        → o.toggle ≡ (in_done x.kind false x d y.memory buf).toggle → o.buffer ≡ (in_done x.kind false x d y.memory buf).buffer
        → ((old : ℕ) → armings old o.writes ≡ armings old (in_done x.kind false x d y.memory buf).writes) → Comes y s ls o

  -- The same, by the tests of the sample.
  data ComesBy (y : StepCall) (s : Tally) (ls : List (Packet ℕ)) (o : Outcome) : Bool → Bool → Type 0 where
    fails_by : {q c : Bool} → o.next ≡ None → not_done o.answer → ComesBy y s ls o q c
    goes_by : {q c : Bool} (st : InStage) (now rest : List (Packet ℕ)) → (not q && c) ≡ false → o.next ≡ Some (record { request = x; stage = in_stage st }) → Stands st o.buffer (tally_by true q c slots y s) rest
        → not_done o.answer → ls ≡ now ++ rest → ((old : ℕ) → armings old o.writes ≡ map (shown false) now) → ComesBy y s ls o q c
    finishes_by : (d : InDepacketiser) (buf : List ℕ) → Kept n first few room (retire_two y s).retired d buf
        → o.next ≡ (in_done x.kind false x d y.memory buf).next → o.answer ≡ (in_done x.kind false x d y.memory buf).answer
        → o.toggle ≡ (in_done x.kind false x d y.memory buf).toggle → o.buffer ≡ (in_done x.kind false x d y.memory buf).buffer
        → ((old : ℕ) → armings old o.writes ≡ armings old (in_done x.kind false x d y.memory buf).writes) → ComesBy y s ls o false true

  module _ (y : StepCall) (fits : length y.memory ≡ 4096) (st : InStage) (buf : List ℕ) (s : Tally) (ls : List (Packet ℕ)) (h : Stands st buf s ls) where
    abbrev w : ℕ
    w = y.sample.buffers

    abbrev m : List ℕ
    m = y.memory

    after_comes : (ws : List Write) (o : Outcome) (q c : Bool) → ((old : ℕ) (vs : List Write) → armings old (ws ++ vs) ≡ armings old vs) → ComesBy y s ls o q c → ComesBy y s ls (after ws o) q c
    after_comes ws o q c z (fails_by e k) = fails_by e k
    after_comes ws o q c z (goes_by u now rest e f k l p v) = goes_by u now rest e f k l p (λ old. z old o.writes ∙ v old)
    after_comes ws o q c z (finishes_by d b k e f g i v) = finishes_by d b k e f g i (λ old. z old o.writes ∙ v old)

    first_one : One n first few room (retire_one y s) (in_retire_one w (in_received st) st.inflight buf m)
    first_one = one n first few room y fits s (in_received st) st.inflight buf h.flying

    second_one : (g : InRetiring) → Flying n first few room (retire_one y s) g.packets g.inflight g.buffer → One n first few room (retire_two y s) (in_retire_one w g.packets g.inflight g.buffer m)
    second_one g f = one n first few room y fits (retire_one y s) g.packets g.inflight g.buffer f

    -- ---- complete

    second_done : (i : InRetiring) → One n first few room (retire_two y s) i → ComesBy y s ls (after (completes ∷ []) (in_second_done i.long i x st.status m)) false true
    second_done i (too_long_of e) = rw e (fails_by refl (refused_not _))
    second_done i (fine e k) =
        let f = h.data_stage in
        rw e (finishes_by i.packets i.buffer k.kept
        (ap (λ (b : Bool). (in_done x.kind b x i.packets m i.buffer).next) f) (ap (λ (b : Bool). (in_done x.kind b x i.packets m i.buffer).answer) f)
        (ap (λ (b : Bool). (in_done x.kind b x i.packets m i.buffer).toggle) f) (ap (λ (b : Bool). (in_done x.kind b x i.packets m i.buffer).buffer) f)
        (λ old. completes_silent old (in_done x.kind st.status x i.packets m i.buffer).writes ∙ ap (λ (b : Bool). armings old (in_done x.kind b x i.packets m i.buffer).writes) f))

    first_done : (g : InRetiring) → One n first few room (retire_one y s) g → ComesBy y s ls (in_first_done g.long g w x st.status m) false true
    first_done g (too_long_of e) = rw e (fails_by refl (refused_not _))
    first_done g (fine e f) = rw e (second_done (in_retire_one w g.packets g.inflight g.buffer m) (second_one g f))

    completed : ComesBy y s ls (in_complete x st w buf m) false true
    unfolding in_complete
    completed = first_done (in_retire_one w (in_received st) st.inflight buf m) first_one

    -- ---- none of these

    abbrev moved : InDepacketiser → ℕ → InStage
    moved d k =
        let g = in_arm_two w (in_packets x st) k in
        record { status = st.status; slot = g.packets.slot; toarm = g.packets.remain; zlp = g.packets.zlp; retire = d.parity; remain = d.remain; offset = d.offset; inflight = g.inflight }

    armed_same : (retire_two y s).armed ≡ s.armed
    armed_same = retire_armed y (retire_one y s) ∙ retire_armed y s

    abbrev arming : ℕ → InArming
    arming k = in_arm_two w (in_packets x st) k

    arms : (g : InRetiring) → Flying n first few room (retire_two y s) g.packets g.inflight g.buffer
        → Arming slots (first_pid x.kind) x.size (length (retire_two y s).retired) (arm_two slots w (retire_two y s)).armed ls (arming g.inflight)
    arms g f =
        let s' = retire_two y s in
        let from = h.standing in
        arm_two_lem slots (first_pid x.kind) x.size w (length s'.retired) s'.armed ls (in_packets x st) g.inflight
        (record { slot = from.slot ∙ ap slot_of (sym armed_same); hands = from.hands; many = ap (λ (k : ℕ). k + length ls) armed_same ∙ from.many; flight = f.flight; pid = refl; size = refl })

    still : (g : InRetiring) (f : Flying n first few room (retire_two y s) g.packets g.inflight g.buffer) → Stands (moved g.packets g.inflight) g.buffer (arm_two slots w (retire_two y s)) (arms g f).rest
    still g f =
        let s' = retire_two y s in
        let a = (arms g f).standing in
        let k = arming g.inflight in
        let is : k.packets ≡ in_packets x (moved g.packets g.inflight) = λ i. record { slot = k.packets.slot; pid = a.pid i; remain = k.packets.remain; size = a.size i; zlp = k.packets.zlp } in
        record {
          data_stage = h.data_stage;
          flying = record { kept = f.kept; flight = a.flight };
          standing = subst (λ (c : InPacketiser). Standing slots (first_pid x.kind) x.size (length s'.retired) (arm_two slots w s').armed (arms g f).rest c k.inflight) is a;
        }

    rearmed : (g : InRetiring) → Flying n first few room (retire_two y s) g.packets g.inflight g.buffer → ComesBy y s ls (in_rearm x st g.packets g.inflight w m g.buffer) false false
    unfolding in_rearm
    rearmed g f =
        let a = arms g f in
        let ws = (arming g.inflight).writes in
        goes_by (moved g.packets g.inflight) a.now a.rest refl refl (still g f) (waiting_not true) a.split
        (λ old. armings_append ws (enable_writes x.size (stage_length x st.status)) old
        ∙ ap₂ {C = List ArmedSlot} ◌++◌ (a.events old) (enable_silent x.size (stage_length x st.status) (word_after 0x5010_0080 old ws)) ∙ append-nil (map (shown false) a.now))

    second_moved : (i : InRetiring) → One n first few room (retire_two y s) i → ComesBy y s ls (in_second_moved i.long i w x st m) false false
    second_moved i (too_long_of e) = rw e (fails_by refl (refused_not _))
    second_moved i (fine e f) = rw e (rearmed i f)

    first_moved : (g : InRetiring) → One n first few room (retire_one y s) g → ComesBy y s ls (in_first_moved g.long g w x st m) false false
    first_moved g (too_long_of e) = rw e (fails_by refl (refused_not _))
    first_moved g (fine e f) = rw e (second_moved (in_retire_one w g.packets g.inflight g.buffer m) (second_one g f))

    went_on : ComesBy y s ls (in_move x st w buf m) false false
    unfolding in_move
    went_on = first_moved (in_retire_one w (in_received st) st.inflight buf m) first_one

    -- ---- a ready poll

    ready : (f : Found) (q c : Bool) → ComesBy y s ls (in_found f x st w buf m) q c → ComesBy y s ls (after (polled ∷ []) (stage_step f x (in_stage st) w buf m)) q c
    unfolding in_step
    ready f q c k =
        subst (λ (b : Bool). ComesBy y s ls (after (polled ∷ []) (keeping b buf (in_step f x st w (lent b buf) m))) q c) (sym h.data_stage)
        (after_comes (polled ∷ []) (in_step f x st w buf m) q c polled_silent (after_comes quiets (in_found f x st w buf m) q c quiets_silent k))

    polled_comes : ComesBy y s ls (polls (classify y.sample.status y.sample.intr) x (in_stage st) w buf m) (quiet y.sample) (complete y.sample)
    polled_comes = by_poll y.sample (λ (p : Option Found) (q c : Bool). ComesBy y s ls (polls p x (in_stage st) w buf m) q c)
        (λ c. goes_by st [] ls refl refl h (waiting_not false) refl pending_silent)
        (ready Complete false true completed)
        (λ e. ready (Failed e) false false (fails_by refl (refused_not _)))
        (ready Neither false false went_on)

  by_tests : (y : StepCall) (s : Tally) (ls : List (Packet ℕ)) (o : Outcome) (q c : Bool) → lent_well y ≡ true → quiet y.sample ≡ q → complete y.sample ≡ c → ComesBy y s ls o q c → Comes y s ls o
  unfolding tally_step
  by_tests y s ls o q c l e f (fails_by a k) = fails a k
  by_tests y s ls o q c l e f (goes_by st now rest a b k d p v) = goes st now rest (rw (l, e, f) a) b (rw (l, e, f) k) d p v
  by_tests y s ls o q c l e f (finishes_by d buf k a b t g v) = finishes d buf (rw (l, e, f)) (rw (l, e, f) k) a b t g v

  tally_refused : (y : StepCall) (s : Tally) → lent_well y ≡ false → tally_step slots y s ≡ s
  unfolding tally_step
  tally_refused y s e = rw e

  -- A step in the stage.
  pub comes : (y : StepCall) (st : InStage) (buf : List ℕ) (s : Tally) (ls : List (Packet ℕ)) → fills x.kind ≡ true → well_formed (Some (record { request = x; stage = in_stage st })) ≡ true → length first ≡ x.length
      → Stands st buf s ls → Comes y s ls (step_in (record { transfer = Some (record { request = x; stage = in_stage st }); buffer = buf }) y)
  comes y st buf s ls f g e h =
      let r : Run = record { request = x; stage = in_stage st } in
      by_cases (lent_well y)
      (λ (l : lent_well y ≡ true).
      let o = step_polls r y buf (fills_may r f g) (kept_length n first few room s.retired (in_received st) buf h.flying.kept ∙ e) l in
      subst (Comes y s ls) (sym o) (by_tests y s ls (polls (classify y.sample.status y.sample.intr) x (in_stage st) y.sample.buffers buf y.memory) (quiet y.sample) (complete y.sample) l refl refl
      (polled_comes y (lent_sizes y.memory y.log l).0 st buf s ls h)))
      (λ (l : lent_well y ≡ false).
      let z = refused_lent (Some r) y buf l in
      goes st [] ls (rw l) z.0 (rw (tally_refused y s l, z.1) h) z.2 refl (λ old. ap (armings old) z.3 ∙ none_armed old))

  -- ---- the stage at its start

  -- Its first slots are armed.
  pub starts_armed : (k : TransferType) (t : Target) → t.size ≡ x.size → t.pid ≡ first_pid x.kind → 1 ≤ x.size → x.size ≤ 64 → slots ≡ length (in_cut_of k x.size (first_pid x.kind) n)
      → Arming slots (first_pid x.kind) x.size 0 (min slots 2) (in_cut_of k x.size (first_pid x.kind) n) (in_arm_two 0 (in_start_of k t.size t.pid n) 0)
  starts_armed k t e f low high many =
      let b = first_pid x.kind in
      let c = in_start_of k t.size t.pid n in
      let same : c ≡ in_start_of k x.size b n = ap₂ {C = InPacketiser} (λ (u : ℕ) (v : Bool). in_start_of k u v n) e f in
      start_armed slots b x.size (in_cut_of k x.size b n) c
      (record { slot = sym slot_zero; hands = subst (λ (u : InPacketiser). InLeft u (in_cut_of k x.size b n)) (sym same) (in_cut k x.size b low high n); many = omega (arith, many); flight = refl; pid = f; size = e })

  pub starts : (k : TransferType) (t : Target) (e : t.size ≡ x.size) (f : t.pid ≡ first_pid x.kind) (low : 1 ≤ x.size) (high : x.size ≤ 64) (many : slots ≡ length (in_cut_of k x.size (first_pid x.kind) n))
      → Stands (start_in t k false n).stage first (tally_start slots) (starts_armed k t e f low high many).rest
  unfolding start_in
  starts k t e f low high many =
      let g = in_arm_two 0 (in_start_of k t.size t.pid n) 0 in
      let b = first_pid x.kind in
      let r = starts_armed k t e f low high many in
      let a = r.standing in
      let is : g.packets ≡ in_packets x (start_in t k false n).stage = λ i. record { slot = g.packets.slot; pid = a.pid i; remain = g.packets.remain; size = a.size i; zlp = g.packets.zlp } in
      record {
        data_stage = refl;
        flying = record { kept = record { parity = sym slot_zero; stored = stored_none n first few room (in_received (start_in t k false n).stage) refl refl }; flight = a.flight };
        standing = subst (λ (u : InPacketiser). Standing slots b x.size 0 (min slots 2) r.rest u g.inflight) is a;
      }

-- What the writes of a stage's start arm.
pub start_events : (t : Target) (k : TransferType) (n old : ℕ) (now : List (Packet ℕ)) → ((w : ℕ) → armings w (in_arm_two 0 (in_start_of k t.size t.pid n) 0).writes ≡ map (shown false) now)
    → armings old (start_in t k false n).writes ≡ map (shown false) now
unfolding start_in
start_events t k n old now h = start_armings t n In (in_arm_two 0 (in_start_of k t.size t.pid n) 0).writes old (map (shown false) now) h
