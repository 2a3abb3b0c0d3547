-- A transfer arms at most 65,536 entries, whatever registers and samples show: what begins leave, and steps that act. Assumes nothing.
use Rattle.std.specs.Prelude.{Err, None, Ok, Option, Result, Some}
use mathlib.Core.Path.{◌≡◌, refl, sym, subst}
use mathlib.Core.Bool.{Bool, true, false, not, cond}
use mathlib.Core.List.{List, []}
use Prim.Native.Nat.{ℕ, ◌+◌, ◌-◌, ◌≤◌}
use native.Mathlib.Nat.{add-zero, zero-add}
use native.Mathlib.Omega.{arith}
use lib.Dec.{eqb, ltb}
use borrow.Author.Tests.{ltb-false, eqb-true, eqb-false}
use Rattle.cutting.specs.declared.transfer_type.TransferType.{TransferType}
use Rattle.cutting.specs.declared.transfer_type.TransferType.TheVariants.{FixedSize}
use Rattle.cutting.specs.declared.packetiser.OutCounters.{OutCounters}
use Rattle.cutting.specs.declared.depacketiser.InDepacketiser.{InDepacketiser}
use Rattle.cutting.specs.Counters.{zlp_of, next_of, out_gives, out_next, out_start}
use Rattle.transfers.specs.declared.host_controller.DataPhase.{DataPhase}
use Rattle.transfers.specs.declared.host_controller.DataPhase.TheVariants.{In as phase_in, Out as phase_out, None as phase_none}
use Rattle.transfers.specs.declared.host_controller.TransferExtras.{TransferExtras}
use Rattle.transfers.specs.declared.wire.SetupPacket.{SetupPacket}
use Rattle.transfers.specs.declared.writes.Target.{Target}
use Rattle.transfers.specs.declared.answers.Armed.{Armed}
use Rattle.transfers.specs.declared.sample.Sample.{Sample}
use Rattle.transfers.specs.declared.sample.Found.TheVariants.{Complete, Failed, Neither}
use Rattle.transfers.specs.declared.driver.Run.{Run}
use Rattle.transfers.specs.declared.driver.Request.{Request}
use Rattle.transfers.specs.declared.driver.Kind.{Kind}
use Rattle.transfers.specs.declared.driver.Kind.TheVariants.{Control as control_kind, Bulk as bulk_kind}
use Rattle.transfers.specs.declared.driver.Stage.{Stage}
use Rattle.transfers.specs.declared.driver.Stage.TheVariants.{Setup as setup_stage, In as in_stage, Out as out_stage}
use Rattle.transfers.specs.declared.driver.InStage.{InStage}
use Rattle.transfers.specs.declared.driver.OutStage.{OutStage}
use Rattle.transfers.specs.Sample.{classify}
use Rattle.transfers.specs.Arming.{may_arm, out_armed, out_arm_if, out_arm, out_arm_two}
use Rattle.transfers.specs.Answers.{nothing_armed, outs_armed}
use Rattle.transfers.specs.State.{endpoint_of, target_of, control_of}
use Rattle.transfers.specs.Retiring.{InRetiring, in_retire_one}
use Rattle.transfers.specs.Outcome.{Outcome, start_in, start_out, enters_in, enters_out}
use Rattle.transfers.specs.Step.{setup_done, setup_step, in_received, in_done, in_second_done, in_first_done, in_complete, in_rearm, in_second_moved, in_first_moved, in_move, in_step, out_packets, out_retire_two, out_control_done, out_done, out_complete, out_move, out_step, lent, keeping, polls, acts}
use Rattle.transfers.specs.Calls.{Beginning, begins_control, begins_bulk_in, begins_bulk_out}
use Rattle.transfers.specs.Entries.{armed_count}
use Rattle.record.specs.Shown.{ends}
use Rattle.record.proofs.Stepping.{found_ends}
use Rattle.transfers.specs.declared.answers.Step.TheVariants.{Done, Waiting}
use Rattle.transfers.specs.declared.refusal.Refusal.{Refusal}
use Rattle.transfers.specs.declared.answers.Step.{Step}
use Rattle.cutting.specs.declared.packetiser.Arm.{Arm}
use Rattle.transfers.specs.declared.sample.Found.{Found}

-- ---- the bound

-- An empty packet that is still to come.
abbrev owed : Bool → ℕ
owed false = 0
owed true = 1

-- n entries were armed, and r bytes are left: a packet for each at most. Counters with more than 65,535 bytes left give none.
abbrev OutBound : ℕ → ℕ → Bool → Type 0
OutBound n r z = (n ≤ 65536) × (r ≤ 65535 → n + r + owed z ≤ 65536)

-- A data stage IN comes after no more than the SETUP, and a control's status packet after it; after a status stage IN nothing is armed.
abbrev InBound : ℕ → Bool → Type 0
InBound n false = n ≤ 1
InBound n true = n ≤ 65536

-- The same of each stage: in SETUP only the SETUP was armed.
abbrev pub StageBound : ℕ → Stage → Type 0
StageBound n setup_stage = n ≤ 1
StageBound n (in_stage st) = InBound n st.status
StageBound n (out_stage st) = OutBound n st.remain st.zlp

-- n entries are within the bound of the transfer under way.
abbrev pub Bounded : ℕ → Option Run → Type 0
Bounded n None = Unit {0}
Bounded n (Some r) = StageBound n r.stage

-- The same, where a transfer is under way.
abbrev pub UnderWay : ℕ → Option Run → Type 0
UnderWay n None = ⊥
UnderWay n (Some r) = StageBound n r.stage

pub under_bounded : (n : ℕ) (t : Option Run) → UnderWay n t → Bounded n t
under_bounded n None h = tt
under_bounded n (Some r) h = h

-- With nothing armed every stage is.
pub none_bound : (st : Stage) → StageBound 0 st
none_bound setup_stage = omega arith
none_bound (in_stage st) = by st.status
  where
    by : (v : Bool) → InBound 0 v
    by false = omega arith
    by true = omega arith
none_bound (out_stage st) = by st.zlp
  where
    by : (z : Bool) → OutBound 0 st.remain z
    by false = (omega arith, λ r. omega arith)
    by true = (omega arith, λ r. omega arith)

pub bounded_small : (n : ℕ) (r : Run) → Bounded n (Some r) → n ≤ 65536
bounded_small n r h = by r.stage h
  where
    in_small : (v : Bool) → InBound n v → n ≤ 65536
    in_small false h = omega arith
    in_small true h = h

    by : (st : Stage) → StageBound n st → n ≤ 65536
    by setup_stage h = omega arith
    by (in_stage st) h = in_small st.status h
    by (out_stage st) h = h.0

-- ---- packets

-- A packet is one entry.
abbrev gave : Option Arm → ℕ
gave None = 0
gave (Some a) = 1

-- The bound, of the counters.
abbrev CountersBound : ℕ → OutCounters → Type 0
CountersBound n c = OutBound n c.remain c.zlp

-- After what `next_packet` answers with r bytes left; v: there are none.
abbrev After : ℕ → ℕ → Bool → Bool → Option (ℕ × Bool) → Type 0
After n r z v None = OutBound n r z
After n r z v (Some (k, last)) = OutBound (n + 1) (r - k) (cond v false z)

next_bound : (n r p : ℕ) (z : Bool) → r ≤ 65535 → OutBound n r z → After n r z (eqb r 0) (next_of r p z)
next_bound n r p z s h = go (eqb p 0) (ltb 64 p) (eqb r 0) (ltb r p) (ltb p r) z (eqb-false p 0) (eqb-false r 0) h (h.1 s)
  where
    go : (b0 b1 b2 b3 b4 z : Bool) → (b0 ≡ false → p ≡ 0 → ⊥) → (b2 ≡ false → r ≡ 0 → ⊥) → OutBound n r z → n + r + owed z ≤ 65536
        → After n r z b2 (cond b0 None (cond b1 None (cond b2 (cond z (Some (0, true)) None) (cond b3 (Some (r, true)) (cond b4 (Some (p, false)) (Some (p, not z)))))))
    go true b1 b2 b3 b4 z f g h k = h
    go false true b2 b3 b4 z f g h k = h
    go false false true b3 b4 true f g h k = (omega arith, λ q. omega arith)
    go false false true b3 b4 false f g h k = h
    go false false false true b4 z f g h k = let u = g refl in (omega arith, λ q. omega arith)
    go false false false false true z f g h k = let u = g refl in let v = f refl in (omega arith, λ q. omega arith)
    go false false false false false z f g h k = let u = g refl in let v = f refl in (omega arith, λ q. omega arith)

counters_bound : (n : ℕ) (c : OutCounters) → CountersBound n c → CountersBound (n + gave (out_next c).arm) (out_next c).rest
unfolding out_next
counters_bound n c h = by (ltb (0xFFFF - c.offset) c.remain) (ltb-false (0xFFFF - c.offset) c.remain)
  where
    gives : (x : Option (ℕ × Bool)) → After n c.remain c.zlp (eqb c.remain 0) x → CountersBound (n + gave (out_gives x c).arm) (out_gives x c).rest
    gives None k = subst (λ (i : ℕ). CountersBound i c) (sym (add-zero n)) k
    gives (Some (j, last)) k = k

    by : (v : Bool) → (v ≡ false → c.remain ≤ 0xFFFF - c.offset)
        → let x = cond v None (next_of c.remain c.size c.zlp) in CountersBound (n + gave (out_gives x c).arm) (out_gives x c).rest
    by true s = gives None h
    by false s = gives (next_of c.remain c.size c.zlp) (next_bound n c.remain c.size c.zlp (let t = s refl in omega arith) h)

one_bound : (n w : ℕ) (c : OutCounters) (k : ℕ) (buf m : List ℕ) → CountersBound n c → CountersBound (n + gave (out_arm w c k buf m).arm) (out_arm w c k buf m).packets
unfolding out_arm
one_bound n w c k buf m h = by (may_arm w k c.slot)
  where
    armed : (a : Option Arm) (d : OutCounters) → CountersBound (n + gave a) d → let g = out_armed a d k c.offset buf m in CountersBound (n + gave g.arm) g.packets
    armed None d q = q
    armed (Some a) d q = q

    by : (v : Bool) → let g = out_arm_if v c k buf m in CountersBound (n + gave g.arm) g.packets
    by false = subst (λ (i : ℕ). CountersBound i c) (sym (add-zero n)) h
    by true = armed (out_next c).arm (out_next c).rest (counters_bound n c h)

two_bound : (n w : ℕ) (c : OutCounters) (k : ℕ) (buf m : List ℕ) → CountersBound n c
    → (x e : ℕ) → let g = out_arm_two w c k buf m in CountersBound (n + armed_count (outs_armed x e g.first g.second)) g.packets
unfolding out_arm_two
two_bound n w c k buf m h x e =
    let g = out_arm w c k buf m in
    let i = out_arm w g.packets g.inflight buf g.memory in
    subst (λ (j : ℕ). CountersBound j i.packets) (sum g.arm i.arm)
    (one_bound (n + gave g.arm) w g.packets g.inflight buf g.memory (one_bound n w c k buf m h))
  where
    sum : (a b : Option Arm) → n + gave a + gave b ≡ n + armed_count (outs_armed x e a b)
    sum None None = omega arith
    sum None (Some b) = omega arith
    sum (Some a) None = omega arith
    sum (Some a) (Some b) = omega arith

-- An OUT stage begins.
start_bound : (k : ℕ) (T : Target) (t : TransferType) (status : Bool) (received n : ℕ) (now m : List ℕ) → OutBound k n (zlp_of t T.size n)
    → (x e : ℕ) → let s = start_out T t status received n now m in StageBound (k + armed_count (outs_armed x e s.first s.second)) (out_stage s.stage)
unfolding start_out
start_bound k T t status received n now m h = two_bound k 0 (out_start t T.size T.pid n) 0 now m h

-- A control's data after its SETUP; FixedSize owes an empty packet only for no bytes.
data_bound : (k n p : ℕ) → k ≤ 1 → OutBound k n (zlp_of FixedSize p n)
data_bound k n p h = (omega arith, by (eqb n 0) (eqb-true n 0))
  where
    by : (v : Bool) → (v ≡ true → n ≡ 0) → n ≤ 65535 → k + n + owed v ≤ 65536
    by true e q = let z = e refl in omega arith
    by false e q = omega arith

-- ---- begins

-- A begin starts the count with what it armed.
abbrev Begins : Beginning → Type 0
Begins o = Bounded (armed_count o.armed) o.next

pub control_bound : (a : ℕ) (x : TransferExtras) (p : ℕ) (s : SetupPacket) (ph : DataPhase) (n : ℕ) (m : List ℕ) → Begins (begins_control a x p s ph n m)
control_bound a x p s ph n m = omega arith

pub bulk_in_bound : (x : Request) (k : TransferType) (m : List ℕ) → Begins (begins_bulk_in x k m)
unfolding start_in
bulk_in_bound x k m = omega arith

pub bulk_out_bound : (x : Request) (e : ℕ) (k : TransferType) (buf m : List ℕ) → Begins (begins_bulk_out x e k buf m)
bulk_out_bound x e k buf m =
    let s = start_out (target_of x) k false 0 x.length buf m in
    subst (λ (i : ℕ). StageBound i (out_stage s.stage)) (zero-add (armed_count (outs_armed x.address e s.first s.second)))
    (start_bound 0 (target_of x) k false 0 x.length buf m (omega arith, by (zlp_of k x.size x.length)) x.address e)
  where
    by : (v : Bool) → x.length ≤ 65535 → 0 + x.length + owed v ≤ 65536
    by false q = omega arith
    by true q = omega arith

-- ---- a step that acts: it waits within the bound, or leaves nothing under way; one that fails arms nothing

-- With n entries armed before it.
abbrev pub Shaped : ℕ → Result Step Refusal → Option Run → Armed → Type 0
Shaped n (Ok (Waiting again)) t a = UnderWay (n + armed_count a) t
Shaped n (Ok (Done k)) t a = t ≡ None
Shaped n (Err why) t a = (ends why ≡ true) × (t ≡ None) × (a ≡ nothing_armed)

-- The same of an outcome.
abbrev Acted : ℕ → Outcome → Type 0
Acted n o = Shaped n o.answer o.next o.armed

acted_keeping : (n : ℕ) (s : Bool) (buf : List ℕ) (o : Outcome) → Acted n o → Acted n (keeping s buf o)
acted_keeping n true buf o h = h
acted_keeping n false buf o h = h

module _ (n : ℕ) (x : Request) (m : List ℕ) where
  -- The next stage begins.
  enters_in_lem : (status : Bool) (k : ℕ) (buf : List ℕ) → InBound n status → Acted n (enters_in x status k m buf)
  unfolding start_in
  enters_in_lem status k buf h = subst (λ (i : ℕ). InBound i status) (sym (add-zero n)) h

  enters_out_lem : (status : Bool) (received k : ℕ) (sent buf : List ℕ) → n ≤ 1 → Acted n (enters_out x status received k sent m buf)
  enters_out_lem status received k sent buf h = start_bound n (target_of x) FixedSize status received k sent m (data_bound n k x.size h) x.address (endpoint_of x.kind)

  acted_setup : (ph : DataPhase) (v : Bool) (k : ℕ) (buf : List ℕ) → n ≤ 1 → Acted n (setup_done ph v x k buf m)
  acted_setup phase_in true k buf h = (refl, refl, refl)
  acted_setup phase_in false k buf h = enters_in_lem false k buf h
  acted_setup phase_out true k buf h = (refl, refl, refl)
  acted_setup phase_out false k buf h = enters_out_lem false 0 k buf buf h
  acted_setup phase_none v k buf h = enters_in_lem true 0 buf (omega arith)

  acted_in_done : (k : Kind) (v : Bool) (d : InDepacketiser) (buf : List ℕ) → InBound n v → Acted n (in_done k v x d m buf)
  acted_in_done (control_kind c) true d buf h = refl
  acted_in_done (control_kind c) false d buf h = enters_out_lem true d.offset 0 [] buf h
  acted_in_done (bulk_kind b) v d buf h = refl

  acted_in_complete : (st : InStage) (w : ℕ) (buf : List ℕ) → InBound n st.status → Acted n (in_complete x st w buf m)
  unfolding in_complete
  acted_in_complete st w buf q = let g = in_retire_one w (in_received st) st.inflight buf m in first g.long g
    where
      second : (v : Bool) (h : InRetiring) → Acted n (in_second_done v h x st.status m)
      second true h = (refl, refl, refl)
      second false h = acted_in_done x.kind st.status h.packets h.buffer q

      first : (v : Bool) (g : InRetiring) → Acted n (in_first_done v g w x st.status m)
      first true g = (refl, refl, refl)
      first false g = let h = in_retire_one w g.packets g.inflight g.buffer m in second h.long h

  acted_in_move : (st : InStage) (w : ℕ) (buf : List ℕ) → InBound n st.status → Acted n (in_move x st w buf m)
  unfolding in_move in_rearm
  acted_in_move st w buf q = let g = in_retire_one w (in_received st) st.inflight buf m in first g.long g
    where
      second : (v : Bool) (h : InRetiring) → Acted n (in_second_moved v h w x st m)
      second true h = (refl, refl, refl)
      second false h = subst (λ (i : ℕ). InBound i st.status) (sym (add-zero n)) q

      first : (v : Bool) (g : InRetiring) → Acted n (in_first_moved v g w x st m)
      first true g = (refl, refl, refl)
      first false g = let h = in_retire_one w g.packets g.inflight g.buffer m in second h.long h

  acted_out_done : (k : Kind) (st : OutStage) (parity : Bool) (buf : List ℕ) → n ≤ 65536 → Acted n (out_done k x st parity m buf)
  acted_out_done (control_kind c) st parity buf h = by st.status
    where
      by : (v : Bool) → Acted n (out_control_done v x st.received m buf)
      by true = refl
      by false = enters_in_lem true 0 buf h
  acted_out_done (bulk_kind b) st parity buf h = refl

  acted_out_move : (st : OutStage) (w : ℕ) (buf : List ℕ) → StageBound n (out_stage st) → Acted n (out_move x st w buf m)
  unfolding out_move
  acted_out_move st w buf h = two_bound n w (out_packets x st) (out_retire_two w st.retire st.inflight).inflight buf m h x.address (endpoint_of x.kind)

pub acted : (n : ℕ) (x : Request) (st : Stage) (s : Sample) (buf m : List ℕ) → StageBound n st → Acted n (acts x st s buf m)
unfolding acts setup_step in_step out_step out_complete
acted n x st s buf m = go (classify s.status s.intr) refl st
  where
    go : (p : Option Found) → classify s.status s.intr ≡ p → (st : Stage) → StageBound n st → Acted n (polls p x st s.buffers buf m)
    go None q st h = subst (λ (i : ℕ). StageBound i st) (sym (add-zero n)) h
    go (Some Complete) q setup_stage h = let c = control_of x.kind in acted_setup n x m c.phase (ltb x.length c.wLength) c.wLength buf h
    go (Some (Failed e)) q setup_stage h = (found_ends s e q, refl, refl)
    go (Some Neither) q setup_stage h = omega arith
    go (Some Complete) q (in_stage st) h = acted_keeping n st.status buf _ (acted_in_complete n x m st s.buffers (lent st.status buf) h)
    go (Some (Failed e)) q (in_stage st) h = acted_keeping n st.status buf _ (found_ends s e q, refl, refl)
    go (Some Neither) q (in_stage st) h = acted_keeping n st.status buf _ (acted_in_move n x m st s.buffers (lent st.status buf) h)
    go (Some Complete) q (out_stage st) h = acted_keeping n st.status buf _ (acted_out_done n x m x.kind st (out_retire_two s.buffers st.retire st.inflight).parity (lent st.status buf) h.0)
    go (Some (Failed e)) q (out_stage st) h = acted_keeping n st.status buf _ (found_ends s e q, refl, refl)
    go (Some Neither) q (out_stage st) h = acted_keeping n st.status buf _ (acted_out_move n x m st s.buffers (lent st.status buf) h)
