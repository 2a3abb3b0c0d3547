-- The whole logs of begin, open and poll decode to what the caller asked for. Assumes nothing.
use Rattle.std.specs.Prelude.{Err, None, Ok, Option, Result, Some}
use mathlib.Core.Path.{◌≡◌, refl, sym, ap, ◌∙◌, subst}
use mathlib.Core.Bool.{Bool, true, false, not, cond}
use mathlib.Core.List.{List, [], ◌∷◌, ◌++◌}
use Prim.Native.Nat.{ℕ, ◌-◌, ◌≤◌, ◌<◌}
use native.Mathlib.Omega.{arith}
use lib.Dec.{eqb, leb}
use lib.ListN.{length}
use borrow.Author.Tests.{leb-true}
use Rattle.pool.specs.declared.async_pool.PoolIndex.{PoolIndex}
use Rattle.pool.specs.declared.pipe.PipeNumber.{PipeNumber}
use Rattle.pool.specs.Pool.{alloc_of}
use Rattle.pool.specs.Pipe.{offset, pipe_of}
use Rattle.pool.proofs.Pipes.{pipe_counted}
use Rattle.cutting.specs.declared.transfer_type.TransferType.{TransferType}
use Rattle.cutting.specs.declared.packetiser.Arm.{Arm}
use Rattle.cutting.specs.declared.packetiser.InPacketiser.{InPacketiser}
use Rattle.cutting.specs.declared.packetiser.OutCounters.{OutCounters}
use Rattle.cutting.specs.Counters.{in_start_of, in_next, out_start, out_next}
use Rattle.transfers.specs.declared.host_controller.DataPhase.{DataPhase}
use Rattle.transfers.specs.declared.host_controller.TransferExtras.{TransferExtras}
use Rattle.transfers.specs.declared.refusal.Refusal.{Refusal}
use Rattle.transfers.specs.declared.wire.SetupPacket.{SetupPacket}
use Rattle.transfers.specs.declared.wire.Direction.{Direction}
use Rattle.transfers.specs.declared.wire.Direction.TheVariants.{In, Out}
use Rattle.transfers.specs.declared.writes.Target.{Target}
use Rattle.transfers.specs.declared.pipes.PipeSample.{PipeSample}
use Rattle.transfers.specs.declared.driver.Driver.{Driver}
use Rattle.transfers.specs.Log.{Write, wr, masked}
use Rattle.transfers.specs.Memory.{log_fits, lent_fits}
use Rattle.transfers.specs.Registers.{bit}
use Rattle.transfers.specs.Writes.{head_writes, arm_writes, enable_writes, go_writes}
use Rattle.transfers.specs.Arming.{may_arm, in_armed, in_arm_if, in_arm, in_arm_two, out_armed, out_arm_if, out_arm, out_arm_two}
use Rattle.transfers.specs.State.{target_of, address_good, endpoint_good, size_good}
use Rattle.transfers.specs.Outcome.{start_in, start_out}
use Rattle.transfers.specs.Calls.{is_idle, fields_refusal, begin_refusal, Beginning, bulk_request, begins_control, begin_control_of, begins_bulk_in, begin_bulk_in_of, begins_bulk_out, begin_bulk_out_of}
use Rattle.transfers.specs.Pipes.{open_number, open_index, open_free, open_if, opening_pipe, opening, pool_of, index_open, poll_full, poll_if, polling_pipe, polling}
use Rattle.transfers.specs.Isolation.{held_of}
use Rattle.transfers.specs.Apart.{Every}
use Rattle.transfers.proofs.Beginnings.{none_fields}
use Rattle.transfers.proofs.OpenPipes.{between, open_some}
use Rattle.rules.specs.Fields.{word_after, read_endpoint_control, read_addr_endp, read_sie_ctrl}
use Rattle.rules.specs.Datasheet.{PointsAt, start_of, Starts, SendsSetup, ArmsPipe, OpensPipe, DatasheetRules}
use Rattle.rules.proofs.Datasheet.{arms_slot, points, clear, starts as block_starts, setup, opens, polls}
use Rattle.rules.proofs.Lists.{every_append}
use Rattle.rules.proofs.Steps.{accepted}
use Rattle.transfers.specs.declared.driver.Run.{Run}
use Rattle.transfers.specs.declared.pipes.Poll.TheVariants.{Packet as polled_packet}

-- ---- registers that writes leave alone

abbrev Misses : ℕ → List Write → Type 0
Misses q = Every (λ r m v. eqb q r ≡ false)

missed : (q : ℕ) (ws : List Write) (old : ℕ) → Misses q ws → word_after q old ws ≡ old
missed q [] old h = refl
missed q (wr r m v ∷ ws) old h = ap (λ (b : Bool). word_after q (cond b (masked old m v) old) ws) h.0 ∙ missed q ws old h.1

after_append : (q : ℕ) (a b : List Write) (old : ℕ) → word_after q old (a ++ b) ≡ word_after q (word_after q old a) b
after_append q [] b old = refl
after_append q (wr r m v ∷ a) b old = after_append q a b (cond (eqb q r) (masked old m v) old)

-- What the writes after the first ones leave alone is as the first ones left it.
first_only : (q : ℕ) (a b : List Write) (old : ℕ) → Misses q b → word_after q old (a ++ b) ≡ word_after q old a
first_only q a b old h = after_append q a b old ∙ missed q b (word_after q old a) h

-- ---- arming

module _ (P : ℕ → ℕ → ℕ → Type 0) (arm : (f : Bool) (a : Arm) → Every P (arm_writes f a)) where
  in_armed_every : (o : Option Arm) (c : InPacketiser) (k : ℕ) → Every P (in_armed o c k).writes
  in_armed_every None c k = tt
  in_armed_every (Some a) c k = arm false a

  in_arm_every : (w : ℕ) (c : InPacketiser) (k : ℕ) → Every P (in_arm w c k).writes
  unfolding in_arm
  in_arm_every w c k = by (may_arm w k c.slot)
    where
      by : (b : Bool) → Every P (in_arm_if b c k).writes
      by false = tt
      by true = in_armed_every (in_next c).arm (in_next c).rest k

  pub in_two_every : (w : ℕ) (c : InPacketiser) (k : ℕ) → Every P (in_arm_two w c k).writes
  unfolding in_arm_two
  in_two_every w c k = let g = in_arm w c k in every_append P g.writes (in_arm w g.packets g.inflight).writes (in_arm_every w c k) (in_arm_every w g.packets g.inflight)

  out_armed_every : (o : Option Arm) (c : OutCounters) (k off : ℕ) (buf m : List ℕ) → Every P (out_armed o c k off buf m).writes
  out_armed_every None c k off buf m = tt
  out_armed_every (Some a) c k off buf m = arm true a

  out_arm_every : (w : ℕ) (c : OutCounters) (k : ℕ) (buf m : List ℕ) → Every P (out_arm w c k buf m).writes
  unfolding out_arm
  out_arm_every w c k buf m = by (may_arm w k c.slot)
    where
      by : (b : Bool) → Every P (out_arm_if b c k buf m).writes
      by false = tt
      by true = out_armed_every (out_next c).arm (out_next c).rest k c.offset buf m

  pub out_two_every : (w : ℕ) (c : OutCounters) (k : ℕ) (buf m : List ℕ) → Every P (out_arm_two w c k buf m).writes
  unfolding out_arm_two
  out_two_every w c k buf m =
      let g = out_arm w c k buf m in
      every_append P g.writes (out_arm w g.packets g.inflight buf g.memory).writes (out_arm_every w c k buf m) (out_arm_every w g.packets g.inflight buf g.memory)

-- A register that is neither EP_BUFFER_CONTROL 0 nor a delay.
arm_misses : (q : ℕ) → eqb q 0x5010_0080 ≡ false → eqb q 0 ≡ false → (f : Bool) (a : Arm) → Misses q (arm_writes f a)
unfolding arm_writes
arm_misses q e z f a = (e, (z, (e, tt)))

-- ---- a stage's start, with its packets' writes in the middle

module _ (t : Target) (n : ℕ) (d : Direction) (ws : List Write) (arm : (q : ℕ) → eqb q 0x5010_0080 ≡ false → eqb q 0 ≡ false → Misses q ws) where
  abbrev tail : List Write
  tail = ws ++ (enable_writes t.size n ++ go_writes d)

  epx_missed : Misses 0x5010_0100 tail
  unfolding enable_writes go_writes
  epx_missed = every_append (λ r m v. eqb 0x5010_0100 r ≡ false) ws (enable_writes t.size n ++ go_writes d) (arm 0x5010_0100 refl refl) (refl, (refl, (refl, (refl, (refl, (refl, tt))))))

  addr_missed : Misses 0x5011_0000 tail
  unfolding enable_writes go_writes
  addr_missed = every_append (λ r m v. eqb 0x5011_0000 r ≡ false) ws (enable_writes t.size n ++ go_writes d) (arm 0x5011_0000 refl refl) (refl, (refl, (refl, (refl, (refl, (refl, tt))))))

  stage_points : (old : ℕ) → t.address ≤ 127 → t.endpoint ≤ 15 → PointsAt t.address t.endpoint t.size n old (head_writes t n ++ tail)
  stage_points old h k =
      let p = points t n old h k in
      record {
        epx = ap read_endpoint_control (first_only 0x5010_0100 (head_writes t n) tail old epx_missed) ∙ p.epx;
        whom = ap read_addr_endp (first_only 0x5011_0000 (head_writes t n) tail old addr_missed) ∙ p.whom;
      }

  head_missed : Misses 0x5011_004C (head_writes t n)
  unfolding head_writes
  head_missed = (refl, (refl, (refl, (refl, (refl, tt)))))

  enable_missed : Misses 0x5011_004C (enable_writes t.size n)
  unfolding enable_writes
  enable_missed = (refl, (refl, (refl, tt)))

  stage_starts : (old : ℕ) → Starts d old (head_writes t n ++ tail)
  stage_starts old =
      let q : ℕ = 0x5011_004C in
      let en = enable_writes t.size n in
      let v = word_after q old (head_writes t n) in
      let w = word_after q v ws in
      let same : word_after q w en ≡ old = missed q en w enable_missed ∙ missed q ws v (arm q refl refl) ∙ missed q (head_writes t n) old head_missed in
      record {
        going =
            ap read_sie_ctrl (after_append q (head_writes t n) tail old ∙ after_append q ws (en ++ go_writes d) v ∙ after_append q en (go_writes d) w)
            ∙ (block_starts d (word_after q w en)).going ∙ ap (λ (u : ℕ). start_of d (read_sie_ctrl u).PREAMBLE_EN) same;
      }

-- ---- begins

in_start : (t : Target) (k : TransferType) (n old : ℕ) → t.address ≤ 127 → t.endpoint ≤ 15 → let ws = (start_in t k false n).writes in PointsAt t.address t.endpoint t.size n old ws × Starts In old ws
unfolding start_in
in_start t k n old h e =
    let c = in_start_of k t.size t.pid n in
    let arm : (q : ℕ) → eqb q 0x5010_0080 ≡ false → eqb q 0 ≡ false → Misses q (in_arm_two 0 c 0).writes = λ q u z. in_two_every (λ r m v. eqb q r ≡ false) (arm_misses q u z) 0 c 0 in
    (stage_points t n In (in_arm_two 0 c 0).writes arm old h e, stage_starts t n In (in_arm_two 0 c 0).writes arm old)

out_start_lem : (t : Target) (k : TransferType) (n : ℕ) (buf m : List ℕ) (old : ℕ) → t.address ≤ 127 → t.endpoint ≤ 15
    → let ws = (start_out t k false 0 n buf m).writes in PointsAt t.address t.endpoint t.size n old ws × Starts Out old ws
unfolding start_out
out_start_lem t k n buf m old h e =
    let c = out_start k t.size t.pid n in
    let arm : (q : ℕ) → eqb q 0x5010_0080 ≡ false → eqb q 0 ≡ false → Misses q (out_arm_two 0 c 0 buf m).writes = λ q u z. out_two_every (λ r m v. eqb q r ≡ false) (arm_misses q u z) 0 c 0 buf m in
    (stage_points t n Out (out_arm_two 0 c 0 buf m).writes arm old h e, stage_starts t n Out (out_arm_two 0 c 0 buf m).writes arm old)

module _ (t : Option Run) (a e p : ℕ) (k : TransferType) (b : Bool) (first m log : List ℕ) where
  abbrev fields : Result (Unit {0}) Refusal
  fields = fields_refusal (address_good a) (endpoint_good e) (size_good p) (leb (length first) 0xFFFF)

  bounds : begin_refusal (lent_fits m log) (is_idle t) fields ≡ Ok tt → (a ≤ 127) × (e ≤ 15)
  bounds q =
      let f = none_fields (lent_fits m log) (is_idle t) (address_good a) (endpoint_good e) (size_good p) (leb (length first) 0xFFFF) q in
      (leb-true a 127 f.0, (between 1 e 15 f.1).1)

  bulk_in : (old : ℕ) → (begin_bulk_in_of t a e p k b first m log).answer ≡ Ok tt
      → PointsAt a e p (length first) old (begin_bulk_in_of t a e p k b first m log).writes × Starts In old (begin_bulk_in_of t a e p k b first m log).writes
  unfolding begin_bulk_in_of
  bulk_in old q =
      let x = bulk_request In a e p b (length first) in
      let ok = accepted (begin_refusal (lent_fits m log) (is_idle t) fields) t m (begins_bulk_in x k m) q in
      let g = bounds ok.0 in
      subst (λ (o : Beginning). PointsAt a e p (length first) old o.writes × Starts In old o.writes) (sym ok.1) (in_start (target_of x) k (length first) old g.0 g.1)

  bulk_out : (old : ℕ) → (begin_bulk_out_of t a e p k b first m log).answer ≡ Ok tt
      → PointsAt a e p (length first) old (begin_bulk_out_of t a e p k b first m log).writes × Starts Out old (begin_bulk_out_of t a e p k b first m log).writes
  unfolding begin_bulk_out_of
  bulk_out old q =
      let x = bulk_request Out a e p b (length first) in
      let ok = accepted (begin_refusal (lent_fits m log) (is_idle t) fields) t m (begins_bulk_out x e k first m) q in
      let g = bounds ok.0 in
      subst (λ (o : Beginning). PointsAt a e p (length first) old o.writes × Starts Out old o.writes) (sym ok.1) (out_start_lem (target_of x) k (length first) first m old g.0 g.1)

sends_setup : (t : Option Run) (a : ℕ) (x : TransferExtras) (p : ℕ) (s : SetupPacket) (ph : DataPhase) (first m log : List ℕ) (old : ℕ)
    → s.bmRequestType < 0x100 → s.bRequest < 0x100 → s.wValue < 0x1_0000 → s.wIndex < 0x1_0000 → s.wLength < 0x1_0000
    → (begin_control_of t a x p s ph first m log).answer ≡ Ok tt → SendsSetup a x s old (begin_control_of t a x p s ph first m log).writes
unfolding begin_control_of
sends_setup t a x p s ph first m log old b0 b1 b2 b3 b4 q =
    let f = fields_refusal (address_good a) true (size_good p) true in
    let ok = accepted (begin_refusal (lent_fits m log) (is_idle t) f) t m (begins_control a x p s ph (length first) m) q in
    let g = none_fields (lent_fits m log) (is_idle t) (address_good a) true (size_good p) true ok.0 in
    subst (λ (o : Beginning). SendsSetup a x s old o.writes) (sym ok.1) (setup a x s old (leb-true a 127 g.0) b0 b1 b2 b3 b4)

-- ---- pipes

refused_open : {A : Type 0} (e : Refusal) (n : PipeNumber) → Err e ≡ Ok n → A
refused_open e n q = absurd (let z : ◌≡◌ {A = ℕ} 0 1 = cc in omega arith)

same_pipe : (m n : PipeNumber) → ◌≡◌ {A = Result PipeNumber Refusal} (Ok m) (Ok n) → m ≡ n
same_pipe m n e = cc

opens_pipe : (d : Driver) (address : ℕ) (extras : TransferExtras) (endpoint size interval : ℕ) (log : List ℕ) (n : PipeNumber) (old : ℕ)
    → (opening d address extras endpoint size interval log).answer ≡ Ok n → OpensPipe n.0 address extras endpoint size interval old (opening d address extras endpoint size interval log).writes
unfolding opening_pipe open_free
opens_pipe d address extras endpoint size interval log n old =
    go (log_fits log) (address_good address) (endpoint_good endpoint) (size_good size) (leb-true address 127) (between 1 endpoint 15) (between 1 size 64)
  where
    number : (at : PoolIndex) (l : _) (o : Option PipeNumber) → pipe_of at ≡ o → address ≤ 127 → endpoint ≤ 15 → size ≤ 64
        → (open_number o at l d.pipes address extras endpoint size interval).answer ≡ Ok n
        → OpensPipe n.0 address extras endpoint size interval old (open_number o at l d.pipes address extras endpoint size interval).writes
    number at l None f u v w q = refused_open _ n q
    number at l (Some i) f u v w q =
        let c = pipe_counted at i f in
        subst (λ (j : PipeNumber). OpensPipe j.0 address extras endpoint size interval old (open_number (Some i) at l d.pipes address extras endpoint size interval).writes) (same_pipe i n q)
        (opens i.0 address extras endpoint size interval old (omega arith) (omega arith) u v w)

    index : (o : Option PoolIndex) (l : _) → address ≤ 127 → endpoint ≤ 15 → size ≤ 64 → (open_index o l d.pipes address extras endpoint size interval).answer ≡ Ok n
        → OpensPipe n.0 address extras endpoint size interval old (open_index o l d.pipes address extras endpoint size interval).writes
    index None l u v w q = refused_open _ n q
    index (Some at) l u v w q = number at l (pipe_of at) refl u v w q

    go : (l a e s : Bool) → (a ≡ true → address ≤ 127) → (e ≡ true → (1 ≤ endpoint) × (endpoint ≤ 15)) → (s ≡ true → (1 ≤ size) × (size ≤ 64))
        → (open_if l a e s d.pipes address extras endpoint size interval).answer ≡ Ok n
        → OpensPipe n.0 address extras endpoint size interval old (open_if l a e s d.pipes address extras endpoint size interval).writes
    go false a e s f g h q = refused_open _ n q
    go true false e s f g h q = refused_open _ n q
    go true true false s f g h q = refused_open _ n q
    go true true true false f g h q = refused_open _ n q
    go true true true true f g h q = let a = alloc_of (pool_of d.pipes.opened) in index a.index a.pool.allocated (f refl) (g refl).1 (h refl).1 q

polls_pipe : (d : Driver) (n : PipeNumber) (s : PipeSample) (m log : List ℕ) (old : ℕ) → (held_of d.pipes n).size ≤ 64 → (polling d n s m log).answer ≡ Ok polled_packet
    → ArmsPipe n.0 (not (held_of d.pipes n).toggle) (held_of d.pipes n).size old (polling d n s m log).writes
unfolding polling_pipe poll_full
polls_pipe d n s m log old h = go (lent_fits m log) (index_open d.pipes.opened n) (bit 15 s.buffer) refl
  where
    go : (b : Bool) (o : Option PoolIndex) (f : Bool) → index_open d.pipes.opened n ≡ o → (poll_if b o f d.pipes n s m).answer ≡ Ok polled_packet
        → ArmsPipe n.0 (not (held_of d.pipes n).toggle) (held_of d.pipes n).size old (poll_if b o f d.pipes n s m).writes
    go false o f e q = absurd (let z : ◌≡◌ {A = ℕ} 0 1 = cc in omega arith)
    go true None f e q = absurd (let z : ◌≡◌ {A = ℕ} 0 1 = cc in omega arith)
    go true (Some at) false e q = absurd (let z : ◌≡◌ {A = ℕ} 0 1 = cc in omega arith)
    go true (Some at) true e q =
        let c = (open_some d.pipes.opened n at e).0 in
        let i : n.0 - offset ≡ at.0 = omega arith in
        rw (← i) (polls n.0 (not (held_of d.pipes n).toggle) (held_of d.pipes n).size old h)

pub datasheet_rules : DatasheetRules
datasheet_rules = record {
  arms = arms_slot;
  points = points;
  clear = clear;
  starts = block_starts;
  bulk_in = bulk_in;
  bulk_out = bulk_out;
  setup = sends_setup;
  opens = opens_pipe;
  polls = polls_pipe;
}
