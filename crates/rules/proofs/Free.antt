-- In a stage that goes on a step arms only slots that its sample shows free. Assumes nothing.
use Rattle.std.specs.Prelude.{None, Option, Some}
use mathlib.Core.Path.{◌≡◌, refl, sym, ◌∙◌, subst}
use mathlib.Core.Bool.{Bool, true, false, not, cond, ◌&&◌}
use mathlib.Core.List.{List, [], ◌∷◌, ◌++◌}
use Prim.Native.Nat.{ℕ, ◌-◌}
use lib.Dec.{eqb, ltb}
use lib.ListN.{length}
use borrow.Author.Tests.{not-true}
use Rattle.cutting.specs.declared.packetiser.Arm.{Arm}
use Rattle.cutting.specs.declared.packetiser.InPacketiser.{InPacketiser}
use Rattle.cutting.specs.declared.packetiser.OutCounters.{OutCounters}
use Rattle.cutting.specs.declared.depacketiser.InDepacketiser.{InDepacketiser}
use Rattle.cutting.specs.Counters.{next_of, pid_of, in_gives, in_next, out_gives, out_next}
use Rattle.cutting.specs.Rules.{All}
use Rattle.transfers.specs.declared.host_controller.UsbError.{UsbError}
use Rattle.transfers.specs.declared.sample.Sample.{Sample}
use Rattle.transfers.specs.declared.sample.Found.TheVariants.{Failed, Neither}
use Rattle.transfers.specs.declared.driver.Run.{Run}
use Rattle.transfers.specs.declared.driver.Request.{Request}
use Rattle.transfers.specs.declared.driver.Stage.{Stage}
use Rattle.transfers.specs.declared.driver.Stage.TheVariants.{Setup as setup_stage, In as in_stage, Out as out_stage}
use Rattle.transfers.specs.declared.driver.InStage.{InStage}
use Rattle.transfers.specs.declared.driver.OutStage.{OutStage}
use Rattle.transfers.specs.Log.{Write}
use Rattle.transfers.specs.Memory.{lent_fits}
use Rattle.transfers.specs.Sample.{available, classify}
use Rattle.transfers.specs.Writes.{arm_value, arm_writes, enable_writes, polled, awaits, quiets}
use Rattle.transfers.specs.Arming.{may_arm, in_armed, in_arm_if, in_arm, in_arm_two, out_armed, out_arm_if, out_arm, out_arm_two}
use Rattle.transfers.specs.Retiring.{InRetiring, in_retire_one}
use Rattle.transfers.specs.State.{stage_length}
use Rattle.transfers.specs.Outcome.{Outcome}
use Rattle.transfers.specs.Step.{setup_step, in_packets, in_received, in_rearm, in_second_moved, in_first_moved, in_move, in_step, out_packets, out_retire_two, out_move, out_step, lent, keeping, stage_step, polls, acts}
use Rattle.transfers.specs.Calls.{step_if, may_step, step_lent, step_of}
use Rattle.transfers.proofs.Readiness.{both}
use Rattle.rules.specs.Fields.{word_after, read_buffer_control}
use Rattle.rules.specs.Received.{ends_stage}
use Rattle.rules.specs.Armed.{ArmedSlot, armings, ArmsFree}
use Rattle.rules.proofs.Armed.{same_available, armings_append, arms_bare, enable_silent, polled_silent, quiets_silent, pending_silent, none_armed}
use Rattle.rules.proofs.Lists.{all_append}
use Rattle.rules.proofs.Retired.{no}
use Rattle.rules.proofs.InStage.{by_poll}
use Rattle.transfers.specs.declared.sample.Found.{Found}

-- By a sampled word of EP_BUFFER_CONTROL.
module _ (w : ℕ) where
  abbrev Free : List ArmedSlot → Type 0
  Free = All (λ (a : ArmedSlot). (read_buffer_control w a.slot).AVAILABLE ≡ false)

  -- Writes that arm only free slots.
  unfoldable Frees : List Write → Type 0
  Frees ws = (old : ℕ) → Free (armings old ws)

  by_armings : (a b : List Write) → ((old : ℕ) → armings old b ≡ armings old a) → Frees a → Frees b
  unfolding Frees
  by_armings a b e p old = subst Free (sym (e old)) (p old)

  then : (a b : List Write) → Frees a → Frees b → Frees (a ++ b)
  unfolding Frees
  then a b p q old =
      let v = word_after 0x5010_0080 old a in
      subst Free (sym (armings_append a b old)) (all_append (λ (s : ArmedSlot). (read_buffer_control w s.slot).AVAILABLE ≡ false) (armings old a) (armings v b) (p old) (q v))

  silent : (ws : List Write) → ((old : ℕ) → armings old ws ≡ []) → Frees ws
  unfolding Frees
  silent ws e old = subst Free (sym (e old)) tt

  nothing : Frees []
  nothing = silent [] none_armed

  -- ---- arming

  arm_frees : (f : Bool) (a : Arm) → available w a.slot ≡ false → Frees (arm_writes f a)
  unfolding Frees arm_writes
  arm_frees f a e old = subst Free (sym (arms_bare old (arm_value f a) a.slot)) (sym (same_available w a.slot) ∙ e, tt)

  may_free : (k : ℕ) (s : Bool) → may_arm w k s ≡ true → available w s ≡ false
  may_free k s e = not-true (available w s) (both (ltb k 2) (not (available w s)) e).1

  in_given : (x : Option (ℕ × Bool)) (c : InPacketiser) (k : ℕ) → available w c.slot ≡ false → Frees (in_armed (in_gives x c).arm (in_gives x c).rest k).writes
  in_given None c k e = nothing
  in_given (Some (n, last)) c k e = arm_frees false (record { slot = c.slot; pid = pid_of c.pid c.slot; last = last; length = c.size }) e

  in_arm_frees : (c : InPacketiser) (k : ℕ) → Frees (in_arm w c k).writes
  unfolding in_arm in_next
  in_arm_frees c k = by (may_arm w k c.slot) (may_free k c.slot)
    where
      by : (b : Bool) → (b ≡ true → available w c.slot ≡ false) → Frees (in_arm_if b c k).writes
      by false f = nothing
      by true f = in_given (next_of c.remain c.size c.zlp) c k (f refl)

  in_two_frees : (c : InPacketiser) (k : ℕ) → Frees (in_arm_two w c k).writes
  unfolding in_arm_two
  in_two_frees c k = let g = in_arm w c k in then g.writes (in_arm w g.packets g.inflight).writes (in_arm_frees c k) (in_arm_frees g.packets g.inflight)

  out_given : (x : Option (ℕ × Bool)) (c : OutCounters) (k off : ℕ) (buf m : List ℕ) → available w c.slot ≡ false → Frees (out_armed (out_gives x c).arm (out_gives x c).rest k off buf m).writes
  out_given None c k off buf m e = nothing
  out_given (Some (n, last)) c k off buf m e = arm_frees true (record { slot = c.slot; pid = pid_of c.pid c.slot; last = last; length = n }) e

  out_arm_frees : (c : OutCounters) (k : ℕ) (buf m : List ℕ) → Frees (out_arm w c k buf m).writes
  unfolding out_arm out_next
  out_arm_frees c k buf m = by (may_arm w k c.slot) (may_free k c.slot)
    where
      by : (b : Bool) → (b ≡ true → available w c.slot ≡ false) → Frees (out_arm_if b c k buf m).writes
      by false f = nothing
      by true f = out_given (cond (ltb (0xFFFF - c.offset) c.remain) None (next_of c.remain c.size c.zlp)) c k c.offset buf m (f refl)

  out_two_frees : (c : OutCounters) (k : ℕ) (buf m : List ℕ) → Frees (out_arm_two w c k buf m).writes
  unfolding out_arm_two
  out_two_frees c k buf m =
      let g = out_arm w c k buf m in
      then g.writes (out_arm w g.packets g.inflight buf g.memory).writes (out_arm_frees c k buf m) (out_arm_frees g.packets g.inflight buf g.memory)

  -- ---- a stage that goes on

  in_rearm_frees : (x : Request) (st : InStage) (d : InDepacketiser) (k : ℕ) (m buf : List ℕ) → Frees (in_rearm x st d k w m buf).writes
  unfolding in_rearm
  in_rearm_frees x st d k m buf =
      let n = stage_length x st.status in
      then (in_arm_two w (in_packets x st) k).writes (enable_writes x.size n) (in_two_frees (in_packets x st) k) (silent (enable_writes x.size n) (enable_silent x.size n))

  in_second_frees : (b : Bool) (h : InRetiring) (x : Request) (st : InStage) (m : List ℕ) → Frees (in_second_moved b h w x st m).writes
  in_second_frees true h x st m = nothing
  in_second_frees false h x st m = in_rearm_frees x st h.packets h.inflight m h.buffer

  in_first_frees : (b : Bool) (g : InRetiring) (x : Request) (st : InStage) (m : List ℕ) → Frees (in_first_moved b g w x st m).writes
  in_first_frees true g x st m = nothing
  in_first_frees false g x st m = let h = in_retire_one w g.packets g.inflight g.buffer m in in_second_frees h.long h x st m

  in_move_frees : (x : Request) (st : InStage) (buf m : List ℕ) → Frees (in_move x st w buf m).writes
  unfolding in_move
  in_move_frees x st buf m = let g = in_retire_one w (in_received st) st.inflight buf m in in_first_frees g.long g x st m

  out_move_frees : (x : Request) (st : OutStage) (buf m : List ℕ) → Frees (out_move x st w buf m).writes
  unfolding out_move
  out_move_frees x st buf m =
      let r = out_retire_two w st.retire st.inflight in
      let n = stage_length x st.status in
      then (out_arm_two w (out_packets x st) r.inflight buf m).writes (enable_writes x.size n) (out_two_frees (out_packets x st) r.inflight buf m) (silent (enable_writes x.size n) (enable_silent x.size n))

  after_frees : (ws vs : List Write) → ((old : ℕ) (us : List Write) → armings old (ws ++ us) ≡ armings old us) → Frees vs → Frees (ws ++ vs)
  after_frees ws vs e p = by_armings vs (ws ++ vs) (λ old. e old vs) p

  keeping_frees : (b : Bool) (buf : List ℕ) (o : Outcome) → Frees o.writes → Frees (keeping b buf o).writes
  keeping_frees true buf o h = h
  keeping_frees false buf o h = h

  failed_frees : (e : UsbError) (x : Request) (st : Stage) (buf m : List ℕ) → Frees (stage_step (Failed e) x st w buf m).writes
  unfolding setup_step in_step out_step
  failed_frees e x setup_stage buf m = nothing
  failed_frees e x (in_stage st) buf m = keeping_frees st.status buf (in_step (Failed e) x st w (lent st.status buf) m) (after_frees quiets [] quiets_silent nothing)
  failed_frees e x (out_stage st) buf m = keeping_frees st.status buf (out_step (Failed e) x st w (lent st.status buf) m) (after_frees quiets [] quiets_silent nothing)

  neither_frees : (x : Request) (st : Stage) (buf m : List ℕ) → Frees (stage_step Neither x st w buf m).writes
  unfolding setup_step in_step out_step
  neither_frees x setup_stage buf m = nothing
  neither_frees x (in_stage st) buf m =
      let b = lent st.status buf in
      keeping_frees st.status buf (in_step Neither x st w b m) (after_frees quiets (in_move x st w b m).writes quiets_silent (in_move_frees x st b m))
  neither_frees x (out_stage st) buf m =
      let b = lent st.status buf in
      keeping_frees st.status buf (out_step Neither x st w b m) (after_frees quiets (out_move x st w b m).writes quiets_silent (out_move_frees x st b m))

-- ---- the step

module _ (s : Sample) (goes : ends_stage s ≡ false) where
  abbrev w : ℕ
  w = s.buffers

  polls_frees : (x : Request) (st : Stage) (buf m : List ℕ) → Frees w (polls (classify s.status s.intr) x st w buf m).writes
  polls_frees x st buf m = by_poll s (λ (p : Option Found) (q c : Bool). (not q && c) ≡ false → Frees w (polls p x st w buf m).writes)
      (λ c e. silent w (polled ∷ awaits ∷ []) pending_silent)
      (λ e. no e)
      (λ f e. after_frees w (polled ∷ []) (stage_step (Failed f) x st w buf m).writes polled_silent (failed_frees w f x st buf m))
      (λ e. after_frees w (polled ∷ []) (stage_step Neither x st w buf m).writes polled_silent (neither_frees w x st buf m))
      goes

  step_if_frees : (a b : Bool) (r : Run) (buf m : List ℕ) → Frees w (step_if a b r s buf m).writes
  unfolding acts
  step_if_frees false b r buf m = nothing w
  step_if_frees true false r buf m = nothing w
  step_if_frees true true r buf m = polls_frees r.request r.stage buf m

  step_lent_frees : (l f : Bool) (t : Option Run) (buf m : List ℕ) → Frees w (step_lent l f t s buf m).writes
  step_lent_frees false f t buf m = nothing w
  step_lent_frees true f None buf m = nothing w
  step_lent_frees true f (Some r) buf m = step_if_frees (may_step f r) (eqb (length buf) r.request.length) r buf m

pub arms_free : ArmsFree
unfolding Frees step_of
arms_free = record { step = λ filling t s buf m log old goes. step_lent_frees s goes (lent_fits m log) filling t buf m old }
