-- What each write of a step is that ends no stage: enough to know it of the blocks that such a step is made of. Assumes nothing.
use Rattle.std.specs.Prelude.{None, Option, Some}
use mathlib.Core.Path.{◌≡◌}
use mathlib.Core.Bool.{Bool, true, false, not, ◌&&◌}
use mathlib.Core.List.{List}
use Prim.Native.Nat.{ℕ}
use lib.Dec.{eqb}
use lib.ListN.{length}
use Rattle.cutting.specs.declared.packetiser.Arm.{Arm}
use Rattle.transfers.specs.declared.host_controller.UsbError.{UsbError}
use Rattle.transfers.specs.declared.sample.Sample.{Sample}
use Rattle.transfers.specs.declared.sample.Found.TheVariants.{Failed, Neither}
use Rattle.transfers.specs.declared.driver.Run.{Run}
use Rattle.transfers.specs.declared.driver.Request.{Request}
use Rattle.transfers.specs.declared.driver.Stage.{Stage}
use Rattle.transfers.specs.declared.driver.Stage.TheVariants.{Setup as setup_stage, In as in_stage, Out as out_stage}
use Rattle.transfers.specs.declared.driver.InStage.{InStage}
use Rattle.transfers.specs.declared.driver.OutStage.{OutStage}
use Rattle.transfers.specs.Memory.{lent_fits}
use Rattle.transfers.specs.Sample.{classify}
use Rattle.transfers.specs.Writes.{arm_writes, enable_writes, quiets}
use Rattle.transfers.specs.Arming.{in_arm_two, out_arm_two}
use Rattle.transfers.specs.Retiring.{InRetiring, in_retire_one}
use Rattle.transfers.specs.State.{stage_length}
use Rattle.transfers.specs.Outcome.{Outcome}
use Rattle.transfers.specs.Step.{setup_step, in_packets, in_received, in_rearm, in_second_moved, in_first_moved, in_move, in_step, out_packets, out_retire_two, out_move, out_step, lent, keeping, stage_step, polls, acts}
use Rattle.transfers.specs.Calls.{step_if, may_step, step_lent, step_of}
use Rattle.transfers.specs.Apart.{Every}
use Rattle.rules.specs.Received.{ends_stage}
use Rattle.rules.proofs.Lists.{every_append}
use Rattle.rules.proofs.Retired.{no}
use Rattle.rules.proofs.InStage.{by_poll}
use Rattle.rules.proofs.Decoded.{in_two_every, out_two_every}
use Rattle.transfers.specs.declared.sample.Found.{Found}

-- Of every slot that is armed, of the interrupts that are enabled, of a poll's own writes and of a ready one's.
pub record GoesOn (P : ℕ → ℕ → ℕ → Type 0) : Type 0 where
  pub arm : (f : Bool) (a : Arm) → Every P (arm_writes f a)
  pub enable : (p n : ℕ) → Every P (enable_writes p n)
  pub poll : P 0x5011_0050 0xFFFF_FFFF 0xFF08_0000
  pub wait : P 0x5011_0090 0x7E8 0x7E8
  pub quiet : Every P quiets

module _ (P : ℕ → ℕ → ℕ → Type 0) (o : GoesOn P) where
  in_second_every : (b : Bool) (h : InRetiring) (w : ℕ) (x : Request) (st : InStage) (m : List ℕ) → Every P (in_second_moved b h w x st m).writes
  unfolding in_rearm
  in_second_every true h w x st m = tt
  in_second_every false h w x st m =
      let n = stage_length x st.status in
      every_append P (in_arm_two w (in_packets x st) h.inflight).writes (enable_writes x.size n) (in_two_every P o.arm w (in_packets x st) h.inflight) (o.enable x.size n)

  in_first_every : (b : Bool) (g : InRetiring) (w : ℕ) (x : Request) (st : InStage) (m : List ℕ) → Every P (in_first_moved b g w x st m).writes
  in_first_every true g w x st m = tt
  in_first_every false g w x st m = let h = in_retire_one w g.packets g.inflight g.buffer m in in_second_every h.long h w x st m

  in_move_every : (x : Request) (st : InStage) (w : ℕ) (buf m : List ℕ) → Every P (in_move x st w buf m).writes
  unfolding in_move
  in_move_every x st w buf m = let g = in_retire_one w (in_received st) st.inflight buf m in in_first_every g.long g w x st m

  out_move_every : (x : Request) (st : OutStage) (w : ℕ) (buf m : List ℕ) → Every P (out_move x st w buf m).writes
  unfolding out_move
  out_move_every x st w buf m =
      let r = out_retire_two w st.retire st.inflight in
      let n = stage_length x st.status in
      every_append P (out_arm_two w (out_packets x st) r.inflight buf m).writes (enable_writes x.size n) (out_two_every P o.arm w (out_packets x st) r.inflight buf m) (o.enable x.size n)

  keeping_every : (b : Bool) (buf : List ℕ) (u : Outcome) → Every P u.writes → Every P (keeping b buf u).writes
  keeping_every true buf u h = h
  keeping_every false buf u h = h

  pub failed_every : (e : UsbError) (x : Request) (st : Stage) (w : ℕ) (buf m : List ℕ) → Every P (stage_step (Failed e) x st w buf m).writes
  unfolding setup_step in_step out_step
  failed_every e x setup_stage w buf m = tt
  failed_every e x (in_stage st) w buf m = keeping_every st.status buf (in_step (Failed e) x st w (lent st.status buf) m) o.quiet
  failed_every e x (out_stage st) w buf m = keeping_every st.status buf (out_step (Failed e) x st w (lent st.status buf) m) o.quiet

  pub neither_every : (x : Request) (st : Stage) (w : ℕ) (buf m : List ℕ) → Every P (stage_step Neither x st w buf m).writes
  unfolding setup_step in_step out_step
  neither_every x setup_stage w buf m = tt
  neither_every x (in_stage st) w buf m =
      let b = lent st.status buf in
      keeping_every st.status buf (in_step Neither x st w b m) (every_append P quiets (in_move x st w b m).writes o.quiet (in_move_every x st w b m))
  neither_every x (out_stage st) w buf m =
      let b = lent st.status buf in
      keeping_every st.status buf (out_step Neither x st w b m) (every_append P quiets (out_move x st w b m).writes o.quiet (out_move_every x st w b m))

  -- ---- a step that goes on

  module _ (s : Sample) (goes : ends_stage s ≡ false) where
    polls_every : (x : Request) (st : Stage) (buf m : List ℕ) → Every P (polls (classify s.status s.intr) x st s.buffers buf m).writes
    polls_every x st buf m = by_poll s (λ (p : Option Found) (a c : Bool). (not a && c) ≡ false → Every P (polls p x st s.buffers buf m).writes)
        (λ c e. (o.poll, (o.wait, tt)))
        (λ e. no e)
        (λ f e. (o.poll, failed_every f x st s.buffers buf m))
        (λ e. (o.poll, neither_every x st s.buffers buf m))
        goes

    step_if_every : (a b : Bool) (r : Run) (buf m : List ℕ) → Every P (step_if a b r s buf m).writes
    unfolding acts
    step_if_every false b r buf m = tt
    step_if_every true false r buf m = tt
    step_if_every true true r buf m = polls_every r.request r.stage buf m

    step_lent_every : (l f : Bool) (t : Option Run) (buf m : List ℕ) → Every P (step_lent l f t s buf m).writes
    step_lent_every false f t buf m = tt
    step_lent_every true f None buf m = tt
    step_lent_every true f (Some r) buf m = step_if_every (may_step f r) (eqb (length buf) r.request.length) r buf m

  pub step_every : (filling : Bool) (t : Option Run) (s : Sample) (buf m log : List ℕ) → ends_stage s ≡ false → Every P (step_of filling t s buf m log).writes
  unfolding step_of
  step_every filling t s buf m log e = step_lent_every s e (lent_fits m log) filling t buf m
