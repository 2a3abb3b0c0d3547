-- Laws of the stages' steps. Assumes nothing.
use Rattle.std.proofs.Common.{◌≡◌, ℕ, Bool, true, false, ltb, List, sym, refl, true≢false}
use Rattle.cutting.specs.declared.depacketiser.InDepacketiser.{InDepacketiser}
use Rattle.transfers.specs.declared.driver.Request.{Request}
use Rattle.transfers.specs.declared.driver.Kind.{Kind}
use Rattle.transfers.specs.declared.driver.Kind.TheVariants.{Control as control, Bulk as bulk}
use Rattle.transfers.specs.declared.driver.Stage.{Stage}
use Rattle.transfers.specs.declared.driver.Stage.TheVariants.{Setup as setup_stage, In as in_stage, Out as out_stage}
use Rattle.transfers.specs.declared.driver.InStage.{InStage}
use Rattle.transfers.specs.declared.driver.OutStage.{OutStage}
use Rattle.transfers.specs.declared.host_controller.DataPhase.{DataPhase}
use Rattle.transfers.specs.declared.host_controller.DataPhase.TheVariants.{In as phase_in, Out as phase_out, None as phase_none}
use Rattle.transfers.specs.declared.sample.Found.{Found}
use Rattle.transfers.specs.declared.sample.Found.TheVariants.{Complete, Failed, Neither}
use Rattle.transfers.specs.State.{control_of}
use Rattle.transfers.specs.Step.{in_control_done, in_done, in_rearm, out_control_done, out_done, out_retire_two, out_complete, out_move, out_step, setup_done, setup_step, in_step, lent, keeping, stage_step}
use Rattle.transfers.specs.Ready.{InIsStatus}

-- The buffer, once it is filled, stays as it is.
in_control_keeps : (s : Bool) (ph : DataPhase) (x : Request) (n : ℕ) (m buf : List ℕ) → (in_control_done s ph x n m buf).buffer ≡ buf
in_control_keeps true ph x n m buf = refl
in_control_keeps false ph x n m buf = refl

pub in_done_keeps : (k : Kind) (s : Bool) (x : Request) (d : InDepacketiser) (m buf : List ℕ) → (in_done k s x d m buf).buffer ≡ buf
in_done_keeps (control c) s x d m buf = in_control_keeps s c.phase x d.offset m buf
in_done_keeps (bulk b) s x d m buf = refl

-- A completed OUT stage leaves packet memory as it is.
out_control_memory : (s : Bool) (x : Request) (n : ℕ) (m buf : List ℕ) → (out_control_done s x n m buf).memory ≡ m
out_control_memory true x n m buf = refl
out_control_memory false x n m buf = refl

out_done_memory : (k : Kind) (x : Request) (st : OutStage) (p : Bool) (m buf : List ℕ) → (out_done k x st p m buf).memory ≡ m
out_done_memory (control c) x st p m buf = out_control_memory st.status x st.received m buf
out_done_memory (bulk b) x st p m buf = refl

pub out_complete_memory : (x : Request) (st : OutStage) (w : ℕ) (m buf : List ℕ) → (out_complete x st w m buf).memory ≡ m
unfolding out_complete
out_complete_memory x st w m buf = out_done_memory x.kind x st (out_retire_two w st.retire st.inflight).parity m buf

-- Arming IN leaves packet memory and the buffer as they are.
pub rearm_memory : (x : Request) (st : InStage) (d : InDepacketiser) (k w : ℕ) (m buf : List ℕ) → (in_rearm x st d k w m buf).memory ≡ m
unfolding in_rearm
rearm_memory x st d k w m buf = refl

pub rearm_buffer : (x : Request) (st : InStage) (d : InDepacketiser) (k w : ℕ) (m buf : List ℕ) → (in_rearm x st d k w m buf).buffer ≡ buf
unfolding in_rearm
rearm_buffer x st d k w m buf = refl

-- ---- steps that leave the caller's buffer as it is

out_control_keeps : (s : Bool) (x : Request) (n : ℕ) (m buf : List ℕ) → (out_control_done s x n m buf).buffer ≡ buf
out_control_keeps true x n m buf = refl
out_control_keeps false x n m buf = refl

out_done_keeps : (k : Kind) (x : Request) (st : OutStage) (p : Bool) (m buf : List ℕ) → (out_done k x st p m buf).buffer ≡ buf
out_done_keeps (control c) x st p m buf = out_control_keeps st.status x st.received m buf
out_done_keeps (bulk b) x st p m buf = refl

pub out_step_keeps : (f : Found) (x : Request) (st : OutStage) (w : ℕ) (buf m : List ℕ) → (out_step f x st w buf m).buffer ≡ buf
unfolding out_step out_complete out_move
out_step_keeps Complete x st w buf m = out_done_keeps x.kind x st (out_retire_two w st.retire st.inflight).parity m buf
out_step_keeps (Failed e) x st w buf m = refl
out_step_keeps Neither x st w buf m = refl

pub send_keeps : (s : Bool) (f : Found) (x : Request) (st : OutStage) (w : ℕ) (buf m : List ℕ) → (keeping s buf (out_step f x st w (lent s buf) m)).buffer ≡ buf
send_keeps true f x st w buf m = refl
send_keeps false f x st w buf m = out_step_keeps f x st w buf m

setup_done_keeps : (ph : DataPhase) (s : Bool) (x : Request) (n : ℕ) (buf m : List ℕ) → (setup_done ph s x n buf m).buffer ≡ buf
setup_done_keeps phase_in true x n buf m = refl
setup_done_keeps phase_in false x n buf m = refl
setup_done_keeps phase_out true x n buf m = refl
setup_done_keeps phase_out false x n buf m = refl
setup_done_keeps phase_none s x n buf m = refl

pub setup_keeps : (f : Found) (x : Request) (buf m : List ℕ) → (setup_step f x buf m).buffer ≡ buf
unfolding setup_step
setup_keeps Complete x buf m = let c = control_of x.kind in setup_done_keeps c.phase (ltb x.length c.wLength) x c.wLength buf m
setup_keeps (Failed e) x buf m = refl
setup_keeps Neither x buf m = refl

in_keeps : (s : Bool) (f : Found) (x : Request) (st : InStage) (w : ℕ) (buf m : List ℕ) → s ≡ true → (keeping s buf (in_step f x st w (lent s buf) m)).buffer ≡ buf
in_keeps true f x st w buf m e = refl
in_keeps false f x st w buf m e = absurd (true≢false (sym e))

-- Where an IN stage is a status stage, the buffer stays.
pub stage_keeps : (f : Found) (x : Request) (st : Stage) (w : ℕ) (buf m : List ℕ) → InIsStatus st → (stage_step f x st w buf m).buffer ≡ buf
stage_keeps f x setup_stage w buf m e = setup_keeps f x buf m
stage_keeps f x (in_stage st) w buf m e = in_keeps st.status f x st w buf m e
stage_keeps f x (out_stage st) w buf m e = send_keeps st.status f x st w buf m
