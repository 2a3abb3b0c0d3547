-- Every write to INTE of a begin, a step, an open and a poll. Assumes nothing.
use Rattle.std.specs.Prelude.{Err, None, Ok, Option, Result, Some}
use mathlib.Core.Path.{◌≡◌, refl, ap, sym, ◌∙◌}
use mathlib.Core.Bool.{Bool, true, false, cond, true≢false}
use mathlib.Core.Logic.{◌⊎◌, inl, inr}
use mathlib.Core.List.{List, [], ◌∷◌, ◌++◌}
use Prim.Native.Nat.{ℕ, ◌+◌, ◌*◌, ◌≤◌}
use native.Mathlib.Omega.{arith}
use lib.Dec.{eqb, leb, ltb}
use lib.ListN.{length}
use borrow.Author.Tests.{ne_eqb}
use Rattle.pool.specs.declared.pipe.PipeNumber.{PipeNumber}
use Rattle.cutting.specs.declared.transfer_type.TransferType.{TransferType}
use Rattle.cutting.specs.declared.transfer_type.TransferType.TheVariants.{FixedSize}
use Rattle.cutting.specs.declared.packetiser.Arm.{Arm}
use Rattle.cutting.specs.declared.packetiser.InPacketiser.{InPacketiser}
use Rattle.cutting.specs.declared.packetiser.OutCounters.{OutCounters}
use Rattle.cutting.specs.declared.depacketiser.InDepacketiser.{InDepacketiser}
use Rattle.cutting.specs.Counters.{in_start_of, out_start}
use Rattle.transfers.specs.declared.host_controller.DataPhase.{DataPhase}
use Rattle.transfers.specs.declared.host_controller.DataPhase.TheVariants.{In as phase_in, Out as phase_out, None as phase_none}
use Rattle.transfers.specs.declared.host_controller.TransferExtras.{TransferExtras}
use Rattle.transfers.specs.declared.wire.SetupPacket.{SetupPacket}
use Rattle.transfers.specs.declared.wire.Direction.TheVariants.{In, Out}
use Rattle.transfers.specs.declared.writes.Target.{Target}
use Rattle.transfers.specs.declared.sample.Sample.{Sample}
use Rattle.transfers.specs.declared.sample.Found.{Found}
use Rattle.transfers.specs.declared.sample.Found.TheVariants.{Complete, Failed, Neither}
use Rattle.transfers.specs.declared.pipes.PipeSample.{PipeSample}
use Rattle.transfers.specs.declared.driver.Driver.{Driver}
use Rattle.transfers.specs.declared.driver.Run.{Run}
use Rattle.transfers.specs.declared.driver.Request.{Request}
use Rattle.transfers.specs.declared.driver.Kind.{Kind}
use Rattle.transfers.specs.declared.driver.Kind.TheVariants.{Control as control, Bulk as bulk}
use Rattle.transfers.specs.declared.driver.Stage.{Stage}
use Rattle.transfers.specs.declared.driver.Stage.TheVariants.{Setup as setup_stage, In as in_stage, Out as out_stage}
use Rattle.transfers.specs.declared.driver.InStage.{InStage}
use Rattle.transfers.specs.declared.driver.OutStage.{OutStage}
use Rattle.transfers.specs.Log.{Write, wr}
use Rattle.transfers.specs.Memory.{lent_fits}
use Rattle.transfers.specs.Registers.{bit, weigh}
use Rattle.transfers.specs.Reply.{step_reply}
use Rattle.transfers.specs.Sample.{errors, first_of, classify}
use Rattle.transfers.specs.Writes.{head_writes, arm_writes, enable_writes, go_writes}
use Rattle.transfers.specs.Arming.{in_arm_two, out_arm_two}
use Rattle.transfers.specs.Retiring.{InRetiring, in_retire_one}
use Rattle.transfers.specs.State.{target_of, data_length, stage_length, control_of, address_good, endpoint_good, size_good}
use Rattle.transfers.specs.Outcome.{Outcome, start_in, start_out, enters_in, enters_out}
use Rattle.transfers.specs.Step.{setup_done, setup_step, in_packets, in_received, in_done, in_second_done, in_first_done, in_complete, in_rearm, in_second_moved, in_first_moved, in_move, in_step, out_packets, out_retire_two, out_control_done, out_done, out_complete, out_move, out_step, lent, keeping, stage_step, polls, acts}
use Rattle.transfers.specs.Calls.{step_of, fields_refusal, begin_refusal, Beginning, begin_or, is_idle, bulk_request, begins_control, begin_control_of, begins_bulk_in, begin_bulk_in_of, begins_bulk_out, begin_bulk_out_of}
use Rattle.transfers.specs.Pipes.{arm_pipe, opening, polling}
use Rattle.transfers.specs.Isolation.{held_of}
use Rattle.transfers.specs.Apart.{Every}
use Rattle.transfers.proofs.Apart.{of_open, of_poll}
use Rattle.rules.specs.Received.{quiet}
use Rattle.rules.specs.HandsBack.{has_acted}
use Rattle.rules.specs.Enables.{to_inte, seven_for, data_bytes, stage_bytes, transfer_sets, stage_clears, step_sets, Enables}
use Rattle.rules.proofs.Decoded.{in_two_every, out_two_every}
use Rattle.rules.proofs.Steps.{refused_begun}
use Rattle.rules.proofs.HandsBack.{by_step}
use Rattle.transfers.specs.declared.refusal.Refusal.{Refusal}

-- ---- lists of writes

inte_append : (a b : List Write) → to_inte (a ++ b) ≡ to_inte a ++ to_inte b
unfolding to_inte
inte_append [] b = refl
inte_append (wr r m v ∷ a) b = by (eqb r 0x5011_0090) (inte_append a b)
  where
    by : (t : Bool) → to_inte (a ++ b) ≡ to_inte a ++ to_inte b → cond t (wr r m v ∷ to_inte (a ++ b)) (to_inte (a ++ b)) ≡ cond t (wr r m v ∷ to_inte a) (to_inte a) ++ to_inte b
    by true h = ap (λ (ws : List Write). wr r m v ∷ ws) h
    by false h = h

-- Nothing, then these.
then : (a b : List Write) {ws : List Write} → to_inte a ≡ [] → to_inte b ≡ ws → to_inte (a ++ b) ≡ ws
then a b p q = inte_append a b ∙ ap (λ (l : List Write). l ++ to_inte b) p ∙ q

-- ---- blocks

-- k is the length by which the code goes, n the stage's bytes.
stage_enables : (p n k : ℕ) → n ≡ k → (ws : List Write) → to_inte ws ≡ [] → to_inte (enable_writes p k ++ ws) ≡ seven_for p n
unfolding to_inte enable_writes
stage_enables p n k e ws h = ap (λ (j : ℕ). to_inte (enable_writes p j ++ ws)) (sym e) ∙ by (leb (2 * p) n)
  where
    by : (t : Bool) → let v = 0x7E8 + weigh t 0x10 in wr 0x5011_0090 v v ∷ to_inte ws ≡ wr 0x5011_0090 (cond t 0x7F8 0x7E8) (cond t 0x7F8 0x7E8) ∷ []
    by true = ap (λ (l : List Write). wr 0x5011_0090 0x7F8 0x7F8 ∷ l) h
    by false = ap (λ (l : List Write). wr 0x5011_0090 0x7E8 0x7E8 ∷ l) h

-- Writes to other registers.
elsewhere : (ws : List Write) → Every (λ r m v. eqb r 0x5011_0090 ≡ false) ws → to_inte ws ≡ []
unfolding to_inte
elsewhere [] h = refl
elsewhere (wr r m v ∷ ws) h = ap (λ (t : Bool). cond t (wr r m v ∷ to_inte ws) (to_inte ws)) h.0 ∙ elsewhere ws h.1

arm_elsewhere : (f : Bool) (a : Arm) → Every (λ r m v. eqb r 0x5011_0090 ≡ false) (arm_writes f a)
unfolding arm_writes
arm_elsewhere f a = (refl, (refl, (refl, tt)))

in_two_none : (w : ℕ) (c : InPacketiser) (k : ℕ) → to_inte (in_arm_two w c k).writes ≡ []
in_two_none w c k = elsewhere (in_arm_two w c k).writes (in_two_every (λ r m v. eqb r 0x5011_0090 ≡ false) arm_elsewhere w c k)

out_two_none : (w : ℕ) (c : OutCounters) (k : ℕ) (buf m : List ℕ) → to_inte (out_arm_two w c k buf m).writes ≡ []
out_two_none w c k buf m = elsewhere (out_arm_two w c k buf m).writes (out_two_every (λ r m v. eqb r 0x5011_0090 ≡ false) arm_elsewhere w c k buf m)

-- ---- stages that begin: of n bytes by the code, of b by the statement

start_in_sets : (t : Target) (k : TransferType) (s : Bool) (n b : ℕ) → b ≡ n → to_inte (start_in t k s n).writes ≡ seven_for t.size b
unfolding to_inte start_in head_writes go_writes
start_in_sets t k s n b e = then (in_arm_two 0 (in_start_of k t.size t.pid n) 0).writes (enable_writes t.size n ++ go_writes In) (in_two_none 0 (in_start_of k t.size t.pid n) 0) (stage_enables t.size b n e (go_writes In) refl)

start_out_sets : (t : Target) (k : TransferType) (s : Bool) (r n : ℕ) (buf m : List ℕ) (b : ℕ) → b ≡ n → to_inte (start_out t k s r n buf m).writes ≡ seven_for t.size b
unfolding to_inte start_out head_writes go_writes
start_out_sets t k s r n buf m b e = then (out_arm_two 0 (out_start k t.size t.pid n) 0 buf m).writes (enable_writes t.size n ++ go_writes Out) (out_two_none 0 (out_start k t.size t.pid n) 0 buf m) (stage_enables t.size b n e (go_writes Out) refl)

-- ---- steps, by the state that they leave

abbrev Sets : Outcome → Type 0
Sets o = to_inte o.writes ≡ transfer_sets o.next

-- The same of a step with a ready poll.
abbrev Clears : Stage → Outcome → Type 0
Clears st o = to_inte o.writes ≡ stage_clears st ++ transfer_sets o.next

abbrev off : List Write → List Write
off ws = wr 0x5011_0090 0x7E8 0 ∷ ws

same_bytes : (x : Request) (status : Bool) → stage_bytes x status ≡ stage_length x status
same_bytes x true = refl
same_bytes x false = by x.kind
  where
    by : (k : Kind) → data_bytes k x.length ≡ data_length k x.length
    by (control c) = refl
    by (bulk c) = refl

-- A stage that goes on: its arming enables none.
moves_sets : (x : Request) (status : Bool) (ws : List Write) → to_inte ws ≡ [] → to_inte (ws ++ enable_writes x.size (stage_length x status)) ≡ seven_for x.size (stage_bytes x status)
unfolding to_inte enable_writes
moves_sets x status ws h =
    let n = stage_length x status in
    then ws (enable_writes x.size n) h (stage_enables x.size (stage_bytes x status) n (same_bytes x status) [] refl)

enters_in_sets : (x : Request) (s : Bool) (n : ℕ) (m buf : List ℕ) → stage_bytes x s ≡ n → Sets (enters_in x s n m buf)
unfolding start_in
enters_in_sets x s n m buf e = start_in_sets (target_of x) FixedSize s n (stage_bytes x s) e

enters_out_sets : (x : Request) (s : Bool) (r n : ℕ) (bytes m buf : List ℕ) → stage_bytes x s ≡ n → Sets (enters_out x s r n bytes m buf)
unfolding start_out
enters_out_sets x s r n bytes m buf e = start_out_sets (target_of x) FixedSize s r n bytes m (stage_bytes x s) e

setup_done_sets : (ph : DataPhase) (b : Bool) (x : Request) (n : ℕ) (buf m : List ℕ) → stage_bytes x false ≡ n → Sets (setup_done ph b x n buf m)
unfolding to_inte
setup_done_sets phase_in true x n buf m e = refl
setup_done_sets phase_in false x n buf m e = enters_in_sets x false n m buf e
setup_done_sets phase_out true x n buf m e = refl
setup_done_sets phase_out false x n buf m e = enters_out_sets x false 0 n buf m buf e
setup_done_sets phase_none b x n buf m e = enters_in_sets x true 0 m buf refl

setup_step_sets : (f : Found) (x : Request) (buf m : List ℕ) → Sets (setup_step f x buf m)
unfolding to_inte setup_step
setup_step_sets Complete x buf m = by x.kind refl
  where
    by : (k : Kind) → x.kind ≡ k → let c = control_of k in Sets (setup_done c.phase (ltb x.length c.wLength) x c.wLength buf m)
    by (control c) e = setup_done_sets c.phase (ltb x.length c.wLength) x c.wLength buf m (ap (λ (k : Kind). data_bytes k x.length) e)
    by (bulk c) e = enters_in_sets x true 0 m buf refl
setup_step_sets (Failed e) x buf m = refl
setup_step_sets Neither x buf m = refl

in_done_sets : (k : Kind) (status : Bool) (x : Request) (d : InDepacketiser) (m buf : List ℕ) → Sets (in_done k status x d m buf)
unfolding to_inte
in_done_sets (control c) true x d m buf = refl
in_done_sets (control c) false x d m buf = enters_out_sets x true d.offset 0 [] m buf refl
in_done_sets (bulk c) status x d m buf = refl

in_complete_sets : (x : Request) (st : InStage) (w : ℕ) (buf m : List ℕ) → Sets (in_complete x st w buf m)
unfolding to_inte in_complete
in_complete_sets x st w buf m = first g.long
  where
    g : InRetiring
    g = in_retire_one w (in_received st) st.inflight buf m

    h : InRetiring
    h = in_retire_one w g.packets g.inflight g.buffer m

    second : (b : Bool) → Sets (in_second_done b h x st.status m)
    second true = refl
    second false = in_done_sets x.kind st.status x h.packets m h.buffer

    first : (b : Bool) → Sets (in_first_done b g w x st.status m)
    first true = refl
    first false = second h.long

in_move_sets : (x : Request) (st : InStage) (w : ℕ) (buf m : List ℕ) → Sets (in_move x st w buf m)
unfolding to_inte in_move in_rearm
in_move_sets x st w buf m = first g.long
  where
    g : InRetiring
    g = in_retire_one w (in_received st) st.inflight buf m

    h : InRetiring
    h = in_retire_one w g.packets g.inflight g.buffer m

    second : (b : Bool) → Sets (in_second_moved b h w x st m)
    second true = refl
    second false = moves_sets x st.status (in_arm_two w (in_packets x st) h.inflight).writes (in_two_none w (in_packets x st) h.inflight)

    first : (b : Bool) → Sets (in_first_moved b g w x st m)
    first true = refl
    first false = second h.long

in_step_sets : (f : Found) (x : Request) (st : InStage) (w : ℕ) (buf m : List ℕ) → Clears (in_stage st) (in_step f x st w buf m)
unfolding to_inte in_step
in_step_sets Complete x st w buf m = ap off (in_complete_sets x st w buf m)
in_step_sets (Failed e) x st w buf m = refl
in_step_sets Neither x st w buf m = ap off (in_move_sets x st w buf m)

out_done_sets : (k : Kind) (x : Request) (st : OutStage) (parity : Bool) (m buf : List ℕ) → Sets (out_done k x st parity m buf)
unfolding to_inte
out_done_sets (control c) x st parity m buf = by st.status
  where
    by : (b : Bool) → Sets (out_control_done b x st.received m buf)
    by true = refl
    by false = enters_in_sets x true 0 m buf refl
out_done_sets (bulk c) x st parity m buf = refl

out_step_sets : (f : Found) (x : Request) (st : OutStage) (w : ℕ) (buf m : List ℕ) → Clears (out_stage st) (out_step f x st w buf m)
unfolding to_inte out_step out_complete out_move
out_step_sets Complete x st w buf m = ap off (out_done_sets x.kind x st (out_retire_two w st.retire st.inflight).parity m buf)
out_step_sets (Failed e) x st w buf m = refl
out_step_sets Neither x st w buf m =
    let k = (out_retire_two w st.retire st.inflight).inflight in
    ap off (moves_sets x st.status (out_arm_two w (out_packets x st) k buf m).writes (out_two_none w (out_packets x st) k buf m))

keeping_sets : (st : Stage) (b : Bool) (buf : List ℕ) (o : Outcome) → Clears st o → Clears st (keeping b buf o)
keeping_sets st true buf o h = h
keeping_sets st false buf o h = h

stage_sets : (f : Found) (x : Request) (st : Stage) (w : ℕ) (buf m : List ℕ) → Clears st (stage_step f x st w buf m)
stage_sets f x setup_stage w buf m = setup_step_sets f x buf m
stage_sets f x (in_stage st) w buf m = keeping_sets (in_stage st) st.status buf (in_step f x st w (lent st.status buf) m) (in_step_sets f x st w (lent st.status buf) m)
stage_sets f x (out_stage st) w buf m = keeping_sets (out_stage st) st.status buf (out_step f x st w (lent st.status buf) m) (out_step_sets f x st w (lent st.status buf) m)

acts_sets : (r : Run) (s : Sample) (buf m : List ℕ) → let o = acts r.request r.stage s buf m in to_inte o.writes ≡ step_sets (quiet s) (Some r) o.next
unfolding to_inte acts classify
acts_sets r s buf m = by (quiet s)
  where
    f : Found
    f = cond (bit 18 s.status) Complete (first_of s.status errors)

    by : (q : Bool) → let o = polls (cond q None (Some f)) r.request r.stage s.buffers buf m in to_inte o.writes ≡ step_sets q (Some r) o.next
    by true = refl
    by false = stage_sets f r.request r.stage s.buffers buf m

step_sets_lem : (filling : Bool) (t : Option Run) (s : Sample) (buf m log : List ℕ)
    → let o = step_of filling t s buf m log in has_acted (step_reply o.answer) ≡ true → to_inte o.writes ≡ step_sets (quiet s) t o.next
step_sets_lem filling t s buf m log =
    by_step (λ (o : Outcome). has_acted (step_reply o.answer) ≡ true → to_inte o.writes ≡ step_sets (quiet s) t o.next) filling t s buf m log
    (λ h. absurd (true≢false (sym h))) (λ h. absurd (true≢false (sym h)))
    (λ r e h. let o = acts r.request r.stage s buf m in acts_sets r s buf m ∙ ap (λ (u : Option Run). step_sets (quiet s) u o.next) (sym e))

-- ---- begins

begun_sets : (r : Result (Unit {0}) Refusal) (t : Option Run) (m : List ℕ) (b : Beginning) (ws : List Write) → to_inte b.writes ≡ ws → (begin_or r t m b).answer ≡ Ok tt → to_inte (begin_or r t m b).writes ≡ ws
begun_sets (Err e) t m b ws h said = refused_begun e said
begun_sets (Ok tt) t m b ws h said = h

control_none : (r : Result (Unit {0}) Refusal) (t : Option Run) (a : ℕ) (x : TransferExtras) (p : ℕ) (s : SetupPacket) (ph : DataPhase) (n : ℕ) (m : List ℕ) → to_inte (begin_or r t m (begins_control a x p s ph n m)).writes ≡ []
unfolding to_inte
control_none (Err e) t a x p s ph n m = refl
control_none (Ok tt) t a x p s ph n m = refl

begin_control_sets : (t : Option Run) (a : ℕ) (x : TransferExtras) (p : ℕ) (s : SetupPacket) (ph : DataPhase) (buf m log : List ℕ) → to_inte (begin_control_of t a x p s ph buf m log).writes ≡ []
unfolding begin_control_of
begin_control_sets t a x p s ph buf m log = control_none (begin_refusal (lent_fits m log) (is_idle t) (fields_refusal (address_good a) true (size_good p) true)) t a x p s ph (length buf) m

begin_bulk_in_sets : (t : Option Run) (a e p : ℕ) (k : TransferType) (b : Bool) (buf m log : List ℕ)
    → let o = begin_bulk_in_of t a e p k b buf m log in o.answer ≡ Ok tt → to_inte o.writes ≡ seven_for p (length buf)
unfolding begin_bulk_in_of
begin_bulk_in_sets t a e p k b buf m log =
    let x = bulk_request In a e p b (length buf) in
    begun_sets (begin_refusal (lent_fits m log) (is_idle t) (fields_refusal (address_good a) (endpoint_good e) (size_good p) (leb (length buf) 0xFFFF))) t m (begins_bulk_in x k m) (seven_for p (length buf))
    (start_in_sets (target_of x) k false (length buf) (length buf) refl)

begin_bulk_out_sets : (t : Option Run) (a e p : ℕ) (k : TransferType) (b : Bool) (buf m log : List ℕ)
    → let o = begin_bulk_out_of t a e p k b buf m log in o.answer ≡ Ok tt → to_inte o.writes ≡ seven_for p (length buf)
unfolding begin_bulk_out_of
begin_bulk_out_sets t a e p k b buf m log =
    let x = bulk_request Out a e p b (length buf) in
    begun_sets (begin_refusal (lent_fits m log) (is_idle t) (fields_refusal (address_good a) (endpoint_good e) (size_good p) (leb (length buf) 0xFFFF))) t m (begins_bulk_out x e k buf m) (seven_for p (length buf))
    (start_out_sets (target_of x) k false 0 (length buf) buf m (length buf) refl)

-- ---- pipes

arm_pipe_none : (n : ℕ) (t : Bool) (p : ℕ) → n ≤ 15 → to_inte (arm_pipe n t p) ≡ []
unfolding to_inte
arm_pipe_none n t p h = rw (ne_eqb (0x5010_0080 + 8 * n) 0x5011_0090 (λ e. omega arith))

open_none : (d : Driver) (address : ℕ) (extras : TransferExtras) (endpoint size interval : ℕ) (log : List ℕ) → to_inte (opening d address extras endpoint size interval log).writes ≡ []
unfolding to_inte
open_none d address extras endpoint size interval log =
    of_open (λ (ws : List Write). to_inte ws ≡ []) d address extras endpoint size interval log refl
    (λ n h k p. rw (ne_eqb (0x5011_0000 + 4 * n) 0x5011_0090 (λ e. omega arith), ne_eqb (0x5010_0000 + 8 * n) 0x5011_0090 (λ e. omega arith), arm_pipe_none n false size k))

poll_sets : (d : Driver) (n : PipeNumber) (s : PipeSample) (pm log : List ℕ) → let ws = (polling d n s pm log).writes in (to_inte ws ≡ []) ⊎ (to_inte ws ≡ wr 0x5011_0090 0x10 0x10 ∷ [])
unfolding to_inte
poll_sets d n s pm log =
    of_poll (λ (ws : List Write). (to_inte ws ≡ []) ⊎ (to_inte ws ≡ wr 0x5011_0090 0x10 0x10 ∷ [])) d n s pm log (inl refl) (λ h k. inr refl) (λ t h k. inl (arm_pipe_none n.0 t (held_of d.pipes n).size k))

pub enables_seven : Enables
enables_seven = record {
  begin_control = begin_control_sets;
  begin_bulk_in = begin_bulk_in_sets;
  begin_bulk_out = begin_bulk_out_sets;
  step = step_sets_lem;
  opens = open_none;
  poll = poll_sets;
}
