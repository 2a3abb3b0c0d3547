-- Every call writes at most 18 registers, all of them in the list. Assumes nothing.
use Rattle.std.specs.Prelude.{Err, None, Ok, Option, Result, Some}
use mathlib.Core.Path.{◌≡◌, refl, ap}
use mathlib.Core.Logic.{◌⊎◌, inl, inr, ⊎_elim}
use mathlib.Core.Bool.{Bool, true, false, cond}
use mathlib.Core.List.{List, [], ◌∷◌, ◌++◌}
use Prim.Native.Nat.{ℕ, ◌+◌, ◌*◌, ◌-◌, ◌/◌, ◌%◌, ◌≤◌, ◌<◌}
use native.Mathlib.Omega.{arith}
use lib.Bits.{bit_and, and_zero_l, and_zero_r}
use lib.Dec.{eqb, leb, ltb, lit<, lit≤}
use lib.ListN.{length, length-append}
use borrow.Author.Tests.{ne_eqb}
use Rattle.pool.specs.declared.pipe.PipeNumber.{PipeNumber}
use Rattle.cutting.specs.declared.transfer_type.TransferType.{TransferType}
use Rattle.cutting.specs.declared.transfer_type.TransferType.TheVariants.{FixedSize}
use Rattle.cutting.specs.declared.packetiser.Arm.{Arm}
use Rattle.cutting.specs.declared.packetiser.InPacketiser.{InPacketiser}
use Rattle.cutting.specs.declared.packetiser.OutCounters.{OutCounters}
use Rattle.cutting.specs.declared.depacketiser.InDepacketiser.{InDepacketiser}
use Rattle.cutting.specs.Counters.{next_of, in_gives, out_gives, in_start_of, out_start, in_next, out_next}
use Rattle.transfers.specs.declared.host_controller.DataPhase.{DataPhase}
use Rattle.transfers.specs.declared.host_controller.DataPhase.TheVariants.{In as phase_in, Out as phase_out, None as phase_none}
use Rattle.transfers.specs.declared.host_controller.TransferExtras.{TransferExtras}
use Rattle.transfers.specs.declared.wire.SetupPacket.{SetupPacket}
use Rattle.transfers.specs.declared.wire.Direction.{Direction}
use Rattle.transfers.specs.declared.wire.Direction.TheVariants.{In, Out}
use Rattle.transfers.specs.declared.writes.Target.{Target}
use Rattle.transfers.specs.declared.sample.Sample.{Sample}
use Rattle.transfers.specs.declared.sample.Found.{Found}
use Rattle.transfers.specs.declared.sample.Found.TheVariants.{Complete, Failed, Neither}
use Rattle.transfers.specs.declared.pipes.PipeSample.{PipeSample}
use Rattle.transfers.specs.declared.driver.Driver.{Driver}
use Rattle.transfers.specs.declared.driver.Run.{Run}
use Rattle.transfers.specs.declared.driver.Request.{Request}
use Rattle.transfers.specs.declared.driver.Kind.{Kind}
use Rattle.transfers.specs.declared.driver.Kind.TheVariants.{Control as control, Bulk as bulk}
use Rattle.transfers.specs.declared.driver.Stage.{Stage}
use Rattle.transfers.specs.declared.driver.Stage.TheVariants.{Setup as setup_stage, In as in_stage, Out as out_stage}
use Rattle.transfers.specs.declared.driver.InStage.{InStage}
use Rattle.transfers.specs.declared.driver.OutStage.{OutStage}
use Rattle.transfers.specs.Log.{Write, wr}
use Rattle.transfers.specs.Memory.{log_fits, lent_fits}
use Rattle.transfers.specs.Registers.{bit, weigh, ep_buffer_of}
use Rattle.transfers.specs.Sample.{classify}
use Rattle.transfers.specs.Writes.{setup_words, setup_start, head_writes, arm_writes, enable_writes, go_writes, polled, quiets, completes}
use Rattle.transfers.specs.Arming.{may_arm, InArming, in_armed, in_arm_if, in_arm, in_arm_two, OutArming, out_armed, out_arm_if, out_arm, out_arm_two}
use Rattle.transfers.specs.Retiring.{InRetiring, in_retire_one}
use Rattle.transfers.specs.State.{target_of, stage_length, control_of, address_good, endpoint_good, size_good}
use Rattle.transfers.specs.Outcome.{Outcome, start_in, start_out}
use Rattle.transfers.specs.Step.{setup_done, setup_step, in_packets, in_received, in_control_done, in_done, in_second_done, in_first_done, in_complete, in_rearm, in_second_moved, in_first_moved, in_move, in_step, out_packets, out_retire_two, out_control_done, out_done, out_complete, out_move, out_step, lent, keeping, stage_step, polls, acts}
use Rattle.transfers.specs.Calls.{step_if, may_step, step_lent, step_of, fields_refusal, begin_refusal, Beginning, begin_or, is_idle, bulk_request, begins_control, begin_control_of, begins_bulk_in, begin_bulk_in_of, begins_bulk_out, begin_bulk_out_of}
use Rattle.transfers.specs.Pipes.{arm_pipe, opening, polling}
use Rattle.transfers.specs.Irq.{clear_writes, waking_if, waking}
use Rattle.transfers.specs.Detect.{same_status, status_of, detecting_if, detecting_status, detecting}
use Rattle.transfers.specs.Isolation.{held_of}
use Rattle.transfers.specs.Apart.{Every}
use Rattle.cutting.proofs.Next.{in_fits, out_fits}
use Rattle.transfers.proofs.Logs.{logged_is}
use Rattle.transfers.proofs.Apart.{of_open, of_poll}
use Rattle.rules.specs.Writes.{Register, is_setup_packet_low, is_setup_packet_high, is_ep_control, is_ep_buffer_control, is_epx_control, is_addr_endp, is_sie_ctrl, is_sie_status, is_int_ep_ctrl, is_buff_status, is_nak_poll, is_ep_status_stall_nak, is_inte, NotFull, MayWrite, delays, writes, Listed, CallsWrite}
use Rattle.rules.proofs.Lists.{every_append}
use Rattle.rules.proofs.Spent.{in_spent, out_spent}
use Rattle.rules.proofs.Outside.{own_power, enables_out, setup_out, towards_out, slot_out, available_out}
use Rattle.transfers.specs.declared.refusal.Refusal.{Refusal}

-- ---- lists of writes

-- At most k writes, each listed.
record L (k : ℕ) (ws : List Write) : Type 0 where
  few : length ws ≤ k
  only : Every MayWrite ws

then : {j k : ℕ} {a b : List Write} → L j a → L k b → L (j + k) (a ++ b)
then {j} {k} {a} {b} p q = record { few = let x = p.few in let y = q.few in let z = length-append a b in omega arith; only = every_append MayWrite a b p.only q.only }

more : {j k : ℕ} {a : List Write} → j ≤ k → L j a → L k a
more {j} {k} {a} h p = record { few = let x = p.few in omega arith; only = p.only }

nothing : (k : ℕ) → L k []
nothing k = record { few = omega arith; only = tt }

-- ---- one write

below : (r v : ℕ) → r < 0x5010_0088 → NotFull r v
below r v h n p q e = absurd (omega arith)

above : (r v : ℕ) → 0x5010_0100 ≤ r → NotFull r v
above r v h n p q e = absurd (omega arith)

small : (r v : ℕ) → v < 0x8000 → NotFull r v
small r v h n p q e = (ne_eqb (v / 0x8000 % 2) 1 (λ f. omega arith), ne_eqb (v / 0x8000_0000 % 2) 1 (λ f. omega arith))

epx_ok : (v : ℕ) → MayWrite 0x5010_0100 0xFFFF_FFFF v
epx_ok v = writes is_epx_control (above 0x5010_0100 v (lit≤ tt)) (and_zero_r v)

buffer_ok : (m v : ℕ) → bit_and v (0xFFFF_FFFF - m) ≡ 0 → MayWrite 0x5010_0080 m v
buffer_ok m v z = writes (is_ep_buffer_control 0 (omega arith)) (below 0x5010_0080 v (lit< tt)) z

status_ok : (v : ℕ) → MayWrite 0x5011_0050 0xFFFF_FFFF v
status_ok v = writes is_sie_status (above 0x5011_0050 v (lit≤ tt)) (and_zero_r v)

ctrl_ok : (m v : ℕ) → bit_and v (0xFFFF_FFFF - m) ≡ 0 → MayWrite 0x5011_004C m v
ctrl_ok m v z = writes is_sie_ctrl (above 0x5011_004C v (lit≤ tt)) z

addr_ok : (v : ℕ) → MayWrite 0x5011_0000 0xFFFF_FFFF v
addr_ok v = writes (is_addr_endp 0 (omega arith)) (above 0x5011_0000 v (lit≤ tt)) (and_zero_r v)

nak_ok : (v : ℕ) → MayWrite 0x5011_006C 0xFFFF_FFFF v
nak_ok v = writes is_nak_poll (above 0x5011_006C v (lit≤ tt)) (and_zero_r v)

buff_ok : (v : ℕ) → MayWrite 0x5011_0058 0xFFFF_FFFF v
buff_ok v = writes is_buff_status (above 0x5011_0058 v (lit≤ tt)) (and_zero_r v)

inte_ok : (m v : ℕ) → bit_and v (0xFFFF_FFFF - m) ≡ 0 → MayWrite 0x5011_0090 m v
inte_ok m v z = writes is_inte (above 0x5011_0090 v (lit≤ tt)) z

low_ok : (v : ℕ) → MayWrite 0x5010_0000 0xFFFF_FFFF v
low_ok v = writes is_setup_packet_low (below 0x5010_0000 v (lit< tt)) (and_zero_r v)

high_ok : (v : ℕ) → MayWrite 0x5010_0004 0xFFFF_FFFF v
high_ok v = writes is_setup_packet_high (below 0x5010_0004 v (lit< tt)) (and_zero_r v)

pipe_addr_ok : (n v : ℕ) → n ≤ 15 → MayWrite (0x5011_0000 + 4 * n) 0xFFFF_FFFF v
pipe_addr_ok n v h = writes (is_addr_endp n h) (above (0x5011_0000 + 4 * n) v (omega arith)) (and_zero_r v)

not_buffer : (n v : ℕ) → n ≤ 15 → NotFull (0x5010_0000 + 8 * n) v
not_buffer n v h m p q e = absurd (omega arith)

pipe_control_ok : (n v : ℕ) → 1 ≤ n → n ≤ 15 → MayWrite (0x5010_0000 + 8 * n) 0xFFFF_FFFF v
pipe_control_ok n v h k = writes (is_ep_control n h k) (not_buffer n v k) (and_zero_r v)

int_ok : (m v : ℕ) → bit_and v (0xFFFF_FFFF - m) ≡ 0 → MayWrite 0x5011_0054 m v
int_ok m v z = writes is_int_ep_ctrl (above 0x5011_0054 v (lit≤ tt)) z

stall_ok : (v : ℕ) → MayWrite 0x5011_0070 0xFFFF_FFFF v
stall_ok v = writes is_ep_status_stall_nak (above 0x5011_0070 v (lit≤ tt)) (and_zero_r v)

-- ---- blocks

head_ok : (t : Target) (n : ℕ) → L 5 (head_writes t n)
unfolding head_writes
head_ok t n = record { few = omega arith; only = (epx_ok _, (buffer_ok _ _ refl, (status_ok _, (addr_ok _, (nak_ok _, tt))))) }

arm_ok : (f : Bool) (a : Arm) → a.length ≤ 64 → L 3 (arm_writes f a)
unfolding arm_writes
arm_ok f a h = record { few = omega arith; only = (buffer_ok _ _ (slot_out f a h), (delays, (buffer_ok _ _ (available_out a.slot), tt))) }

enable_ok : (p n : ℕ) → L 3 (enable_writes p n)
unfolding enable_writes
enable_ok p n = record { few = omega arith; only = (status_ok _, (buff_ok _, (inte_ok _ _ (enables_out p n), tt))) }

go_ok : (d : Direction) → L 3 (go_writes d)
unfolding go_writes
go_ok d = record { few = omega arith; only = (ctrl_ok _ _ (towards_out d), (delays, (ctrl_ok _ _ refl, tt))) }

setup_ok : (s : SetupPacket) (a : ℕ) (x : TransferExtras) → L 9 (setup_words s ++ setup_start a x)
setup_ok s a x = then {j = 5} {k = 4} {a = setup_words s} {b = setup_start a x}
    (record { few = omega arith; only = (epx_ok _, (buffer_ok _ _ refl, (low_ok _, (high_ok _, (status_ok _, tt))))) })
    (record { few = omega arith; only = (addr_ok _, (ctrl_ok _ _ (setup_out x), (delays, (ctrl_ok _ _ refl, tt)))) })

-- ---- arming

in_armed_ok : (o : Option Arm) (c : InPacketiser) (k : ℕ) → ((a : Arm) → o ≡ Some a → a.length ≤ 64) → L 3 (in_armed o c k).writes
in_armed_ok None c k h = nothing 3
in_armed_ok (Some a) c k h = arm_ok false a (h a refl)

in_arm_ok : (w : ℕ) (c : InPacketiser) (k : ℕ) → L 3 (in_arm w c k).writes
unfolding in_arm
in_arm_ok w c k = by (may_arm w k c.slot)
  where
    by : (b : Bool) → L 3 (in_arm_if b c k).writes
    by false = nothing 3
    by true = in_armed_ok (in_next c).arm (in_next c).rest k (λ a e. (in_fits c a e).small)

in_two_ok : (w : ℕ) (c : InPacketiser) (k : ℕ) → L 6 (in_arm_two w c k).writes
unfolding in_arm_two
in_two_ok w c k = let g = in_arm w c k in then (in_arm_ok w c k) (in_arm_ok w g.packets g.inflight)

out_armed_ok : (o : Option Arm) (c : OutCounters) (k off : ℕ) (buf m : List ℕ) → ((a : Arm) → o ≡ Some a → a.length ≤ 64) → L 3 (out_armed o c k off buf m).writes
out_armed_ok None c k off buf m h = nothing 3
out_armed_ok (Some a) c k off buf m h = arm_ok true a (h a refl)

out_arm_ok : (w : ℕ) (c : OutCounters) (k : ℕ) (buf m : List ℕ) → L 3 (out_arm w c k buf m).writes
unfolding out_arm
out_arm_ok w c k buf m = by (may_arm w k c.slot)
  where
    by : (b : Bool) → L 3 (out_arm_if b c k buf m).writes
    by false = nothing 3
    by true = out_armed_ok (out_next c).arm (out_next c).rest k c.offset buf m (λ a e. (out_fits c a e).small)

out_two_ok : (w : ℕ) (c : OutCounters) (k : ℕ) (buf m : List ℕ) → L 6 (out_arm_two w c k buf m).writes
unfolding out_arm_two
out_two_ok w c k buf m = let g = out_arm w c k buf m in then (out_arm_ok w c k buf m) (out_arm_ok w g.packets g.inflight buf g.memory)

-- A status stage has one packet, so only one slot is armed: the first arming of nothing arms none, or leaves none after it.
in_first : (x : Option (ℕ × Bool)) (c : InPacketiser) (k : ℕ) → c.remain ≡ 0
    → ((in_armed (in_gives x c).arm (in_gives x c).rest k).writes ≡ [])
    ⊎ (((in_armed (in_gives x c).arm (in_gives x c).rest k).packets.remain ≡ 0) × ((in_armed (in_gives x c).arm (in_gives x c).rest k).packets.zlp ≡ false))
in_first None c k e = inl refl
in_first (Some (n, last)) c k e = inr (omega arith, ap (λ (r : ℕ). cond (eqb r 0) false c.zlp) e)

in_status_few : (p : ℕ) (b : Bool) → length (in_arm_two 0 (in_start_of FixedSize p b 0) 0).writes ≤ 3
unfolding in_arm_two in_arm in_next
in_status_few p b =
    let c = in_start_of FixedSize p b 0 in
    let g = in_arm 0 c 0 in
    let x = (in_arm_ok 0 c 0).few in
    let y = (in_arm_ok 0 g.packets g.inflight).few in
    let z = length-append g.writes (in_arm 0 g.packets g.inflight).writes in
    ⊎_elim (λ (e : g.writes ≡ []). let u = ap length e in omega (arith, u, y, z))
    (λ (e : (g.packets.remain ≡ 0) × (g.packets.zlp ≡ false)). let u = ap (λ (i : InArming). length i.writes) (in_spent 0 g.packets g.inflight e.0 e.1) in omega (arith, u, x, z))
    (in_first (next_of 0 p true) c 0 refl)

out_first : (x : Option (ℕ × Bool)) (c : OutCounters) (k off : ℕ) (buf m : List ℕ) → c.remain ≡ 0
    → ((out_armed (out_gives x c).arm (out_gives x c).rest k off buf m).writes ≡ [])
    ⊎ (((out_armed (out_gives x c).arm (out_gives x c).rest k off buf m).packets.remain ≡ 0) × ((out_armed (out_gives x c).arm (out_gives x c).rest k off buf m).packets.zlp ≡ false))
out_first None c k off buf m e = inl refl
out_first (Some (n, last)) c k off buf m e = inr (omega arith, ap (λ (r : ℕ). cond (eqb r 0) false c.zlp) e)

out_status_few : (p : ℕ) (b : Bool) (m : List ℕ) → length (out_arm_two 0 (out_start FixedSize p b 0) 0 [] m).writes ≤ 3
unfolding out_arm_two out_arm out_next
out_status_few p b m =
    let c = out_start FixedSize p b 0 in
    let g = out_arm 0 c 0 [] m in
    let h = out_arm 0 g.packets g.inflight [] g.memory in
    let x = (out_arm_ok 0 c 0 [] m).few in
    let y = (out_arm_ok 0 g.packets g.inflight [] g.memory).few in
    let z = length-append g.writes h.writes in
    ⊎_elim (λ (e : g.writes ≡ []). let u = ap length e in omega (arith, u, y, z))
    (λ (e : (g.packets.remain ≡ 0) × (g.packets.zlp ≡ false)). let u = ap (λ (i : OutArming). length i.writes) (out_spent 0 g.packets g.inflight [] g.memory e.0 e.1) in omega (arith, u, x, z))
    (out_first (next_of 0 p true) c 0 0 [] m refl)

-- ---- stages that begin

start_in_ok : (t : Target) (k : TransferType) (s : Bool) (n : ℕ) → L 17 (start_in t k s n).writes
unfolding start_in
start_in_ok t k s n = then (head_ok t n) (then (in_two_ok 0 (in_start_of k t.size t.pid n) 0) (then (enable_ok t.size n) (go_ok In)))

start_out_ok : (t : Target) (k : TransferType) (s : Bool) (r n : ℕ) (buf m : List ℕ) → L 17 (start_out t k s r n buf m).writes
unfolding start_out
start_out_ok t k s r n buf m = then (head_ok t n) (then (out_two_ok 0 (out_start k t.size t.pid n) 0 buf m) (then (enable_ok t.size n) (go_ok Out)))

status_in_ok : (t : Target) → L 14 (start_in t FixedSize true 0).writes
unfolding start_in
status_in_ok t =
    let c = in_start_of FixedSize t.size t.pid 0 in
    let g : L 3 (in_arm_two 0 c 0).writes = record { few = in_status_few t.size t.pid; only = (in_two_ok 0 c 0).only } in
    then {j = 5} {k = 9} (head_ok t 0) (then {j = 3} {k = 6} g (then {j = 3} {k = 3} (enable_ok t.size 0) (go_ok In)))

status_out_ok : (t : Target) (r : ℕ) (m : List ℕ) → L 14 (start_out t FixedSize true r 0 [] m).writes
unfolding start_out
status_out_ok t r m =
    let c = out_start FixedSize t.size t.pid 0 in
    let g : L 3 (out_arm_two 0 c 0 [] m).writes = record { few = out_status_few t.size t.pid m; only = (out_two_ok 0 c 0 [] m).only } in
    then {j = 5} {k = 9} (head_ok t 0) (then {j = 3} {k = 6} g (then {j = 3} {k = 3} (enable_ok t.size 0) (go_ok Out)))

-- ---- steps

polled_ok : L 1 (polled ∷ [])
polled_ok = record { few = omega arith; only = (status_ok _, tt) }

completes_ok : L 1 (completes ∷ [])
completes_ok = record { few = omega arith; only = (status_ok _, tt) }

quiets_ok : L 2 quiets
quiets_ok = record { few = omega arith; only = (buff_ok _, (inte_ok _ _ refl, tt)) }

setup_done_ok : (ph : DataPhase) (b : Bool) (x : Request) (n : ℕ) (buf m : List ℕ) → L 17 (setup_done ph b x n buf m).writes
setup_done_ok phase_in true x n buf m = nothing 17
setup_done_ok phase_in false x n buf m = start_in_ok (target_of x) FixedSize false n
setup_done_ok phase_out true x n buf m = nothing 17
setup_done_ok phase_out false x n buf m = start_out_ok (target_of x) FixedSize false 0 n buf m
setup_done_ok phase_none b x n buf m = start_in_ok (target_of x) FixedSize true 0

setup_step_ok : (f : Found) (x : Request) (buf m : List ℕ) → L 17 (setup_step f x buf m).writes
unfolding setup_step
setup_step_ok Complete x buf m = let c = control_of x.kind in setup_done_ok c.phase (ltb x.length c.wLength) x c.wLength buf m
setup_step_ok (Failed e) x buf m = nothing 17
setup_step_ok Neither x buf m = nothing 17

in_control_done_ok : (b : Bool) (ph : DataPhase) (x : Request) (n : ℕ) (m buf : List ℕ) → L 14 (in_control_done b ph x n m buf).writes
in_control_done_ok true ph x n m buf = nothing 14
in_control_done_ok false ph x n m buf = status_out_ok (target_of x) n m

in_done_ok : (k : Kind) (b : Bool) (x : Request) (d : InDepacketiser) (m buf : List ℕ) → L 14 (in_done k b x d m buf).writes
in_done_ok (control c) b x d m buf = in_control_done_ok b c.phase x d.offset m buf
in_done_ok (bulk c) b x d m buf = nothing 14

in_second_done_ok : (b : Bool) (h : InRetiring) (x : Request) (s : Bool) (m : List ℕ) → L 14 (in_second_done b h x s m).writes
in_second_done_ok true h x s m = nothing 14
in_second_done_ok false h x s m = in_done_ok x.kind s x h.packets m h.buffer

in_first_done_ok : (b : Bool) (g : InRetiring) (w : ℕ) (x : Request) (s : Bool) (m : List ℕ) → L 15 (in_first_done b g w x s m).writes
in_first_done_ok true g w x s m = nothing 15
in_first_done_ok false g w x s m = let h = in_retire_one w g.packets g.inflight g.buffer m in then {j = 1} {k = 14} completes_ok (in_second_done_ok h.long h x s m)

in_rearm_ok : (x : Request) (st : InStage) (d : InDepacketiser) (k w : ℕ) (m buf : List ℕ) → L 15 (in_rearm x st d k w m buf).writes
unfolding in_rearm
in_rearm_ok x st d k w m buf = more {j = 9} (omega arith) (then {j = 6} {k = 3} (in_two_ok w (in_packets x st) k) (enable_ok x.size (stage_length x st.status)))

in_second_moved_ok : (b : Bool) (h : InRetiring) (w : ℕ) (x : Request) (st : InStage) (m : List ℕ) → L 15 (in_second_moved b h w x st m).writes
in_second_moved_ok true h w x st m = nothing 15
in_second_moved_ok false h w x st m = in_rearm_ok x st h.packets h.inflight w m h.buffer

in_first_moved_ok : (b : Bool) (g : InRetiring) (w : ℕ) (x : Request) (st : InStage) (m : List ℕ) → L 15 (in_first_moved b g w x st m).writes
in_first_moved_ok true g w x st m = nothing 15
in_first_moved_ok false g w x st m = let h = in_retire_one w g.packets g.inflight g.buffer m in in_second_moved_ok h.long h w x st m

in_step_ok : (f : Found) (x : Request) (st : InStage) (w : ℕ) (buf m : List ℕ) → L 17 (in_step f x st w buf m).writes
unfolding in_step in_complete in_move
in_step_ok Complete x st w buf m = let g = in_retire_one w (in_received st) st.inflight buf m in then {j = 2} {k = 15} quiets_ok (in_first_done_ok g.long g w x st.status m)
in_step_ok (Failed e) x st w buf m = then {j = 2} {k = 15} quiets_ok (nothing 15)
in_step_ok Neither x st w buf m = let g = in_retire_one w (in_received st) st.inflight buf m in then {j = 2} {k = 15} quiets_ok (in_first_moved_ok g.long g w x st m)

out_control_done_ok : (b : Bool) (x : Request) (n : ℕ) (m buf : List ℕ) → L 14 (out_control_done b x n m buf).writes
out_control_done_ok true x n m buf = nothing 14
out_control_done_ok false x n m buf = status_in_ok (target_of x)

out_done_ok : (k : Kind) (x : Request) (st : OutStage) (p : Bool) (m buf : List ℕ) → L 14 (out_done k x st p m buf).writes
out_done_ok (control c) x st p m buf = out_control_done_ok st.status x st.received m buf
out_done_ok (bulk c) x st p m buf = nothing 14

out_step_ok : (f : Found) (x : Request) (st : OutStage) (w : ℕ) (buf m : List ℕ) → L 17 (out_step f x st w buf m).writes
unfolding out_step out_complete out_move
out_step_ok Complete x st w buf m = then {j = 2} {k = 15} quiets_ok (then {j = 1} {k = 14} completes_ok (out_done_ok x.kind x st (out_retire_two w st.retire st.inflight).parity m buf))
out_step_ok (Failed e) x st w buf m = then {j = 2} {k = 15} quiets_ok (nothing 15)
out_step_ok Neither x st w buf m =
    let r = out_retire_two w st.retire st.inflight in
    then {j = 2} {k = 15} quiets_ok (more {j = 9} (omega arith) (then {j = 6} {k = 3} (out_two_ok w (out_packets x st) r.inflight buf m) (enable_ok x.size (stage_length x st.status))))

keeping_ok : (b : Bool) (buf : List ℕ) (o : Outcome) → L 17 o.writes → L 17 (keeping b buf o).writes
keeping_ok true buf o h = h
keeping_ok false buf o h = h

stage_ok : (f : Found) (x : Request) (st : Stage) (w : ℕ) (buf m : List ℕ) → L 17 (stage_step f x st w buf m).writes
stage_ok f x setup_stage w buf m = setup_step_ok f x buf m
stage_ok f x (in_stage st) w buf m = keeping_ok st.status buf (in_step f x st w (lent st.status buf) m) (in_step_ok f x st w (lent st.status buf) m)
stage_ok f x (out_stage st) w buf m = keeping_ok st.status buf (out_step f x st w (lent st.status buf) m) (out_step_ok f x st w (lent st.status buf) m)

polls_ok : (p : Option Found) (x : Request) (st : Stage) (w : ℕ) (buf m : List ℕ) → L 18 (polls p x st w buf m).writes
polls_ok None x st w buf m = record { few = omega arith; only = (status_ok _, (inte_ok _ _ refl, tt)) }
polls_ok (Some f) x st w buf m = then {j = 1} {k = 17} polled_ok (stage_ok f x st w buf m)

step_if_ok : (a b : Bool) (r : Run) (s : Sample) (buf m : List ℕ) → L 18 (step_if a b r s buf m).writes
unfolding acts
step_if_ok false b r s buf m = nothing 18
step_if_ok true false r s buf m = nothing 18
step_if_ok true true r s buf m = polls_ok (classify s.status s.intr) r.request r.stage s.buffers buf m

step_lent_ok : (l f : Bool) (t : Option Run) (s : Sample) (buf m : List ℕ) → L 18 (step_lent l f t s buf m).writes
step_lent_ok false f t s buf m = nothing 18
step_lent_ok true f None s buf m = nothing 18
step_lent_ok true f (Some r) s buf m = step_if_ok (may_step f r) (eqb (length buf) r.request.length) r s buf m

listed : {k : ℕ} {ws : List Write} → k ≤ 18 → L k ws → Listed ws
listed {k} {ws} h p = record { few = let x = p.few in omega arith; only = p.only }

step_listed : (f : Bool) (t : Option Run) (s : Sample) (buf m log : List ℕ) → Listed (step_of f t s buf m log).writes
unfolding step_of
step_listed f t s buf m log = listed (omega arith) (step_lent_ok (lent_fits m log) f t s buf m)

-- ---- begins

begin_or_ok : (r : Result (Unit {0}) Refusal) (t : Option Run) (m : List ℕ) (b : Beginning) → L 17 b.writes → L 17 (begin_or r t m b).writes
begin_or_ok (Err e) t m b h = nothing 17
begin_or_ok (Ok tt) t m b h = h

begin_control_listed : (t : Option Run) (a : ℕ) (x : TransferExtras) (p : ℕ) (s : SetupPacket) (ph : DataPhase) (buf m log : List ℕ) → Listed (begin_control_of t a x p s ph buf m log).writes
unfolding begin_control_of
begin_control_listed t a x p s ph buf m log = listed {k = 17} (omega arith)
    (begin_or_ok (begin_refusal (lent_fits m log) (is_idle t) (fields_refusal (address_good a) true (size_good p) true)) t m (begins_control a x p s ph (length buf) m) (more {j = 9} (omega arith) (setup_ok s a x)))

begin_bulk_in_listed : (t : Option Run) (a e p : ℕ) (k : TransferType) (b : Bool) (buf m log : List ℕ) → Listed (begin_bulk_in_of t a e p k b buf m log).writes
unfolding begin_bulk_in_of
begin_bulk_in_listed t a e p k b buf m log =
    let x = bulk_request In a e p b (length buf) in
    listed {k = 17} (omega arith)
    (begin_or_ok (begin_refusal (lent_fits m log) (is_idle t) (fields_refusal (address_good a) (endpoint_good e) (size_good p) (leb (length buf) 0xFFFF))) t m (begins_bulk_in x k m) (start_in_ok (target_of x) k false (length buf)))

begin_bulk_out_listed : (t : Option Run) (a e p : ℕ) (k : TransferType) (b : Bool) (buf m log : List ℕ) → Listed (begin_bulk_out_of t a e p k b buf m log).writes
unfolding begin_bulk_out_of
begin_bulk_out_listed t a e p k b buf m log =
    let x = bulk_request Out a e p b (length buf) in
    listed {k = 17} (omega arith)
    (begin_or_ok (begin_refusal (lent_fits m log) (is_idle t) (fields_refusal (address_good a) (endpoint_good e) (size_good p) (leb (length buf) 0xFFFF))) t m (begins_bulk_out x e k buf m) (start_out_ok (target_of x) k false 0 (length buf) buf m))

-- ---- pipes, interrupt routine, detection

armed_small : (t : Bool) (p : ℕ) → p < 256 → 0x4000 + weigh t 0x2000 + p < 0x8000
armed_small true p h = omega arith
armed_small false p h = omega arith

arm_pipe_ok : (n : ℕ) (t : Bool) (p : ℕ) → n ≤ 15 → p < 256 → L 3 (arm_pipe n t p)
arm_pipe_ok n t p h k =
    let v = 0x4000 + weigh t 0x2000 + p in
    let first = writes (is_ep_buffer_control n h) (small (ep_buffer_of n) v (armed_small t p k)) (and_zero_r v) in
    let last = writes (is_ep_buffer_control n h) (small (ep_buffer_of n) 0x400 (lit< tt)) refl in
    record { few = omega arith; only = (first, (delays, (last, tt))) }

open_listed : (d : Driver) (address : ℕ) (extras : TransferExtras) (endpoint size interval : ℕ) (log : List ℕ) → Listed (opening d address extras endpoint size interval log).writes
open_listed d address extras endpoint size interval log = of_open Listed d address extras endpoint size interval log (listed {k = 0} (omega arith) (nothing 0))
    (λ n h k p. listed {k = 5} (omega arith) (record {
      few = omega arith;
      only = (pipe_addr_ok n _ k, (pipe_control_ok n _ h k, (arm_pipe_ok n false size k (omega arith)).only));
    }))

poll_listed : (d : Driver) (n : PipeNumber) (s : PipeSample) (pm log : List ℕ) → (held_of d.pipes n).size < 256 → Listed (polling d n s pm log).writes
poll_listed d n s pm log u = of_poll Listed d n s pm log (listed {k = 0} (omega arith) (nothing 0))
    (λ h k. listed {k = 3} (omega arith) (record {
      few = omega arith;
      only = (inte_ok _ _ refl, (int_ok _ _ (own_power n.0 k), (stall_ok _, tt)));
    }))
    (λ t h k. listed {k = 3} (omega arith) (arm_pipe_ok n.0 t (held_of d.pipes n).size k u))

irq_listed : (ints status : ℕ) (log : List ℕ) → Listed (waking ints status log).writes
unfolding waking
irq_listed ints status log = by (log_fits log)
  where
    cleared : (c : Bool) → L 2 (clear_writes c ++ (wr 0x5011_0090 ints 0 ∷ []))
    cleared true = record { few = omega arith; only = (buff_ok _, (inte_ok ints 0 (and_zero_l (0xFFFF_FFFF - ints)), tt)) }
    cleared false = record { few = omega arith; only = (inte_ok ints 0 (and_zero_l (0xFFFF_FFFF - ints)), tt) }

    by : (b : Bool) → Listed (waking_if b ints status).writes
    by false = listed {k = 0} (omega arith) (nothing 0)
    by true = listed {k = 2} (omega arith) (cleared (bit 4 ints))

detect_listed : (d : Driver) (sie : ℕ) (log : List ℕ) → Listed (detecting d sie log).writes
unfolding detecting_status
detect_listed d sie log = by (log_fits log) (same_status (status_of sie) d.last)
  where
    by : (b c : Bool) → Listed (detecting_if b c d.last (status_of sie)).writes
    by false c = listed {k = 0} (omega arith) (nothing 0)
    by true true = listed {k = 1} (omega arith) (record { few = omega arith; only = (inte_ok _ _ refl, tt) })
    by true false = listed {k = 1} (omega arith) (record { few = omega arith; only = (inte_ok _ _ refl, tt) })

-- ---- the list

places : (r : ℕ) → Register r → ((0x5010_0000 ≤ r) × (r < 0x5010_0104)) ⊎ ((0x5011_0000 ≤ r) × (r < 0x5011_0094))
places r is_setup_packet_low = inl (lit≤ tt, lit< tt)
places r is_setup_packet_high = inl (lit≤ tt, lit< tt)
places r (is_ep_control n h k) = inl (omega arith, omega arith)
places r (is_ep_buffer_control n k) = inl (omega arith, omega arith)
places r is_epx_control = inl (lit≤ tt, lit< tt)
places r (is_addr_endp n k) = inr (omega arith, omega arith)
places r is_sie_ctrl = inr (lit≤ tt, lit< tt)
places r is_sie_status = inr (lit≤ tt, lit< tt)
places r is_int_ep_ctrl = inr (lit≤ tt, lit< tt)
places r is_buff_status = inr (lit≤ tt, lit< tt)
places r is_nak_poll = inr (lit≤ tt, lit< tt)
places r is_ep_status_stall_nak = inr (lit≤ tt, lit< tt)
places r is_inte = inr (lit≤ tt, lit< tt)

pub calls_write : CallsWrite
calls_write = record {
  begin_control = begin_control_listed;
  begin_bulk_in = begin_bulk_in_listed;
  begin_bulk_out = begin_bulk_out_listed;
  step = step_listed;
  opens = open_listed;
  poll = poll_listed;
  irq = irq_listed;
  detect = detect_listed;
  where_listed = places;
  whole = λ l ws h p. logged_is l ws (let x = p.few in omega arith);
}
