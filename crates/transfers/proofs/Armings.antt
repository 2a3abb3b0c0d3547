-- Laws of arming and retiring: few writes, at most two in flight, offset and rest kept, only the slots stored to. Assumes nothing.
use Rattle.std.proofs.Common.{◌≡◌, ℕ, ◌+◌, ◌<◌, ◌≤◌, Bool, true, false, not, ◌&&◌, ltb, List, length, take, drop, refl, ◌∙◌, arith, length-append, ltb-true, None, Option, Some}
use lib.Seq.{length-sets}
use Rattle.cutting.specs.declared.packetiser.Arm.{Arm}
use Rattle.cutting.specs.declared.packetiser.InPacketiser.{InPacketiser}
use Rattle.cutting.specs.declared.packetiser.OutCounters.{OutCounters}
use Rattle.cutting.specs.declared.depacketiser.InDepacketiser.{InDepacketiser}
use Rattle.cutting.specs.Counters.{in_next, out_next}
use Rattle.cutting.specs.Retire.{in_retire}
use Rattle.cutting.proofs.Next.{out_sum}
use Rattle.cutting.proofs.Retiring.{retire_sum}
use Rattle.transfers.specs.Memory.{slot_address}
use Rattle.transfers.specs.Sample.{available, full, length_in}
use Rattle.transfers.specs.Writes.{arm_writes}
use Rattle.transfers.specs.Arming.{may_arm, in_armed, in_arm_if, in_arm, in_arm_two, out_armed, out_arm_if, out_arm, out_arm_two}
use Rattle.transfers.specs.Retiring.{InRetiring, in_taken, in_retire_if, in_retire_one, out_retire_if, out_retire_one}

pub may_flight : (w k : ℕ) (s : Bool) → may_arm w k s ≡ true → k < 2
may_flight w k s = go (ltb k 2) (not (available w s)) (ltb-true k 2)
  where
    go : (a b : Bool) → (a ≡ true → k < 2) → (a && b) ≡ true → k < 2
    go true b f e = f refl
    go false b f e = absurd (let z : ◌≡◌ {A = ℕ} 0 1 = cc in omega arith)

pub arm_three : (f : Bool) (a : Arm) → length (arm_writes f a) ≡ 3
unfolding arm_writes
arm_three f a = refl

-- ---- IN

in_armed_few : (a : Option Arm) (c : InPacketiser) (k : ℕ) → length (in_armed a c k).writes ≤ 3
in_armed_few None c k = omega arith
in_armed_few (Some a) c k = omega (arith, arm_three false a)

pub in_few : (w : ℕ) (c : InPacketiser) (k : ℕ) → length (in_arm w c k).writes ≤ 3
unfolding in_arm
in_few w c k = go (may_arm w k c.slot)
  where
    go : (b : Bool) → length (in_arm_if b c k).writes ≤ 3
    go false = omega arith
    go true = in_armed_few (in_next c).arm (in_next c).rest k

in_armed_flight : (a : Option Arm) (c : InPacketiser) (k : ℕ) → k < 2 → (in_armed a c k).inflight ≤ 2
in_armed_flight None c k h = omega arith
in_armed_flight (Some a) c k h = omega arith

pub in_flight : (w : ℕ) (c : InPacketiser) (k : ℕ) → k ≤ 2 → (in_arm w c k).inflight ≤ 2
unfolding in_arm
in_flight w c k h = go (may_arm w k c.slot) (may_flight w k c.slot)
  where
    go : (b : Bool) → (b ≡ true → k < 2) → (in_arm_if b c k).inflight ≤ 2
    go false f = h
    go true f = in_armed_flight (in_next c).arm (in_next c).rest k (f refl)

pub in_two_few : (w : ℕ) (c : InPacketiser) (k : ℕ) → length (in_arm_two w c k).writes ≤ 6
unfolding in_arm_two
in_two_few w c k =
    let g = in_arm w c k in
    simp length-append (omega (arith, in_few w c k, in_few w g.packets g.inflight))

pub in_two_flight : (w : ℕ) (c : InPacketiser) (k : ℕ) → k ≤ 2 → (in_arm_two w c k).inflight ≤ 2
unfolding in_arm_two
in_two_flight w c k h = let g = in_arm w c k in in_flight w g.packets g.inflight (in_flight w c k h)

-- ---- OUT

out_armed_few : (a : Option Arm) (c : OutCounters) (k off : ℕ) (buf m : List ℕ) → length (out_armed a c k off buf m).writes ≤ 3
out_armed_few None c k off buf m = omega arith
out_armed_few (Some a) c k off buf m = omega (arith, arm_three true a)

pub out_few : (w : ℕ) (c : OutCounters) (k : ℕ) (buf m : List ℕ) → length (out_arm w c k buf m).writes ≤ 3
unfolding out_arm
out_few w c k buf m = go (may_arm w k c.slot)
  where
    go : (b : Bool) → length (out_arm_if b c k buf m).writes ≤ 3
    go false = omega arith
    go true = out_armed_few (out_next c).arm (out_next c).rest k c.offset buf m

out_armed_flight : (a : Option Arm) (c : OutCounters) (k off : ℕ) (buf m : List ℕ) → k < 2 → (out_armed a c k off buf m).inflight ≤ 2
out_armed_flight None c k off buf m h = omega arith
out_armed_flight (Some a) c k off buf m h = omega arith

pub out_flight : (w : ℕ) (c : OutCounters) (k : ℕ) (buf m : List ℕ) → k ≤ 2 → (out_arm w c k buf m).inflight ≤ 2
unfolding out_arm
out_flight w c k buf m h = go (may_arm w k c.slot) (may_flight w k c.slot)
  where
    go : (b : Bool) → (b ≡ true → k < 2) → (out_arm_if b c k buf m).inflight ≤ 2
    go false f = h
    go true f = out_armed_flight (out_next c).arm (out_next c).rest k c.offset buf m (f refl)

out_armed_packets : (a : Option Arm) (c : OutCounters) (k off : ℕ) (buf m : List ℕ) → (out_armed a c k off buf m).packets ≡ c
out_armed_packets None c k off buf m = refl
out_armed_packets (Some a) c k off buf m = refl

-- Offset and rest together stay as they are.
pub out_arm_sum : (w : ℕ) (c : OutCounters) (k : ℕ) (buf m : List ℕ) → (out_arm w c k buf m).packets.offset + (out_arm w c k buf m).packets.remain ≡ c.offset + c.remain
unfolding out_arm
out_arm_sum w c k buf m = go (may_arm w k c.slot)
  where
    go : (b : Bool) → (out_arm_if b c k buf m).packets.offset + (out_arm_if b c k buf m).packets.remain ≡ c.offset + c.remain
    go false = refl
    go true = rw (out_armed_packets (out_next c).arm (out_next c).rest k c.offset buf m) (out_sum c)

out_armed_room : (a : Option Arm) (c : OutCounters) (k off : ℕ) (buf m : List ℕ) → length (out_armed a c k off buf m).memory ≡ length m
out_armed_room None c k off buf m = refl
out_armed_room (Some a) c k off buf m = length-sets m (slot_address a.slot) (take a.length (drop off buf))

pub out_room : (w : ℕ) (c : OutCounters) (k : ℕ) (buf m : List ℕ) → length (out_arm w c k buf m).memory ≡ length m
unfolding out_arm
out_room w c k buf m = go (may_arm w k c.slot)
  where
    go : (b : Bool) → length (out_arm_if b c k buf m).memory ≡ length m
    go false = refl
    go true = out_armed_room (out_next c).arm (out_next c).rest k c.offset buf m

module _ (w : ℕ) (c : OutCounters) (k : ℕ) (buf m : List ℕ) where
  pub out_two_few : length (out_arm_two w c k buf m).writes ≤ 6
  unfolding out_arm_two
  out_two_few =
      let g = out_arm w c k buf m in
      simp length-append (omega (arith, out_few w c k buf m, out_few w g.packets g.inflight buf g.memory))

  pub out_two_flight : k ≤ 2 → (out_arm_two w c k buf m).inflight ≤ 2
  unfolding out_arm_two
  out_two_flight h = let g = out_arm w c k buf m in out_flight w g.packets g.inflight buf g.memory (out_flight w c k buf m h)

  pub out_two_sum : (out_arm_two w c k buf m).packets.offset + (out_arm_two w c k buf m).packets.remain ≡ c.offset + c.remain
  unfolding out_arm_two
  out_two_sum = let g = out_arm w c k buf m in out_arm_sum w g.packets g.inflight buf g.memory ∙ out_arm_sum w c k buf m

  pub out_two_room : length (out_arm_two w c k buf m).memory ≡ length m
  unfolding out_arm_two
  out_two_room = let g = out_arm w c k buf m in out_room w g.packets g.inflight buf g.memory ∙ out_room w c k buf m

-- ---- retiring

in_taken_room : (b : Bool) (n : ℕ) (c : InDepacketiser) (k : ℕ) (buf m : List ℕ) → length (in_taken b n c k buf m).buffer ≡ length buf
in_taken_room true n c k buf m = refl
in_taken_room false n c k buf m = length-sets buf c.offset (take (in_retire c n).count (drop (slot_address c.parity) m))

in_taken_sum : (b : Bool) (n : ℕ) (c : InDepacketiser) (k : ℕ) (buf m : List ℕ) → (in_taken b n c k buf m).packets.offset + (in_taken b n c k buf m).packets.remain ≡ c.offset + c.remain
in_taken_sum true n c k buf m = refl
in_taken_sum false n c k buf m = retire_sum c n

in_taken_flight : (b : Bool) (n : ℕ) (c : InDepacketiser) (k : ℕ) (buf m : List ℕ) → (in_taken b n c k buf m).inflight ≤ k
in_taken_flight true n c k buf m = omega arith
in_taken_flight false n c k buf m = omega arith

-- The buffer keeps its length, offset and rest their sum, and no more are in flight.
pub record Retires (c : InDepacketiser) (k : ℕ) (buf : List ℕ) (g : InRetiring) : Type 0 where
  pub room : length g.buffer ≡ length buf
  pub sum : g.packets.offset + g.packets.remain ≡ c.offset + c.remain
  pub flight : g.inflight ≤ k

pub in_retires : (w : ℕ) (c : InDepacketiser) (k : ℕ) (buf m : List ℕ) → Retires c k buf (in_retire_one w c k buf m)
unfolding in_retire_one
in_retires w c k buf m = go (ltb 0 k && full w c.parity) (length_in w c.parity)
  where
    go : (b : Bool) (n : ℕ) → Retires c k buf (in_retire_if b n c k buf m)
    go false n = record { room = refl; sum = refl; flight = omega arith }
    go true n = record { room = in_taken_room (ltb 64 n) n c k buf m; sum = in_taken_sum (ltb 64 n) n c k buf m; flight = in_taken_flight (ltb 64 n) n c k buf m }

pub out_retires : (w : ℕ) (s : Bool) (k : ℕ) → (out_retire_one w s k).inflight ≤ k
unfolding out_retire_one
out_retires w s k = go (ltb 0 k && not (full w s))
  where
    go : (b : Bool) → (out_retire_if b s k).inflight ≤ k
    go false = omega arith
    go true = omega arith

pub pos : (n : ℕ) → (n ≡ 0 → ⊥) → 0 < n
pos n f = omega arith
