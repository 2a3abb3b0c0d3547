-- Arming (rp2040.rs, `prepare`): "At most two are in flight"; a slot is armed only where it isn't available.
use Rattle.std.specs.Prelude.{ℕ, ◌+◌, Bool, true, false, not, ◌&&◌, List, [], ◌++◌, take, drop, nat_lt, None, Option, Some}
use Rattle.std.proofs.lemmas.List.Edits.{sets}
use Rattle.cutting.specs.declared.packetiser.InPacketiser.{InPacketiser}
use Rattle.cutting.specs.declared.packetiser.OutCounters.{OutCounters}
use Rattle.cutting.specs.Counters.{in_next, out_next}
use Rattle.transfers.specs.Memory.{slot_address}
use Rattle.transfers.specs.Sample.{available}
use Rattle.transfers.specs.Log.{Write}
use Rattle.transfers.specs.Writes.{arm_writes}
use Rattle.cutting.specs.declared.packetiser.Arm.{Arm}

-- Whether a slot may be armed, with k in flight and EP_BUFFER_CONTROL as sampled.
abbrev pub may_arm : ℕ → ℕ → Bool → Bool
may_arm w k s = nat_lt k 2 && not (available w s)

-- ---- IN

-- What arming an IN slot leaves: the counters, how many are in flight, and the writes.
pub record InArming : Type 0 where
  pub packets : InPacketiser
  pub inflight : ℕ
  pub writes : List Write

-- What `next_packet` answered is armed.
abbrev pub in_armed : Option Arm → InPacketiser → ℕ → InArming
in_armed None c k = record { packets = c; inflight = k; writes = [] }
in_armed (Some a) c k = record { packets = c; inflight = k + 1; writes = arm_writes false a }

-- Only a slot that may be armed is.
abbrev pub in_arm_if : Bool → InPacketiser → ℕ → InArming
in_arm_if false c k = record { packets = c; inflight = k; writes = [] }
in_arm_if true c k = in_armed (in_next c).arm (in_next c).rest k

-- One slot, by the word of EP_BUFFER_CONTROL.
unfoldable pub in_arm : ℕ → InPacketiser → ℕ → InArming
in_arm w c k = in_arm_if (may_arm w k c.slot) c k

-- "arm up to two"
unfoldable pub in_arm_two : ℕ → InPacketiser → ℕ → InArming
in_arm_two w c k =
    let g = in_arm w c k in
    let h = in_arm w g.packets g.inflight in
    record { packets = h.packets; inflight = h.inflight; writes = g.writes ++ h.writes }

-- ---- OUT

-- What arming an OUT slot leaves: the same, packet memory, and the packet.
pub record OutArming : Type 0 where
  pub packets : OutCounters
  pub inflight : ℕ
  pub writes : List Write
  pub memory : List ℕ
  pub arm : Option Arm

-- Nothing is armed, and all stays.
abbrev pub out_kept : OutCounters → ℕ → List ℕ → OutArming
out_kept c k m = record { packets = c; inflight = k; writes = []; memory = m; arm = None }

-- "Sending copies the part of the caller's buffer from the offset on into a slot."
abbrev pub out_armed : Option Arm → OutCounters → ℕ → ℕ → List ℕ → List ℕ → OutArming
out_armed None c k off buf m = out_kept c k m
out_armed (Some a) c k off buf m =
    record { packets = c; inflight = k + 1; writes = arm_writes true a; memory = sets m (slot_address a.slot) (take a.length (drop off buf)); arm = Some a }

-- Only a slot that may be armed is.
abbrev pub out_arm_if : Bool → OutCounters → ℕ → List ℕ → List ℕ → OutArming
out_arm_if false c k buf m = out_kept c k m
out_arm_if true c k buf m = out_armed (out_next c).arm (out_next c).rest k c.offset buf m

-- One slot, by the word of EP_BUFFER_CONTROL.
unfoldable pub out_arm : ℕ → OutCounters → ℕ → List ℕ → List ℕ → OutArming
out_arm w c k buf m = out_arm_if (may_arm w k c.slot) c k buf m

-- What arming up to two leaves.
pub record OutArmings : Type 0 where
  pub packets : OutCounters
  pub inflight : ℕ
  pub writes : List Write
  pub memory : List ℕ
  pub first : Option Arm
  pub second : Option Arm

-- "arm up to two"
unfoldable pub out_arm_two : ℕ → OutCounters → ℕ → List ℕ → List ℕ → OutArmings
out_arm_two w c k buf m =
    let g = out_arm w c k buf m in
    let h = out_arm w g.packets g.inflight buf g.memory in
    record { packets = h.packets; inflight = h.inflight; writes = g.writes ++ h.writes; memory = h.memory; first = g.arm; second = h.arm }
