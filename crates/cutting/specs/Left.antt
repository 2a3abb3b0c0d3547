-- The packets that are still to come from counters, as `next_packet` hands them out one at a time.
use Rattle.std.specs.Prelude.{◌≡◌, true, false, List, [], ◌∷◌, ℕ, ◌+◌, ◌≤◌, length, take, drop, None, Some}
use Rattle.cutting.specs.Cut.{Packet, packet}
use Rattle.cutting.specs.Counters.{out_next, in_next}
use Rattle.cutting.specs.declared.packetiser.Arm.{Arm}
use Rattle.cutting.specs.declared.packetiser.OutCounters.{OutCounters}
use Rattle.cutting.specs.declared.packetiser.InPacketiser.{InPacketiser}

-- OUT: each packet's bytes are those of the buffer from the offset on, and lie within it.
pub data OutLeft (buf : List ℕ) : OutCounters → List (Packet (List ℕ)) → Type 0 where
  stop : {c : OutCounters} → (out_next c).arm ≡ None → OutLeft buf c []
  go : {c : OutCounters} {ks : List (Packet (List ℕ))} (a : Arm) → (out_next c).arm ≡ Some a → a.length ≤ 64 → c.offset + a.length ≤ length buf
      → OutLeft buf (out_next c).rest ks → OutLeft buf c (packet a.slot a.pid a.last (take a.length (drop c.offset buf)) ∷ ks)

-- IN: each slot with the length that it is armed with.
pub data InLeft : InPacketiser → List (Packet ℕ) → Type 0 where
  stop_in : {c : InPacketiser} → (in_next c).arm ≡ None → InLeft c []
  go_in : {c : InPacketiser} {ks : List (Packet ℕ)} (a : Arm) → (in_next c).arm ≡ Some a → InLeft (in_next c).rest ks → InLeft c (packet a.slot a.pid a.last a.length ∷ ks)

-- A marked packet has none after it.
abbrev pub Ends : {A : Type 0} → List (Packet A) → Type 0
Ends [] = Unit {0}
Ends (packet s b true l ∷ ks) = ks ≡ []
Ends (packet s b false l ∷ ks) = Ends ks
