-- What the driver's own functions of arming and retiring are held to.
use Rattle.std.specs.Prelude.{◌≡◌, ℕ, true, false, List}
use Rattle.cutting.specs.declared.depacketiser.InDepacketiser.{InDepacketiser}
use Rattle.transfers.specs.declared.arming.InArmed.{InArmed}
use Rattle.transfers.specs.declared.arming.OutArmed.{OutArmed}
use Rattle.transfers.specs.declared.arming.OutArmedTwo.{OutArmedTwo}
use Rattle.transfers.specs.declared.retiring.InRetired.{InRetired}
use Rattle.transfers.specs.declared.log.Log.{Log}
use Rattle.transfers.specs.Puts.{Puts}
use Rattle.transfers.specs.Arming.{InArming, OutArming, OutArmings}
use Rattle.transfers.specs.Retiring.{InRetiring}

-- A function armed an IN slot as defined: counters, count in flight, and log.
pub record ArmsIn (g : InArming) (l : Log) (r : InArmed) (l' : Log) : Type 0 where
  pub packets : r.packets ≡ g.packets
  pub inflight : r.inflight ≡ g.inflight
  pub log : Puts l g.writes l'

-- A function armed an OUT slot as defined: the same, packet memory, and the packet.
pub record ArmsOut (g : OutArming) (l : Log) (r : OutArmed) (m' : List ℕ) (l' : Log) : Type 0 where
  pub packets : r.packets ≡ g.packets
  pub inflight : r.inflight ≡ g.inflight
  pub arm : r.arm ≡ g.arm
  pub memory : m' ≡ g.memory
  pub log : Puts l g.writes l'

-- The same for up to two.
pub record ArmsOutTwo (g : OutArmings) (l : Log) (r : OutArmedTwo) (m' : List ℕ) (l' : Log) : Type 0 where
  pub packets : r.packets ≡ g.packets
  pub inflight : r.inflight ≡ g.inflight
  pub first : r.first ≡ g.first
  pub second : r.second ≡ g.second
  pub memory : m' ≡ g.memory
  pub log : Puts l g.writes l'

-- A function retired an IN slot as defined: counters, count in flight, and buffer.
pub record RetiresIn (g : InRetiring) (buf' : List ℕ) (r : InRetired) : Type 0 where
  pub long : g.long ≡ false
  pub packets : r.packets ≡ g.packets
  pub inflight : r.inflight ≡ g.inflight
  pub buffer : buf' ≡ g.buffer

-- The slot is too long: the counters and the buffer stay.
pub record TooLong (c : InDepacketiser) (g : InRetiring) (buf' : List ℕ) : Type 0 where
  pub long : g.long ≡ true
  pub packets : g.packets ≡ c
  pub buffer : buf' ≡ g.buffer
