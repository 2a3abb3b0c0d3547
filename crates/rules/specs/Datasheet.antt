-- What the driver writes decodes, by the datasheet's fields, to the packet, the endpoint and the pipe meant.
use Rattle.std.specs.Prelude.{◌≡◌, Bool, true, false, not, cond, List, [], ◌∷◌, ℕ, ◌+◌, ◌*◌, ◌≤◌, ◌<◌, min, eqb, leb, length, Ok, Option}
use Rattle.pool.specs.declared.pipe.PipeNumber.{PipeNumber}
use Rattle.cutting.specs.declared.transfer_type.TransferType.{TransferType}
use Rattle.cutting.specs.declared.packetiser.Arm.{Arm}
use Rattle.transfers.specs.declared.host_controller.DataPhase.{DataPhase}
use Rattle.transfers.specs.declared.host_controller.TransferExtras.{TransferExtras}
use Rattle.transfers.specs.declared.host_controller.TransferExtras.TheVariants.{Normal, WithPreamble}
use Rattle.transfers.specs.declared.wire.SetupPacket.{SetupPacket}
use Rattle.transfers.specs.declared.wire.Direction.{Direction}
use Rattle.transfers.specs.declared.wire.Direction.TheVariants.{In, Out}
use Rattle.transfers.specs.declared.writes.Target.{Target}
use Rattle.transfers.specs.declared.pipes.PipeSample.{PipeSample}
use Rattle.transfers.specs.declared.driver.Driver.{Driver}
use Rattle.transfers.specs.Log.{Write, wr}
use Rattle.transfers.specs.Registers.{field}
use Rattle.transfers.specs.Writes.{head_writes, arm_writes, go_writes}
use Rattle.transfers.specs.Calls.{begin_control_of, begin_bulk_in_of, begin_bulk_out_of}
use Rattle.transfers.specs.Pipes.{opening, polling}
use Rattle.transfers.specs.Isolation.{held_of}
use Rattle.rules.specs.Fields.{word_after, read_buffer_control, read_endpoint_control, read_addr_endp, SieCtrl, read_sie_ctrl}
use Rattle.transfers.specs.declared.driver.Run.{Run}
use Rattle.transfers.specs.declared.pipes.Poll.TheVariants.{Packet as polled_packet}

-- A slot is armed with a packet (OUT packets are FULL, IN slots are not): its half says so and the other half stays. AVAILABLE comes last (4.1.2.5.1), after "A delay of 12 cycles".
pub record ArmsSlot (full : Bool) (a : Arm) (old : ℕ) (ws : List Write) : Type 0 where
  pub half : read_buffer_control (word_after 0x5010_0080 old ws) a.slot ≡ record { LENGTH = a.length; AVAILABLE = true; PID = a.pid; LAST = a.last; FULL = full }
  pub other : read_buffer_control (word_after 0x5010_0080 old ws) (not a.slot) ≡ read_buffer_control old (not a.slot)
  pub first : Write
  pub last : Write
  pub order : ws ≡ first ∷ wr 0 0 12 ∷ last ∷ []
  pub before : (read_buffer_control (word_after 0x5010_0080 old (first ∷ [])) a.slot).AVAILABLE ≡ (read_buffer_control old a.slot).AVAILABLE

-- ENDPOINT_TYPE of a transfer: endpoint 0 is control, the others are bulk.
abbrev pub type_of : ℕ → ℕ
type_of e = cond (eqb e 0) 0 2

-- A stage of n bytes at an endpoint and packet size p: its type, both slots used where n reaches p, the slots at 0x180.
pub record PointsAt (address endpoint p n old : ℕ) (ws : List Write) : Type 0 where
  pub epx : read_endpoint_control (word_after 0x5010_0100 old ws)
      ≡ record { ENABLE = true; DOUBLE_BUFFERED = leb p n; INTERRUPT_PER_BUFF = leb p n; INTERRUPT_PER_DOUBLE_BUFF = false; ENDPOINT_TYPE = type_of endpoint; HOST_POLL_INTERVAL = 0; BUFFER_ADDRESS = 0x180 }
  pub whom : read_addr_endp (word_after 0x5011_0000 old ws) ≡ record { ADDRESS = address; ENDPOINT = endpoint; INTEP_DIR = false; INTEP_PREAMBLE = false }

-- RECEIVE_DATA for IN, SEND_DATA for OUT; no SETUP; START_TRANS.
abbrev pub start_of : Direction → Bool → SieCtrl
start_of In preamble = record { START_TRANS = true; SEND_SETUP = false; SEND_DATA = false; RECEIVE_DATA = true; PREAMBLE_EN = preamble }
start_of Out preamble = record { START_TRANS = true; SEND_SETUP = false; SEND_DATA = true; RECEIVE_DATA = false; PREAMBLE_EN = preamble }

-- The transaction starts. "PREAMBLE_EN is written only by SETUP, so a bulk transfer keeps the last one."
pub record Starts (d : Direction) (old : ℕ) (ws : List Write) : Type 0 where
  pub going : read_sie_ctrl (word_after 0x5011_004C old ws) ≡ start_of d (read_sie_ctrl old).PREAMBLE_EN

-- A low-speed device behind a hub is reached with a preamble.
abbrev pub behind_hub : TransferExtras → Bool
behind_hub Normal = false
behind_hub WithPreamble = true

-- SETUP (USB 2.0 9.3, table 9-2): its eight bytes in SETUP_PACKET_LOW and HIGH, low byte first, to endpoint 0 of the address; SEND_SETUP, then START_TRANS.
pub record SendsSetup (a : ℕ) (x : TransferExtras) (s : SetupPacket) (old : ℕ) (ws : List Write) : Type 0 where
  pub bmRequestType : field 0 8 (word_after 0x5010_0000 old ws) ≡ s.bmRequestType
  pub bRequest : field 8 8 (word_after 0x5010_0000 old ws) ≡ s.bRequest
  pub wValue : field 16 16 (word_after 0x5010_0000 old ws) ≡ s.wValue
  pub wIndex : field 0 16 (word_after 0x5010_0004 old ws) ≡ s.wIndex
  pub wLength : field 16 16 (word_after 0x5010_0004 old ws) ≡ s.wLength
  pub whom : read_addr_endp (word_after 0x5011_0000 old ws) ≡ record { ADDRESS = a; ENDPOINT = 0; INTEP_DIR = false; INTEP_PREAMBLE = false }
  pub going : read_sie_ctrl (word_after 0x5011_004C old ws) ≡ record { START_TRANS = true; SEND_SETUP = true; SEND_DATA = false; RECEIVE_DATA = false; PREAMBLE_EN = behind_hub x }

-- A pipe's own BUFFER_CONTROL is armed IN with its packet size and toggle; its one packet is marked.
pub record ArmsPipe (n : ℕ) (toggle : Bool) (size old : ℕ) (ws : List Write) : Type 0 where
  pub half : read_buffer_control (word_after (0x5010_0080 + 8 * n) old ws) false ≡ record { LENGTH = size; AVAILABLE = true; PID = toggle; LAST = true; FULL = false }

-- Pipe n is opened: whom it polls (IN), "poll interval min(interval, 9)", "Buffer of pipe n at 0x200 + 128 × n".
pub record OpensPipe (n address : ℕ) (extras : TransferExtras) (endpoint size interval old : ℕ) (ws : List Write) : Type 0 where
  pub whom : read_addr_endp (word_after (0x5011_0000 + 4 * n) old ws) ≡ record { ADDRESS = address; ENDPOINT = endpoint; INTEP_DIR = false; INTEP_PREAMBLE = behind_hub extras }
  pub epc : read_endpoint_control (word_after (0x5010_0000 + 8 * n) old ws)
      ≡ record { ENABLE = true; DOUBLE_BUFFERED = false; INTERRUPT_PER_BUFF = true; INTERRUPT_PER_DOUBLE_BUFF = false; ENDPOINT_TYPE = 3; HOST_POLL_INTERVAL = min interval 9; BUFFER_ADDRESS = 0x200 + 128 * n }
  pub arms : ArmsPipe n false size old ws

-- Whatever the registers hold before.
pub record DatasheetRules : Type 0 where
  -- A packet's arming, OUT and IN.
  pub arms : (full : Bool) (a : Arm) (old : ℕ) → a.length ≤ 64 → ArmsSlot full a old (arm_writes full a)
  -- A stage of any transfer: whom it is for; no slot is available yet; and its start.
  pub points : (t : Target) (n old : ℕ) → t.address ≤ 127 → t.endpoint ≤ 15 → PointsAt t.address t.endpoint t.size n old (head_writes t n)
  pub clear : (t : Target) (n old : ℕ) → word_after 0x5010_0080 old (head_writes t n) ≡ 0
  pub starts : (d : Direction) (old : ℕ) → Starts d old (go_writes d)
  -- The whole log of a begin that is accepted: the caller's address, endpoint and packet size.
  pub bulk_in : (t : Option Run) (a e p : ℕ) (k : TransferType) (b : Bool) (lent m log : List ℕ) (old : ℕ) → let o = begin_bulk_in_of t a e p k b lent m log in
      o.answer ≡ Ok tt → PointsAt a e p (length lent) old o.writes × Starts In old o.writes
  pub bulk_out : (t : Option Run) (a e p : ℕ) (k : TransferType) (b : Bool) (lent m log : List ℕ) (old : ℕ) → let o = begin_bulk_out_of t a e p k b lent m log in
      o.answer ≡ Ok tt → PointsAt a e p (length lent) old o.writes × Starts Out old o.writes
  -- A SETUP's fields are two u8 and three u16.
  pub setup : (t : Option Run) (a : ℕ) (x : TransferExtras) (p : ℕ) (s : SetupPacket) (ph : DataPhase) (lent m log : List ℕ) (old : ℕ)
      → s.bmRequestType < 0x100 → s.bRequest < 0x100 → s.wValue < 0x1_0000 → s.wIndex < 0x1_0000 → s.wLength < 0x1_0000 → let o = begin_control_of t a x p s ph lent m log in
      o.answer ≡ Ok tt → SendsSetup a x s old o.writes
  -- The whole log of an open that answers a pipe: that pipe, and the caller's fields.
  pub opens : (d : Driver) (address : ℕ) (extras : TransferExtras) (endpoint size interval : ℕ) (log : List ℕ) (n : PipeNumber) (old : ℕ) → let o = opening d address extras endpoint size interval log in
      o.answer ≡ Ok n → OpensPipe n.0 address extras endpoint size interval old o.writes
  -- The whole log of a poll that answers a packet: "A packet flips the toggle and arms again."
  pub polls : (d : Driver) (n : PipeNumber) (s : PipeSample) (m log : List ℕ) (old : ℕ) → let o = polling d n s m log in
      let held = held_of d.pipes n in
      held.size ≤ 64 → o.answer ≡ Ok polled_packet → ArmsPipe n.0 (not held.toggle) held.size old o.writes
