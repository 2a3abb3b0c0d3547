-- The blocks of register writes that a transfer is made of (rp2040.rs, `send_setup`, `control_transfer_inner`, `prepare`; RP2040 datasheet 4.1.4).
use Rattle.std.specs.Prelude.{ℕ, ◌+◌, ◌*◌, Bool, true, false, not, List, [], ◌∷◌, ◌==◌, nat_le}
use Rattle.cutting.specs.declared.packetiser.Arm.{Arm}
use Rattle.transfers.specs.declared.host_controller.TransferExtras.{TransferExtras}
use Rattle.transfers.specs.declared.host_controller.TransferExtras.TheVariants.{Normal, WithPreamble}
use Rattle.transfers.specs.declared.wire.SetupPacket.{SetupPacket}
use Rattle.transfers.specs.declared.wire.Direction.{Direction}
use Rattle.transfers.specs.declared.wire.Direction.TheVariants.{In, Out}
use Rattle.transfers.specs.declared.writes.Target.{Target}
use Rattle.transfers.specs.Registers.{setup_low, setup_high, ep_buffer, epx_control, addr_endp, sie_ctrl, sie_status, buff_status, nak_poll, inte, ones, weigh, half}
use Rattle.transfers.specs.Masks.{ending_mask, buff_status_mask}
use Rattle.transfers.specs.Log.{Write, wr, delay}

-- USB 2.0 table 9-2: the SETUP's eight bytes as two words, low byte first.
abbrev pub low_word : SetupPacket → ℕ
low_word s = s.bmRequestType + s.bRequest * 0x100 + s.wValue * 0x1_0000

-- SETUP_PACKET_HIGH: wIndex and wLength.
abbrev pub high_word : SetupPacket → ℕ
high_word s = s.wIndex + s.wLength * 0x1_0000

-- A low-speed device behind a hub (USB 2.0 section 8.6.5).
abbrev pub preamble : TransferExtras → Bool
preamble Normal = false
preamble WithPreamble = true

-- `send_setup` up to its first poll: first the SETUP packet, with the status cleared.
abbrev pub setup_words : SetupPacket → List Write
setup_words s = wr epx_control ones 0x180 ∷ wr ep_buffer ones 0 ∷ wr setup_low ones (low_word s) ∷ wr setup_high ones (high_word s) ∷ wr sie_status ones ones ∷ []

-- ADDR_ENDP, SEND_SETUP with PREAMBLE_EN, the delay, START_TRANS.
abbrev pub setup_start : ℕ → TransferExtras → List Write
setup_start a x = wr addr_endp ones a ∷ wr sie_ctrl 0x4E (2 + weigh (preamble x) 0x40) ∷ delay ∷ wr sie_ctrl 1 1 ∷ []

-- EPX_CONTROL: ENABLE and the buffer's address; from one packet's size on (n ≥ p) DOUBLE_BUFFERED and INTERRUPT_PER_BUFF; ENDPOINT_TYPE bulk.
abbrev pub epx_value : Target → ℕ → ℕ
epx_value t n = 0x8000_0180 + weigh (nat_le t.size n) 0x6000_0000 + weigh (not (t.endpoint == 0)) 0x0800_0000

-- `control_transfer_inner` of n bytes, before its first packet.
unfoldable pub head_writes : Target → ℕ → List Write
head_writes t n =
    wr epx_control ones (epx_value t n) ∷ wr ep_buffer ones 0 ∷ wr sie_status ones ones
    ∷ wr addr_endp ones (t.address + t.endpoint * 0x1_0000) ∷ wr nak_poll ones 0x000A_0010 ∷ []

-- A slot's half of EP_BUFFER_CONTROL: LENGTH, PID, LAST, FULL.
abbrev pub arm_value : Bool → Arm → ℕ
arm_value f a = a.length + weigh a.pid 0x2000 + weigh a.last 0x4000 + weigh f 0x8000

-- `prepare`: the slot's half, the delay, then AVAILABLE. OUT packets are FULL.
unfoldable pub arm_writes : Bool → Arm → List Write
arm_writes f a = wr ep_buffer (half a.slot 0xE3FF) (half a.slot (arm_value f a)) ∷ delay ∷ wr ep_buffer (half a.slot 0x400) (half a.slot 0x400) ∷ []

-- TRANS_COMPLETE and the errors are enabled; from two packets' size on (n ≥ 2p) BUFF_STATUS too.
abbrev pub enables : ℕ → ℕ → ℕ
enables p n = ending_mask + weigh (nat_le (2 * p) n) buff_status_mask

-- The errors and the control pipe's BUFF_STATUS bits are cleared, the stage's interrupts enabled.
unfoldable pub enable_writes : ℕ → ℕ → List Write
enable_writes p n = wr sie_status ones 0xFF00_0000 ∷ wr buff_status ones 3 ∷ wr inte (enables p n) (enables p n) ∷ []

-- RECEIVE_DATA or SEND_DATA.
abbrev pub towards : Direction → ℕ
towards In = 8
towards Out = 4

-- The transaction is started.
unfoldable pub go_writes : Direction → List Write
go_writes d = wr sie_ctrl 0xE (towards d) ∷ delay ∷ wr sie_ctrl 1 1 ∷ []

-- "after writing 0xFF08_0000 to SIE_STATUS .. Else the same SIE_STATUS write is made". TRANS_COMPLETE "is bit 18, and the write has bit 19".
abbrev pub polled : Write
polled = wr sie_status ones 0xFF08_0000

-- "Waiting now enables trans complete and all six error interrupts."
abbrev pub awaits : Write
awaits = wr inte ending_mask ending_mask

-- After a ready poll of a data or status stage.
abbrev pub quiets : List Write
quiets = wr buff_status ones 3 ∷ wr inte ending_mask 0 ∷ []

-- A stage is complete.
abbrev pub completes : Write
completes = wr sie_status ones 0xFF00_0000
