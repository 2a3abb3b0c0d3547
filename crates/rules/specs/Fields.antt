-- The registers that the driver writes, by the datasheet's fields (RP2040 datasheet 4.1.4; BUFFER_CONTROL and EP_CONTROL 4.1.2.5).
-- A register's word is what the writes performed in order leave; a field is bits of that word.
use Rattle.std.specs.Prelude.{Bool, true, false, cond, List, [], ◌∷◌, ℕ, eqb}
use Rattle.transfers.specs.Log.{Write, wr, masked}
use Rattle.transfers.specs.Registers.{field, bit}

-- ---- performing

-- The word of register q, `old` before, after writes in order.
abbrev pub word_after : ℕ → ℕ → List Write → ℕ
word_after q old [] = old
word_after q old (wr r m v ∷ ws) = word_after q (cond (eqb q r) (masked old m v) old) ws

-- ---- BUFFER_CONTROL: slot 0 has bits 0 to 15, slot 1 bits 16 to 31

-- A slot's half: how many bytes, whether the controller may use it, DATA0 or DATA1, the last buffer of a transfer, whether it holds a packet.
pub record BufferControl : Type 0 where
  pub LENGTH : ℕ
  pub AVAILABLE : Bool
  pub PID : Bool
  pub LAST : Bool
  pub FULL : Bool

-- The half of slot 0 (false) or 1 (true).
abbrev pub read_buffer_control : ℕ → Bool → BufferControl
read_buffer_control w false = record { LENGTH = field 0 10 w; AVAILABLE = bit 10 w; PID = bit 13 w; LAST = bit 14 w; FULL = bit 15 w }
read_buffer_control w true = record { LENGTH = field 16 10 w; AVAILABLE = bit 26 w; PID = bit 29 w; LAST = bit 30 w; FULL = bit 31 w }

-- ---- EP_CONTROL and EPX_CONTROL

-- What an endpoint is, and where its buffer lies.
pub record EndpointControl : Type 0 where
  pub ENABLE : Bool
  pub DOUBLE_BUFFERED : Bool
  pub INTERRUPT_PER_BUFF : Bool
  pub INTERRUPT_PER_DOUBLE_BUFF : Bool
  pub ENDPOINT_TYPE : ℕ
  pub HOST_POLL_INTERVAL : ℕ
  pub BUFFER_ADDRESS : ℕ

-- ENDPOINT_TYPE: 0 control, 1 isochronous, 2 bulk, 3 interrupt.
abbrev pub read_endpoint_control : ℕ → EndpointControl
read_endpoint_control w = record {
  ENABLE = bit 31 w;
  DOUBLE_BUFFERED = bit 30 w;
  INTERRUPT_PER_BUFF = bit 29 w;
  INTERRUPT_PER_DOUBLE_BUFF = bit 28 w;
  ENDPOINT_TYPE = field 26 2 w;
  HOST_POLL_INTERVAL = field 16 10 w;
  BUFFER_ADDRESS = field 0 16 w;
}

-- ---- ADDR_ENDP and HOST_ADDR_ENDP

-- Whom a transaction is for.
pub record AddrEndp : Type 0 where
  pub ADDRESS : ℕ
  pub ENDPOINT : ℕ
  pub INTEP_DIR : Bool
  pub INTEP_PREAMBLE : Bool

-- INTEP_DIR 0 is IN.
abbrev pub read_addr_endp : ℕ → AddrEndp
read_addr_endp w = record { ADDRESS = field 0 7 w; ENDPOINT = field 16 4 w; INTEP_DIR = bit 25 w; INTEP_PREAMBLE = bit 26 w }

-- ---- SIE_CTRL

-- What transaction is started.
pub record SieCtrl : Type 0 where
  pub START_TRANS : Bool
  pub SEND_SETUP : Bool
  pub SEND_DATA : Bool
  pub RECEIVE_DATA : Bool
  pub PREAMBLE_EN : Bool

-- START_TRANS starts it.
abbrev pub read_sie_ctrl : ℕ → SieCtrl
read_sie_ctrl w = record { START_TRANS = bit 0 w; SEND_SETUP = bit 1 w; SEND_DATA = bit 2 w; RECEIVE_DATA = bit 3 w; PREAMBLE_EN = bit 6 w }
