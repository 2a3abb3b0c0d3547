-- Packets and their bytes (USB 2.0 sections 8.3 and 8.4).
use Rattle.std.specs.Prelude.{Option, Some, None, Bool, true, false, cond, ◌&&◌, List, [], ◌∷◌, ◌++◌, ℕ, ◌+◌, ◌-◌, ◌*◌, ◌/◌, ◌%◌, ◌<◌, eqb, leb, length}
use Rattle.packet.specs.Crc.{crc5_of, crc16_of}
use Rattle.packet.specs.declared.packet.Token.{Token}
use Rattle.packet.specs.declared.packet.Token.TheVariants.{Out, In, Setup}
use Rattle.packet.specs.declared.packet.Handshake.{Handshake}
use Rattle.packet.specs.declared.packet.Handshake.TheVariants.{Ack, Nak, Stall}
use Rattle.packet.specs.declared.packet.Kind.{Kind}
use Rattle.packet.specs.declared.packet.Kind.TheVariants.{Token as token_kind, Sof as sof_kind, Data as data_kind, Handshake as handshake_kind}

-- A packet: a token's address and endpoint, SOF's frame number, DATA0 (false) or DATA1 with its bytes, or a handshake.
pub data Packet : Type 0 where
  token : Token → ℕ → ℕ → Packet
  sof : ℕ → Packet
  payload : Bool → List ℕ → Packet
  handshake : Handshake → Packet

-- Table 8-1: OUT 0001B, IN 1001B, SETUP 1101B.
abbrev pub token_pid : Token → ℕ
token_pid Out = 1
token_pid In = 9
token_pid Setup = 13

-- SOF 0101B.
abbrev pub sof_pid : ℕ
sof_pid = 5

-- DATA0 0011B, DATA1 1011B.
abbrev pub data_pid : Bool → ℕ
data_pid false = 3
data_pid true = 11

-- ACK 0010B, NAK 1010B, STALL 1110B.
abbrev pub handshake_pid : Handshake → ℕ
handshake_pid Ack = 2
handshake_pid Nak = 10
handshake_pid Stall = 14

-- The PID that begins what a byte begins.
abbrev pub pid_of : Kind → ℕ
pid_of (token_kind k) = token_pid k
pid_of sof_kind = sof_pid
pid_of (data_kind b) = data_pid b
pid_of (handshake_kind h) = handshake_pid h

-- "PID byte with its check nibble": the complement of the PID in the high half.
abbrev pub pid_byte : ℕ → ℕ
pid_byte n = n + 16 * (15 - n)

-- Sixteen bits, low byte first.
abbrev pub low : ℕ → List ℕ
low w = w % 256 ∷ w / 256 ∷ []

-- Eleven bits and their CRC5: "CRC5 on tokens".
abbrev pub checked : ℕ → ℕ
checked v = v + 2048 * crc5_of v

-- An address of seven bits and an endpoint of four.
abbrev pub target : ℕ → ℕ → ℕ
target a e = a + 128 * e

-- The bytes of a packet; "CRC16 on data".
unfoldable pub encode : Packet → List ℕ
encode (token k a e) = pid_byte (token_pid k) ∷ low (checked (target a e))
encode (sof f) = pid_byte sof_pid ∷ low (checked f)
encode (payload b d) = pid_byte (data_pid b) ∷ (d ++ low (crc16_of d))
encode (handshake h) = pid_byte (handshake_pid h) ∷ []

-- "a field outside its range": an address above 127, an endpoint above 15, a frame number above 2,047; "data is 0 to 64 bytes".
abbrev pub in_range : Packet → Bool
in_range (token k a e) = leb a 127 && leb e 15
in_range (sof f) = leb f 2047
in_range (payload b d) = leb (length d) 64
in_range (handshake h) = true

-- Every element is a byte.
abbrev pub Bytes : List ℕ → Type 0
Bytes [] = Unit {0}
Bytes (x ∷ l) = (x < 256) × Bytes l

-- What a PID byte begins: "an unknown PID or wrong check nibble" begins nothing.
unfoldable pub kind_of : ℕ → Option Kind
kind_of x =
    cond (eqb x (pid_byte (token_pid Out))) (Some (token_kind Out))
    (cond (eqb x (pid_byte (token_pid In))) (Some (token_kind In))
    (cond (eqb x (pid_byte (token_pid Setup))) (Some (token_kind Setup))
    (cond (eqb x (pid_byte sof_pid)) (Some sof_kind)
    (cond (eqb x (pid_byte (data_pid false))) (Some (data_kind false))
    (cond (eqb x (pid_byte (data_pid true))) (Some (data_kind true))
    (cond (eqb x (pid_byte (handshake_pid Ack))) (Some (handshake_kind Ack))
    (cond (eqb x (pid_byte (handshake_pid Nak))) (Some (handshake_kind Nak))
    (cond (eqb x (pid_byte (handshake_pid Stall))) (Some (handshake_kind Stall)) None))))))))
