-- Reading: "refuses with 25 an empty input, an unknown PID or wrong check nibble, then 26 a length wrong for the PID, then 27 a wrong CRC".
use Rattle.std.specs.Prelude.{◌≡◌, Option, Some, None, Result, Ok, Err, cond, ◌&&◌, List, [], ◌∷◌, ℕ, suc, ◌+◌, ◌-◌, ◌*◌, ◌/◌, ◌%◌, eqb, leb, length, take, get_or}
use Rattle.packet.specs.Crc.{crc16_of}
use Rattle.packet.specs.Packet.{Packet, token, sof, payload, handshake, checked, kind_of}
use Rattle.packet.specs.Reply.{Reply, result, number}
use Rattle.packet.specs.Refusal.{number_of}
use Rattle.packet.specs.declared.refusal.Refusal.{Refusal}
use Rattle.packet.specs.declared.refusal.Refusal.TheVariants.{Length, Crc}
use Rattle.packet.specs.declared.packet.Kind.{Kind}
use Rattle.packet.specs.declared.packet.Kind.TheVariants.{Token as token_kind, Sof as sof_kind, Data as data_kind, Handshake as handshake_kind}
use Rattle.packet.specs.declared.reader.Reading.{Reading}
use Rattle.packet.specs.declared.reader.Reading.TheVariants.{Token, Sof, Data, Handshake}

-- The two bytes from i on as a number.
abbrev pub word_at : List ℕ → ℕ → ℕ
word_at l i = get_or l i 0 + 256 * get_or l (suc i) 0

-- The eleven bits of two bytes, if their CRC5 is right.
abbrev pub eleven_in : List ℕ → Result ℕ Refusal
eleven_in l = cond (eqb (length l) 2) (cond (eqb (word_at l 0) (checked (word_at l 0 % 2048))) (Ok (word_at l 0 % 2048)) (Err Crc)) (Err Length)

-- What two bytes after a PID say, if their CRC5 is right.
abbrev pub eleven_of : List ℕ → Packet → Reply Packet
eleven_of l p = cond (eqb (length l) 2) (cond (eqb (word_at l 0) (checked (word_at l 0 % 2048))) (result p) (number 27)) (number 26)

-- What follows a PID byte: tokens are 3 bytes in all, data 3 to 67, handshakes 1.
abbrev pub read_rest : Kind → List ℕ → Reply Packet
read_rest (token_kind k) l = eleven_of l (token k (word_at l 0 % 128) (word_at l 0 / 128 % 16))
read_rest sof_kind l = eleven_of l (sof (word_at l 0 % 2048))
read_rest (data_kind b) l =
    cond (leb 2 (length l) && leb (length l) 66)
    (cond (eqb (word_at l (length l - 2)) (crc16_of (take (length l - 2) l))) (result (payload b (take (length l - 2) l))) (number 27)) (number 26)
read_rest (handshake_kind h) l = cond (eqb (length l) 0) (result (handshake h)) (number 26)

-- "an unknown PID or wrong check nibble", else what the rest says.
abbrev pub read_kind : Option Kind → List ℕ → Reply Packet
read_kind (Some k) l = read_rest k l
read_kind None l = number 25

-- The reading of bytes, or a number.
unfoldable pub read_of : List ℕ → Reply Packet
read_of [] = number 25
read_of (x ∷ l) = read_kind (kind_of x) l

-- The bytes of a data packet's reading.
abbrev pub data_in : Reply Packet → List ℕ
data_in (result (payload b d)) = d
data_in (result (token k a e)) = []
data_in (result (sof f)) = []
data_in (result (handshake h)) = []
data_in (number n) = []

-- The reader's answer in these terms, with the data that it hands out apart.
abbrev pub read_reply : Result Reading Refusal → List ℕ → Reply Packet
read_reply (Ok (Token k a e)) d = result (token k a e)
read_reply (Ok (Sof f)) d = result (sof f)
read_reply (Ok (Data b)) d = result (payload b d)
read_reply (Ok (Handshake h)) d = result (handshake h)
read_reply (Err why) d = number (number_of why)

-- What was answered is the reading.
abbrev pub Answers : Reply Packet → Result Reading Refusal → Type 0
Answers y r = read_reply r (data_in y) ≡ y
