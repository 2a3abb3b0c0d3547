-- Which answer each packet and each byte string deserves, in document 02's numbers and USB 2.0's.
use Rattle.std.specs.Prelude.{◌≡◌, Ok, ◌⊎◌, Bool, true, false, cond, ◌||◌, List, [], ◌∷◌, ℕ, ◌+◌, ◌*◌, ◌/◌, ◌%◌, ◌≤◌, ◌<◌, eqb, leb, length, take, drop, get_or}
use Rattle.packet.specs.Crc.{Residual5, Residual16}
use Rattle.packet.specs.Packet.{Packet, token, sof, payload, handshake, encode, Bytes}
use Rattle.packet.specs.Reply.{Reply, result, number}
use Rattle.packet.specs.Reading.{word_at, read_of, data_in, read_reply}
use Rattle.packet.specs.Writing.{write_row}
use Rattle.packet.specs.declared.packet.Token.{Token}
use Rattle.packet.specs.declared.packet.Token.TheVariants.{Out, In, Setup}
use Rattle.packet.specs.declared.packet.Handshake.{Handshake}
use Rattle.packet.specs.declared.reader.Reading.TheVariants.{Token as token_read, Sof as sof_read, Data as data_read, Handshake as handshake_read}

-- The bytes used after n more, "then with 21 lent bytes too few".
abbrev pub room_for : ℕ → ℕ → ℕ → Reply ℕ
room_for n room used = cond (leb (used + n) room) (result (used + n)) (number 21)

-- The PID bytes of packets of three bytes: OUT, IN, SETUP and SOF.
abbrev pub begins3 : ℕ → Bool
begins3 x = eqb x 0xE1 || (eqb x 0x69 || (eqb x 0x2D || eqb x 0xA5))

-- Of packets of 3 to 67 bytes: DATA0 and DATA1.
abbrev pub begins3to67 : ℕ → Bool
begins3to67 x = eqb x 0xC3 || eqb x 0x4B

-- Of packets of one byte: ACK, NAK and STALL.
abbrev pub begins1 : ℕ → Bool
begins1 x = eqb x 0xD2 || (eqb x 0x5A || eqb x 0x1E)

-- A packet exactly where a condition holds, else 27.
abbrev pub PacketOr27 : Type 0 → Reply Packet → Type 0
PacketOr27 C (result p) = C
PacketOr27 C (number n) = (n ≡ 27) × (C → ⊥)

pub record Writes : Type 0 where
  -- "19 a field outside its range"
  pub token19 : (k : Token) (a e room used : ℕ) → (127 < a) ⊎ (15 < e) → write_row (token k a e) room used ≡ number 19
  pub sof19 : (f room used : ℕ) → 2047 < f → write_row (sof f) room used ≡ number 19
  pub data19 : (b : Bool) (d : List ℕ) (room used : ℕ) → 64 < length d → write_row (payload b d) room used ≡ number 19
  -- Every other packet is written where there is room.
  pub token_room : (k : Token) (a e room used : ℕ) → a ≤ 127 → e ≤ 15 → write_row (token k a e) room used ≡ room_for 3 room used
  pub sof_room : (f room used : ℕ) → f ≤ 2047 → write_row (sof f) room used ≡ room_for 3 room used
  pub data_room : (b : Bool) (d : List ℕ) (room used : ℕ) → length d ≤ 64 → write_row (payload b d) room used ≡ room_for (3 + length d) room used
  pub handshake_room : (h : Handshake) (room used : ℕ) → write_row (handshake h) room used ≡ room_for 1 room used
  -- "PID byte with its check nibble", the first of every packet; those of handshakes are `Rows`.
  pub out_first : (a e : ℕ) → get_or (encode (token Out a e)) 0 0 ≡ 0xE1
  pub in_first : (a e : ℕ) → get_or (encode (token In a e)) 0 0 ≡ 0x69
  pub setup_first : (a e : ℕ) → get_or (encode (token Setup a e)) 0 0 ≡ 0x2D
  pub sof_first : (f : ℕ) → get_or (encode (sof f)) 0 0 ≡ 0xA5
  pub data0_first : (d : List ℕ) → get_or (encode (payload false d)) 0 0 ≡ 0xC3
  pub data1_first : (d : List ℕ) → get_or (encode (payload true d)) 0 0 ≡ 0x4B
  -- Where the fields stand, each with its lowest bit first (USB 2.0 section 8.3): the address has the seven bits after the PID byte, the endpoint the next four;
  -- a frame number has all eleven; data comes right after the PID byte.
  pub address_bits : (k : Token) (a e : ℕ) → a ≤ 127 → e ≤ 15 → get_or (encode (token k a e)) 1 0 % 128 ≡ a
  pub endpoint_bits : (k : Token) (a e : ℕ) → a ≤ 127 → e ≤ 15 → get_or (encode (token k a e)) 1 0 / 128 + 2 * (get_or (encode (token k a e)) 2 0 % 8) ≡ e
  pub frame_bits : (f : ℕ) → f ≤ 2047 → get_or (encode (sof f)) 1 0 + 256 * (get_or (encode (sof f)) 2 0 % 8) ≡ f
  pub data_bytes : (b : Bool) (d : List ℕ) → take (length d) (drop 1 (encode (payload b d))) ≡ d

pub record Reads : Type 0 where
  -- "25 an empty input, an unknown PID or wrong check nibble"
  pub empty25 : read_of [] ≡ number 25
  pub other25 : (x : ℕ) (l : List ℕ) → begins3 x ≡ false → begins3to67 x ≡ false → begins1 x ≡ false → read_of (x ∷ l) ≡ number 25
  -- "then 26 a length wrong for the PID": l is what comes after the PID byte.
  pub token26 : (x : ℕ) (l : List ℕ) → begins3 x ≡ true → (length l ≡ 2 → ⊥) → read_of (x ∷ l) ≡ number 26
  pub data26 : (x : ℕ) (l : List ℕ) → begins3to67 x ≡ true → (length l < 2) ⊎ (66 < length l) → read_of (x ∷ l) ≡ number 26
  pub handshake26 : (x : ℕ) (l : List ℕ) → begins1 x ≡ true → (length l ≡ 0 → ⊥) → read_of (x ∷ l) ≡ number 26
  -- "then 27 a wrong CRC": exactly where the residual isn't USB 2.0's; a handshake has no CRC.
  pub token27 : (x : ℕ) (l : List ℕ) → Bytes l → begins3 x ≡ true → length l ≡ 2 → PacketOr27 (Residual5 (word_at l 0)) (read_of (x ∷ l))
  pub data27 : (x : ℕ) (l : List ℕ) → Bytes l → begins3to67 x ≡ true → 2 ≤ length l → length l ≤ 66 → PacketOr27 (Residual16 l) (read_of (x ∷ l))
  -- What the reader's answer means: a token's address, then its endpoint; `true` is DATA1, with the bytes that `data_of` hands out.
  pub token_meant : (k : Token) (a e : ℕ) (d : List ℕ) → read_reply (Ok (token_read k a e)) d ≡ result (token k a e)
  pub sof_meant : (f : ℕ) (d : List ℕ) → read_reply (Ok (sof_read f)) d ≡ result (sof f)
  pub data_meant : (b : Bool) (d : List ℕ) → (read_reply (Ok (data_read b)) d ≡ result (payload b d)) × (data_in (result (payload b d)) ≡ d)
  pub handshake_meant : (h : Handshake) (d : List ℕ) → read_reply (Ok (handshake_read h)) d ≡ result (handshake h)
