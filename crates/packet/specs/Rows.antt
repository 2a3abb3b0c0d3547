-- Packets and refusals, the smallest of each, as one theorem.
use Rattle.std.specs.Prelude.{◌≡◌, refl, true, false, List, [], ◌∷◌, ◌++◌, ℕ, zero, suc}
use Rattle.packet.specs.Crc.{crc_bits, turned, poly5, poly16, remainder16, crc16_of, crc5_of, entry_of}
use Rattle.packet.specs.Packet.{token, sof, payload, handshake, encode, kind_of}
use Rattle.packet.specs.Reply.{result, number}
use Rattle.packet.specs.Reading.{read_of}
use Rattle.packet.specs.Writing.{write_row}
use Rattle.packet.specs.declared.packet.Token.TheVariants.{Out, In, Setup}
use Rattle.packet.specs.declared.packet.Handshake.TheVariants.{Ack, Nak, Stall}

-- n bytes of 0.
unfoldable pub zeros : ℕ → List ℕ
zeros zero = []
zeros (suc n) = 0 ∷ zeros n

pub record Rows : Type 0 where
  -- "The binary bit pattern that represents this polynomial is 00101B", "1000000000000101B".
  pub polynomial5 : turned 5 0x5 0 ≡ poly5
  pub polynomial16 : turned 16 0x8005 0 ≡ poly16
  -- Each PID written; data of CRC-16/USB's check value.
  pub out : encode (token Out 0x3A 0xA) ≡ 0xE1 ∷ 0x3A ∷ 0x3D ∷ []
  pub input : encode (token In 0x70 4) ≡ 0x69 ∷ 0x70 ∷ 0x72 ∷ []
  pub setup : encode (token Setup 0x15 0xE) ≡ 0x2D ∷ 0x15 ∷ 0xEF ∷ []
  pub frame : encode (sof 1) ≡ 0xA5 ∷ 0x01 ∷ 0xE8 ∷ []
  pub data0 : encode (payload false (0 ∷ 1 ∷ 2 ∷ 3 ∷ [])) ≡ 0xC3 ∷ 0 ∷ 1 ∷ 2 ∷ 3 ∷ 0xEF ∷ 0x7A ∷ []
  pub data1 : encode (payload true []) ≡ 0x4B ∷ 0x00 ∷ 0x00 ∷ []
  pub ack : encode (handshake Ack) ≡ 0xD2 ∷ []
  pub nak : encode (handshake Nak) ≡ 0x5A ∷ []
  pub stall : encode (handshake Stall) ≡ 0x1E ∷ []
  pub check_value : crc16_of (0x31 ∷ 0x32 ∷ 0x33 ∷ 0x34 ∷ 0x35 ∷ 0x36 ∷ 0x37 ∷ 0x38 ∷ 0x39 ∷ []) ≡ 0xB4C8
  -- The table's entries of single bits.
  pub entry_1 : entry_of 1 ≡ 0xC0C1
  pub entry_2 : entry_of 2 ≡ 0xC181
  pub entry_4 : entry_of 4 ≡ 0xC301
  pub entry_8 : entry_of 8 ≡ 0xC601
  pub entry_16 : entry_of 16 ≡ 0xCC01
  pub entry_32 : entry_of 32 ≡ 0xD801
  pub entry_64 : entry_of 64 ≡ 0xF001
  pub entry_128 : entry_of 128 ≡ 0xA001
  -- 25: nothing, a wrong check nibble, PIDs of high speed alone (PING, NYET, DATA2).
  pub empty : read_of [] ≡ number 25
  pub nibble : read_of (0xE2 ∷ []) ≡ number 25
  pub nibble_first : read_of (0xC2 ∷ 0 ∷ []) ≡ number 25
  pub ping : read_of (0xB4 ∷ 0 ∷ 0x10 ∷ []) ≡ number 25
  pub nyet : read_of (0x96 ∷ []) ≡ number 25
  pub data2 : read_of (0x87 ∷ 0 ∷ 0 ∷ []) ≡ number 25
  -- 26, before 27.
  pub short_token : read_of (0xE1 ∷ 0x3A ∷ []) ≡ number 26
  pub long_token : read_of (0xE1 ∷ 0x3A ∷ 0x3D ∷ 0 ∷ []) ≡ number 26
  pub short_frame : read_of (0xA5 ∷ 0x01 ∷ []) ≡ number 26
  pub long_frame : read_of (0xA5 ∷ 0x01 ∷ 0xE8 ∷ 0 ∷ []) ≡ number 26
  pub short_data : read_of (0xC3 ∷ 0 ∷ []) ≡ number 26
  pub long_data : read_of (0xC3 ∷ (zeros 65 ++ (0xD1 ∷ 0x0F ∷ []))) ≡ number 26
  pub long_handshake : read_of (0xD2 ∷ 0 ∷ []) ≡ number 26
  -- 27.
  pub wrong_crc5 : read_of (0xE1 ∷ 0x3A ∷ 0x3C ∷ []) ≡ number 27
  pub wrong_frame_crc : read_of (0xA5 ∷ 0x01 ∷ 0xE9 ∷ []) ≡ number 27
  pub wrong_crc16 : read_of (0xC3 ∷ 0 ∷ 1 ∷ []) ≡ number 27
  -- Read, the largest fields among them.
  pub out_read : read_of (0xE1 ∷ 0x3A ∷ 0x3D ∷ []) ≡ result (token Out 0x3A 0xA)
  pub token_read : read_of (0xE1 ∷ 0xFF ∷ 0x47 ∷ []) ≡ result (token Out 127 15)
  pub frame_read : read_of (0xA5 ∷ 0xFF ∷ 0x47 ∷ []) ≡ result (sof 2047)
  pub data_read : read_of (0xC3 ∷ (zeros 64 ++ (0xBF ∷ 0xD0 ∷ []))) ≡ result (payload false (zeros 64))
  pub nak_read : read_of (0x5A ∷ []) ≡ result (handshake Nak)
  -- Writing: 19, also where there is no room.
  pub address : write_row (token In 128 0) 0 0 ≡ number 19
  pub endpoint : write_row (token In 0 16) 0 0 ≡ number 19
  pub frame_number : write_row (sof 2048) 0 0 ≡ number 19
  pub too_much : write_row (payload true (zeros 65)) 0 0 ≡ number 19
  -- 21: one byte too few, or more used than lent; else what is used then.
  pub token_room : write_row (token In 127 15) 2 0 ≡ number 21
  pub frame_room : write_row (sof 2047) 2 0 ≡ number 21
  pub data_room : write_row (payload true (zeros 64)) 66 0 ≡ number 21
  pub handshake_room : write_row (handshake Ack) 0 0 ≡ number 21
  pub used_room : write_row (handshake Ack) 5 5 ≡ number 21
  pub above_room : write_row (handshake Ack) 5 6 ≡ number 21
  pub token_fits : write_row (token In 127 15) 3 0 ≡ result 3
  pub frame_fits : write_row (sof 2047) 3 0 ≡ result 3
  pub data_fits : write_row (payload true (zeros 64)) 67 0 ≡ result 67
  pub handshake_fits : write_row (handshake Ack) 5 4 ≡ result 5

pub rows : Rows
unfolding encode read_of kind_of crc5_of crc16_of remainder16 crc_bits entry_of turned zeros
rows = record {
  polynomial5 = refl;
  polynomial16 = refl;
  out = refl;
  input = refl;
  setup = refl;
  frame = refl;
  data0 = refl;
  data1 = refl;
  ack = refl;
  nak = refl;
  stall = refl;
  check_value = refl;
  entry_1 = refl;
  entry_2 = refl;
  entry_4 = refl;
  entry_8 = refl;
  entry_16 = refl;
  entry_32 = refl;
  entry_64 = refl;
  entry_128 = refl;
  empty = refl;
  nibble = refl;
  nibble_first = refl;
  ping = refl;
  nyet = refl;
  data2 = refl;
  short_token = refl;
  long_token = refl;
  short_frame = refl;
  long_frame = refl;
  short_data = refl;
  long_data = refl;
  long_handshake = refl;
  wrong_crc5 = refl;
  wrong_frame_crc = refl;
  wrong_crc16 = refl;
  out_read = refl;
  token_read = refl;
  frame_read = refl;
  data_read = refl;
  nak_read = refl;
  address = refl;
  endpoint = refl;
  frame_number = refl;
  too_much = refl;
  token_room = refl;
  frame_room = refl;
  data_room = refl;
  handshake_room = refl;
  used_room = refl;
  above_room = refl;
  token_fits = refl;
  frame_fits = refl;
  data_fits = refl;
  handshake_fits = refl;
}
