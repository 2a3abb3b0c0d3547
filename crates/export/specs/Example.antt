-- Document 01's two transfers and a failed one, exported: computed.
use Rattle.std.specs.Prelude.{◌≡◌, refl, true, false, List, [], ◌∷◌, ◌++◌}
use Rattle.packet.specs.Crc.{crc_bits, remainder16, crc16_of, crc5_of}
use Rattle.packet.specs.Packet.{encode}
use Rattle.packet.specs.Rows.{zeros}
use Rattle.transfers.specs.Reply.{result, number}
use Rattle.record.specs.Grammar.{four, setup, out}
use Rattle.record.specs.Segments.{Element, entry, failed_entry}
use Rattle.export.specs.Export.{encode_packets, export_of}
use Rattle.export.specs.Exported.{export_row, exported_in}

-- 53 05 00 09 01 00 00 00 00 00, 4F 05 02 00 01 03 AA BB CC
abbrev pub two : List Element
two = entry (setup 5 (four 0 9 1 0) (four 0 0 0 0)) ∷ entry (out 5 2 false true (0xAA ∷ 0xBB ∷ 0xCC ∷ [])) ∷ []

-- An OUT packet that failed, DATA1, and its count: 4F 05 02 01 00 01 07, 58 01 00 00 00
abbrev pub broken : List Element
broken = entry (out 5 2 true false (7 ∷ [])) ∷ failed_entry 1 ∷ []

pub record Example : Type 0 where
  pub two_exported : export_of two ≡
      0x2D ∷ 0x05 ∷ 0xD0 ∷ 0xC3 ∷ 0x00 ∷ 0x09 ∷ 0x01 ∷ 0x00 ∷ 0x00 ∷ 0x00 ∷ 0x00 ∷ 0x00 ∷ 0x27 ∷ 0x25 ∷
      0xE1 ∷ 0x05 ∷ 0xF9 ∷ 0xC3 ∷ 0xAA ∷ 0xBB ∷ 0xCC ∷ 0xDC ∷ 0xBA ∷ []
  pub broken_exported : export_of (broken ++ two) ≡ (0xE1 ∷ 0x05 ∷ 0xF9 ∷ 0x4B ∷ 0x07 ∷ 0x01 ∷ 0x7D ∷ []) ++ export_of two
  pub count_alone : export_of (failed_entry 0 ∷ []) ≡ []
  -- "then with 21 lent bytes too few": 23 are enough for the two transfers, and 22 stay as they were.
  pub enough : export_row two 23 ≡ result 23
  pub too_few : export_row two 22 ≡ number 21
  pub stays : exported_in two (zeros 22) ≡ zeros 22
  pub last_stays : exported_in two (zeros 24) ≡ export_of two ++ (0 ∷ [])

pub example : Example
unfolding encode_packets encode crc5_of crc16_of remainder16 crc_bits zeros
example = record { two_exported = refl; broken_exported = refl; count_alone = refl; enough = refl; too_few = refl; stays = refl; last_stays = refl }
