-- What document 02 asks of packets, as one statement.
use Rattle.std.specs.Prelude.{◌≡◌, List, ◌++◌, ℕ, ◌-◌, ◌/◌, ◌%◌, ◌≤◌, ◌<◌, length, take, drop}
use Rattle.std.specs.Int.Bits.{bit_xor}
use Rattle.packet.specs.Crc.{crc_bits, poly16, crc16_of, entry_of, Residual5, Residual16}
use Rattle.packet.specs.Packet.{Packet, low, checked, Bytes}
use Rattle.packet.specs.Reply.{result, number}
use Rattle.packet.specs.Reading.{read_of}
use Rattle.packet.specs.Writing.{write_row, written}

pub record Packets : Type 0 where
  -- "Every packet written is read as itself": from the bytes that writing added to those used.
  pub reads_written : (p : Packet) (out : List ℕ) (used n : ℕ) → write_row p (length out) used ≡ result n → read_of (take (n - used) (drop used (written p out used))) ≡ result p
  -- "every accepted byte string is what writing its reading gives": in any room that is enough, and all bytes after it stay.
  pub writes_read : (s : List ℕ) (p : Packet) → Bytes s → read_of s ≡ result p → (out : List ℕ) → length s ≤ length out
      → (write_row p (length out) 0 ≡ result (length s)) × (written p out 0 ≡ s ++ drop (length s) out)
  -- A refused write leaves every byte; else those used and those after the packet stay.
  pub keeps : (p : Packet) (out : List ℕ) (used n : ℕ) → write_row p (length out) used ≡ number n → written p out used ≡ out
  pub keeps_others : (p : Packet) (out : List ℕ) (used n : ℕ) → write_row p (length out) used ≡ result n
      → (take used (written p out used) ≡ take used out) × (drop n (written p out used) ≡ drop n out)
  -- "CRC5 on tokens": with its CRC5 every token leaves USB 2.0's residual.
  pub residual5 : (v : ℕ) → v ≤ 2047 → Residual5 (checked v)
  -- "CRC16 on data": with its CRC16 all data leaves USB 2.0's residual.
  pub residual16 : (d : List ℕ) → Residual16 (d ++ low (crc16_of d))
  -- "CRC16 works from a table .. whose rule follows from the polynomial": eight bits of any remainder by one entry.
  pub by_table : (c x : ℕ) → x < 256 → crc_bits poly16 8 c x ≡ bit_xor (c / 256) (entry_of (bit_xor c x % 256))
  -- Entries add up, so those of single bits (`Rows`) settle all 256.
  pub adds_up : (m n : ℕ) → entry_of (bit_xor m n) ≡ bit_xor (entry_of m) (entry_of n)
