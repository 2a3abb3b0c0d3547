-- How document 01's proved table writes a cutting: the packets' lengths, a star where one is marked last.
use Rattle.std.specs.Prelude.{◌≡◌, Bool, true, false, List, map, ℕ, length}
use Rattle.cutting.specs.declared.transfer_type.TransferType.{TransferType}
use Rattle.cutting.specs.Cut.{Packet, packet, out_cut}

-- A packet's length, with the table's star where it is marked last.
pub data Row : Type 0 where
  plain : ℕ → Row
  star : ℕ → Row

-- The star stands at the packet marked last.
abbrev pub row : Bool → ℕ → Row
row true n = star n
row false n = plain n

-- An OUT packet's row.
abbrev pub out_row : Packet (List ℕ) → Row
out_row (packet s b last l) = row last (length l)

-- An IN slot's row.
abbrev pub in_row : Packet ℕ → Row
in_row (packet s b last n) = row last n

-- The packets of any n bytes at packet size 64, whatever the first PID.
abbrev pub Cuts : TransferType → ℕ → List Row → Type 0
Cuts t n rs = (b : Bool) (l : List ℕ) → length l ≡ n → map out_row (out_cut t 64 b l) ≡ rs
