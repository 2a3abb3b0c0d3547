-- Document 02's numbers of what writing and reading refuse.
use Rattle.std.specs.Prelude.{ℕ}
use Rattle.packet.specs.declared.refusal.Refusal.{Refusal}
use Rattle.packet.specs.declared.refusal.Refusal.TheVariants.{Field, Room, Pid, Length, Crc}

-- "19 a field outside its range", "21 lent bytes too few", "25 an empty input, an unknown PID or wrong check nibble", "26 a length wrong for the PID", "27 a wrong CRC"
abbrev pub number_of : Refusal → ℕ
number_of Field = 19
number_of Room = 21
number_of Pid = 25
number_of Length = 26
number_of Crc = 27
