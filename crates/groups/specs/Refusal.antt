-- Document 02's numbers of what the listing refuses.
use Rattle.std.specs.Prelude.{ℕ}
use Rattle.groups.specs.declared.Refusal.{Refusal}
use Rattle.groups.specs.declared.Refusal.TheVariants.{Limit, Room}

-- "35 an n above 6", "21 lent bytes too few"
abbrev pub number_of : Refusal → ℕ
number_of Limit = 35
number_of Room = 21
