-- Where a listing goes on.
use Rattle.std.specs.Prelude.{ℕ, ◌+◌, length, Option, Some, None}
use Rattle.descriptor.specs.Walk.{Walked, descriptor, endpoint, end, refused}

-- After a descriptor, at the position behind it; else nowhere.
abbrev pub turn_of : ℕ → Walked → Option ℕ
turn_of at (descriptor p) = Some (at + length p)
turn_of at (endpoint p e) = Some (at + length p)
turn_of at end = None
turn_of at (refused n) = None
