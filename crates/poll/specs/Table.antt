-- The built-in table: "The rule min(interval, 9) becomes a constant table of 256 bytes".
use Rattle.std.specs.Prelude.{List, [], ◌∷◌, ℕ, zero, suc, min}

-- "min(interval, 9)", of n intervals from i on.
unfoldable pub capped : ℕ → ℕ → List ℕ
capped i zero = []
capped i (suc n) = min i 9 ∷ capped (suc i) n

-- "a constant table of 256 bytes"
abbrev pub built_in_of : List ℕ
built_in_of = capped 0 256
