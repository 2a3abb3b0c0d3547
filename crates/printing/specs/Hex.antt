-- Bytes as text.
use Rattle.std.specs.Prelude.{false, List, [], ◌∷◌, ℕ, ◌/◌, ◌%◌, flat_map}
use Rattle.std.specs.Fmt.{digit_glyph}

-- A byte as two digits, in lower case.
abbrev pub two_digits : ℕ → List ℕ
two_digits b = digit_glyph false (b / 16) ∷ digit_glyph false (b % 16) ∷ []

-- Bytes as two digits each, `-` for none.
abbrev pub hex_text : List ℕ → List ℕ
hex_text [] = 45 ∷ []
hex_text (b ∷ bs) = flat_map two_digits (b ∷ bs)
