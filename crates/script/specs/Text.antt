-- The output's text, put into lent bytes from a place on.
use Rattle.std.specs.Prelude.{Bool, cond, List, [], ◌∷◌, ◌≡◌, ℕ, ◌+◌, ◌/◌, ◌%◌, min, max, leb, length}
use Rattle.std.proofs.lemmas.List.Edits.{sets}
use Rattle.io.specs.Digits.{hex_digit_ascii, last_digits, IsDigitCount}

-- The text fits from the place on.
abbrev pub fits : List ℕ → ℕ → List ℕ → Bool
fits out at text = leb (at + length text) (length out)

-- The lent bytes afterwards: a text that doesn't fit is left out.
unfoldable pub placed : List ℕ → ℕ → List ℕ → List ℕ
placed out at text = cond (fits out at text) (sets out at text) out

-- The place after it.
unfoldable pub place_after : List ℕ → ℕ → List ℕ → ℕ
place_after out at text = cond (fits out at text) (at + length text) at

-- A call put the text.
pub record Placed (out : List ℕ) (at : ℕ) (text out' : List ℕ) (at' : ℕ) : Type 0 where
  pub bytes : out' ≡ placed out at text
  pub next : at' ≡ place_after out at text

-- "Output numbers are decimal": the fewest digits that hold the number.
pub record PlacedDecimal (out : List ℕ) (at n : ℕ) (out' : List ℕ) (at' : ℕ) : Type 0 where
  pub count : ℕ
  pub fewest : IsDigitCount 10 1 n count
  pub text : Placed out at (last_digits 10 count n) out' at'

-- Bytes as two digits each, in lower case.
unfoldable pub hex_of : List ℕ → List ℕ
hex_of [] = []
hex_of (b ∷ bs) = hex_digit_ascii (b / 16) ∷ hex_digit_ascii (b % 16) ∷ hex_of bs

-- "HEX is lower case, `-` for none."
unfoldable pub pairs_text : List ℕ → List ℕ
pairs_text [] = 45 ∷ []
pairs_text (b ∷ bs) = hex_of (b ∷ bs)

-- "Each 0x and 8 digits", "as 0x and 4 digits": `0x`, and the fewest digits that hold the number, no fewer than the width.
pub record PlacedHex (out : List ℕ) (at width n : ℕ) (out' : List ℕ) (at' : ℕ) : Type 0 where
  pub middle : List ℕ
  pub place : ℕ
  pub count : ℕ
  pub fewest : IsDigitCount 16 (min (max width 1) 16) n count
  pub mark : Placed out at (48 ∷ 120 ∷ []) middle place
  pub text : Placed middle place (last_digits 16 count n) out' at'
