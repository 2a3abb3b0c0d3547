-- A line's fields by what they hold, each or nothing where the field can't be read.
use Rattle.std.specs.Prelude.{Bool, true, false, cond, ◌&&◌, List, [], ◌∷◌, ℕ, ◌+◌, ◌*◌, eqb, length, get_or, Option, Some, None, option_map}
use Rattle.script.specs.Parts.{field_of, same_text}
use Rattle.script.specs.Numbers.{all_digits, number_of}
use Rattle.script.specs.Bytes.{pairs_of, bytes_of, count_in, stored_in}
use Rattle.script.specs.declared.command.Setup.{Setup}

-- "ADDRESS, ENDPOINT, INTERVAL, PIPE, a control's SIZE": unreadable above 255.
unfoldable pub byte_at : List ℕ → ℕ → Option ℕ
byte_at line k = number_of (field_of line k) 255

-- "Another SIZE": unreadable above 65,535.
unfoldable pub half_at : List ℕ → ℕ → Option ℕ
half_at line k = number_of (field_of line k) 65535

-- "A register word": unreadable above 0xFFFFFFFF.
unfoldable pub word_at : List ℕ → ℕ → Option ℕ
word_at line k = number_of (field_of line k) 0xFFFF_FFFF

-- "PREAMBLE and TOGGLE are 0 or 1."
unfoldable pub bit_at : List ℕ → ℕ → Option Bool
bit_at line k = option_map (λ n. eqb n 1) (number_of (field_of line k) 1)

-- LEN, PMLEN, LOGLEN or OFFSET: unreadable above `most`.
unfoldable pub length_at : List ℕ → ℕ → ℕ → Option ℕ
length_at line k most = number_of (field_of line k) most

-- "TYPE is `fixed` or `variable`": whether it is variable.
unfoldable pub type_in : List ℕ → Option Bool
type_in text =
    cond (same_text text (118 ∷ 97 ∷ 114 ∷ 105 ∷ 97 ∷ 98 ∷ 108 ∷ 101 ∷ [])) (Some true)
    (cond (same_text text (102 ∷ 105 ∷ 120 ∷ 101 ∷ 100 ∷ [])) (Some false) None)

-- The TYPE of a field.
unfoldable pub type_at : List ℕ → ℕ → Option Bool
type_at line k = type_in (field_of line k)

-- Two bytes "as on the wire": the low one first.
unfoldable pub half_pair : List ℕ → ℕ → ℕ
half_pair text i = get_or (pairs_of text) i 0 + 256 * get_or (pairs_of text) (i + 1) 0

-- "SETUP is 8 bytes as on the wire."
unfoldable pub setup_of : List ℕ → Setup
setup_of text = record {
  kind = get_or (pairs_of text) 0 0;
  request = get_or (pairs_of text) 1 0;
  value = half_pair text 2;
  index = half_pair text 4;
  length = half_pair text 6;
}

-- The SETUP of a text: 16 hexadecimal digits.
unfoldable pub setup_in : List ℕ → Option Setup
setup_in text = cond (eqb (length text) 16 && all_digits 16 text) (Some (setup_of text)) None

-- The SETUP of a field.
unfoldable pub setup_at : List ℕ → ℕ → Option Setup
setup_at line k = setup_in (field_of line k)

-- How many bytes the BYTES of a field has.
unfoldable pub count_at : List ℕ → ℕ → Option ℕ
count_at line k = count_in (bytes_of (field_of line k))

-- The lent bytes with them at their start.
unfoldable pub stored_at : List ℕ → List ℕ → ℕ → List ℕ
stored_at out line k = stored_in out (bytes_of (field_of line k))
