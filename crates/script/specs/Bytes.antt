-- "BYTES is hexadecimal pairs of either case, `-` for none, or `seq:LEN:START:STEP`."
use Rattle.std.specs.Prelude.{Bool, cond, ◌&&◌, List, [], ◌∷◌, ℕ, zero, suc, ◌+◌, ◌*◌, ◌/◌, ◌%◌, eqb, leb, ltb, length, Option, Some, None, option_map}
use Rattle.std.proofs.lemmas.List.Edits.{sets}
use Rattle.script.specs.Parts.{part_of, parts_of, same_text}
use Rattle.script.specs.Numbers.{digit_of, all_digits, number_of}

-- "LEN or BYTES above 131,072" are unreadable.
abbrev pub longest : ℕ
longest = 131072

-- The bytes of hexadecimal digits, two a byte.
unfoldable pub pairs_of : List ℕ → List ℕ
pairs_of [] = []
pairs_of (a ∷ []) = []
pairs_of (a ∷ b ∷ ds) = (digit_of a * 16 + digit_of b) ∷ pairs_of ds

-- Hexadecimal pairs, at least one; nothing where a text has another form.
unfoldable pub hex_bytes : List ℕ → Option (List ℕ)
hex_bytes text =
    cond (ltb 0 (length text) && (leb (length text) (2 * longest) && (eqb (length text % 2) 0 && all_digits 16 text))) (Some (pairs_of text)) None

-- "Byte i is (START + STEP × i + i / 256) mod 256."
abbrev pub seq_at : ℕ → ℕ → ℕ → ℕ
seq_at start step i = (start + step * i + i / 256) % 256

-- n such bytes, from byte i on.
unfoldable pub seq_from : ℕ → ℕ → ℕ → ℕ → List ℕ
seq_from start step i zero = []
seq_from start step i (suc n) = seq_at start step i ∷ seq_from start step (suc i) n

-- "LEN bytes", where LEN, START and STEP can all be read.
unfoldable pub seq_then : Option ℕ → Option ℕ → Option ℕ → Option (List ℕ)
seq_then (Some n) (Some start) (Some step) = Some (seq_from start step 0 n)
seq_then (Some n) (Some start) None = None
seq_then (Some n) None c = None
seq_then None b c = None

-- `seq:LEN:START:STEP`, LEN at most 131,072, START and STEP at most 255.
unfoldable pub seq_bytes : List ℕ → Option (List ℕ)
seq_bytes text = seq_then (number_of (part_of 58 text 1) longest) (number_of (part_of 58 text 2) 255) (number_of (part_of 58 text 3) 255)

-- A text has the form `seq:LEN:START:STEP`: four parts at colons, of which the first is `seq`.
abbrev pub is_seq : List ℕ → Bool
is_seq text = eqb (parts_of 58 text) 4 && same_text (part_of 58 text 0) (115 ∷ 101 ∷ 113 ∷ [])

-- The bytes of a text, or nothing where it is no BYTES.
unfoldable pub bytes_of : List ℕ → Option (List ℕ)
bytes_of text = cond (same_text text (45 ∷ [])) (Some []) (cond (is_seq text) (seq_bytes text) (hex_bytes text))

-- How many bytes BYTES has, where it can be read.
unfoldable pub count_in : Option (List ℕ) → Option ℕ
count_in bytes = option_map length bytes

-- The lent bytes with them at their start.
unfoldable pub stored_in : List ℕ → Option (List ℕ) → List ℕ
stored_in out (Some bs) = sets out 0 bs
stored_in out None = out
