-- The bytes of the wire record: the mark `WLG`, the version as 16 bits, low byte first, then entries. The writer writes version 2, "which the writer now writes"; the reader takes 1 and 2.
use Rattle.std.specs.Prelude.{Bool, true, false, List, [], ◌∷◌, ◌++◌, ℕ, ◌/◌, ◌%◌, length}
use Rattle.record.specs.Grammar.{Four, four, Entry, setup, out}
use Rattle.record.specs.Segments.{Element, entry, failed_entry}

-- The version that is written.
abbrev pub version : ℕ
version = 2

-- "the mark `WLG`", a version "as 16 bits, low byte first"
abbrev pub head_for : ℕ → List ℕ
head_for v = 0x57 ∷ 0x4C ∷ 0x47 ∷ v % 256 ∷ v / 256 ∷ []

-- The head that is written.
abbrev pub head_bytes : List ℕ
head_bytes = head_for version

-- "PID (0 or 1), last (0 or 1)"
abbrev pub flag_byte : Bool → ℕ
flag_byte false = 0
flag_byte true = 1

-- Four bytes in their order.
abbrev pub four_of : Four → List ℕ
four_of (four a b c d) = a ∷ b ∷ c ∷ d ∷ []

-- "SETUP: 0x53, address, 8 bytes. OUT: 0x4F, address, endpoint, PID, last, length, bytes."
abbrev pub encode : Entry → List ℕ
encode (setup a lo hi) = 0x53 ∷ a ∷ (four_of lo ++ four_of hi)
encode (out a e pid last l) = 0x4F ∷ a ∷ e ∷ flag_byte pid ∷ flag_byte last ∷ length l ∷ l

-- Entries one after another.
unfoldable pub encode_all : List Entry → List ℕ
encode_all [] = []
encode_all (e ∷ es) = encode e ++ encode_all es

-- "the entry 0x58 and a 32-bit count, low byte first"
abbrev pub failed_bytes : ℕ → List ℕ
failed_bytes n = 0x58 ∷ n % 256 ∷ n / 256 % 256 ∷ n / 65536 % 256 ∷ n / 16777216 ∷ []

-- An entry of version 2.
abbrev pub encode_element : Element → List ℕ
encode_element (entry e) = encode e
encode_element (failed_entry n) = failed_bytes n

-- Entries one after another.
unfoldable pub encode_elements : List Element → List ℕ
encode_elements [] = []
encode_elements (m ∷ ms) = encode_element m ++ encode_elements ms

-- A record of version 2.
unfoldable pub record_of : List Element → List ℕ
record_of ms = head_bytes ++ encode_elements ms
