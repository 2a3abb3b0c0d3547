-- Document 01's wire record: its entries, its grammar and its readings.
use Rattle.std.specs.Prelude.{◌≡◌, ◌⊎◌, Bool, true, false, not, List, [], ◌∷◌, ◌++◌, ℕ, ◌+◌, ◌*◌, ◌≤◌, ◌<◌, length}

-- Four bytes. A SETUP's eight are two of these.
pub data Four : Type 0 where
  four : ℕ → ℕ → ℕ → ℕ → Four

-- "SETUP: address, 8 bytes. OUT: address, endpoint, PID, last, .. bytes."
pub data Entry : Type 0 where
  setup : ℕ → Four → Four → Entry
  out : ℕ → ℕ → Bool → Bool → List ℕ → Entry

-- wLength: the last two of the eight bytes, low byte first (USB 2.0 table 9-2).
abbrev pub w_length_in : Four → ℕ
w_length_in (four a b c d) = c + d * 256

-- All are bytes.
abbrev pub Bytes : List ℕ → Type 0
Bytes [] = Unit {0}
Bytes (x ∷ l) = (x < 256) × Bytes l

-- The same of four.
abbrev pub FourBytes : Four → Type 0
FourBytes (four a b c d) = (a < 256) × (b < 256) × (c < 256) × (d < 256)

-- "A group is k packets (k may be 0) .., unmarked, then one marked packet ..; one address and endpoint; PIDs alternate"
abbrev pub group : ℕ → ℕ → Bool → List (List ℕ) → List ℕ → List Entry
group a e b [] l = out a e b true l ∷ []
group a e b (x ∷ xs) l = out a e b false x ∷ group a e (not b) xs l

-- The bytes of a group.
abbrev pub group_bytes : List (List ℕ) → List ℕ → List ℕ
group_bytes [] l = l
group_bytes (x ∷ xs) l = x ++ group_bytes xs l

-- All of one length.
abbrev pub AllOf : ℕ → List (List ℕ) → Type 0
AllOf p [] = Unit {0}
AllOf p (x ∷ xs) = (length x ≡ p) × AllOf p xs

-- "of one length p from 1 to 64, .. then one marked packet of 0 to p bytes (0 to 64 if k = 0); .. at most 65,535 bytes". With k = 0, p is 64.
pub record Sizes (xs : List (List ℕ)) (l : List ℕ) : Type 0 where
  pub p : ℕ
  pub low : 1 ≤ p
  pub high : p ≤ 64
  pub full : AllOf p xs
  pub short : length l ≤ p
  pub total : length (group_bytes xs l) ≤ 65535
  pub are : Bytes (group_bytes xs l)

-- What follows a SETUP: nothing, or a group.
pub data Sent : Type 0 where
  no_group : Sent
  one_group : List (List ℕ) → List ℕ → Sent

-- A part of a record: "bulk groups (endpoint 1 to 15) and controls".
pub data Part : Type 0 where
  bulk_part : ℕ → ℕ → Bool → List (List ℕ) → List ℕ → Part
  control_part : ℕ → Four → Four → Sent → Part

-- "starting with DATA1 ..; all on endpoint 0 and the SETUP's address"
abbrev pub sent_entries : ℕ → Sent → List Entry
sent_entries a no_group = []
sent_entries a (one_group xs l) = group a 0 true xs l

-- The entries of a part.
abbrev pub part_entries : Part → List Entry
part_entries (bulk_part a e b xs l) = group a e b xs l
part_entries (control_part a lo hi s) = setup a lo hi ∷ sent_entries a s

-- "then nothing, or one empty marked DATA1 packet, or a group .. of exactly wLength bytes, wLength at least 1, whose marked packet is not empty"
abbrev pub SentFits : Four → Sent → Type 0
SentFits hi no_group = Unit {0}
SentFits hi (one_group xs l) = ((xs ≡ []) × (l ≡ [])) ⊎ (Sizes xs l × (length (group_bytes xs l) ≡ w_length_in hi) × (1 ≤ length l))

-- The grammar, part by part, with the fields' ranges.
abbrev pub Fits : Part → Type 0
Fits (bulk_part a e b xs l) = (a ≤ 127) × (1 ≤ e) × (e ≤ 15) × Sizes xs l
Fits (control_part a lo hi s) = (a ≤ 127) × FourBytes lo × FourBytes hi × SentFits hi s

-- "A record is a list, perhaps empty"
abbrev pub AllFit : List Part → Type 0
AllFit [] = Unit {0}
AllFit (q ∷ qs) = Fits q × AllFit qs

-- The record of a list of parts.
abbrev pub parts_entries : List Part → List Entry
parts_entries [] = []
parts_entries (q ∷ qs) = part_entries q ++ parts_entries qs

-- "A reading cuts a record into bulk groups and controls": parts of the grammar whose record it is. A record lies in the grammar if it has a reading.
pub record PlainReading (r : List Entry) : Type 0 where
  pub parts : List Part
  pub fit : AllFit parts
  pub is : parts_entries parts ≡ r

-- "each an item, in order: a control's address, SETUP and OUT bytes; a bulk group's address, endpoint, first PID and bytes"
pub data Item : Type 0 where
  bulk_item : ℕ → ℕ → Bool → List ℕ → Item
  control_item : ℕ → Four → Four → List ℕ → Item

-- A control's OUT bytes.
abbrev pub sent_bytes : Sent → List ℕ
sent_bytes no_group = []
sent_bytes (one_group xs l) = group_bytes xs l

-- The item of a part.
abbrev pub item : Part → Item
item (bulk_part a e b xs l) = bulk_item a e b (group_bytes xs l)
item (control_part a lo hi s) = control_item a lo hi (sent_bytes s)
