-- What the check of a record says of its bytes, in the grammar's terms, in versions 1 and 2.
use Rattle.std.specs.Prelude.{◌≡◌, Bool, true, false, List, [], ◌∷◌, ◌++◌, ℕ, length}
use Rattle.transfers.specs.Reply.{Reply, result, number}
use Rattle.record.specs.Segments.{Element, entry, failed_entry, Reading, unfailed}
use Rattle.record.specs.Bytes.{head_for, encode_element, encode_elements}
use Rattle.record.specs.Place.{ElementInRange}

-- The two versions.
abbrev pub version_number : Bool → ℕ
version_number false = 1
version_number true = 2

-- A record of a version.
unfoldable pub record_in : Bool → List Element → List ℕ
record_in two ms = head_for (version_number two) ++ encode_elements ms

-- An entry of a version: 0x58 is one of version 2's alone.
abbrev pub OfVersion : Bool → Element → Type 0
OfVersion two (entry e) = Unit {0}
OfVersion two (failed_entry m) = two ≡ true

-- With its fields in their ranges.
abbrev pub Ranged : Bool → Element → Type 0
Ranged two m = ElementInRange m × OfVersion two m

-- Those of a list.
abbrev pub AllRanged : Bool → List Element → Type 0
AllRanged two [] = Unit {0}
AllRanged two (m ∷ ms) = Ranged two m × AllRanged two ms

-- A record of a version's grammar: version 1 has no counts.
pub record Reads (two : Bool) (ms : List Element) : Type 0 where
  pub reading : Reading ms
  pub plain : two ≡ false → reading.segments ≡ []

-- A grammatical end is possible after these entries.
pub record Viable (two : Bool) (ms : List Element) : Type 0 where
  pub after : List Element
  pub reads : Reads two (ms ++ after)

-- "18 mark or version": the bytes begin with the head of no version.
pub record Unmarked (s : List ℕ) : Type 0 where
  pub no_head_of : (two : Bool) (r : List ℕ) → s ≡ head_for (version_number two) ++ r → ⊥

-- "19 cut, of unknown kind or a field outside its range": after entries with a possible end come bytes that begin with no entry.
pub record NoEntry (s : List ℕ) : Type 0 where
  pub two : Bool
  pub ms : List Element
  pub rest : List ℕ
  pub is : s ≡ record_in two ms ++ rest
  pub ranged : AllRanged two ms
  pub viable : Viable two ms
  pub more : rest ≡ [] → ⊥
  pub no_entry_of : (m : Element) (r : List ℕ) → Ranged two m → rest ≡ encode_element m ++ r → ⊥

-- "20 the first after which no grammatical end is possible", a count that is wrong among them.
pub record NoWayOn (s : List ℕ) : Type 0 where
  pub two : Bool
  pub ms : List Element
  pub m : Element
  pub rest : List ℕ
  pub is : s ≡ record_in two ms ++ (encode_element m ++ rest)
  pub ranged : AllRanged two ms
  pub last_ranged : Ranged two m
  pub viable : Viable two ms
  pub stuck : Viable two (ms ++ (m ∷ [])) → ⊥

-- "at the end, 20 an unfinished transfer"
pub record Unfinished (s : List ℕ) : Type 0 where
  pub two : Bool
  pub ms : List Element
  pub is : s ≡ record_in two ms
  pub ranged : AllRanged two ms
  pub viable : Viable two ms
  pub unread : Reads two ms → ⊥

-- A record of the grammar.
pub record Whole (s : List ℕ) : Type 0 where
  pub two : Bool
  pub ms : List Element
  pub is : s ≡ record_in two ms
  pub reads : Reads two ms

-- The answer that the bytes deserve: a number, or the count of the transfers that didn't fail.
pub data Verdict (s : List ℕ) (a : Reply ℕ) : Type 0 where
  no_head : Unmarked s → a ≡ number 18 → Verdict s a
  no_entry : NoEntry s → a ≡ number 19 → Verdict s a
  no_way_on : NoWayOn s → a ≡ number 20 → Verdict s a
  unfinished : Unfinished s → a ≡ number 20 → Verdict s a
  is_whole : (w : Whole s) → a ≡ result (length (unfailed w.reads.reading.segments w.reads.reading.last)) → Verdict s a
