-- Record version 2: version 1's entries, and 0x58 with a count where a transfer failed.
use Rattle.std.specs.Prelude.{◌≡◌, List, [], ◌∷◌, ◌++◌, map, ℕ, length}
use Rattle.record.specs.Grammar.{Entry, Part, part_entries, Fits, AllFit, parts_entries}

-- An entry of version 2: one of version 1, or "the entry 0x58 and a 32-bit count".
pub data Element : Type 0 where
  entry : Entry → Element
  failed_entry : ℕ → Element

-- "they are a first part or all of one transfer", "perhaps none"
pub record FirstPart (es : List Entry) : Type 0 where
  pub part : Part
  pub fits : Fits part
  pub rest : List Entry
  pub is : es ++ rest ≡ part_entries part

-- What a count closes: "what stands before them is whole transfers", then the entries that it counts.
pub record Segment : Type 0 where
  pub whole : List Part
  pub first : List Entry

-- Its whole transfers are of the grammar, the entries counted are of one transfer.
abbrev pub SegmentFits : Segment → Type 0
SegmentFits g = AllFit g.whole × FirstPart g.first

-- Those of a list.
abbrev pub SegmentsFit : List Segment → Type 0
SegmentsFit [] = Unit {0}
SegmentsFit (g ∷ gs) = SegmentFits g × SegmentsFit gs

-- Segments, each with its count, and what stands after them.
abbrev pub up_to : List Segment → List Element → List Element
up_to [] r = r
up_to (g ∷ gs) r = map entry (parts_entries g.whole ++ g.first) ++ (failed_entry (length g.first) ∷ up_to gs r)

-- The record of segments and of the whole transfers after the last count.
abbrev pub elements : List Segment → List Part → List Element
elements gs ps = up_to gs (map entry (parts_entries ps))

-- A reading in version 2: "Everything after the entry reads as it would at a record's start".
pub record Reading (r : List Element) : Type 0 where
  pub segments : List Segment
  pub last : List Part
  pub segments_fit : SegmentsFit segments
  pub last_fit : AllFit last
  pub is : elements segments last ≡ r

-- "only transfers that didn't fail", in order.
abbrev pub unfailed : List Segment → List Part → List Part
unfailed [] ps = ps
unfailed (g ∷ gs) ps = g.whole ++ unfailed gs ps
