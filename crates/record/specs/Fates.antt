-- The transfers begun, and what became of each.
use Rattle.std.specs.Prelude.{◌≡◌, List, [], ◌∷◌, ◌++◌, map, length}
use Rattle.record.specs.Grammar.{Entry}
use Rattle.record.specs.Segments.{Element, entry, failed_entry, Segment}
use Rattle.record.specs.Asked.{Begun, armed_by}
use Rattle.record.specs.Told.{Live, no_transfer, live, Note, began, stepped, finished, broke, nothing, Shown, Told, hears}

-- "The transfers begun get an item from each begin that the table doesn't refuse".
abbrev pub begun_by : Note → List Begun
begun_by (began x buf) = record { fields = x; buffer = buf } ∷ []
begun_by (stepped v y now) = []
begun_by (finished y now) = []
begun_by broke = []
begun_by nothing = []

-- The transfers begun, in order.
unfoldable pub begun_from : List Shown → List Begun
begun_from [] = []
begun_from (o ∷ os) = begun_by o.note ++ begun_from os

-- A transfer "ended with a count", or it failed: it "ends by 1 to 7 or 9 or is cancelled".
pub data Fate : Type 0 where
  done : Begun → Fate
  broken : Begun → Fate

-- The transfer under way.
abbrev pub under_way : Live → List Begun
under_way no_transfer = []
under_way (live x buf) = record { fields = x; buffer = buf } ∷ []

-- What a call makes of it.
abbrev pub fate : Note → List Begun → List Fate
fate (began x buf) gs = []
fate (stepped v y now) gs = []
fate (finished y now) gs = map done gs
fate broke gs = map broken gs
fate nothing gs = []

-- The fates, in order.
unfoldable pub fates_from : Told → List Shown → List Fate
fates_from t [] = []
fates_from t (o ∷ os) = fate o.note (under_way t.live) ++ fates_from (hears t o) os

-- Whose they are.
abbrev pub all_of : List Fate → List Begun
all_of [] = []
all_of (done g ∷ fs) = g ∷ all_of fs
all_of (broken g ∷ fs) = g ∷ all_of fs

-- "the transfers that ended with a count"
abbrev pub ended_of : List Fate → List Begun
ended_of [] = []
ended_of (done g ∷ fs) = g ∷ ended_of fs
ended_of (broken g ∷ fs) = ended_of fs

-- Those that failed.
abbrev pub broken_of : List Fate → List Begun
broken_of [] = []
broken_of (done g ∷ fs) = broken_of fs
broken_of (broken g ∷ fs) = g ∷ broken_of fs

-- Entries are the first of a transfer's.
abbrev pub FirstOf : List Entry → Begun → Type 0
FirstOf es g = (rest : List Entry) × (es ++ rest ≡ armed_by g)

-- "the entries counted are the first of their own transfer's", count by count.
abbrev pub FirstsOf : List Segment → List Begun → Type 0
FirstsOf [] [] = Unit {0}
FirstsOf [] (g ∷ gs) = ⊥
FirstsOf (s ∷ ss) [] = ⊥
FirstsOf (s ∷ ss) (g ∷ gs) = FirstOf s.first g × FirstsOf ss gs

-- A record is made transfer by transfer, in order: one that ended with a count leaves the entries that it was to arm, one that failed the first of them and their count.
abbrev pub Made : List Fate → List Element → Type 0
Made [] r = r ≡ []
Made (done g ∷ fs) r = (r' : List Element) × (r ≡ map entry (armed_by g) ++ r') × Made fs r'
Made (broken g ∷ fs) r = (es : List Entry) × (r' : List Element) × FirstOf es g × (r ≡ map entry es ++ (failed_entry (length es) ∷ r')) × Made fs r'
