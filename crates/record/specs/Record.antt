-- The wire record of a list of calls, in version 2: from the logs performed in order, packet memory and the answers, never from the driver's state.
use Rattle.std.specs.Prelude.{List, [], ◌∷◌, ◌++◌, map, ℕ, ◌≤◌, None, Option, Some}
use Rattle.record.specs.Segments.{Element, entry, failed_entry}
use Rattle.record.specs.Wire.{wire}
use Rattle.record.specs.Armed.{entries_armed}
use Rattle.record.specs.Told.{Shown, Told, hears}
use Rattle.record.specs.Fates.{Fate, done, broken, under_way, fate}

-- "written when a started transfer ends by 1 to 7 or 9 or is cancelled"
abbrev pub failure : List Fate → ℕ → List Element
failure [] n = []
failure (done g ∷ fs) n = []
failure (broken g ∷ fs) n = failed_entry n ∷ []

-- "the SETUPs and OUT packets in order of arming", and a count where a call ends the transfer under way without one.
unfoldable pub record_from : Told → List Shown → List Element
record_from t [] = []
record_from t (o ∷ os) =
    let u = hears t o in
    map entry (wire t.file o.writes o.memory) ++ (failure (fate o.note (under_way t.live)) u.armings ++ record_from u os)

-- "that step or cancel answers the count"
abbrev pub counted : Option ℕ → List Element
counted None = []
counted (Some n) = failed_entry n ∷ []

-- The record as the answers of a list of calls tell it.
unfoldable pub answered_from : List Shown → List Element
answered_from [] = []
answered_from (o ∷ os) = map entry (entries_armed o.memory o.armed) ++ (counted o.failed ++ answered_from os)

-- Every count of a record is at most k.
abbrev pub CountsTo : ℕ → List Element → Type 0
CountsTo k [] = Unit {0}
CountsTo k (entry e ∷ ms) = CountsTo k ms
CountsTo k (failed_entry n ∷ ms) = (n ≤ k) × CountsTo k ms
