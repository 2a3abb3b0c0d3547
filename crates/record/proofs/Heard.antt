-- What was told, field by field: what a note makes of each. Assumes nothing.
use mathlib.Core.Path.{◌≡◌, refl}
use mathlib.Core.Bool.{Bool, true, false, cond}
use mathlib.Core.List.{List}
use Prim.Native.Nat.{ℕ, suc, ◌+◌}
use lib.ListN.{length}
use Rattle.record.specs.Wire.{File, performs, Event, events, wire}
use Rattle.record.specs.Told.{Live, no_transfer, live, Watch, not_armed, seen, marks, Note, began, stepped, finished, broke, nothing, Shown, Told, told, heard, hears}

-- The transfer under way.
abbrev pub next_live : Note → Live → Live
next_live (began x buf) l = live x buf
next_live (stepped v y now) l = l
next_live (finished y now) l = no_transfer
next_live broke l = no_transfer
next_live nothing l = l

-- Its stages reported complete.
abbrev pub next_count : Note → ℕ → ℕ
next_count (began x buf) n = 0
next_count (stepped v y now) n = cond v (suc n) n
next_count (finished y now) n = 0
next_count broke n = 0
next_count nothing n = n

-- Its entries, of which a call starts k.
abbrev pub since : Note → ℕ → ℕ → ℕ
since (began x buf) n k = k
since (stepped v y now) n k = n + k
since (finished y now) n k = 0
since broke n k = n + k
since nothing n k = n + k

-- The marked packet of its stage.
abbrev pub next_watch : Note → Watch → List Event → Watch
next_watch (began x buf) w es = marks not_armed es
next_watch (stepped v y now) w es = marks (cond v not_armed (seen w y)) es
next_watch (finished y now) w es = not_armed
next_watch broke w es = not_armed
next_watch nothing w es = marks w es

-- It ended without a count.
abbrev pub breaks : Note → Bool
breaks (began x buf) = false
breaks (stepped v y now) = false
breaks (finished y now) = false
breaks broke = true
breaks nothing = false

-- All of them, after a call.
abbrev pub after : Told → Shown → Told
after t o =
    let k = o.note in
    told (performs t.file o.writes) (next_live k t.live) (next_count k t.stages) (since k t.armings (length (wire t.file o.writes o.memory))) (next_watch k t.watch (events t.file o.writes))

heard_is : (k : Note) (t : Told) (f : File) (j : ℕ) (es : List Event) → told f (next_live k t.live) (next_count k t.stages) (since k t.armings j) (next_watch k t.watch es) ≡ heard k t f j es
heard_is (began x buf) t f j es = refl
heard_is (stepped true y now) t f j es = refl
heard_is (stepped false y now) t f j es = refl
heard_is (finished y now) t f j es = refl
heard_is broke t f j es = refl
heard_is nothing t f j es = refl

pub hears_is : (t : Told) (o : Shown) → after t o ≡ hears t o
hears_is t o = heard_is o.note t (performs t.file o.writes) (length (wire t.file o.writes o.memory)) (events t.file o.writes)
