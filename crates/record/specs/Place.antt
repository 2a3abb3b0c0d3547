-- The reader's automaton over entries of version 2: version 1's state, the entries of the last item, and the items that didn't fail.
use Rattle.std.specs.Prelude.{Bool, true, false, cond, ◌&&◌, ◌||◌, List, [], ◌∷◌, ℕ, zero, suc, ◌+◌, ◌-◌, ◌<◌, eqb, None, Option, Some}
use Rattle.record.specs.Segments.{Element, entry, failed_entry}
use Rattle.record.specs.Scan.{guard, feed, starts, InRange}
use Rattle.record.specs.declared.scan.Scan.{Scan}
use Rattle.record.specs.declared.scan.Scan.TheVariants.{Between as between, AfterSetup as after_setup, InBulk as in_bulk, InControl as in_control_of}

-- A record may end here: between items or after a SETUP.
abbrev pub may_end : Scan → Bool
may_end between = true
may_end (after_setup a w) = true
may_end (in_bulk a e q p t) = false
may_end (in_control_of a w q p t) = false

-- "A count that breaks this is refused with 20": it counts the entries of the last item, or none of them where that item is whole.
abbrev pub count_right : Scan → ℕ → ℕ → Bool
count_right s run m = eqb m run || (eqb m 0 && may_end s)

-- A count: what comes after it reads as at a record's start.
abbrev pub feed_failed : Scan → ℕ → ℕ → Option Scan
feed_failed s run m = guard (count_right s run m) between

-- One entry.
abbrev pub feed_element : Scan → ℕ → Element → Option Scan
feed_element s run (entry e) = feed s e
feed_element s run (failed_entry m) = feed_failed s run m

-- The entries of the last item: an entry begins an item (1) or goes on (0).
abbrev pub run_on : ℕ → ℕ → ℕ
run_on zero run = suc run
run_on (suc k) run = 1

-- After a count, none.
abbrev pub run_after : Scan → ℕ → Element → ℕ
run_after s run (entry e) = run_on (starts s e) run
run_after s run (failed_entry m) = 0

-- A count above 0 takes the last item away.
abbrev pub lost : ℕ → ℕ → ℕ
lost m k = cond (eqb m 0) k (k - 1)

-- The items that didn't fail.
abbrev pub count_after : Scan → ℕ → Element → ℕ
count_after s k (entry e) = k + starts s e
count_after s k (failed_entry m) = lost m k

-- How far the automaton has come.
pub record Place : Type 0 where
  pub scan : Scan
  pub run : ℕ
  pub count : ℕ

-- Come to a place, or refused.
pub data Reach : Type 0 where
  at : Place → Reach
  refused : Reach

-- The automaton takes the entry, or not.
abbrev pub reach : Option Scan → ℕ → ℕ → Reach
reach None run k = refused
reach (Some s) run k = at (record { scan = s; run = run; count = k })

-- One entry at a place.
abbrev pub step_element : Place → Element → Reach
step_element p m = reach (feed_element p.scan p.run m) (run_after p.scan p.run m) (count_after p.scan p.count m)

-- Entry after entry; what is refused stays refused.
abbrev pub feed_elements : Reach → List Element → Reach
feed_elements o [] = o
feed_elements refused (m ∷ ms) = refused
feed_elements (at p) (m ∷ ms) = feed_elements (step_element p m) ms

-- A record's start.
abbrev pub start : Place
start = record { scan = between; run = 0; count = 0 }

-- An entry whose fields lie in their ranges; a count is 32 bits.
abbrev pub ElementInRange : Element → Type 0
ElementInRange (entry e) = InRange e
ElementInRange (failed_entry m) = m < 0x1_0000_0000

-- Those of a list.
abbrev pub ElementsInRange : List Element → Type 0
ElementsInRange [] = Unit {0}
ElementsInRange (m ∷ ms) = ElementInRange m × ElementsInRange ms
