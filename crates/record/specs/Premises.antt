-- Term 3's premises, of each call by what was told before it.
use Rattle.std.specs.Prelude.{◌≡◌, Bool, true, false, ◌&&◌, List, [], ◌∷◌, ℕ, eqb, Err, Ok}
use Rattle.transfers.specs.declared.host_controller.DataPhase.TheVariants.{In as phase_in, Out as phase_out, None as phase_none}
use Rattle.transfers.specs.declared.wire.Direction.TheVariants.{In, Out}
use Rattle.transfers.specs.declared.driver.Driver.{Driver}
use Rattle.record.specs.Wire.{Event, events}
use Rattle.record.specs.Calls.{control_begin, bulk_begin, Call, begin, step, cancel, open_pipe, close_pipe, poll_pipe, interrupt, detect, Answer, call}
use Rattle.record.specs.Told.{Live, no_transfer, live, Watch, taken, seen, finds, Note, began, stepped, finished, broke, nothing, Shown, Told, hears}
use Rattle.transfers.specs.declared.answers.Step.TheVariants.{Done, Waiting}

-- With n stages of the transfer reported complete, SETUP counted, the next is an OUT stage: "a bulk OUT, a control Out's data and a control In's status".
abbrev pub sends_next : Live → ℕ → Bool
sends_next no_transfer n = false
sends_next (live (control_begin a x p s phase_in) buf) n = eqb n 2
sends_next (live (control_begin a x p s phase_out) buf) n = eqb n 1
sends_next (live (control_begin a x p s phase_none) buf) n = false
sends_next (live (bulk_begin In a e p t b) buf) n = false
sends_next (live (bulk_begin Out a e p t b) buf) n = eqb n 0

-- The begin's bytes, of an OUT transfer.
abbrev pub LentIts : Live → List ℕ → Type 0
LentIts no_transfer now = Unit {0}
LentIts (live (control_begin a x p s phase_in) buf) now = Unit {0}
LentIts (live (control_begin a x p s phase_out) buf) now = now ≡ buf
LentIts (live (control_begin a x p s phase_none) buf) now = Unit {0}
LentIts (live (bulk_begin In a e p t b) buf) now = Unit {0}
LentIts (live (bulk_begin Out a e p t b) buf) now = now ≡ buf

-- "each step that acted on an OUT transfer was lent its begin's bytes": asked only of a step that arms, which is less.
abbrev pub LentIf : List Event → Live → List ℕ → Type 0
LentIf [] l now = Unit {0}
LentIf (e ∷ es) l now = LentIts l now

-- "an OUT stage was reported complete only after its marked packet was taken"
abbrev pub TakenIf : Bool → Watch → Type 0
TakenIf true w = w ≡ taken
TakenIf false w = Unit {0}

-- Only a step that left the transfer under way or ended it with a count is held to these two, by the packets that it started. One that failed is held to neither:
-- no step that reports an OUT stage complete fails.
abbrev pub CallGood : Note → Live → ℕ → Watch → List Event → Type 0
CallGood (began x buf) l n w es = Unit {0}
CallGood (stepped v y now) l n w es = LentIf es l now × TakenIf (v && sends_next l n) (seen w y)
CallGood (finished y now) l n w es = LentIf es l now × TakenIf (finds y && sends_next l n) (seen w y)
CallGood broke l n w es = Unit {0}
CallGood nothing l n w es = Unit {0}

-- "each started transfer ended with a count", or, for runs with failures, "has ended or been cancelled": at the end none is under way.
unfoldable pub PremisesFrom : Told → List Shown → Type 0
PremisesFrom t [] = t.live ≡ no_transfer
PremisesFrom t (o ∷ os) = CallGood o.note t.live t.stages t.watch (events t.file o.writes) × PremisesFrom (hears t o) os

-- ---- what a list made for a record meets beyond these

-- "each step that acted on an OUT transfer was lent its begin's bytes": document 01's own form, of every step, also one that arms nothing; `PremisesFrom` asks less.
abbrev pub CallLent : Note → Live → Type 0
CallLent (began x buf) l = Unit {0}
CallLent (stepped v y now) l = LentIts l now
CallLent (finished y now) l = LentIts l now
CallLent broke l = Unit {0}
CallLent nothing l = Unit {0}

-- Along a list.
unfoldable pub LentFrom : Told → List Shown → Type 0
LentFrom t [] = Unit {0}
LentFrom t (o ∷ os) = CallLent o.note t.live × LentFrom (hears t o) os

-- A begin isn't refused; a step "answers waiting, done with a count, or a refusal": one of the first two.
abbrev pub Unrefused : (c : Call) → Answer c → Type 0
Unrefused (begin x buf m log) (Ok tt) = Unit {0}
Unrefused (begin x buf m log) (Err why) = ⊥
Unrefused (step b y buf m log) (Ok (Waiting again)) = Unit {0}
Unrefused (step b y buf m log) (Ok (Done k)) = Unit {0}
Unrefused (step b y buf m log) (Err why) = ⊥
Unrefused cancel a = Unit {0}
Unrefused (open_pipe a x e p i log) b = Unit {0}
Unrefused (close_pipe n) a = Unit {0}
Unrefused (poll_pipe n y m log) a = Unit {0}
Unrefused (interrupt ints status log) a = Unit {0}
Unrefused (detect sie log) a = Unit {0}

-- Along a list: each begin and step acted, so "the sample of a step" that shows a packet taken is one of a step that acted.
unfoldable pub UnrefusedFrom : Driver → List Call → Type 0
UnrefusedFrom d [] = Unit {0}
UnrefusedFrom d (c ∷ cs) = let o = call d c in Unrefused c o.answer × UnrefusedFrom o.next cs
