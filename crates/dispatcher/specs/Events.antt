-- The turns, event by event, and what is counted of them. Here the turn passes at the end of a transfer itself; `current` brings what is stored to this.
use Rattle.std.specs.Prelude.{◌≡◌, Bool, true, false, cond, List, [], ◌∷◌, ℕ, ◌+◌, ◌<◌, eqb}
use Rattle.dispatcher.specs.declared.Dispatcher.{Dispatcher}
use Rattle.dispatcher.specs.Dispatcher.{pending_at, requested_at, fits, passes, submits, observes, whose, starts}

-- What a call and its answer tell: an accepted coming with its caller, bytes and frame number, a look with its frame number, an accepted start with its caller and frame
-- number, a call that ended the transfer under way, by cancel too; and any other call, refused ones among them.
pub data Event : Type 0 where
  submitted : ℕ → ℕ → ℕ → Event
  observed : ℕ → Event
  started : ℕ → ℕ → Event
  ended : Event
  nothing : Event

-- ---- what it does: `idle` says that no transfer is under way

-- To the turns. A start charges what its caller came with.
abbrev pub moved : Bool → Dispatcher → Event → Dispatcher
moved idle t (submitted c n f) = submits idle t c n f
moved idle t (observed f) = observes idle t f
moved idle t (started c f) = starts (observes idle t f) c (requested_at t c)
moved idle t ended = passes t
moved idle t nothing = t

-- To the control pipe.
abbrev pub idle_after : Bool → Event → Bool
idle_after idle (submitted c n f) = idle
idle_after idle (observed f) = idle
idle_after idle (started c f) = false
idle_after idle ended = true
idle_after idle nothing = idle

-- ---- what may happen

-- What the refusals leave: a coming is not of "a caller above 7" (32) or of one "that already waits" (33); a start is of the caller whose turn it is, while none is under
-- way (16), and that caller fits; and only a transfer under way ends.
abbrev pub Allowed : Bool → Dispatcher → Event → Type 0
Allowed idle t (submitted c n f) = (c < 8) × (pending_at t c ≡ false)
Allowed idle t (observed f) = Unit {0}
Allowed idle t (started c f) = (idle ≡ true) × (c < 8) × (whose idle (observes idle t f) ≡ c) × (fits (observes idle t f) c ≡ true)
Allowed idle t ended = idle ≡ false
Allowed idle t nothing = Unit {0}

-- Of a list of events, each.
abbrev pub AllAllowed : Bool → Dispatcher → List Event → Type 0
AllAllowed idle t [] = Unit {0}
AllAllowed idle t (x ∷ xs) = Allowed idle t x × AllAllowed (idle_after idle x) (moved idle t x) xs

-- ---- "at most seven transfers of others end between a caller's coming and its turn"

-- Whose transfer is under way, or was last: the last that started.
abbrev pub runner : ℕ → Event → ℕ
runner r (submitted c n f) = r
runner r (observed f) = r
runner r (started c f) = c
runner r ended = r
runner r nothing = r

-- A transfer of another than c ends; r is whose it is.
abbrev pub ends_other : ℕ → ℕ → Event → ℕ
ends_other c r (submitted d n f) = 0
ends_other c r (observed f) = 0
ends_other c r (started d f) = 0
ends_other c r ended = cond (eqb r c) 0 1
ends_other c r nothing = 0

-- How many transfers of others end until c has the turn.
unfoldable pub others_end : ℕ → ℕ → Bool → Dispatcher → List Event → ℕ
others_end c r idle t [] = 0
others_end c r idle t (x ∷ xs) = cond (eqb (whose idle t) c) 0 (ends_other c r x + others_end c (runner r x) (idle_after idle x) (moved idle t x) xs)
