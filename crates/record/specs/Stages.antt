-- The OUT stages that the premises speak of are those in which OUT packets were armed.
use Rattle.std.specs.Prelude.{◌≡◌, Bool, true, false, cond, ◌||◌, List, [], ◌∷◌}
use Rattle.record.specs.Wire.{Event, setup_at, out_at, events}
use Rattle.record.specs.Told.{Note, began, stepped, finished, broke, nothing, Shown, Told, hears}
use Rattle.record.specs.Premises.{sends_next}

-- A call starts an OUT packet.
abbrev pub any_out : List Event → Bool
any_out [] = false
any_out (setup_at lo hi ∷ es) = any_out es
any_out (out_at s b last n ∷ es) = true

-- A stage ends: with a begin, with a stage that is reported complete, and with the transfer.
abbrev pub turns : Note → Bool
turns (began x buf) = true
turns (stepped v y now) = v
turns (finished y now) = true
turns broke = true
turns nothing = false

-- An OUT packet was armed in the stage under way, after a call that started these.
abbrev pub next_sends : Note → Bool → List Event → Bool
next_sends k b es = cond (turns k) (any_out es) (b || any_out es)

-- "OUT stages are a bulk OUT, a control Out's data and a control In's status": along a list, the count of stages says that the one under way is such a stage
-- exactly where an OUT packet was armed in it (b).
unfoldable pub StagesFrom : Bool → Told → List Shown → Type 0
StagesFrom b t [] = sends_next t.live t.stages ≡ b
StagesFrom b t (o ∷ os) = (sends_next t.live t.stages ≡ b) × StagesFrom (next_sends o.note b (events t.file o.writes)) (hears t o) os
