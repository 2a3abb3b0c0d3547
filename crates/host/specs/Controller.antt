-- "Up to eight lists share one control pipe.": the driver, the turns, and what each caller came with.
use Rattle.std.specs.Prelude.{Bool, List, ℕ, set, get_or, replicate}
use Rattle.transfers.specs.declared.driver.DeskRule.{DeskRule}
use Rattle.transfers.specs.declared.driver.Driver.{Driver}
use Rattle.transfers.specs.Calls.{is_idle}
use Rattle.transfers.specs.Driver as D
use Rattle.dispatcher.specs.declared.Dispatcher.{Dispatcher}
use Rattle.dispatcher.specs.Dispatcher as T
use Rattle.dispatcher.specs.Dispatcher.{current, whose, observes}
use Rattle.host.specs.declared.fields.Fields.{Fields}
use Rattle.host.specs.declared.controller.HostController.{HostController}
use Rattle.host.specs.Fields.{no_fields}

-- A fresh driver, "for each caller a 32-bit share, given when it is made", and nobody came.
abbrev pub fresh_host : DeskRule → List ℕ → HostController
fresh_host rule quota = record { driver = D.fresh rule; dispatcher = T.fresh quota; submissions = replicate 8 no_fields }

-- No transfer is under way.
abbrev pub idle : HostController → Bool
idle d = is_idle d.driver.transfer

-- The turns as of now: "When a transfer ends, by cancel too, the turn passes". Steps and cancels don't write it down; the next coming, look or start does.
abbrev pub dispatcher_now : HostController → Dispatcher
dispatcher_now d = current (idle d) d.dispatcher

-- What caller c came with last.
abbrev pub fields_at : HostController → ℕ → Fields
fields_at d c = get_or d.submissions c no_fields

-- Caller c comes with these.
abbrev pub with_fields : HostController → ℕ → Fields → HostController
with_fields d c x = record { driver = d.driver; dispatcher = d.dispatcher; submissions = set d.submissions c x }

-- Other turns.
abbrev pub with_dispatcher : HostController → Dispatcher → HostController
with_dispatcher d t = record { driver = d.driver; dispatcher = t; submissions = d.submissions }

-- "Every coming, look and start brings the frame number.": as a look in frame f leaves it.
abbrev pub observed : HostController → ℕ → HostController
observed d f = with_dispatcher d (observes (idle d) (dispatcher_now d) f)

-- "whose turn it is, nobody's while a transfer is under way", of a host controller that has just been looked at.
abbrev pub turn_of : HostController → ℕ
turn_of d = whose (idle d) d.dispatcher

-- Step, cancel, open, close, poll and detection are the driver's calls, and change nothing else.
abbrev pub with_driver : HostController → Driver → HostController
with_driver d e = record { driver = e; dispatcher = d.dispatcher; submissions = d.submissions }
