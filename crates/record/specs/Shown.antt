-- What the driver's calls show.
use Rattle.std.specs.Prelude.{Bool, false, cond, ◌||◌, List, [], ◌∷◌, ℕ, eqb, leb, Err, Ok, Result}
use Rattle.transfers.specs.declared.refusal.Refusal.{Refusal}
use Rattle.transfers.specs.declared.driver.Driver.{Driver}
use Rattle.transfers.specs.declared.sample.Sample.{Sample}
use Rattle.transfers.specs.Refusal.{number_of}
use Rattle.record.specs.Calls.{Call, begin, step, cancel, open_pipe, close_pipe, poll_pipe, interrupt, detect, Answer, Effect, call}
use Rattle.record.specs.Told.{finds, Note, began, stepped, finished, broke, nothing, Writer, its_memory, any_memory, not_called, Shown}
use Rattle.transfers.specs.declared.answers.Step.TheVariants.{Done, Waiting}
use Rattle.transfers.specs.declared.answers.Step.{Step}

-- "1 to 7 and 9 end the transfer": of a step's refusals these; 15 and 16 leave it.
abbrev pub ends : Refusal → Bool
ends why = leb (number_of why) 7 || eqb (number_of why) 9

-- Of a step: "the step that finds TRANS_COMPLETE reports one complete".
abbrev pub note_step : Result Step Refusal → Sample → List ℕ → Note
note_step (Ok (Waiting again)) y now = stepped (finds y) y now
note_step (Ok (Done k)) y now = finished y now
note_step (Err why) y now = cond (ends why) broke (stepped false y now)

-- Of a call: a refused begin, a refused cancel and the calls on pipes tell nothing.
abbrev pub note : (c : Call) → Answer c → Note
note (begin x buf m log) (Ok tt) = began x buf
note (begin x buf m log) (Err why) = nothing
note (step b y buf m log) a = note_step a y buf
note cancel (Ok tt) = broke
note cancel (Err why) = nothing
note (open_pipe a x e p i log) b = nothing
note (close_pipe n) a = nothing
note (poll_pipe n y m log) a = nothing
note (interrupt ints status log) a = nothing
note (detect sie log) a = nothing

-- The writer is called "after every begin and step with the packet memory as that call left it", and "after cancels too", which are lent none.
abbrev pub writer_after : Call → Writer
writer_after (begin x buf m log) = its_memory
writer_after (step b y buf m log) = its_memory
writer_after cancel = any_memory
writer_after (open_pipe a x e p i log) = not_called
writer_after (close_pipe n) = not_called
writer_after (poll_pipe n y m log) = not_called
writer_after (interrupt ints status log) = not_called
writer_after (detect sie log) = not_called

-- What a call shows.
abbrev pub shown : (c : Call) → Effect c → Shown
shown c o = record { note = note c o.answer; writes = o.writes; memory = o.memory; armed = o.armed; failed = o.failed; writer = writer_after c }

-- What a list of calls shows, "each getting the state the last one returned".
unfoldable pub shown_from : Driver → List Call → List Shown
shown_from d [] = []
shown_from d (c ∷ cs) = let o = call d c in shown c o ∷ shown_from o.next cs
