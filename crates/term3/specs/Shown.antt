-- What the calls show.
use Rattle.std.specs.Prelude.{List, [], ◌∷◌, ◌++◌, ℕ, Err, Ok, Result}
use Rattle.host.specs.declared.controller.HostController.{HostController}
use Rattle.record.specs.Told.{Note, began, nothing, its_memory, Shown}
use Rattle.record.specs.Shown as D
use Rattle.term3.specs.Calls.{Call, submit, whose_turn, start, driver, Effect, call}
use Rattle.term3.specs.Callers.{Callers, hears}
use Rattle.transfers.specs.declared.refusal.Refusal.{Refusal}

-- A start begins what its caller came with, with the buffer lent.
abbrev pub start_note : Callers → Result ℕ Refusal → List ℕ → Note
start_note t (Ok c) buf = began (t.came c).fields buf
start_note t (Err why) buf = nothing

-- A coming and a look are lent no log and no memory: there is nothing to show. A start shows what a begin does; the driver's calls what they do there.
abbrev pub shown : Callers → (c : Call) → Effect c → List Shown
shown t (submit c x n f) o = []
shown t (whose_turn f) o = []
shown t (start k f buf m log) o =
    record { note = start_note t o.answer buf; writes = o.writes; memory = o.memory; armed = o.armed; failed = o.failed; writer = its_memory } ∷ []
shown t (driver c e) o =
    record { note = D.note c o.answer; writes = o.writes; memory = o.memory; armed = o.armed; failed = o.failed; writer = D.writer_after c } ∷ []

-- What a list of calls shows, "each getting the state the last one returned".
unfoldable pub shown_from : Callers → HostController → List Call → List Shown
shown_from t d [] = []
shown_from t d (c ∷ cs) = let o = call d c in shown t c o ++ shown_from (hears t c o.answer) o.next cs
