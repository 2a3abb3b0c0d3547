-- What the driver's own functions of begin and cancel are held to.
use Rattle.std.specs.Prelude.{◌≡◌, ℕ, List, length, Err, Option}
use Rattle.transfers.specs.declared.refusal.Refusal.{Refusal}
use Rattle.transfers.specs.declared.begin.Cancelled.{Cancelled}
use Rattle.transfers.specs.declared.control.Begun.{Begun}
use Rattle.transfers.specs.Log.{logged}
use Rattle.transfers.specs.Answers.{nothing_armed}
use Rattle.transfers.specs.Calls.{Cancelling, Beginning}
use Rattle.transfers.specs.declared.driver.Run.{Run}

-- What the transfer's cancel hands back.
abbrev pub cancels : Cancelling → Cancelled
cancels o = record { next = o.next; answer = o.answer; toggle = o.toggle; moved = o.moved }

-- What a refused begin hands back.
abbrev pub refusing : Option Run → Refusal → Begun (Option Run)
refusing t e = record { next = t; answer = Err e; armed = nothing_armed; writes = 0 }

-- A begin did as defined: its result, packet memory and log.
pub record Begins (o : Beginning) (l : List ℕ) (r : Begun (Option Run)) (m' l' : List ℕ) : Type 0 where
  pub result : r ≡ record { next = o.next; answer = o.answer; armed = o.armed; writes = length o.writes }
  pub memory : m' ≡ o.memory
  pub log : l' ≡ logged l 0 o.writes
