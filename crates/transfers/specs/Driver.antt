-- The calls on the driver: what each one hands back.
use Rattle.std.specs.Prelude.{◌≡◌, ℕ, Bool, List, length, None, Option}
use Rattle.transfers.specs.declared.host_controller.DeviceStatus.TheVariants.{Absent}
use Rattle.transfers.specs.declared.driver.DeskRule.{DeskRule}
use Rattle.transfers.specs.declared.driver.DeskRule.TheVariants.{One, Two}
use Rattle.transfers.specs.declared.driver.Driver.{Driver}
use Rattle.transfers.specs.declared.control.Begun.{Begun}
use Rattle.transfers.specs.declared.control.Stepped.{Stepped}
use Rattle.transfers.specs.declared.control.Dropped.{Dropped}
use Rattle.transfers.specs.declared.progress.Progress.{Progress}
use Rattle.transfers.specs.Log.{logged}
use Rattle.transfers.specs.Outcome.{Outcome}
use Rattle.transfers.specs.Calls.{Cancelling, Beginning}
use Rattle.transfers.specs.Entries.{entries_begun, entries_stepped, entries_cancelled, failed_step, failed_cancel}
use Rattle.transfers.specs.Pipes.{fresh_pipes}
use Rattle.transfers.specs.declared.driver.Run.{Run}

-- "A fresh driver has no transfer, no pipe open and the last status absent." "The rule is given when the driver is made."
abbrev pub fresh : DeskRule → Driver
fresh rule = record { transfer = None; entries = 0; pipes = fresh_pipes; last = Absent; rule = rule }

-- Another transfer, and the count of its entries; pipes, last status and desk rule stay.
abbrev pub with_transfer : Driver → Option Run → ℕ → Driver
with_transfer d t n = record { transfer = t; entries = n; pipes = d.pipes; last = d.last; rule = d.rule }

-- The toggle that goes out, of the two that a call's definition has for desk rule 1 and rule 2.
abbrev pub toggle_by_rule : DeskRule → Bool → Bool → Bool
toggle_by_rule One t v = t
toggle_by_rule Two t v = v

-- What the driver's begin hands back.
abbrev pub begun : Driver → Beginning → Begun Driver
begun d o = record { next = with_transfer d o.next (entries_begun o.answer d.entries o.armed); answer = o.answer; armed = o.armed; writes = length o.writes }

-- What its step hands back.
abbrev pub stepped : Driver → Outcome → Stepped
stepped d o = record {
  next = with_transfer d o.next (entries_stepped o.answer d.entries o.armed);
  answer = o.answer;
  toggle = toggle_by_rule d.rule o.toggle o.moved;
  armed = o.armed;
  failed = failed_step o.answer d.entries;
  writes = length o.writes;
}

-- What its cancel hands back.
abbrev pub dropped : Driver → Cancelling → Dropped
dropped d o = record { next = with_transfer d o.next (entries_cancelled o.answer d.entries); answer = o.answer; toggle = toggle_by_rule d.rule o.toggle o.moved; failed = failed_cancel o.answer d.entries }

-- The two from the results of the driver's own functions.
abbrev pub begun_from : Driver → Begun (Option Run) → Begun Driver
begun_from d b = record { next = with_transfer d b.next (entries_begun b.answer d.entries b.armed); answer = b.answer; armed = b.armed; writes = b.writes }

-- The same of a step.
abbrev pub stepped_from : Driver → Progress → ℕ → Stepped
stepped_from d p n = record {
  next = with_transfer d p.next (entries_stepped p.answer d.entries p.armed);
  answer = p.answer;
  toggle = toggle_by_rule d.rule p.toggle p.moved;
  armed = p.armed;
  failed = failed_step p.answer d.entries;
  writes = n;
}

-- A begin's results: the answer with the next state, packet memory, and the log.
pub record DidBegin (d : Driver) (o : Beginning) (l : List ℕ) (r : Begun Driver) (m' l' : List ℕ) : Type 0 where
  pub result : r ≡ begun d o
  pub memory : m' ≡ o.memory
  pub log : l' ≡ logged l 0 o.writes

-- A step's results.
pub record DidStep (d : Driver) (o : Outcome) (l : List ℕ) (r : Stepped) (m' l' : List ℕ) : Type 0 where
  pub result : r ≡ stepped d o
  pub memory : m' ≡ o.memory
  pub log : l' ≡ logged l 0 o.writes
