-- How many entries of the wire record a transfer has armed, and which calls answer it (request R-13).
use Rattle.std.specs.Prelude.{ℕ, ◌+◌, ◌%◌, Bool, cond, ◌||◌, ◌==◌, nat_le, Err, None, Ok, Option, Result, Some}
use Rattle.transfers.specs.declared.refusal.Refusal.{Refusal}
use Rattle.transfers.specs.declared.answers.Armed.{Armed}
use Rattle.transfers.specs.Refusal.{number_of}
use Rattle.transfers.specs.declared.answers.Step.TheVariants.{Done, Waiting}
use Rattle.transfers.specs.declared.answers.Step.{Step}
use Rattle.transfers.specs.declared.answers.ArmedOut.{ArmedOut}
use Rattle.transfers.specs.declared.answers.ArmedSetup.{ArmedSetup}

-- A SETUP is one entry.
abbrev pub setup_count : Option ArmedSetup → ℕ
setup_count None = 0
setup_count (Some s) = 1

-- So is an OUT packet.
abbrev pub out_count : Option ArmedOut → ℕ
out_count None = 0
out_count (Some x) = 1

-- All that a call armed.
abbrev pub armed_count : Armed → ℕ
armed_count a = setup_count a.setup + out_count a.first + out_count a.second

-- "a 32-bit count": it goes round at 2^32, which no transfer reaches.
abbrev pub word : ℕ → ℕ
word n = n % 0x1_0000_0000

-- The entries of a transfer that goes on.
abbrev pub tally : ℕ → Armed → ℕ
tally n a = word (n + armed_count a)

-- "ends by 1 to 7 or 9": of a step's refusals these end the transfer, 15 and 16 leave all as it was.
abbrev pub ends : Refusal → Bool
ends why = nat_le (number_of why) 7 || number_of why == 9

-- A begin starts the count with what it armed; one that is refused leaves it.
abbrev pub entries_begun : Result (Unit {0}) Refusal → ℕ → Armed → ℕ
entries_begun (Ok tt) n a = armed_count a
entries_begun (Err why) n a = n

-- With nothing under way the count is 0.
abbrev pub entries_stepped : Result Step Refusal → ℕ → Armed → ℕ
entries_stepped (Ok (Waiting again)) n a = tally n a
entries_stepped (Ok (Done k)) n a = 0
entries_stepped (Err why) n a = cond (ends why) 0 n

-- The same of a cancel.
abbrev pub entries_cancelled : Result (Unit {0}) Refusal → ℕ → ℕ
entries_cancelled (Ok tt) n = 0
entries_cancelled (Err why) n = n

-- "that step or cancel answers the count": a step that fails arms nothing.
abbrev pub failed_step : Result Step Refusal → ℕ → Option ℕ
failed_step (Ok (Waiting again)) n = None
failed_step (Ok (Done k)) n = None
failed_step (Err why) n = cond (ends why) (Some n) None

-- The same of a cancel.
abbrev pub failed_cancel : Result (Unit {0}) Refusal → ℕ → Option ℕ
failed_cancel (Ok tt) n = Some n
failed_cancel (Err why) n = None
