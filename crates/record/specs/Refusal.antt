-- Document 01's numbers of what the record's writer and reader refuse.
use Rattle.std.specs.Prelude.{ℕ, Err, Ok, Result}
use Rattle.record.specs.declared.refusal.Refusal.{Refusal}
use Rattle.record.specs.declared.refusal.Refusal.TheVariants.{LentMemory, Mark, Field, Grammar, Room}
use Rattle.transfers.specs.Reply.{Reply, result, number}

-- "15 packet memory not 4,096 bytes", "18 mark or version", "19 a field outside its range", "20 .. no grammatical end is possible", "21 .. don't fit the rest"
abbrev pub number_of : Refusal → ℕ
number_of LentMemory = 15
number_of Mark = 18
number_of Field = 19
number_of Grammar = 20
number_of Room = 21

-- "Where an answer is an enum, a definition gives this paper's number and values for each of its cases": the writer's used length, or a number.
abbrev pub append_reply : Result ℕ Refusal → Reply ℕ
append_reply (Ok n) = result n
append_reply (Err why) = number (number_of why)

-- The reader's count of transfers, or a number.
abbrev pub check_reply : Result ℕ Refusal → Reply ℕ
check_reply (Ok n) = result n
check_reply (Err why) = number (number_of why)
