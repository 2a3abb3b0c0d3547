-- What a coming, a look and a start answer, as results and the documents' numbers.
use Rattle.std.specs.Prelude.{ℕ, Err, None, Ok, Option, Result, Some}
use Rattle.transfers.specs.Refusal as T
use Rattle.transfers.specs.Reply.{Reply, result, number}
use Rattle.host.specs.Refusal.{number_of}
use Rattle.transfers.specs.declared.refusal.Refusal.{Refusal}
use Rattle.host.specs.declared.answers.SubmitRefusal.{SubmitRefusal}

-- A coming has no result of its own.
abbrev pub submit_reply : Result (Unit {0}) SubmitRefusal → Reply (Unit {0})
submit_reply (Ok tt) = result tt
submit_reply (Err why) = number (number_of why)

-- "A look, never refused, answers whose turn it is": a caller's, or nobody's.
pub data Whose : Type 0 where
  caller : ℕ → Whose
  nobodys : Whose

-- A look's answer.
abbrev pub turn_reply : Option ℕ → Reply Whose
turn_reply (Some c) = result (caller c)
turn_reply None = result nobodys

-- A start answers the caller whose transfer started.
abbrev pub start_reply : Result ℕ Refusal → Reply ℕ
start_reply (Ok c) = result c
start_reply (Err why) = number (T.number_of why)
