-- "The answer to each public call .. is a result or one number from document 01's table." (term 1)
-- "Where an answer is an enum, a definition gives this paper's number and values for each of its cases."
use Rattle.std.specs.Prelude.{ℕ, Bool, Err, None, Ok, Option, Result, Some}
use Rattle.transfers.specs.declared.host_controller.DeviceStatus.{DeviceStatus}
use Rattle.transfers.specs.declared.irq.Wake.{Wake}
use Rattle.transfers.specs.Refusal.{number_of}
use Rattle.transfers.specs.declared.answers.Step.TheVariants.{Done, Waiting}
use Rattle.transfers.specs.declared.refusal.Refusal.{Refusal}
use Rattle.transfers.specs.declared.answers.Step.{Step}
use Rattle.pool.specs.declared.pipe.PipeNumber.{PipeNumber}
use Rattle.transfers.specs.declared.pipes.Poll.TheVariants.{Packet, Waiting as poll_waiting}
use Rattle.transfers.specs.declared.pipes.Poll.{Poll}

-- A result, or a number.
pub data Reply (A : Type 0) : Type 0 where
  result : A → Reply A
  number : ℕ → Reply A

-- A begin has no result of its own.
abbrev pub begin_reply : Result (Unit {0}) Refusal → Reply (Unit {0})
begin_reply (Ok tt) = result tt
begin_reply (Err why) = number (number_of why)

-- A step "answers waiting, done with a count, or a refusal". `waiting true`: the poll was ready.
pub data StepResult : Type 0 where
  waiting : Bool → StepResult
  done : ℕ → StepResult

-- A step's answer.
abbrev pub step_reply : Result Step Refusal → Reply StepResult
step_reply (Ok (Waiting again)) = result (waiting again)
step_reply (Ok (Done k)) = result (done k)
step_reply (Err why) = number (number_of why)

-- A cancel's answer.
abbrev pub cancel_reply : Result (Unit {0}) Refusal → Reply (Unit {0})
cancel_reply (Ok tt) = result tt
cancel_reply (Err why) = number (number_of why)

-- An open answers the number of the pipe.
abbrev pub open_reply : Result PipeNumber Refusal → Reply ℕ
open_reply (Ok n) = result n.0
open_reply (Err why) = number (number_of why)

-- A close's answer.
abbrev pub close_reply : Result (Unit {0}) Refusal → Reply (Unit {0})
close_reply (Ok tt) = result tt
close_reply (Err why) = number (number_of why)

-- A poll answers a packet or waiting.
pub data PollResult : Type 0 where
  packet : PollResult
  no_packet : PollResult

-- A poll's answer.
abbrev pub poll_reply : Result Poll Refusal → Reply PollResult
poll_reply (Ok Packet) = result packet
poll_reply (Ok poll_waiting) = result no_packet
poll_reply (Err why) = number (number_of why)

-- The interrupt routine "answers the set of pipes to wake and whether to wake detection".
abbrev pub irq_reply : Result Wake Refusal → Reply Wake
irq_reply (Ok w) = result w
irq_reply (Err why) = number (number_of why)

-- Detection "answers a change from the last status or waiting".
pub data DetectResult : Type 0 where
  changed : DeviceStatus → DetectResult
  unchanged : DetectResult

-- Detection's answer.
abbrev pub detect_reply : Result (Option DeviceStatus) Refusal → Reply DetectResult
detect_reply (Ok (Some s)) = result (changed s)
detect_reply (Ok None) = result unchanged
detect_reply (Err why) = number (number_of why)
