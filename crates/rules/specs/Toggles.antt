-- "Desk rule 1 leaves the bulk toggle as it was when a transfer fails, as the Rust does. Our desk rule 2 flips it once per packet retired before the failure or
-- cancel, the packet refused by 9 not counted, and hands it out with that failure or cancel."
-- The answers are the driver's own; that they are document 01's by its order of checks is what step and cancel promise (`step_row_of`, `cancel_row`).
use Rattle.std.specs.Prelude.{◌≡◌, Bool, true, false, cond, not, ◌&&◌, List, [], ◌∷◌, ℕ, ◌+◌, min, eqb, ltb, length, Err, Ok, Result}
use Rattle.cutting.specs.Cut.{in_cut_of, out_cut}
use Rattle.transfers.specs.declared.wire.Direction.{Direction}
use Rattle.transfers.specs.declared.wire.Direction.TheVariants.{In, Out}
use Rattle.transfers.specs.declared.sample.Sample.{Sample}
use Rattle.transfers.specs.declared.driver.DeskRule.{DeskRule}
use Rattle.transfers.specs.declared.driver.DeskRule.TheVariants.{One, Two}
use Rattle.transfers.specs.declared.driver.Driver.{Driver}
use Rattle.transfers.specs.Refusal.{number_of}
use Rattle.transfers.specs.Calls.{step_of, cancel_of}
use Rattle.transfers.specs.Driver.{fresh, stepped, dropped}
use Rattle.record.specs.Calls.{Begin, control_begin, bulk_begin, Call, begin, step, cancel, open_pipe, close_pipe, poll_pipe, interrupt, detect, Answer, call}
use Rattle.rules.specs.Fields.{read_buffer_control}
use Rattle.rules.specs.Received.{quiet, slot_of}
use Rattle.rules.specs.Sends.{SentTally, was_sent, sent_if, send_two, flip_times}
use Rattle.rules.specs.HandsBack.{ends_transfer}
use Rattle.transfers.specs.declared.answers.Step.TheVariants.{Done, Waiting}
use Rattle.transfers.specs.declared.refusal.Refusal.{Refusal}
use Rattle.transfers.specs.declared.answers.Step.{Step}

-- ---- what the calls, their samples and answers tell of the bulk transfer under way

-- Its direction, the toggle handed in, its packets in number, and how many of them were armed and retired.
pub record BulkUnderWay : Type 0 where
  pub direction : Direction
  pub toggle : Bool
  pub packets : ℕ
  pub tally : SentTally

-- No transfer, or a control; or a bulk transfer.
pub data UnderWay : Type 0 where
  none : UnderWay
  bulk : BulkUnderWay → UnderWay

-- A bulk transfer begins: up to two packets are armed.
abbrev pub starts : Direction → Bool → ℕ → UnderWay
starts d b n = bulk (record { direction = d; toggle = b; packets = n; tally = record { armed = min n 2; retired = 0 } })

-- By what its begin asks for.
abbrev pub began : Begin → List ℕ → UnderWay
began (control_begin a x p s ph) buf = none
began (bulk_begin In a e p k b) buf = starts In b (length (in_cut_of k p b (length buf)))
began (bulk_begin Out a e p k b) buf = starts Out b (length (out_cut k p b buf))

-- The next packet in flight is done with: its slot is FULL where it was received, not FULL any more where it was sent.
abbrev pub is_done : Direction → ℕ → SentTally → Bool
is_done In w s = ltb s.retired s.armed && (read_buffer_control w (slot_of s.retired)).FULL
is_done Out w s = was_sent w s

-- One slot, by the word of EP_BUFFER_CONTROL.
unfoldable pub done_one : Direction → ℕ → SentTally → SentTally
done_one d w s = sent_if (is_done d w s) s

-- "retire up to two slots"
abbrev pub done_two : Direction → ℕ → SentTally → SentTally
done_two d w s = done_one d w (done_one d w s)

-- A step that answers waiting: "None of these: retire up to two slots, arm up to two"; with nothing raised it does neither.
abbrev pub tallied_by : Bool → Direction → ℕ → ℕ → SentTally → SentTally
tallied_by true d packets w s = s
tallied_by false d packets w s = send_two packets w (done_two d w s)

-- The transfer after such a step.
abbrev pub moved_on : BulkUnderWay → Sample → BulkUnderWay
moved_on u y =
    record { direction = u.direction; toggle = u.toggle; packets = u.packets; tally = tallied_by (quiet y) u.direction u.packets y.buffers u.tally }

-- After a step, by its answer: done, 1 to 7 and 9 end it, waiting and any other number leave it.
abbrev pub stepped_on : UnderWay → Sample → Result Step Refusal → UnderWay
stepped_on none y a = none
stepped_on (bulk u) y (Ok (Waiting again)) = bulk (moved_on u y)
stepped_on (bulk u) y (Ok (Done count)) = none
stepped_on (bulk u) y (Err why) = cond (ends_transfer (number_of why)) none (bulk u)

-- After a call and its answer.
abbrev pub tells : UnderWay → (c : Call) → Answer c → UnderWay
tells u (begin x buf m log) (Ok tt) = began x buf
tells u (begin x buf m log) (Err why) = u
tells u (step filling y buf m log) a = stepped_on u y a
tells u cancel (Ok tt) = none
tells u cancel (Err why) = u
tells u (open_pipe a x e p i log) r = u
tells u (close_pipe n) r = u
tells u (poll_pipe n y m log) r = u
tells u (interrupt ints status log) r = u
tells u (detect sie log) r = u

-- ---- what goes out

-- With a failure or a cancel, after so many packets retired.
abbrev pub failing : DeskRule → Bool → ℕ → Bool
failing One b n = b
failing Two b n = flip_times b n

-- The packets retired before a step's number n: those of earlier steps, for 1 to 7 come before any retire; at 9, where the long packet is in the next slot or the one
-- after it, also the next slot's, if that isn't the long one.
abbrev pub retired_before : ℕ → BulkUnderWay → Sample → ℕ
retired_before n u y =
    let r = u.tally.retired in
    cond (eqb n 9 && not (ltb 64 (read_buffer_control y.buffers (slot_of r)).LENGTH)) (r + 1) r

-- With a step, by its answer; a control transfer has no toggle, nor has nothing under way, and false goes out.
abbrev pub StepToggle : DeskRule → UnderWay → Sample → Result Step Refusal → Bool → Type 0
StepToggle rule none y a out = out ≡ false
StepToggle rule (bulk u) y (Ok (Waiting again)) out = out ≡ u.toggle
StepToggle rule (bulk u) y (Ok (Done count)) out = out ≡ flip_times u.toggle (done_two u.direction y.buffers u.tally).retired
StepToggle rule (bulk u) y (Err why) out = out ≡ cond (ends_transfer (number_of why)) (failing rule u.toggle (retired_before (number_of why) u y)) u.toggle

-- With a cancel, which no bulk transfer under way refuses.
abbrev pub CancelToggle : DeskRule → UnderWay → Result (Unit {0}) Refusal → Bool → Type 0
CancelToggle rule none a out = out ≡ false
CancelToggle rule (bulk u) (Ok tt) out = out ≡ failing rule u.toggle u.tally.retired
CancelToggle rule (bulk u) (Err why) out = ⊥

-- With a call: only steps and cancels hand a toggle out.
abbrev pub CallToggle : DeskRule → UnderWay → Driver → Call → Type 0
CallToggle rule u d (begin x buf m log) = Unit {0}
CallToggle rule u d (step filling y buf m log) = let r = stepped d (step_of filling d.transfer y buf m log) in StepToggle rule u y r.answer r.toggle
CallToggle rule u d cancel = let r = dropped d (cancel_of d.transfer) in CancelToggle rule u r.answer r.toggle
CallToggle rule u d (open_pipe a x e p i log) = Unit {0}
CallToggle rule u d (close_pipe n) = Unit {0}
CallToggle rule u d (poll_pipe n y m log) = Unit {0}
CallToggle rule u d (interrupt ints status log) = Unit {0}
CallToggle rule u d (detect sie log) = Unit {0}

-- Along a list of calls.
unfoldable pub TogglesFrom : DeskRule → UnderWay → Driver → List Call → Type 0
TogglesFrom rule u d [] = Unit {0}
TogglesFrom rule u d (c ∷ cs) = let o = call d c in CallToggle rule u d c × TogglesFrom rule (tells u c o.answer) o.next cs

-- "The rule is given when the driver is made": for every list of calls, whatever is lent and sampled.
abbrev pub Toggles : Type 0
Toggles = (rule : DeskRule) (cs : List Call) → TogglesFrom rule none (fresh rule) cs
