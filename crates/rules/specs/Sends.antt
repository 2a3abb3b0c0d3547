-- A bulk OUT from its begin to its done, told by the samples that its steps were lent: how many packets were retired, and what the caller gets.
-- Bits, masks and addresses are document 01's and the datasheet's numbers. Of the driver it takes only the calls and their answers.
use Rattle.std.specs.Prelude.{◌≡◌, Bool, true, false, not, ◌&&◌, List, [], ◌∷◌, ◌++◌, ℕ, zero, suc, ◌+◌, min, eqb, ltb, length, None, Ok, Option}
use Rattle.cutting.specs.declared.transfer_type.TransferType.{TransferType}
use Rattle.cutting.specs.Cut.{out_cut}
use Rattle.transfers.specs.Outcome.{Outcome}
use Rattle.transfers.specs.Calls.{begin_bulk_out_of}
use Rattle.rules.specs.Fields.{read_buffer_control}
use Rattle.rules.specs.Received.{quiet, complete, ends_stage, slot_of, StepCall, lent_well, arm_one, step_by}
use Rattle.transfers.specs.declared.answers.Step.TheVariants.{Done}
use Rattle.transfers.specs.declared.driver.Run.{Run}

-- ---- what a step is lent

-- A call of `step_out`: whatever bytes it is lent.
pub record SendCall : Type 0 where
  pub call : StepCall
  pub bytes : List ℕ

-- "15 packet memory not 4,096 bytes, or log below 192 words" and "15 buffer length not that of begin", which was n; else the call is not refused.
abbrev pub acting : ℕ → SendCall → Bool
acting n z = lent_well z.call && eqb (length z.bytes) n

-- ---- what the samples tell

-- So far: how many packets were armed, and how many of them retired.
pub record SentTally : Type 0 where
  pub armed : ℕ
  pub retired : ℕ

-- The next packet is in flight, and its slot isn't FULL any more.
abbrev pub was_sent : ℕ → SentTally → Bool
was_sent w s = ltb s.retired s.armed && not (read_buffer_control w (slot_of s.retired)).FULL

-- It is retired.
abbrev pub sent_if : Bool → SentTally → SentTally
sent_if false s = s
sent_if true s = record { armed = s.armed; retired = s.retired + 1 }

-- One slot, by the word of EP_BUFFER_CONTROL.
unfoldable pub sent_one : ℕ → SentTally → SentTally
sent_one w s = sent_if (was_sent w s) s

-- "retire up to two slots"
abbrev pub sent_two : ℕ → SentTally → SentTally
sent_two w s = sent_one w (sent_one w s)

-- "arm up to two", of so many packets.
abbrev pub send_two : ℕ → ℕ → SentTally → SentTally
send_two packets w s = record { armed = arm_one packets w s.retired (arm_one packets w s.retired s.armed); retired = s.retired }

-- A step, by whether it acts, is quiet, and complete: "None of these: retire up to two slots, arm up to two"; "A completed data or status stage also retires up to two."
abbrev pub sent_by : Bool → Bool → Bool → ℕ → ℕ → SentTally → SentTally
sent_by false q c packets w s = s
sent_by true true c packets w s = s
sent_by true false true packets w s = sent_two w s
sent_by true false false packets w s = send_two packets w (sent_two w s)

-- A step of a transfer of n bytes.
unfoldable pub sent_step : ℕ → ℕ → SendCall → SentTally → SentTally
sent_step packets n z s = let y = z.call.sample in sent_by (acting n z) (quiet y) (complete y) packets y.buffers s

-- A list of steps.
unfoldable pub sent_steps : ℕ → ℕ → SentTally → List SendCall → SentTally
sent_steps packets n s [] = s
sent_steps packets n s (z ∷ zs) = sent_steps packets n (sent_step packets n z s) zs

-- How many packets the steps of a bulk OUT retired, with so many to send: its begin armed up to two.
abbrev pub sent : ℕ → ℕ → List SendCall → ℕ
sent packets n zs = (sent_steps packets n (record { armed = min packets 2; retired = 0 }) zs).retired

-- ---- the calls

-- `step_out`.
abbrev pub step_out : Option Run → SendCall → Outcome
step_out t z = step_by false (record { transfer = t; buffer = z.bytes }) z.call

-- A list of steps, each of which gets the state that the one before it handed back.
unfoldable pub after_sends : Option Run → List SendCall → Option Run
after_sends t [] = t
after_sends t (z ∷ zs) = after_sends (step_out t z).next zs

-- ---- what the caller gets

-- "The bulk toggle flips once per retired packet".
unfoldable pub flip_times : Bool → ℕ → Bool
flip_times b zero = b
flip_times b (suc k) = not (flip_times b k)

-- For every list of steps from a bulk OUT begin that is accepted, refused and waiting ones among them:
pub record Sends : Type 0 where
  -- the step that answers done counts the buffer, and hands out the toggle flipped once per packet;
  pub bulk : (t : Option Run) (a e p : ℕ) (k : TransferType) (b : Bool) (lent m log : List ℕ) (zs : List SendCall) (z : SendCall) (count : ℕ)
      → (begin_bulk_out_of t a e p k b lent m log).answer ≡ Ok tt
      → let o = step_out (after_sends (begin_bulk_out_of t a e p k b lent m log).next zs) z in
      let got = sent (length (out_cut k p b lent)) (length lent) (zs ++ (z ∷ [])) in
      o.answer ≡ Ok (Done count) → (count ≡ length lent) × (o.toggle ≡ flip_times b got) × (o.next ≡ None)
  -- while it is under way, "TRANS_COMPLETE wins": a step that acts and finds it answers done.
  pub completed : (t : Option Run) (a e p : ℕ) (k : TransferType) (b : Bool) (lent m log : List ℕ) (zs : List SendCall) (z : SendCall)
      → (begin_bulk_out_of t a e p k b lent m log).answer ≡ Ok tt
      → let u = after_sends (begin_bulk_out_of t a e p k b lent m log).next zs in
      (u ≡ None → ⊥) → (acting (length lent) z && ends_stage z.call.sample) ≡ true → (step_out u z).answer ≡ Ok (Done (length lent))
