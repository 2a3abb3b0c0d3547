-- What a step that acts is known to find: what `served`, `sound` and the buffer's length leave.
use Rattle.std.specs.Prelude.{◌≡◌, ℕ, ◌+◌, ◌≤◌, Bool, true, List, length, Option}
use Rattle.transfers.specs.declared.driver.Run.{Run}
use Rattle.transfers.specs.declared.refusal.Refusal.{Refusal}
use Rattle.transfers.specs.declared.sample.Sample.{Sample}
use Rattle.transfers.specs.declared.driver.Stage.{Stage}
use Rattle.transfers.specs.declared.driver.Stage.TheVariants.{Setup as setup_stage, In as in_stage, Out as out_stage}
use Rattle.transfers.specs.Memory.{MemoryFits, LogFits}
use Rattle.transfers.specs.Step.{lent, acts}
use Rattle.transfers.specs.Calls.{refuses, may_step, step_of}

-- Offset and rest lie within the buffer that the stage has.
abbrev pub Within : Stage → List ℕ → Type 0
Within setup_stage buf = Unit {0}
Within (in_stage st) buf = st.offset + st.remain ≤ length (lent st.status buf)
Within (out_stage st) buf = st.offset + st.remain ≤ length (lent st.status buf)

-- A transfer that sends has no other IN stage than its status.
abbrev pub InIsStatus : Stage → Type 0
InIsStatus setup_stage = Unit {0}
InIsStatus (in_stage st) = st.status ≡ true
InIsStatus (out_stage st) = Unit {0}

-- The checks of a step with a buffer of n bytes let it pass: it acts, and this is known.
pub record Admitted (filling : Bool) (t : Option Run) (n : ℕ) (pm log : List ℕ) (r : Run) : Type 0 where
  pub does : (s : Sample) (buf : List ℕ) → length buf ≡ n → step_of filling t s buf pm log ≡ acts r.request r.stage s buf pm
  pub serves : may_step filling r ≡ true
  pub length_is : r.request.length ≡ n
  pub memory : MemoryFits pm
  pub log_fits : LogFits log

-- The checks refuse it.
abbrev pub Refused : Bool → Option Run → ℕ → List ℕ → List ℕ → Refusal → Type 0
Refused filling t n pm log why = (s : Sample) (buf : List ℕ) → length buf ≡ n → step_of filling t s buf pm log ≡ refuses t why pm buf
