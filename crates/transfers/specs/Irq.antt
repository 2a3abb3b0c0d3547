-- The interrupt routine: `on_irq` "answers the set of pipes to wake and whether to wake detection".
use Rattle.std.specs.Prelude.{◌≡◌, ℕ, ◌*◌, Bool, true, false, not, ◌&&◌, ◌||◌, List, [], ◌∷◌, ◌++◌, ◌==◌, Err, Ok, Result}
use Rattle.pool.specs.Set.{set_of}
use Rattle.transfers.specs.declared.refusal.Refusal.TheVariants.{LentMemory}
use Rattle.transfers.specs.declared.irq.Woken.{Woken}
use Rattle.transfers.specs.Log.{Write, wr, Wrote}
use Rattle.transfers.specs.Masks.{is_ready}
use Rattle.transfers.specs.Memory.{log_fits}
use Rattle.transfers.specs.Registers.{field, bit, ones, buff_status, inte}
use Rattle.transfers.specs.declared.refusal.Refusal.{Refusal}
use Rattle.transfers.specs.declared.irq.Wake.{Wake}

-- "The interrupt routine now looks at 0 to 15."
abbrev pub irq_pipes : ℕ
irq_pipes = 16

-- The interrupt BUFF_STATUS is raised, and the register has one of the pipe's two bits set.
abbrev pub has_buffer : ℕ → ℕ → ℕ → Bool
has_buffer ints status i = bit 4 ints && not (field (2 * i) 2 status == 0)

-- Pipe i is to be woken: it has a buffer, or it is the control pipe and one of its interrupts is raised.
abbrev pub is_woken : ℕ → ℕ → ℕ → Bool
is_woken ints status i = has_buffer ints status i || (i == 0 && is_ready ints)

-- The set of pipes to wake.
unfoldable pub woken_pipes : ℕ → ℕ → ℕ
woken_pipes ints status = set_of irq_pipes (is_woken ints status)

-- BUFF_STATUS is cleared where it was raised, but for the control pipe's bits.
abbrev pub clear_writes : Bool → List Write
clear_writes true = wr buff_status ones 0xFFFF_FFFC ∷ []
clear_writes false = []

-- What a call does: the answer, and the writes.
pub record Waking : Type 0 where
  pub answer : Result Wake Refusal
  pub writes : List Write

-- 15 where the log is short; else whom to wake, and every interrupt that was raised is disabled.
abbrev pub waking_if : Bool → ℕ → ℕ → Waking
waking_if false ints status = record { answer = Err LentMemory; writes = [] }
waking_if true ints status = record {
  answer = Ok (record { pipes = woken_pipes ints status; detect = bit 0 ints });
  writes = clear_writes (bit 4 ints) ++ (wr inte ints 0 ∷ []);
}

-- The interrupt routine, on any words.
unfoldable pub waking : ℕ → ℕ → List ℕ → Waking
waking ints status log = waking_if (log_fits log) ints status

-- What on_irq hands back, from what the call does.
pub record DidWake (e : Waking) (r : Woken) (l l' : List ℕ) : Type 0 where
  pub answer : r.answer ≡ e.answer
  pub log : Wrote l 0 e.writes l' r.writes
