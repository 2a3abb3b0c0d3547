-- "The interrupt routine now looks at 0 to 15": whom it wakes, on any words. No state is asked, so a pipe's bits count though no other pipe shows any.
use Rattle.std.specs.Prelude.{◌≡◌, Bool, false, not, ◌&&◌, ◌||◌, List, [], ℕ, ◌*◌, ◌/◌, ◌%◌, ◌^◌, ◌≤◌, ◌<◌, eqb, length, Err, Ok}
use Rattle.std.specs.Int.Bits.{bit_and}
use Rattle.transfers.specs.declared.host_controller.TransferExtras.{TransferExtras}
use Rattle.transfers.specs.declared.driver.Driver.{Driver}
use Rattle.transfers.specs.declared.refusal.Refusal.{Refusal}
use Rattle.transfers.specs.declared.irq.Wake.{Wake}
use Rattle.transfers.specs.declared.irq.Woken.{Woken}
use Rattle.transfers.specs.Log.{logged}
use Rattle.transfers.specs.Reply.{result, number, irq_reply, open_reply}
use Rattle.transfers.specs.Pipes.{opening}
use Rattle.transfers.specs.Irq.{waking, DidWake}

-- INTS has BUFF_STATUS (bit 4), and the register BUFF_STATUS has one of pipe n's two bits, 2n and 2n + 1.
abbrev pub shows_buffer : ℕ → ℕ → ℕ → Bool
shows_buffer ints status n = eqb (ints / 0x10 % 2) 1 && not (eqb (status / 2 ^ (2 * n) % 4) 0)

-- The routine answers w.
abbrev pub IrqAnswers : ℕ → ℕ → List ℕ → Wake → Type 0
IrqAnswers ints status log w = (waking ints status log).answer ≡ Ok w

-- Bit n of a set of pipes is pipe n's.
abbrev pub is_in : ℕ → ℕ → Bool
is_in pipes n = eqb (pipes / 2 ^ n % 2) 1

-- What the words say of w.
pub record WokenBy (ints status : ℕ) (w : Wake) : Type 0 where
  -- "the datasheet has fifteen interrupt endpoints": each by its own two bits and by nothing else.
  pub each : (n : ℕ) → 1 ≤ n → n ≤ 15 → is_in w.pipes n ≡ shows_buffer ints status n
  -- "`on_irq` wakes pipe 0 by the same mask": also where INTS and 0x7F8 is not zero.
  pub control : is_in w.pipes 0 ≡ shows_buffer ints status 0 || not (eqb (bit_and ints 0x7F8) 0)
  -- No other bit is set.
  pub none : (n : ℕ) → 16 ≤ n → is_in w.pipes n ≡ false
  -- Detection by INTS' HOST_CONN_DIS (bit 0).
  pub detection : w.detect ≡ eqb (ints % 2) 1

-- The whole claim.
pub record Wakes : Type 0 where
  -- "15 .. log below 192 words": then nothing is written; lent 192 words it refuses nothing.
  pub short : (ints status : ℕ) (log : List ℕ) → length log < 192 → (irq_reply (waking ints status log).answer ≡ number 15) × ((waking ints status log).writes ≡ [])
  pub answers : (ints status : ℕ) (log : List ℕ) (why : Refusal) → 192 ≤ length log → (waking ints status log).answer ≡ Err why → ⊥
  -- Its answer is what the words say.
  pub woken : (ints status : ℕ) (log : List ℕ) (w : Wake) → IrqAnswers ints status log w → WokenBy ints status w
  -- "the pool hands out pipe 15": every pipe that open answers, whatever is open beside it, is woken by its own bits.
  pub opened : (d : Driver) (address : ℕ) (extras : TransferExtras) (endpoint size interval : ℕ) (lent : List ℕ) (n : ℕ)
      → open_reply (opening d address extras endpoint size interval lent).answer ≡ result n
      → (ints status : ℕ) (log : List ℕ) (w : Wake) → IrqAnswers ints status log w → is_in w.pipes n ≡ shows_buffer ints status n
  -- Only pipe 15 shows a buffer: it is woken, and pipe 0 by INTS, as 0x10 is one of the bits of 0x7F8.
  pub alone : (log : List ℕ) → 192 ≤ length log → IrqAnswers 0x10 0x4000_0000 log (record { pipes = 0x8001; detect = false })
  -- An error's interrupt alone wakes pipe 0.
  pub error : (log : List ℕ) → 192 ≤ length log → IrqAnswers 0x20 0 log (record { pipes = 0x0001; detect = false })
  -- What `on_irq` hands back: this answer, the count of these writes, and a log that holds them.
  pub handed : (ints status : ℕ) (log log' : List ℕ) (r : Woken) → let e = waking ints status log in DidWake e r log log'
      → (r.answer ≡ e.answer) × (r.writes ≡ length e.writes) × (log' ≡ logged log 0 e.writes)
