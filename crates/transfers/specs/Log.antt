-- The log of a call: "three words a write from word 0 on: register number, mask of the bits touched, value".
use Rattle.std.specs.Prelude.{◌≡◌, ℕ, ◌+◌, ◌-◌, ◌*◌, List, [], ◌∷◌, length, bit_and, bit_or}
use Rattle.std.proofs.lemmas.List.Edits.{sets}

-- A write: register, mask, value.
pub data Write : Type 0 where
  wr : ℕ → ℕ → ℕ → Write

-- "A delay of 12 cycles is a write of its own kind: 0, 0, 12."
abbrev pub delay : Write
delay = wr 0 0 12

-- "mask of the bits touched .., value (zero outside the mask)": what a write with mask m and value v leaves of a register's word.
abbrev pub masked : ℕ → ℕ → ℕ → ℕ
masked old m v = bit_or (bit_and old (0xFFFF_FFFF - m)) v

-- "three a write from word 0 on: register number, mask, value"
abbrev pub words : List Write → List ℕ
words [] = []
words (wr r m v ∷ ws) = r ∷ m ∷ v ∷ words ws

-- The log with writes put at its places k, k + 1, ..: other words stay.
abbrev pub logged : List ℕ → ℕ → List Write → List ℕ
logged l k ws = sets l (3 * k) (words ws)

-- What putting writes at place k on leaves: the log, and the count of writes.
pub record Wrote (l : List ℕ) (k : ℕ) (ws : List Write) (l' : List ℕ) (k' : ℕ) : Type 0 where
  pub log : l' ≡ logged l k ws
  pub count : k' ≡ k + length ws
