-- Document 01's cutting: the packets of a transfer's bytes. It speaks of bytes and lengths alone, not of the driver's counters.
use Rattle.std.specs.Prelude.{Bool, true, false, not, cond, List, [], ◌∷◌, ◌++◌, map, ℕ, ◌/◌, ◌%◌, length, take, drop, replicate, eqb}
use Rattle.cutting.specs.declared.transfer_type.TransferType.{TransferType}
use Rattle.cutting.specs.declared.transfer_type.TransferType.TheVariants.{FixedSize, VariableSize}

-- A packet: its slot (false: 0, true: 1), its PID (false: DATA0, true: DATA1), whether it is marked last, and its load.
pub data Packet (A : Type 0) : Type 0 where
  packet : Bool → Bool → Bool → A → Packet A

-- "VariableSize adds an empty packet when p divides n and n isn't 0" (USB 2.0 section 5.8.3: a short packet ends the transfer).
abbrev pub added : TransferType → List ℕ
added FixedSize = []
added VariableSize = 0 ∷ []

-- What follows the full packets, with r of n bytes left: "a nonempty remainder, one empty packet if n = 0".
abbrev pub ending : TransferType → ℕ → ℕ → List ℕ
ending t n r = cond (eqb r 0) (cond (eqb n 0) (0 ∷ []) (added t)) (r ∷ [])

-- The lengths of the packets of n bytes at packet size p: "full packets", then the ending.
unfoldable pub lengths : TransferType → ℕ → ℕ → List ℕ
lengths t p n = replicate (n / p) p ++ ending t n (n % p)

-- The bytes, dealt out by lengths.
unfoldable pub deal : List ℕ → List ℕ → List (List ℕ)
deal [] l = []
deal (n ∷ ns) l = take n l ∷ deal ns (drop n l)

-- No packet comes after.
abbrev pub none : {A : Type 0} → List A → Bool
none [] = true
none (x ∷ xs) = false

-- "Only the final packet is marked last. Slots alternate from 0; PIDs alternate from the first" (USB 2.0 sections 8.5.2 and 8.6).
unfoldable pub numbered : {A : Type 0} → Bool → Bool → List A → List (Packet A)
numbered s b [] = []
numbered s b (x ∷ xs) = packet s b (none xs) x ∷ numbered (not s) (not b) xs

-- The OUT packets of bytes, at packet size p with the first PID b.
unfoldable pub out_cut : TransferType → ℕ → Bool → List ℕ → List (Packet (List ℕ))
out_cut t p b bytes = numbered false b (deal (lengths t p (length bytes)) bytes)

-- What the slots are armed with for n bytes IN: "IN arms every slot with length p".
unfoldable pub in_cut_of : TransferType → ℕ → Bool → ℕ → List (Packet ℕ)
in_cut_of t p b n = numbered false b (map (λ (k : ℕ). p) (lengths t p n))
