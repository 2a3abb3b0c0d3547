-- Which answer bytes and a position deserve, each number by its condition. Nothing here but the last record names the walk's definition; `total_of` is held to the bytes there.
use Rattle.std.specs.Prelude.{◌≡◌, ◌⊎◌, List, ◌∷◌, ◌++◌, ℕ, ◌+◌, ◌*◌, ◌%◌, ◌≤◌, ◌<◌, length, get_or}
use Rattle.descriptor.specs.Walk.{Walked, descriptor, endpoint, end, refused, total_of, walk_of}

-- At least 9 bytes, the second of which is CONFIGURATION's bDescriptorType (table 9-5).
pub record Headed (b : List ℕ) : Type 0 where
  pub nine : 9 ≤ length b
  pub configuration : get_or b 1 0 ≡ 2

-- Bytes that none of the first two checks refuses: their first wTotalLength are the configuration.
pub record Accepted (b : List ℕ) : Type 0 where
  pub headed : Headed b
  pub nine : 9 ≤ total_of b
  pub lent : total_of b ≤ length b

-- A descriptor begins with its own length and its type (section 9.5).
pub record Begins (p : List ℕ) : Type 0 where
  pub own_length : get_or p 0 0 ≡ length p
  pub two : 2 ≤ length p

-- It stands at a position of the bytes and ends within wTotalLength.
pub record Stands (b : List ℕ) (at : ℕ) (p : List ℕ) : Type 0 where
  pub before : List ℕ
  pub after : List ℕ
  pub bytes : b ≡ before ++ (p ++ after)
  pub position : length before ≡ at
  pub begins : Begins p
  pub within : at + length p ≤ total_of b

-- The answer that the bytes b deserve at a position.
pub data Deserves (b : List ℕ) (at : ℕ) (w : Walked) : Type 0 where
  -- "It refuses with 24 fewer than 9 bytes or a second byte other than 2"
  no_head : (length b < 9) ⊎ (get_or b 1 0 ≡ 2 → ⊥) → w ≡ refused 24 → Deserves b at w
  -- "then with 23 a wTotalLength below 9 or above the bytes lent"
  wrong_total : Headed b → (total_of b < 9) ⊎ (length b < total_of b) → w ≡ refused 23 → Deserves b at w
  -- "From wTotalLength on it answers end."
  at_end : Accepted b → total_of b ≤ at → w ≡ end → Deserves b at w
  -- "then at each descriptor with 22 a bLength below 2"
  too_short : Accepted b → at < total_of b → get_or b at 0 < 2 → w ≡ refused 22 → Deserves b at w
  -- "then with 23 one that runs past wTotalLength"
  runs_past : Accepted b → at < total_of b → 2 ≤ get_or b at 0 → total_of b < at + get_or b at 0 → w ≡ refused 23 → Deserves b at w
  -- "then with 22 an endpoint's below 7"
  short_endpoint : Accepted b → (p : List ℕ) → Stands b at p → get_or p 1 0 ≡ 5 → length p < 7 → w ≡ refused 22 → Deserves b at w
  -- "hands the next descriptor back as a part of the caller's own bytes"
  another_type : Accepted b → (p : List ℕ) → Stands b at p → (get_or p 1 0 ≡ 5 → ⊥) → w ≡ descriptor p → Deserves b at w
  -- "and with each endpoint descriptor its bEndpointAddress, transfer type (bmAttributes modulo 4), wMaxPacketSize and bInterval", at their offsets in it (table 9-13)
  an_endpoint : Accepted b → (p : List ℕ) → Stands b at p → get_or p 1 0 ≡ 5 → 7 ≤ length p
      → w ≡ endpoint p (record { address = get_or p 2 0; transfer_type = get_or p 3 0 % 4; max_packet_size = get_or p 4 0 + 256 * get_or p 5 0; interval = get_or p 6 0 })
      → Deserves b at w

-- The walk answers what is deserved, and nothing else is deserved.
pub record Answers : Type 0 where
  -- wTotalLength is the third and the fourth byte, the low one first, all 16 bits.
  pub total : (first second third fourth : ℕ) (rest : List ℕ) → total_of (first ∷ second ∷ third ∷ fourth ∷ rest) ≡ third + 256 * fourth
  pub deserved : (b : List ℕ) (at : ℕ) → Deserves b at (walk_of b at)
  pub only : (b : List ℕ) (at : ℕ) (w : Walked) → Deserves b at w → w ≡ walk_of b at
  -- The end is answered exactly from wTotalLength on.
  pub end_from : (b : List ℕ) (at : ℕ) → Accepted b → total_of b ≤ at → walk_of b at ≡ end
  pub end_only : (b : List ℕ) (at : ℕ) → walk_of b at ≡ end → Accepted b × (total_of b ≤ at)
