-- USB 2.0's rules for the packets of a transfer, one field a rule. They are stated of any list of packets: no rule names the cutting or the driver.
use Rattle.std.specs.Prelude.{◌≡◌, Bool, true, false, not, List, [], ◌∷◌, ◌++◌, map, ℕ, ◌≤◌, ◌<◌, length}
use Rattle.cutting.specs.declared.transfer_type.TransferType.{TransferType}
use Rattle.cutting.specs.declared.transfer_type.TransferType.TheVariants.{FixedSize, VariableSize}
use Rattle.cutting.specs.Cut.{Packet, packet, out_cut, in_cut_of}

-- ---- a packet's parts

-- Its slot: false is 0, true is 1.
abbrev pub slot : {A : Type 0} → Packet A → Bool
slot (packet s q last l) = s

-- Its PID: false is DATA0, true is DATA1.
abbrev pub pid : {A : Type 0} → Packet A → Bool
pid (packet s q last l) = q

-- Whether it is marked last.
abbrev pub marked : {A : Type 0} → Packet A → Bool
marked (packet s q last l) = last

-- Its bytes, or what its slot is armed with.
abbrev pub load : {A : Type 0} → Packet A → A
load (packet s q last l) = l

-- ---- of lists

-- It holds of each.
abbrev pub All : {A : Type 0} → (A → Type 0) → List A → Type 0
All P [] = Unit {0}
All P (x ∷ xs) = P x × All P xs

-- b, not b, b, ..
abbrev pub Alternating : Bool → List Bool → Type 0
Alternating b [] = Unit {0}
Alternating b (x ∷ xs) = (x ≡ b) × Alternating (not b) xs

-- Byte strings, one after another.
unfoldable pub joined : List (List ℕ) → List ℕ
joined [] = []
joined (l ∷ ls) = l ++ joined ls

-- ---- OUT

-- The packets ks of some bytes at packet size p, the first one with PID b.
pub record OutRules (t : TransferType) (p : ℕ) (b : Bool) (bytes : List ℕ) (ks : List (Packet (List ℕ))) : Type 0 where
  -- There is a last packet: `final`. `front` are those before it.
  pub front : List (Packet (List ℕ))
  pub final : Packet (List ℕ)
  pub whole : ks ≡ front ++ (final ∷ [])
  -- 5.8.2, 8.5.2: the packets joined are the bytes, in order, each once.
  pub rejoined : joined (map load ks) ≡ bytes
  -- 5.8.3 (5.5.3 for control): all payloads are of the maximum size but the last, which has the remaining data: exactly p, ..
  pub full : All (λ (k : Packet (List ℕ)). length (load k) ≡ p) front
  -- .. and the last no more than p.
  pub within : length (load final) ≤ p
  -- 5.8.3: a full-speed bulk packet has at most 64 bytes (and a slot holds no more).
  pub small : All (λ (k : Packet (List ℕ)). length (load k) ≤ 64) ks
  -- 5.8.3, the transfer is complete once the expected amount is transferred (FixedSize): the last is not empty unless there are no bytes.
  pub fixed : t ≡ FixedSize → 0 < length bytes → 0 < length (load final)
  -- 5.8.3, or once a packet shorter than the maximum, perhaps empty, is transferred (VariableSize): a short packet ends it.
  pub variable : t ≡ VariableSize → length (load final) < p
  -- "Only the final packet is marked last."
  pub unmarked : All (λ (k : Packet (List ℕ)). marked k ≡ false) front
  pub mark : marked final ≡ true
  -- 8.6: DATA0 and DATA1 alternate, from the first PID on.
  pub pids : Alternating b (map pid ks)
  -- Datasheet 4.1.2.5: the two buffers are used in turn, buffer 0 first.
  pub slots : Alternating false (map slot ks)

-- ---- IN

-- A slot takes a packet: the same slot, PID and mark, and room for its bytes.
pub record Takes (s : Packet ℕ) (k : Packet (List ℕ)) : Type 0 where
  pub same_slot : slot s ≡ slot k
  pub same_pid : pid s ≡ pid k
  pub same_mark : marked s ≡ marked k
  pub room : length (load k) ≤ load s

-- Slots and packets one to one.
abbrev pub Each : {A B : Type 0} → (A → B → Type 0) → List A → List B → Type 0
Each P [] [] = Unit {0}
Each P [] (y ∷ ys) = ⊥
Each P (x ∷ xs) [] = ⊥
Each P (x ∷ xs) (y ∷ ys) = P x y × Each P xs ys

-- The slots that are armed for n bytes IN.
pub record InRules (t : TransferType) (p : ℕ) (b : Bool) (n : ℕ) (ss : List (Packet ℕ)) : Type 0 where
  -- There is a last slot: `final`. `front` are those before it.
  pub front : List (Packet ℕ)
  pub final : Packet ℕ
  pub whole : ss ≡ front ++ (final ∷ [])
  -- "IN arms every slot with length p": a device may send p bytes in any of them (8.5.2: the host accepts up to wMaxPacketSize), p at most 64.
  pub sized : All (λ (s : Packet ℕ). (load s ≡ p) × (load s ≤ 64)) ss
  -- "Only the final packet is marked last."
  pub unmarked : All (λ (s : Packet ℕ). marked s ≡ false) front
  pub mark : marked final ≡ true
  -- 8.6: DATA0 and DATA1 alternate, from the first PID on.
  pub pids : Alternating b (map pid ss)
  -- Datasheet 4.1.2.5: the two buffers are used in turn, buffer 0 first.
  pub slots : Alternating false (map slot ss)
  -- 5.8.3: they suffice, one for one, for any device that sends n bytes in packets as the rules have it.
  pub suffice : (bytes : List ℕ) (ks : List (Packet (List ℕ))) → length bytes ≡ n → OutRules t p b bytes ks → Each Takes ss ks

-- ---- the theorem's USB side

-- Document 01's cutting OUT meets the rules, and nothing else does; its slots IN meet theirs.
pub record UsbRules : Type 0 where
  pub outward : (t : TransferType) (p : ℕ) (b : Bool) (bytes : List ℕ) → 1 ≤ p → p ≤ 64 → OutRules t p b bytes (out_cut t p b bytes)
  pub only : (t : TransferType) (p : ℕ) (b : Bool) (bytes : List ℕ) (ks : List (Packet (List ℕ))) → 1 ≤ p → OutRules t p b bytes ks → ks ≡ out_cut t p b bytes
  pub inward : (t : TransferType) (p : ℕ) (b : Bool) (n : ℕ) → 1 ≤ p → p ≤ 64 → InRules t p b n (in_cut_of t p b n)
