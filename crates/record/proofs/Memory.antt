-- Packet memory: what a store leaves in its slot and in the other. Assumes nothing.
use mathlib.Core.Path.{◌≡◌, ap, ◌∙◌}
use mathlib.Core.Bool.{Bool, true, false, not}
use mathlib.Core.List.{List, ◌++◌, append_assoc}
use Prim.Native.Nat.{ℕ, ◌+◌, ◌-◌, ◌≤◌}
use native.Mathlib.Omega.{arith}
use lib.ListN.{length, take, drop, length-append, length-drop}
use lib.Seq.{sets, sets-eq, length-sets, drop_at, length-take-le, take-append-le, drop-append-le, drop-append-add, drop-drop, take-append_seam, take-take}
use Rattle.cutting.proofs.Cutting.{drop_take}
use Rattle.transfers.specs.Memory.{slot_address}
use Rattle.record.specs.Chip.{slot_place}

module _ (at : ℕ) (bs m : List ℕ) (h : at + length bs ≤ length m) where
  head_length : length (take at m) ≡ at
  head_length = length-take-le at m (omega arith)

  stored : sets m at bs ≡ take at m ++ (bs ++ drop (at + length bs) m)
  stored = sets-eq bs m at h ∙ append_assoc (take at m) bs (drop (at + length bs) m)

  -- The bytes are there.
  read_same : take (length bs) (drop at (sets m at bs)) ≡ bs
  read_same =
      rw (stored, drop_at (take at m) (bs ++ drop (at + length bs) m) at head_length) (take-append_seam bs (drop (at + length bs) m))

  -- A part below is kept.
  read_below : (i n : ℕ) → i + n ≤ at → take n (drop i (sets m at bs)) ≡ take n (drop i m)
  read_below i n k =
      let a : i ≤ length (take at m) = let e = head_length in omega arith in
      let l : length (drop i (take at m)) ≡ at - i = length-drop i (take at m) ∙ ap (λ (j : ℕ). j - i) head_length in
      let b : n ≤ length (drop i (take at m)) = omega arith in
      rw (
        stored,
        drop-append-le i (take at m) (bs ++ drop (at + length bs) m) a,
        take-append-le n (drop i (take at m)) (bs ++ drop (at + length bs) m) b,
        drop_take i at m (omega arith),
        take-take n (at - i) (drop i m) (omega arith),
      )

  -- A part above is kept.
  read_above : (i : ℕ) → at + length bs ≤ i → drop i (sets m at bs) ≡ drop i m
  read_above i k =
      let l : ℕ = at + length bs in
      let hd : List ℕ = take at m ++ bs in
      let e : length hd ≡ l = length-append (take at m) bs ∙ ap (λ (j : ℕ). j + length bs) head_length in
      let j : ℕ = i - l in
      let q : i ≡ length hd + j = omega arith in
      let z : l + j ≡ i = omega arith in
      ap (λ (r : List ℕ). drop i r) (sets-eq bs m at h)
      ∙ ap (λ (r : ℕ). drop r (hd ++ drop l m)) q
      ∙ drop-append-add hd (drop l m) j
      ∙ drop-drop j l m
      ∙ ap (λ (r : ℕ). drop r m) z

-- After a store of at most 64 bytes in a slot of packet memory, its bytes are there, and the other slot's are as before.
module _ (m : List ℕ) (h : length m ≡ 4096) (bs : List ℕ) (k : length bs ≤ 64) where
  slot_fits : (s : Bool) → slot_address s + length bs ≤ length m
  slot_fits true = omega arith
  slot_fits false = omega arith

  pub slot_same : (s : Bool) → take (length bs) (drop (slot_place s) (sets m (slot_address s) bs)) ≡ bs
  slot_same true = read_same 0x1C0 bs m (slot_fits true)
  slot_same false = read_same 0x180 bs m (slot_fits false)

  pub slot_room : (s : Bool) → length (sets m (slot_address s) bs) ≡ 4096
  slot_room s = length-sets m (slot_address s) bs ∙ h

  pub slot_other : (s : Bool) (n : ℕ) → n ≤ 64 → take n (drop (slot_place s) (sets m (slot_address (not s)) bs)) ≡ take n (drop (slot_place s) m)
  slot_other true n j = ap (λ (r : List ℕ). take n r) (read_above 0x180 bs m (slot_fits false) 0x1C0 (omega arith))
  slot_other false n j = read_below 0x1C0 bs m (slot_fits true) 0x180 n (omega arith)
