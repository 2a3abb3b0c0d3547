-- The counters of retiring (rp2040.rs, `InDepacketiser`), and what they count of the packets received.
use Rattle.std.specs.Prelude.{◌≡◌, Bool, false, not, cond, List, [], ◌∷◌, ◌++◌, map, ℕ, ◌+◌, ◌-◌, ◌≤◌, min, ltb, length, take, drop}
use Rattle.std.proofs.lemmas.List.Edits.{sets}
use Rattle.cutting.specs.declared.depacketiser.InDepacketiser.{InDepacketiser}
use Rattle.cutting.specs.declared.depacketiser.InRetired.{InRetired}
use Rattle.cutting.specs.Rules.{joined}

-- A depacketiser with room for n bytes.
abbrev pub in_begin : ℕ → InDepacketiser
in_begin n = record { parity = false; remain = n; offset = 0 }

-- How many of k bytes are kept with r bytes of room from an offset on: the fewer of the two, none where offset and room are above 65,535.
abbrev pub kept_of : ℕ → ℕ → ℕ → ℕ
kept_of off r k = cond (ltb (0xFFFF - off) r) 0 (cond (ltb k r) k r)

-- A packet is retired: what is kept of it, and the counters after it.
unfoldable pub in_retire : InDepacketiser → ℕ → InRetired
in_retire c k =
    record {
      count = kept_of c.offset c.remain k;
      rest = record { parity = not c.parity; remain = c.remain - kept_of c.offset c.remain k; offset = c.offset + kept_of c.offset c.remain k };
    }

-- ---- a list of packets

-- The counters after packets of given lengths.
abbrev pub retired : InDepacketiser → List ℕ → InDepacketiser
retired c [] = c
retired c (k ∷ ks) = retired (in_retire c k).rest ks

-- The sum of lengths.
abbrev pub sum : List ℕ → ℕ
sum [] = 0
sum (k ∷ ks) = k + sum ks

-- The buffer after packets: of each, what is kept goes where the offset is.
abbrev pub filled : InDepacketiser → List ℕ → List (List ℕ) → List ℕ
filled c buf [] = buf
filled c buf (l ∷ ls) = filled (in_retire c (length l)).rest (sets buf c.offset (take (in_retire c (length l)).count l)) ls

-- Whether there is an odd number of them.
abbrev pub odd : {A : Type 0} → List A → Bool
odd [] = false
odd (x ∷ xs) = not (odd xs)

-- "In counts received bytes": from a begin of n bytes on, for every list of packets.
pub record CountsBytes : Type 0 where
  -- The count is the sum of their lengths, n at most.
  pub counted : (n : ℕ) (ks : List ℕ) → n ≤ 0xFFFF → (retired (in_begin n) ks).offset ≡ min n (sum ks)
  -- The rest of the n bytes is still wanted.
  pub wanted : (n : ℕ) (ks : List ℕ) → n ≤ 0xFFFF → (retired (in_begin n) ks).remain ≡ n - sum ks
  -- The buffer's first bytes are the packets' bytes, in order and each once; the rest is as lent.
  pub bytes : (n : ℕ) (lent : List ℕ) (ls : List (List ℕ)) → n ≤ 0xFFFF → n ≤ length lent → let count = min n (sum (map length ls)) in
      filled (in_begin n) lent ls ≡ take count (joined ls) ++ drop count lent
  -- "flips once per retired packet": the slot, and with it the toggle.
  pub alternates : (n : ℕ) (ks : List ℕ) → (retired (in_begin n) ks).parity ≡ odd ks
