-- The places of a record's items hold their bytes: a SETUP's eight, and OUT bytes packet by packet. Assumes nothing.
use mathlib.Core.Path.{◌≡◌, sym, ap, ◌∙◌}
use mathlib.Core.Bool.{Bool, true, false, not}
use mathlib.Core.List.{List, [], ◌∷◌, ◌++◌, append_assoc, append-nil}
use Prim.Native.Nat.{ℕ, suc, ◌+◌}
use native.Mathlib.Omega.{arith}
use lib.ListN.{length, take, drop}
use lib.Seq.{take-append_seam}
use Rattle.record.specs.Grammar.{Four, four, setup, out, Part, bulk_part, control_part, no_group, one_group, group, part_entries, parts_entries}
use Rattle.record.specs.Segments.{Segment, elements, unfailed}
use Rattle.record.specs.Bytes.{flag_byte, four_of, encode, encode_all, failed_bytes, encode_elements}
use Rattle.record.specs.Items.{PacketsAt, HeldAt, HeldAll, Held, Accepted}
use Rattle.record.specs.Verdict.{Verdict, no_head, no_entry, no_way_on, unfinished, is_whole}
use Rattle.transfers.specs.Reply.{result}
use Rattle.record.proofs.Encoding.{encode_append, elements_entries}
use Rattle.record.proofs.Handing.{after_all, segment_bytes, handed_out, drop_record}
use Rattle.record.proofs.Verdicts.{version_of}
use Rattle.record.proofs.Both.{absurd-eq}

-- ---- packets

one_packet : (s : List ℕ) (at a e : ℕ) (b v : Bool) (l r : List ℕ) → drop at s ≡ encode (out a e b v l) ++ r → take (suc (length l)) (drop (at + 5) s) ≡ length l ∷ l
one_packet s at a e b v l r q =
    ap (λ (x : List ℕ). take (suc (length l)) x) (after_all s at (0x4F ∷ a ∷ e ∷ flag_byte b ∷ flag_byte v ∷ []) (length l ∷ (l ++ r)) q) ∙ ap (λ (x : List ℕ). length l ∷ x) (take-append_seam l r)

packets_held : (s : List ℕ) (xs : List (List ℕ)) (at a e : ℕ) (b : Bool) (l r : List ℕ) → drop at s ≡ encode_all (group a e b xs l) ++ r → PacketsAt s at (xs ++ (l ∷ []))
unfolding encode_all
packets_held s [] at a e b l r q = (one_packet s at a e b true l r (q ∙ append_assoc (encode (out a e b true l)) [] r), tt)
packets_held s (x ∷ xs) at a e b l r q =
    let g = encode_all (group a e (not b) xs l) in
    let w = q ∙ append_assoc (encode (out a e b false x)) g r in
    let z : 6 + length x ≡ length (encode (out a e b false x)) = omega arith in
    (one_packet s at a e b false x (g ++ r) w, packets_held s xs (at + (6 + length x)) a e (not b) l r (ap (λ (i : ℕ). drop (at + i) s) z ∙ after_all s at (encode (out a e b false x)) (g ++ r) w))

-- ---- a SETUP

setup_held : (s : List ℕ) (at a : ℕ) (lo hi : Four) (r : List ℕ) → drop at s ≡ encode (setup a lo hi) ++ r → take 8 (drop (at + 2) s) ≡ four_of lo ++ four_of hi
setup_held s at a (four b c d e) (four f g h i) r q =
    ap (λ (x : List ℕ). take 8 x) (after_all s at (0x53 ∷ a ∷ []) (b ∷ c ∷ d ∷ e ∷ f ∷ g ∷ h ∷ i ∷ r) q)

-- ---- parts

part_held : (s : List ℕ) (q : Part) (at : ℕ) (r : List ℕ) → drop at s ≡ encode_all (part_entries q) ++ r → HeldAt s q at
unfolding encode_all
part_held s (bulk_part a e b xs l) at r h = packets_held s xs at a e b l r h
part_held s (control_part a lo hi no_group) at r h = setup_held s at a lo hi r (h ∙ append_assoc (encode (setup a lo hi)) [] r)
part_held s (control_part a lo hi (one_group xs l)) at r h =
    let g = encode_all (group a 0 true xs l) in
    let w = h ∙ append_assoc (encode (setup a lo hi)) g r in
    (setup_held s at a lo hi (g ++ r) w, packets_held s xs (at + 10) a 0 true l r (ten lo hi (after_all s at (encode (setup a lo hi)) (g ++ r) w)))
  where
    ten : (lo hi : Four) → drop (at + length (encode (setup a lo hi))) s ≡ encode_all (group a 0 true xs l) ++ r → drop (at + 10) s ≡ encode_all (group a 0 true xs l) ++ r
    ten (four b c d e) (four f g h i) q = q

all_held : (s : List ℕ) (qs : List Part) (at : ℕ) (r : List ℕ) → drop at s ≡ encode_all (parts_entries qs) ++ r → HeldAll s qs at
unfolding encode_all
all_held s [] at r h = tt
all_held s (q ∷ qs) at r h =
    let w = h ∙ ap (λ (x : List ℕ). x ++ r) (encode_append (part_entries q) (parts_entries qs)) ∙ append_assoc (encode_all (part_entries q)) (encode_all (parts_entries qs)) r in
    (part_held s q at (encode_all (parts_entries qs) ++ r) w, all_held s qs (at + length (encode_all (part_entries q))) r (after_all s at (encode_all (part_entries q)) (encode_all (parts_entries qs) ++ r) w))

pub held : (s : List ℕ) (gs : List Segment) (ps : List Part) (at : ℕ) → drop at s ≡ encode_elements (elements gs ps) → Held s gs ps at
held s [] ps at q = all_held s ps at [] (q ∙ sym (elements_entries (parts_entries ps)) ∙ sym (append-nil (encode_all (parts_entries ps))))
held s (g ∷ gs) ps at q =
    let before = encode_all (parts_entries g.whole) in
    let first = encode_all g.first in
    let post = encode_elements (elements gs ps) in
    let r = failed_bytes (length g.first) ++ post in
    let e = encode_append (parts_entries g.whole) g.first in
    let both = encode_all (parts_entries g.whole ++ g.first) in
    let q₀ : drop at s ≡ both ++ r = q ∙ segment_bytes g gs ps in
    let q₁ : drop at s ≡ before ++ (first ++ r) = q₀ ∙ ap (λ (l : List ℕ). l ++ r) e ∙ append_assoc before first r in (
      all_held s g.whole at (first ++ r) q₁,
      held s gs ps (at + length both + 5) (after_all s (at + length both) (failed_bytes (length g.first)) post (after_all s at both r q₀)),
    )

-- A record that the check accepts: its items are handed out from the first cursor on, and their bytes are there.

pub accepted : (s : List ℕ) (n : ℕ) → Verdict s (result n) → Accepted s n
accepted s n (no_head u q) = absurd-eq (cc)
accepted s n (no_entry u q) = absurd-eq (cc)
accepted s n (no_way_on u q) = absurd-eq (cc)
accepted s n (unfinished u q) = absurd-eq (cc)
accepted s n (is_whole u q) =
    let r = u.reads.reading in
    let p = ap (λ (l : List ℕ). drop 5 l) u.is ∙ drop_record u.two u.ms ∙ ap encode_elements (sym r.is) in
    record {
      record_is = u;
      version = version_of s u.two u.ms u.is;
      count = let z : n ≡ length (unfailed r.segments r.last) = cc in z;
      items = handed_out r.segments r.last s 5 r.segments_fit r.last_fit p;
      held = held s r.segments r.last 5 p;
    }
