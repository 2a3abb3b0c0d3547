-- The encoding of entries one after another, and its length.
-- Assumes nothing.
use Rattle.std.specs.Prelude.{None, Option, Some}
use mathlib.Core.Path.{◌≡◌, refl, ap, sym, ◌∙◌}
use mathlib.Core.Bool.{Bool, true, false, cond, ◌&&◌}
use mathlib.Core.List.{List, [], ◌∷◌, ◌++◌, map, append_assoc, append-nil}
use Prim.Native.Nat.{ℕ, ◌+◌, ◌≤◌}
use native.Mathlib.Omega.{arith}
use lib.ListN.{length, take, drop, length-append, length-take, length-drop}
use lib.Dec.{eqb, leb}
use borrow.Author.Tests.{leb-true}
use Rattle.record.specs.Chip.{slot_place}
use Rattle.record.proofs.Chips.{same_slot}
use Rattle.transfers.proofs.Stores.{slot_inside}
use Rattle.transfers.specs.declared.answers.Armed.{Armed}
use Rattle.record.proofs.Both.{and_left, and_right}
use Rattle.record.specs.Grammar.{Entry}
use Rattle.record.specs.Segments.{Element, entry}
use Rattle.record.specs.Bytes.{head_bytes, encode, encode_all, encode_element, encode_elements}
use Rattle.record.specs.Armed.{setups_armed, outs_armed, entries_armed}
use Rattle.record.specs.Writer.{setup_in_range, out_in_range, armed_in_range, head_of, appended, count_bytes, told_bytes, setup_size, out_size, armed_size, count_size, head_size}
use Rattle.transfers.specs.declared.answers.ArmedOut.{ArmedOut}
use Rattle.transfers.specs.declared.answers.ArmedSetup.{ArmedSetup}

-- Entries written one after another are the encoding of the concatenated list.
pub encode_append : (a b : List Entry) → encode_all (a ++ b) ≡ encode_all a ++ encode_all b
unfolding encode_all
encode_append [] b = refl
encode_append (e ∷ a) b = ap (λ (l : List ℕ). encode e ++ l) (encode_append a b) ∙ sym (append_assoc (encode e) (encode_all a) (encode_all b))

-- The same in version 2.
pub elements_append : (a b : List Element) → encode_elements (a ++ b) ≡ encode_elements a ++ encode_elements b
unfolding encode_elements
elements_append [] b = refl
elements_append (m ∷ a) b = ap (λ (l : List ℕ). encode_element m ++ l) (elements_append a b) ∙ sym (append_assoc (encode_element m) (encode_elements a) (encode_elements b))

-- Entries of version 1 are encoded as before.
pub elements_entries : (es : List Entry) → encode_all es ≡ encode_elements (map entry es)
unfolding encode_all encode_elements
elements_entries [] = refl
elements_entries (e ∷ es) = ap (λ (l : List ℕ). encode e ++ l) (elements_entries es)

-- One entry.
pub encode_one : (e : Entry) → encode_all (e ∷ []) ≡ encode e
unfolding encode_all
encode_one e = append-nil (encode e)

-- One of version 2.
pub element_one : (m : Element) → encode_elements (m ∷ []) ≡ encode_element m
unfolding encode_elements
element_one m = append-nil (encode_element m)

-- The bytes of a slot, at most 64, are there.
pub slot_length : (pm : List ℕ) (slot : Bool) (n : ℕ) → length pm ≡ 4096 → n ≤ 64 → length (take n (drop (slot_place slot) pm)) ≡ n
slot_length pm slot n e h = simp (length-take, length-drop) (omega (arith, slot_inside slot, same_slot slot))

pub setup_size_lem : (s : Option ArmedSetup) → length (encode_all (setups_armed s)) ≡ setup_size s
unfolding encode_all
setup_size_lem None = refl
setup_size_lem (Some s) = refl

-- The length of a packet that lies in its range.
pub out_low : (x : Option ArmedOut) → out_in_range x ≡ true → out_size x ≤ 70
out_low None h = omega arith
out_low (Some x) h = omega (arith, leb-true x.arm.length 64 (and_right (leb x.endpoint 15) (leb x.arm.length 64) (and_right (leb x.address 127) (leb x.endpoint 15 && leb x.arm.length 64) h)))

pub out_size_lem : (pm : List ℕ) (x : Option ArmedOut) → length pm ≡ 4096 → out_in_range x ≡ true → length (encode_all (outs_armed pm x)) ≡ out_size x
unfolding encode_all
out_size_lem pm None e h = refl
out_size_lem pm (Some x) e h =
    let k = out_low (Some x) h in
    let s = slot_length pm x.arm.slot x.arm.length e (omega arith) in
    simp length-append (omega (arith, s))

pub armed_encoded : (a : Armed) (pm : List ℕ) → encode_all (entries_armed pm a) ≡ encode_all (setups_armed a.setup) ++ (encode_all (outs_armed pm a.first) ++ encode_all (outs_armed pm a.second))
armed_encoded a pm =
    encode_append (setups_armed a.setup) (outs_armed pm a.first ++ outs_armed pm a.second)
    ∙ ap (λ (l : List ℕ). encode_all (setups_armed a.setup) ++ l) (encode_append (outs_armed pm a.first) (outs_armed pm a.second))

-- What is known of the fields of what was armed.
pub record Ranges (a : Armed) : Type 0 where
  pub first : out_in_range a.first ≡ true
  pub second : out_in_range a.second ≡ true

pub ranges : (a : Armed) → armed_in_range a ≡ true → Ranges a
unfolding armed_in_range
ranges a h =
    let k = and_right (setup_in_range a.setup) (out_in_range a.first && out_in_range a.second) h in
    record { first = and_left (out_in_range a.first) (out_in_range a.second) k; second = and_right (out_in_range a.first) (out_in_range a.second) k }

pub head_length : (used : ℕ) → length (head_of used) ≡ head_size used
head_length used = go (eqb used 0)
  where
    go : (b : Bool) → length (cond b head_bytes []) ≡ cond b 5 0
    go true = refl
    go false = refl

-- As many bytes are appended as the writer counts.
pub appended_size : (a : Armed) (pm : List ℕ) (used : ℕ) → length pm ≡ 4096 → armed_in_range a ≡ true → length (appended a pm used) ≡ head_size used + armed_size a
unfolding appended
appended_size a pm used e h =
    let g = ranges a h in
    let x = encode_all (setups_armed a.setup) in
    let y = encode_all (outs_armed pm a.first) in
    let z = encode_all (outs_armed pm a.second) in
    ap (λ (l : List ℕ). length (head_of used ++ l)) (armed_encoded a pm)
    ∙ omega (
      arith,
      length-append (head_of used) (x ++ (y ++ z)),
      length-append x (y ++ z),
      length-append y z,
      head_length used,
      setup_size_lem a.setup,
      out_size_lem pm a.first e g.first,
      out_size_lem pm a.second e g.second,
    )

pub count_size_lem : (x : Option ℕ) → length (count_bytes x) ≡ count_size x
count_size_lem None = refl
count_size_lem (Some n) = refl

pub told_size : (a : Armed) (x : Option ℕ) (pm : List ℕ) (used : ℕ) → length pm ≡ 4096 → armed_in_range a ≡ true → length (told_bytes a x pm used) ≡ head_size used + armed_size a + count_size x
unfolding told_bytes
told_size a x pm used e h = omega (arith, length-append (appended a pm used) (count_bytes x), appended_size a pm used e h, count_size_lem x)
