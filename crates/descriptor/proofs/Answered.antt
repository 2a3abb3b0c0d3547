-- The walk answers what is deserved, and nothing else is deserved. Assumes nothing.
use mathlib.Core.Path.{◌≡◌, refl, sym, ap, ap₂, ◌∙◌}
use mathlib.Core.Logic.{◌⊎◌}
use mathlib.Core.Bool.{true, ◌||◌, not}
use mathlib.Core.List.{List, ◌++◌}
use Prim.Native.Nat.{ℕ, ◌+◌, ◌*◌, ◌%◌, ◌≤◌, ◌<◌}
use native.Mathlib.Nat.{add-zero}
use native.Mathlib.Omega.{arith}
use Rattle.std.proofs.Common.{rules}
use lib.Dec.{eqb, leb, ltb}
use lib.ListN.{length, take, drop, get_or, length-drop, take-append-drop, get_or-append}
use lib.Seq.{length-take-le, get_or-take, get_or-drop}
use lib.Seq.{take-append_seam, drop-append_seam, get_or-append-add}
use Rattle.std.proofs.lemmas.Bool.{cond_both}
use Rattle.descriptor.specs.Walk.{EndpointFields, Walked, descriptor, endpoint, end, refused, total_of, part_at, fields_at, endpoint_answer, typed_answer, inside_answer, walk_of}
use Rattle.descriptor.specs.Answers.{Accepted, Stands, Deserves, no_head, wrong_total, at_end, too_short, runs_past, short_endpoint, another_type, an_endpoint, Answers}

-- The part at a position is as long as its first byte says, where the bytes are there.
pub length_part : (b : List ℕ) (at : ℕ) → at + get_or b at 0 ≤ length b → length (part_at b at) ≡ get_or b at 0
length_part b at h = length-take-le (get_or b at 0) (drop at b) (omega (arith, h, length-drop at b))

-- Its bytes are those from the position on.
pub part_byte : (b : List ℕ) (at i : ℕ) → i < get_or b at 0 → get_or (part_at b at) i 0 ≡ get_or b (at + i) 0
part_byte b at i h = get_or-take (get_or b at 0) (drop at b) i 0 h ∙ get_or-drop at b i 0

stands : (b : List ℕ) (at : ℕ) → Accepted b → 2 ≤ get_or b at 0 → at + get_or b at 0 ≤ total_of b → Stands b at (part_at b at)
stands b at a two fits =
    let inside : at + get_or b at 0 ≤ length b = omega (arith, fits, a.lent) in
    let l = length_part b at inside in
    record {
      before = take at b;
      after = drop (get_or b at 0) (drop at b);
      bytes = sym (take-append-drop at b) ∙ ap (λ (r : List ℕ). take at b ++ r) (sym (take-append-drop (get_or b at 0) (drop at b)));
      position = length-take-le at b (omega (arith, inside));
      begins = record { own_length = part_byte b at 0 (omega (arith, two)) ∙ ap (λ (k : ℕ). get_or b k 0) (add-zero at) ∙ sym l; two = omega (arith, two, l) };
      within = omega (arith, fits, l);
    }

-- ---- what is answered is deserved

-- An endpoint's fields, taken from its bytes.
abbrev fields_in : List ℕ → EndpointFields
fields_in p = record { address = get_or p 2 0; transfer_type = get_or p 3 0 % 4; max_packet_size = get_or p 4 0 + 256 * get_or p 5 0; interval = get_or p 6 0 }

-- A part's fields are those at its position.
fields : (b : List ℕ) (at : ℕ) → 7 ≤ get_or b at 0
    → fields_at b at ≡ fields_in (part_at b at)
fields b at h =
    rw (part_byte b at 2 (omega (arith, h)), part_byte b at 3 (omega (arith, h)), part_byte b at 4 (omega (arith, h)), part_byte b at 5 (omega (arith, h)), part_byte b at 6 (omega (arith, h)))

found : (b : List ℕ) (at : ℕ) → Accepted b → at < total_of b → Deserves b at (inside_answer b at)
found b at a h =
    cond_both (ltb (get_or b at 0) 2) (refused 22) _ (Deserves b at) (λ e. too_short a h (search rules) refl)
    (λ e. cond_both (ltb (total_of b) (at + get_or b at 0)) (refused 23) (typed_answer b at) (Deserves b at) (λ f. runs_past a h (search rules) (search rules) refl)
    (λ f. within (search rules) (search rules)))
  where
    within : 2 ≤ get_or b at 0 → at + get_or b at 0 ≤ total_of b → Deserves b at (typed_answer b at)
    within two fits =
        let p = part_at b at in
        let s = stands b at a two fits in
        let l = length_part b at (omega (arith, fits, a.lent)) in
        let kind : get_or p 1 0 ≡ get_or b (at + 1) 0 = part_byte b at 1 (omega (arith, two)) in
        cond_both (eqb (get_or b (at + 1) 0) 5) (endpoint_answer b at) (descriptor p) (Deserves b at)
        (λ e. cond_both (ltb (get_or b at 0) 7) (refused 22) (endpoint p (fields_at b at)) (Deserves b at)
        (λ f. short_endpoint a p s (search rules) (search rules) refl)
        (λ f. an_endpoint a p s (search rules) (search rules) (ap (endpoint p) (fields b at (search rules)))))
        (λ e. another_type a p s (search rules) refl)

no_head_of : (b : List ℕ) → (ltb (length b) 9 || not (eqb (get_or b 1 0) 2)) ≡ true → (length b < 9) ⊎ (get_or b 1 0 ≡ 2 → ⊥)
no_head_of b e = search rules

wrong_total_lem : (b : List ℕ) → (ltb (total_of b) 9 || ltb (length b) (total_of b)) ≡ true → (total_of b < 9) ⊎ (length b < total_of b)
wrong_total_lem b e = search rules

pub deserved : (b : List ℕ) (at : ℕ) → Deserves b at (walk_of b at)
unfolding walk_of
deserved b at =
    cond_both (ltb (length b) 9 || not (eqb (get_or b 1 0) 2)) (refused 24) _ (Deserves b at) (λ e. no_head (no_head_of b e) refl)
    (λ e. cond_both (ltb (total_of b) 9 || ltb (length b) (total_of b)) (refused 23) _ (Deserves b at) (λ f. wrong_total (search rules) (wrong_total_lem b f) refl)
    (λ f. cond_both (leb (total_of b) at) end (inside_answer b at) (Deserves b at) (λ g. at_end (search rules) (search rules) refl)
    (λ g. found b at (search rules) (search rules))))

-- ---- what is deserved is answered

pub end_from : (b : List ℕ) (at : ℕ) → Accepted b → total_of b ≤ at → walk_of b at ≡ end
unfolding walk_of
end_from b at a h = search rules

pub before_end : (b : List ℕ) (at : ℕ) → Accepted b → at < total_of b → walk_of b at ≡ inside_answer b at
unfolding walk_of
before_end b at a h = search rules

-- A descriptor that stands at a position is the part there.
pub record PartThere (b : List ℕ) (at : ℕ) (p : List ℕ) : Type 0 where
  pub is : part_at b at ≡ p
  pub long : get_or b at 0 ≡ length p
  pub type_byte : get_or b (at + 1) 0 ≡ get_or p 1 0

pub part_there : (b : List ℕ) (at : ℕ) (p : List ℕ) → Stands b at p → PartThere b at p
part_there b at p s =
    let byte : (i : ℕ) → i < length p → get_or b (at + i) 0 ≡ get_or p i 0 = λ i h. ap₂ (λ (l : List ℕ) (k : ℕ). get_or l (k + i) 0) s.bytes (sym s.position) ∙ get_or-append-add s.before (p ++ s.after) i 0 ∙ get_or-append p s.after 0 i h in
    let long : get_or b at 0 ≡ length p = ap (λ (k : ℕ). get_or b k 0) (sym (add-zero at)) ∙ byte 0 (omega (arith, s.begins.two)) ∙ s.begins.own_length in
    let rest : drop at b ≡ p ++ s.after = ap₂ (λ (k : ℕ) (l : List ℕ). drop k l) (sym s.position) s.bytes ∙ drop-append_seam s.before (p ++ s.after) in
    record { is = ap₂ (λ (k : ℕ) (l : List ℕ). take k l) long rest ∙ take-append_seam p s.after; long = long; type_byte = byte 1 (omega (arith, s.begins.two)) }

-- So the walk comes to its type.
standing : (b : List ℕ) (at : ℕ) (p : List ℕ) → Accepted b → Stands b at p → walk_of b at ≡ typed_answer b at
standing b at p a s =
    let t = part_there b at p s in
    before_end b at a (omega (arith, s.begins.two, s.within)) ∙ search rules

pub only : (b : List ℕ) (at : ℕ) (w : Walked) → Deserves b at w → w ≡ walk_of b at
unfolding walk_of
only b at w (no_head h e) = search rules
only b at w (wrong_total h t e) = search rules
only b at w (at_end a h e) = search rules
only b at w (too_short a h n e) = search rules
only b at w (runs_past a h two n e) = search rules
only b at w (short_endpoint a p s k n e) = let t = part_there b at p s in let v = standing b at p a s in search rules
only b at w (another_type a p s k e) = let t = part_there b at p s in let v = standing b at p a s in search rules
only b at w (an_endpoint a p s k n e) =
    let t = part_there b at p s in
    let v = standing b at p a s in
    let f = fields b at (omega (arith, n, t.long)) in
    search rules

pub end_only : (b : List ℕ) (at : ℕ) → walk_of b at ≡ end → Accepted b × (total_of b ≤ at)
unfolding walk_of
end_only b at e = search rules

pub answers : Answers
answers = record { total = λ first second third fourth rest. refl; deserved = deserved; only = only; end_from = end_from; end_only = end_only }
