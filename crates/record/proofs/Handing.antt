-- The cursor hands out the transfers of a record that didn't fail, and passes over those that did.
-- Assumes nothing.
use mathlib.Core.Path.{◌≡◌, refl, sym, ap, ap₂, ◌∙◌, subst}
use mathlib.Core.Bool.{Bool, true, false, not, cond}
use mathlib.Core.List.{List, [], ◌∷◌, ◌++◌, map, append_assoc, append-nil, head-eq_of_cons-eq, tail-eq_of_cons-eq}
use Prim.Native.Nat.{ℕ, suc, ◌+◌, ◌-◌, ◌≤◌}
use native.Mathlib.Omega.{arith}
use lib.ListN.{length, drop, length-append, length-drop}
use lib.Seq.{drop-drop, drop-append_seam}
use lib.Dec.{eqb}
use borrow.Author.Tests.{ne_eqb}
use Rattle.record.specs.Grammar.{Four, four, Entry, setup, out, group, group_bytes, Sent, sent_entries, Part, bulk_part, control_part, part_entries, Fits, AllFit, parts_entries, sent_bytes, no_group, one_group}
use Rattle.record.specs.Segments.{Element, entry, failed_entry, FirstPart, Segment, SegmentsFit, elements}
use Rattle.record.specs.Bytes.{encode, encode_all, failed_bytes, encode_elements}
use Rattle.record.specs.Scan.{InRange, AllInRange}
use Rattle.record.specs.Reader.{look}
use Rattle.record.specs.Items.{group_look, group_of, group_from, group_at_of, sent_look, sent_at, failed_look, failed_at, unless_failed, item_look, item_at, item_for, next_of, items_from, items_for, answers_for, moves}
use Rattle.record.specs.Verdict.{record_in}
use Rattle.record.specs.declared.look.Look.{Look}
use Rattle.record.specs.declared.look.Look.TheVariants.{Setup, Out, Failed}
use Rattle.record.specs.declared.refusal.Refusal.{Refusal}
use Rattle.std.specs.Prelude.{Option, Some, None, Result, Ok, Err}
use Rattle.std.proofs.Common.{Continue}
use Rattle.record.specs.declared.items.Span.{Span}
use Rattle.record.specs.declared.items.ItemAnswer.{ItemAnswer}
use Rattle.record.specs.declared.items.ItemAnswer.TheVariants.{Control, Bulk, Failed as failed_item}
use Rattle.record.proofs.Encoding.{encode_append, elements_append, elements_entries}
use Rattle.record.proofs.Decoding.{look_of, look_encode, drop_encode, see_failed}
use Rattle.record.proofs.Spans.{group_more, group_ended}
use Rattle.record.proofs.Verdicts.{part_ranged, first_ranged}
use Rattle.record.proofs.Both.{absurd-eq}

look_at : (s : List ℕ) (at : ℕ) (e : Entry) (post : List ℕ) → drop at s ≡ encode e ++ post → InRange e → look (drop at s) ≡ look_of e
look_at s at e post q h = ap look q ∙ look_encode e post h

after_entry : (s : List ℕ) (n : ℕ) (e : Entry) (post : List ℕ) → drop n s ≡ encode e ++ post → drop (n + length (encode e)) s ≡ post
after_entry s n e post q = sym (drop-drop (length (encode e)) n s) ∙ ap (λ (l : List ℕ). drop (length (encode e)) l) q ∙ drop_encode e post

pub after_all : (s : List ℕ) (n : ℕ) (b post : List ℕ) → drop n s ≡ b ++ post → drop (n + length b) s ≡ post
after_all s n b post q = sym (drop-drop (length b) n s) ∙ ap (λ (l : List ℕ). drop (length b) l) q ∙ drop-append_seam b post

encode_some : (e : Entry) → 1 ≤ length (encode e)
encode_some (setup a lo hi) = omega arith
encode_some (out a e b last l) = omega arith

few : (es : List Entry) → length es ≤ length (encode_all es)
unfolding encode_all
few [] = omega arith
few (e ∷ es) = let z = few es in let y = encode_some e in let x = length-append (encode e) (encode_all es) in omega arith

group_at : (s : List ℕ) (p : Span) (y : Result (Option Look) Refusal) → look (drop p.at s) ≡ y → group_of s p ≡ group_look y p
unfolding group_of
group_at s p y q = ap (λ (v : Result (Option Look) Refusal). group_look v p) q

same_span : {a a' k k' : ℕ} → a ≡ a' → k ≡ k' → ◌≡◌ {A = Span} (record { at = a; count = k }) (record { at = a'; count = k' })
same_span e f = ap₂ (λ (x y : ℕ). record { at = x; count = y }) e f

-- A group is walked through to its marked packet.
walk : (xs : List (List ℕ)) (s : List ℕ) (p : Span) (f a n : ℕ) (v : Bool) (l rest : List ℕ) → drop p.at s ≡ encode_all (group a n v xs l) ++ rest → AllInRange (group a n v xs l)
    → group_from (length xs + suc f) s p ≡ record { at = p.at + length (encode_all (group a n v xs l)); count = p.count + length (group_bytes xs l) }
unfolding encode_all
walk [] s p f a n v l rest q h =
    let k : drop p.at s ≡ encode (out a n v true l) ++ rest = q ∙ ap (λ (m : List ℕ). m ++ rest) (append-nil (encode (out a n v true l))) in
    let g = group_at s p (look_of (out a n v true l)) (look_at s p.at (out a n v true l) rest k h.0) in
    let z : 0 + suc f ≡ suc f = omega arith in
    let y = length-append (encode (out a n v true l)) [] in
    ap (λ (i : ℕ). group_from i s p) z ∙ group_ended f s p _ g ∙ same_span (omega arith) refl
walk (x ∷ xs) s p f a n v l rest q h =
    let e = out a n v false x in
    let r = encode_all (group a n (not v) xs l) in
    let k : drop p.at s ≡ encode e ++ (r ++ rest) = q ∙ append_assoc (encode e) r rest in
    let m : Span = record { at = p.at + (6 + length x); count = p.count + length x } in
    let g : group_of s p ≡ Continue m = group_at s p (look_of e) (look_at s p.at e (r ++ rest) k h.0) in
    let d : drop m.at s ≡ r ++ rest = let w : p.at + length (encode e) ≡ p.at + (6 + length x) = omega arith in ap (λ (i : ℕ). drop i s) (sym w) ∙ after_entry s p.at e (r ++ rest) k in
    let z : length (x ∷ xs) + suc f ≡ suc (length xs + suc f) = omega arith in
    let y = length-append (encode e) r in
    let u = length-append x (group_bytes xs l) in
    ap (λ (i : ℕ). group_from i s p) z ∙ group_more (length xs + suc f) s p m g ∙ walk xs s m f a n (not v) l rest d h.1 ∙ same_span (omega arith) (omega arith)

group_long : (a n : ℕ) (v : Bool) (xs : List (List ℕ)) (l : List ℕ) → length (group a n v xs l) ≡ suc (length xs)
group_long a n v [] l = refl
group_long a n v (x ∷ xs) l = ap suc (group_long a n (not v) xs l)

walked : (xs : List (List ℕ)) (s : List ℕ) (at a n : ℕ) (v : Bool) (l rest : List ℕ) → drop at s ≡ encode_all (group a n v xs l) ++ rest → AllInRange (group a n v xs l)
    → group_at_of s at ≡ record { at = at + length (encode_all (group a n v xs l)); count = length (group_bytes xs l) }
unfolding group_at_of
walked xs s at a n v l rest q h =
    let k = few (group a n v xs l) in
    let g = group_long a n v xs l in
    let y = length-append (encode_all (group a n v xs l)) rest in
    let d = length-drop at s in
    let z = ap length q in
    let m : suc (length s) ≡ length xs + suc (length s - length xs) = omega arith in
    ap (λ (i : ℕ). group_from i s (record { at = at; count = 0 })) m ∙ walk xs s (record { at = at; count = 0 }) (length s - length xs) a n v l rest q h ∙ same_span refl (omega arith)

-- ---- what stands after a whole transfer

-- No packet on endpoint 0, and no count above 0.
abbrev Quiet : Result (Option Look) Refusal → Type 0
Quiet (Ok (Some (Out x))) = eqb x.endpoint 0 ≡ false
Quiet (Ok (Some (Setup a w))) = Unit {0}
Quiet (Ok (Some (Failed m))) = m ≡ 0
Quiet (Ok None) = Unit {0}
Quiet (Err why) = Unit {0}

quiet_failed : (y : Result (Option Look) Refusal) → Quiet y → failed_look y ≡ false
quiet_failed (Ok (Some (Out x))) q = refl
quiet_failed (Ok (Some (Setup a w))) q = refl
quiet_failed (Ok (Some (Failed m))) q = ap (λ (n : ℕ). not (eqb n 0)) q
quiet_failed (Ok None) q = refl
quiet_failed (Err why) q = refl

sent_at_lem : (s : List ℕ) (at : ℕ) (y : Result (Option Look) Refusal) → look (drop at s) ≡ y → sent_at s at ≡ sent_look y s at
unfolding sent_at
sent_at_lem s at y q = ap (λ (v : Result (Option Look) Refusal). sent_look v s at) q

quiet_sent : (s : List ℕ) (at : ℕ) (y : Result (Option Look) Refusal) → Quiet y → sent_look y s at ≡ record { at = at; count = 0 }
quiet_sent s at (Ok (Some (Out x))) q = ap (λ (b : Bool). cond b (group_at_of s at) (record { at = at; count = 0 })) q
quiet_sent s at (Ok (Some (Setup a w))) q = refl
quiet_sent s at (Ok (Some (Failed m))) q = refl
quiet_sent s at (Ok None) q = refl
quiet_sent s at (Err why) q = refl

failed_at_lem : (s : List ℕ) (at : ℕ) (y : Result (Option Look) Refusal) → look (drop at s) ≡ y → failed_at s at ≡ failed_look y
unfolding failed_at
failed_at_lem s at y q = ap failed_look q

first_zero : (a : ℕ) (xs : List (List ℕ)) (l rest s : List ℕ) (at : ℕ) → drop at s ≡ encode_all (group a 0 true xs l) ++ rest → AllInRange (group a 0 true xs l) → sent_at s at ≡ group_at_of s at
unfolding encode_all
first_zero a [] l rest s at q h =
    sent_at_lem s at (look_of (out a 0 true true l)) (look_at s at (out a 0 true true l) ([] ++ rest) (q ∙ append_assoc (encode (out a 0 true true l)) [] rest) h.0)
first_zero a (x ∷ xs) l rest s at q h =
    sent_at_lem s at (look_of (out a 0 true false x)) (look_at s at (out a 0 true false x) (encode_all (group a 0 false xs l) ++ rest) (q ∙ append_assoc (encode (out a 0 true false x)) (encode_all (group a 0 false xs l)) rest) h.0)

item_at_lem : (s : List ℕ) (at : ℕ) (y : Result (Option Look) Refusal) → look (drop at s) ≡ y → item_at s at ≡ item_look y s at
unfolding item_at
item_at_lem s at y q = ap (λ (v : Result (Option Look) Refusal). item_look v s at) q

-- ---- whole transfers

unless_not : (s : List ℕ) (at : ℕ) (r : List ℕ) (n : ℕ) (y : ItemAnswer) → drop at s ≡ r → Quiet (look r) → unless_failed (failed_at s at) n y ≡ Some y
unless_not s at r n y q h = ap (λ (b : Bool). unless_failed b n y) (failed_at_lem s at (look r) (ap look q) ∙ quiet_failed (look r) h)

bulk_handed : (a n : ℕ) (v : Bool) (xs : List (List ℕ)) (l rest s : List ℕ) (at : ℕ) → AllInRange (group a n v xs l) → drop at s ≡ encode_all (group a n v xs l) ++ rest → Quiet (look rest)
    → item_at s at ≡ item_for (bulk_part a n v xs l) at
unfolding encode_all
bulk_handed a n v xs l rest s at h q y =
    let w = walked xs s at a n v l rest q h in
    first xs h q
    ∙ ap (λ (x : Span). unless_failed (failed_at s x.at) x.at (Bulk (record { address = a; endpoint = n; pid = v; count = x.count; next = record { at = x.at } }))) w
    ∙ unless_not s (at + length (encode_all (group a n v xs l))) rest _ _ (after_all s at (encode_all (group a n v xs l)) rest q) y
  where
    first : (xs : List (List ℕ)) → AllInRange (group a n v xs l) → drop at s ≡ encode_all (group a n v xs l) ++ rest
        → item_at s at ≡ unless_failed (failed_at s (group_at_of s at).at) (group_at_of s at).at (Bulk (record { address = a; endpoint = n; pid = v; count = (group_at_of s at).count; next = record { at = (group_at_of s at).at } }))
    first [] h q = item_at_lem s at (look_of (out a n v true l)) (look_at s at (out a n v true l) ([] ++ rest) (q ∙ append_assoc (encode (out a n v true l)) [] rest) h.0)
    first (x ∷ xs) h q = item_at_lem s at (look_of (out a n v false x))
        (look_at s at (out a n v false x) (encode_all (group a n (not v) xs l) ++ rest) (q ∙ append_assoc (encode (out a n v false x)) (encode_all (group a n (not v) xs l)) rest) h.0)

sent_walked : (a : ℕ) (t : Sent) (rest s : List ℕ) (at : ℕ) → AllInRange (sent_entries a t) → drop at s ≡ encode_all (sent_entries a t) ++ rest → Quiet (look rest)
    → sent_at s at ≡ record { at = at + length (encode_all (sent_entries a t)); count = length (sent_bytes t) }
unfolding encode_all
sent_walked a no_group rest s at h q y = sent_at_lem s at (look rest) (ap look q) ∙ quiet_sent s at (look rest) y ∙ same_span (omega arith) refl
sent_walked a (one_group xs l) rest s at h q y = first_zero a xs l rest s at q h ∙ walked xs s at a 0 true l rest q h

control_handed : (a : ℕ) (lo hi : Four) (t : Sent) (rest s : List ℕ) (at : ℕ) → Fits (control_part a lo hi t) → drop at s ≡ encode (setup a lo hi) ++ (encode_all (sent_entries a t) ++ rest) → Quiet (look rest)
    → item_at s at ≡ item_for (control_part a lo hi t) at
unfolding encode_all
control_handed a (four b0 b1 b2 b3) (four b4 b5 b6 b7) t rest s at f q y =
    let e = setup a (four b0 b1 b2 b3) (four b4 b5 b6 b7) in
    let r = encode_all (sent_entries a t) ++ rest in
    let h = part_ranged (control_part a (four b0 b1 b2 b3) (four b4 b5 b6 b7) t) f in
    let z = length-append (encode e) (encode_all (sent_entries a t)) in
    let d = after_entry s at e r q in
    let end = at + 10 + length (encode_all (sent_entries a t)) in
    item_at_lem s at (look_of e) (look_at s at e r q h.0)
    ∙ ap (λ (x : Span). unless_failed (failed_at s x.at) x.at (Control (record { address = a; setup = at + 2; count = x.count; next = record { at = x.at } }))) (sent_walked a t rest s (at + 10) h.1 d y)
    ∙ unless_not s end rest end _ (after_all s (at + 10) (encode_all (sent_entries a t)) rest d) y
    ∙ ap (λ (m : ℕ). Some (Control (record { address = a; setup = at + 2; count = length (sent_bytes t); next = record { at = m } }))) (omega arith)

setup_first : (a : ℕ) (lo hi : Four) (es : List Entry) (rest : List ℕ) → encode_all (setup a lo hi ∷ es) ++ rest ≡ encode (setup a lo hi) ++ (encode_all es ++ rest)
unfolding encode_all
setup_first a lo hi es rest = append_assoc (encode (setup a lo hi)) (encode_all es) rest

-- The item of the part that stands at the cursor.
pub handed : (q : Part) (rest s : List ℕ) (at : ℕ) → Fits q → drop at s ≡ encode_all (part_entries q) ++ rest → Quiet (look rest) → item_at s at ≡ item_for q at
handed (bulk_part a n v xs l) rest s at f q y = bulk_handed a n v xs l rest s at (part_ranged (bulk_part a n v xs l) f) q y
handed (control_part a lo hi t) rest s at f q y = control_handed a lo hi t rest s at f (q ∙ setup_first a lo hi (sent_entries a t) rest) y

next_for : (q : Part) (at here : ℕ) → next_of (item_for q at) here ≡ at + length (encode_all (part_entries q))
next_for (bulk_part a n v xs l) at here = refl
next_for (control_part a lo hi t) at here = refl

-- A part begins with no packet on endpoint 0.
part_quiet : (q : Part) (es : List Entry) (e : Entry) (r : List ℕ) → Fits q → part_entries q ≡ e ∷ es → Quiet (look (encode e ++ r))
part_quiet (bulk_part a n v [] l) es e r f k =
    subst (λ (x : Entry). Quiet (look (encode x ++ r))) (head-eq_of_cons-eq k)
    (subst Quiet (sym (look_encode (out a n v true l) r (part_ranged (bulk_part a n v [] l) f).0)) (ne_eqb n 0 (λ (z : n ≡ 0). let y = f.1 in omega arith)))
part_quiet (bulk_part a n v (x ∷ xs) l) es e r f k =
    subst (λ (y : Entry). Quiet (look (encode y ++ r))) (head-eq_of_cons-eq k)
    (subst Quiet (sym (look_encode (out a n v false x) r (part_ranged (bulk_part a n v (x ∷ xs) l) f).0)) (ne_eqb n 0 (λ (z : n ≡ 0). let y = f.1 in omega arith)))
part_quiet (control_part a lo hi t) es e r f k =
    subst (λ (x : Entry). Quiet (look (encode x ++ r))) (head-eq_of_cons-eq k)
    (subst Quiet (sym (look_encode (setup a lo hi) r (part_ranged (control_part a lo hi t) f).0)) tt)

some_first : (q : Part) → (e : Entry) × (es : List Entry) × (part_entries q ≡ e ∷ es)
some_first (bulk_part a n v [] l) = (out a n v true l, [], refl)
some_first (bulk_part a n v (x ∷ xs) l) = (out a n v false x, group a n (not v) xs l, refl)
some_first (control_part a lo hi t) = (setup a lo hi, sent_entries a t, refl)

cons_bytes : (e : Entry) (es : List Entry) (r : List ℕ) → encode_all (e ∷ es) ++ r ≡ encode e ++ (encode_all es ++ r)
unfolding encode_all
cons_bytes e es r = append_assoc (encode e) (encode_all es) r

nil_bytes : (r : List ℕ) → encode_all [] ++ r ≡ r
unfolding encode_all
nil_bytes r = refl

nil_length : length (encode_all []) ≡ 0
unfolding encode_all
nil_length = refl

parts_quiet : (ps : List Part) (r : List ℕ) → AllFit ps → Quiet (look r) → Quiet (look (encode_all (parts_entries ps) ++ r))
parts_quiet [] r f y = subst (λ (l : List ℕ). Quiet (look l)) (sym (nil_bytes r)) y
parts_quiet (q ∷ ps) r f y =
    let k = some_first q in
    let e : encode_all (parts_entries (q ∷ ps)) ++ r ≡ encode k.0 ++ (encode_all (k.1 ++ parts_entries ps) ++ r) =
    ap (λ (es : List Entry). encode_all (es ++ parts_entries ps) ++ r) k.2 ∙ cons_bytes k.0 (k.1 ++ parts_entries ps) r in
    subst (λ (l : List ℕ). Quiet (look l)) (sym e) (part_quiet q k.1 k.0 (encode_all (k.1 ++ parts_entries ps) ++ r) f.0 k.2)

none_left : (s : List ℕ) (n : ℕ) → items_from 0 s n ≡ []
unfolding items_from
none_left s n = refl

-- Whole transfers, one after another.
one_item : (k : ℕ) (s : List ℕ) (at : ℕ) → items_from (suc k) s at ≡ item_at s at ∷ items_from k s (next_of (item_at s at) at)
unfolding items_from
one_item k s at = refl

all_handed : (ps : List Part) (k : ℕ) (rest s : List ℕ) (at : ℕ) → AllFit ps → drop at s ≡ encode_all (parts_entries ps) ++ rest → Quiet (look rest)
    → items_from (length ps + k) s at ≡ items_for ps at ++ items_from k s (at + length (encode_all (parts_entries ps)))
all_handed [] k rest s at f q y =
    let z = nil_length in
    ap₂ (λ (i j : ℕ). items_from i s j) (let x : 0 + k ≡ k = omega arith in x) (let x : at ≡ at + length (encode_all []) = omega arith in x)
all_handed (p ∷ ps) k rest s at f q y =
    let n = length (encode_all (part_entries p)) in
    let b = encode_all (parts_entries ps) in
    let e = encode_append (part_entries p) (parts_entries ps) in
    let q₁ : drop at s ≡ encode_all (part_entries p) ++ (b ++ rest) = q ∙ ap (λ (l : List ℕ). l ++ rest) e ∙ append_assoc (encode_all (part_entries p)) b rest in
    let h = handed p (b ++ rest) s at f.0 q₁ (parts_quiet ps rest f.1 y) in
    let m : next_of (item_at s at) at ≡ at + n = ap (λ (v : Option ItemAnswer). next_of v at) h ∙ next_for p at at in
    let l = ap length e ∙ length-append (encode_all (part_entries p)) b in
    let ih = all_handed ps k rest s (at + n) f.1 (after_all s at (encode_all (part_entries p)) (b ++ rest) q₁) y in
    ap (λ (i : ℕ). items_from i s at) (let x : length (p ∷ ps) + k ≡ suc (length ps + k) = omega arith in x)
    ∙ one_item (length ps + k) s at
    ∙ ap₂ (λ (v : Option ItemAnswer) (i : ℕ). v ∷ items_from (length ps + k) s i) h m
    ∙ ap (λ (v : List (Option ItemAnswer)). item_for p at ∷ v) (ih ∙ ap (λ (i : ℕ). items_for ps (at + n) ++ items_from k s i) (let x : (at + n) + length b ≡ at + length (encode_all (part_entries p ++ parts_entries ps)) = omega arith in x))

-- ---- a transfer that failed

-- A first part of a group, with a count after it, is walked through.
walk_first : (es rest : List Entry) (xs : List (List ℕ)) (s : List ℕ) (p : Span) (f a n m : ℕ) (v : Bool) (l post : List ℕ) → es ++ rest ≡ group a n v xs l → AllInRange es
    → drop p.at s ≡ encode_all es ++ (failed_bytes m ++ post) → (group_from (length es + suc f) s p).at ≡ p.at + length (encode_all es)
unfolding encode_all
walk_first [] rest xs s p f a n m v l post k h q =
    let g = group_at s p (Ok (Some (Failed m))) (ap look q ∙ see_failed m post) in
    let z : 0 + suc f ≡ suc f = omega arith in
    ap (λ (i : ℕ). (group_from i s p).at) z ∙ ap (λ (x : Span). x.at) (group_ended f s p p g) ∙ omega arith
walk_first (e ∷ es) rest [] s p f a n m v l post k h q =
    let t : es ++ rest ≡ [] = tail-eq_of_cons-eq k in
    let z : es ≡ [] = nil_left es t in
    let d : drop p.at s ≡ encode (out a n v true l) ++ (encode_all es ++ (failed_bytes m ++ post)) =
    q ∙ append_assoc (encode e) (encode_all es) (failed_bytes m ++ post) ∙ ap (λ (x : Entry). encode x ++ (encode_all es ++ (failed_bytes m ++ post))) (head-eq_of_cons-eq k) in
    let g = group_at s p (look_of (out a n v true l)) (look_at s p.at (out a n v true l) _ d (subst InRange (head-eq_of_cons-eq k) h.0)) in
    let i : length (e ∷ es) + suc f ≡ suc (length es + suc f) = omega arith in
    let u : length (encode_all es) ≡ 0 = ap (λ (x : List Entry). length (encode_all x)) z in
    let w = ap (λ (x : Entry). length (encode x)) (head-eq_of_cons-eq k) in
    let w₂ : length (encode (out a n v true l)) ≡ 6 + length l = omega arith in
    let y = length-append (encode e) (encode_all es) in
    ap (λ (j : ℕ). (group_from j s p).at) i ∙ ap (λ (x : Span). x.at) (group_ended (length es + suc f) s p _ g) ∙ omega arith
  where
    nil_left : (es : List Entry) → es ++ rest ≡ [] → es ≡ []
    nil_left [] t = refl
    nil_left (x ∷ es) t = absurd-eq (cc)
walk_first (e ∷ es) rest (x ∷ xs) s p f a n m v l post k h q =
    let d : drop p.at s ≡ encode (out a n v false x) ++ (encode_all es ++ (failed_bytes m ++ post)) =
    q ∙ append_assoc (encode e) (encode_all es) (failed_bytes m ++ post) ∙ ap (λ (y : Entry). encode y ++ (encode_all es ++ (failed_bytes m ++ post))) (head-eq_of_cons-eq k) in
    let r : Span = record { at = p.at + (6 + length x); count = p.count + length x } in
    let g : group_of s p ≡ Continue r = group_at s p (look_of (out a n v false x)) (look_at s p.at (out a n v false x) _ d (subst InRange (head-eq_of_cons-eq k) h.0)) in
    let w = ap (λ (y : Entry). length (encode y)) (head-eq_of_cons-eq k) in
    let w₂ : length (encode (out a n v false x)) ≡ 6 + length x = omega arith in
    let o : drop r.at s ≡ encode_all es ++ (failed_bytes m ++ post) =
    let z : p.at + length (encode (out a n v false x)) ≡ p.at + (6 + length x) = omega arith in
    ap (λ (i : ℕ). drop i s) (sym z) ∙ after_entry s p.at (out a n v false x) (encode_all es ++ (failed_bytes m ++ post)) d in
    let i : length (e ∷ es) + suc f ≡ suc (length es + suc f) = omega arith in
    let y = length-append (encode e) (encode_all es) in
    ap (λ (j : ℕ). (group_from j s p).at) i ∙ ap (λ (u : Span). u.at) (group_more (length es + suc f) s p r g)
    ∙ walk_first es rest xs s r f a n m (not v) l post (tail-eq_of_cons-eq k) h.1 o ∙ omega arith

walked_first : (es rest : List Entry) (xs : List (List ℕ)) (s : List ℕ) (at a n m : ℕ) (v : Bool) (l post : List ℕ) → es ++ rest ≡ group a n v xs l → AllInRange es
    → drop at s ≡ encode_all es ++ (failed_bytes m ++ post) → (group_at_of s at).at ≡ at + length (encode_all es)
unfolding group_at_of
walked_first es rest xs s at a n m v l post k h q =
    let c = few es in
    let y = length-append (encode_all es) (failed_bytes m ++ post) in
    let d = length-drop at s in
    let z = ap length q in
    let i : suc (length s) ≡ length es + suc (length s - length es) = omega arith in
    ap (λ (j : ℕ). (group_from j s (record { at = at; count = 0 })).at) i ∙ walk_first es rest xs s (record { at = at; count = 0 }) (length s - length es) a n m v l post k h q

unless_failed_lem : (s : List ℕ) (at n : ℕ) (m : ℕ) (post : List ℕ) (y : ItemAnswer) → drop at s ≡ failed_bytes (suc m) ++ post → at ≡ n → unless_failed (failed_at s at) at y ≡ Some (failed_item (record { at = n + 5 }))
unless_failed_lem s at n m post y q e =
    ap (λ (b : Bool). unless_failed b at y) (failed_at_lem s at (Ok (Some (Failed (suc m)))) (ap look q ∙ see_failed (suc m) post) ∙ ap not (ne_eqb (suc m) 0 (λ (z : suc m ≡ 0). omega arith)))
    ∙ ap (λ (i : ℕ). Some (failed_item (record { at = i + 5 }))) e

tail_is : {e x : Entry} {a b : List Entry} → e ∷ a ≡ x ∷ b → a ≡ b
tail_is q = tail-eq_of_cons-eq q

-- A failed transfer that begins with an OUT packet.
first_out : (a n : ℕ) (v last : Bool) (l : List ℕ) (es : List Entry) (s : List ℕ) (at : ℕ) (post : List ℕ) (k : FirstPart (out a n v last l ∷ es))
    → drop at s ≡ encode_all (out a n v last l ∷ es) ++ (failed_bytes (suc (length es)) ++ post)
    → item_at s at ≡ Some (failed_item (record { at = at + length (encode_all (out a n v last l ∷ es)) + 5 }))
first_out a n v last l es s at post k q = go k.part k.is
  where
    e : Entry
    e = out a n v last l

    go : (p : Part) → (out a n v last l ∷ es) ++ k.rest ≡ part_entries p → item_at s at ≡ Some (failed_item (record { at = at + length (encode_all (out a n v last l ∷ es)) + 5 }))
    go (control_part a' lo hi t) j = absurd-eq (cc)
    go (bulk_part a' n' v' xs l') j =
        let h = first_ranged (out a n v last l ∷ es) k in
        let w = walked_first (out a n v last l ∷ es) k.rest xs s at a' n' (suc (length es)) v' l' post j h q in
        let g = after_all s at (encode_all (out a n v last l ∷ es)) (failed_bytes (suc (length es)) ++ post) q in
        item_at_lem s at (look_of (out a n v last l)) (look_at s at (out a n v last l) _ (q ∙ cons_bytes (out a n v last l) es (failed_bytes (suc (length es)) ++ post)) h.0)
        ∙ unless_failed_lem s (group_at_of s at).at (at + length (encode_all (out a n v last l ∷ es))) (length es) post _ (ap (λ (i : ℕ). drop i s) w ∙ g) w

-- What a failed control sent after its SETUP.
sent_first : (a : ℕ) (t : Sent) (es rest : List Entry) (s : List ℕ) (at m : ℕ) (post : List ℕ) → es ++ rest ≡ sent_entries a t → AllInRange es
    → drop at s ≡ encode_all es ++ (failed_bytes m ++ post) → (sent_at s at).at ≡ at + length (encode_all es)
unfolding encode_all
sent_first a t [] rest s at m post j h q =
    ap (λ (x : Span). x.at) (sent_at_lem s at (Ok (Some (Failed m))) (ap look q ∙ see_failed m post)) ∙ omega arith
sent_first a no_group (e ∷ es) rest s at m post j h q = absurd-eq (cc)
sent_first a (one_group xs l) (setup a' lo hi ∷ es) rest s at m post j h q = no_setup xs j
  where
    no_setup : {A : Type 0} (xs : List (List ℕ)) → setup a' lo hi ∷ (es ++ rest) ≡ group a 0 true xs l → A
    no_setup [] j = absurd-eq (cc)
    no_setup (x ∷ xs) j = absurd-eq (cc)
sent_first a (one_group xs l) (out a' n v last x ∷ es) rest s at m post j h q =
    let e = out a' n v last x in
    let z : n ≡ 0 = zero_end xs j in
    let d = q ∙ append_assoc (encode e) (encode_all es) (failed_bytes m ++ post) in
    ap (λ (y : Span). y.at) (sent_at_lem s at (look_of e) (look_at s at e _ d h.0) ∙ ap (λ (b : Bool). cond b (group_at_of s at) (record { at = at; count = 0 })) (ap (λ (i : ℕ). eqb i 0) z))
    ∙ walked_first (e ∷ es) rest xs s at a 0 m true l post j h q
  where
    zero_end : (xs : List (List ℕ)) → out a' n v last x ∷ (es ++ rest) ≡ group a 0 true xs l → n ≡ 0
    zero_end [] j = cc
    zero_end (y ∷ xs) j = cc

-- A failed transfer that begins with a SETUP.
first_setup : (a : ℕ) (lo hi : Four) (es : List Entry) (s : List ℕ) (at : ℕ) (post : List ℕ) (k : FirstPart (setup a lo hi ∷ es))
    → drop at s ≡ encode_all (setup a lo hi ∷ es) ++ (failed_bytes (suc (length es)) ++ post)
    → item_at s at ≡ Some (failed_item (record { at = at + length (encode_all (setup a lo hi ∷ es)) + 5 }))
unfolding encode_all
first_setup a (four b0 b1 b2 b3) (four b4 b5 b6 b7) es s at post k q = go k.part k.is
  where
    go : (p : Part) → (setup a (four b0 b1 b2 b3) (four b4 b5 b6 b7) ∷ es) ++ k.rest ≡ part_entries p
        → item_at s at ≡ Some (failed_item (record { at = at + length (encode (setup a (four b0 b1 b2 b3) (four b4 b5 b6 b7)) ++ encode_all es) + 5 }))
    go (bulk_part a' n v [] l) j = absurd-eq (cc)
    go (bulk_part a' n v (x ∷ xs) l) j = absurd-eq (cc)
    go (control_part a' lo' hi' t) j =
        let e = setup a (four b0 b1 b2 b3) (four b4 b5 b6 b7) in
        let r = failed_bytes (suc (length es)) ++ post in
        let h = first_ranged (e ∷ es) k in
        let d : drop at s ≡ encode e ++ (encode_all es ++ r) = q ∙ append_assoc (encode e) (encode_all es) r in
        let o : drop (at + 10) s ≡ encode_all es ++ r = after_entry s at e (encode_all es ++ r) d in
        let w = sent_first a' t es k.rest s (at + 10) (suc (length es)) post (tail_is j) h.1 o in
        let g = after_all s (at + 10) (encode_all es) r o in
        let y = length-append (encode e) (encode_all es) in
        item_at_lem s at (look_of e) (look_at s at e (encode_all es ++ r) d h.0)
        ∙ unless_failed_lem s (sent_at s (at + 10)).at (at + 10 + length (encode_all es)) (length es) post _ (ap (λ (i : ℕ). drop i s) w ∙ g) w
        ∙ ap (λ (i : ℕ). Some (failed_item (record { at = i + 5 }))) (omega arith)

-- The entries of a transfer that failed, with their count after them, are passed over.
first_handed : (es : List Entry) (s : List ℕ) (at : ℕ) (post : List ℕ) → FirstPart es → drop at s ≡ encode_all es ++ (failed_bytes (length es) ++ post)
    → item_at s at ≡ Some (failed_item (record { at = at + length (encode_all es) + 5 }))
first_handed [] s at post k q =
    let z = nil_length in
    item_at_lem s at (Ok (Some (Failed 0))) (ap look (q ∙ nil_bytes (failed_bytes 0 ++ post)) ∙ see_failed 0 post) ∙ ap (λ (i : ℕ). Some (failed_item (record { at = i + 5 }))) (omega arith)
first_handed (setup a lo hi ∷ es) s at post k q = first_setup a lo hi es s at post k q
first_handed (out a n v last l ∷ es) s at post k q = first_out a n v last l es s at post k q

-- ---- a whole record

first_quiet : (es : List Entry) (post : List ℕ) → FirstPart es → Quiet (look (encode_all es ++ (failed_bytes (length es) ++ post)))
first_quiet [] post k = subst (λ (l : List ℕ). Quiet (look l)) (sym (nil_bytes (failed_bytes 0 ++ post))) (subst Quiet (sym (see_failed 0 post)) refl)
first_quiet (e ∷ es) post k =
    let r = failed_bytes (suc (length es)) ++ post in
    subst (λ (l : List ℕ). Quiet (look l)) (sym (cons_bytes e es r)) (part_quiet k.part (es ++ k.rest) e (encode_all es ++ r) k.fits (sym k.is))

look_nil : look [] ≡ Ok None
unfolding look
look_nil = refl

end_quiet : Quiet (look [])
end_quiet = subst Quiet (sym look_nil) tt

pub segment_bytes : (g : Segment) (gs : List Segment) (ps : List Part)
    → encode_elements (elements (g ∷ gs) ps) ≡ encode_all (parts_entries g.whole ++ g.first) ++ (failed_bytes (length g.first) ++ encode_elements (elements gs ps))
unfolding encode_elements
segment_bytes g gs ps =
    elements_append (map entry (parts_entries g.whole ++ g.first)) (failed_entry (length g.first) ∷ elements gs ps)
    ∙ ap (λ (l : List ℕ). l ++ (failed_bytes (length g.first) ++ encode_elements (elements gs ps))) (sym (elements_entries (parts_entries g.whole ++ g.first)))

-- The cursor over a reading: its whole transfers in order, one step over each that failed, and the end.
pub handed_out : (gs : List Segment) (ps : List Part) (s : List ℕ) (at : ℕ) → SegmentsFit gs → AllFit ps → drop at s ≡ encode_elements (elements gs ps)
    → items_from (moves gs ps) s at ≡ answers_for gs ps at
handed_out [] ps s at f g q =
    let b = q ∙ sym (elements_entries (parts_entries ps)) ∙ sym (append-nil (encode_all (parts_entries ps))) in
    let end = at + length (encode_all (parts_entries ps)) in
    let z : item_at s end ≡ None = item_at_lem s end (Ok None) (ap look (after_all s at (encode_all (parts_entries ps)) [] b) ∙ look_nil) in
    ap (λ (i : ℕ). items_from i s at) (let x : suc (length ps) ≡ length ps + 1 = omega arith in x)
    ∙ all_handed ps 1 [] s at g b end_quiet
    ∙ ap (λ (l : List (Option ItemAnswer)). items_for ps at ++ l) (one_item 0 s end ∙ ap₂ {C = List (Option ItemAnswer)} ◌∷◌ z (none_left s (next_of (item_at s end) end)))
handed_out (g ∷ gs) ps s at f h q =
    let before = encode_all (parts_entries g.whole) in
    let first = encode_all g.first in
    let post = encode_elements (elements gs ps) in
    let r = failed_bytes (length g.first) ++ post in
    let e = encode_append (parts_entries g.whole) g.first in
    let q₁ : drop at s ≡ before ++ (first ++ r) = q ∙ segment_bytes g gs ps ∙ ap (λ (l : List ℕ). l ++ r) e ∙ append_assoc before first r in
    let q₂ = after_all s at before (first ++ r) q₁ in
    let q₃ = after_all s (at + length before) first r q₂ in
    let end = at + length (encode_all (parts_entries g.whole ++ g.first)) + 5 in
    let l = ap length e ∙ length-append before first in
    let q₄ : drop end s ≡ post = ap (λ (i : ℕ). drop i s) (let x : end ≡ (at + length before + length first) + 5 = omega arith in x)
    ∙ after_all s (at + length before + length first) (failed_bytes (length g.first)) post q₃ in
    let k = moves gs ps in
    let fh = first_handed g.first s (at + length before) post f.0.1 q₂ ∙ ap (λ (i : ℕ). Some (failed_item (record { at = i + 5 }))) (let x : (at + length before) + length first ≡ at + length (encode_all (parts_entries g.whole ++ g.first)) = omega arith in x) in
    all_handed g.whole (suc k) (first ++ r) s at f.0.0 q₁ (first_quiet g.first post f.0.1)
    ∙ ap (λ (v : List (Option ItemAnswer)). items_for g.whole at ++ v)
    (one_item k s (at + length before)
    ∙ ap (λ (y : Option ItemAnswer). y ∷ items_from k s (next_of y (at + length before))) fh
    ∙ ap (λ (v : List (Option ItemAnswer)). Some (failed_item (record { at = end })) ∷ v) (handed_out gs ps s end f.1 h q₄))

pub drop_record : (two : Bool) (ms : List Element) → drop 5 (record_in two ms) ≡ encode_elements ms
unfolding record_in
drop_record true ms = refl
drop_record false ms = refl
