-- The check answers what the bytes deserve, and nothing else is deserved.
-- Assumes nothing.
use Rattle.std.specs.Prelude.{Err, None, Ok, Option, Result, Some}
use mathlib.Core.Path.{◌≡◌, refl, sym, ap, ap₂, ◌∙◌, subst}
use mathlib.Core.Logic.{inl, inr}
use mathlib.Core.Bool.{Bool, true, false, not, cond, ◌&&◌, ◌||◌}
use mathlib.Core.List.{List, [], ◌∷◌, ◌++◌, map, append_assoc, append-nil}
use Prim.Native.Nat.{ℕ, zero, suc, ◌+◌, ◌*◌, ◌-◌, ◌≤◌, ◌<◌}
use native.Mathlib.Omega.{arith}
use lib.ListN.{length, drop, length-append, length-drop}
use lib.Seq.{drop-drop, drop-append_seam}
use lib.Dec.{eqb, leb, lit<}
use borrow.Author.Tests.{eqb-true, le-leb}
use Rattle.pool.proofs.Cases.{by_cases}
use Rattle.transfers.specs.Reply.{Reply, result}
use Rattle.record.specs.Refusal.{check_reply}
use Rattle.record.specs.Grammar.{Four, four, FourBytes, Entry, setup, out, Bytes, group, group_bytes, AllOf, Sent, SentFits, sent_entries, Part, bulk_part, control_part, part_entries, Fits, AllFit, parts_entries, no_group, one_group}
use Rattle.record.specs.Segments.{Element, entry, failed_entry, FirstPart, Segment, SegmentsFit, up_to, elements, Reading, unfailed}
use Rattle.record.specs.Bytes.{head_for, flag_byte, four_of, encode_element, encode_elements}
use Rattle.record.specs.Scan.{Ends, AllInRange}
use Rattle.record.specs.Place.{feed_element, run_after, count_after, Place, Reach, at, refused, reach, feed_elements, start, ElementsInRange}
use Rattle.record.specs.Reader.{version_at, head_right, look, finish, go_on, turned, turn_look, turn_of, read_from, at_head, check_of}
use Rattle.record.specs.Verdict.{version_number, record_in, Ranged, AllRanged, Reads, Viable, NoWayOn, Verdict, no_head, no_entry, no_way_on, unfinished, is_whole}
use Rattle.record.specs.declared.refusal.Refusal.TheVariants.{Mark as bad_mark, Field, Grammar}
use Rattle.record.specs.declared.scan.Scan.{Scan}
use Rattle.record.specs.declared.scan.Scan.TheVariants.{Between as between, AfterSetup as after_setup, InBulk as in_bulk, InControl as in_control_of}
use Rattle.record.specs.declared.look.Look.{Look}
use Rattle.record.specs.declared.look.Look.TheVariants.{Failed}
use Rattle.record.specs.declared.reader.Progress.{Progress}
use Rattle.std.proofs.Common.{Continue, Break}
use Rattle.record.proofs.Both.{absurd-eq, and_left, and_right}
use Rattle.record.proofs.OneReading.{no_count}
use Rattle.record.proofs.Placing.{reader, feed_elements_append}
use Rattle.record.proofs.Few.{first_few}
use Rattle.record.proofs.Encoding.{elements_append, element_one}
use Rattle.record.proofs.Looking.{Seen, seen_end, seen_bad, seen_setup, seen_out, seen_failed, seen}
use Rattle.record.proofs.Turns.{read_go, read_stop}
use Rattle.record.proofs.Decoding.{Decoded, look_element, look_element_lem, drop_element, turn_element, bytes_drop, setup_decoded, out_decoded, failed_decoded}
use Rattle.record.specs.declared.refusal.Refusal.{Refusal}

abbrev pub Deserved : List ℕ → Result ℕ Refusal → Type 0
Deserved s a = Verdict s (check_reply a)

-- ---- the head

record Head (s : List ℕ) : Type 0 where
  two : Bool
  version : eqb (version_at s) 2 ≡ two
  is : s ≡ head_for (version_number two) ++ drop 5 s

head_is : (s : List ℕ) → Bytes s → head_right s ≡ true → Head s
unfolding head_right version_at
head_is [] b h = absurd-eq (cc)
head_is (x ∷ []) b h = absurd-eq (cc)
head_is (x ∷ y ∷ []) b h = absurd-eq (cc)
head_is (x ∷ y ∷ z ∷ []) b h = absurd-eq (cc)
head_is (x ∷ y ∷ z ∷ u ∷ []) b h = absurd-eq (cc)
head_is (x ∷ y ∷ z ∷ u ∷ v ∷ s) b h =
    let w = u + v * 256 in
    let t₄ = eqb w 1 || eqb w 2 in
    let t₃ = eqb z 0x47 && t₄ in
    let t₂ = eqb y 0x4C && t₃ in
    let t₁ = eqb x 0x57 && t₂ in
    let five : leb 5 (length (x ∷ y ∷ z ∷ u ∷ v ∷ s)) ≡ true = le-leb 5 (length (x ∷ y ∷ z ∷ u ∷ v ∷ s)) (omega arith) in
    let h₁ = and_right (leb 5 (length (x ∷ y ∷ z ∷ u ∷ v ∷ s))) t₁ h in
    let h₂ = and_right (eqb x 0x57) t₂ h₁ in
    let h₃ = and_right (eqb y 0x4C) t₃ h₂ in
    let h₄ = and_right (eqb z 0x47) t₄ h₃ in
    let ex : x ≡ 0x57 = eqb-true x 0x57 (and_left (eqb x 0x57) t₂ h₁) in
    let ey : y ≡ 0x4C = eqb-true y 0x4C (and_left (eqb y 0x4C) t₃ h₂) in
    let ez : z ≡ 0x47 = eqb-true z 0x47 (and_left (eqb z 0x47) t₄ h₃) in
    let bu = b.1.1.1.0 in
    let at : cond (leb 5 (length (x ∷ y ∷ z ∷ u ∷ v ∷ s))) w 0 ≡ w = ap (λ (c : Bool). cond c w 0) five in
    by_cases (eqb w 2)
    (λ (q : eqb w 2 ≡ true).
    let e : w ≡ 2 = eqb-true w 2 q in
    let eu : u ≡ 2 = omega arith in
    let ev : v ≡ 0 = omega arith in
    record { two = true; version = ap (λ (n : ℕ). eqb n 2) at ∙ q; is = same ex ey ez eu ev })
    (λ (q : eqb w 2 ≡ false).
    let r : (eqb w 1 || false) ≡ true = subst (λ (c : Bool). (eqb w 1 || c) ≡ true) q h₄ in
    let e : w ≡ 1 = eqb-true w 1 (or_false (eqb w 1) r) in
    let eu : u ≡ 1 = omega arith in
    let ev : v ≡ 0 = omega arith in
    record { two = false; version = ap (λ (n : ℕ). eqb n 2) at ∙ q; is = same ex ey ez eu ev })
  where
    same : {x y z u v x' y' z' u' v' : ℕ} → x ≡ x' → y ≡ y' → z ≡ z' → u ≡ u' → v ≡ v' → x ∷ y ∷ z ∷ u ∷ v ∷ s ≡ x' ∷ y' ∷ z' ∷ u' ∷ v' ∷ s
    same e₁ e₂ e₃ e₄ e₅ = cc

    or_false : (a : Bool) → (a || false) ≡ true → a ≡ true
    or_false true k = refl
    or_false false k = k

head_right_lem : (two : Bool) (r : List ℕ) → head_right (head_for (version_number two) ++ r) ≡ true
unfolding head_right
head_right_lem true r = rw (le-leb 5 (length (head_for 2 ++ r)) (omega arith))
head_right_lem false r = rw (le-leb 5 (length (head_for 1 ++ r)) (omega arith))

version_in : (two : Bool) (r : List ℕ) → version_at (head_for (version_number two) ++ r) ≡ version_number two
unfolding version_at
version_in true r = rw (le-leb 5 (length (head_for 2 ++ r)) (omega arith))
version_in false r = rw (le-leb 5 (length (head_for 1 ++ r)) (omega arith))

version_at_lem : (two : Bool) (r : List ℕ) → eqb (version_at (head_for (version_number two) ++ r)) 2 ≡ two
version_at_lem true r = ap (λ (n : ℕ). eqb n 2) (version_in true r)
version_at_lem false r = ap (λ (n : ℕ). eqb n 2) (version_in false r)

-- The version of a record's bytes.
pub version_of : (s : List ℕ) (two : Bool) (ms : List Element) → s ≡ record_in two ms → version_at s ≡ version_number two
unfolding record_in
version_of s two ms q = ap version_at q ∙ version_in two (encode_elements ms)

-- ---- versions

-- No counts.
abbrev Plain : List Element → Type 0
Plain [] = Unit {0}
Plain (entry e ∷ ms) = Plain ms
Plain (failed_entry m ∷ ms) = ⊥

plain_ranged : (ms : List Element) → AllRanged false ms → Plain ms
plain_ranged [] h = tt
plain_ranged (entry e ∷ ms) h = plain_ranged ms h.1
plain_ranged (failed_entry m ∷ ms) h = absurd (let z : false ≡ true = h.0.1 in absurd-eq (cc))

plain_append : (a : List Element) (b : List Entry) → Plain a → Plain (a ++ map entry b)
plain_append [] b h = plain b
  where
    plain : (b : List Entry) → Plain (map entry b)
    plain [] = tt
    plain (e ∷ b) = plain b
plain_append (entry e ∷ a) b h = plain_append a b h
plain_append (failed_entry m ∷ a) b h = absurd h

plain_map : (ms : List Element) → Plain ms → (es : List Entry) × (map entry es ≡ ms)
plain_map [] h = ([], refl)
plain_map (entry e ∷ ms) h = let k = plain_map ms h in (e ∷ k.0, ap (λ (r : List Element). entry e ∷ r) k.1)
plain_map (failed_entry m ∷ ms) h = absurd h

plain_reading : (ms : List Element) → Plain ms → (k : Reading ms) → k.segments ≡ []
plain_reading ms h k = let p = plain_map ms h in go k.segments (k.is ∙ sym p.1)
  where
    go : (ss : List Segment) → elements ss k.last ≡ map entry (plain_map ms h).0 → ss ≡ []
    go [] q = refl
    go (g ∷ gs) q = no_count (plain_map ms h).0 (parts_entries g.whole ++ g.first) (length g.first) (up_to gs (map entry (parts_entries k.last))) (sym q)

abbrev reads_of : (two : Bool) (ms : List Element) → AllRanged two ms → Reading ms → Reads two ms
reads_of two ms h k = record { reading = k; plain = λ (e : two ≡ false). plain_reading ms (plain_ranged ms (subst (λ (v : Bool). AllRanged v ms) e h)) k }

in_range : (two : Bool) (ms : List Element) → AllRanged two ms → ElementsInRange ms
in_range two [] h = tt
in_range two (m ∷ ms) h = (h.0.0, in_range two ms h.1)

all_append : (two : Bool) (a b : List Element) → AllRanged two a → AllRanged two b → AllRanged two (a ++ b)
all_append two [] b h k = k
all_append two (m ∷ a) b h k = (h.0, all_append two a b h.1 k)

viable_of : (two : Bool) (ms : List Element) (p : Place) → AllRanged two ms → feed_elements (at start) ms ≡ at p → Viable two ms
viable_of two ms p h q =
    let v = reader.viable ms p (in_range two ms h) q in
    record {
      after = map entry v.0;
      reads = record {
        reading = v.1;
        plain = λ (e : two ≡ false). plain_reading (ms ++ map entry v.0) (plain_append ms v.0 (plain_ranged ms (subst (λ (u : Bool). AllRanged u ms) e h))) v.1;
      };
    }

-- ---- entries in a row

abbrev place_of : Progress → Place
place_of p = record { scan = p.scan; run = p.run; count = p.count }

-- The place after entries.
abbrev landed : Progress → List Element → Place → Progress
landed p ms q = record { at = p.at + length (encode_elements ms); scan = q.scan; run = q.run; count = q.count }

pub after_element : (s : List ℕ) (n : ℕ) (m : Element) (post : List ℕ) → drop n s ≡ encode_element m ++ post → drop (n + length (encode_element m)) s ≡ post
after_element s n m post q = sym (drop-drop (length (encode_element m)) n s) ∙ ap (λ (l : List ℕ). drop (length (encode_element m)) l) q ∙ drop_element m post

refused_at : {A : Type 0} (ms : List Element) (q : Place) → feed_elements refused ms ≡ at q → A
refused_at [] q e = absurd-eq (cc)
refused_at (m ∷ ms) q e = absurd-eq (cc)

run : (ms : List Element) (s : List ℕ) (two : Bool) (p : Progress) (f : ℕ) (rest : List ℕ) (q : Place) → drop p.at s ≡ encode_elements ms ++ rest → AllRanged two ms
    → feed_elements (at (place_of p)) ms ≡ at q → read_from (length ms + f) s two p ≡ read_from f s two (landed p ms q)
unfolding encode_elements
run [] s two p f rest q d h e =
    let z : place_of p ≡ q = cc in
    let y : 0 + f ≡ f = omega arith in
    let a : p.at ≡ p.at + 0 = omega arith in
    ap (λ (i : ℕ). read_from i s two p) y
    ∙ ap₂ (λ (i : ℕ) (r : Place). read_from f s two (record { at = i; scan = r.scan; run = r.run; count = r.count })) a z
run (x ∷ ms) s two p f rest q d h e = go (feed_element p.scan p.run x) refl (λ n k g. run ms s two n f rest q k h.1 g)
  where
    k : drop p.at s ≡ encode_element x ++ (encode_elements ms ++ rest)
    k = d ∙ append_assoc (encode_element x) (encode_elements ms) rest

    go : (o : Option Scan) → feed_element p.scan p.run x ≡ o
        → ((n : Progress) → drop n.at s ≡ encode_elements ms ++ rest → feed_elements (at (place_of n)) ms ≡ at q → read_from (length ms + f) s two n ≡ read_from f s two (landed n ms q))
        → read_from (length (x ∷ ms) + f) s two p ≡ read_from f s two (landed p (x ∷ ms) q)
    go None w ih = refused_at ms q (subst (λ (o : Option Scan). feed_elements (reach o (run_after p.scan p.run x) (count_after p.scan p.count x)) ms ≡ at q) w e)
    go (Some u) w ih =
        let n : Progress = record { at = p.at + length (encode_element x); scan = u; run = run_after p.scan p.run x; count = count_after p.scan p.count x } in
        let t : turn_of s two p ≡ Continue n = turn_element s two p x (encode_elements ms ++ rest) k h.0.0 h.0.1
        ∙ ap (λ (o : Option Scan). turned (go_on o (p.at + length (encode_element x)) (run_after p.scan p.run x) (count_after p.scan p.count x))) w in
        let g = subst (λ (o : Option Scan). feed_elements (reach o (run_after p.scan p.run x) (count_after p.scan p.count x)) ms ≡ at q) w e in
        let r = ih n (after_element s p.at x (encode_elements ms ++ rest) k) g in
        let a = length-append (encode_element x) (encode_elements ms) in
        let m : suc (length ms + f) ≡ length (x ∷ ms) + f = omega arith in
        ap (λ (i : ℕ). read_from i s two p) (sym m) ∙ read_go (length ms + f) s two p n t ∙ r
        ∙ ap (λ (i : ℕ). read_from f s two (record { at = i; scan = q.scan; run = q.run; count = q.count })) (omega arith)

-- ---- the answer is deserved

record_snoc : (two : Bool) (ms : List Element) (m : Element) (r : List ℕ) → record_in two ms ++ (encode_element m ++ r) ≡ record_in two (ms ++ (m ∷ [])) ++ r
unfolding record_in
record_snoc two ms m r =
    let h = head_for (version_number two) in
    sym (append_assoc (h ++ encode_elements ms) (encode_element m) r)
    ∙ ap (λ (l : List ℕ). l ++ r) (append_assoc h (encode_elements ms) (encode_element m) ∙ ap (λ (l : List ℕ). h ++ l) (ap (λ (l : List ℕ). encode_elements ms ++ l) (sym (element_one m)) ∙ sym (elements_append ms (m ∷ []))))

-- What was read so far.
record Come (s : List ℕ) (two : Bool) (p : Progress) : Type 0 where
  done : List Element
  is : s ≡ record_in two done ++ drop p.at s
  ranged : AllRanged two done
  fed : feed_elements (at start) done ≡ at (place_of p)

come_on : (s : List ℕ) (two : Bool) (p : Progress) → Come s two p → (m : Element) (post : List ℕ) (u : Scan) → Ranged two m → drop p.at s ≡ encode_element m ++ post
    → feed_element p.scan p.run m ≡ Some u
    → Come s two (record { at = p.at + length (encode_element m); scan = u; run = run_after p.scan p.run m; count = count_after p.scan p.count m })
come_on s two p c m post u h q w = record {
  done = c.done ++ (m ∷ []);
  is = c.is ∙ ap (λ (l : List ℕ). record_in two c.done ++ l) q ∙ record_snoc two c.done m post ∙ ap (λ (l : List ℕ). record_in two (c.done ++ (m ∷ [])) ++ l) (sym (after_element s p.at m post q));
  ranged = all_append two c.done (m ∷ []) c.ranged (h, tt);
  fed = feed_elements_append (at start) c.done (m ∷ []) ∙ ap (λ (o : Reach). feed_elements o (m ∷ [])) c.fed
      ∙ ap (λ (o : Option Scan). reach o (run_after p.scan p.run m) (count_after p.scan p.count m)) w;
}

at_same : (p q : Place) → at p ≡ at q → p ≡ q
at_same p q e = cc

-- The count of a record that was taken.
count_is : (ms : List Element) (k : Reading ms) (p : Place) → feed_elements (at start) ms ≡ at p → p.count ≡ length (unfailed k.segments k.last)
count_is ms k p f = let t = reader.takes_all ms k in ap (λ (q : Place). q.count) (at_same p t.0 (sym f ∙ t.1)) ∙ t.3

ends_is : (ms : List Element) (k : Reading ms) (p : Place) → feed_elements (at start) ms ≡ at p → Ends (Some p.scan)
ends_is ms k p f = let t = reader.takes_all ms k in subst (λ (q : Place). Ends (Some q.scan)) (sym (at_same p t.0 (sym f ∙ t.1))) t.2

at_end : (s : List ℕ) (two : Bool) (st : Scan) (r k : ℕ) (ms : List Element) → s ≡ record_in two ms → AllRanged two ms → feed_elements (at start) ms ≡ at (record { scan = st; run = r; count = k })
    → Deserved s (finish st k)
at_end s two between r k ms q h f =
    let p : Place = record { scan = between; run = r; count = k } in
    let w = reader.takes_only ms p (in_range two ms h) f tt in
    is_whole (record { two = two; ms = ms; is = q; reads = reads_of two ms h w }) (ap result (count_is ms w p f))
at_end s two (after_setup a n) r k ms q h f =
    let p : Place = record { scan = after_setup a n; run = r; count = k } in
    let w = reader.takes_only ms p (in_range two ms h) f tt in
    is_whole (record { two = two; ms = ms; is = q; reads = reads_of two ms h w }) (ap result (count_is ms w p f))
at_end s two (in_bulk a e v n t) r k ms q h f =
    let p : Place = record { scan = in_bulk a e v n t; run = r; count = k } in
    unfinished (record { two = two; ms = ms; is = q; ranged = h; viable = viable_of two ms p h f; unread = λ y. ends_is ms y.reading p f }) refl
at_end s two (in_control_of a n v l t) r k ms q h f =
    let p : Place = record { scan = in_control_of a n v l t; run = r; count = k } in
    unfinished (record { two = two; ms = ms; is = q; ranged = h; viable = viable_of two ms p h f; unread = λ y. ends_is ms y.reading p f }) refl

nil_of : (l : List ℕ) → length l ≡ 0 → l ≡ []
nil_of [] e = refl
nil_of (x ∷ l) e = absurd (omega arith)

no_look : (m : Element) → look_element m ≡ Err Field → ⊥
no_look (entry (setup a lo hi)) q = absurd-eq (cc)
no_look (entry (out a e b last l)) q = absurd-eq (cc)
no_look (failed_entry m) q = absurd-eq (cc)

look_nil : look [] ≡ Err Field → ⊥
unfolding look
look_nil q = absurd-eq (cc)

pub encode_some : (m : Element) → 1 ≤ length (encode_element m)
encode_some (entry (setup a lo hi)) = omega arith
encode_some (entry (out a e b last l)) = omega arith
encode_some (failed_entry m) = omega arith

turn_at : (s : List ℕ) (two : Bool) (p : Progress) (y : Result (Option Look) Refusal) → look (drop p.at s) ≡ y → turn_of s two p ≡ turn_look two y p
unfolding turn_of
turn_at s two p y q = ap (λ (v : Result (Option Look) Refusal). turn_look two v p) q

no_way_on_lem : (s : List ℕ) (two : Bool) (p : Progress) → Come s two p → (m : Element) (post : List ℕ) → Ranged two m → drop p.at s ≡ encode_element m ++ post → feed_element p.scan p.run m ≡ None → NoWayOn s
no_way_on_lem s two p c m post h q w = record {
  two = two;
  ms = c.done;
  m = m;
  rest = post;
  is = c.is ∙ ap (λ (l : List ℕ). record_in two c.done ++ l) q;
  ranged = c.ranged;
  last_ranged = h;
  viable = viable_of two c.done (place_of p) c.ranged c.fed;
  stuck = λ v. reader.refuses (c.done ++ (m ∷ [])) v.after
      (feed_elements_append (at start) c.done (m ∷ []) ∙ ap (λ (o : Reach). feed_elements o (m ∷ [])) c.fed ∙ ap (λ (o : Option Scan). reach o (run_after p.scan p.run m) (count_after p.scan p.count m)) w)
      v.reads.reading;
}

-- In version 1 a count is no entry.
not_entry : (l : List ℕ) (v : ℕ) → look l ≡ Ok (Some (Failed v)) → (m : Element) (r : List ℕ) → Ranged false m → l ≡ encode_element m ++ r → ⊥
not_entry l v q (entry e) r h z = no e (sym (look_element_lem (entry e) r h.0) ∙ ap look (sym z) ∙ q)
  where
    no : (e : Entry) → look_element (entry e) ≡ Ok (Some (Failed v)) → ⊥
    no (setup a lo hi) k = absurd-eq (cc)
    no (out a e b last l) k = absurd-eq (cc)
not_entry l v q (failed_entry m) r h z = let y : false ≡ true = h.1 in absurd-eq (cc)

exact_from : (f : ℕ) (s : List ℕ) (two : Bool) (p : Progress) → Bytes s → length s < f + p.at → p.at ≤ length s → Come s two p → Deserved s (read_from f s two p)
exact_from zero s two p b h i c = absurd (omega arith)
exact_from (suc f) s two p b h i c = go two c (seen (drop p.at s)) (λ two n h' i' c'. exact_from f s two n b h' i' c')
  where
    l : List ℕ
    l = drop p.at s

    Later : Type 0
    Later = (two : Bool) (n : Progress) → length s < f + n.at → n.at ≤ length s → Come s two n → Deserved s (read_from f s two n)

    at_element : (two : Bool) → Come s two p → Decoded two l → Later → Deserved s (read_from (suc f) s two p)
    at_element two c d ih = fork (feed_element p.scan p.run d.element) refl
      where
        t : turn_of s two p ≡ turned (go_on (feed_element p.scan p.run d.element) (p.at + length (encode_element d.element)) (run_after p.scan p.run d.element) (count_after p.scan p.count d.element))
        t = turn_element s two p d.element d.rest d.is d.ranged d.version

        fork : (o : Option Scan) → feed_element p.scan p.run d.element ≡ o → Deserved s (read_from (suc f) s two p)
        fork None w =
            no_way_on (no_way_on_lem s two p c d.element d.rest (d.ranged, d.version) d.is w)
            (ap check_reply (read_stop f s two p (Err Grammar) (t ∙ ap (λ (o : Option Scan). turned (go_on o (p.at + length (encode_element d.element)) (run_after p.scan p.run d.element) (count_after p.scan p.count d.element))) w)))
        fork (Some u) w =
            let n : Progress = record { at = p.at + length (encode_element d.element); scan = u; run = run_after p.scan p.run d.element; count = count_after p.scan p.count d.element } in
            let g : turn_of s two p ≡ Continue n = t ∙ ap (λ (o : Option Scan). turned (go_on o (p.at + length (encode_element d.element)) (run_after p.scan p.run d.element) (count_after p.scan p.count d.element))) w in
            let e = encode_some d.element in
            let v' = length-drop p.at s in
            let z = ap length d.is ∙ length-append (encode_element d.element) d.rest in
            subst (Deserved s) (sym (read_go f s two p n g)) (ih two n (omega arith) (omega arith) (come_on s two p c d.element d.rest u (d.ranged, d.version) d.is w))

    go : (two : Bool) → Come s two p → Seen l (look l) → Later → Deserved s (read_from (suc f) s two p)
    go two c (seen_end z q) ih =
        subst (Deserved s) (sym (read_stop f s two p (finish p.scan p.count) (turn_at s two p (Ok None) q)))
        (at_end s two p.scan p.run p.count c.done (c.is ∙ ap (λ (v : List ℕ). record_in two c.done ++ v) (nil_of l z) ∙ append-nil (record_in two c.done)) c.ranged c.fed)
    go two c (seen_bad q) ih =
        no_entry (record {
          two = two;
          ms = c.done;
          rest = l;
          is = c.is;
          ranged = c.ranged;
          viable = viable_of two c.done (place_of p) c.ranged c.fed;
          more = λ z. look_nil (subst (λ (v : List ℕ). look v ≡ Err Field) z q);
          no_entry_of = λ m r h z. no_look m (sym (look_element_lem m r h.0) ∙ subst (λ (v : List ℕ). look v ≡ Err Field) z q);
        })
        (ap check_reply (read_stop f s two p (Err Field) (turn_at s two p (Err Field) q)))
    go two c (seen_setup k m a q) ih = at_element two c (setup_decoded two l (bytes_drop p.at s b) k m a) ih
    go two c (seen_out m q) ih = at_element two c (out_decoded two l (bytes_drop p.at s b) m) ih
    go true c (seen_failed k m q) ih = at_element true c (failed_decoded l (bytes_drop p.at s b) k m) ih
    go false c (seen_failed k m q) ih =
        no_entry (record {
          two = false;
          ms = c.done;
          rest = l;
          is = c.is;
          ranged = c.ranged;
          viable = viable_of false c.done (place_of p) c.ranged c.fed;
          more = λ z. let y : length l ≡ 0 = ap length z in omega (arith, y, m);
          no_entry_of = not_entry l _ q;
        })
        (ap check_reply (read_stop f s false p (Err Field) (turn_at s false p (Ok (Some (Failed _))) q)))

none_yet : (two : Bool) (r : List ℕ) → head_for (version_number two) ++ r ≡ record_in two [] ++ r
unfolding record_in encode_elements
none_yet true r = refl
none_yet false r = refl

-- The check answers what the bytes deserve.
pub deserved : (s : List ℕ) → Bytes s → Deserved s (check_of s)
unfolding check_of
deserved s b = by_cases (head_right s)
    (λ (h : head_right s ≡ true).
    let q = head_is s b h in
    let v = length-drop 5 s in
    let z : length s ≡ 5 + length (drop 5 s) = ap length q.is ∙ five q.two (drop 5 s) in
    rw (h, q.version) (exact_from (suc (length s)) s q.two at_head b (omega arith) (omega arith)
    (record { done = []; is = q.is ∙ none_yet q.two (drop 5 s); ranged = tt; fed = refl })))
    (λ (h : head_right s ≡ false).
    rw h (no_head (record { no_head_of = λ two r q. false_true (sym h ∙ ap head_right q ∙ head_right_lem two r) }) refl))
  where
    false_true : false ≡ true → ⊥
    false_true e = absurd-eq (cc)

    five : (two : Bool) (r : List ℕ) → length (head_for (version_number two) ++ r) ≡ 5 + length r
    five true r = omega arith
    five false r = omega arith

-- ---- nothing else is deserved

fed_of : (two : Bool) (ms : List Element) → Viable two ms → (p : Place) × (feed_elements (at start) ms ≡ at p)
fed_of two ms v = go (feed_elements (at start) ms) refl
  where
    go : (o : Reach) → feed_elements (at start) ms ≡ o → (p : Place) × (feed_elements (at start) ms ≡ at p)
    go refused q = absurd (reader.refuses ms v.after q v.reads.reading)
    go (at p) q = (p, q)

few : (ms : List Element) → length ms ≤ length (encode_elements ms)
unfolding encode_elements
few [] = omega arith
few (m ∷ ms) = let z = few ms in let y = encode_some m in let x = length-append (encode_element m) (encode_elements ms) in omega arith

-- The place after entries, and the check from there on.
record Arrived (s : List ℕ) (two : Bool) (ms : List Element) (rest : List ℕ) (p : Place) : Type 0 where
  fuel : ℕ
  same : check_of s ≡ read_from (suc fuel) s two (landed at_head ms p)
  left : drop (5 + length (encode_elements ms)) s ≡ rest

drop_head : (two : Bool) (r : List ℕ) → drop 5 (head_for (version_number two) ++ r) ≡ r
drop_head true r = refl
drop_head false r = refl

length_head : (two : Bool) (r : List ℕ) → length (head_for (version_number two) ++ r) ≡ 5 + length r
length_head true r = omega arith
length_head false r = omega arith

arrive : (s : List ℕ) (two : Bool) (ms : List Element) (rest : List ℕ) (p : Place) → s ≡ record_in two ms ++ rest → AllRanged two ms → feed_elements (at start) ms ≡ at p → Arrived s two ms rest p
unfolding check_of record_in
arrive s two ms rest p q h f =
    let hd = head_for (version_number two) in
    let q₁ : s ≡ hd ++ (encode_elements ms ++ rest) = q ∙ append_assoc hd (encode_elements ms) rest in
    let d : drop 5 s ≡ encode_elements ms ++ rest = ap (λ (l : List ℕ). drop 5 l) q₁ ∙ drop_head two (encode_elements ms ++ rest) in
    let k = few ms in
    let z = ap length q₁ ∙ length_head two (encode_elements ms ++ rest) in
    let y = length-append (encode_elements ms) rest in
    let n : suc (length s) ≡ length ms + suc (length s - length ms) = omega arith in
    record {
      fuel = length s - length ms;
      same =
          ap₂ (λ (b v : Bool). cond b (read_from (suc (length s)) s v at_head) (Err bad_mark)) (ap head_right q₁ ∙ head_right_lem two (encode_elements ms ++ rest))
          (ap (λ (l : List ℕ). eqb (version_at l) 2) q₁ ∙ version_at_lem two (encode_elements ms ++ rest))
          ∙ ap (λ (m : ℕ). read_from m s two at_head) n ∙ run ms s two at_head (suc (length s - length ms)) rest p d h f;
      left = sym (drop-drop (length (encode_elements ms)) 5 s) ∙ ap (λ (l : List ℕ). drop (length (encode_elements ms)) l) d ∙ drop-append_seam (encode_elements ms) rest;
    }

finish_open : (st : Scan) (k : ℕ) → (Ends (Some st) → ⊥) → finish st k ≡ Err Grammar
finish_open between k h = absurd (h tt)
finish_open (after_setup a w) k h = absurd (h tt)
finish_open (in_bulk a e q p t) k h = refl
finish_open (in_control_of a w q p t) k h = refl

finish_whole : (st : Scan) (k : ℕ) → Ends (Some st) → finish st k ≡ Ok k
finish_whole between k h = refl
finish_whole (after_setup a w) k h = refl
finish_whole (in_bulk a e q p t) k h = absurd h
finish_whole (in_control_of a w q p t) k h = absurd h

look_end : look [] ≡ Ok None
unfolding look
look_end = refl

at_the_end : (s : List ℕ) (two : Bool) (ms : List Element) (p : Place) → Arrived s two ms [] p → check_of s ≡ finish p.scan p.count
at_the_end s two ms p r =
    let q = landed at_head ms p in
    r.same ∙ read_stop r.fuel s two q (finish p.scan p.count) (turn_at s two q (Ok None) (ap look r.left ∙ look_end))

check_unmarked : (s : List ℕ) → head_right s ≡ false → check_of s ≡ Err bad_mark
unfolding check_of
check_unmarked s h = rw h

stuck_none : (two : Bool) (ms : List Element) (m : Element) (p : Place) → AllRanged two ms → Ranged two m → feed_elements (at start) ms ≡ at p → (Viable two (ms ++ (m ∷ [])) → ⊥) → feed_element p.scan p.run m ≡ None
stuck_none two ms m p h k f n = go (feed_element p.scan p.run m) refl
  where
    go : (o : Option Scan) → feed_element p.scan p.run m ≡ o → feed_element p.scan p.run m ≡ None
    go None w = w
    go (Some u) w =
        absurd (n (viable_of two (ms ++ (m ∷ [])) (record { scan = u; run = run_after p.scan p.run m; count = count_after p.scan p.count m }) (all_append two ms (m ∷ []) h (k, tt))
        (feed_elements_append (at start) ms (m ∷ []) ∙ ap (λ (o : Reach). feed_elements o (m ∷ [])) f ∙ ap (λ (o : Option Scan). reach o (run_after p.scan p.run m) (count_after p.scan p.count m)) w)))

-- Where the reader sees no entry of the version it stops with 19.
bad_turn : (s : List ℕ) (two : Bool) (p : Progress) (l : List ℕ) → drop p.at s ≡ l → Bytes l → (l ≡ [] → ⊥) → ((m : Element) (r : List ℕ) → Ranged two m → l ≡ encode_element m ++ r → ⊥)
    → turn_of s two p ≡ Break (Err Field)
bad_turn s two p l e b m n = go two n (seen l)
  where
    go : (two : Bool) → ((m : Element) (r : List ℕ) → Ranged two m → l ≡ encode_element m ++ r → ⊥) → Seen l (look l) → turn_of s two p ≡ Break (Err Field)
    go two n (seen_end z q) = absurd (m (nil_of l z))
    go two n (seen_bad q) = turn_at s two p (Err Field) (ap look e ∙ q)
    go two n (seen_setup k j a q) = let d = setup_decoded two l b k j a in absurd (n d.element d.rest (d.ranged, d.version) d.is)
    go two n (seen_out j q) = let d = out_decoded two l b j in absurd (n d.element d.rest (d.ranged, d.version) d.is)
    go true n (seen_failed k j q) = let d = failed_decoded l b k j in absurd (n d.element d.rest (d.ranged, d.version) d.is)
    go false n (seen_failed k j q) = turn_at s false p (Ok (Some (Failed _))) (ap look e ∙ q)

bytes_left : (a b : List ℕ) → Bytes (a ++ b) → Bytes a
bytes_left [] b h = tt
bytes_left (x ∷ a) b h = (h.0, bytes_left a b h.1)

bytes_right : (a b : List ℕ) → Bytes (a ++ b) → Bytes b
bytes_right [] b h = h
bytes_right (x ∷ a) b h = bytes_right a b h.1

-- The entries of a record of the grammar lie in their ranges.
group_ranged : (a n : ℕ) (v : Bool) (xs : List (List ℕ)) (l : List ℕ) (p : ℕ) → a ≤ 127 → n ≤ 15 → p ≤ 64 → AllOf p xs → length l ≤ 64 → Bytes (group_bytes xs l) → AllInRange (group a n v xs l)
group_ranged a n v [] l p ha hn hp f s b = ((ha, hn, s, b), tt)
group_ranged a n v (x ∷ xs) l p ha hn hp f s b =
    let u = f.0 in
    ((ha, hn, omega arith, bytes_left x (group_bytes xs l) b), group_ranged a n (not v) xs l p ha hn hp f.1 s (bytes_right x (group_bytes xs l) b))

sent_ranged : (a : ℕ) (hi : Four) (s : Sent) → a ≤ 127 → SentFits hi s → AllInRange (sent_entries a s)
sent_ranged a hi no_group ha f = tt
sent_ranged a hi (one_group xs l) ha (inl f) = subst (λ (v : List (List ℕ)). AllInRange (group a 0 true v l)) (sym f.0) (subst (λ (v : List ℕ). AllInRange (group a 0 true [] v)) (sym f.1) ((ha, omega arith, omega arith, tt), tt))
sent_ranged a hi (one_group xs l) ha (inr f) =
    let z = f.0 in
    let u = z.short in
    let w = z.high in
    group_ranged a 0 true xs l z.p ha (omega arith) z.high z.full (omega arith) z.are

pub part_ranged : (q : Part) → Fits q → AllInRange (part_entries q)
part_ranged (bulk_part a n v xs l) f =
    let z = f.3 in
    let u = z.short in
    let w = z.high in
    group_ranged a n v xs l z.p f.0 f.2 z.high z.full (omega arith) z.are
part_ranged (control_part a lo hi s) f = ((f.0, f.1, f.2), sent_ranged a hi s f.0 f.3)

-- The entries of a record lie in their ranges.
map_ranged : (es : List Entry) → AllInRange es → AllRanged true (map entry es)
map_ranged [] h = tt
map_ranged (e ∷ es) h = ((h.0, tt), map_ranged es h.1)

entries_ranged : (qs : List Part) → AllFit qs → AllInRange (parts_entries qs)
entries_ranged [] f = tt
entries_ranged (q ∷ qs) f = both (part_entries q) (parts_entries qs) (part_ranged q f.0) (entries_ranged qs f.1)
  where
    both : (a b : List Entry) → AllInRange a → AllInRange b → AllInRange (a ++ b)
    both [] b h k = k
    both (e ∷ a) b h k = (h.0, both a b h.1 k)

left_ranged : (a b : List Entry) → AllInRange (a ++ b) → AllInRange a
left_ranged [] b h = tt
left_ranged (e ∷ a) b h = (h.0, left_ranged a b h.1)

join_ranged : (a b : List Entry) → AllInRange a → AllInRange b → AllInRange (a ++ b)
join_ranged [] b h k = k
join_ranged (e ∷ a) b h k = (h.0, join_ranged a b h.1 k)

pub first_ranged : (es : List Entry) → FirstPart es → AllInRange es
first_ranged es k = left_ranged es k.rest (subst AllInRange (sym k.is) (part_ranged k.part k.fits))

elements_ranged : (ss : List Segment) (ps : List Part) → SegmentsFit ss → AllFit ps → AllRanged true (elements ss ps)
elements_ranged [] ps f g = map_ranged (parts_entries ps) (entries_ranged ps g)
elements_ranged (s ∷ ss) ps f g =
    let es = parts_entries s.whole ++ s.first in
    let n = first_few s.first f.0.1 in
    all_append true (map entry es) (failed_entry (length s.first) ∷ elements ss ps) (map_ranged es (join_ranged (parts_entries s.whole) s.first (entries_ranged s.whole f.0.0) (first_ranged s.first f.0.1)))
    ((omega arith, refl), elements_ranged ss ps f.1 g)

plain_true : (ms : List Element) → AllRanged true ms → Plain ms → AllRanged false ms
plain_true [] h p = tt
plain_true (entry e ∷ ms) h p = ((h.0.0, tt), plain_true ms h.1 p)
plain_true (failed_entry m ∷ ms) h p = absurd p

pub reads_ranged : (two : Bool) (ms : List Element) → Reads two ms → AllRanged two ms
reads_ranged true ms r = let k = r.reading in subst (AllRanged true) k.is (elements_ranged k.segments k.last k.segments_fit k.last_fit)
reads_ranged false ms r =
    let k = r.reading in
    let h : AllRanged true ms = subst (AllRanged true) k.is (elements_ranged k.segments k.last k.segments_fit k.last_fit) in
    let e : map entry (parts_entries k.last) ≡ ms = ap (λ (ss : List Segment). elements ss k.last) (sym (r.plain refl)) ∙ k.is in
    plain_true ms h (subst Plain e (plain_append [] (parts_entries k.last) tt))

-- Every encoding of a record of the grammar is accepted, with as many transfers as didn't fail.
pub accepts : (s : List ℕ) (two : Bool) (ms : List Element) → s ≡ record_in two ms → (r : Reads two ms) → check_of s ≡ Ok (length (unfailed r.reading.segments r.reading.last))
accepts s two ms q r =
    let h = reads_ranged two ms r in
    let f = fed_of two ms (record { after = []; reads = subst (Reads two) (sym (append-nil ms)) r }) in
    let z = arrive s two ms [] f.0 (q ∙ sym (append-nil (record_in two ms))) h f.1 in
    at_the_end s two ms f.0 z ∙ finish_whole f.0.scan f.0.count (ends_is ms r.reading f.0 f.1) ∙ ap Ok (count_is ms r.reading f.0 f.1)

-- An answer that the bytes deserve is the check's.
pub only_deserved : (s : List ℕ) (a : Reply ℕ) → Bytes s → Verdict s a → check_reply (check_of s) ≡ a
only_deserved s a b (no_head u q) = ap check_reply unmarked ∙ sym q
  where
    unmarked : check_of s ≡ Err bad_mark
    unmarked = by_cases (head_right s)
        (λ (h : head_right s ≡ true). let k = head_is s b h in absurd (u.no_head_of k.two (drop 5 s) k.is))
        (λ (h : head_right s ≡ false). check_unmarked s h)
only_deserved s a b (no_entry u q) =
    let f = fed_of u.two u.ms u.viable in
    let r = arrive s u.two u.ms u.rest f.0 u.is u.ranged f.1 in
    let p = landed at_head u.ms f.0 in
    let br : Bytes u.rest = subst Bytes r.left (bytes_drop (5 + length (encode_elements u.ms)) s b) in
    ap check_reply (r.same ∙ read_stop r.fuel s u.two p (Err Field) (bad_turn s u.two p u.rest r.left br u.more u.no_entry_of)) ∙ sym q
only_deserved s a b (no_way_on u q) =
    let f = fed_of u.two u.ms u.viable in
    let r = arrive s u.two u.ms (encode_element u.m ++ u.rest) f.0 u.is u.ranged f.1 in
    let p = landed at_head u.ms f.0 in
    let w = stuck_none u.two u.ms u.m f.0 u.ranged u.last_ranged f.1 u.stuck in
    let t = turn_element s u.two p u.m u.rest r.left u.last_ranged.0 u.last_ranged.1 in
    ap check_reply (r.same
    ∙ read_stop r.fuel s u.two p (Err Grammar) (t ∙ ap (λ (o : Option Scan). turned (go_on o (p.at + length (encode_element u.m)) (run_after p.scan p.run u.m) (count_after p.scan p.count u.m))) w))
    ∙ sym q
only_deserved s a b (unfinished u q) =
    let f = fed_of u.two u.ms u.viable in
    let r = arrive s u.two u.ms [] f.0 (u.is ∙ sym (append-nil (record_in u.two u.ms))) u.ranged f.1 in
    ap check_reply (at_the_end s u.two u.ms f.0 r
    ∙ finish_open f.0.scan f.0.count
    (λ (z : Ends (Some f.0.scan)). u.unread (reads_of u.two u.ms u.ranged (reader.takes_only u.ms f.0 (in_range u.two u.ms u.ranged) f.1 z))))
    ∙ sym q
only_deserved s a b (is_whole u q) = ap check_reply (accepts s u.two u.ms u.is u.reads) ∙ sym q

-- Any bytes deserve at most one answer.
pub one_verdict : (s : List ℕ) (a b : Reply ℕ) → Bytes s → Verdict s a → Verdict s b → a ≡ b
one_verdict s a b h v w = sym (only_deserved s a h v) ∙ only_deserved s b h w

-- What `check` promises.
pub verdict_of : (s : List ℕ) (a : Result ℕ Refusal) → a ≡ check_of s → Bytes s → Deserved s a
verdict_of s a e b = subst (Deserved s) (sym e) (deserved s b)

-- ---- a record of the grammar is bytes, so an answer that it deserves is the check's

four_bytes : (x y : Four) (l : List ℕ) → FourBytes x → FourBytes y → Bytes l → Bytes ((four_of x ++ four_of y) ++ l)
four_bytes (four a b c d) (four e f g h) l x y k = (x.0, (x.1, (x.2, (x.3, (y.0, (y.1, (y.2, (y.3, k))))))))

bytes_join : (a b : List ℕ) → Bytes a → Bytes b → Bytes (a ++ b)
bytes_join [] b p q = q
bytes_join (x ∷ a) b p q = (p.0, bytes_join a b p.1 q)

bit_small : (b : Bool) → flag_byte b < 256
bit_small true = lit< tt
bit_small false = lit< tt

mark_bytes : (two : Bool) (m : Element) (l : List ℕ) → Ranged two m → Bytes l → Bytes (encode_element m ++ l)
mark_bytes two (entry (setup a lo hi)) l r k = (lit< tt, (let z = r.0.0 in omega arith, four_bytes lo hi l r.0.1 r.0.2 k))
mark_bytes two (entry (out a e b last v)) l r k =
    (lit< tt, (let z = r.0.0 in omega arith, (let z = r.0.1 in omega arith, (bit_small b, (bit_small last, (let z = r.0.2 in omega arith, bytes_join v l r.0.3 k))))))
mark_bytes two (failed_entry n) l r k = let z = r.0 in (lit< tt, (omega arith, (omega arith, (omega arith, (omega arith, k)))))

marks_bytes : (two : Bool) (ms : List Element) → AllRanged two ms → Bytes (encode_elements ms)
unfolding encode_elements
marks_bytes two [] h = tt
marks_bytes two (m ∷ ms) h = mark_bytes two m (encode_elements ms) h.0 (marks_bytes two ms h.1)

pub record_bytes : (two : Bool) (ms : List Element) → Reads two ms → Bytes (record_in two ms)
unfolding record_in
record_bytes true ms r = (lit< tt, (lit< tt, (lit< tt, (lit< tt, (lit< tt, marks_bytes true ms (reads_ranged true ms r))))))
record_bytes false ms r = (lit< tt, (lit< tt, (lit< tt, (lit< tt, (lit< tt, marks_bytes false ms (reads_ranged false ms r))))))

pub answers_only : (s : List ℕ) (two : Bool) (ms : List Element) → s ≡ record_in two ms → (r : Reads two ms) (a : Reply ℕ) → Verdict s a → a ≡ result (length (unfailed r.reading.segments r.reading.last))
answers_only s two ms q r a v = sym (only_deserved s a (subst Bytes (sym q) (record_bytes two ms r)) v) ∙ ap check_reply (accepts s two ms q r)
