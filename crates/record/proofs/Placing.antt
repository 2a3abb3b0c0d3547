-- The reader's automaton takes exactly the records of version 2, refuses where no grammatical end is possible, and counts the items that didn't fail.
-- Version 1's automaton (`plain_reader`) serves each stretch between counts. Assumes nothing.
use Rattle.std.specs.Prelude.{None, Option, Some}
use mathlib.Core.Path.{◌≡◌, refl, sym, ap, ap₂, ◌∙◌, subst}
use mathlib.Core.Logic.{◌⊎◌, inl, inr}
use mathlib.Core.Bool.{Bool, true, false, cond, ◌&&◌, ◌||◌}
use mathlib.Core.List.{List, [], ◌∷◌, ◌++◌, map, append-nil, append_assoc, map-append, head-eq_of_cons-eq, tail-eq_of_cons-eq}
use Prim.Native.Nat.{ℕ, zero, suc, ◌+◌, ◌-◌, ◌≤◌}
use native.Mathlib.Omega.{arith}
use lib.ListN.{length, length-append}
use lib.Dec.{eqb}
use borrow.Author.Tests.{eqb-true, eq-eqb, ne_eqb}
use Rattle.pool.proofs.Cases.{by_cases}
use Rattle.record.specs.Grammar.{four, Entry, setup, out, Part, bulk_part, control_part, part_entries, Fits, AllFit, parts_entries, PlainReading, no_group}
use Rattle.record.specs.Segments.{Element, entry, failed_entry, FirstPart, Segment, SegmentFits, SegmentsFit, up_to, elements, Reading, unfailed}
use Rattle.record.specs.Scan.{guard, feed, feed_all, starts, count_all, Ends, InRange, AllInRange}
use Rattle.record.specs.Place.{may_end, count_right, feed_element, run_on, run_after, lost, count_after, Place, Reach, at, refused, reach, step_element, feed_elements, start, ElementInRange, ElementsInRange}
use Rattle.record.specs.declared.scan.Scan.{Scan}
use Rattle.record.specs.declared.scan.Scan.TheVariants.{Between as between, AfterSetup as after_setup, InBulk as in_bulk, InControl as in_control_of}
use Rattle.record.proofs.Both.{absurd-eq, and_left, and_right}
use Rattle.record.proofs.Automaton.{plain_reader, feed_append}

-- ---- lists of parts and of entries

fit_append : (a b : List Part) → AllFit a → AllFit b → AllFit (a ++ b)
fit_append [] b f g = g
fit_append (q ∷ a) b f g = (f.0, fit_append a b f.1 g)

written_append : (a b : List Part) → parts_entries (a ++ b) ≡ parts_entries a ++ parts_entries b
written_append [] b = refl
written_append (q ∷ a) b = ap (λ (r : List Entry). part_entries q ++ r) (written_append a b) ∙ sym (append_assoc (part_entries q) (parts_entries a) (parts_entries b))

abbrev join : (a b : List Entry) → PlainReading a → PlainReading b → PlainReading (a ++ b)
join a b k h = record {
  parts = k.parts ++ h.parts;
  fit = fit_append k.parts h.parts k.fit h.fit;
  is = written_append k.parts h.parts ∙ ap₂ {C = List Entry} ◌++◌ k.is h.is;
}

pub ranged_append : (a b : List Entry) → AllInRange a → AllInRange b → AllInRange (a ++ b)
ranged_append [] b h k = k
ranged_append (e ∷ a) b h k = (h.0, ranged_append a b h.1 k)

-- ---- where items begin

none_some : {A : Type 0} (s : Scan) → None ≡ Some s → A
none_some s q = absurd-eq (cc)

some_same : (s s' : Scan) → Some s ≡ Some s' → s ≡ s'
some_same s s' q = cc

zero_or_one : (s : Scan) (e : Entry) → (starts s e ≡ 0) ⊎ (starts s e ≡ 1)
zero_or_one s (setup a lo hi) = inr refl
zero_or_one between (out a e b last l) = inr refl
zero_or_one (after_setup a w) (out a' e b last l) = go (eqb e 0)
  where
    go : (v : Bool) → (◌≡◌ {A = ℕ} (cond v 0 1) 0) ⊎ (◌≡◌ {A = ℕ} (cond v 0 1) 1)
    go true = inl refl
    go false = inr refl
zero_or_one (in_bulk a e q p t) (out a' e' b last l) = inl refl
zero_or_one (in_control_of a w q p t) (out a' e' b last l) = inl refl

-- An entry that begins an item stands where a record may end, and is taken as at a record's start.
record Begins (s s' : Scan) (e : Entry) : Type 0 where
  ends : Ends (Some s)
  fresh : feed between e ≡ Some s'

begins : (s s' : Scan) (e : Entry) → starts s e ≡ 1 → feed s e ≡ Some s' → Begins s s' e
begins between s' e z q = record { ends = tt; fresh = q }
begins (after_setup a w) s' (setup a' lo hi) z q = record { ends = tt; fresh = q }
begins (after_setup a w) s' (out a' e b last l) z q = by_cases (eqb e 0)
    (λ (v : eqb e 0 ≡ true). let y : ◌≡◌ {A = ℕ} 0 1 = rw v at z in absurd-eq y)
    (λ (v : eqb e 0 ≡ false). record { ends = tt; fresh = rw v at q })
begins (in_bulk a e v p t) s' (setup a' lo hi) z q = none_some s' q
begins (in_bulk a e v p t) s' (out a' e' b last l) z q = absurd-eq z
begins (in_control_of a w v p t) s' (setup a' lo hi) z q = none_some s' q
begins (in_control_of a w v p t) s' (out a' e' b last l) z q = absurd-eq z

starts_between : (e : Entry) → starts between e ≡ 1
starts_between (setup a lo hi) = refl
starts_between (out a e b last l) = refl

-- A part's first entry begins an item.
first_starts : (s : Scan) (q : Part) (e : Entry) (r : List Entry) → Ends (Some s) → Fits q → part_entries q ≡ e ∷ r → starts s e ≡ 1
first_starts between q e r h f k = starts_between e
first_starts (after_setup a w) (control_part a' lo hi t) e r h f k = subst (λ (v : Entry). starts (after_setup a w) v ≡ 1) (head-eq_of_cons-eq k) refl
first_starts (after_setup a w) (bulk_part a' n b [] l) e r h f k =
    subst (λ (v : Entry). starts (after_setup a w) v ≡ 1) (head-eq_of_cons-eq k) (ap (λ (v : Bool). cond v 0 1) (ne_eqb n 0 (λ (z : n ≡ 0). let y = f.1 in omega arith)))
first_starts (after_setup a w) (bulk_part a' n b (x ∷ xs) l) e r h f k =
    subst (λ (v : Entry). starts (after_setup a w) v ≡ 1) (head-eq_of_cons-eq k) (ap (λ (v : Bool). cond v 0 1) (ne_eqb n 0 (λ (z : n ≡ 0). let y = f.1 in omega arith)))
first_starts (in_bulk a n v p t) q e r h f k = absurd h
first_starts (in_control_of a w v p t) q e r h f k = absurd h

count_nil : (o : Option Scan) → count_all o [] ≡ 0
count_nil None = refl
count_nil (Some s) = refl

count_append : (o : Option Scan) (a b : List Entry) → count_all o (a ++ b) ≡ count_all o a + count_all (feed_all o a) b
count_append o [] b = let z = count_nil o in omega arith
count_append None (e ∷ a) b = stay b
  where
    stay : (b : List Entry) → 0 ≡ 0 + count_all None b
    stay [] = refl
    stay (x ∷ b) = refl
count_append (Some s) (e ∷ a) b = let z = count_append (feed s e) a b in omega arith

-- The entries of the last item, along entries.
runs : Option Scan → ℕ → List Entry → ℕ
runs o n [] = n
runs None n (e ∷ es) = n
runs (Some s) n (e ∷ es) = runs (feed s e) (run_on (starts s e) n) es

-- Where no item begins, the last one goes on.
runs_on : (es : List Entry) (s s' : Scan) (n : ℕ) → feed_all (Some s) es ≡ Some s' → count_all (Some s) es ≡ 0 → runs (Some s) n es ≡ n + length es
unfolding runs
runs_on [] s s' n f c = omega arith
runs_on (e ∷ es) s s' n f c = go (feed s e) refl (λ u g d. runs_on es u s' (suc n) g d)
  where
    z : starts s e ≡ 0
    z = omega arith

    go : (o : Option Scan) → feed s e ≡ o → ((u : Scan) → feed_all (Some u) es ≡ Some s' → count_all (Some u) es ≡ 0 → runs (Some u) (suc n) es ≡ suc n + length es)
        → runs (feed s e) (run_on (starts s e) n) es ≡ n + length (e ∷ es)
    go None q ih = stuck es (subst (λ (v : Option Scan). feed_all v es ≡ Some s') q f)
      where
        stuck : {A : Type 0} (r : List Entry) → feed_all None r ≡ Some s' → A
        stuck [] k = none_some s' k
        stuck (x ∷ r) k = none_some s' k
    go (Some u) q ih =
        let g : feed_all (Some u) es ≡ Some s' = subst (λ (v : Option Scan). feed_all v es ≡ Some s') q f in
        let d : count_all (Some u) es ≡ 0 = let y = ap (λ (v : Option Scan). count_all v es) q in omega arith in
        ap₂ (λ (v : Option Scan) (i : ℕ). runs v (run_on i n) es) q z ∙ ih u g d ∙ omega arith

runs_append : (a b : List Entry) (s s' : Scan) (n : ℕ) → feed_all (Some s) a ≡ Some s' → runs (Some s) n (a ++ b) ≡ runs (Some s') (runs (Some s) n a) b
unfolding runs
runs_append [] b s s' n f = ap (λ (v : Scan). runs (Some v) n b) (some_same s s' f)
runs_append (e ∷ a) b s s' n f = go (feed s e) refl (λ u g. runs_append a b u s' (run_on (starts s e) n) g)
  where
    go : (o : Option Scan) → feed s e ≡ o
        → ((u : Scan) → feed_all (Some u) a ≡ Some s' → runs (Some u) (run_on (starts s e) n) (a ++ b) ≡ runs (Some s') (runs (Some u) (run_on (starts s e) n) a) b)
        → runs (feed s e) (run_on (starts s e) n) (a ++ b) ≡ runs (Some s') (runs (feed s e) (run_on (starts s e) n) a) b
    go None q ih = stuck a (subst (λ (v : Option Scan). feed_all v a ≡ Some s') q f)
      where
        stuck : {A : Type 0} (r : List Entry) → feed_all None r ≡ Some s' → A
        stuck [] k = none_some s' k
        stuck (x ∷ r) k = none_some s' k
    go (Some u) q ih =
        let g : feed_all (Some u) a ≡ Some s' = subst (λ (v : Option Scan). feed_all v a ≡ Some s') q f in
        subst (λ (v : Option Scan). runs v (run_on (starts s e) n) (a ++ b) ≡ runs (Some s') (runs v (run_on (starts s e) n) a) b) (sym q)
        (ih u g)

-- ---- the last item of entries that were taken

one : ℕ → ℕ
one zero = 0
one (suc n) = 1

-- Entries from a record's start: whole transfers, and then the entries of the last item, which alone lead to the same state.
record Last (es : List Entry) (s : Scan) (n : ℕ) : Type 0 where
  pre : List Entry
  ft : List Entry
  is : pre ++ ft ≡ es
  before : PlainReading pre
  ranged : AllInRange ft
  alone : feed_all (Some between) ft ≡ Some s
  single : count_all (Some between) ft ≡ one n
  long : length ft ≡ n
  fed : feed_all (Some between) es ≡ Some s
  counted : count_all (Some between) es ≡ length before.parts + one n

last_nil : Last [] between 0
unfolding one
last_nil = record { pre = []; ft = []; is = refl; before = record { parts = []; fit = tt; is = refl }; ranged = tt; alone = refl; single = refl; long = refl; fed = refl; counted = refl }

-- All of it is whole where a record may end.
whole_of : (es : List Entry) (s : Scan) (n : ℕ) → Last es s n → Ends (Some s) → PlainReading es
whole_of es s n k h = subst PlainReading k.is (join k.pre k.ft k.before (plain_reader.takes_only k.ft k.ranged (subst Ends (sym k.alone) h)))

fed_on : (es : List Entry) (s s' : Scan) (e : Entry) → feed_all (Some between) es ≡ Some s → feed s e ≡ Some s' → feed_all (Some between) (es ++ (e ∷ [])) ≡ Some s'
fed_on es s s' e f q = feed_append (Some between) es (e ∷ []) ∙ ap (λ (o : Option Scan). feed_all o (e ∷ [])) f ∙ q

count_on : (es : List Entry) (s : Scan) (e : Entry) → feed_all (Some between) es ≡ Some s → count_all (Some between) (es ++ (e ∷ [])) ≡ count_all (Some between) es + starts s e
count_on es s e f =
    let z = count_append (Some between) es (e ∷ []) in
    let y : count_all (feed_all (Some between) es) (e ∷ []) ≡ starts s e + count_all (feed s e) [] = ap (λ (o : Option Scan). count_all o (e ∷ [])) f in
    let x = count_nil (feed s e) in
    omega arith

last_on : (es : List Entry) (s s' : Scan) (n : ℕ) (e : Entry) → Last es s n → InRange e → feed s e ≡ Some s' → Last (es ++ (e ∷ [])) s' (run_on (starts s e) n)
unfolding one
last_on es s s' n e k r q = go (zero_or_one s e)
  where
    go : (starts s e ≡ 0) ⊎ (starts s e ≡ 1) → Last (es ++ (e ∷ [])) s' (run_on (starts s e) n)
    go (inr z) =
        let b = begins s s' e z q in
        let w = whole_of es s n k b.ends in
        let c = plain_reader.counts es w in
        let d = count_on es s e k.fed in
        let y = starts_between e in
        let x = count_nil (feed between e) in
        subst (λ (i : ℕ). Last (es ++ (e ∷ [])) s' (run_on i n)) (sym z)
        (record {
          pre = es;
          ft = e ∷ [];
          is = refl;
          before = w;
          ranged = (r, tt);
          alone = b.fresh;
          single = omega arith;
          long = refl;
          fed = fed_on es s s' e k.fed q;
          counted = omega arith;
        })
    go (inl z) = more n k.long k.single k.counted
      where
        more : (n : ℕ) → length k.ft ≡ n → count_all (Some between) k.ft ≡ one n → count_all (Some between) es ≡ length k.before.parts + one n → Last (es ++ (e ∷ [])) s' (run_on (starts s e) n)
        more zero l u c = absurd (nothing k.ft l k.alone)
          where
            nothing : (ft : List Entry) → length ft ≡ 0 → feed_all (Some between) ft ≡ Some s → ⊥
            nothing [] l a = let y : starts between e ≡ 0 = subst (λ (v : Scan). starts v e ≡ 0) (sym (some_same between s a)) z in let x = starts_between e in omega arith
            nothing (x ∷ ft) l a = omega arith
        more (suc m) l u c =
            let d = count_on es s e k.fed in
            let y = count_on k.ft s e k.alone in
            let x = length-append k.ft (e ∷ []) in
            subst (λ (i : ℕ). Last (es ++ (e ∷ [])) s' (run_on i (suc m))) (sym z)
            (record {
              pre = k.pre;
              ft = k.ft ++ (e ∷ []);
              is = sym (append_assoc k.pre k.ft (e ∷ [])) ∙ ap (λ (v : List Entry). v ++ (e ∷ [])) k.is;
              before = k.before;
              ranged = ranged_append k.ft (e ∷ []) k.ranged (r, tt);
              alone = fed_on k.ft s s' e k.alone q;
              single = omega arith;
              long = omega arith;
              fed = fed_on es s s' e k.fed q;
              counted = omega arith;
            })

-- ---- its entries are a first part of a transfer

-- One of two lists with a common end reaches as far as the other.
shorter : (a b c d : List Entry) → a ++ b ≡ c ++ d → ((z : List Entry) × (c ++ z ≡ a)) ⊎ ((e : Entry) × (z : List Entry) × (c ≡ a ++ (e ∷ z)) × (b ≡ e ∷ (z ++ d)))
shorter [] b [] d q = inl ([], refl)
shorter [] b (e ∷ c) d q = inr (e, c, refl, q)
shorter (x ∷ a) b [] d q = inl (x ∷ a, refl)
shorter (x ∷ a) b (y ∷ c) d q = go (shorter a b c d (tail-eq_of_cons-eq q))
  where
    h : x ≡ y
    h = head-eq_of_cons-eq q

    go : ((z : List Entry) × (c ++ z ≡ a)) ⊎ ((e : Entry) × (z : List Entry) × (c ≡ a ++ (e ∷ z)) × (b ≡ e ∷ (z ++ d)))
        → ((z : List Entry) × (y ∷ (c ++ z) ≡ x ∷ a)) ⊎ ((e : Entry) × (z : List Entry) × (y ∷ c ≡ x ∷ (a ++ (e ∷ z))) × (b ≡ e ∷ (z ++ d)))
    go (inl k) = inl (k.0, ap₂ {C = List Entry} ◌∷◌ (sym h) k.1)
    go (inr k) = inr (k.0, k.1, ap₂ {C = List Entry} ◌∷◌ (sym h) k.2, k.3)

-- A control with nothing sent.
bare : Part
bare = control_part 0 (four 0 0 0 0) (four 0 0 0 0) no_group

pub none_first : FirstPart []
unfolding bare
none_first = record { part = bare; fits = (omega arith, (omega arith, omega arith, omega arith, omega arith), (omega arith, omega arith, omega arith, omega arith), tt); rest = part_entries bare; is = refl }

abbrev one_part : (q : Part) → Fits q → PlainReading (part_entries q)
one_part q f = record { parts = q ∷ []; fit = (f, tt); is = append-nil (part_entries q) }

first_of : (ft : List Entry) (s : Scan) → AllInRange ft → feed_all (Some between) ft ≡ Some s → count_all (Some between) ft ≡ 1 → FirstPart ft
first_of ft s h f c = let v = plain_reader.viable ft s h f in go v.0 v.1.parts v.1.fit v.1.is
  where
    none_counted : (ft : List Entry) → [] ≡ ft → count_all (Some between) ft ≡ 1 → ⊥
    none_counted [] e z = omega arith
    none_counted (x ∷ ft) e z = absurd-eq (cc)

    nil_left : (a b : List Entry) → [] ≡ a ++ b → [] ≡ a
    nil_left [] b e = refl
    nil_left (x ∷ a) b e = absurd-eq (cc)

    -- A second item would be counted.
    two : (q : Part) (qs : List Part) (e : Entry) (z post : List Entry) → Fits q → AllFit qs → ft ≡ part_entries q ++ (e ∷ z) → parts_entries qs ≡ e ∷ (z ++ post) → ⊥
    two q [] e z post u w k j = absurd-eq (cc)
    two q (p ∷ qs) e z post u w k j =
        let a = plain_reader.counts (part_entries q) (one_part q u) in
        let t = plain_reader.takes_all (part_entries q) (one_part q u) in
        let b = count_append (Some between) (part_entries q) (e ∷ z) in
        let d = ap (count_all (Some between)) k in
        let y = second (feed_all (Some between) (part_entries q)) t in
        omega arith
      where
        lead : (a b : List Entry) → a ++ b ≡ e ∷ (z ++ post) → ((r : List Entry) × (a ≡ e ∷ r)) ⊎ (a ≡ [])
        lead [] b g = inr refl
        lead (x ∷ a) b g = inl (a, ap (λ (v : Entry). v ∷ a) (head-eq_of_cons-eq g))

        some_entry : (p : Part) → part_entries p ≡ [] → ⊥
        some_entry (bulk_part a n v [] l) g = absurd-eq (cc)
        some_entry (bulk_part a n v (x ∷ xs) l) g = absurd-eq (cc)
        some_entry (control_part a lo hi t) g = absurd-eq (cc)

        begun : (s : Scan) → Ends (Some s) → ((r : List Entry) × (part_entries p ≡ e ∷ r)) ⊎ (part_entries p ≡ []) → starts s e ≡ 1
        begun s t (inl g) = first_starts s p e g.0 t w.0 g.1
        begun s t (inr g) = absurd (some_entry p g)

        second : (o : Option Scan) → Ends o → 1 ≤ count_all o (e ∷ z)
        second None t = absurd t
        second (Some s) t = let y = begun s t (lead (part_entries p) (parts_entries qs) j) in omega arith

    go : (post : List Entry) (qs : List Part) → AllFit qs → parts_entries qs ≡ ft ++ post → FirstPart ft
    go post [] w q = absurd (none_counted ft (nil_left ft post q) c)
    go post (p ∷ qs) w q = by (shorter (part_entries p) (parts_entries qs) ft post q)
      where
        by : ((z : List Entry) × (ft ++ z ≡ part_entries p)) ⊎ ((e : Entry) × (z : List Entry) × (ft ≡ part_entries p ++ (e ∷ z)) × (parts_entries qs ≡ e ∷ (z ++ post))) → FirstPart ft
        by (inl k) = record { part = p; fits = w.0; rest = k.0; is = k.1 }
        by (inr k) = absurd (two p qs k.0 k.1 post w.0 w.1 k.2 k.3)

last_first : (es : List Entry) (s : Scan) (n : ℕ) (k : Last es s n) → FirstPart k.ft
unfolding one
last_first es s n k = go n k.long k.single
  where
    empty : (ft : List Entry) → length ft ≡ 0 → FirstPart ft
    empty [] l = none_first
    empty (x ∷ ft) l = absurd (omega arith)

    go : (n : ℕ) → length k.ft ≡ n → count_all (Some between) k.ft ≡ one n → FirstPart k.ft
    go zero l c = empty k.ft l
    go (suc m) l c = first_of k.ft s k.ranged k.alone c

-- ---- entries of version 2 that were taken

-- The whole transfers of segments.
abbrev unfailed_in : List Segment → ℕ
unfailed_in gs = length (unfailed gs [])

record Come (ms : List Element) (p : Place) : Type 0 where
  segments : List Segment
  fit : SegmentsFit segments
  es : List Entry
  is : up_to segments (map entry es) ≡ ms
  last : Last es p.scan p.run
  counted : p.count ≡ unfailed_in segments + count_all (Some between) es

up_append : (gs : List Segment) (a b : List Element) → up_to gs (a ++ b) ≡ up_to gs a ++ b
up_append [] a b = refl
up_append (g ∷ gs) a b =
    ap (λ (r : List Element). map entry (parts_entries g.whole ++ g.first) ++ (failed_entry (length g.first) ∷ r)) (up_append gs a b)
    ∙ sym (append_assoc (map entry (parts_entries g.whole ++ g.first)) (failed_entry (length g.first) ∷ up_to gs a) b)

up_join : (gs hs : List Segment) (r : List Element) → up_to (gs ++ hs) r ≡ up_to gs (up_to hs r)
up_join [] hs r = refl
up_join (g ∷ gs) hs r = ap (λ (v : List Element). map entry (parts_entries g.whole ++ g.first) ++ (failed_entry (length g.first) ∷ v)) (up_join gs hs r)

segments_append : (gs hs : List Segment) → SegmentsFit gs → SegmentsFit hs → SegmentsFit (gs ++ hs)
segments_append [] hs f g = g
segments_append (x ∷ gs) hs f g = (f.0, segments_append gs hs f.1 g)

unfailed_join : (gs : List Segment) (g : Segment) → unfailed_in (gs ++ (g ∷ [])) ≡ unfailed_in gs + length g.whole
unfailed_join [] g = let z = length-append g.whole [] in omega arith
unfailed_join (x ∷ gs) g =
    let a = length-append x.whole (unfailed (gs ++ (g ∷ [])) []) in
    let b = length-append x.whole (unfailed gs []) in
    let c = unfailed_join gs g in
    omega arith

come_entry : (ms : List Element) (p : Place) (e : Entry) (s' : Scan) → Come ms p → InRange e → feed p.scan e ≡ Some s'
    → Come (ms ++ (entry e ∷ [])) (record { scan = s'; run = run_on (starts p.scan e) p.run; count = p.count + starts p.scan e })
come_entry ms p e s' c h q = record {
  segments = c.segments;
  fit = c.fit;
  es = c.es ++ (e ∷ []);
  is =
      ap (up_to c.segments) (map-append entry c.es (e ∷ []))
      ∙ up_append c.segments (map entry c.es) (entry e ∷ [])
      ∙ ap (λ (r : List Element). r ++ (entry e ∷ [])) c.is;
  last = last_on c.es p.scan s' p.run e c.last h q;
  counted = let z = count_on c.es p.scan e c.last.fed in let y = c.counted in omega arith;
}

-- A count closes a segment.
close : (ms : List Element) (p : Place) (m k : ℕ) (g : Segment) → (c : Come ms p) → SegmentFits g → parts_entries g.whole ++ g.first ≡ c.es → length g.first ≡ m
    → k ≡ unfailed_in c.segments + length g.whole → Come (ms ++ (failed_entry m ∷ [])) (record { scan = between; run = 0; count = k })
close ms p m k g c f e l z = record {
  segments = c.segments ++ (g ∷ []);
  fit = segments_append c.segments (g ∷ []) c.fit (f, tt);
  es = [];
  is =
      up_join c.segments (g ∷ []) []
      ∙ ap₂ (λ (v : List Entry) (i : ℕ). up_to c.segments (map entry v ++ (failed_entry i ∷ []))) e l
      ∙ up_append c.segments (map entry c.es) (failed_entry m ∷ [])
      ∙ ap (λ (r : List Element). r ++ (failed_entry m ∷ [])) c.is;
  last = last_nil;
  counted = let y = unfailed_join c.segments g in omega arith;
}

ends_may : (s : Scan) → may_end s ≡ true → Ends (Some s)
ends_may between h = tt
ends_may (after_setup a w) h = tt
ends_may (in_bulk a e q p t) h = absurd-eq (cc)
ends_may (in_control_of a w q p t) h = absurd-eq (cc)

may_ends : (s : Scan) → Ends (Some s) → may_end s ≡ true
may_ends between h = refl
may_ends (after_setup a w) h = refl
may_ends (in_bulk a e q p t) h = absurd h
may_ends (in_control_of a w q p t) h = absurd h

lost_suc : (m k : ℕ) → lost (suc m) k ≡ k - 1
lost_suc m k = ap (λ (b : Bool). cond b k (k - 1)) (ne_eqb (suc m) 0 (λ (z : suc m ≡ 0). omega arith))

-- A count that is right.
come_failed : (ms : List Element) (p : Place) (m : ℕ) → Come ms p → count_right p.scan p.run m ≡ true
    → Come (ms ++ (failed_entry m ∷ [])) (record { scan = between; run = 0; count = lost m p.count })
unfolding one
come_failed ms p m c h = by_cases (eqb m p.run)
    (λ (q : eqb m p.run ≡ true). all m p.run (eqb-true m p.run q) c.last)
    (λ (q : eqb m p.run ≡ false).
    let u : (eqb m 0 && may_end p.scan) ≡ true = rw q at h in
    let e : m ≡ 0 = eqb-true m 0 (and_left (eqb m 0) (may_end p.scan) u) in
    let w = whole_of c.es p.scan p.run c.last (ends_may p.scan (and_right (eqb m 0) (may_end p.scan) u)) in
    let n = plain_reader.counts c.es w in
    let y = c.counted in
    subst (λ (i : ℕ). Come (ms ++ (failed_entry i ∷ [])) (record { scan = between; run = 0; count = lost i p.count })) (sym e)
    (close ms p 0 p.count (record { whole = w.parts; first = [] }) c (w.fit, none_first) (append-nil (parts_entries w.parts) ∙ w.is) refl (omega arith)))
  where
    all : (m n : ℕ) → m ≡ n → Last c.es p.scan n → Come (ms ++ (failed_entry m ∷ [])) (record { scan = between; run = 0; count = lost m p.count })
    all m n e k = subst (λ (i : ℕ). Come (ms ++ (failed_entry i ∷ [])) (record { scan = between; run = 0; count = lost i p.count })) (sym e) (at_run n k)
      where
        at_run : (n : ℕ) (k : Last c.es p.scan n) → Come (ms ++ (failed_entry n ∷ [])) (record { scan = between; run = 0; count = lost n p.count })
        at_run zero k =
            let y = c.counted in
            let x = k.counted in
            close ms p 0 p.count (record { whole = k.before.parts; first = k.ft }) c (k.before.fit, last_first c.es p.scan 0 k)
            (ap (λ (v : List Entry). v ++ k.ft) k.before.is ∙ k.is) k.long (omega arith)
        at_run (suc i) k =
            let y = c.counted in
            let x = k.counted in
            close ms p (suc i) (lost (suc i) p.count) (record { whole = k.before.parts; first = k.ft }) c (k.before.fit, last_first c.es p.scan (suc i) k)
            (ap (λ (v : List Entry). v ++ k.ft) k.before.is ∙ k.is) k.long (let z = lost_suc i p.count in omega arith)

guard_some : (b : Bool) (s s' : Scan) → guard b s ≡ Some s' → (b ≡ true) × (s ≡ s')
guard_some true s s' e = (refl, cc)
guard_some false s s' e = absurd-eq (cc)

come_element : (ms : List Element) (p : Place) (m : Element) (s' : Scan) → Come ms p → ElementInRange m → feed_element p.scan p.run m ≡ Some s'
    → Come (ms ++ (m ∷ [])) (record { scan = s'; run = run_after p.scan p.run m; count = count_after p.scan p.count m })
come_element ms p (entry e) s' c h q = come_entry ms p e s' c h q
come_element ms p (failed_entry m) s' c h q =
    let g = guard_some (count_right p.scan p.run m) between s' q in
    subst (λ (v : Scan). Come (ms ++ (failed_entry m ∷ [])) (record { scan = v; run = 0; count = lost m p.count })) g.1 (come_failed ms p m c g.0)

refused_stays : (ms : List Element) → feed_elements refused ms ≡ refused
refused_stays [] = refl
refused_stays (m ∷ ms) = refl

not_at : {A : Type 0} (p : Place) → refused ≡ at p → A
not_at p q = absurd-eq (cc)

come_all : (post pre : List Element) (p q : Place) → Come pre p → ElementsInRange post → feed_elements (at p) post ≡ at q → Come (pre ++ post) q
come_all [] pre p q c h f = let e : p ≡ q = cc in subst (λ (v : List Element). Come v q) (sym (append-nil pre)) (subst (Come pre) e c)
come_all (m ∷ post) pre p q c h f = go (feed_element p.scan p.run m) refl (λ n c' f'. come_all post (pre ++ (m ∷ [])) n q c' h.1 f')
  where
    go : (o : Option Scan) → feed_element p.scan p.run m ≡ o → ((n : Place) → Come (pre ++ (m ∷ [])) n → feed_elements (at n) post ≡ at q → Come ((pre ++ (m ∷ [])) ++ post) q)
        → Come (pre ++ (m ∷ post)) q
    go None z ih = not_at q (sym (refused_stays post) ∙ subst (λ (o : Option Scan). feed_elements (reach o (run_after p.scan p.run m) (count_after p.scan p.count m)) post ≡ at q) z f)
    go (Some s) z ih =
        let c' = come_element pre p m s c h.0 z in
        let f' = subst (λ (o : Option Scan). feed_elements (reach o (run_after p.scan p.run m) (count_after p.scan p.count m)) post ≡ at q) z f in
        subst (λ (v : List Element). Come v q) (append_assoc pre (m ∷ []) post) (ih (record { scan = s; run = run_after p.scan p.run m; count = count_after p.scan p.count m }) c' f')

come_start : Come [] start
come_start = record { segments = []; fit = tt; es = []; is = refl; last = last_nil; counted = refl }

-- ---- every record of version 2 is taken

pub feed_elements_append : (o : Reach) (a b : List Element) → feed_elements o (a ++ b) ≡ feed_elements (feed_elements o a) b
feed_elements_append o [] b = refl
feed_elements_append refused (m ∷ a) b = sym (refused_stays b)
feed_elements_append (at p) (m ∷ a) b = feed_elements_append (step_element p m) a b

-- Entries of version 1 at a place.
seg : (es : List Entry) (p : Place) (s' : Scan) → feed_all (Some p.scan) es ≡ Some s'
    → feed_elements (at p) (map entry es) ≡ at (record { scan = s'; run = runs (Some p.scan) p.run es; count = p.count + count_all (Some p.scan) es })
unfolding runs
seg [] p s' f = ap₂ (λ (s : Scan) (k : ℕ). at (record { scan = s; run = p.run; count = k })) (some_same p.scan s' f) (omega arith)
seg (e ∷ es) p s' f = go (feed p.scan e) refl (λ n g. seg es n s' g)
  where
    go : (o : Option Scan) → feed p.scan e ≡ o
        → ((n : Place) → feed_all (Some n.scan) es ≡ Some s' → feed_elements (at n) (map entry es) ≡ at (record { scan = s'; run = runs (Some n.scan) n.run es; count = n.count + count_all (Some n.scan) es }))
        → feed_elements (step_element p (entry e)) (map entry es) ≡ at (record { scan = s'; run = runs (feed p.scan e) (run_on (starts p.scan e) p.run) es; count = p.count + (starts p.scan e + count_all (feed p.scan e) es) })
    go None z ih = stuck es (subst (λ (o : Option Scan). feed_all o es ≡ Some s') z f)
      where
        stuck : {A : Type 0} (r : List Entry) → feed_all None r ≡ Some s' → A
        stuck [] k = none_some s' k
        stuck (x ∷ r) k = none_some s' k
    go (Some u) z ih =
        let n : Place = record { scan = u; run = run_on (starts p.scan e) p.run; count = p.count + starts p.scan e } in
        let k = ih n (subst (λ (o : Option Scan). feed_all o es ≡ Some s') z f) in
        subst (λ (o : Option Scan). feed_elements (reach o (run_on (starts p.scan e) p.run) (p.count + starts p.scan e)) (map entry es)
        ≡ at (record { scan = s'; run = runs o (run_on (starts p.scan e) p.run) es; count = p.count + (starts p.scan e + count_all o es) })) (sym z)
        (k ∙ ap (λ (k : ℕ). at (record { scan = s'; run = runs (Some u) (run_on (starts p.scan e) p.run) es; count = k })) (omega arith))

-- A prefix of what is taken is taken.
prefix_fed : (a b : List Entry) → Ends (feed_all (Some between) (a ++ b)) → (s : Scan) × (feed_all (Some between) a ≡ Some s)
prefix_fed a b h = go (feed_all (Some between) a) refl (subst Ends (feed_append (Some between) a b) h)
  where
    go : (o : Option Scan) → feed_all (Some between) a ≡ o → Ends (feed_all (feed_all (Some between) a) b) → (s : Scan) × (feed_all (Some between) a ≡ Some s)
    go None q k = absurd (stays b (subst (λ (o : Option Scan). Ends (feed_all o b)) q k))
      where
        stays : (b : List Entry) → Ends (feed_all None b) → ⊥
        stays [] h = h
        stays (x ∷ b) h = h
    go (Some s) q k = (s, q)

-- A segment's entries: the state that they lead to, the entries of the last item, and the items begun.
record Taken (g : Segment) : Type 0 where
  scan : Scan
  fed : feed_all (Some between) (parts_entries g.whole ++ g.first) ≡ Some scan
  right : count_right scan (runs (Some between) 0 (parts_entries g.whole ++ g.first)) (length g.first) ≡ true
  counted : lost (length g.first) (count_all (Some between) (parts_entries g.whole ++ g.first)) ≡ length g.whole
  some_count : count_all (Some between) (parts_entries g.whole ++ g.first) ≡ length g.whole + one (length g.first)

or_left : (a b : Bool) → a ≡ true → (a || b) ≡ true
or_left true b h = refl
or_left false b h = absurd-eq (cc)

or_right : (a b : Bool) → b ≡ true → (a || b) ≡ true
or_right true b h = refl
or_right false b h = h

taken : (ps : List Part) (ft : List Entry) → AllFit ps → FirstPart ft → Taken (record { whole = ps; first = ft })
unfolding one runs
taken ps [] f k =
    let r : PlainReading (parts_entries ps ++ []) = record { parts = ps; fit = f; is = sym (append-nil (parts_entries ps)) } in
    let es = parts_entries ps ++ [] in
    let t = plain_reader.takes_all es r in
    let u = prefix_fed es [] (subst (λ (v : List Entry). Ends (feed_all (Some between) v)) (sym (append-nil es)) t) in
    let c = plain_reader.counts es r in
    let e : Ends (Some u.0) = subst Ends u.1 t in
    record {
      scan = u.0;
      fed = u.1;
      right = or_right (eqb 0 (runs (Some between) 0 es)) (may_end u.0) (may_ends u.0 e);
      counted = c;
      some_count = omega arith;
    }
taken ps (e ∷ t) f k =
    let r : PlainReading (parts_entries ps) = record { parts = ps; fit = f; is = refl } in
    let es = parts_entries ps ++ (e ∷ t) in
    let w = join (parts_entries ps) (part_entries k.part) r (one_part k.part k.fits) in
    let x : es ++ k.rest ≡ parts_entries ps ++ part_entries k.part = append_assoc (parts_entries ps) (e ∷ t) k.rest ∙ ap (λ (v : List Entry). parts_entries ps ++ v) k.is in
    let ends = plain_reader.takes_all (parts_entries ps ++ part_entries k.part) w in
    let u = prefix_fed es k.rest (subst (λ (v : List Entry). Ends (feed_all (Some between) v)) (sym x) ends) in
    let p = prefix_fed (parts_entries ps) [] (subst (λ (v : List Entry). Ends (feed_all (Some between) v)) (sym (append-nil (parts_entries ps))) (plain_reader.takes_all (parts_entries ps) r)) in
    let s₀ = p.0 in
    let ends₀ : Ends (Some s₀) = subst Ends p.1 (plain_reader.takes_all (parts_entries ps) r) in
    let st : starts s₀ e ≡ 1 = first_starts s₀ k.part e (t ++ k.rest) ends₀ k.fits (sym k.is) in
    -- counts: all of it, the whole transfers, and what is left for t
    let c₀ = plain_reader.counts (parts_entries ps) r in
    let c₁ = plain_reader.counts (parts_entries ps ++ part_entries k.part) w in
    let l₁ = length-append ps (k.part ∷ []) in
    let a₁ = count_append (Some between) (parts_entries ps) (part_entries k.part) in
    let b₁ : count_all (feed_all (Some between) (parts_entries ps)) (part_entries k.part) ≡ count_all (Some s₀) (e ∷ (t ++ k.rest)) =
    ap₂ count_all p.1 (sym k.is) in
    let d₁ = count_append (feed s₀ e) t k.rest in
    let z : count_all (feed s₀ e) t ≡ 0 = omega arith in
    let fd : feed_all (Some s₀) (e ∷ t) ≡ Some u.0 = sym (ap (λ (o : Option Scan). feed_all o (e ∷ t)) p.1) ∙ sym (feed_append (Some between) (parts_entries ps) (e ∷ t)) ∙ u.1 in
    let run : runs (Some between) 0 es ≡ suc (length t) =
    runs_append (parts_entries ps) (e ∷ t) between s₀ 0 p.1 ∙ go (feed s₀ e) s₀ refl st fd z (runs (Some between) 0 (parts_entries ps)) in
    let a₂ = count_append (Some between) (parts_entries ps) (e ∷ t) in
    let b₂ : count_all (feed_all (Some between) (parts_entries ps)) (e ∷ t) ≡ starts s₀ e + count_all (feed s₀ e) t = ap (λ (o : Option Scan). count_all o (e ∷ t)) p.1 in
    record {
      scan = u.0;
      fed = u.1;
      right = or_left (eqb (suc (length t)) (runs (Some between) 0 es)) (eqb (suc (length t)) 0 && may_end u.0) (eq-eqb (suc (length t)) (runs (Some between) 0 es) (sym run));
      counted = let y = lost_suc (length t) (count_all (Some between) es) in omega arith;
      some_count = omega arith;
    }
  where
    go : (o : Option Scan) (s₀ : Scan) → feed s₀ e ≡ o → starts s₀ e ≡ 1 → {s' : Scan} → feed_all (Some s₀) (e ∷ t) ≡ Some s' → count_all (feed s₀ e) t ≡ 0 → (n : ℕ) → runs (Some s₀) n (e ∷ t) ≡ suc (length t)
    go None s₀ q st {s'} fd z n = stuck t (subst (λ (o : Option Scan). feed_all o t ≡ Some s') q fd)
      where
        stuck : {A : Type 0} (r : List Entry) → feed_all None r ≡ Some s' → A
        stuck [] k = none_some s' k
        stuck (x ∷ r) k = none_some s' k
    go (Some v) s₀ q st {s'} fd z n =
        let g : feed_all (Some v) t ≡ Some s' = subst (λ (o : Option Scan). feed_all o t ≡ Some s') q fd in
        let d : count_all (Some v) t ≡ 0 = subst (λ (o : Option Scan). count_all o t ≡ 0) q z in
        ap₂ (λ (o : Option Scan) (i : ℕ). runs o (run_on i n) t) q st ∙ runs_on t v s' 1 g d ∙ omega arith

step_failed : (p : Place) (m : ℕ) → count_right p.scan p.run m ≡ true → step_element p (failed_entry m) ≡ at (record { scan = between; run = 0; count = lost m p.count })
step_failed p m h = ap (λ (b : Bool). reach (guard b between) 0 (lost m p.count)) h

-- The place at the end of a record.
record Takes (k : ℕ) (ms : List Element) (n : ℕ) : Type 0 where
  place : Place
  reached : feed_elements (at (record { scan = between; run = 0; count = k })) ms ≡ at place
  ends : Ends (Some place.scan)
  counted : place.count ≡ k + n

lost_add : (m k a b : ℕ) → lost m a ≡ b → a ≡ b + one m → lost m (k + a) ≡ k + b
unfolding one
lost_add zero k a b h c = omega arith
lost_add (suc m) k a b h c = let z = lost_suc m (k + a) in omega arith

takes : (gs : List Segment) (ps : List Part) (k : ℕ) → SegmentsFit gs → AllFit ps → Takes k (elements gs ps) (length (unfailed gs ps))
takes [] ps k f g =
    let r : PlainReading (parts_entries ps) = record { parts = ps; fit = g; is = refl } in
    let t = plain_reader.takes_all (parts_entries ps) r in
    let u = prefix_fed (parts_entries ps) [] (subst (λ (v : List Entry). Ends (feed_all (Some between) v)) (sym (append-nil (parts_entries ps))) t) in
    let p : Place = record { scan = between; run = 0; count = k } in
    record {
      place = record { scan = u.0; run = runs (Some between) 0 (parts_entries ps); count = k + count_all (Some between) (parts_entries ps) };
      reached = seg (parts_entries ps) p u.0 u.1;
      ends = subst Ends u.1 t;
      counted = ap (λ (n : ℕ). k + n) (plain_reader.counts (parts_entries ps) r);
    }
takes (g ∷ gs) ps k f h =
    let t = taken g.whole g.first f.0.0 f.0.1 in
    let es = parts_entries g.whole ++ g.first in
    let p : Place = record { scan = between; run = 0; count = k } in
    let q : Place = record { scan = t.scan; run = runs (Some between) 0 es; count = k + count_all (Some between) es } in
    let m = length g.first in
    let c : lost m q.count ≡ k + length g.whole = lost_add m k (count_all (Some between) es) (length g.whole) t.counted t.some_count in
    let ih = takes gs ps (k + length g.whole) f.1 h in
    let l = length-append g.whole (unfailed gs ps) in
    let z = ih.counted in
    record {
      place = ih.place;
      reached =
          feed_elements_append (at p) (map entry es) (failed_entry m ∷ elements gs ps)
          ∙ ap (λ (o : Reach). feed_elements o (failed_entry m ∷ elements gs ps)) (seg es p t.scan t.fed)
          ∙ ap (λ (o : Reach). feed_elements o (elements gs ps)) (step_failed q m t.right)
          ∙ ap (λ (n : ℕ). feed_elements (at (record { scan = between; run = 0; count = n })) (elements gs ps)) c
          ∙ ih.reached;
      ends = ih.ends;
      counted = omega arith;
    }

-- The automaton takes exactly the records of version 2; an entry that it does not take has no grammatical end after it; every other prefix has one; it counts the transfers that didn't fail.
pub record Reader : Type 0 where
  pub takes_all : (r : List Element) (k : Reading r) → (p : Place) × (feed_elements (at start) r ≡ at p) × Ends (Some p.scan) × (p.count ≡ length (unfailed k.segments k.last))
  pub takes_only : (r : List Element) (p : Place) → ElementsInRange r → feed_elements (at start) r ≡ at p → Ends (Some p.scan) → Reading r
  pub refuses : (pre post : List Element) → feed_elements (at start) pre ≡ refused → Reading (pre ++ post) → ⊥
  pub viable : (pre : List Element) (p : Place) → ElementsInRange pre → feed_elements (at start) pre ≡ at p → (post : List Entry) × Reading (pre ++ map entry post)

all_taken : (r : List Element) (k : Reading r) → (p : Place) × (feed_elements (at start) r ≡ at p) × Ends (Some p.scan) × (p.count ≡ length (unfailed k.segments k.last))
all_taken r k =
    let t = takes k.segments k.last 0 k.segments_fit k.last_fit in
    let c = t.counted in
    (t.place, ap (feed_elements (at start)) (sym k.is) ∙ t.reached, t.ends, omega arith)

only_taken : (r : List Element) (p : Place) → ElementsInRange r → feed_elements (at start) r ≡ at p → Ends (Some p.scan) → Reading r
only_taken r p h f e =
    let c = come_all r [] start p come_start h f in
    let w = whole_of c.es p.scan p.run c.last e in
    record { segments = c.segments; last = w.parts; segments_fit = c.fit; last_fit = w.fit; is = ap (λ (v : List Entry). up_to c.segments (map entry v)) w.is ∙ c.is }

none_refused : (pre post : List Element) → feed_elements (at start) pre ≡ refused → Reading (pre ++ post) → ⊥
none_refused pre post q k =
    let t = all_taken (pre ++ post) k in
    not_at t.0 (sym (refused_stays post) ∙ ap (λ (o : Reach). feed_elements o post) (sym q) ∙ sym (feed_elements_append (at start) pre post) ∙ t.1)

-- Entries that were taken can be ended: version 1's automaton ends the last stretch.
prefix_viable : (pre : List Element) (p : Place) → ElementsInRange pre → feed_elements (at start) pre ≡ at p → (post : List Entry) × Reading (pre ++ map entry post)
prefix_viable pre p h f =
    let c = come_all pre [] start p come_start h f in
    let l = c.last in
    let v = plain_reader.viable l.ft p.scan l.ranged l.alone in
    let w = join l.pre (l.ft ++ v.0) l.before v.1 in (
      v.0,
      record {
        segments = c.segments;
        last = w.parts;
        segments_fit = c.fit;
        last_fit = w.fit;
        is =
            ap (λ (y : List Entry). up_to c.segments (map entry y)) (w.is ∙ sym (append_assoc l.pre l.ft v.0) ∙ ap (λ (y : List Entry). y ++ v.0) l.is)
            ∙ ap (up_to c.segments) (map-append entry c.es v.0)
            ∙ up_append c.segments (map entry c.es) (map entry v.0)
            ∙ ap (λ (y : List Element). y ++ map entry v.0) c.is;
      },
    )

pub reader : Reader
reader = record { takes_all = all_taken; takes_only = only_taken; refuses = none_refused; viable = prefix_viable }
