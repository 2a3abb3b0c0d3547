-- Runs with failures: the record has a reading, the transfers that ended with a count, each count's entries are the first of their own transfer's, and every
-- transfer begun has one fate. Assumes nothing.
use Rattle.std.specs.Prelude.{Err, None, Ok, Option, Result, Some}
use mathlib.Core.Path.{◌≡◌, refl, sym, ap, ap₂, ◌∙◌, subst}
use mathlib.Core.Bool.{Bool, true, false, cond, true≢false}
use mathlib.Core.List.{List, [], ◌∷◌, ◌++◌, map, append-nil, append_assoc, map-append, tail-eq_of_cons-eq}
use Prim.Native.Nat.{ℕ, ◌+◌}
use native.Mathlib.Omega.{arith}
use lib.ListN.{length, length-append}
use Rattle.transfers.specs.declared.host_controller.DataPhase.TheVariants.{In as phase_in, Out as phase_out, None as phase_none}
use Rattle.transfers.specs.declared.wire.Direction.TheVariants.{In, Out}
use Rattle.transfers.specs.declared.sample.Sample.{Sample}
use Rattle.transfers.specs.declared.driver.DeskRule.{DeskRule}
use Rattle.transfers.specs.declared.driver.Driver.{Driver}
use Rattle.transfers.specs.declared.driver.Run.{Run}
use Rattle.transfers.specs.declared.driver.Stage.{Stage}
use Rattle.transfers.specs.declared.driver.Stage.TheVariants.{Setup as setup_stage, In as in_stage, Out as out_stage}
use Rattle.transfers.specs.Memory.{lent_fits}
use Rattle.transfers.specs.Calls.{step_of, cancel_of, Beginning, begin_refusal, begin_or, begin_control_of, begin_bulk_in_of, begin_bulk_out_of}
use Rattle.transfers.specs.Driver.{fresh}
use Rattle.record.specs.Grammar.{Entry, Bytes, Part, part_entries, parts_entries, Item, item, control_part, no_group}
use Rattle.record.specs.Segments.{Element, entry, failed_entry, FirstPart, Segment, SegmentsFit, elements, Reading, unfailed}
use Rattle.record.specs.Wire.{File, wire}
use Rattle.record.specs.Armed.{low_bytes, high_bytes, setup_entry}
use Rattle.record.specs.Calls.{Begin, control_begin, bulk_begin, Call, begin, step, cancel, open_pipe, close_pipe, poll_pipe, interrupt, detect, call, beginning}
use Rattle.record.specs.Asked.{Typed, AllTyped, Begun, armed_by, item_of, listed}
use Rattle.record.specs.Told.{Live, no_transfer, live, Watch, Note, began, stepped, finished, broke, nothing, Told, untold}
use Rattle.record.specs.Shown.{ends, note_step, note, shown, shown_from}
use Rattle.record.specs.Premises.{PremisesFrom}
use Rattle.record.specs.Record.{failure, record_from}
use Rattle.record.specs.Fates.{begun_by, begun_from, Fate, done, broken, under_way, fate, fates_from, all_of, ended_of, broken_of, FirstOf, FirstsOf, Made}
use Rattle.record.specs.Term3.{Premises, Recorded}
use Rattle.record.proofs.Heard.{next_live, since, breaks, after, hears_is}
use Rattle.record.proofs.Begins.{Checked, Room}
use Rattle.record.proofs.Parts.{armed_by_all, low_are, high_are, PartOf, Shape, sends, silent, shape}
use Rattle.record.proofs.Inv.{due_setup, IsControl, InLegal, OutLegal, StageInv, Inv, RoomOf, Splits}
use Rattle.record.proofs.Placing.{none_first}
use Rattle.record.proofs.OneReading.{one_reading}
use Rattle.record.proofs.Forward.{call_kept}
use Rattle.record.proofs.Agreed.{Agrees, idle_breaks, count_if, call_failure}
use Rattle.transfers.specs.declared.answers.Step.TheVariants.{Done, Waiting}
use Rattle.transfers.specs.declared.refusal.Refusal.{Refusal}
use Rattle.transfers.specs.declared.answers.Step.{Step}

-- ---- lists

nil_left : (a b : List Entry) → a ++ b ≡ [] → a ≡ []
nil_left [] b e = refl
nil_left (x ∷ a) b e = absurd (let z : ◌≡◌ {A = ℕ} 0 1 = cc in omega arith)

nil_length : (l : List Entry) → length l ≡ 0 → l ≡ []
nil_length [] e = refl
nil_length (x ∷ l) e = absurd (omega arith)

-- One entry in front of the same end.
one_front : (x : Entry) (so r : List Entry) → so ++ r ≡ x ∷ r → so ≡ x ∷ []
one_front x [] r e = absurd (let z = ap length e in omega arith)
one_front x (y ∷ so) r e =
    let z = ap length (tail-eq_of_cons-eq e) in
    let l = length-append so r in
    let n = nil_length so (omega arith) in
    let h : y ≡ x = cc in
    ap₂ {C = List Entry} ◌∷◌ h n

-- ---- readings, from the front

-- A reading, its items those of the transfers that ended, and its counts' entries the first of those that failed.
record Reads (fs : List Fate) (r : List Element) : Type 0 where
  reading : Reading r
  transfers : map item (unfailed reading.segments reading.last) ≡ map item_of (listed (ended_of fs))
  packets : map part_entries (unfailed reading.segments reading.last) ≡ map armed_by (listed (ended_of fs))
  firsts : FirstsOf reading.segments (broken_of fs)
  made : Made fs r

-- A whole transfer before the first count.
part_before : (q : Part) (s : Segment) (ss : List Segment) (ps : List Part)
    → elements (record { whole = q ∷ s.whole; first = s.first } ∷ ss) ps ≡ map entry (part_entries q) ++ elements (s ∷ ss) ps
part_before q s ss ps =
    ap (λ (v : List Entry). map entry v ++ (failed_entry (length s.first) ∷ elements ss ps)) (append_assoc (part_entries q) (parts_entries s.whole) s.first)
    ∙ ap (λ (v : List Element). v ++ (failed_entry (length s.first) ∷ elements ss ps)) (map-append entry (part_entries q) (parts_entries s.whole ++ s.first))
    ∙ append_assoc (map entry (part_entries q)) (map entry (parts_entries s.whole ++ s.first)) (failed_entry (length s.first) ∷ elements ss ps)

read_whole : (g : Begun) (fs : List Fate) (r : List Element) → PartOf g → listed (g ∷ ended_of fs) ≡ g ∷ listed (ended_of fs) → Reads fs r → Reads (done g ∷ fs) (map entry (armed_by g) ++ r)
read_whole g fs r h e k = at k.reading.segments k.reading.segments_fit k.reading.is k.transfers k.packets k.firsts
  where
    q : Part
    q = h.part

    ps : List Part
    ps = k.reading.last

    at : (ss : List Segment) → SegmentsFit ss → elements ss ps ≡ r → map item (unfailed ss ps) ≡ map item_of (listed (ended_of fs)) → map part_entries (unfailed ss ps) ≡ map armed_by (listed (ended_of fs))
        → FirstsOf ss (broken_of fs) → Reads (done g ∷ fs) (map entry (armed_by g) ++ r)
    at [] f w t p b = record {
      reading = record {
        segments = [];
        last = q ∷ ps;
        segments_fit = tt;
        last_fit = (h.fits, k.reading.last_fit);
        is = map-append entry (part_entries q) (parts_entries ps) ∙ ap₂ {C = List Element} ◌++◌ (ap (map entry) h.entries_are) w;
      };
      transfers = rw e (ap₂ {C = List Item} ◌∷◌ h.item_is t);
      packets = rw e (ap₂ {C = List (List Entry)} ◌∷◌ h.entries_are p);
      firsts = b;
      made = (r, refl, k.made);
    }
    at (s ∷ ss) f w t p b = record {
      reading = record {
        segments = record { whole = q ∷ s.whole; first = s.first } ∷ ss;
        last = ps;
        segments_fit = (((h.fits, f.0.0), f.0.1), f.1);
        last_fit = k.reading.last_fit;
        is = part_before q s ss ps ∙ ap₂ {C = List Element} ◌++◌ (ap (map entry) h.entries_are) w;
      };
      transfers = rw e (ap₂ {C = List Item} ◌∷◌ h.item_is t);
      packets = rw e (ap₂ {C = List (List Entry)} ◌∷◌ h.entries_are p);
      firsts = firsts_same (broken_of fs) b;
      made = (r, refl, k.made);
    }
      where
        firsts_same : (bs : List Begun) → FirstsOf (s ∷ ss) bs → FirstsOf (record { whole = q ∷ s.whole; first = s.first } ∷ ss) bs
        firsts_same [] b = b
        firsts_same (x ∷ bs) b = b

read_ended : (g : Begun) (fs : List Fate) (r : List Element) → Shape g → Reads fs r → Reads (done g ∷ fs) (map entry (armed_by g) ++ r)
read_ended g fs r (sends h e) k = read_whole g fs r h (e (ended_of fs)) k
read_ended g fs r (silent z e) k =
    subst (λ (v : List Entry). Reads (done g ∷ fs) (map entry v ++ r)) (sym z)
    (record { reading = k.reading; transfers = rw (e (ended_of fs)) k.transfers; packets = rw (e (ended_of fs)) k.packets; firsts = k.firsts; made = (r, ap (λ (v : List Entry). map entry v ++ r) (sym z), k.made) })

read_broken : (g : Begun) (fs : List Fate) (so : List Entry) (r : List Element) → FirstPart so → FirstOf so g → Reads fs r → Reads (broken g ∷ fs) (map entry so ++ (failed_entry (length so) ∷ r))
read_broken g fs so r f o k = record {
  reading = record {
    segments = record { whole = []; first = so } ∷ k.reading.segments;
    last = k.reading.last;
    segments_fit = ((tt, f), k.reading.segments_fit);
    last_fit = k.reading.last_fit;
    is = ap (λ (v : List Element). map entry so ++ (failed_entry (length so) ∷ v)) k.reading.is;
  };
  transfers = k.transfers;
  packets = k.packets;
  firsts = (o, k.firsts);
  made = (so, r, o, refl, k.made);
}

-- ---- the transfer under way: the entries that it has armed and those that are due

abbrev Match : Live → List Entry → List Entry → ℕ → Type 0
Match no_transfer so rest k = so ≡ []
Match (live x buf) so rest k = (so ++ rest ≡ armed_by (record { fields = x; buffer = buf })) × (k ≡ length so) × Bytes buf

-- What is known of it where it ends.
abbrev Known : Live → List Entry → Type 0
Known no_transfer so = Unit {0}
Known (live x buf) so = Checked x buf × FirstPart so

room_in : (x : Begin) (buf : List ℕ) (v : Bool) (n : ℕ) → InLegal x buf v n → Room x buf
room_in (control_begin a x p s phase_in) buf v n g = tt
room_in (control_begin a x p s phase_out) buf false n g = absurd g
room_in (control_begin a x p s phase_out) buf true n g = g
room_in (control_begin a x p s phase_none) buf v n g = tt
room_in (bulk_begin d a e p t b) buf v n g = tt

room_out : (x : Begin) (buf : List ℕ) (v : Bool) (n : ℕ) → OutLegal x buf v n → Room x buf
room_out (control_begin a x p s phase_in) buf v n g = tt
room_out (control_begin a x p s phase_out) buf false n g = g.1
room_out (control_begin a x p s phase_out) buf true n g = absurd g
room_out (control_begin a x p s phase_none) buf v n g = tt
room_out (bulk_begin d a e p t b) buf v n g = tt

first_shape : (g : Begun) (so rest : List Entry) → Shape g → so ++ rest ≡ armed_by g → FirstPart so
first_shape g so rest (sends h e) q = record { part = h.part; fits = h.fits; rest = rest; is = q ∙ sym h.entries_are }
first_shape g so rest (silent z e) q = subst FirstPart (sym (nil_left so rest (q ∙ z))) none_first

-- In SETUP nothing but the SETUP was armed, whether or not the buffer holds wLength bytes.
setup_first : (x : Begin) (buf : List ℕ) (so : List Entry) → IsControl x → Checked x buf → so ++ due_setup x buf ≡ armed_by (record { fields = x; buffer = buf }) → FirstPart so
setup_first (control_begin a z p s ph) buf so c ck q =
    subst FirstPart (sym (one_front (setup_entry a s) so (due_setup (control_begin a z p s ph) buf) q))
    (record { part = control_part a (low_bytes s) (high_bytes s) no_group; fits = (ck.addr, low_are s ck.kind, high_are s ck.kind, tt); rest = []; is = refl })
setup_first (bulk_begin d a e p t b) buf so c ck q = absurd c

known : (l : Live) (n : ℕ) (w : Watch) (f : File) (t : Option Run) (rest so : List Entry) (k : ℕ) → Inv l n w f t rest → Match l so rest k → Known l so
known no_transfer n w f t rest so k i m = tt
known (live x buf) n w f None rest so k i m = absurd i
known (live x buf) n w f (Some r) rest so k i m = (i.checked, by r.stage i.stage)
  where
    g : Begun
    g = record { fields = x; buffer = buf }

    by : (st : Stage) → StageInv x buf n w f st rest → FirstPart so
    by setup_stage s = setup_first x buf so s.0 i.checked (ap (λ (v : List Entry). so ++ v) (sym s.2) ∙ m.0)
    by (in_stage st) s = first_shape g so rest (shape x buf (record { checked = i.checked; room = room_in x buf st.status n s.0; are = m.2 })) m.0
    by (out_stage st) s = first_shape g so rest (shape x buf (record { checked = i.checked; room = room_out x buf st.status n s.0; are = m.2 })) m.0

-- ---- what a call adds

module _ (so rest rest' now : List Entry) (k : ℕ) (fs : List Fate) (M : List Element) where
  elements_join : map entry (so ++ now) ++ M ≡ map entry so ++ (map entry now ++ M)
  elements_join = ap (λ (v : List Element). v ++ M) (map-append entry so now) ∙ append_assoc (map entry so) (map entry now) M

  now_nil : rest ≡ [] → rest ++ [] ≡ now ++ rest' → now ≡ []
  now_nil z e = nil_left now rest' (sym e ∙ ap (λ (v : List Entry). v ++ []) z)

  moved : (g : Begun) → so ++ rest ≡ armed_by g → rest ++ [] ≡ now ++ rest' → (so ++ now) ++ rest' ≡ armed_by g
  moved g m e = append_assoc so now rest' ∙ ap (λ (v : List Entry). so ++ v) (sym e ∙ append-nil rest) ∙ m

  -- The transfer goes on, or there is none.
  going : (l : Live) → Match l so rest k → (l ≡ no_transfer → rest ≡ []) → rest ++ [] ≡ now ++ rest'
      → ((so' : List Entry) → Match l so' rest' (k + length now) → Reads fs (map entry so' ++ M)) → Reads fs (map entry so ++ (map entry now ++ M))
  going no_transfer m z e ih = subst (Reads fs) elements_join (ih (so ++ now) (ap₂ {C = List Entry} ◌++◌ m (now_nil (z refl) e)))
  going (live x buf) m z e ih =
      let l = length-append so now in
      let j = m.1 in
      subst (Reads fs) elements_join (ih (so ++ now) (moved (record { fields = x; buffer = buf }) m.0 e, omega arith, m.2))

  -- It ends with a count.
  ending : (l : Live) → Match l so rest k → Known l so → (l ≡ no_transfer → rest ≡ []) → RoomOf l → rest ++ [] ≡ now ++ rest' → rest' ≡ []
      → ((so' : List Entry) → so' ≡ [] → Reads fs (map entry so' ++ M)) → Reads (map done (under_way l) ++ fs) (map entry so ++ (map entry now ++ M))
  ending no_transfer m c z r e d ih = subst (Reads fs) elements_join (ih (so ++ now) (ap₂ {C = List Entry} ◌++◌ m (now_nil (z refl) e)))
  ending (live x buf) m c z r e d ih =
      let g : Begun = record { fields = x; buffer = buf } in
      let q : so ++ now ≡ armed_by g = sym (append-nil (so ++ now)) ∙ ap (λ (v : List Entry). (so ++ now) ++ v) (sym d) ∙ moved g m.0 e in
      subst (Reads (done g ∷ fs)) (ap (λ (v : List Entry). map entry v ++ M) (sym q) ∙ elements_join)
      (read_ended g fs M (shape x buf (record { checked = c.0; room = r; are = m.2 })) (ih [] refl))

  -- It breaks.
  breaking : (l : Live) → Match l so rest k → Known l so → now ≡ [] → (l ≡ no_transfer → ⊥)
      → ((so' : List Entry) → so' ≡ [] → Reads fs (map entry so' ++ M)) → Reads (map broken (under_way l) ++ fs) (map entry so ++ (map entry now ++ (failed_entry (k + length now) ∷ M)))
  breaking no_transfer m c e z ih = absurd (z refl)
  breaking (live x buf) m c e z ih =
      let g : Begun = record { fields = x; buffer = buf } in
      let j = m.1 in
      let n : length now ≡ 0 = ap length e in
      let w : k + length now ≡ length so = omega arith in
      subst (λ (v : List Element). Reads (broken g ∷ fs) (map entry so ++ v))
      (ap₂ {C = List Element} (λ (u : List Entry) (i : ℕ). map entry u ++ (failed_entry i ∷ M)) (sym e) (sym w))
      (read_broken g fs so M c.1 (rest, m.0) (ih [] refl))

  tells : (t : Note) (l : Live) → Match l so rest k → Known l so → (l ≡ no_transfer → rest ≡ []) → Splits (breaks t) (rest ++ armed_by_all (begun_by t)) now rest'
      → (breaks t ≡ false → RoomOf (next_live t l) → RoomOf l) → (next_live t l ≡ no_transfer → rest' ≡ [])
      → ((x : Begin) (buf : List ℕ) → t ≡ began x buf → (l ≡ no_transfer) × Bytes buf) → (breaks t ≡ true → l ≡ no_transfer → ⊥)
      → ((so' : List Entry) → Match (next_live t l) so' rest' (since t k (length now)) → Reads fs (map entry so' ++ M))
      → Reads (fate t (under_way l) ++ fs) (map entry so ++ (map entry now ++ (count_if (breaks t) (since t k (length now)) ++ M)))
  tells (began x buf) l m c z s r d b v ih =
      let j = b x buf refl in
      let e : so ≡ [] = subst (λ (u : Live). Match u so rest k) j.0 m in
      let g : Begun = record { fields = x; buffer = buf } in
      let q : now ++ rest' ≡ armed_by g = sym s ∙ ap (λ (u : List Entry). u ++ (armed_by g ++ [])) (z j.0) ∙ append-nil (armed_by g) in
      subst (λ (u : List Entry). Reads fs (map entry u ++ (map entry now ++ M))) (sym e) (ih now (q, refl, j.1))
  tells (stepped u y buf) l m c z s r d b v ih = going l m z s ih
  tells (finished y buf) l m c z s r d b v ih = ending l m c z (r refl tt) s (d refl) ih
  tells broke l m c z s r d b v ih = breaking l m c s (v refl) ih
  tells nothing l m c z s r d b v ih = going l m z s ih

-- ---- a begin is accepted only where nothing is under way, and only what is under way breaks

inv_none : (n : ℕ) (w : Watch) (f : File) (t : Option Run) (rest : List Entry) → Inv no_transfer n w f t rest → (t ≡ None) × (rest ≡ [])
inv_none n w f None rest i = (refl, i)
inv_none n w f (Some r) rest i = absurd i

pub begin_busy : (r : Run) (x : Begin) (buf m log : List ℕ) → (beginning (Some r) x buf m log).answer ≡ Ok tt → ⊥
unfolding begin_control_of begin_bulk_in_of begin_bulk_out_of
begin_busy r x buf m log q = by x q
  where
    go : (v : Bool) (why : Result (Unit {0}) Refusal) (b : Beginning) → (begin_or (begin_refusal v false why) (Some r) m b).answer ≡ Ok tt → ⊥
    go true why b q = let z : ◌≡◌ {A = ℕ} 0 1 = cc in omega arith
    go false why b q = let z : ◌≡◌ {A = ℕ} 0 1 = cc in omega arith

    by : (x : Begin) → (beginning (Some r) x buf m log).answer ≡ Ok tt → ⊥
    by (control_begin a z p s ph) q = go (lent_fits m log) _ _ q
    by (bulk_begin In a e p t b) q = go (lent_fits m log) _ _ q
    by (bulk_begin Out a e p t b) q = go (lent_fits m log) _ _ q

begins_idle : (t : Option Run) (x : Begin) (buf m log : List ℕ) (l : Live) (n : ℕ) (w : Watch) (f : File) (rest : List Entry) → Inv l n w f t rest
    → (beginning t x buf m log).answer ≡ Ok tt → l ≡ no_transfer
begins_idle t x buf m log no_transfer n w f rest i q = refl
begins_idle None x buf m log (live y b) n w f rest i q = absurd i
begins_idle (Some r) x buf m log (live y b) n w f rest i q = absurd (begin_busy r x buf m log q)

pub not_began : {A : Type 0} (x : Begin) (buf : List ℕ) → nothing ≡ began x buf → A
not_began x buf q = absurd (let z : ◌≡◌ {A = ℕ} 0 1 = cc in omega arith)

step_not_began : {A : Type 0} (a : Result Step Refusal) (y : Sample) (now : List ℕ) (x : Begin) (buf : List ℕ) → note_step a y now ≡ began x buf → A
step_not_began (Ok (Waiting again)) y now x buf q = absurd (let z : ◌≡◌ {A = ℕ} 0 1 = cc in omega arith)
step_not_began (Ok (Done k)) y now x buf q = absurd (let z : ◌≡◌ {A = ℕ} 0 1 = cc in omega arith)
step_not_began (Err why) y now x buf q = by (ends why) q
  where
    by : {A : Type 0} (v : Bool) → cond v broke (stepped false y now) ≡ began x buf → A
    by true q = absurd (let z : ◌≡◌ {A = ℕ} 0 1 = cc in omega arith)
    by false q = absurd (let z : ◌≡◌ {A = ℕ} 0 1 = cc in omega arith)

began_idle : (c : Call) (d : Driver) (l : Live) (n : ℕ) (w : Watch) (f : File) (rest : List Entry) → Typed c → Inv l n w f d.transfer rest
    → (x : Begin) (buf : List ℕ) → note c (call d c).answer ≡ began x buf → (l ≡ no_transfer) × Bytes buf
unfolding call
began_idle (begin y b m log) d l n w f rest ty i x buf q = by (beginning d.transfer y b m log).answer refl q
  where
    by : (a : Result (Unit {0}) Refusal) → (beginning d.transfer y b m log).answer ≡ a → note (begin y b m log) a ≡ began x buf → (l ≡ no_transfer) × Bytes buf
    by (Ok tt) e g = (begins_idle d.transfer y b m log l n w f rest i e, let z : b ≡ buf = cc in subst Bytes z ty.1)
    by (Err why) e g = not_began x buf g
began_idle (step v y b m log) d l n w f rest ty i x buf q = step_not_began (step_of v d.transfer y b m log).answer y b x buf q
began_idle cancel d l n w f rest ty i x buf q = by (cancel_of d.transfer).answer q
  where
    by : (a : Result (Unit {0}) Refusal) → note cancel a ≡ began x buf → (l ≡ no_transfer) × Bytes buf
    by (Ok tt) g = absurd (let z : ◌≡◌ {A = ℕ} 0 1 = cc in omega arith)
    by (Err why) g = not_began x buf g
began_idle (open_pipe a z e p k log) d l n w f rest ty i x buf q = not_began x buf q
began_idle (close_pipe k) d l n w f rest ty i x buf q = not_began x buf q
began_idle (poll_pipe k y m log) d l n w f rest ty i x buf q = not_began x buf q
began_idle (interrupt ints status log) d l n w f rest ty i x buf q = not_began x buf q
began_idle (detect sie log) d l n w f rest ty i x buf q = not_began x buf q

-- ---- every list

inv_agrees : (l : Live) (n : ℕ) (w : Watch) (f : File) (t : Option Run) (rest : List Entry) → Inv l n w f t rest → Agrees l t
inv_agrees no_transfer n w f None rest i = tt
inv_agrees no_transfer n w f (Some r) rest i = absurd i
inv_agrees (live x buf) n w f None rest i = absurd i
inv_agrees (live x buf) n w f (Some r) rest i = tt

reads_from : (cs : List Call) (t : Told) (d : Driver) (rest so : List Entry) → AllTyped cs → Inv t.live t.stages t.watch t.file d.transfer rest → Match t.live so rest t.armings
    → PremisesFrom t (shown_from d cs) → Reads (fates_from t (shown_from d cs)) (map entry so ++ record_from t (shown_from d cs))
unfolding record_from fates_from PremisesFrom shown_from
reads_from [] t d rest so ty i m h =
    let e : so ≡ [] = subst (λ (u : Live). Match u so rest t.armings) h m in
    subst (λ (u : List Entry). Reads [] (map entry u ++ [])) (sym e)
    (record { reading = record { segments = []; last = []; segments_fit = tt; last_fit = tt; is = refl }; transfers = refl; packets = refl; firsts = tt; made = refl })
reads_from (c ∷ cs) t d rest so ty i m h =
    let o = call d c in
    let k = note c o.answer in
    let l = t.live in
    let f = t.file in
    let u = after t (shown c o) in
    let p : PremisesFrom u (shown_from o.next cs) = subst (λ (v : Told). PremisesFrom v (shown_from o.next cs)) (sym (hears_is t (shown c o))) h.1 in
    let q = call_kept c d l t.stages t.watch f rest ty.0 i h.0 in
    let now = wire f o.writes o.memory in
    let fs = fates_from u (shown_from o.next cs) in
    let ms = record_from u (shown_from o.next cs) in
    subst (λ (v : Told). Reads (fate k (under_way l) ++ fates_from v (shown_from o.next cs)) (map entry so ++ (map entry now ++ (failure (fate k (under_way l)) v.armings ++ record_from v (shown_from o.next cs))))) (hears_is t (shown c o))
    (subst (λ (v : List Element). Reads (fate k (under_way l) ++ fs) (map entry so ++ (map entry now ++ (v ++ ms))))
    (sym (call_failure c d l u.armings (inv_agrees l t.stages t.watch f d.transfer rest i)))
    (tells so rest q.rest' now t.armings fs ms k l m
    (known l t.stages t.watch f d.transfer rest so t.armings i m)
    (λ (e : l ≡ no_transfer). (inv_none t.stages t.watch f d.transfer rest (subst (λ (v : Live). Inv v t.stages t.watch f d.transfer rest) e i)).1)
    q.split q.room
    (λ (e : u.live ≡ no_transfer). (inv_none u.stages u.watch u.file o.next.transfer q.rest' (subst (λ (v : Live). Inv v u.stages u.watch u.file o.next.transfer q.rest') e q.inv)).1)
    (began_idle c d l t.stages t.watch f rest ty.0 i)
    (λ (v : breaks k ≡ true) (e : l ≡ no_transfer). true≢false (sym v ∙ idle_breaks c d (inv_none t.stages t.watch f d.transfer rest (subst (λ (w : Live). Inv w t.stages t.watch f d.transfer rest) e i)).0))
    (λ so' m'. reads_from cs u o.next q.rest' so' ty.1 q.inv m' p)))

-- ---- every transfer begun has one fate

all_ended : (gs : List Begun) (fs : List Fate) → all_of (map done gs ++ fs) ≡ gs ++ all_of fs
all_ended [] fs = refl
all_ended (g ∷ gs) fs = ap (λ (v : List Begun). g ∷ v) (all_ended gs fs)

all_broken : (gs : List Begun) (fs : List Fate) → all_of (map broken gs ++ fs) ≡ gs ++ all_of fs
all_broken [] fs = refl
all_broken (g ∷ gs) fs = ap (λ (v : List Begun). g ∷ v) (all_broken gs fs)

module _ (fs : List Fate) (bs : List Begun) where
  one_fate : (t : Note) (l : Live) → ((x : Begin) (buf : List ℕ) → t ≡ began x buf → l ≡ no_transfer) → all_of fs ≡ under_way (next_live t l) ++ bs → all_of (fate t (under_way l) ++ fs) ≡ under_way l ++ (begun_by t ++ bs)
  one_fate (began x buf) l z ih = ih ∙ ap (λ (u : Live). under_way u ++ (record { fields = x; buffer = buf } ∷ bs)) (sym (z x buf refl))
  one_fate (stepped v y now) l z ih = ih
  one_fate (finished y now) l z ih = all_ended (under_way l) fs ∙ ap (λ (v : List Begun). under_way l ++ v) ih
  one_fate broke l z ih = all_broken (under_way l) fs ∙ ap (λ (v : List Begun). under_way l ++ v) ih
  one_fate nothing l z ih = ih

fates_from_lem : (cs : List Call) (t : Told) (d : Driver) (rest : List Entry) → AllTyped cs → Inv t.live t.stages t.watch t.file d.transfer rest → PremisesFrom t (shown_from d cs)
    → all_of (fates_from t (shown_from d cs)) ≡ under_way t.live ++ begun_from (shown_from d cs)
unfolding fates_from begun_from PremisesFrom shown_from
fates_from_lem [] t d rest ty i h = ap (λ (u : Live). under_way u ++ []) (sym h)
fates_from_lem (c ∷ cs) t d rest ty i h =
    let o = call d c in
    let u = after t (shown c o) in
    let p : PremisesFrom u (shown_from o.next cs) = subst (λ (v : Told). PremisesFrom v (shown_from o.next cs)) (sym (hears_is t (shown c o))) h.1 in
    let q = call_kept c d t.live t.stages t.watch t.file rest ty.0 i h.0 in
    subst (λ (v : Told). all_of (fate (note c o.answer) (under_way t.live) ++ fates_from v (shown_from o.next cs)) ≡ under_way t.live ++ begun_from (shown_from d (c ∷ cs))) (hears_is t (shown c o))
    (one_fate (fates_from u (shown_from o.next cs)) (begun_from (shown_from o.next cs)) (note c o.answer) t.live (λ x buf e. (began_idle c d t.live t.stages t.watch t.file rest ty.0 i x buf e).0)
    (fates_from_lem cs u o.next q.rest' ty.1 q.inv p))

-- From a fresh driver, over any registers.
pub recorded : (rule : DeskRule) (f : File) (cs : List Call) → AllTyped cs → Premises f (shown_from (fresh rule) cs) → Recorded f (shown_from (fresh rule) cs)
recorded rule f cs ty h =
    let k = reads_from cs (untold f) (fresh rule) [] [] ty refl refl h in
    let r = k.reading in
    record {
      reading = r;
      only = λ v. one_reading v.segments r.segments v.last r.last v.segments_fit r.segments_fit v.last_fit r.last_fit (v.is ∙ sym r.is);
      begun = fates_from_lem cs (untold f) (fresh rule) [] ty refl h;
      made = k.made;
      transfers = k.transfers;
      packets = k.packets;
      firsts = k.firsts;
    }
