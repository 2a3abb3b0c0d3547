-- Term 3. Assumes nothing.
use mathlib.Core.Path.{◌≡◌, refl, sym, ap, ◌∙◌, subst}
use mathlib.Core.Bool.{false, true≢false}
use mathlib.Core.List.{List, [], ◌∷◌, ◌++◌, map, map-append}
use Prim.Native.Nat.{ℕ}
use native.Mathlib.Omega.{arith}
use Rattle.transfers.specs.declared.driver.DeskRule.{DeskRule}
use Rattle.transfers.specs.declared.driver.Driver.{Driver}
use Rattle.transfers.specs.Driver.{fresh}
use Rattle.record.specs.Grammar.{Entry, part_entries, parts_entries, PlainReading, item}
use Rattle.record.specs.Segments.{Element, entry, Segment, elements, unfailed}
use Rattle.record.specs.Wire.{File, wire}
use Rattle.record.specs.Calls.{Call, call}
use Rattle.record.specs.Asked.{AllTyped, Begun, armed_by, item_of, listed}
use Rattle.record.specs.Told.{Note, began, stepped, finished, broke, nothing, Told, untold}
use Rattle.record.specs.Shown.{note, shown, shown_from}
use Rattle.record.specs.Premises.{PremisesFrom, LentFrom, UnrefusedFrom}
use Rattle.record.specs.Record.{failure, record_from}
use Rattle.record.specs.Fates.{begun_from, Fate, done, broken, under_way, fate, fates_from, all_of, ended_of, broken_of, FirstsOf}
use Rattle.record.specs.Term3.{fates, Premises, Unbroken, ComesFrom, Term3, InBytes, AnyBytes}
use Rattle.record.specs.DriverCalls.{driver_calls}
use Rattle.record.proofs.Heard.{breaks, after, hears_is}
use Rattle.record.proofs.PlainReading.{one_plain_reading}
use Rattle.record.proofs.Unbroken.{entries_from, UnbrokenFrom}
use Rattle.record.proofs.Comes.{calls_for}
use Rattle.record.proofs.Failing.{recorded}
use Rattle.record.proofs.Agreed.{table}
use Rattle.record.proofs.Staging.{stages}
use Rattle.record.proofs.Counted.{answered, counts_small}
use Rattle.record.proofs.Roomy.{room}
use Rattle.record.proofs.OneCapture.{one_capture}
use Rattle.record.proofs.Verdicts.{one_verdict}
use Rattle.record.proofs.Holding.{accepted}
use Rattle.record.proofs.ReadBack.{written as written_back, read}

-- ---- where none failed

no_segments : (ss : List Segment) → FirstsOf ss [] → ss ≡ []
no_segments [] h = refl
no_segments (s ∷ ss) h = absurd h

all_of_ended : (fs : List Fate) → broken_of fs ≡ [] → ended_of fs ≡ all_of fs
all_of_ended [] e = refl
all_of_ended (done g ∷ fs) e = ap (λ (v : List Begun). g ∷ v) (all_of_ended fs e)
all_of_ended (broken g ∷ fs) e = absurd (let z : ◌≡◌ {A = ℕ} 0 1 = cc in omega arith)

unbroken : (rule : DeskRule) (f : File) (cs : List Call) → AllTyped cs → Premises f (shown_from (fresh rule) cs) → broken_of (fates f (shown_from (fresh rule) cs)) ≡ [] → Unbroken f (shown_from (fresh rule) cs)
unbroken rule f cs ty h e =
    let k = recorded rule f cs ty h in
    let r = k.reading in
    let s : r.segments ≡ [] = no_segments r.segments (subst (FirstsOf r.segments) e k.firsts) in
    let p : r.last ≡ unfailed r.segments r.last = ap (λ (v : List Segment). unfailed v r.last) (sym s) in
    let b : ended_of (fates f (shown_from (fresh rule) cs)) ≡ begun_from (shown_from (fresh rule) cs) = all_of_ended (fates f (shown_from (fresh rule) cs)) e ∙ k.begun in
    record {
      record_is = parts_entries r.last;
      is = sym r.is ∙ ap (λ (v : List Segment). elements v r.last) s;
      reading = record { parts = r.last; fit = r.last_fit; is = refl };
      only = λ v. one_plain_reading v.parts r.last v.fit r.last_fit v.is;
      transfers = ap (map item) p ∙ k.transfers ∙ ap (λ (v : List Begun). map item_of (listed v)) b;
      packets = ap (map part_entries) p ∙ k.packets ∙ ap (λ (v : List Begun). map armed_by (listed v)) b;
    }

-- ---- from a record of the grammar to calls

not_failed : (k : Note) (gs : List Begun) (n : ℕ) → breaks k ≡ false → failure (fate k gs) n ≡ []
not_failed (began x buf) gs n e = refl
not_failed (stepped v y now) gs n e = refl
not_failed (finished y now) [] n e = refl
not_failed (finished y now) (g ∷ gs) n e = refl
not_failed broke gs n e = absurd (true≢false e)
not_failed nothing gs n e = refl

-- Without a failure the record is the entries alone.
no_failure : (cs : List Call) (t : Told) (d : Driver) → UnbrokenFrom t.live t.stages t.watch t.file d cs → record_from t (shown_from d cs) ≡ map entry (entries_from t.file d cs)
unfolding record_from entries_from UnbrokenFrom shown_from
no_failure [] t d h = refl
no_failure (c ∷ cs) t d h =
    let o = call d c in
    let u = after t (shown c o) in
    let now = wire t.file o.writes o.memory in
    let g = fate (note c o.answer) (under_way t.live) in
    subst (λ (v : Told). map entry now ++ (failure g v.armings ++ record_from v (shown_from o.next cs)) ≡ map entry (entries_from t.file d (c ∷ cs))) (hears_is t (shown c o))
    (ap (λ (v : List Element). map entry now ++ (v ++ record_from u (shown_from o.next cs))) (not_failed (note c o.answer) (under_way t.live) u.armings h.0)
    ∙ ap (λ (v : List Element). map entry now ++ v) (no_failure cs u o.next h.3)
    ∙ sym (map-append entry now (entries_from u.file o.next cs)))

premises : (cs : List Call) (t : Told) (d : Driver) → UnbrokenFrom t.live t.stages t.watch t.file d cs → PremisesFrom t (shown_from d cs)
unfolding UnbrokenFrom PremisesFrom shown_from
premises [] t d h = h
premises (c ∷ cs) t d h = let o = call d c in (h.1, subst (λ (u : Told). PremisesFrom u (shown_from o.next cs)) (hears_is t (shown c o)) (premises cs (after t (shown c o)) o.next h.3))

lent : (cs : List Call) (t : Told) (d : Driver) → UnbrokenFrom t.live t.stages t.watch t.file d cs → LentFrom t (shown_from d cs)
unfolding UnbrokenFrom LentFrom shown_from
lent [] t d h = tt
lent (c ∷ cs) t d h = let o = call d c in (h.2.0, subst (λ (u : Told). LentFrom u (shown_from o.next cs)) (hears_is t (shown c o)) (lent cs (after t (shown c o)) o.next h.3))

unrefused : (cs : List Call) (t : Told) (d : Driver) → UnbrokenFrom t.live t.stages t.watch t.file d cs → UnrefusedFrom d cs
unfolding UnbrokenFrom UnrefusedFrom
unrefused [] t d h = tt
unrefused (c ∷ cs) t d h = let o = call d c in (h.2.1, unrefused cs (after t (shown c o)) o.next h.3)

ended_only : (gs : List Begun) (fs : List Fate) → broken_of (map done gs ++ fs) ≡ broken_of fs
ended_only [] fs = refl
ended_only (g ∷ gs) fs = ended_only gs fs

none_broken : (t : Note) (gs : List Begun) (fs : List Fate) → breaks t ≡ false → broken_of (fate t gs ++ fs) ≡ broken_of fs
none_broken (began x buf) gs fs e = refl
none_broken (stepped v y now) gs fs e = refl
none_broken (finished y now) gs fs e = ended_only gs fs
none_broken broke gs fs e = absurd (true≢false e)
none_broken nothing gs fs e = refl

all_ended : (cs : List Call) (t : Told) (d : Driver) → UnbrokenFrom t.live t.stages t.watch t.file d cs → broken_of (fates_from t (shown_from d cs)) ≡ []
unfolding UnbrokenFrom fates_from shown_from
all_ended [] t d h = refl
all_ended (c ∷ cs) t d h =
    let o = call d c in
    let u = after t (shown c o) in
    subst (λ (v : Told). broken_of (fate (note c o.answer) (under_way t.live) ++ fates_from v (shown_from o.next cs)) ≡ []) (hears_is t (shown c o))
    (none_broken (note c o.answer) (under_way t.live) (fates_from u (shown_from o.next cs)) h.0 ∙ all_ended cs u o.next h.3)

comes : (rule : DeskRule) (f : File) (r : List Entry) → PlainReading r → ComesFrom driver_calls rule f r
comes rule f r h =
    let k = calls_for rule f r h in
    record {
      calls = k.calls;
      typed = k.typed;
      premises = premises k.calls (untold f) (fresh rule) k.premises;
      lent = lent k.calls (untold f) (fresh rule) k.premises;
      unrefused = unrefused k.calls (untold f) (fresh rule) k.premises;
      unbroken = all_ended k.calls (untold f) (fresh rule) k.premises;
      is = no_failure k.calls (untold f) (fresh rule) k.premises ∙ ap (map entry) k.is;
    }

pub term3 : Term3 driver_calls
term3 = record { unbroken = unbroken; comes = λ rule ample. comes rule; recorded = recorded; table = λ rule cs f. table rule f cs; stages = stages }

pub in_bytes : InBytes driver_calls
in_bytes = record { answered = answered; counts = counts_small; written = written_back; room = room; read = read }

pub any_bytes : AnyBytes
any_bytes = record { accepted = accepted; one = one_capture; verdicts = one_verdict }
