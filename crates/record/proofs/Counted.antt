-- The counts that steps and cancels answer are those of the record, for every list of calls. Assumes nothing.
use Rattle.std.specs.Prelude.{Err, None, Ok, Option, Result, Some}
use mathlib.Core.Path.{◌≡◌, refl, sym, ap, ap₂, ◌∙◌, subst}
use mathlib.Core.Bool.{Bool, true, false, cond}
use mathlib.Core.List.{List, [], ◌∷◌, ◌++◌, map}
use Prim.Native.Nat.{ℕ, ◌+◌, ◌≤◌}
use native.Mathlib.Nat.{add-zero}
use native.Mathlib.Omega.{arith}
use lib.ListN.{length}
use lib.Dec.{eqb}
use Rattle.transfers.specs.declared.wire.Direction.TheVariants.{In, Out}
use Rattle.transfers.specs.declared.answers.Armed.{Armed}
use Rattle.transfers.specs.declared.sample.Sample.{Sample}
use Rattle.transfers.specs.declared.driver.DeskRule.{DeskRule}
use Rattle.transfers.specs.declared.driver.Driver.{Driver}
use Rattle.transfers.specs.Memory.{lent_fits}
use Rattle.transfers.specs.Outcome.{Outcome, toggle_in, toggle_out}
use Rattle.transfers.specs.Step.{acts}
use Rattle.transfers.specs.Calls.{step_if, may_step, step_lent, step_of, cancel_if, stage_parity, either_serves, cancel_of, Beginning, begin_or, begins_control, begin_control_of, bulk_request, begins_bulk_in, begins_bulk_out, begin_bulk_in_of, begin_bulk_out_of}
use Rattle.transfers.specs.Entries.{setup_count, out_count, armed_count, word, entries_begun, entries_stepped, entries_cancelled, failed_step, failed_cancel}
use Rattle.transfers.specs.Driver.{fresh}
use Rattle.record.specs.Grammar.{Entry}
use Rattle.record.specs.Segments.{Element, entry, failed_entry}
use Rattle.record.specs.Wire.{File, wire}
use Rattle.record.specs.Armed.{setups_armed, outs_armed, entries_armed}
use Rattle.record.specs.Calls.{Begin, control_begin, bulk_begin, Call, begin, step, cancel, open_pipe, close_pipe, poll_pipe, interrupt, detect, call, beginning}
use Rattle.record.specs.Asked.{AllTyped}
use Rattle.record.specs.Told.{Note, stepped, broke, Told, untold}
use Rattle.record.specs.Shown.{ends, note_step, note, shown, shown_from}
use Rattle.record.specs.Fates.{under_way, fate}
use Rattle.record.specs.Record.{failure, record_from, counted, answered_from, CountsTo}
use Rattle.record.specs.Term3.{wire_record}
use Rattle.record.proofs.Heard.{since, breaks, after, hears_is}
use Rattle.record.proofs.Beginning.{control_refusal, bulk_refusal}
use Rattle.record.proofs.Answered.{Known, tells_call}
use Rattle.record.proofs.Bounded.{Bounded, under_bounded, bounded_small, control_bound, bulk_in_bound, bulk_out_bound, Shaped, acted}
use Rattle.record.proofs.Agreed.{Agrees, call_agrees, count_if, call_failure}
use Rattle.transfers.specs.declared.answers.Step.TheVariants.{Done, Waiting}
use Rattle.transfers.specs.declared.refusal.Refusal.{Refusal}
use Rattle.transfers.specs.declared.answers.Step.{Step}
use Rattle.transfers.specs.declared.answers.ArmedOut.{ArmedOut}
use Rattle.transfers.specs.declared.driver.Run.{Run}
use Rattle.transfers.specs.declared.answers.ArmedSetup.{ArmedSetup}

-- ---- the driver's count against the record's

-- While a transfer is under way, the driver's count e is the number n of entries that were started since its begin.
abbrev Count : Option Run → ℕ → ℕ → Type 0
Count None e n = Unit {0}
Count (Some r) e n = (e ≡ n) × Bounded n (Some r)

-- The driver's goes round at 2^32, which n doesn't reach.
count_word : (t : Option Run) (e n : ℕ) → e ≡ word n → Bounded n t → Count t e n
count_word None e n h b = tt
count_word (Some r) e n h b = let s = bounded_small n r b in (omega arith, b)

count_at : (t : Option Run) (n : ℕ) → Bounded n t → Count t n n
count_at None n b = tt
count_at (Some r) n b = (refl, b)

count_none : (t : Option Run) (e n : ℕ) → Count t e n → Count t e (n + 0)
count_none t e n h = subst (Count t e) (sym (add-zero n)) h

-- What a call's answers say of the count, with j entries started.
record Right (t : Option Run) (e n' : ℕ) (said : List Element) (told : List Element) : Type 0 where
  count : Count t e n'
  says : told ≡ said
  small : CountsTo 65536 said

abbrev StepRight : ℕ → ℕ → Sample → List ℕ → Outcome → Type 0
StepRight e n y buf o =
    let k = note_step o.answer y buf in
    let i = since k n (armed_count o.armed) in
    Right o.next (entries_stepped o.answer e o.armed) i (counted (failed_step o.answer e)) (count_if (breaks k) i)

acted_right : (e n : ℕ) (y : Sample) (buf : List ℕ) (a : Result Step Refusal) (t : Option Run) (am : Armed) → e ≡ n → n ≤ 65536 → Shaped n a t am
    → let k = note_step a y buf in Right t (entries_stepped a e am) (since k n (armed_count am)) (counted (failed_step a e)) (count_if (breaks k) (since k n (armed_count am)))
acted_right e n y buf (Ok (Waiting again)) t am h s k = record { count = count_word t (word (e + armed_count am)) (n + armed_count am) (ap (λ (i : ℕ). word (i + armed_count am)) h) (under_bounded (n + armed_count am) t k); says = refl; small = tt }
acted_right e n y buf (Ok (Done j)) t am h s k = record { count = subst (λ (u : Option Run). Count u 0 0) (sym k) tt; says = refl; small = tt }
acted_right e n y buf (Err why) t am h s k = by (ends why) k.0
  where
    by : (v : Bool) → v ≡ true
        → let u : Note = cond v broke (stepped false y buf) in
        Right t (cond v 0 e) (since u n (armed_count am)) (counted (cond v (Some e) None)) (count_if (breaks u) (since u n (armed_count am)))
    by false q = absurd (let z : ◌≡◌ {A = ℕ} 0 1 = cc in omega arith)
    by true q = record {
      count = subst (λ (u : Option Run). Count u 0 (n + armed_count am)) (sym k.1) tt;
      says = let z : armed_count am ≡ 0 = ap armed_count k.2 in ap (λ (i : ℕ). failed_entry i ∷ []) (let y : n + armed_count am ≡ e = omega arith in y);
      small = (omega arith, tt);
    }

step_right : (e n : ℕ) (b : Bool) (t : Option Run) (y : Sample) (buf m log : List ℕ) → Count t e n → StepRight e n y buf (step_of b t y buf m log)
unfolding step_of
step_right e n b t y buf m log c = at (lent_fits m log) t c
  where
    at : (p : Bool) (t : Option Run) → Count t e n → StepRight e n y buf (step_lent p b t y buf m)
    at false t c = record { count = count_none t e n c; says = refl; small = tt }
    at true None c = record { count = tt; says = refl; small = tt }
    at true (Some r) c = by (may_step b r) (eqb (length buf) r.request.length)
      where
        by : (p q : Bool) → StepRight e n y buf (step_if p q r y buf m)
        by false q = record { count = count_none (Some r) e n c; says = refl; small = tt }
        by true false = record { count = count_none (Some r) e n c; says = refl; small = tt }
        by true true = let o = acts r.request r.stage y buf m in acted_right e n y buf o.answer o.next o.armed c.0 (bounded_small n r c.1) (acted n r.request r.stage y buf m c.1)

-- ---- begins

abbrev BeginCount : Begin → List ℕ → List ℕ → List ℕ → ℕ → ℕ → Beginning → Type 0
BeginCount x buf m log e n o = Count o.next (entries_begun o.answer e o.armed) (since (note (begin x buf m log) o.answer) n (armed_count o.armed))

begun_right : (x : Begin) (buf m log : List ℕ) (e n : ℕ) (t : Option Run) (why : Result (Unit {0}) Refusal) (o : Beginning) → o.answer ≡ Ok tt → Bounded (armed_count o.armed) o.next → Count t e n
    → BeginCount x buf m log e n (begin_or why t m o)
begun_right x buf m log e n t (Err why) o q h c = count_none t e n c
begun_right x buf m log e n t (Ok tt) o q h c =
    subst (λ (a : Result (Unit {0}) Refusal). Count o.next (entries_begun a e o.armed) (since (note (begin x buf m log) a) n (armed_count o.armed))) (sym q)
    (count_at o.next (armed_count o.armed) h)

begin_right : (t : Option Run) (x : Begin) (buf m log : List ℕ) (e n : ℕ) → Count t e n → BeginCount x buf m log e n (beginning t x buf m log)
unfolding begin_control_of begin_bulk_in_of begin_bulk_out_of
begin_right t (control_begin a z p s ph) buf m log e n c =
    begun_right (control_begin a z p s ph) buf m log e n t (control_refusal t a p m log) (begins_control a z p s ph (length buf) m) refl (control_bound a z p s ph (length buf) m) c
begin_right t (bulk_begin In a ep p k b) buf m log e n c =
    let x = bulk_request In a ep p b (length buf) in
    begun_right (bulk_begin In a ep p k b) buf m log e n t (bulk_refusal t a ep p buf m log) (begins_bulk_in x k m) refl (bulk_in_bound x k m) c
begin_right t (bulk_begin Out a ep p k b) buf m log e n c =
    let x = bulk_request Out a ep p b (length buf) in
    begun_right (bulk_begin Out a ep p k b) buf m log e n t (bulk_refusal t a ep p buf m log) (begins_bulk_out x ep k buf m) refl (bulk_out_bound x ep k buf m) c

begin_says : (x : Begin) (buf m log : List ℕ) (a : Result (Unit {0}) Refusal) → breaks (note (begin x buf m log) a) ≡ false
begin_says x buf m log (Ok tt) = refl
begin_says x buf m log (Err why) = refl

-- ---- cancel

cancel_right : (t : Option Run) (e n : ℕ) → Count t e n
    → let o = cancel_of t in Right o.next (entries_cancelled o.answer e) (since (note cancel o.answer) n 0) (counted (failed_cancel o.answer e)) (count_if (breaks (note cancel o.answer)) (since (note cancel o.answer) n 0))
unfolding cancel_of
cancel_right None e n c = record { count = tt; says = refl; small = tt }
cancel_right (Some r) e n c = by (either_serves r)
  where
    by : (b : Bool) → let o = cancel_if b (Some r) (toggle_in r.request.kind) (toggle_out r.request.kind (stage_parity r.stage)) in
        Right o.next (entries_cancelled o.answer e) (since (note cancel o.answer) n 0) (counted (failed_cancel o.answer e)) (count_if (breaks (note cancel o.answer)) (since (note cancel o.answer) n 0))
    by false = record { count = count_none (Some r) e n c; says = refl; small = tt }
    by true = record { count = tt; says = ap (λ (i : ℕ). failed_entry i ∷ []) (add-zero n ∙ sym c.0); small = (let s = bounded_small n r c.1 in let q = c.0 in omega arith, tt) }

-- ---- every call and every list

length_armed : (m : List ℕ) (a : Armed) → length (entries_armed m a) ≡ armed_count a
length_armed m a = by a.setup a.first a.second
  where
    by : (s : Option ArmedSetup) (x y : Option ArmedOut) → length (setups_armed s ++ (outs_armed m x ++ outs_armed m y)) ≡ setup_count s + out_count x + out_count y
    by None None None = refl
    by None None (Some y) = refl
    by None (Some x) None = refl
    by None (Some x) (Some y) = refl
    by (Some s) None None = refl
    by (Some s) None (Some y) = refl
    by (Some s) (Some x) None = refl
    by (Some s) (Some x) (Some y) = refl

abbrev CallRight : Driver → Call → ℕ → ℕ → Type 0
CallRight d c n j =
    let o = call d c in
    let t = note c o.answer in
    Right o.next.transfer o.next.entries (since t n j) (counted o.failed) (count_if (breaks t) (since t n j))

call_right : (c : Call) (d : Driver) (n : ℕ) → Count d.transfer d.entries n → CallRight d c n (armed_count (call d c).armed)
unfolding call
call_right (begin x buf m log) d n c =
    let o = beginning d.transfer x buf m log in
    record {
      count = begin_right d.transfer x buf m log d.entries n c;
      says = ap (λ (v : Bool). count_if v (since (note (begin x buf m log) o.answer) n (armed_count o.armed))) (begin_says x buf m log o.answer);
      small = tt;
    }
call_right (step b y buf m log) d n c = let r = step_right d.entries n b d.transfer y buf m log c in record { count = r.count; says = r.says; small = r.small }
call_right cancel d n c = cancel_right d.transfer d.entries n c
call_right (open_pipe a x e p k log) d n c = record { count = count_none d.transfer d.entries n c; says = refl; small = tt }
call_right (close_pipe k) d n c = record { count = count_none d.transfer d.entries n c; says = refl; small = tt }
call_right (poll_pipe k y m log) d n c = record { count = count_none d.transfer d.entries n c; says = refl; small = tt }
call_right (interrupt ints status log) d n c = record { count = count_none d.transfer d.entries n c; says = refl; small = tt }
call_right (detect sie log) d n c = record { count = count_none d.transfer d.entries n c; says = refl; small = tt }

answered_elements : (cs : List Call) (t : Told) (d : Driver) → AllTyped cs → Known t.file d.transfer → Count d.transfer d.entries t.armings → Agrees t.live d.transfer
    → record_from t (shown_from d cs) ≡ answered_from (shown_from d cs)
unfolding record_from answered_from shown_from
answered_elements [] t d ty i c a = refl
answered_elements (x ∷ cs) t d ty i c a =
    let o = call d x in
    let f = t.file in
    let k = tells_call x d f ty.0 i in
    let j : length (wire f o.writes o.memory) ≡ armed_count o.armed = ap length k.is ∙ length_armed o.memory o.armed in
    let r : CallRight d x t.armings (length (wire f o.writes o.memory)) = subst (CallRight d x t.armings) (sym j) (call_right x d t.armings c) in
    let g = fate (note x o.answer) (under_way t.live) in
    subst (λ (u : Told). map entry (wire f o.writes o.memory) ++ (failure g u.armings ++ record_from u (shown_from o.next cs)) ≡ answered_from (shown_from d (x ∷ cs))) (hears_is t (shown x o))
    (ap₂ {C = List Element} ◌++◌ (ap (map entry) k.is)
    (ap₂ {C = List Element} ◌++◌ (call_failure x d t.live (after t (shown x o)).armings a ∙ r.says)
    (answered_elements cs (after t (shown x o)) o.next ty.1 k.known r.count (call_agrees x d t.live a))))

-- What begin, step and cancel answer is the record of version 2. No premise.
pub answered : (rule : DeskRule) (f : File) (cs : List Call) → AllTyped cs → wire_record f (shown_from (fresh rule) cs) ≡ answered_from (shown_from (fresh rule) cs)
answered rule f cs ty = answered_elements cs (untold f) (fresh rule) ty tt tt tt

-- ---- no count is above 65,536

entries_small : (es : List Entry) (ms : List Element) → CountsTo 65536 ms → CountsTo 65536 (map entry es ++ ms)
entries_small [] ms h = h
entries_small (e ∷ es) ms h = entries_small es ms h

counted_small : (x : Option ℕ) (ms : List Element) → CountsTo 65536 (counted x) → CountsTo 65536 ms → CountsTo 65536 (counted x ++ ms)
counted_small None ms s h = h
counted_small (Some n) ms s h = (s.0, h)

small_from : (cs : List Call) (d : Driver) (n : ℕ) → Count d.transfer d.entries n → CountsTo 65536 (answered_from (shown_from d cs))
unfolding answered_from shown_from
small_from [] d n c = tt
small_from (x ∷ cs) d n c =
    let o = call d x in
    let r = call_right x d n c in
    entries_small (entries_armed o.memory o.armed) (counted o.failed ++ answered_from (shown_from o.next cs))
    (counted_small o.failed (answered_from (shown_from o.next cs)) r.small (small_from cs o.next (since (note x o.answer) n (armed_count o.armed)) r.count))

-- Neither those that are answered nor those of the record: 32 bits hold them.
pub answered_small : (rule : DeskRule) (cs : List Call) → CountsTo 65536 (answered_from (shown_from (fresh rule) cs))
answered_small rule cs = small_from cs (fresh rule) 0 tt

pub counts_small : (rule : DeskRule) (f : File) (cs : List Call) → AllTyped cs → CountsTo 65536 (wire_record f (shown_from (fresh rule) cs))
counts_small rule f cs ty = subst (CountsTo 65536) (sym (answered rule f cs ty)) (answered_small rule cs)
