-- The transfer under way, as the calls tell it, is the driver's; so a begin answers what the table says. Assumes nothing.
use Rattle.std.specs.Prelude.{Err, None, Ok, Option, Result, Some}
use mathlib.Core.Path.{◌≡◌, refl, sym, ap, ◌∙◌, subst}
use mathlib.Core.Bool.{Bool, true, false, true≢false, ◌&&◌}
use mathlib.Core.List.{List, [], ◌∷◌}
use Prim.Native.Nat.{ℕ, ◌+◌}
use lib.ListN.{length}
use lib.Dec.{eqb, leb}
use Rattle.transfers.specs.declared.wire.Direction.TheVariants.{In, Out}
use Rattle.transfers.specs.declared.answers.Armed.{Armed}
use Rattle.transfers.specs.declared.sample.Sample.{Sample}
use Rattle.transfers.specs.declared.driver.DeskRule.{DeskRule}
use Rattle.transfers.specs.declared.driver.Driver.{Driver}
use Rattle.transfers.specs.Reply.{result, begin_reply}
use Rattle.transfers.specs.Rows.{unless}
use Rattle.transfers.specs.Memory.{lent_fits}
use Rattle.transfers.specs.Outcome.{toggle_in, toggle_out}
use Rattle.transfers.specs.Step.{acts}
use Rattle.transfers.specs.Calls.{step_if, may_step, step_lent, step_of, cancel_if, stage_parity, either_serves, cancel_of, Beginning, fields_refusal, begin_refusal, begin_or, is_idle, begins_control, begin_control_of, bulk_request, begins_bulk_in, begins_bulk_out, begin_bulk_in_of, begin_bulk_out_of}
use Rattle.transfers.specs.Driver.{fresh}
use Rattle.record.specs.Wire.{File}
use Rattle.record.specs.Calls.{Begin, control_begin, bulk_begin, Call, begin, step, cancel, open_pipe, close_pipe, poll_pipe, interrupt, detect, call, beginning}
use Rattle.record.specs.Told.{Live, no_transfer, live, Note, began, stepped, finished, broke, nothing, Told, untold}
use Rattle.record.specs.Shown.{note_step, note, shown}
use Rattle.record.specs.Fates.{under_way, fate}
use Rattle.record.specs.Record.{failure}
use Rattle.record.specs.Segments.{Element, failed_entry}
use Rattle.record.specs.Table.{is_free, fields_row, row_of, Row, TableFrom}
use Rattle.record.proofs.Heard.{next_live, breaks, after, hears_is}
use Rattle.record.proofs.Beginning.{control_refusal, bulk_refusal}
use Rattle.transfers.specs.Entries.{armed_count}
use Rattle.record.proofs.Bounded.{UnderWay, none_bound, Shaped, acted}
use Rattle.transfers.specs.declared.answers.Step.TheVariants.{Done, Waiting}
use Rattle.transfers.specs.declared.refusal.Refusal.{Refusal}
use Rattle.transfers.specs.declared.answers.Step.{Step}
use Rattle.transfers.specs.declared.driver.Run.{Run}

-- ---- a transfer under way

abbrev IsBusy : Option Run → Type 0
IsBusy None = ⊥
IsBusy (Some r) = Unit {0}

-- ---- none is under way exactly where the driver is idle

abbrev pub Agrees : Live → Option Run → Type 0
Agrees no_transfer None = Unit {0}
Agrees no_transfer (Some r) = ⊥
Agrees (live x buf) None = ⊥
Agrees (live x buf) (Some r) = Unit {0}

busy_agrees : (x : Begin) (buf : List ℕ) (t : Option Run) → IsBusy t → Agrees (live x buf) t
busy_agrees x buf None h = absurd h
busy_agrees x buf (Some r) h = tt

under_busy : (n : ℕ) (t : Option Run) → UnderWay n t → IsBusy t
under_busy n None h = h
under_busy n (Some r) h = tt

acted_agrees : (a : Result Step Refusal) (t : Option Run) (am : Armed) (x : Begin) (buf : List ℕ) (y : Sample) (now : List ℕ) → Shaped 0 a t am → Agrees (next_live (note_step a y now) (live x buf)) t
acted_agrees (Ok (Waiting again)) t am x buf y now k = busy_agrees x buf t (under_busy (0 + armed_count am) t k)
acted_agrees (Ok (Done j)) t am x buf y now k = subst (Agrees no_transfer) (sym k) tt
acted_agrees (Err why) t am x buf y now k = rw k.0 (subst (Agrees no_transfer) (sym k.1) tt)

step_agrees : (b : Bool) (l : Live) (t : Option Run) (y : Sample) (buf m log : List ℕ) → Agrees l t → let o = step_of b t y buf m log in Agrees (next_live (note_step o.answer y buf) l) o.next
unfolding step_of
step_agrees b l t y buf m log h = at (lent_fits m log) l t h
  where
    at : (p : Bool) (l : Live) (t : Option Run) → Agrees l t → let o = step_lent p b t y buf m in Agrees (next_live (note_step o.answer y buf) l) o.next
    at false l t h = h
    at true l None h = h
    at true no_transfer (Some r) h = absurd h
    at true (live x bf) (Some r) h = by (may_step b r) (eqb (length buf) r.request.length)
      where
        by : (p q : Bool) → let o = step_if p q r y buf m in Agrees (next_live (note_step o.answer y buf) (live x bf)) o.next
        by false q = h
        by true false = h
        by true true = let o = acts r.request r.stage y buf m in acted_agrees o.answer o.next o.armed x bf y buf (acted 0 r.request r.stage y buf m (none_bound r.stage))

begun_agrees : (x : Begin) (buf m log : List ℕ) (l : Live) (t : Option Run) (why : Result (Unit {0}) Refusal) (o : Beginning) → o.answer ≡ Ok tt → IsBusy o.next → Agrees l t
    → let q = begin_or why t m o in Agrees (next_live (note (begin x buf m log) q.answer) l) q.next
begun_agrees x buf m log l t (Err why) o e k h = h
begun_agrees x buf m log l t (Ok tt) o e k h = subst (λ (a : Result (Unit {0}) Refusal). Agrees (next_live (note (begin x buf m log) a) l) o.next) (sym e) (busy_agrees x buf o.next k)

begin_agrees : (l : Live) (t : Option Run) (x : Begin) (buf m log : List ℕ) → Agrees l t
    → let q = beginning t x buf m log in Agrees (next_live (note (begin x buf m log) q.answer) l) q.next
unfolding begin_control_of begin_bulk_in_of begin_bulk_out_of
begin_agrees l t (control_begin a z p s ph) buf m log h = begun_agrees (control_begin a z p s ph) buf m log l t (control_refusal t a p m log) (begins_control a z p s ph (length buf) m) refl tt h
begin_agrees l t (bulk_begin In a ep p k b) buf m log h = begun_agrees (bulk_begin In a ep p k b) buf m log l t (bulk_refusal t a ep p buf m log) (begins_bulk_in (bulk_request In a ep p b (length buf)) k m) refl tt h
begin_agrees l t (bulk_begin Out a ep p k b) buf m log h = begun_agrees (bulk_begin Out a ep p k b) buf m log l t (bulk_refusal t a ep p buf m log) (begins_bulk_out (bulk_request Out a ep p b (length buf)) ep k buf m) refl tt h

cancel_agrees : (l : Live) (t : Option Run) → Agrees l t → let o = cancel_of t in Agrees (next_live (note cancel o.answer) l) o.next
unfolding cancel_of
cancel_agrees l None h = h
cancel_agrees l (Some r) h = by (either_serves r)
  where
    by : (b : Bool) → let o = cancel_if b (Some r) (toggle_in r.request.kind) (toggle_out r.request.kind (stage_parity r.stage)) in Agrees (next_live (note cancel o.answer) l) o.next
    by false = h
    by true = tt

pub call_agrees : (c : Call) (d : Driver) (l : Live) → Agrees l d.transfer → let o = call d c in Agrees (next_live (note c o.answer) l) o.next.transfer
unfolding call
call_agrees (begin x buf m log) d l h = begin_agrees l d.transfer x buf m log h
call_agrees (step b y buf m log) d l h = step_agrees b l d.transfer y buf m log h
call_agrees cancel d l h = cancel_agrees l d.transfer h
call_agrees (open_pipe a x e p k log) d l h = h
call_agrees (close_pipe k) d l h = h
call_agrees (poll_pipe k y m log) d l h = h
call_agrees (interrupt ints status log) d l h = h
call_agrees (detect sie log) d l h = h

-- ---- with nothing under way, none ends without a count

pub idle_breaks : (c : Call) (d : Driver) → d.transfer ≡ None → breaks (note c (call d c).answer) ≡ false
unfolding call step_of cancel_of
idle_breaks (begin y b m log) d e = by (beginning d.transfer y b m log).answer
  where
    by : (a : Result (Unit {0}) Refusal) → breaks (note (begin y b m log) a) ≡ false
    by (Ok tt) = refl
    by (Err why) = refl
idle_breaks (step v y b m log) d e = subst (λ (t : Option Run). breaks (note_step (step_of v t y b m log).answer y b) ≡ false) (sym e) (go (lent_fits m log))
  where
    go : (u : Bool) → breaks (note_step (step_lent u v None y b m).answer y b) ≡ false
    go true = refl
    go false = refl
idle_breaks cancel d e = subst (λ (t : Option Run). breaks (note cancel (cancel_of t).answer) ≡ false) (sym e) refl
idle_breaks (open_pipe a z e p k log) d q = refl
idle_breaks (close_pipe k) d e = refl
idle_breaks (poll_pipe k y m log) d e = refl
idle_breaks (interrupt ints status log) d e = refl
idle_breaks (detect sie log) d e = refl

none_idle : (t : Option Run) → Agrees no_transfer t → t ≡ None
none_idle None h = refl
none_idle (Some r) h = absurd h

-- The count that a record has where a call breaks a transfer.
abbrev pub count_if : Bool → ℕ → List Element
count_if false n = []
count_if true n = failed_entry n ∷ []

failure_is : (k : Note) (l : Live) (n : ℕ) → (breaks k ≡ true → l ≡ no_transfer → ⊥) → failure (fate k (under_way l)) n ≡ count_if (breaks k) n
failure_is (began x buf) l n h = refl
failure_is (stepped v y now) l n h = refl
failure_is (finished y now) no_transfer n h = refl
failure_is (finished y now) (live x buf) n h = refl
failure_is broke no_transfer n h = absurd (h refl refl)
failure_is broke (live x buf) n h = refl
failure_is nothing l n h = refl

pub call_failure : (c : Call) (d : Driver) (l : Live) (n : ℕ) → Agrees l d.transfer → let k = note c (call d c).answer in failure (fate k (under_way l)) n ≡ count_if (breaks k) n
call_failure c d l n h =
    failure_is (note c (call d c).answer) l n
    (λ b e. true≢false (sym b ∙ idle_breaks c d (none_idle d.transfer (subst (λ (v : Live). Agrees v d.transfer) e h))))

-- ---- the table

row : (p i a e s n : Bool) (t : Option Run) (m : List ℕ) (o : Beginning) → o.answer ≡ Ok tt
    → begin_reply (begin_or (begin_refusal p i (fields_refusal a e s n)) t m o).answer ≡ unless p 15 (unless i 8 (unless a 12 (unless e 11 (unless s 13 (unless n 14 (result tt))))))
row false i a e s n t m o q = refl
row true false a e s n t m o q = refl
row true true false e s n t m o q = refl
row true true true false s n t m o q = refl
row true true true true false n t m o q = refl
row true true true true true false t m o q = refl
row true true true true true true t m o q = ap begin_reply q

idle_free : (l : Live) (t : Option Run) → Agrees l t → is_idle t ≡ is_free l
idle_free no_transfer None h = refl
idle_free no_transfer (Some r) h = absurd h
idle_free (live x buf) None h = absurd h
idle_free (live x buf) (Some r) h = refl

begin_row : (l : Live) (t : Option Run) (x : Begin) (buf m log : List ℕ) → Agrees l t → begin_reply (beginning t x buf m log).answer ≡ row_of l x buf m log
unfolding begin_control_of begin_bulk_in_of begin_bulk_out_of
begin_row l t (control_begin a z p s ph) buf m log h =
    row (eqb (length m) 4096 && leb 192 (length log)) (is_idle t) (leb a 127) true (leb 1 p && leb p 64) true t m (begins_control a z p s ph (length buf) m) refl
    ∙ ap (λ (i : Bool). unless (eqb (length m) 4096 && leb 192 (length log)) 15 (unless i 8 (fields_row (control_begin a z p s ph) (length buf)))) (idle_free l t h)
begin_row l t (bulk_begin In a e p k b) buf m log h =
    row (eqb (length m) 4096 && leb 192 (length log)) (is_idle t) (leb a 127) (leb 1 e && leb e 15) (leb 1 p && leb p 64) (leb (length buf) 65535) t m (begins_bulk_in (bulk_request In a e p b (length buf)) k m) refl
    ∙ ap (λ (i : Bool). unless (eqb (length m) 4096 && leb 192 (length log)) 15 (unless i 8 (fields_row (bulk_begin In a e p k b) (length buf)))) (idle_free l t h)
begin_row l t (bulk_begin Out a e p k b) buf m log h =
    row (eqb (length m) 4096 && leb 192 (length log)) (is_idle t) (leb a 127) (leb 1 e && leb e 15) (leb 1 p && leb p 64) (leb (length buf) 65535) t m (begins_bulk_out (bulk_request Out a e p b (length buf)) e k buf m) refl
    ∙ ap (λ (i : Bool). unless (eqb (length m) 4096 && leb 192 (length log)) 15 (unless i 8 (fields_row (bulk_begin Out a e p k b) (length buf)))) (idle_free l t h)

call_row : (c : Call) (d : Driver) (l : Live) → Agrees l d.transfer → Row l c (call d c).answer
unfolding call
call_row (begin x buf m log) d l h = begin_row l d.transfer x buf m log h
call_row (step b y buf m log) d l h = tt
call_row cancel d l h = tt
call_row (open_pipe a x e p k log) d l h = tt
call_row (close_pipe k) d l h = tt
call_row (poll_pipe k y m log) d l h = tt
call_row (interrupt ints status log) d l h = tt
call_row (detect sie log) d l h = tt

table_from : (cs : List Call) (t : Told) (d : Driver) → Agrees t.live d.transfer → TableFrom t d cs
unfolding TableFrom
table_from [] t d h = tt
table_from (c ∷ cs) t d h =
    let o = call d c in
    (call_row c d t.live h, subst (λ (u : Told). TableFrom u o.next cs) (hears_is t (shown c o)) (table_from cs (after t (shown c o)) o.next (call_agrees c d t.live h)))

pub table : (rule : DeskRule) (f : File) (cs : List Call) → TableFrom (untold f) (fresh rule) cs
table rule f cs = table_from cs (untold f) (fresh rule) tt
