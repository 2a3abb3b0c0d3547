-- What the calls tell of the callers agrees with the state that they leave. Assumes nothing.
use Rattle.std.specs.Prelude.{Err, Ok, Result}
use mathlib.Core.Path.{◌≡◌, refl, sym, ap, subst, ◌∙◌}
use mathlib.Core.Bool.{Bool, true, false, cond, true≢false}
use mathlib.Core.List.{List}
use Prim.Native.Nat.{ℕ, ◌<◌}
use native.Mathlib.Omega.{arith}
use lib.ListN.{length, get_or, set, length-set}
use lib.Seq.{get_or-set_same, get_or-set_other}
use lib.Dec.{eqb, leb}
use borrow.Author.Tests.{eqb-true, eqb-false}
use Rattle.transfers.specs.declared.wire.Direction.TheVariants.{In, Out}
use Rattle.transfers.specs.declared.driver.Driver.{Driver}
use Rattle.dispatcher.specs.declared.Dispatcher.{Dispatcher}
use Rattle.dispatcher.specs.Dispatcher.{pending_at, requested_at, quota_at, observes}
use Rattle.dispatcher.specs.Dispatcher as T
use Rattle.dispatcher.specs.Events.{Event, submitted, observed, started, ended, nothing, moved, idle_after}
use Rattle.dispatcher.proofs.Rooms.{kept_frame, length_frame}
use Rattle.dispatcher.proofs.Turning.{Good, look_good, fresh_at, fresh_share, fresh_good}
use Rattle.dispatcher.proofs.Passing.{current_same}
use Rattle.host.specs.declared.fields.Fields.{Fields}
use Rattle.host.specs.declared.controller.HostController.{HostController}
use Rattle.host.specs.Fields.{no_fields, requested_of, fields_refused}
use Rattle.host.specs.Controller.{idle, dispatcher_now, fields_at, observed as looked_at, turn_of, with_driver}
use Rattle.host.specs.Submit.{submit_answer, submit_next, submit_of}
use Rattle.host.specs.Turn.{whose_turn_of}
use Rattle.host.specs.Start.{StartKind, Starting, starts_as, start_of}
use Rattle.host.proofs.Begins.{next_in, beginning_in, Start, refused_start, taken_start, start_is}
use Rattle.record.specs.Calls.{Begin, control_begin, bulk_begin}
use Rattle.record.specs.Calls as D
use Rattle.record.specs.Shown.{note}
use Rattle.term3.specs.Calls.{Call, submit, whose_turn, start, driver, fields_of, call}
use Rattle.term3.specs.Callers.{Coming, requested_by, Callers, no_callers, put, in_frame, joins, looks, ends, is_end, hears}
use Rattle.term3.specs.HostCalls.{Made, fresh_for}
use Rattle.term3.proofs.Fair.{event_of, Fair, good_next, Asks, fair}
use Rattle.term3.proofs.Same.{Same, same_finds, same_frame, same_joins, same_looks, put_false, same_runs, same_ends}
use Rattle.transfers.specs.declared.refusal.Refusal.{Refusal}

pub record Agrees (t : Callers) (d : HostController) : Type 0 where
  pub good : Good (idle d) (dispatcher_now d)
  pub same : Same t (idle d) (dispatcher_now d)
  pub submissions8 : length d.submissions ≡ 8
  pub came : (c : ℕ) → c < 8 → t.waits c ≡ true → fields_of (t.came c).fields (t.came c).length ≡ fields_at d c

-- ---- what each asks for

pub requested_same : (x : Begin) (n : ℕ) → requested_of (fields_of x n) ≡ requested_by x n
requested_same (control_begin a x p s ph) n = refl
requested_same (bulk_begin In a e p k b) n = refl
requested_same (bulk_begin Out a e p k b) n = refl

pub agrees_asks : (t : Callers) (d : HostController) → Agrees t d → Asks d
agrees_asks t d h c k w =
    let x = t.came c in
    let waits = h.same.waits c k ∙ w in
    ap requested_of (sym (h.came c k waits)) ∙ requested_same x.fields x.length ∙ h.same.asks c k waits

pub agrees_fair : (t : Callers) (d : HostController) (c : Call) → Agrees t d → let o = call d c in Fair d o.next (event_of c o.answer)
agrees_fair t d c h = fair d c h.good (agrees_asks t d h)

-- The dispatcher of the next state, by the event.
moves : (t : Callers) (d e : HostController) (x : Event) → Fair d e x → Same t (idle_after (idle d) x) (moved (idle d) (dispatcher_now d) x) → Same t (idle e) (dispatcher_now e)
moves t d e x f s = subst (λ (i : Bool). Same t i (dispatcher_now e)) (sym f.idles) (subst (Same t (idle_after (idle d) x)) (sym f.dispatcher) s)

-- ---- a coming

put_came : (t : Callers) (d : HostController) (c : ℕ) (x : Begin) (n e : ℕ) → c < length d.submissions → (t.waits e ≡ true → fields_of (t.came e).fields (t.came e).length ≡ fields_at d e) → put t.waits c true e ≡ true
    → let y = put t.came c (record { fields = x; length = n }) e in
    fields_of y.fields y.length ≡ get_or (set d.submissions c (fields_of x n)) e no_fields
put_came t d c x n e h q w = go (eqb e c) refl w
  where
    subs : List Fields
    subs = set d.submissions c (fields_of x n)

    go : (b : Bool) → eqb e c ≡ b → cond b true (t.waits e) ≡ true → let y : Coming = cond b (record { fields = x; length = n }) (t.came e) in
        fields_of y.fields y.length ≡ get_or subs e no_fields
    go true p v =
        sym (ap (λ (z : ℕ). get_or subs z no_fields) (eqb-true e c p) ∙ get_or-set_same d.submissions c (fields_of x n) no_fields h)
    go false p v = q v ∙ sym (get_or-set_other d.submissions c e (fields_of x n) no_fields (eqb-false e c p))

pub coming_same : (t : Callers) (i : Bool) (u : Dispatcher) (c : ℕ) (x : Begin) (n f : ℕ) → Good i u → Same t i u → c < 8
    → Same (hears t (submit c x n f) (Ok tt)) i (T.submits i u c (requested_of (fields_of x n)) f)
coming_same t i u c x n f g s h =
    let y : Coming = record { fields = x; length = n } in
    let p = g.pre in
    subst (λ (b : ℕ). Same (hears t (submit c x n f) (Ok tt)) i (T.submits i u c b f)) (sym (requested_same x n))
    (same_finds (joins (in_frame t f) c y) i (T.with_pending (T.in_frame u f) c (requested_by x n)) (same_joins (in_frame t f) i (T.in_frame u f) c y (same_frame t i u f s) h (length_frame (eqb f u.frame) u.callers ∙ p.callers8)) p.last8)

submit_agrees : (t : Callers) (d : HostController) (c : ℕ) (x : Begin) (n f : ℕ) → Agrees t d → let o = submit_of d c (fields_of x n) f in
    Fair d o.next (event_of (submit c x n f) o.answer) → Agrees (hears t (submit c x n f) o.answer) o.next
unfolding submit_of
submit_agrees t d c x n f h v = go (leb c 7) (pending_at d.dispatcher c) (leb (requested_of (fields_of x n)) (quota_at d.dispatcher c)) (fields_refused (fields_of x n)) v
  where
    go : (a w q : Bool) (r : Result (Unit {0}) Refusal) → let y = submit_answer a w q r in let e = submit_next y d c (fields_of x n) f in Fair d e (event_of (submit c x n f) y) → Agrees (hears t (submit c x n f) y) e
    go false w q r v = h
    go true true q r v = h
    go true false false r v = h
    go true false true (Err why) v = h
    go true false true (Ok tt) v =
        let e = submit_next (Ok tt) d c (fields_of x n) f in
        let b = requested_of (fields_of x n) in
        let small = v.allowed.0 in
        let s = h.submissions8 in
        record {
          good = good_next d e (submitted c b f) v h.good;
          same = moves (hears t (submit c x n f) (Ok tt)) d e (submitted c b f) v (coming_same t (idle d) (dispatcher_now d) c x n f h.good h.same small);
          submissions8 = length-set d.submissions c (fields_of x n) ∙ h.submissions8;
          came = λ z k w. put_came t d c x n z (omega (arith, s, small)) (h.came z k) w;
        }

-- ---- a look

look_agrees : (t : Callers) (d : HostController) (f : ℕ) → Agrees t d → Fair d (whose_turn_of d f).next (observed f) → Agrees (looks t f) (whose_turn_of d f).next
unfolding whose_turn_of
look_agrees t d f h v = record {
  good = good_next d (looked_at d f) (observed f) v h.good;
  same = moves (looks t f) d (looked_at d f) (observed f) v (same_looks t (idle d) (dispatcher_now d) f h.same h.good.pre.last8);
  submissions8 = h.submissions8;
  came = h.came;
}

-- ---- a start

start_agrees : (t : Callers) (d : HostController) (k : StartKind) (f : ℕ) (buf m log : List ℕ) → Agrees t d → let o = start_of d k f buf m log in
    Fair d o.next (event_of (start k f buf m log) o.answer) → Agrees (hears t (start k f buf m log) o.answer) o.next
start_agrees t d k f buf m log h v = go (start_is d k f buf m log) v
  where
    Goes : Starting → Type 0
    Goes o = Fair d o.next (event_of (start k f buf m log) o.answer) → Agrees (hears t (start k f buf m log) o.answer) o.next

    go : Start d k f buf m log → Goes (start_of d k f buf m log)
    go (refused_start why e) = subst Goes (sym e) (λ v. h)
    go (taken_start b) = subst Goes (sym b.is) λ v. (
        let c = turn_of (looked_at d f) in
        let e = (starts_as (looked_at d f) (next_in d f) (beginning_in d f buf m log)).next in
        let u = observes (idle d) (dispatcher_now d) f in
        let g = (look_good (idle d) (dispatcher_now d) f h.good).pre in
        record {
          good = good_next d e (started c f) v h.good;
          same = moves (hears t (start k f buf m log) (Ok c)) d e (started c f) v
              (subst (λ (n : ℕ). Same (hears t (start k f buf m log) (Ok c)) false (T.starts u c n)) (kept_frame (dispatcher_now d) f c).1
              (same_runs (looks t f) (idle d) u c (same_looks t (idle d) (dispatcher_now d) f h.same h.good.pre.last8) b.small g.callers8 v.allowed.3));
          submissions8 = h.submissions8;
          came = λ z q w. h.came z q (put_false t.waits c z w);
        })

-- ---- the driver's calls

driver_agrees : (t : Callers) (d : HostController) (e : Driver) (v : Bool) → Agrees t d → Fair d (with_driver d e) (cond v ended nothing) → Agrees (cond v (ends t) t) (with_driver d e)
driver_agrees t d e true h f = record {
  good = good_next d (with_driver d e) ended f h.good;
  same = moves (ends t) d (with_driver d e) ended f (same_ends t (idle d) (dispatcher_now d) h.same h.good.pre.last8);
  submissions8 = h.submissions8;
  came = h.came;
}
driver_agrees t d e false h f = record {
  good = good_next d (with_driver d e) nothing f h.good;
  same = moves t d (with_driver d e) nothing f h.same;
  submissions8 = h.submissions8;
  came = h.came;
}

-- ---- every call

pub agrees_next : (t : Callers) (d : HostController) (c : Call) → Agrees t d → let o = call d c in Agrees (hears t c o.answer) o.next
unfolding call
agrees_next t d (submit c x n f) h = submit_agrees t d c x n f h (agrees_fair t d (submit c x n f) h)
agrees_next t d (whose_turn f) h = look_agrees t d f h (agrees_fair t d (whose_turn f) h)
agrees_next t d (start k f buf m log) h = start_agrees t d k f buf m log h (agrees_fair t d (start k f buf m log) h)
agrees_next t d (driver c b) h = driver_agrees t d (D.call d.driver c).next (is_end (note c (D.call d.driver c).answer)) h (agrees_fair t d (driver c b) h)

-- ---- at first

fresh_same : (shares : List ℕ) → Same (no_callers shares) true (T.fresh shares)
fresh_same shares = record {
  busy = refl;
  waits = λ c h. sym (fresh_at shares c).0;
  asks = λ c h w. absurd (true≢false (sym w));
  last = refl;
  turn = refl;
  share = λ c h. sym (fresh_share shares c h);
  spent = λ c h. sym (fresh_at shares c).1;
  frame = refl;
}

pub fresh_agrees : (made : Made) → Agrees (no_callers made.shares) (fresh_for made)
fresh_agrees made =
    let same = current_same true (T.fresh made.shares) (fresh_good made.shares) in
    record {
      good = subst (Good true) (sym same) (fresh_good made.shares);
      same = subst (Same (no_callers made.shares) true) (sym same) (fresh_same made.shares);
      submissions8 = refl;
      came = λ c h w. absurd (true≢false (sym w));
    }
