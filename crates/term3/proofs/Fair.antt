-- What every call does to the turns is what the dispatcher's events say of them. Assumes nothing.
use Rattle.std.specs.Prelude.{Err, Ok, Result}
use mathlib.Core.Path.{◌≡◌, refl, sym, ap, subst, ◌∙◌}
use mathlib.Core.Bool.{Bool, true, false, cond}
use mathlib.Core.List.{List}
use Prim.Native.Nat.{ℕ, ◌<◌}
use lib.Dec.{leb}
use Rattle.transfers.specs.Calls.{is_idle}
use Rattle.dispatcher.specs.declared.Dispatcher.{Dispatcher}
use Rattle.dispatcher.specs.Dispatcher.{pending_at, requested_at, quota_at, fits, passes, current, submits, observes, starts}
use Rattle.dispatcher.specs.Events.{Event, submitted, observed, started, ended, nothing, moved, idle_after, Allowed}
use Rattle.dispatcher.proofs.Rounds.{below}
use Rattle.dispatcher.proofs.Turning.{Good, look_good, move_good}
use Rattle.dispatcher.proofs.Passing.{current_ended, current_same}
use Rattle.host.specs.declared.controller.HostController.{HostController}
use Rattle.host.specs.Fields.{requested_of, fields_refused}
use Rattle.host.specs.Controller.{idle, dispatcher_now, fields_at, observed as looked_at, turn_of, with_driver}
use Rattle.host.specs.Submit.{submit_answer, submit_next, submit_of}
use Rattle.host.specs.Turn.{whose_turn_of}
use Rattle.host.specs.Start.{StartKind, Starting, start_of}
use Rattle.host.proofs.Begins.{Start, refused_start, taken_start, start_is}
use Rattle.record.specs.Calls.{Begin}
use Rattle.record.specs.Calls as D
use Rattle.record.specs.Shown.{note}
use Rattle.term3.specs.Calls.{is_begin, Call, submit, whose_turn, start, driver, Answer, fields_of, call}
use Rattle.term3.specs.Callers.{is_end}
use Rattle.term3.proofs.Ends.{ends_busy, idle_after_lem}
use Rattle.transfers.specs.declared.refusal.Refusal.{Refusal}

-- The event that a call and its answer tell.
abbrev pub event_of : (c : Call) → Answer c → Event
event_of (submit c x n f) (Ok tt) = submitted c (requested_of (fields_of x n)) f
event_of (submit c x n f) (Err why) = nothing
event_of (whose_turn f) a = observed f
event_of (start k f buf m log) (Ok c) = started c f
event_of (start k f buf m log) (Err why) = nothing
event_of (driver c b) a = cond (is_end (note c a)) ended nothing

pub record Fair (d e : HostController) (x : Event) : Type 0 where
  pub allowed : Allowed (idle d) (dispatcher_now d) x
  pub dispatcher : dispatcher_now e ≡ moved (idle d) (dispatcher_now d) x
  pub idles : idle e ≡ idle_after (idle d) x

pub good_next : (d e : HostController) (x : Event) → Fair d e x → Good (idle d) (dispatcher_now d) → Good (idle e) (dispatcher_now e)
good_next d e x f g =
    subst (λ (i : Bool). Good i (dispatcher_now e)) (sym f.idles)
    (subst (Good (idle_after (idle d) x)) (sym f.dispatcher) (move_good (idle d) (dispatcher_now d) x f.allowed g))

fair_nothing : (d : HostController) → Fair d d nothing
fair_nothing d = record { allowed = tt; dispatcher = refl; idles = refl }

submit_fair : (d : HostController) (c : ℕ) (x : Begin) (n f : ℕ) → Good (idle d) (dispatcher_now d) → let o = submit_of d c (fields_of x n) f in Fair d o.next (event_of (submit c x n f) o.answer)
unfolding submit_of
submit_fair d c x n f g = go (leb c 7) refl (pending_at d.dispatcher c) refl (leb (requested_of (fields_of x n)) (quota_at d.dispatcher c)) (fields_refused (fields_of x n))
  where
    go : (a : Bool) → leb c 7 ≡ a → (w : Bool) → pending_at d.dispatcher c ≡ w → (q : Bool) (r : Result (Unit {0}) Refusal)
        → Fair d (submit_next (submit_answer a w q r) d c (fields_of x n) f) (event_of (submit c x n f) (submit_answer a w q r))
    go false p w e q r = fair_nothing d
    go true p true e q r = fair_nothing d
    go true p false e false r = fair_nothing d
    go true p false e true (Err why) = fair_nothing d
    go true p false e true (Ok tt) =
        let u = dispatcher_now d in
        let b = requested_of (fields_of x n) in
        record {
          allowed = (below c p, e);
          dispatcher = current_same (idle d) (submits (idle d) u c b f) (move_good (idle d) u (submitted c b f) (below c p, e) g);
          idles = refl;
        }

look_fair : (d : HostController) (f : ℕ) → Good (idle d) (dispatcher_now d) → Fair d (whose_turn_of d f).next (observed f)
unfolding whose_turn_of
look_fair d f g = record { allowed = tt; dispatcher = current_same (idle d) (observes (idle d) (dispatcher_now d) f) (look_good (idle d) (dispatcher_now d) f g); idles = refl }

-- What is stored of the bytes that each caller that waits asks for is what it came with.
abbrev pub Asks : HostController → Type 0
Asks d = (c : ℕ) → c < 8 → pending_at d.dispatcher c ≡ true → requested_of (fields_at d c) ≡ requested_at d.dispatcher c

start_fair : (d : HostController) (k : StartKind) (f : ℕ) (buf m log : List ℕ) → Good (idle d) (dispatcher_now d) → Asks d → let o = start_of d k f buf m log in Fair d o.next (event_of (start k f buf m log) o.answer)
start_fair d k f buf m log g asks = go (start_is d k f buf m log)
  where
    u : Dispatcher
    u = observes (idle d) (dispatcher_now d) f

    go : Start d k f buf m log → let o = start_of d k f buf m log in Fair d o.next (event_of (start k f buf m log) o.answer)
    go (refused_start why e) = subst (λ (o : Starting). Fair d o.next (event_of (start k f buf m log) o.answer)) (sym e) (fair_nothing d)
    go (taken_start b) =
        let c = turn_of (looked_at d f) in
        let same = asks c b.small b.pending in
        let turn : u.turn ≡ c = sym (ap (λ (i : Bool). cond i u.turn 8) b.idles) in
        let small : u.turn < 8 = subst (λ (n : ℕ). n < 8) (sym turn) b.small in
        let fit = subst (λ (n : ℕ). fits u n ≡ true) turn ((look_good (idle d) (dispatcher_now d) f g).pre.held b.idles small) in
        subst (λ (o : Starting). Fair d o.next (event_of (start k f buf m log) o.answer)) (sym b.is)
        (record {
          allowed = (b.idles, b.small, refl, fit);
          dispatcher = ap (λ (i : Bool). current i (starts u c (requested_of (fields_at d c)))) b.taken.busy ∙ ap (starts u c) same;
          idles = b.taken.busy;
        })

driver_fair : (d : HostController) (c : D.Call) (b : is_begin c ≡ false) → Good (idle d) (dispatcher_now d) → let o = D.call d.driver c in Fair d (with_driver d o.next) (event_of (driver c b) o.answer)
driver_fair d c b g = go (is_end (note c o.answer)) refl
  where
    o : D.Effect c
    o = D.call d.driver c

    u : Dispatcher
    u = d.dispatcher

    afterwards : (v : Bool) → is_end (note c o.answer) ≡ v → is_idle o.next.transfer ≡ cond v true (idle d)
    afterwards v e = idle_after_lem c d.driver b ∙ ap (λ (z : Bool). cond z true (idle d)) e

    go : (v : Bool) → is_end (note c o.answer) ≡ v → Fair d (with_driver d o.next) (cond v ended nothing)
    go true e =
        let busy = ends_busy c d.driver b e in
        record {
          allowed = busy;
          dispatcher = ap (λ (i : Bool). current i u) (afterwards true e) ∙ current_ended u (subst (λ (i : Bool). Good i (current i u)) busy g) ∙ ap (λ (i : Bool). passes (current i u)) (sym busy);
          idles = afterwards true e;
        }
    go false e = record { allowed = tt; dispatcher = ap (λ (i : Bool). current i u) (afterwards false e); idles = afterwards false e }

-- ---- every call

pub fair : (d : HostController) (c : Call) → Good (idle d) (dispatcher_now d) → Asks d → let o = call d c in Fair d o.next (event_of c o.answer)
unfolding call
fair d (submit c x n f) g a = submit_fair d c x n f g
fair d (whose_turn f) g a = look_fair d f g
fair d (start k f buf m log) g a = start_fair d k f buf m log g a
fair d (driver c b) g a = driver_fair d c b g
