-- "at most seven transfers of others end between a caller's coming and its turn", counted from when its remainder suffices. Assumes nothing.
use Rattle.std.specs.Prelude.{Err, None, Ok, Option, Some}
use mathlib.Core.Path.{◌≡◌, refl, sym, ap, ap₂, subst, ◌∙◌}
use mathlib.Core.Bool.{Bool, true, false, cond, not, ◌&&◌}
use mathlib.Core.List.{List, [], ◌∷◌}
use Prim.Native.Nat.{ℕ, ◌+◌, ◌≤◌, ◌<◌}
use native.Mathlib.Omega.{arith}
use lib.Dec.{eqb, leb}
use borrow.Author.Tests.{leb-false, ne_eqb}
use Rattle.dispatcher.specs.declared.Dispatcher.{Dispatcher}
use Rattle.dispatcher.specs.Dispatcher as T
use Rattle.dispatcher.specs.Events.{Event, ended, nothing, moved, idle_after, AllAllowed, runner, ends_other}
use Rattle.dispatcher.specs.Events as E
use Rattle.dispatcher.proofs.Bound.{left, left_seven, bound}
use Rattle.host.specs.declared.controller.HostController.{HostController}
use Rattle.host.specs.Controller.{idle, dispatcher_now}
use Rattle.record.specs.Shown.{note}
use Rattle.term3.specs.Calls.{Call, submit, whose_turn, start, driver, Answer, call}
use Rattle.term3.specs.Callers.{Callers, fits, ends, whose, is_end, ends_by, hears}
use Rattle.term3.specs.Turns.{answer_for, is_turn, others_end}
use Rattle.term3.proofs.Fair.{event_of}
use Rattle.term3.proofs.Same.{same_fits}
use Rattle.term3.proofs.Agreeing.{Agrees, agrees_fair, agrees_next}
use Rattle.term3.proofs.Looking.{look_now}

unfoldable events_from : HostController → List Call → List Event
events_from d [] = []
events_from d (c ∷ cs) = let o = call d c in event_of c o.answer ∷ events_from o.next cs

all_allowed : (cs : List Call) (t : Callers) (d : HostController) → Agrees t d → AllAllowed (idle d) (dispatcher_now d) (events_from d cs)
unfolding events_from
all_allowed [] t d h = tt
all_allowed (c ∷ cs) t d h =
    let o = call d c in
    let x = event_of c o.answer in
    let f = agrees_fair t d c h in (
      f.allowed,
      subst (λ (i : Bool). AllAllowed i (moved (idle d) (dispatcher_now d) x) (events_from o.next cs)) f.idles
          (subst (λ (u : Dispatcher). AllAllowed (idle o.next) u (events_from o.next cs)) f.dispatcher (all_allowed cs (hears t c o.answer) o.next (agrees_next t d c h))),
    )

-- It is c's turn, by a look and by the dispatcher.
turn_is : (n c : ℕ) → c < 8 → is_turn (answer_for n) c ≡ eqb n c
turn_is n c h = go (leb n 7) refl
  where
    go : (b : Bool) → leb n 7 ≡ b → is_turn (cond b (Some n) None) c ≡ eqb n c
    go true e = refl
    go false e = let k = leb-false n 7 e in sym (ne_eqb n c (λ q. apart n c q k h))
      where
        apart : (a b : ℕ) → a ≡ b → 7 < a → b < 8 → ⊥
        apart a b q k h = omega arith

-- A transfer of another's ends.
end_is : (c r : ℕ) (x : Call) (a : Answer x) → cond (ends_by x a && not (eqb r c)) 1 0 ≡ ends_other c r (event_of x a)
end_is c r (submit z y n f) (Ok tt) = refl
end_is c r (submit z y n f) (Err why) = refl
end_is c r (whose_turn f) a = refl
end_is c r (start k f buf m log) (Ok z) = refl
end_is c r (start k f buf m log) (Err why) = refl
end_is c r (driver z b) a = go (is_end (note z a)) (eqb r c) refl
  where
    go : (v w : Bool) → eqb r c ≡ w → cond (v && not (eqb r c)) 1 0 ≡ ends_other c r (cond v ended nothing)
    go true true e = rw e refl
    go true false e = rw e refl
    go false w e = refl

last_is : (t : Callers) (x : Call) (a : Answer x) → runner t.last (event_of x a) ≡ (hears t x a).last
last_is t (submit z y n f) (Ok tt) = refl
last_is t (submit z y n f) (Err why) = refl
last_is t (whose_turn f) a = refl
last_is t (start k f buf m log) (Ok z) = refl
last_is t (start k f buf m log) (Err why) = refl
last_is t (driver z b) a = go (is_end (note z a))
  where
    go : (v : Bool) → runner t.last (cond v ended nothing) ≡ (let u : Callers = cond v (ends t) t in u).last
    go true = refl
    go false = refl

-- Whose turn it is, told and held.
now_is : (t : Callers) (d : HostController) → Agrees t d → whose t ≡ T.whose (idle d) (dispatcher_now d)
now_is t d h = ap₂ (λ (b : Bool) (c : ℕ). cond b 8 c) h.same.busy h.same.turn ∙ go (idle d)
  where
    go : (i : Bool) → cond (not i) 8 (dispatcher_now d).turn ≡ cond i (dispatcher_now d).turn 8
    go true = refl
    go false = refl

others_is : (cs : List Call) (t : Callers) (d : HostController) (c : ℕ) → c < 8 → Agrees t d → others_end c t d cs ≡ E.others_end c t.last (idle d) (dispatcher_now d) (events_from d cs)
unfolding others_end E.others_end events_from
others_is [] t d c k h = refl
others_is (x ∷ xs) t d c k h =
    let o = call d x in
    let e = o.next in
    let z = event_of x o.answer in
    let f = agrees_fair t d x h in
    let rest = others_is xs (hears t x o.answer) e c k (agrees_next t d x h) in
    ap (λ (b : Bool). cond b 0 (cond (ends_by x o.answer && not (eqb t.last c)) 1 0 + others_end c (hears t x o.answer) e xs))
    (ap (λ (a : Option ℕ). is_turn a c) (look_now t d h ∙ ap answer_for (now_is t d h)) ∙ turn_is (T.whose (idle d) (dispatcher_now d)) c k)
    ∙ ap₂ (λ (n m : ℕ). cond (eqb (T.whose (idle d) (dispatcher_now d)) c) 0 (n + m)) (end_is c t.last x o.answer)
    (rest
    ∙ ap (λ (r : ℕ). E.others_end c r (idle e) (dispatcher_now e) (events_from e xs)) (sym (last_is t x o.answer))
    ∙ ap (λ (i : Bool). E.others_end c (runner t.last z) i (dispatcher_now e) (events_from e xs)) f.idles
    ∙ ap (λ (u : Dispatcher). E.others_end c (runner t.last z) (idle_after (idle d) z) u (events_from e xs)) f.dispatcher)

-- From a moment at which c waits and its remainder is large enough.
pub seven : (t : Callers) (d : HostController) (c : ℕ) (cs : List Call) → Agrees t d → c < 8 → fits t c ≡ true → others_end c t d cs ≤ 7
seven t d c cs h k w =
    small (others_end c t d cs) (E.others_end c t.last (idle d) (dispatcher_now d) (events_from d cs)) (left (idle d) (dispatcher_now d) c) (others_is cs t d c k h)
    (bound (events_from d cs) (idle d) (dispatcher_now d) c t.last h.good (all_allowed cs t d h) k (sym (same_fits t (idle d) (dispatcher_now d) h.same c k) ∙ w) (λ i. h.same.last))
    (left_seven (idle d) (dispatcher_now d) c)
  where
    small : (a b n : ℕ) → a ≡ b → b ≤ n → n ≤ 7 → a ≤ 7
    small a b n e p q = omega arith
