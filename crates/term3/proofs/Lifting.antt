-- A list of the driver's calls none of whose begins and steps is refused is what some list of calls here makes: one caller comes and starts in each begin's place, each time in
-- a new frame. Assumes nothing.
use Rattle.std.specs.Prelude.{Err, Ok, Option, Result, Some}
use mathlib.Core.Path.{◌≡◌, refl, sym, ap, ap₂, subst, ◌∙◌}
use mathlib.Core.Bool.{Bool, true, false, cond, not, ◌&&◌, ◌||◌, true≢false}
use mathlib.Core.List.{List, [], ◌∷◌, ◌++◌}
use Prim.Native.Nat.{ℕ, zero, suc, ◌+◌, ◌≤◌, ◌<◌}
use native.Mathlib.Omega.{arith}
use lib.ListN.{length}
use lib.Dec.{eqb, leb}
use borrow.Author.Tests.{leb-true, le-leb, eqb-true, eqb-false, eq-eqb, ne_eqb}
use Rattle.transfers.specs.declared.wire.Direction.TheVariants.{In, Out}
use Rattle.transfers.specs.declared.driver.Driver.{Driver}
use Rattle.transfers.specs.Reply.{Reply, result}
use Rattle.transfers.specs.Rows.{unless}
use Rattle.transfers.specs.Memory.{lent_fits}
use Rattle.transfers.specs.State.{address_good, endpoint_good, size_good}
use Rattle.transfers.specs.Calls.{is_idle, fields_refusal, Beginning, begin_refusal, begin_or, begins_control, bulk_request, begins_bulk_in, begins_bulk_out, begin_control_of, begin_bulk_in_of, begin_bulk_out_of}
use Rattle.dispatcher.specs.Dispatcher.{pending_at, quota_at}
use Rattle.host.specs.declared.controller.HostController.{HostController}
use Rattle.host.specs.Fields.{requested_of, fields_refused}
use Rattle.host.specs.Reply.{start_reply}
use Rattle.host.specs.Submit.{submit_answer, submit_of}
use Rattle.host.specs.Start.{StartKind, control, bulk_in, bulk_out}
use Rattle.record.specs.Calls.{Begin, control_begin, bulk_begin, begin, step, cancel, open_pipe, close_pipe, poll_pipe, interrupt, detect, beginning}
use Rattle.record.specs.Calls as D
use Rattle.record.specs.Asked as Asked
use Rattle.record.specs.Premises as Premises
use Rattle.record.specs.Shown.{note}
use Rattle.record.specs.Table.{fields_row}
use Rattle.term3.specs.Calls.{is_begin, Call, submit, start, driver, fields_of, call}
use Rattle.term3.specs.Callers.{Coming, requested_by, requested, Callers, any_waits, put, whose, comes, looks, starts, ends, is_end, hears}
use Rattle.term3.specs.Table.{is_result, of_kind, Row}
use Rattle.term3.specs.HostCalls.{AllTyped, Unrefused, UnrefusedFrom}
use Rattle.term3.specs.Turns.{looked, answer_for}
use Rattle.term3.proofs.Agreeing.{Agrees, requested_same, agrees_next}
use Rattle.term3.proofs.Table.{row_told}
use Rattle.term3.proofs.Looking.{look_is, somebody, first_look}
use Rattle.term3.proofs.Shadow.{shadow_of, shadow, start_begins, submit_driver}
use Rattle.transfers.specs.declared.refusal.Refusal.{Refusal}
use Rattle.host.specs.declared.answers.SubmitRefusal.{SubmitRefusal}
use Rattle.transfers.specs.declared.driver.Run.{Run}

-- ---- the calls

abbrev kind_of : Begin → StartKind
kind_of (control_begin a x p s ph) = control
kind_of (bulk_begin In a e p k b) = bulk_in
kind_of (bulk_begin Out a e p k b) = bulk_out

-- A frame number other than s.
abbrev other : ℕ → ℕ
other s = cond (eqb s 0) 1 0

-- By caller u, from frame number s on.
abbrev pub lift : ℕ → ℕ → List D.Call → List Call
lift u s [] = []
lift u s (begin x buf m log ∷ ds) = submit u x (length buf) (other s) ∷ start (kind_of x) (other s) buf m log ∷ lift u (other s) ds
lift u s (step b y buf m log ∷ ds) = driver (step b y buf m log) refl ∷ lift u s ds
lift u s (cancel ∷ ds) = driver cancel refl ∷ lift u s ds
lift u s (open_pipe a x e p i log ∷ ds) = driver (open_pipe a x e p i log) refl ∷ lift u s ds
lift u s (close_pipe n ∷ ds) = driver (close_pipe n) refl ∷ lift u s ds
lift u s (poll_pipe n y m log ∷ ds) = driver (poll_pipe n y m log) refl ∷ lift u s ds
lift u s (interrupt ints status log ∷ ds) = driver (interrupt ints status log) refl ∷ lift u s ds
lift u s (detect sie log ∷ ds) = driver (detect sie log) refl ∷ lift u s ds

pub lift_typed : (ds : List D.Call) (u s : ℕ) → Asked.AllTyped ds → AllTyped (lift u s ds)
lift_typed [] u s h = tt
lift_typed (begin x buf m log ∷ ds) u s h = (h.0.0, ((h.0.1, h.0.2, h.0.3), lift_typed ds u (other s) h.1))
lift_typed (step b y buf m log ∷ ds) u s h = (h.0, lift_typed ds u s h.1)
lift_typed (cancel ∷ ds) u s h = (h.0, lift_typed ds u s h.1)
lift_typed (open_pipe a x e p i log ∷ ds) u s h = (h.0, lift_typed ds u s h.1)
lift_typed (close_pipe n ∷ ds) u s h = (h.0, lift_typed ds u s h.1)
lift_typed (poll_pipe n y m log ∷ ds) u s h = (h.0, lift_typed ds u s h.1)
lift_typed (interrupt ints status log ∷ ds) u s h = (h.0, lift_typed ds u s h.1)
lift_typed (detect sie log ∷ ds) u s h = (h.0, lift_typed ds u s h.1)

-- ---- a begin that the driver takes passes every test

is_accepted : (x : Begin) (buf m log : List ℕ) (a : Result (Unit {0}) Refusal) → Premises.Unrefused (begin x buf m log) a → a ≡ Ok tt
is_accepted x buf m log (Ok tt) h = refl
is_accepted x buf m log (Err why) h = absurd h

abbrev is_begun : Result (Unit {0}) Refusal → Bool
is_begun (Ok tt) = true
is_begun (Err why) = false

or_tests : (p i : Bool) (r : Result (Unit {0}) Refusal) (t : Option Run) (m : List ℕ) (o : Beginning) → (begin_or (begin_refusal p i r) t m o).answer ≡ Ok tt → (p ≡ true) × (i ≡ true) × (r ≡ Ok tt)
or_tests false i r t m o e = absurd (true≢false (sym (ap is_begun e)))
or_tests true false r t m o e = absurd (true≢false (sym (ap is_begun e)))
or_tests true true (Err why) t m o e = absurd (true≢false (sym (ap is_begun e)))
or_tests true true (Ok tt) t m o e = (refl, refl, refl)

begun_tests : (t : Option Run) (x : Begin) (buf m log : List ℕ) → (beginning t x buf m log).answer ≡ Ok tt → (lent_fits m log ≡ true) × (is_idle t ≡ true) × (fields_refused (fields_of x (length buf)) ≡ Ok tt)
unfolding begin_control_of begin_bulk_in_of begin_bulk_out_of
begun_tests t (control_begin a x p s ph) buf m log e =
    or_tests (lent_fits m log) (is_idle t) (fields_refused (fields_of (control_begin a x p s ph) (length buf))) t m (begins_control a x p s ph (length buf) m) e
begun_tests t (bulk_begin In a e p k b) buf m log q =
    or_tests (lent_fits m log) (is_idle t) (fields_refused (fields_of (bulk_begin In a e p k b) (length buf))) t m (begins_bulk_in (bulk_request In a e p b (length buf)) k m) q
begun_tests t (bulk_begin Out a e p k b) buf m log q =
    or_tests (lent_fits m log) (is_idle t) (fields_refused (fields_of (bulk_begin Out a e p k b) (length buf))) t m (begins_bulk_out (bulk_request Out a e p b (length buf)) e k buf m) q

bulk_small : (a e p : Bool) (n : ℕ) → fields_refusal a e p (leb n 0xFFFF) ≡ Ok tt → n ≤ 65535
bulk_small a e p n q = go a e p (leb n 0xFFFF) refl q
  where
    refused : (o : Result (Unit {0}) Refusal) → Bool
    refused (Err why) = true
    refused (Ok tt) = false

    go : (a e p b : Bool) → leb n 0xFFFF ≡ b → fields_refusal a e p b ≡ Ok tt → n ≤ 65535
    go false e p b k r = absurd (true≢false (ap refused r))
    go true false p b k r = absurd (true≢false (ap refused r))
    go true true false b k r = absurd (true≢false (ap refused r))
    go true true true false k r = absurd (true≢false (ap refused r))
    go true true true true k r = leb-true n 0xFFFF k

-- It asks for at most 65,535 bytes.
requested_small : (x : Begin) (n : ℕ) → Asked.TypedBegin x → fields_refused (fields_of x n) ≡ Ok tt → requested_by x n ≤ 65535
requested_small (control_begin a x p s ph) n ty e = let w = ty.2.4 in omega (arith, w)
requested_small (bulk_begin In a e p k b) n ty q = bulk_small (address_good a) (endpoint_good e) (size_good p) n q
requested_small (bulk_begin Out a e p k b) n ty q = bulk_small (address_good a) (endpoint_good e) (size_good p) n q

-- ---- one caller comes and starts

-- Nobody waits.
abbrev pub NoneWaits : Callers → Type 0
NoneWaits t = (c : ℕ) → c < 8 → t.waits c ≡ false

of_kind_lem : (x : Begin) → of_kind (kind_of x) x ≡ true
of_kind_lem (control_begin a x p s ph) = refl
of_kind_lem (bulk_begin In a e p k b) = refl
of_kind_lem (bulk_begin Out a e p k b) = refl

-- A new frame has other's number, in which nothing is spent.
other_not : (s : ℕ) → eqb (other s) s ≡ false
other_not s = go (eqb s 0) refl
  where
    one_not : (n : ℕ) → n ≡ 0 → (1 ≡ n) → ⊥
    one_not n e q = omega arith

    go : (b : Bool) → eqb s 0 ≡ b → eqb (cond b 1 0) s ≡ false
    go true e = ne_eqb 1 s (one_not s (eqb-true s 0 e))
    go false e = ne_eqb 0 s (λ q. eqb-false s 0 e (sym q))

submit_taken : (t : Callers) (d : HostController) (u : ℕ) (x : Begin) (n f : ℕ) → Agrees t d → NoneWaits t → u < 8 → requested_by x n ≤ t.share u → fields_refused (fields_of x n) ≡ Ok tt
    → (call d (submit u x n f)).answer ≡ Ok tt
unfolding call submit_of
submit_taken t d u x n f h w k q e =
    let within : leb (requested_of (fields_of x n)) (quota_at d.dispatcher u) ≡ true = ap₂ leb (requested_same x n) (sym (h.same.share u k)) ∙ le-leb (requested_by x n) (t.share u) q in
    ap (λ (b : Bool). submit_answer b (pending_at d.dispatcher u) (leb (requested_of (fields_of x n)) (quota_at d.dispatcher u)) (fields_refused (fields_of x n))) (le-leb u 7 (omega (arith, k)))
    ∙ ap₂ (λ (b v : Bool). submit_answer true b v (fields_refused (fields_of x n))) (sym (h.same.waits u k) ∙ w u k) within
    ∙ ap (submit_answer true false true) e

-- What the row of that coming says of the fields.
rows_end : (a b c : Bool) (r : Reply (Unit {0})) → a ≡ true → b ≡ true → c ≡ true → unless a 32 (unless b 33 (unless c 34 r)) ≡ r
rows_end a b c r p q v = ap (λ (z : Bool). unless z 32 (unless b 33 (unless c 34 r))) p ∙ ap (λ (z : Bool). unless z 33 (unless c 34 r)) q ∙ ap (λ (z : Bool). unless z 34 r) v

fields_taken : (t : Callers) (d : HostController) (u : ℕ) (x : Begin) (n f : ℕ) → Agrees t d → NoneWaits t → u < 8 → requested_by x n ≤ t.share u → (call d (submit u x n f)).answer ≡ Ok tt → fields_row x n ≡ result tt
fields_taken t d u x n f h w k q e =
    sym (rows_end (leb u 7) (not (t.waits u)) (leb (requested_by x n) (t.share u)) (fields_row x n) (le-leb u 7 (omega (arith, k))) (ap not (w u k)) (le-leb (requested_by x n) (t.share u) q))
    ∙ sym (subst (λ (a : Result (Unit {0}) SubmitRefusal). Row t (submit u x n f) a) e (row_told t d (submit u x n f) h))

started_by : (u : ℕ) (a : Result ℕ Refusal) → start_reply a ≡ result u → a ≡ Ok u
started_by u (Ok c) e = ap Ok (let z : c ≡ u = cc in z)
started_by u (Err why) e = absurd (let z : ◌≡◌ {A = ℕ} 0 1 = cc in omega arith)

none_any : (n : ℕ) (w : ℕ → Bool) → ((e : ℕ) → e < n → w e ≡ false) → any_waits w n ≡ false
none_any zero w h = refl
none_any (suc n) w h = ap (λ (b : Bool). b || any_waits w n) (h n (omega arith)) ∙ none_any n w (λ e k. h e (omega arith))

-- Then it is its turn, by a look in that frame,
turn_taken : (t : Callers) (d : HostController) (u : ℕ) (x : Begin) (n : ℕ) → Agrees t d → NoneWaits t → u < 8 → t.under_way ≡ false → requested_by x n ≤ t.share u → let f = other t.frame in
    (call d (submit u x n f)).answer ≡ Ok tt → looked (call d (submit u x n f)).next f ≡ Some u
turn_taken t d u x n h w k i q e =
    let f = other t.frame in
    let y : Coming = record { fields = x; length = n } in
    first_look t d u x n f h i (none_any 8 t.waits w) e
    (ap (λ (b : Bool). leb (cond b (t.spent u) 0 + requested y) (t.share u)) (other_not t.frame) ∙ le-leb (0 + requested y) (t.share u) (let z : 0 + requested_by x n ≤ t.share u = omega (arith, q) in z))

turn_number : (n u : ℕ) → answer_for n ≡ Some u → n ≡ u
turn_number n u e = (somebody n u e).1

-- and a start takes it.
start_taken : (t : Callers) (d : HostController) (u : ℕ) (x : Begin) (f : ℕ) (buf m log : List ℕ) → let v = comes t u (record { fields = x; length = length buf }) f in
    Agrees v d → looked d f ≡ Some u → u < 8 → lent_fits m log ≡ true → fields_row x (length buf) ≡ result tt → (call d (start (kind_of x) f buf m log)).answer ≡ Ok u
start_taken t d u x f buf m log h e k l r =
    let v = comes t u (record { fields = x; length = length buf }) f in
    started_by u (call d (start (kind_of x) f buf m log)).answer (row_told v d (start (kind_of x) f buf m log) h ∙ ap row_at (turn_number (whose (looks v f)) u (sym (look_is v d f h) ∙ e)) ∙ its_row)
  where
    row_at : ℕ → Reply ℕ
    row_at c =
        let y = put t.came u (record { fields = x; length = length buf }) c in
        unless (lent_fits m log) 15 (unless (leb c 7 && (of_kind (kind_of x) y.fields && is_result (fields_row y.fields y.length))) 16 (unless (eqb (length buf) y.length) 15 (result c)))

    its_row : row_at u ≡ result u
    its_row = rw (l, eq-eqb u u refl, le-leb u 7 (omega (arith, k)), of_kind_lem x, r, eq-eqb (length buf) (length buf) refl) refl

-- ---- every list

put_none : (w : ℕ → Bool) (u e : ℕ) → w e ≡ false → put (put w u true) u false e ≡ false
put_none w u e h = go (eqb e u)
  where
    go : (b : Bool) → cond b false (cond b true (w e)) ≡ false
    go true = refl
    go false = h

none_driver : (t : Callers) (v : Bool) → NoneWaits t → NoneWaits (cond v (ends t) t)
none_driver t true w = w
none_driver t false w = w

-- The share and the frame number stay with the driver's calls.
share_driver : (t : Callers) (v : Bool) (u : ℕ) → 65535 ≤ t.share u → let z : Callers = cond v (ends t) t in 65535 ≤ z.share u
share_driver t true u h = h
share_driver t false u h = h

frame_driver : (t : Callers) (v : Bool) → (let z : Callers = cond v (ends t) t in z).frame ≡ t.frame
frame_driver t true = refl
frame_driver t false = refl

-- A list of calls makes these of the driver's, and none of it is refused.
pub record Lifts (t : Callers) (d : HostController) (cs : List Call) (ds : List D.Call) : Type 0 where
  pub shadows : shadow t d cs ≡ ds
  pub unrefused : UnrefusedFrom d cs

-- What a caller u needs for that, of a moment: its share, that nobody waits, and that the calls to come are of the program's types and not refused.
record Able (u : ℕ) (t : Callers) (d : HostController) (ds : List D.Call) : Type 0 where
  agrees : Agrees t d
  none : NoneWaits t
  reaches : 65535 ≤ t.share u
  typed : Asked.AllTyped ds
  unrefused : Premises.UnrefusedFrom d.driver ds

driver_lifts : (u : ℕ) (t : Callers) (d : HostController) (c : D.Call) (b : is_begin c ≡ false) (ds : List D.Call) → Able u t d (c ∷ ds)
    → ((t' : Callers) (d' : HostController) → Able u t' d' ds → Lifts t' d' (lift u t'.frame ds) ds) → Lifts t d (driver c b ∷ lift u t.frame ds) (c ∷ ds)
unfolding shadow UnrefusedFrom call Premises.UnrefusedFrom
driver_lifts u t d c b ds a rest =
    let o = call d (driver c b) in
    let v = is_end (note c o.answer) in
    let t₁ = hears t (driver c b) o.answer in
    let k = rest t₁ o.next (record {
      agrees = agrees_next t d (driver c b) a.agrees;
      none = none_driver t v a.none;
      reaches = share_driver t v u a.reaches;
      typed = a.typed.1;
      unrefused = a.unrefused.1;
    }) in
    let same = subst (λ (s : ℕ). Lifts t₁ o.next (lift u s ds) ds) (frame_driver t v) k in
    record { shadows = ap (λ (l : List D.Call). c ∷ l) same.shadows; unrefused = (a.unrefused.0, same.unrefused) }

begin_lifts : (t : Callers) (d : HostController) (u : ℕ) (x : Begin) (n f : ℕ) (k : StartKind) (buf m log : List ℕ) (cs : List Call) (ds : List D.Call) → let d₁ = (call d (submit u x n f)).next in let d₂ = (call d₁ (start k f buf m log)).next in
    let t₁ = comes t u (record { fields = x; length = n }) f in
    (call d (submit u x n f)).answer ≡ Ok tt → (call d₁ (start k f buf m log)).answer ≡ Ok u → (t₁.came u).fields ≡ x → Lifts (starts t₁ u f) d₂ cs ds
    → Lifts t d (submit u x n f ∷ start k f buf m log ∷ cs) (begin x buf m log ∷ ds)
unfolding shadow UnrefusedFrom
begin_lifts t d u x n f k buf m log cs ds e₀ e₁ q r =
    let d₁ = (call d (submit u x n f)).next in
    let d₂ = (call d₁ (start k f buf m log)).next in
    let t₁ = comes t u (record { fields = x; length = n }) f in
    record {
      shadows = subst (λ (a : Result (Unit {0}) SubmitRefusal). let v = hears t (submit u x n f) a in let b = (call d₁ (start k f buf m log)).answer in
          shadow_of v (start k f buf m log) b ++ shadow (hears v (start k f buf m log) b) d₂ cs ≡ begin x buf m log ∷ ds) (sym e₀)
          (subst (λ (b : Result ℕ Refusal). shadow_of t₁ (start k f buf m log) b ++ shadow (hears t₁ (start k f buf m log) b) d₂ cs ≡ begin x buf m log ∷ ds) (sym e₁)
          (ap₂ (λ (y : Begin) (l : List D.Call). begin y buf m log ∷ l) q r.shadows));
      unrefused = (subst (Unrefused (submit u x n f)) (sym e₀) tt, (subst (Unrefused (start k f buf m log)) (sym e₁) tt, r.unrefused));
    }

-- What u came with last, it came with.
came_last : (f : ℕ → Coming) (u : ℕ) (x : Coming) → (put f u x u).fields ≡ x.fields
came_last f u x = ap (λ (b : Bool). (let y : Coming = cond b x (f u) in y).fields) (eq-eqb u u refl)

lifts_from : (ds : List D.Call) (u : ℕ) → u < 8 → (t : Callers) (d : HostController) → Able u t d ds → Lifts t d (lift u t.frame ds) ds
unfolding shadow UnrefusedFrom call D.call Premises.UnrefusedFrom
lifts_from [] u z t d a = record { shadows = refl; unrefused = tt }
lifts_from (begin x buf m log ∷ ds) u z t d a =
    let n = length buf in
    let k = kind_of x in
    let f = other t.frame in
    let h = a.agrees in
    let w = a.none in
    let big = a.reaches in
    let q = begun_tests d.driver.transfer x buf m log (is_accepted x buf m log (beginning d.driver.transfer x buf m log).answer a.unrefused.0) in
    let few = requested_small x n a.typed.0.0 q.2 in
    let within : requested_by x n ≤ t.share u = omega (arith, few, big) in
    let i = h.same.busy ∙ ap not q.1 in
    let e₀ = submit_taken t d u x n f h w z within q.2 in
    let d₁ = (call d (submit u x n f)).next in
    let t₁ = comes t u (record { fields = x; length = n }) f in
    let h₁ : Agrees t₁ d₁ = subst (λ (b : Result (Unit {0}) SubmitRefusal). Agrees (hears t (submit u x n f) b) d₁) e₀ (agrees_next t d (submit u x n f) h) in
    let e₁ = start_taken t d₁ u x f buf m log h₁ (turn_taken t d u x n h w z i within e₀) z q.0 (fields_taken t d u x n f h w z within e₀) in
    let d₂ = (call d₁ (start k f buf m log)).next in
    let h₂ : Agrees (starts t₁ u f) d₂ = subst (λ (b : Result ℕ Refusal). Agrees (hears t₁ (start k f buf m log) b) d₂) e₁ (agrees_next t₁ d₁ (start k f buf m log) h₁) in
    let its = came_last t.came u (record { fields = x; length = n }) in
    let next = (start_begins t₁ d₁ h₁ k f buf m log u e₁).1 ∙ ap (λ (y : Begin). (D.call d₁.driver (begin y buf m log)).next) its
    ∙ ap (λ (e : Driver). (D.call e (begin x buf m log)).next) (submit_driver d u (fields_of x n) f) in
    begin_lifts t d u x n f k buf m log (lift u f ds) ds e₀ e₁ its
    (lifts_from ds u z (starts t₁ u f) d₂ (record {
      agrees = h₂;
      none = λ c y. put_none t.waits u c (w c y);
      reaches = big;
      typed = a.typed.1;
      unrefused = subst (λ (e : Driver). Premises.UnrefusedFrom e ds) (sym next) a.unrefused.1;
    }))
lifts_from (step b y buf m log ∷ ds) u z t d able = driver_lifts u t d (step b y buf m log) refl ds able (lifts_from ds u z)
lifts_from (cancel ∷ ds) u z t d able = driver_lifts u t d cancel refl ds able (lifts_from ds u z)
lifts_from (open_pipe a x e p i log ∷ ds) u z t d able = driver_lifts u t d (open_pipe a x e p i log) refl ds able (lifts_from ds u z)
lifts_from (close_pipe n ∷ ds) u z t d able = driver_lifts u t d (close_pipe n) refl ds able (lifts_from ds u z)
lifts_from (poll_pipe n y m log ∷ ds) u z t d able = driver_lifts u t d (poll_pipe n y m log) refl ds able (lifts_from ds u z)
lifts_from (interrupt ints status log ∷ ds) u z t d able = driver_lifts u t d (interrupt ints status log) refl ds able (lifts_from ds u z)
lifts_from (detect sie log ∷ ds) u z t d able = driver_lifts u t d (detect sie log) refl ds able (lifts_from ds u z)

-- From a fresh host controller: no frame number was seen.
pub lifts : (ds : List D.Call) (u : ℕ) (t : Callers) (d : HostController) → u < 8 → 65535 ≤ t.share u → Asked.AllTyped ds → Agrees t d → NoneWaits t → Premises.UnrefusedFrom d.driver ds
    → Lifts t d (lift u t.frame ds) ds
lifts ds u t d z big ty h w v = lifts_from ds u z t d (record { agrees = h; none = w; reaches = big; typed = ty; unrefused = v })
