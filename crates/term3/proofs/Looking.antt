-- What looks answer, at a moment and after one call. Assumes nothing.
use Rattle.std.specs.Prelude.{Err, None, Ok, Option, Result, Some}
use mathlib.Core.Path.{◌≡◌, refl, sym, ap, ap₂, subst, ◌∙◌}
use mathlib.Core.Bool.{Bool, true, false, cond, not, ◌&&◌, ◌||◌, true≢false}
use mathlib.Core.List.{List}
use Prim.Native.Nat.{ℕ, zero, suc, ◌+◌, ◌<◌}
use native.Mathlib.Omega.{arith}
use lib.Dec.{eqb, leb}
use borrow.Author.Tests.{leb-true, leb-false, lt-leb, eqb-true, eqb-false, eq-eqb}
use Rattle.transfers.specs.Reply.{Reply, result}
use Rattle.transfers.specs.Rows.{unless}
use Rattle.dispatcher.specs.declared.Dispatcher.{Dispatcher}
use Rattle.dispatcher.specs.Dispatcher.{pending_at}
use Rattle.dispatcher.specs.Dispatcher as T
use Rattle.dispatcher.proofs.Rounds.{below}
use Rattle.dispatcher.proofs.Rooms.{length_frame}
use Rattle.dispatcher.proofs.Turning.{Good, look_good}
use Rattle.dispatcher.proofs.Passing.{current_same, first_submit}
use Rattle.host.specs.declared.controller.HostController.{HostController}
use Rattle.host.specs.Controller.{idle, dispatcher_now, observed}
use Rattle.host.specs.Controller as H
use Rattle.host.specs.Turn.{whose_turn_of}
use Rattle.host.specs.Start.{StartKind, Starting, start_of}
use Rattle.host.proofs.Begins.{next_in, Start, refused_start, taken_start, start_is}
use Rattle.record.specs.Calls.{Begin}
use Rattle.record.specs.Calls as D
use Rattle.record.specs.Table.{fields_row}
use Rattle.record.specs.Shown.{note}
use Rattle.term3.specs.Calls.{Call, submit, whose_turn, start, driver, Answer, call}
use Rattle.term3.specs.Callers.{Coming, requested_by, requested, Callers, any_waits, put, enough, fits, next_turn, finds, whose, in_frame, joins, looks, ends, is_end, ends_by, hears}
use Rattle.term3.specs.Table.{Row}
use Rattle.term3.specs.Turns.{looked, answer_for, is_started}
use Rattle.term3.proofs.Ends.{ends_busy}
use Rattle.term3.proofs.Same.{same_fits, same_finds, same_frame, same_joins}
use Rattle.term3.proofs.Agreeing.{Agrees, agrees_next}
use Rattle.term3.proofs.Table.{whose_is, row_told}
use Rattle.transfers.specs.declared.refusal.Refusal.{Refusal}
use Rattle.host.specs.declared.answers.SubmitRefusal.{SubmitRefusal}

-- ---- looks

pub look_is : (t : Callers) (d : HostController) (f : ℕ) → Agrees t d → looked d f ≡ answer_for (whose (looks t f))
unfolding call whose_turn_of
look_is t d f h = ap answer_for (sym (whose_is t d f h))

-- After a call.
pub look_next : (t : Callers) (d : HostController) (x : Call) (f : ℕ) → Agrees t d → let o = call d x in looked o.next f ≡ answer_for (whose (looks (hears t x o.answer) f))
look_next t d x f h = let o = call d x in look_is (hears t x o.answer) o.next f (agrees_next t d x h)

pub busy_look : (t : Callers) (f : ℕ) → t.under_way ≡ true → answer_for (whose (looks t f)) ≡ None
busy_look t f b = ap (λ (v : Bool). answer_for (cond v 8 (looks t f).turn)) b

-- A look in the frame last seen brings no new frame,
looks_same : (t : Callers) → looks t t.frame ≡ finds t
looks_same t = ap same (eq-eqb t.frame t.frame refl)
  where
    same : Bool → Callers
    same b = finds (record {
      came = t.came;
      waits = t.waits;
      under_way = t.under_way;
      last = t.last;
      turn = t.turn;
      share = t.share;
      spent = λ c. cond b (t.spent c) 0;
      frame = t.frame;
    })

-- and a second one finds nothing more.
finds_turn : (t : Callers) → (finds (finds t)).turn ≡ (finds t).turn
finds_turn t = go (not t.under_way) (leb 8 t.turn) refl
  where
    n : ℕ
    n = next_turn t

    either : (b : Bool) → cond b n n ≡ n
    either true = refl
    either false = refl

    go : (a b : Bool) → leb 8 t.turn ≡ b → let z : ℕ = cond (a && leb 8 t.turn) n t.turn in cond (a && leb 8 z) n z ≡ z
    go false b e = refl
    go true true e = rw e (either (leb 8 n))
    go true false e = rw e (rw e refl)

-- What has just been found stays.
pub again : (t : Callers) → whose (looks (finds t) t.frame) ≡ whose (finds t)
again t = ap whose (looks_same (finds t)) ∙ ap (cond t.under_way 8) (finds_turn t)

-- Whose turn it is now.
pub look_now : (t : Callers) (d : HostController) → Agrees t d → looked d t.frame ≡ answer_for (whose t)
look_now t d h =
    let s = same_finds t (idle d) (dispatcher_now d) h.same h.good.pre.last8 in
    look_is t d t.frame h ∙ ap (λ (u : Callers). answer_for (whose u)) (looks_same t)
    ∙ ap (λ (n : ℕ). answer_for (cond t.under_way 8 n)) (s.turn ∙ ap (λ (u : Dispatcher). u.turn) (current_same (idle d) (dispatcher_now d) h.good) ∙ sym h.same.turn)

-- ---- answers and numbers

abbrev is_nobody : Option ℕ → Bool
is_nobody (Some c) = false
is_nobody None = true

-- Somebody's turn is a number up to 7.
pub somebody : (n c : ℕ) → answer_for n ≡ Some c → (leb n 7 ≡ true) × (n ≡ c)
somebody n c e = go (leb n 7) e
  where
    go : (b : Bool) → cond b (Some n) None ≡ Some c → (b ≡ true) × (n ≡ c)
    go true q = (refl, (let z : n ≡ c = cc in z))
    go false q = absurd (true≢false (ap is_nobody q))

nobodys : (n : ℕ) → answer_for n ≡ None → leb n 7 ≡ false
nobodys n e = go (leb n 7) e
  where
    go : (b : Bool) → cond b (Some n) None ≡ None → b ≡ false
    go true q = absurd (true≢false (sym (ap is_nobody q)))
    go false q = refl

beyond : (n : ℕ) → leb n 7 ≡ false → leb 8 n ≡ true
beyond n e = go (leb 8 n) refl
  where
    go : (b : Bool) → leb 8 n ≡ b → b ≡ true
    go true q = refl
    go false q = absurd (let k = leb-false 8 n q in let l = leb-false n 7 e in omega (arith, k, l))

within : (n : ℕ) → leb n 7 ≡ true → leb 8 n ≡ false
within n e = lt-leb 8 n (let k = leb-true n 7 e in omega (arith, k))

-- ---- who has the turn fits, and where nobody has it nobody fits

-- In a frame, whose turn it is and what the dispatcher says of it.
frame_fits : (t : Callers) (d : HostController) (f c : ℕ) → Agrees t d → c < 8 → fits (in_frame t f) c ≡ T.fits (observed d f).dispatcher c
frame_fits t d f c h k = same_fits (in_frame t f) (idle d) (T.in_frame (dispatcher_now d) f) (same_frame t (idle d) (dispatcher_now d) f h.same) c k

frame_good : (t : Callers) (d : HostController) (f : ℕ) → Agrees t d → Good (idle d) (observed d f).dispatcher
frame_good t d f h = look_good (idle d) (dispatcher_now d) f h.good

-- The turn that a look finds, with none under way.
idle_turn : (i : Bool) (n c : ℕ) → leb (cond i n 8) 7 ≡ true → cond i n 8 ≡ c → (i ≡ true) × (n ≡ c)
idle_turn true n c e q = (refl, q)
idle_turn false n c e q = absurd (true≢false (sym e))

pub passed_over : (t : Callers) (d : HostController) (c f : ℕ) → Agrees t d → looked d f ≡ Some c → fits (in_frame t f) c ≡ true
passed_over t d c f h e =
    let v = (observed d f).dispatcher in
    let k = somebody (H.turn_of (observed d f)) c (sym (ap answer_for (whose_is t d f h)) ∙ sym (look_is t d f h) ∙ e) in
    let i = idle_turn (idle d) v.turn c k.0 k.1 in
    let small : c < 8 = below c (ap (λ (n : ℕ). leb n 7) (sym k.1) ∙ k.0) in
    frame_fits t d f c h small ∙ subst (λ (n : ℕ). T.fits v n ≡ true) i.1 ((frame_good t d f h).pre.held i.0 (subst (λ (n : ℕ). n < 8) (sym i.1) small))

pub too_small : (t : Callers) (d : HostController) (f : ℕ) → Agrees t d → ((c : ℕ) → c < 8 → fits (in_frame t f) c ≡ false) → looked d f ≡ None
too_small t d f h none = look_is t d f h ∙ go (leb (whose (looks t f)) 7) refl
  where
    n : ℕ
    n = whose (looks t f)

    go : (b : Bool) → leb n 7 ≡ b → cond b (Some n) None ≡ None
    go false e = refl
    go true e = absurd (true≢false (sym (passed_over t d n f h (look_is t d f h ∙ ap (λ (b : Bool). cond b (Some n) None) e)) ∙ none n (below n e)))

is_idle : (t : Callers) (d : HostController) → Agrees t d → t.under_way ≡ false → idle d ≡ true
is_idle t d h b = go (idle d) (sym b ∙ h.same.busy)
  where
    go : (i : Bool) → false ≡ not i → i ≡ true
    go true e = refl
    go false e = absurd (true≢false (sym e))

pub nobody_fits : (t : Callers) (d : HostController) (f : ℕ) → Agrees t d → t.under_way ≡ false → looked d f ≡ None → (c : ℕ) → c < 8 → fits (in_frame t f) c ≡ false
nobody_fits t d f h b e c k =
    let v = (observed d f).dispatcher in
    let i = is_idle t d h b in
    let far = nobodys (H.turn_of (observed d f)) (sym (ap answer_for (whose_is t d f h)) ∙ sym (look_is t d f h) ∙ e) in
    let turn : leb v.turn 7 ≡ false = sym (ap (λ (a : Bool). leb (cond a v.turn 8) 7) i) ∙ far in
    let large = leb-true 8 v.turn (beyond v.turn turn) in
    frame_fits t d f c h k ∙ (frame_good t d f h).none i large c k

-- ---- nobody's turn, and where it goes

-- With none under way and nobody's turn, the turn told is nobody's.
free : (t : Callers) (d : HostController) → Agrees t d → t.under_way ≡ false → looked d t.frame ≡ None → leb 8 t.turn ≡ true
free t d h b e = beyond t.turn (nobodys t.turn (sym (ap (λ (a : Bool). answer_for (cond a 8 t.turn)) b) ∙ sym (look_now t d h) ∙ e))

-- Then a call that finds one finds the next.
found : (t : Callers) → t.under_way ≡ false → leb 8 t.turn ≡ true → whose (finds t) ≡ next_turn t
found t b e = ap₂ (λ (u v : Bool). cond u 8 (cond (not u && v) (next_turn t) t.turn)) b e

pub goes : (t : Callers) (d : HostController) (f : ℕ) → Agrees t d → t.under_way ≡ false → looked d t.frame ≡ None → looked d f ≡ answer_for (next_turn (in_frame t f))
goes t d f h b e = look_is t d f h ∙ ap answer_for (found (in_frame t f) b (free t d h b e))

pub coming_told : (t : Callers) (c : ℕ) (x : Begin) (n f : ℕ) (a : Result (Unit {0}) SubmitRefusal) → a ≡ Ok tt → hears t (submit c x n f) a ≡ finds (joins (in_frame t f) c (record { fields = x; length = n }))
coming_told t c x n f a e = ap (hears t (submit c x n f)) e

-- A look after a coming, in its frame.
coming_look : (t : Callers) (d : HostController) (c : ℕ) (x : Begin) (n f : ℕ) → Agrees t d → let o = call d (submit c x n f) in o.answer ≡ Ok tt
    → looked o.next f ≡ answer_for (whose (finds (joins (in_frame t f) c (record { fields = x; length = n }))))
coming_look t d c x n f h e =
    let o = call d (submit c x n f) in
    look_next t d (submit c x n f) f h ∙ ap (λ (u : Callers). answer_for (whose (looks u f))) (coming_told t c x n f o.answer e)
    ∙ ap answer_for (again (joins (in_frame t f) c (record { fields = x; length = n })))

pub goes_coming : (t : Callers) (d : HostController) (c : ℕ) (x : Begin) (n f : ℕ) → Agrees t d → let o = call d (submit c x n f) in t.under_way ≡ false → looked d t.frame ≡ None → o.answer ≡ Ok tt
    → looked o.next f ≡ answer_for (next_turn (joins (in_frame t f) c (record { fields = x; length = n })))
goes_coming t d c x n f h b e a = coming_look t d c x n f h a ∙ ap answer_for (found (joins (in_frame t f) c (record { fields = x; length = n })) b (free t d h b e))

-- A start is of the caller whose turn a look would have found.
pub started_is : (t : Callers) (d : HostController) (k : StartKind) (f : ℕ) (buf m log : List ℕ) (c : ℕ) → Agrees t d → (call d (start k f buf m log)).answer ≡ Ok c
    → (idle d ≡ true) × (whose (looks t f) ≡ c)
unfolding call
started_is t d k f buf m log c h q = go (start_is d k f buf m log) q
  where
    Goes : Starting → Type 0
    Goes o = o.answer ≡ Ok c → (idle d ≡ true) × (whose (looks t f) ≡ c)

    go : Start d k f buf m log → Goes (start_of d k f buf m log)
    go (refused_start why e) = subst Goes (sym e) (λ q. absurd (let z : ◌≡◌ {A = ℕ} 0 1 = cc in omega arith))
    go (taken_start b) = subst Goes (sym b.is) λ q. (
        let same : (next_in d f).caller ≡ c = cc in
        (b.idles, whose_is t d f h ∙ same))

pub goes_start : (t : Callers) (d : HostController) (k : StartKind) (f : ℕ) (buf m log : List ℕ) (c : ℕ) → Agrees t d → looked d t.frame ≡ None → (call d (start k f buf m log)).answer ≡ Ok c
    → next_turn (in_frame t f) ≡ c
goes_start t d k f buf m log c h e q =
    let s = started_is t d k f buf m log c h q in
    let b = h.same.busy ∙ ap not s.0 in
    sym (found (in_frame t f) b (free t d h b e)) ∙ s.1

-- ---- the first to come

unless_true : (b : Bool) (n : ℕ) (r : Reply (Unit {0})) → result tt ≡ unless b n r → b ≡ true
unless_true true n r e = refl
unless_true false n r e = absurd (let z : ◌≡◌ {A = ℕ} 0 1 = cc in omega arith)

-- An accepted coming is of one of the eight.
pub caller_small : (t : Callers) (d : HostController) (c : ℕ) (x : Begin) (n f : ℕ) → Agrees t d → (call d (submit c x n f)).answer ≡ Ok tt → leb c 7 ≡ true
caller_small t d c x n f h e =
    unless_true (leb c 7) 32 (unless (not (t.waits c)) 33 (unless (leb (requested_by x n) (t.share c)) 34 (fields_row x n)))
    (subst (λ (a : Result (Unit {0}) SubmitRefusal). Row t (submit c x n f) a) e (row_told t d (submit c x n f) h))

or_false : (a b : Bool) → (a || b) ≡ false → (a ≡ false) × (b ≡ false)
or_false false b e = (refl, e)
or_false true b e = absurd (true≢false e)

none_waits : (n : ℕ) (w : ℕ → Bool) → any_waits w n ≡ false → (e : ℕ) → e < n → w e ≡ false
none_waits zero w h e k = absurd (omega arith)
none_waits (suc n) w h e k = go (eqb e n) refl (λ q. none_waits n w (or_false (w n) (any_waits w n) h).1 e q)
  where
    go : (b : Bool) → eqb e n ≡ b → (e < n → w e ≡ false) → w e ≡ false
    go true p ih = ap w (eqb-true e n p) ∙ (or_false (w n) (any_waits w n) h).0
    go false p ih = ih (omega (arith, eqb-false e n p, k))

pub first_look : (t : Callers) (d : HostController) (c : ℕ) (x : Begin) (n f : ℕ) → Agrees t d → let o = call d (submit c x n f) in t.under_way ≡ false → any_waits t.waits 8 ≡ false → o.answer ≡ Ok tt
    → enough (in_frame t f) c (record { fields = x; length = n }) ≡ true → looked o.next f ≡ Some c
first_look t d c x n f h b w a r =
    let y : Coming = record { fields = x; length = n } in
    let s₁ = joins (in_frame t f) c y in
    let u = dispatcher_now d in
    let i = is_idle t d h b in
    let seven = caller_small t d c x n f h a in
    let small = below c seven in
    let p = h.good.pre in
    let same = same_joins (in_frame t f) (idle d) (T.in_frame u f) c y (same_frame t (idle d) u f h.same) small (length_frame (eqb f u.frame) u.callers ∙ p.callers8) in
    let here : fits s₁ c ≡ true = ap (λ (v : Bool). cond v true (t.waits c) && leb ((in_frame t f).spent c + requested (put t.came c y c)) (t.share c)) (eq-eqb c c refl)
    ∙ ap (λ (v : Bool). let z : Coming = cond v y (t.came c) in leb ((in_frame t f).spent c + requested z) (t.share c)) (eq-eqb c c refl) ∙ r in
    let fit = sym (same_fits s₁ (idle d) (T.with_pending (T.in_frame u f) c (requested y)) same c small) ∙ here in
    let none : (e : ℕ) → e < 8 → pending_at u e ≡ false = λ e k. sym (h.same.waits e k) ∙ none_waits 8 t.waits w e k in
    let turn : (finds s₁).turn ≡ c = (same_finds s₁ (idle d) (T.with_pending (T.in_frame u f) c (requested y)) same p.last8).turn
    ∙ ap (λ (v : Bool). (T.submits v u c (requested y) f).turn) i
    ∙ first_submit u c (requested y) f (subst (λ (v : Bool). Good v u) i h.good) none small fit in
    coming_look t d c x n f h a ∙ ap₂ (λ (v : Bool) (z : ℕ). answer_for (cond v 8 z)) b turn ∙ ap (λ (v : Bool). cond v (Some c) None) seven

-- ---- the end of a transfer

pub passes_look : (t : Callers) (d : HostController) (x : Call) → Agrees t d → let o = call d x in ends_by x o.answer ≡ true → looked o.next t.frame ≡ answer_for (next_turn t)
passes_look t d x h e =
    look_next t d x t.frame h ∙ ap (λ (u : Callers). answer_for (whose (looks u t.frame))) (by x (call d x).answer e)
    ∙ ap (λ (u : Callers). answer_for (whose u)) (looks_same (ends t)) ∙ ap answer_for (either (leb 8 (next_turn t)))
  where
    by : (x : Call) (a : Answer x) → ends_by x a ≡ true → hears t x a ≡ ends t
    by (submit c y n f) a e = absurd (true≢false (sym e))
    by (whose_turn f) a e = absurd (true≢false (sym e))
    by (start k f buf m log) a e = absurd (true≢false (sym e))
    by (driver c b) a e = ap (λ (v : Bool). cond v (ends t) t) e

    either : (b : Bool) → cond b (next_turn t) (next_turn t) ≡ next_turn t
    either true = refl
    either false = refl

-- ---- a turn that was given

-- None is under way, and the turn told is c's.
record Held (t : Callers) (c : ℕ) : Type 0 where
  free : t.under_way ≡ false
  turn : t.turn ≡ c
  small : leb c 7 ≡ true

held : (t : Callers) (d : HostController) (c : ℕ) → Agrees t d → looked d t.frame ≡ Some c → Held t c
held t d c h e =
    let k = somebody (whose t) c (sym (look_now t d h) ∙ e) in
    go t.under_way refl k.0 k.1
  where
    go : (b : Bool) → t.under_way ≡ b → leb (cond t.under_way 8 t.turn) 7 ≡ true → cond t.under_way 8 t.turn ≡ c → Held t c
    go true p l q = absurd (true≢false (sym l ∙ ap (λ (v : Bool). leb (cond v 8 t.turn) 7) p))
    go false p l q =
        let same : t.turn ≡ c = sym (ap (λ (v : Bool). cond v 8 t.turn) p) ∙ q in
        record { free = p; turn = same; small = ap (λ (n : ℕ). leb n 7) (sym q) ∙ l }

-- It is c's in whatever frame a look brings,
held_frame : (t : Callers) (c f : ℕ) → Held t c → Held (looks t f) c
held_frame t c f k = record {
  free = k.free;
  turn = ap₂ (λ (a b : Bool). cond (not a && b) (next_turn (in_frame t f)) t.turn) k.free (ap (leb 8) k.turn ∙ within c k.small) ∙ k.turn;
  small = k.small;
}

-- and whoever comes.
held_coming : (t : Callers) (c z : ℕ) (y : Begin) (n f : ℕ) (a : Result (Unit {0}) SubmitRefusal) → Held t c → Held (hears t (submit z y n f) a) c
held_coming t c z y n f (Ok tt) k = record {
  free = k.free;
  turn = ap₂ (λ (a b : Bool). cond (not a && b) (next_turn (joins (in_frame t f) z (record { fields = y; length = n }))) t.turn) k.free (ap (leb 8) k.turn ∙ within c k.small) ∙ k.turn;
  small = k.small;
}
held_coming t c z y n f (Err why) k = k

held_look : (t : Callers) (c f : ℕ) → Held t c → answer_for (whose (looks t f)) ≡ Some c
held_look t c f k =
    let v = held_frame t c f k in
    ap₂ (λ (a : Bool) (n : ℕ). answer_for (cond a 8 n)) v.free v.turn ∙ ap (λ (b : Bool). cond b (Some c) None) k.small

pub stays_look : (t : Callers) (d : HostController) (c : ℕ) (x : Call) (f : ℕ) → Agrees t d → let o = call d x in looked d t.frame ≡ Some c → is_started x o.answer ≡ false → looked o.next f ≡ Some c
unfolding call
stays_look t d c x f h e s = look_next t d x f h ∙ held_look (hears t x (call d x).answer) c f (by x s)
  where
    k : Held t c
    k = held t d c h e

    unstarted : (q : StartKind) (g : ℕ) (buf m log : List ℕ) (a : Result ℕ Refusal) → is_started (start q g buf m log) a ≡ false → Held (hears t (start q g buf m log) a) c
    unstarted q g buf m log (Ok z) v = absurd (true≢false v)
    unstarted q g buf m log (Err why) v = k

    by : (x : Call) → let o = call d x in is_started x o.answer ≡ false → Held (hears t x o.answer) c
    by (submit z y n g) v = held_coming t c z y n g (call d (submit z y n g)).answer k
    by (whose_turn g) v = held_frame t c g k
    by (start q g buf m log) v = unstarted q g buf m log (call d (start q g buf m log)).answer v
    by (driver z b) v = go (is_end (note z (D.call d.driver z).answer)) refl
      where
        go : (w : Bool) → is_end (note z (D.call d.driver z).answer) ≡ w → Held (cond w (ends t) t) c
        go true q = absurd (true≢false (sym (h.same.busy ∙ ap not (ends_busy z d.driver b q)) ∙ k.free))
        go false q = k
