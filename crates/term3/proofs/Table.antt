-- Every coming, look and start answers its row. Assumes nothing.
use mathlib.Core.Path.{◌≡◌, refl, sym, ap, ap₂, subst, ◌∙◌}
use mathlib.Core.Bool.{Bool, true, false, cond, not, ◌&&◌}
use mathlib.Core.List.{List, [], ◌∷◌}
use Prim.Native.Nat.{ℕ, ◌<◌}
use lib.ListN.{length}
use lib.Dec.{eqb, leb}
use Rattle.transfers.specs.declared.wire.Direction.TheVariants.{In, Out}
use Rattle.transfers.specs.Reply.{Reply, result, number}
use Rattle.transfers.specs.Rows.{unless}
use Rattle.dispatcher.specs.declared.Dispatcher.{Dispatcher}
use Rattle.dispatcher.specs.Dispatcher.{pending_at, quota_at, has_room, fits}
use Rattle.dispatcher.proofs.Rounds.{below}
use Rattle.dispatcher.proofs.Rooms.{fits_told, kept_frame}
use Rattle.dispatcher.proofs.Turning.{look_good}
use Rattle.host.specs.declared.fields.Fields.{Fields}
use Rattle.host.specs.declared.controller.HostController.{HostController}
use Rattle.host.specs.Fields.{length_of, requested_of}
use Rattle.host.specs.Reply.{caller, nobodys, submit_reply, turn_reply, start_reply}
use Rattle.host.specs.Controller.{idle, dispatcher_now, fields_at, observed, turn_of}
use Rattle.host.specs.Submit.{submit_of}
use Rattle.host.specs.Start.{StartKind, control, bulk_in, bulk_out, start_of}
use Rattle.host.specs.Start as S
use Rattle.host.specs.Rows as H
use Rattle.host.proofs.Replies.{submit_row_lem, turn_row_lem, start_row_lem}
use Rattle.std.proofs.lemmas.Bool.{and_parts}
use Rattle.record.specs.Calls.{Begin, control_begin, bulk_begin}
use Rattle.record.specs.Table.{fields_row}
use Rattle.term3.specs.Calls.{Call, submit, whose_turn, start, driver, fields_of, call}
use Rattle.term3.specs.Callers.{Coming, requested_by, Callers, no_callers, whose, looks, hears}
use Rattle.term3.specs.Table.{coming_row, turn_row, is_result, of_kind, start_row, Row, TableFrom}
use Rattle.term3.specs.HostCalls.{Made, fresh_for}
use Rattle.term3.proofs.Same.{same_looks}
use Rattle.term3.proofs.Agreeing.{Agrees, requested_same, agrees_asks, agrees_next, fresh_agrees}

-- ---- a coming

fields_same : (x : Begin) (n : ℕ) → H.fields_row (fields_of x n) ≡ fields_row x n
fields_same (control_begin a x p s ph) n = refl
fields_same (bulk_begin In a e p k b) n = refl
fields_same (bulk_begin Out a e p k b) n = refl

submit_told : (t : Callers) (d : HostController) (c : ℕ) (x : Begin) (n f : ℕ) → Agrees t d → submit_reply (submit_of d c (fields_of x n) f).answer ≡ coming_row t c x n
submit_told t d c x n f h =
    submit_row_lem d c (fields_of x n) f
    ∙ ap₂ (λ (b : ℕ) (r : Reply (Unit {0})). unless (leb c 7) 32 (unless (not (pending_at d.dispatcher c)) 33 (unless (leb b (quota_at d.dispatcher c)) 34 r))) (requested_same x n) (fields_same x n)
    ∙ go (leb c 7) refl
  where
    row : Bool → ℕ → Reply (Unit {0})
    row w q = unless (not w) 33 (unless (leb (requested_by x n) q) 34 (fields_row x n))

    go : (a : Bool) → leb c 7 ≡ a → unless a 32 (row (pending_at d.dispatcher c) (quota_at d.dispatcher c)) ≡ unless a 32 (row (t.waits c) (t.share c))
    go false e = refl
    go true e = ap₂ row (sym (h.same.waits c (below c e))) (sym (h.same.share c (below c e)))

-- ---- a look

-- What was told is whose turn it is.
pub whose_is : (t : Callers) (d : HostController) (f : ℕ) → Agrees t d → whose (looks t f) ≡ turn_of (observed d f)
whose_is t d f h =
    let s = same_looks t (idle d) (dispatcher_now d) f h.same h.good.pre.last8 in
    ap₂ (λ (b : Bool) (c : ℕ). cond b 8 c) s.busy s.turn ∙ go (idle d)
  where
    go : (i : Bool) → cond (not i) 8 (observed d f).dispatcher.turn ≡ cond i (observed d f).dispatcher.turn 8
    go true = refl
    go false = refl

look_row : (i : Bool) (c : ℕ) → cond (i && leb c 7) (caller c) nobodys ≡ (let e = cond i c 8 in cond (leb e 7) (caller e) nobodys)
look_row true c = refl
look_row false c = refl

look_told : (t : Callers) (d : HostController) (f : ℕ) → Agrees t d → turn_reply (call d (whose_turn f)).answer ≡ turn_row t f
unfolding call
look_told t d f h =
    turn_row_lem d f ∙ ap result (look_row (idle d) (observed d f).dispatcher.turn) ∙ ap (λ (e : ℕ). result (cond (leb e 7) (caller e) nobodys)) (sym (whose_is t d f h))

-- ---- a start

taken_same : (r : Reply (Unit {0})) → H.is_taken r ≡ is_result r
taken_same (result x) = refl
taken_same (number n) = refl

length_same : (x : Begin) (n : ℕ) → length_of (fields_of x n) ≡ n
length_same (control_begin a x p s ph) n = refl
length_same (bulk_begin In a e p k b) n = refl
length_same (bulk_begin Out a e p k b) n = refl

kind_same : (k : StartKind) (x : Begin) (n : ℕ) → S.of_kind k (fields_of x n) ≡ of_kind k x
kind_same control (control_begin a x p s ph) n = refl
kind_same control (bulk_begin In a e p k b) n = refl
kind_same control (bulk_begin Out a e p k b) n = refl
kind_same bulk_in (control_begin a x p s ph) n = refl
kind_same bulk_in (bulk_begin In a e p k b) n = refl
kind_same bulk_in (bulk_begin Out a e p k b) n = refl
kind_same bulk_out (control_begin a x p s ph) n = refl
kind_same bulk_out (bulk_begin In a e p k b) n = refl
kind_same bulk_out (bulk_begin Out a e p k b) n = refl

-- The tests of a turn that somebody has, as one.
tests : (k f s : Bool) (c : ℕ) → unless k 16 (unless f 16 (unless s 15 (result c))) ≡ unless (k && f) 16 (unless s 15 (result c))
tests true f s c = refl
tests false f s c = refl

start_told : (t : Callers) (d : HostController) (k : StartKind) (f : ℕ) (buf m log : List ℕ) → Agrees t d → start_reply (start_of d k f buf m log).answer ≡ start_row t k f buf m log
start_told t d k f buf m log h =
    start_row_lem d k f buf m log
    ∙ ap (λ (r : Reply ℕ). unless (eqb (length m) 4096 && leb 192 (length log)) 15 r) (go (idle d) (leb u.turn 7) refl refl ∙ ap told (sym (whose_is t d f h)))
  where
    u : Dispatcher
    u = (observed d f).dispatcher

    told : ℕ → Reply ℕ
    told c = let x = t.came c in unless (leb c 7 && (of_kind k x.fields && is_result (fields_row x.fields x.length))) 16 (unless (eqb (length buf) x.length) 15 (result c))

    -- All but who has the turn.
    rest : ℕ → Fields → Reply ℕ
    rest c x = unless (S.of_kind k x) 16 (unless (H.is_taken (H.fields_row x)) 16 (unless (eqb (length buf) (length_of x)) 15 (result c)))

    here : ℕ → Bool → Reply ℕ
    here c w = unless (leb c 7 && w) 16 (rest c (fields_at d c))

    may : ℕ → Bool
    may c = pending_at u c && has_room u c (requested_of (fields_at d c))

    alike : (c : ℕ) (y : Coming) (x : Fields) → fields_of y.fields y.length ≡ x
        → rest c x ≡ unless (of_kind k y.fields && is_result (fields_row y.fields y.length)) 16 (unless (eqb (length buf) y.length) 15 (result c))
    alike c y x e =
        ap (rest c) (sym e)
        ∙ ap₂ (λ (v : Bool) (n : ℕ). unless (S.of_kind k (fields_of y.fields y.length)) 16 (unless v 16 (unless (eqb (length buf) n) 15 (result c))))
        (taken_same (H.fields_row (fields_of y.fields y.length)) ∙ ap is_result (fields_same y.fields y.length)) (length_same y.fields y.length)
        ∙ tests (S.of_kind k (fields_of y.fields y.length)) (is_result (fields_row y.fields y.length)) (eqb (length buf) y.length) c
        ∙ ap (λ (v : Bool). unless (v && is_result (fields_row y.fields y.length)) 16 (unless (eqb (length buf) y.length) 15 (result c))) (kind_same k y.fields y.length)

    -- Who has the turn fits.
    fit : (c : ℕ) → c ≡ u.turn → idle d ≡ true → c < 8 → may c ≡ true
    fit c e i l =
        let g = look_good (idle d) (dispatcher_now d) f h.good in
        let asked = subst (λ (n : ℕ). fits u n ≡ true) (sym e) (g.pre.held i (subst (λ (n : ℕ). n < 8) e l)) in
        let k = kept_frame (dispatcher_now d) f c in
        ap (λ (n : ℕ). pending_at u c && has_room u c n) (agrees_asks t d h c l (sym k.0 ∙ (fits_told u c asked).0) ∙ sym k.1) ∙ asked

    go : (i b : Bool) → idle d ≡ i → leb u.turn 7 ≡ b → let c = u.turn in unless i 16 (here c (may c)) ≡ told (cond i c 8)
    go false b p q = refl
    go true false p q =
        let c = u.turn in
        ap (λ (v : Bool). unless (v && may c) 16 (rest c (fields_at d c))) q
        ∙ ap (λ (v : Bool). unless (v && (of_kind k (t.came c).fields && is_result (fields_row (t.came c).fields (t.came c).length))) 16 (unless (eqb (length buf) (t.came c).length) 15 (result c))) (sym q)
    go true true p q =
        let c = u.turn in
        let l = below c q in
        let m = fit c refl p l in
        ap₂ (λ (v w : Bool). unless (v && w) 16 (rest c (fields_at d c))) q m
        ∙ alike c (t.came c) (fields_at d c) (h.came c l (h.same.waits c l ∙ sym (kept_frame (dispatcher_now d) f c).0 ∙ (and_parts (pending_at u c) (has_room u c (requested_of (fields_at d c))) m).0))
        ∙ ap (λ (v : Bool). unless (v && (of_kind k (t.came c).fields && is_result (fields_row (t.came c).fields (t.came c).length))) 16 (unless (eqb (length buf) (t.came c).length) 15 (result c))) (sym q)

-- ---- every call and every list

pub row_told : (t : Callers) (d : HostController) (c : Call) → Agrees t d → Row t c (call d c).answer
unfolding call
row_told t d (submit c x n f) h = submit_told t d c x n f h
row_told t d (whose_turn f) h = look_told t d f h
row_told t d (start k f buf m log) h = start_told t d k f buf m log h
row_told t d (driver c b) h = tt

table_from : (cs : List Call) (t : Callers) (d : HostController) → Agrees t d → TableFrom t d cs
unfolding TableFrom
table_from [] t d h = tt
table_from (c ∷ cs) t d h = (row_told t d c h, table_from cs (hears t c (call d c).answer) (call d c).next (agrees_next t d c h))

pub table : (made : Made) (cs : List Call) → TableFrom (no_callers made.shares) (fresh_for made) cs
table made cs = table_from cs (no_callers made.shares) (fresh_for made) (fresh_agrees made)
