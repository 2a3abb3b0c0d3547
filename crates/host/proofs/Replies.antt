-- A coming, a look and a start answer as the documents' rows have it. Assumes nothing.
use Rattle.std.specs.Prelude.{Err, None, Ok, Result, Some, is_ok}
use mathlib.Core.Path.{◌≡◌, refl, ap, ◌∙◌}
use mathlib.Core.Bool.{Bool, true, false, cond, not, ◌&&◌}
use mathlib.Core.List.{List}
use Prim.Native.Nat.{ℕ}
use lib.ListN.{length}
use lib.Dec.{eqb, leb}
use Rattle.transfers.specs.Refusal.{number_of}
use Rattle.transfers.specs.Reply.{Reply, result, number}
use Rattle.transfers.specs.Rows.{unless}
use Rattle.transfers.specs.Memory.{lent_fits}
use Rattle.transfers.specs.State.{address_good, endpoint_good, size_good}
use Rattle.transfers.specs.Calls.{Beginning, fields_refusal}
use Rattle.dispatcher.specs.declared.Dispatcher.{Dispatcher}
use Rattle.dispatcher.specs.Dispatcher.{pending_at, quota_at, has_room}
use Rattle.host.specs.declared.fields.Fields.{Fields}
use Rattle.host.specs.declared.fields.Fields.TheVariants.{Control, BulkIn, BulkOut}
use Rattle.host.specs.declared.controller.HostController.{HostController}
use Rattle.host.specs.declared.start.NextStart.{NextStart}
use Rattle.host.specs.Reply.{submit_reply, caller, nobodys, turn_reply, start_reply}
use Rattle.host.specs.Fields.{length_of, requested_of, fields_refused}
use Rattle.host.specs.Controller.{idle, fields_at, observed}
use Rattle.host.specs.Submit.{submit_answer, submit_of}
use Rattle.host.specs.Turn.{turn_answer, whose_turn_of}
use Rattle.host.specs.Start.{StartKind, of_kind, next_at, beginning_of, start_if, start_lent, start_of}
use Rattle.host.specs.Rows.{fields_row, submit_row, turn_row, is_taken, start_row}
use Rattle.transfers.specs.declared.refusal.Refusal.{Refusal}

-- ---- a coming

-- The fields alone, as a refusal and as a row.
abbrev row_of : Result (Unit {0}) Refusal → Reply (Unit {0})
row_of (Err why) = number (number_of why)
row_of (Ok tt) = result tt

refusal_row : (a e p n : Bool) → row_of (fields_refusal a e p n) ≡ unless a 12 (unless e 11 (unless p 13 (unless n 14 (result tt))))
refusal_row false e p n = refl
refusal_row true false p n = refl
refusal_row true true false n = refl
refusal_row true true true false = refl
refusal_row true true true true = refl

fields_row_lem : (x : Fields) → row_of (fields_refused x) ≡ fields_row x
fields_row_lem (Control x) = refusal_row (address_good x.address) true (size_good x.size) true
fields_row_lem (BulkIn x) = refusal_row (address_good x.address) (endpoint_good x.endpoint) (size_good x.size) (leb x.length 0xFFFF)
fields_row_lem (BulkOut x) = refusal_row (address_good x.address) (endpoint_good x.endpoint) (size_good x.size) (leb x.length 0xFFFF)

pub submit_row_lem : (d : HostController) (c : ℕ) (x : Fields) (f : ℕ) → submit_reply (submit_of d c x f).answer ≡ submit_row d c x
unfolding submit_of
submit_row_lem d c x f =
    go (leb c 7) (pending_at d.dispatcher c) (leb (requested_of x) (quota_at d.dispatcher c)) (fields_refused x)
    ∙ ap (λ (r : Reply (Unit {0})). unless (leb c 7) 32 (unless (not (pending_at d.dispatcher c)) 33 (unless (leb (requested_of x) (quota_at d.dispatcher c)) 34 r))) (fields_row_lem x)
  where
    go : (a w q : Bool) (r : Result (Unit {0}) Refusal) → submit_reply (submit_answer a w q r) ≡ unless a 32 (unless (not w) 33 (unless q 34 (row_of r)))
    go false w q r = refl
    go true true q r = refl
    go true false false r = refl
    go true false true (Err why) = refl
    go true false true (Ok tt) = refl

-- ---- a look

pub turn_row_lem : (d : HostController) (f : ℕ) → turn_reply (whose_turn_of d f).answer ≡ turn_row d f
unfolding whose_turn_of
turn_row_lem d f = go (idle d) (observed d f).dispatcher.turn
  where
    small : (b : Bool) (c : ℕ) → turn_reply (cond b (Some c) None) ≡ result (cond b (caller c) nobodys)
    small true c = refl
    small false c = refl

    go : (i : Bool) (c : ℕ) → turn_reply (turn_answer (cond i c 8)) ≡ result (cond (i && leb c 7) (caller c) nobodys)
    go false c = refl
    go true c = small (leb c 7) c

-- ---- a start

none_taken : (x : Fields) → is_ok (fields_refused x) ≡ is_taken (fields_row x)
none_taken x = go (fields_refused x) ∙ ap is_taken (fields_row_lem x)
  where
    go : (r : Result (Unit {0}) Refusal) → is_ok r ≡ is_taken (row_of r)
    go (Err why) = refl
    go (Ok tt) = refl

-- 16 for another kind, then 15.
if_row : (k same : Bool) (d : HostController) (f : ℕ) (n : NextStart) (m : List ℕ) (o : Beginning) → start_reply (start_if k same d f n m o).answer ≡ unless k 16 (unless same 15 (result n.caller))
if_row false same d f n m o = refl
if_row true false d f n m o = refl
if_row true true d f n m o = refl

pub start_row_lem : (d : HostController) (k : StartKind) (f : ℕ) (buf m log : List ℕ) → start_reply (start_of d k f buf m log).answer ≡ start_row d k f buf m log
unfolding start_of
start_row_lem d k f buf m log = go (lent_fits m log) (idle d) (observed d f).dispatcher.turn
  where
    t : Dispatcher
    t = (observed d f).dispatcher

    room : ℕ → Bool
    room c = has_room t c (requested_of (fields_at d c))

    rest : Bool → ℕ → Reply ℕ
    rest v c = unless (of_kind k (fields_at d c)) 16 (unless v 16 (unless (eqb (length buf) (length_of (fields_at d c))) 15 (result c)))

    never : (b same : Bool) (c : ℕ) → ◌≡◌ {A = Reply ℕ} (number 16) (unless b 16 (unless false 16 (unless same 15 (result c))))
    never true same c = refl
    never false same c = refl

    may : (a w r v : Bool) (c : ℕ) → start_reply (start_lent true (cond (a && (w && (r && v))) (Some (record { caller = c; fields = fields_at d c })) None) d k f buf m log).answer
        ≡ unless (a && (w && r)) 16 (rest v c)
    may false w r v c = refl
    may true false r v c = refl
    may true true false v c = refl
    may true true true false c = never (of_kind k (fields_at d c)) (eqb (length buf) (length_of (fields_at d c))) c
    may true true true true c =
        if_row (of_kind k (fields_at d c)) (eqb (length buf) (length_of (fields_at d c))) d f (record { caller = c; fields = fields_at d c }) m (beginning_of d.driver.transfer (fields_at d c) buf m log)

    go : (l i : Bool) (c : ℕ) → start_reply (start_lent l (next_at (observed d f) (cond i c 8)) d k f buf m log).answer
        ≡ unless l 15 (unless i 16 (unless (leb c 7 && (pending_at t c && room c)) 16 (rest (is_taken (fields_row (fields_at d c))) c)))
    go false i c = refl
    go true false c = refl
    go true true c =
        may (leb c 7) (pending_at t c) (room c) (is_ok (fields_refused (fields_at d c))) c
        ∙ ap (λ (v : Bool). unless (leb c 7 && (pending_at t c && room c)) 16 (rest v c)) (none_taken (fields_at d c))
