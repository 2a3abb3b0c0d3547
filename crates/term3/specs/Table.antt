-- What a coming, a look and a start answer, in document 02's numbers and its order of checks, by what the calls so far tell.
use Rattle.std.specs.Prelude.{◌≡◌, Bool, true, false, cond, not, ◌&&◌, List, [], ◌∷◌, ℕ, length, eqb, leb}
use Rattle.transfers.specs.declared.wire.Direction.TheVariants.{In, Out}
use Rattle.transfers.specs.Reply.{Reply, result, number}
use Rattle.transfers.specs.Rows.{unless}
use Rattle.host.specs.declared.controller.HostController.{HostController}
use Rattle.host.specs.Reply.{submit_reply, Whose, caller, nobodys, turn_reply, start_reply}
use Rattle.host.specs.Start.{StartKind, control, bulk_in, bulk_out}
use Rattle.record.specs.Calls.{Begin, control_begin, bulk_begin}
use Rattle.record.specs.Table.{fields_row}
use Rattle.term3.specs.Calls.{Call, submit, whose_turn, start, driver, Answer, call}
use Rattle.term3.specs.Callers.{Callers, requested_by, whose, looks, hears}

-- "A coming refuses with 32 a caller above 7, then with 33 a caller that already waits, then as begin does, save that 8 no longer occurs.", and "with 34, right after 33, a
-- transfer larger than its caller's share".
abbrev pub coming_row : Callers → ℕ → Begin → ℕ → Reply (Unit {0})
coming_row t c x n = unless (leb c 7) 32 (unless (not (t.waits c)) 33 (unless (leb (requested_by x n) (t.share c)) 34 (fields_row x n)))

-- "A look, never refused, answers whose turn it is"
abbrev pub turn_row : Callers → ℕ → Reply Whose
turn_row t f = let c = whose (looks t f) in result (cond (leb c 7) (caller c) nobodys)

-- No number.
abbrev pub is_result : {A : Type 0} → Reply A → Bool
is_result (result a) = true
is_result (number n) = false

-- "this call's kind": `start_control`, `start_bulk_in` and `start_bulk_out` have one each.
abbrev pub of_kind : StartKind → Begin → Bool
of_kind control (control_begin a x p s ph) = true
of_kind control (bulk_begin b a e p k t) = false
of_kind bulk_in (control_begin a x p s ph) = false
of_kind bulk_in (bulk_begin In a e p k t) = true
of_kind bulk_in (bulk_begin Out a e p k t) = false
of_kind bulk_out (control_begin a x p s ph) = false
of_kind bulk_out (bulk_begin In a e p k t) = false
of_kind bulk_out (bulk_begin Out a e p k t) = true

-- A start answers the caller whose transfer it is. Before its own checks 15 for what is lent; "It is refused with 16 if a transfer is under way, if nobody has the turn
-- or if that caller's transfer isn't of this call's kind or has fields a coming refuses, then with 15 if the buffer's length isn't the one it came with."
abbrev pub start_row : Callers → StartKind → ℕ → List ℕ → List ℕ → List ℕ → Reply ℕ
start_row t k f buf m log =
    let c = whose (looks t f) in
    let x = t.came c in
    unless (eqb (length m) 4096 && leb 192 (length log)) 15
    (unless (leb c 7 && (of_kind k x.fields && is_result (fields_row x.fields x.length))) 16 (unless (eqb (length buf) x.length) 15 (result c)))

-- A call answers what its row says.
abbrev pub Row : Callers → (c : Call) → Answer c → Type 0
Row t (submit c x n f) a = submit_reply a ≡ coming_row t c x n
Row t (whose_turn f) a = turn_reply a ≡ turn_row t f
Row t (start k f buf m log) a = start_reply a ≡ start_row t k f buf m log
Row t (driver c e) a = Unit {0}

-- Along a list of calls.
unfoldable pub TableFrom : Callers → HostController → List Call → Type 0
TableFrom t d [] = Unit {0}
TableFrom t d (c ∷ cs) = let o = call d c in Row t c o.answer × TableFrom (hears t c o.answer) o.next cs
