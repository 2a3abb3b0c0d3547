-- What a coming, a look and a start answer, in the documents' numbers and order of checks.
use Rattle.std.specs.Prelude.{Bool, true, false, cond, not, ◌&&◌, List, ℕ, length, eqb, leb}
use Rattle.transfers.specs.Reply.{Reply, result, number}
use Rattle.transfers.specs.Rows.{unless, control_fields_row, bulk_fields_row}
use Rattle.dispatcher.specs.Dispatcher.{pending_at, quota_at, has_room}
use Rattle.host.specs.declared.fields.Fields.{Fields}
use Rattle.host.specs.declared.fields.Fields.TheVariants.{Control, BulkIn, BulkOut}
use Rattle.host.specs.declared.controller.HostController.{HostController}
use Rattle.host.specs.Reply.{Whose, caller, nobodys}
use Rattle.host.specs.Fields.{length_of, requested_of}
use Rattle.host.specs.Controller.{idle, fields_at, observed}
use Rattle.host.specs.Start.{StartKind, of_kind}

-- ---- a coming

-- "as begin does, save that 8 no longer occurs"
abbrev pub fields_row : Fields → Reply (Unit {0})
fields_row (Control x) = control_fields_row x.address x.size
fields_row (BulkIn x) = bulk_fields_row x.address x.endpoint x.size x.length
fields_row (BulkOut x) = bulk_fields_row x.address x.endpoint x.size x.length

-- "A coming refuses with 32 a caller above 7, then with 33 a caller that already waits", "with 34, right after 33, a transfer larger than its caller's share", "then as begin does"
abbrev pub submit_row : HostController → ℕ → Fields → Reply (Unit {0})
submit_row d c x = unless (leb c 7) 32 (unless (not (pending_at d.dispatcher c)) 33 (unless (leb (requested_of x) (quota_at d.dispatcher c)) 34 (fields_row x)))

-- ---- a look

-- "A look, never refused, answers whose turn it is, nobody's while a transfer is under way."
abbrev pub turn_row : HostController → ℕ → Reply Whose
turn_row d f = let c = (observed d f).dispatcher.turn in result (cond (idle d && leb c 7) (caller c) nobodys)

-- ---- a start

-- A coming takes them.
abbrev pub is_taken : Reply (Unit {0}) → Bool
is_taken (result x) = true
is_taken (number n) = false

-- 15 for what is lent; "16 if a transfer is under way, if nobody has the turn or if that caller's transfer isn't of this call's kind or has fields a coming refuses, then with 15 if the buffer's length isn't the one it came with". The turn of a caller that doesn't wait, or whose remainder is too small, is nobody's.
abbrev pub start_row : HostController → StartKind → ℕ → List ℕ → List ℕ → List ℕ → Reply ℕ
start_row d k f buf m log =
    let t = (observed d f).dispatcher in
    let c = t.turn in
    let x = fields_at d c in
    unless (eqb (length m) 4096 && leb 192 (length log)) 15
    (unless (idle d) 16
    (unless (leb c 7 && (pending_at t c && has_room t c (requested_of x))) 16
    (unless (of_kind k x) 16 (unless (is_taken (fields_row x)) 16 (unless (eqb (length buf) (length_of x)) 15 (result c))))))
