-- The calls of term 3 with request R-9: "A start .. does what begin did and takes its place in term 3, whose calls comings and looks join." With R-10 "every coming, look
-- and start brings the frame number".
use Rattle.std.specs.Prelude.{◌≡◌, Bool, true, false, List, [], ℕ, None, Option, Result}
use Rattle.transfers.specs.declared.wire.Direction.TheVariants.{In, Out}
use Rattle.transfers.specs.declared.answers.Armed.{Armed}
use Rattle.transfers.specs.Log.{Write}
use Rattle.transfers.specs.Answers.{nothing_armed}
use Rattle.host.specs.declared.fields.Fields.{Fields}
use Rattle.host.specs.declared.controller.HostController.{HostController}
use Rattle.host.specs.Fields.{control_fields, bulk_in_fields, bulk_out_fields}
use Rattle.host.specs.Controller.{with_driver}
use Rattle.host.specs.Submit.{submit_of}
use Rattle.host.specs.Turn.{whose_turn_of}
use Rattle.host.specs.Start.{StartKind, start_of}
use Rattle.record.specs.Calls.{Begin, control_begin, bulk_begin, begin, step, cancel, open_pipe, close_pipe, poll_pipe, interrupt, detect}
use Rattle.record.specs.Calls as D
use Rattle.transfers.specs.declared.refusal.Refusal.{Refusal}
use Rattle.host.specs.declared.answers.SubmitRefusal.{SubmitRefusal}

-- A begin of the driver, whose place a start takes.
abbrev pub is_begin : D.Call → Bool
is_begin (begin x buf m log) = true
is_begin (step b y buf m log) = false
is_begin cancel = false
is_begin (open_pipe a x e p i log) = false
is_begin (close_pipe n) = false
is_begin (poll_pipe n y m log) = false
is_begin (interrupt ints status log) = false
is_begin (detect sie log) = false

-- A coming: a caller's transfer, "which comes with begin's fields and its buffer's length alone", and the frame number; a look, with the frame number; a start, of its
-- kind, with the frame number, is lent a buffer, packet memory and a log; the other calls are the driver's own.
pub data Call : Type 0 where
  submit : ℕ → Begin → ℕ → ℕ → Call
  whose_turn : ℕ → Call
  start : StartKind → ℕ → List ℕ → List ℕ → List ℕ → Call
  driver : (c : D.Call) → is_begin c ≡ false → Call

-- The answers of a call: results and refusals.
abbrev pub Answer : Call → Type 0
Answer (submit c x n f) = Result (Unit {0}) SubmitRefusal
Answer (whose_turn f) = Option ℕ
Answer (start k f buf m log) = Result ℕ Refusal
Answer (driver c e) = D.Answer c

-- What a call does: the next state and the answer, and as of the driver's calls the writes, packet memory, what was armed, and the count of a transfer that failed.
pub record Effect (c : Call) : Type 0 where
  pub next : HostController
  pub answer : Answer c
  pub writes : List Write
  pub memory : List ℕ
  pub armed : Armed
  pub failed : Option ℕ

-- What the functions take for begin's fields: `submit_control`, `submit_bulk_in`, `submit_bulk_out`.
abbrev pub fields_of : Begin → ℕ → Fields
fields_of (control_begin a x p s ph) n = control_fields a x p s ph n
fields_of (bulk_begin In a e p k b) n = bulk_in_fields a e p k b n
fields_of (bulk_begin Out a e p k b) n = bulk_out_fields a e p k b n

-- A call, by the definitions that the functions are proved equal to. A coming and a look are lent nothing. A call of the driver changes nothing else.
unfoldable pub call : HostController → (c : Call) → Effect c
call d (submit c x n f) = let o = submit_of d c (fields_of x n) f in record { next = o.next; answer = o.answer; writes = []; memory = []; armed = nothing_armed; failed = None }
call d (whose_turn f) = let o = whose_turn_of d f in record { next = o.next; answer = o.answer; writes = []; memory = []; armed = nothing_armed; failed = None }
call d (start k f buf m log) = let o = start_of d k f buf m log in record { next = o.next; answer = o.answer; writes = o.writes; memory = o.memory; armed = o.armed; failed = None }
call d (driver c e) = let o = D.call d.driver c in record { next = with_driver d o.next; answer = o.answer; writes = o.writes; memory = o.memory; armed = o.armed; failed = o.failed }
