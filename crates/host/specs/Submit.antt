-- A coming.
use Rattle.std.specs.Prelude.{Bool, true, false, ℕ, leb, Err, Ok, Result}
use Rattle.dispatcher.specs.Dispatcher.{pending_at, quota_at, submits}
use Rattle.host.specs.declared.fields.Fields.{Fields}
use Rattle.host.specs.declared.answers.SubmitRefusal.TheVariants.{Caller, Pending, Quota, Begin}
use Rattle.host.specs.declared.controller.HostController.{HostController}
use Rattle.host.specs.declared.controller.SubmitResult.{SubmitResult}
use Rattle.host.specs.Fields.{requested_of, fields_refused}
use Rattle.host.specs.Controller.{idle, dispatcher_now, with_fields, with_dispatcher}
use Rattle.transfers.specs.declared.refusal.Refusal.{Refusal}
use Rattle.host.specs.declared.answers.SubmitRefusal.{SubmitRefusal}

-- "A coming refuses with 32 a caller above 7, then with 33 a caller that already waits", "with 34, right after 33, a transfer larger than its caller's share", "then as begin does"
abbrev pub submit_answer : Bool → Bool → Bool → Result (Unit {0}) Refusal → Result (Unit {0}) SubmitRefusal
submit_answer false pending within r = Err Caller
submit_answer true true within r = Err Pending
submit_answer true false false r = Err Quota
submit_answer true false true (Err why) = Err (Begin why)
submit_answer true false true (Ok tt) = Ok tt

-- The answer to caller c. A transfer under way no longer waits: its caller may come again.
abbrev pub submit_checks : HostController → ℕ → Fields → Result (Unit {0}) SubmitRefusal
submit_checks d c x = submit_answer (leb c 7) (pending_at d.dispatcher c) (leb (requested_of x) (quota_at d.dispatcher c)) (fields_refused x)

-- c waits with these fields, and the turn goes to who fits if nobody has it; a refused coming changes nothing, not the frame either.
abbrev pub submit_next : Result (Unit {0}) SubmitRefusal → HostController → ℕ → Fields → ℕ → HostController
submit_next (Ok tt) d c x f = with_dispatcher (with_fields d c x) (submits (idle d) (dispatcher_now d) c (requested_of x) f)
submit_next (Err why) d c x f = d

-- A coming, of any caller with any fields, in any frame and on any state.
unfoldable pub submit_of : HostController → ℕ → Fields → ℕ → SubmitResult
submit_of d c x f = let a = submit_checks d c x in record { next = submit_next a d c x f; answer = a }
