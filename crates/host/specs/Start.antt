-- A start: "it does what begin did and takes its place".
use Rattle.std.specs.Prelude.{◌≡◌, Bool, true, false, cond, ◌&&◌, List, [], ℕ, length, eqb, leb, Err, None, Ok, Option, Result, Some, is_ok}
use Rattle.transfers.specs.declared.refusal.Refusal.{Refusal}
use Rattle.transfers.specs.declared.refusal.Refusal.TheVariants.{LentMemory, State}
use Rattle.transfers.specs.declared.answers.Armed.{Armed}
use Rattle.transfers.specs.declared.control.Begun.{Begun}
use Rattle.transfers.specs.declared.driver.Driver.{Driver}
use Rattle.transfers.specs.Log.{Write, logged}
use Rattle.transfers.specs.Memory.{lent_fits}
use Rattle.transfers.specs.Answers.{nothing_armed}
use Rattle.transfers.specs.Calls.{Beginning, begin_control_of, begin_bulk_in_of, begin_bulk_out_of}
use Rattle.transfers.specs.Driver.{begun}
use Rattle.dispatcher.specs.Dispatcher.{pending_at, has_room, starts}
use Rattle.host.specs.declared.fields.Fields.{Fields}
use Rattle.host.specs.declared.fields.Fields.TheVariants.{Control, BulkIn, BulkOut}
use Rattle.host.specs.declared.controller.HostController.{HostController}
use Rattle.host.specs.declared.start.StartResult.{StartResult}
use Rattle.host.specs.declared.start.NextStart.{NextStart}
use Rattle.host.specs.declared.start.Admission.{Admission}
use Rattle.host.specs.Fields.{length_of, requested_of, fields_refused}
use Rattle.host.specs.Controller.{fields_at, observed, turn_of}
use Rattle.transfers.specs.declared.driver.Run.{Run}

-- ---- who starts

-- The three starts, as there were three begins.
pub data StartKind : Type 0 where
  control bulk_in bulk_out : StartKind

-- What came is of this call's kind: 16 "if that caller's transfer isn't".
abbrev pub of_kind : StartKind → Fields → Bool
of_kind control (Control x) = true
of_kind control (BulkIn x) = false
of_kind control (BulkOut x) = false
of_kind bulk_in (Control x) = false
of_kind bulk_in (BulkIn x) = true
of_kind bulk_in (BulkOut x) = false
of_kind bulk_out (Control x) = false
of_kind bulk_out (BulkIn x) = false
of_kind bulk_out (BulkOut x) = true

-- c is a caller that waits, with fields that a coming takes and a remainder that is large enough.
abbrev pub may_start : HostController → ℕ → Bool
may_start d c = let x = fields_at d c in leb c 7 && (pending_at d.dispatcher c && (has_room d.dispatcher c (requested_of x) && is_ok (fields_refused x)))

-- c, and what it came with; nobody where c may not start.
abbrev pub next_at : HostController → ℕ → Option NextStart
next_at d c = cond (may_start d c) (Some (record { caller = c; fields = fields_at d c })) None

-- "the caller whose turn it is": nobody "if a transfer is under way" or "if nobody has the turn". A start begins with a look, and this is asked after it.
abbrev pub next_start : HostController → Option NextStart
next_start d = next_at d (turn_of d)

-- ---- what it does

-- What a start does: the next state, the answer, what was armed, the writes, and packet memory.
pub record Starting : Type 0 where
  pub next : HostController
  pub answer : Result ℕ Refusal
  pub armed : Armed
  pub writes : List Write
  pub memory : List ℕ

-- "Every other number leaves state, packet memory, log, record and buffer untouched."
abbrev pub refuses_start : HostController → Refusal → List ℕ → Starting
refuses_start d e m = record { next = d; answer = Err e; armed = nothing_armed; writes = []; memory = m }

-- "what begin did", with the fields that the caller came with.
abbrev pub beginning_of : Option Run → Fields → List ℕ → List ℕ → List ℕ → Beginning
beginning_of t (Control x) buf m log = begin_control_of t x.address x.extras x.size x.setup x.phase buf m log
beginning_of t (BulkIn x) buf m log = begin_bulk_in_of t x.address x.endpoint x.size x.kind x.toggle buf m log
beginning_of t (BulkOut x) buf m log = begin_bulk_out_of t x.address x.endpoint x.size x.kind x.toggle buf m log

-- The driver as begin leaves it; n's transfer no longer waits, and "is charged its full requested bytes".
abbrev pub starts_as : HostController → NextStart → Beginning → Starting
starts_as d n o = record {
  next = record { driver = (begun d.driver o).next; dispatcher = starts d.dispatcher n.caller (requested_of n.fields); submissions = d.submissions };
  answer = Ok n.caller;
  armed = o.armed;
  writes = o.writes;
  memory = o.memory;
}

-- "16 .. if that caller's transfer isn't of this call's kind .., then with 15 if the buffer's length isn't the one it came with"
abbrev pub start_if : Bool → Bool → HostController → ℕ → NextStart → List ℕ → Beginning → Starting
start_if false same d f n m o = refuses_start d State m
start_if true false d f n m o = refuses_start d LentMemory m
start_if true true d f n m o = starts_as (observed d f) n o

-- "15 packet memory not 4,096 bytes, or log below 192 words", then 16.
abbrev pub start_lent : Bool → Option NextStart → HostController → StartKind → ℕ → List ℕ → List ℕ → List ℕ → Starting
start_lent false next d k f buf m log = refuses_start d LentMemory m
start_lent true None d k f buf m log = refuses_start d State m
start_lent true (Some n) d k f buf m log =
    start_if (of_kind k n.fields) (eqb (length buf) (length_of n.fields)) d f n m (beginning_of d.driver.transfer n.fields buf m log)

-- A start in frame f, on any state and whatever is lent. A refused one changes nothing, not the frame either.
unfoldable pub start_of : HostController → StartKind → ℕ → List ℕ → List ℕ → List ℕ → Starting
start_of d k f buf m log = start_lent (lent_fits m log) (next_start (observed d f)) d k f buf m log

-- ---- its checks

-- After a look that left t, with packet memory and a log that fit, they let a.next start, with a buffer of n bytes and for a call of kind k, and this is known.
pub record Admitted {T : Type 0} (k : StartKind) (came : T → Fields) (t : HostController) (n : ℕ) (a : Admission T) : Type 0 where
  pub does : (d : HostController) (f : ℕ) (buf m log : List ℕ) → t ≡ observed d f → lent_fits m log ≡ true → length buf ≡ n
      → start_of d k f buf m log ≡ starts_as t a.next (beginning_of t.driver.transfer a.next.fields buf m log)
  pub came_with : a.next.fields ≡ came a.fields

-- They refuse it.
abbrev pub Refused : StartKind → HostController → ℕ → Refusal → Type 0
Refused k t n why = (d : HostController) (f : ℕ) (buf m log : List ℕ) → t ≡ observed d f → lent_fits m log ≡ true → length buf ≡ n → start_of d k f buf m log ≡ refuses_start d why m

-- ---- what it hands back

-- A start's results: the answer with the next state, packet memory, and the log.
pub record DidStart (o : Starting) (l : List ℕ) (r : StartResult) (m' l' : List ℕ) : Type 0 where
  pub result : r ≡ record { next = o.next; answer = o.answer; armed = o.armed; writes = length o.writes }
  pub memory : m' ≡ o.memory
  pub log : l' ≡ logged l 0 o.writes

-- A refused one's.
abbrev pub refusing : HostController → Refusal → StartResult
refusing d e = record { next = d; answer = Err e; armed = nothing_armed; writes = 0 }

-- That of the driver's begin, for n.
abbrev pub started_by : HostController → NextStart → Begun Driver → StartResult
started_by d n b = record {
  next = record { driver = b.next; dispatcher = starts d.dispatcher n.caller (requested_of n.fields); submissions = d.submissions };
  answer = Ok n.caller;
  armed = b.armed;
  writes = b.writes;
}
