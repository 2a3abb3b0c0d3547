-- A start is refused, or begins what its caller came with. Assumes nothing.
use Rattle.std.specs.Prelude.{Err, None, Ok, Option, Result, Some, is_ok}
use mathlib.Core.Path.{◌≡◌, refl, sym, ap, ◌∙◌}
use mathlib.Core.Bool.{Bool, true, false, cond, ◌&&◌}
use mathlib.Core.List.{List}
use Prim.Native.Nat.{ℕ, ◌<◌}
use native.Mathlib.Omega.{arith}
use lib.ListN.{length}
use lib.Dec.{eqb, leb}
use Rattle.std.proofs.lemmas.Bool.{eqb-true, and_parts}
use Rattle.transfers.specs.declared.refusal.Refusal.{Refusal}
use Rattle.transfers.specs.declared.refusal.Refusal.TheVariants.{LentMemory, State}
use Rattle.transfers.specs.Memory.{lent_fits}
use Rattle.transfers.specs.State.{address_good, endpoint_good, size_good}
use Rattle.transfers.specs.Calls.{is_idle, fields_refusal, Beginning, begin_refusal, begin_or, begins_control, bulk_request, begins_bulk_in, begins_bulk_out, begin_control_of, begin_bulk_in_of, begin_bulk_out_of}
use Rattle.transfers.specs.declared.wire.Direction.TheVariants.{In, Out}
use Rattle.dispatcher.specs.declared.Dispatcher.{Dispatcher}
use Rattle.dispatcher.specs.Dispatcher.{pending_at, has_room, whose}
use Rattle.dispatcher.proofs.Rounds.{below}
use Rattle.dispatcher.proofs.Rooms.{kept_frame}
use Rattle.host.specs.declared.fields.Fields.{Fields}
use Rattle.host.specs.declared.fields.Fields.TheVariants.{Control, BulkIn, BulkOut}
use Rattle.host.specs.declared.controller.HostController.{HostController}
use Rattle.host.specs.declared.start.NextStart.{NextStart}
use Rattle.host.specs.Fields.{length_of, requested_of, fields_refused}
use Rattle.host.specs.Controller.{idle, dispatcher_now, fields_at, observed, turn_of}
use Rattle.host.specs.Start.{StartKind, of_kind, may_start, Starting, refuses_start, beginning_of, starts_as, start_if, start_lent, start_of}
use Rattle.transfers.specs.declared.driver.Run.{Run}

-- ---- the tests

whose_idle : (i : Bool) (t : Dispatcher) → whose i t < 8 → i ≡ true
whose_idle true t h = refl
whose_idle false t h = absurd (omega arith)

-- ---- the driver's begin takes what passed them

is_ok_lem : (r : Result (Unit {0}) Refusal) → is_ok r ≡ true → r ≡ Ok tt
is_ok_lem (Ok tt) e = refl
is_ok_lem (Err why) e = cc

pub record Taken (o : Beginning) : Type 0 where
  pub answer : o.answer ≡ Ok tt
  pub busy : is_idle o.next ≡ false

or_taken : (fit i : Bool) (r : Result (Unit {0}) Refusal) (t : Option Run) (m : List ℕ) (b : Beginning) → fit ≡ true → i ≡ true → r ≡ Ok tt → Taken b → Taken (begin_or (begin_refusal fit i r) t m b)
or_taken fit i r t m b p q e k = rw (p, q, e) k

begin_taken : (t : Option Run) (x : Fields) (buf m log : List ℕ) → lent_fits m log ≡ true → is_idle t ≡ true → is_ok (fields_refused x) ≡ true → length buf ≡ length_of x → Taken (beginning_of t x buf m log)
unfolding begin_control_of begin_bulk_in_of begin_bulk_out_of
begin_taken t (Control x) buf m log p q e h =
    or_taken (lent_fits m log) (is_idle t) (fields_refusal (address_good x.address) true (size_good x.size) true) t m (begins_control x.address x.extras x.size x.setup x.phase (length buf) m) p q
    (is_ok_lem (fields_refused (Control x)) e) (record { answer = refl; busy = refl })
begin_taken t (BulkIn x) buf m log p q e h =
    or_taken (lent_fits m log) (is_idle t) (fields_refusal (address_good x.address) (endpoint_good x.endpoint) (size_good x.size) (leb (length buf) 0xFFFF)) t m
    (begins_bulk_in (bulk_request In x.address x.endpoint x.size x.toggle (length buf)) x.kind m) p q
    (ap (λ (n : ℕ). fields_refusal (address_good x.address) (endpoint_good x.endpoint) (size_good x.size) (leb n 0xFFFF)) h ∙ is_ok_lem (fields_refused (BulkIn x)) e) (record { answer = refl; busy = refl })
begin_taken t (BulkOut x) buf m log p q e h =
    or_taken (lent_fits m log) (is_idle t) (fields_refusal (address_good x.address) (endpoint_good x.endpoint) (size_good x.size) (leb (length buf) 0xFFFF)) t m
    (begins_bulk_out (bulk_request Out x.address x.endpoint x.size x.toggle (length buf)) x.endpoint x.kind buf m) p q
    (ap (λ (n : ℕ). fields_refusal (address_good x.address) (endpoint_good x.endpoint) (size_good x.size) (leb n 0xFFFF)) h ∙ is_ok_lem (fields_refused (BulkOut x)) e) (record { answer = refl; busy = refl })

-- ---- every start

-- Who starts in frame f, and what it came with.
abbrev pub next_in : HostController → ℕ → NextStart
next_in d f = let c = turn_of (observed d f) in record { caller = c; fields = fields_at d c }

-- The begin that a start makes.
abbrev pub beginning_in : HostController → ℕ → List ℕ → List ℕ → List ℕ → Beginning
beginning_in d f buf m log = beginning_of d.driver.transfer (next_in d f).fields buf m log

-- It was not refused.
pub record Begins (d : HostController) (k : StartKind) (f : ℕ) (buf m log : List ℕ) : Type 0 where
  pub is : start_of d k f buf m log ≡ starts_as (observed d f) (next_in d f) (beginning_in d f buf m log)
  pub small : (next_in d f).caller < 8
  pub idles : idle d ≡ true
  pub pending : pending_at d.dispatcher (next_in d f).caller ≡ true
  pub room : has_room (observed d f).dispatcher (next_in d f).caller (requested_of (next_in d f).fields) ≡ true
  pub taken : Taken (beginning_in d f buf m log)

-- A start is refused and changes nothing, or begins.
pub data Start (d : HostController) (k : StartKind) (f : ℕ) (buf m log : List ℕ) : Type 0 where
  refused_start : (why : Refusal) → start_of d k f buf m log ≡ refuses_start d why m → Start d k f buf m log
  taken_start : Begins d k f buf m log → Start d k f buf m log

-- By the four tests.
abbrev start_by : Bool → Bool → Bool → Bool → HostController → ℕ → NextStart → List ℕ → Beginning → Starting
start_by false may kind same d f n m o = refuses_start d LentMemory m
start_by true false kind same d f n m o = refuses_start d State m
start_by true true false same d f n m o = refuses_start d State m
start_by true true true false d f n m o = refuses_start d LentMemory m
start_by true true true true d f n m o = starts_as (observed d f) n o

if_by : (kind same : Bool) (d : HostController) (f : ℕ) (n : NextStart) (m : List ℕ) (o : Beginning) → start_if kind same d f n m o ≡ start_by true true kind same d f n m o
if_by false same d f n m o = refl
if_by true false d f n m o = refl
if_by true true d f n m o = refl

start_by_lem : (d : HostController) (k : StartKind) (f : ℕ) (buf m log : List ℕ) → let n = next_in d f in
    start_of d k f buf m log ≡ start_by (lent_fits m log) (may_start (observed d f) n.caller) (of_kind k n.fields) (eqb (length buf) (length_of n.fields)) d f n m (beginning_in d f buf m log)
unfolding start_of
start_by_lem d k f buf m log = go (lent_fits m log) (may_start (observed d f) n.caller)
  where
    n : NextStart
    n = next_in d f

    go : (l may : Bool) → start_lent l (cond may (Some (record { caller = turn_of (observed d f); fields = fields_at d (turn_of (observed d f)) })) None) d k f buf m log
        ≡ start_by l may (of_kind k n.fields) (eqb (length buf) (length_of n.fields)) d f n m (beginning_in d f buf m log)
    go false may = refl
    go true false = refl
    go true true = if_by (of_kind k n.fields) (eqb (length buf) (length_of n.fields)) d f n m (beginning_in d f buf m log)

begins : (d : HostController) (k : StartKind) (f : ℕ) (buf m log : List ℕ) → let n = next_in d f in lent_fits m log ≡ true → may_start (observed d f) n.caller ≡ true
    → eqb (length buf) (length_of n.fields) ≡ true → start_of d k f buf m log ≡ starts_as (observed d f) n (beginning_in d f buf m log) → Begins d k f buf m log
begins d k f buf m log l may same e =
    let c = turn_of (observed d f) in
    let v = is_ok (fields_refused (fields_at d c)) in
    let r = has_room (observed d f).dispatcher c (requested_of (fields_at d c)) in
    let w = pending_at (observed d f).dispatcher c in
    let first = and_parts (leb c 7) (w && (r && v)) may in
    let rest = and_parts w (r && v) first.1 in
    let last = and_parts r v rest.1 in
    let small = below c first.0 in
    let i = whose_idle (idle d) (observed d f).dispatcher small in
    record {
      is = e;
      small = small;
      idles = i;
      pending = sym (kept_frame (dispatcher_now d) f c).0 ∙ rest.0;
      room = last.0;
      taken = begin_taken d.driver.transfer (fields_at d c) buf m log l i last.1 (eqb-true (length buf) (length_of (fields_at d c)) same);
    }

pub start_is : (d : HostController) (k : StartKind) (f : ℕ) (buf m log : List ℕ) → Start d k f buf m log
start_is d k f buf m log =
    go (lent_fits m log) refl (may_start (observed d f) n.caller) refl (of_kind k n.fields) (eqb (length buf) (length_of n.fields)) refl (start_by_lem d k f buf m log)
  where
    n : NextStart
    n = next_in d f

    go : (l : Bool) → lent_fits m log ≡ l → (may : Bool) → may_start (observed d f) n.caller ≡ may → (kind same : Bool) → eqb (length buf) (length_of n.fields) ≡ same
        → start_of d k f buf m log ≡ start_by l may kind same d f n m (beginning_in d f buf m log) → Start d k f buf m log
    go false p may q kind same s e = refused_start LentMemory e
    go true p false q kind same s e = refused_start State e
    go true p true q false same s e = refused_start State e
    go true p true q true false s e = refused_start LentMemory e
    go true p true q true true s e = taken_start (begins d k f buf m log p q s e)
