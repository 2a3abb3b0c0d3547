-- Every list of calls shows what some list of the driver's calls shows: a start's begin, and the driver's own. Assumes nothing.
use Rattle.std.specs.Prelude.{Err, None, Ok, Option, Result}
use mathlib.Core.Path.{◌≡◌, refl, sym, ap, subst, ◌∙◌}
use mathlib.Core.Bool.{Bool, true, false, cond}
use mathlib.Core.List.{List, [], ◌∷◌, ◌++◌}
use Prim.Native.Nat.{ℕ}
use native.Mathlib.Omega.{arith}
use lib.ListN.{length}
use lib.Dec.{eqb}
use Rattle.transfers.specs.declared.host_controller.DataPhase.TheVariants.{None as phase_none}
use Rattle.transfers.specs.declared.host_controller.TransferExtras.TheVariants.{Normal}
use Rattle.transfers.specs.declared.wire.Direction.TheVariants.{In, Out}
use Rattle.transfers.specs.declared.refusal.Refusal.{Refusal}
use Rattle.transfers.specs.declared.refusal.Refusal.TheVariants.{Address}
use Rattle.transfers.specs.declared.driver.Driver.{Driver}
use Rattle.transfers.specs.Memory.{lent_fits}
use Rattle.transfers.specs.Calls.{is_idle, Beginning, refuses_begin, begin_refusal, begin_or, begins_control, begin_control_of}
use Rattle.transfers.specs.Driver.{begun}
use Rattle.host.specs.declared.fields.Fields.{Fields}
use Rattle.host.specs.declared.controller.HostController.{HostController}
use Rattle.host.specs.Controller.{observed}
use Rattle.host.specs.Submit.{submit_checks, submit_next, submit_of}
use Rattle.host.specs.Turn.{whose_turn_of}
use Rattle.host.specs.Start.{StartKind, Starting, beginning_of, starts_as, start_of}
use Rattle.host.proofs.Begins.{next_in, beginning_in, Begins, Start, refused_start, taken_start, start_is}
use Rattle.record.specs.Calls.{Begin, control_begin, bulk_begin, begin, beginning}
use Rattle.record.specs.Calls as D
use Rattle.record.specs.Asked.{TypedBegin}
use Rattle.record.specs.Asked as Asked
use Rattle.record.specs.Kept as Kept
use Rattle.record.specs.Told.{Note, began, nothing, its_memory, Shown}
use Rattle.record.specs.Shown as S
use Rattle.term3.specs.Calls.{Call, submit, whose_turn, start, driver, Answer, fields_of, call}
use Rattle.term3.specs.Callers.{Coming, Callers, put, ends, is_end, hears}
use Rattle.term3.specs.HostCalls.{Typed, AllTyped, Lent, AllLent}
use Rattle.term3.specs.Shown.{start_note, shown, shown_from}
use Rattle.term3.specs.Driven as Driven
use Rattle.term3.proofs.Agreeing.{Agrees, agrees_next}
use Rattle.transfers.specs.declared.driver.Run.{Run}
use Rattle.host.specs.declared.answers.SubmitRefusal.{SubmitRefusal}

-- A begin that the driver always refuses, by its address.
abbrev never : Begin
never = control_begin 255 Normal 0 (record { bmRequestType = 0; bRequest = 0; wValue = 0; wIndex = 0; wLength = 0 }) phase_none

-- The driver's calls that a call makes; a refused start is a refused begin.
abbrev pub shadow_of : Callers → (c : Call) → Answer c → List D.Call
shadow_of t (submit c x n f) a = []
shadow_of t (whose_turn f) a = []
shadow_of t (start k f buf m log) (Ok c) = begin (t.came c).fields buf m log ∷ []
shadow_of t (start k f buf m log) (Err why) = begin never buf m log ∷ []
shadow_of t (driver c b) a = c ∷ []

unfoldable pub shadow : Callers → HostController → List Call → List D.Call
shadow t d [] = []
shadow t d (c ∷ cs) = let o = call d c in shadow_of t c o.answer ++ shadow (hears t c o.answer) o.next cs

-- ---- a begin as a start makes it

begin_same : (t : Option Run) (x : Begin) (n : ℕ) (buf m log : List ℕ) → beginning_of t (fields_of x n) buf m log ≡ beginning t x buf m log
begin_same t (control_begin a x p s ph) n buf m log = refl
begin_same t (bulk_begin In a e p k b) n buf m log = refl
begin_same t (bulk_begin Out a e p k b) n buf m log = refl

-- Of the caller whose turn it is.
now_same : (t : Callers) (d : HostController) (f : ℕ) (buf m log : List ℕ) → let x = t.came (next_in d f).caller in fields_of x.fields x.length ≡ (next_in d f).fields
    → beginning_in d f buf m log ≡ beginning d.driver.transfer x.fields buf m log
now_same t d f buf m log e =
    let x = t.came (next_in d f).caller in
    ap (λ (z : Fields). beginning_of d.driver.transfer z buf m log) (sym e) ∙ begin_same d.driver.transfer x.fields x.length buf m log

-- What a begin shows, by what it hands back and tells.
abbrev begin_shown : Note → Beginning → Shown
begin_shown k o = record { note = k; writes = o.writes; memory = o.memory; armed = o.armed; failed = None; writer = its_memory }

begun_shown : (d : Driver) (x : Begin) (buf m log : List ℕ) (later : List D.Call) (o : Beginning) → o ≡ beginning d.transfer x buf m log → o.answer ≡ Ok tt
    → begin_shown (began x buf) o ∷ S.shown_from (begun d o).next later ≡ S.shown_from d (begin x buf m log ∷ later)
unfolding S.shown_from D.call
begun_shown d x buf m log later o e q =
    ap (λ (a : Result (Unit {0}) Refusal). begin_shown (S.note (begin x buf m log) a) o ∷ S.shown_from (begun d o).next later) (sym q)
    ∙ ap (λ (b : Beginning). begin_shown (S.note (begin x buf m log) b.answer) b ∷ S.shown_from (begun d b).next later) e

never_shown : (d : Driver) (buf m log : List ℕ) (later : List D.Call) (why : Refusal) → begin_shown nothing (refuses_begin d.transfer why m) ∷ S.shown_from d later ≡ S.shown_from d (begin never buf m log ∷ later)
unfolding S.shown_from D.call begin_control_of
never_shown d buf m log later why = go (lent_fits m log) (is_idle d.transfer)
  where
    go : (p i : Bool) → let o = begin_or (begin_refusal p i (Err Address)) d.transfer m (begins_control 255 Normal 0 (record { bmRequestType = 0; bRequest = 0; wValue = 0; wIndex = 0; wLength = 0 }) phase_none (length buf) m) in
        begin_shown nothing (refuses_begin d.transfer why m) ∷ S.shown_from d later ≡ begin_shown (S.note (begin never buf m log) o.answer) o ∷ S.shown_from (begun d o).next later
    go false i = refl
    go true false = refl
    go true true = refl

-- ---- a start

-- What the caller that starts came with is told.
came_told : (t : Callers) (d : HostController) (k : StartKind) (f : ℕ) (buf m log : List ℕ) → Agrees t d → Begins d k f buf m log → let x = t.came (next_in d f).caller in
    fields_of x.fields x.length ≡ (next_in d f).fields
came_told t d k f buf m log h b = let c = (next_in d f).caller in h.came c b.small (h.same.waits c b.small ∙ b.pending)

start_shown : (t : Callers) (d : HostController) (k : StartKind) (f : ℕ) (buf m log : List ℕ) (later : List D.Call) → Agrees t d
    → let o = start_of d k f buf m log in
    record { note = start_note t o.answer buf; writes = o.writes; memory = o.memory; armed = o.armed; failed = None; writer = its_memory } ∷ S.shown_from o.next.driver later
    ≡ S.shown_from d.driver (shadow_of t (start k f buf m log) o.answer ++ later)
start_shown t d k f buf m log later h = go (start_is d k f buf m log)
  where
    Shows : Starting → Type 0
    Shows o =
        record { note = start_note t o.answer buf; writes = o.writes; memory = o.memory; armed = o.armed; failed = None; writer = its_memory } ∷ S.shown_from o.next.driver later
        ≡ S.shown_from d.driver (shadow_of t (start k f buf m log) o.answer ++ later)

    go : Start d k f buf m log → Shows (start_of d k f buf m log)
    go (refused_start why e) = subst Shows (sym e) (never_shown d.driver buf m log later why)
    go (taken_start b) =
        let x = t.came (next_in d f).caller in
        subst Shows (sym b.is) (begun_shown d.driver x.fields buf m log later (beginning_in d f buf m log) (now_same t d f buf m log (came_told t d k f buf m log h b)) b.taken.answer)

-- What it does is what this begin does.
abbrev Does : HostController → Starting → Beginning → Type 0
Does d o b = (b.answer ≡ Ok tt) × (o.next.driver ≡ (begun d.driver b).next) × (o.writes ≡ b.writes) × (o.memory ≡ b.memory) × (o.armed ≡ b.armed)

pub start_begins : (t : Callers) (d : HostController) → Agrees t d → Driven.Begins d t
unfolding call D.call
start_begins t d h k f buf m log c q = go (start_is d k f buf m log) q
  where
    Goes : Starting → Type 0
    Goes o = o.answer ≡ Ok c → Does d o (beginning d.driver.transfer (t.came c).fields buf m log)

    go : Start d k f buf m log → Goes (start_of d k f buf m log)
    go (refused_start why e) = subst Goes (sym e) (λ q. absurd (let z : ◌≡◌ {A = ℕ} 0 1 = cc in omega arith))
    go (taken_start b) = subst Goes (sym b.is) λ q. (
        let o = starts_as (observed d f) (next_in d f) (beginning_in d f buf m log) in
        let same : (next_in d f).caller ≡ c = cc in
        subst (λ (z : ℕ). Does d o (beginning d.driver.transfer (t.came z).fields buf m log)) same
        (subst (Does d o) (now_same t d f buf m log (came_told t d k f buf m log h b)) (b.taken.answer, refl, refl, refl, refl)))

-- ---- every call and every list

pub submit_driver : (d : HostController) (c : ℕ) (x : Fields) (f : ℕ) → (submit_of d c x f).next.driver ≡ d.driver
unfolding submit_of
submit_driver d c x f = go (submit_checks d c x)
  where
    go : (a : Result (Unit {0}) SubmitRefusal) → (submit_next a d c x f).driver ≡ d.driver
    go (Ok tt) = refl
    go (Err why) = refl

call_shown : (t : Callers) (d : HostController) (c : Call) (later : List D.Call) → Agrees t d
    → let o = call d c in shown t c o ++ S.shown_from o.next.driver later ≡ S.shown_from d.driver (shadow_of t c o.answer ++ later)
unfolding call whose_turn_of S.shown_from
call_shown t d (submit c x n f) later h = ap (λ (e : Driver). S.shown_from e later) (submit_driver d c (fields_of x n) f)
call_shown t d (whose_turn f) later h = refl
call_shown t d (start k f buf m log) later h = start_shown t d k f buf m log later h
call_shown t d (driver c b) later h = refl

pub same_shown : (cs : List Call) (t : Callers) (d : HostController) → Agrees t d → shown_from t d cs ≡ S.shown_from d.driver (shadow t d cs)
unfolding shown_from shadow S.shown_from
same_shown [] t d h = refl
same_shown (c ∷ cs) t d h =
    let o = call d c in
    ap (λ (l : List Shown). shown t c o ++ l) (same_shown cs (hears t c o.answer) o.next (agrees_next t d c h)) ∙ call_shown t d c (shadow (hears t c o.answer) o.next cs) h

-- ---- types and what is lent

-- What every caller came with is of the program's types.
abbrev pub AllCame : Callers → Type 0
AllCame t = (c : ℕ) → TypedBegin (t.came c).fields

put_typed : (f : ℕ → Coming) (c : ℕ) (x : Coming) → ((e : ℕ) → TypedBegin (f e).fields) → TypedBegin x.fields → (e : ℕ) → TypedBegin (put f c x e).fields
put_typed f c x h k e = go (eqb e c)
  where
    go : (b : Bool) → TypedBegin (let y : Coming = cond b x (f e) in y).fields
    go true = k
    go false = h e

came_next : (t : Callers) (c : Call) (a : Answer c) → Typed c → AllCame t → AllCame (hears t c a)
came_next t (submit c x n f) (Ok tt) ty h = put_typed t.came c (record { fields = x; length = n }) h ty
came_next t (submit c x n f) (Err why) ty h = h
came_next t (whose_turn f) a ty h = h
came_next t (start k f buf m log) (Ok c) ty h = h
came_next t (start k f buf m log) (Err why) ty h = h
came_next t (driver c b) a ty h = go (is_end (S.note c a))
  where
    go : (v : Bool) → AllCame (cond v (ends t) t)
    go true = h
    go false = h

never_typed : TypedBegin never
never_typed = (omega arith, omega arith, (omega arith, omega arith, omega arith, omega arith, omega arith))

typed_call : (t : Callers) (c : Call) (a : Answer c) (later : List D.Call) → Typed c → AllCame t → Asked.AllTyped later → Asked.AllTyped (shadow_of t c a ++ later)
typed_call t (submit c x n f) a later ty h k = k
typed_call t (whose_turn f) a later ty h k = k
typed_call t (start s f buf m log) (Ok c) later ty h k = ((h c, ty.0, ty.1, ty.2), k)
typed_call t (start s f buf m log) (Err why) later ty h k = ((never_typed, ty.0, ty.1, ty.2), k)
typed_call t (driver c b) a later ty h k = (ty, k)

pub typed_shadow : (cs : List Call) (t : Callers) (d : HostController) → AllTyped cs → AllCame t → Asked.AllTyped (shadow t d cs)
unfolding shadow
typed_shadow [] t d ty h = tt
typed_shadow (c ∷ cs) t d ty h =
    let o = call d c in
    typed_call t c o.answer (shadow (hears t c o.answer) o.next cs) ty.0 h (typed_shadow cs (hears t c o.answer) o.next ty.1 (came_next t c o.answer ty.0 h))

lent_call : (t : Callers) (c : Call) (a : Answer c) (later : List D.Call) → Lent c → Kept.AllLent later → Kept.AllLent (shadow_of t c a ++ later)
lent_call t (submit c x n f) a later h k = k
lent_call t (whose_turn f) a later h k = k
lent_call t (start s f buf m log) (Ok c) later h k = (h, k)
lent_call t (start s f buf m log) (Err why) later h k = (h, k)
lent_call t (driver c b) a later h k = (h, k)

pub lent_shadow : (cs : List Call) (t : Callers) (d : HostController) → AllLent cs → Kept.AllLent (shadow t d cs)
unfolding shadow
lent_shadow [] t d h = tt
lent_shadow (c ∷ cs) t d h =
    let o = call d c in
    lent_call t c o.answer (shadow (hears t c o.answer) o.next cs) h.0 (lent_shadow cs (hears t c o.answer) o.next h.1)
