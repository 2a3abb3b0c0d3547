-- Each call keeps the invariant; where no transfer fails the entries are those of the transfers begun. Assumes nothing.
use Rattle.std.specs.Prelude.{None, Option, Some}
use mathlib.Core.Path.{◌≡◌, refl, sym, ap, ◌∙◌, subst}
use mathlib.Core.Bool.{Bool, true, false, true≢false}
use mathlib.Core.List.{List, [], ◌∷◌, ◌++◌, append_assoc, append-nil}
use Prim.Native.Nat.{ℕ}
use Rattle.transfers.specs.declared.driver.Driver.{Driver}
use Rattle.transfers.specs.Log.{Write}
use Rattle.transfers.specs.Calls.{cancel_if, stage_parity, either_serves, cancel_of}
use Rattle.transfers.specs.Outcome.{toggle_in, toggle_out}
use Rattle.transfers.specs.Pipes.{opening, polling}
use Rattle.transfers.specs.Irq.{waking}
use Rattle.transfers.specs.Detect.{detecting}
use Rattle.transfers.proofs.Apart.{open_apart, poll_apart, irq_apart, detect_apart}
use Rattle.record.specs.Grammar.{Entry}
use Rattle.record.specs.Wire.{File, performs, events, wire}
use Rattle.transfers.specs.Entries.{entries_cancelled, failed_cancel}
use Rattle.transfers.specs.Driver.{with_transfer}
use Rattle.record.specs.Calls.{Call, begin, step, cancel, open_pipe, close_pipe, poll_pipe, interrupt, detect, Effect, call}
use Rattle.record.specs.Asked.{Typed, AllTyped, Begun, armed_by}
use Rattle.record.specs.Fates.{begun_by, begun_from}
use Rattle.record.specs.Told.{Live, no_transfer, Watch, marks}
use Rattle.record.specs.Shown.{note, shown_from}
use Rattle.record.specs.Premises.{CallGood}
use Rattle.record.proofs.Heard.{next_live, next_count, next_watch}
use Rattle.record.proofs.Unbroken.{entries_from, UnbrokenFrom}
use Rattle.record.proofs.Logs.{Silent, silent_apart}
use Rattle.record.proofs.Parts.{armed_by_all}
use Rattle.record.proofs.Inv.{Inv, Splits, Kept, wire_none, same_due, inv_kept}
use Rattle.record.proofs.Stepping.{step_kept}
use Rattle.record.proofs.Beginning.{begin_kept}
use Rattle.transfers.specs.declared.driver.Run.{Run}

-- ---- cancel, and the calls that serve the pipes, the interrupt routine and detection

cancel_kept : (d : Driver) (l : Live) (n : ℕ) (w : Watch) (f : File) (rest : List Entry) → Inv l n w f d.transfer rest → Kept l n w f rest cancel (call d cancel)
unfolding call cancel_of
cancel_kept d l n w f rest i = at d.transfer i
  where
    effect : Option Run → Effect cancel
    effect t = let o = cancel_of t in record { next = with_transfer d o.next (entries_cancelled o.answer d.entries); answer = o.answer; writes = []; memory = []; armed = (call d cancel).armed; failed = failed_cancel o.answer d.entries }

    at : (t : Option Run) → Inv l n w f t rest → Kept l n w f rest cancel (effect t)
    at None i = record { rest' = rest; inv = i; split = same_due f [] [] rest refl; room = λ q r. r }
    at (Some u) i = by (either_serves u)
      where
        by : (b : Bool) → Kept l n w f rest cancel
            (let o = cancel_if b (Some u) (toggle_in u.request.kind) (toggle_out u.request.kind (stage_parity u.stage)) in record { next = with_transfer d o.next (entries_cancelled o.answer d.entries); answer = o.answer; writes = []; memory = []; armed = (call d cancel).armed; failed = failed_cancel o.answer d.entries })
        by false = record { rest' = rest; inv = i; split = same_due f [] [] rest refl; room = λ q r. r }
        by true = record { rest' = []; inv = refl; split = wire_none f [] [] refl; room = λ q r. absurd (true≢false q) }

-- A silent log, with the transfer as it was.
passes : (l : Live) (n : ℕ) (w : Watch) (f : File) (t : Option Run) (rest : List Entry) (ws : List Write) → Silent ws → Inv l n w f t rest
    → Inv l n (marks w (events f ws)) (performs f ws) t rest
passes l n w f t rest ws s i = inv_kept l n w (marks w (events f ws)) f (performs f ws) t rest (λ ks o. rw (s.are f) o) (s.addr f) i

-- ---- every call

pub call_kept : (c : Call) (d : Driver) (l : Live) (n : ℕ) (w : Watch) (f : File) (rest : List Entry) → Typed c → Inv l n w f d.transfer rest
    → CallGood (note c (call d c).answer) l n w (events f (call d c).writes) → Kept l n w f rest c (call d c)
unfolding call
call_kept (begin x buf m log) d l n w f rest ty i h = begin_kept d n w f buf m log x l d.transfer rest ty.0 i
call_kept (step b y now m log) d l n w f rest ty i h = step_kept d b y now m log l n w f d.transfer rest i h
call_kept cancel d l n w f rest ty i h = cancel_kept d l n w f rest i
call_kept (open_pipe a x e p k log) d l n w f rest ty i h =
    let ws = (opening d a x e p k log).writes in
    let s = silent_apart ws (open_apart d a x e p k log) in
    record { rest' = rest; inv = passes l n w f d.transfer rest ws s i; split = same_due f ws [] rest (s.are f); room = λ q r. r }
call_kept (close_pipe k) d l n w f rest ty i h = record { rest' = rest; inv = i; split = same_due f [] [] rest refl; room = λ q r. r }
call_kept (poll_pipe k y m log) d l n w f rest ty i h =
    let ws = (polling d k y m log).writes in
    let s = silent_apart ws (poll_apart d k y m log) in
    record { rest' = rest; inv = passes l n w f d.transfer rest ws s i; split = same_due f ws m rest (s.are f); room = λ q r. r }
call_kept (interrupt ints status log) d l n w f rest ty i h =
    let ws = (waking ints status log).writes in
    let s = silent_apart ws (irq_apart ints status log) in
    record { rest' = rest; inv = passes l n w f d.transfer rest ws s i; split = same_due f ws [] rest (s.are f); room = λ q r. r }
call_kept (detect sie log) d l n w f rest ty i h =
    let ws = (detecting d sie log).writes in
    let s = silent_apart ws (detect_apart d sie log) in
    record { rest' = rest; inv = passes l n w f d.transfer rest ws s i; split = same_due f ws [] rest (s.are f); room = λ q r. r }

-- ---- every list

armed_append : (a b : List Begun) → armed_by_all (a ++ b) ≡ armed_by_all a ++ armed_by_all b
armed_append [] b = refl
armed_append (g ∷ a) b = ap (λ (r : List Entry). armed_by g ++ r) (armed_append a b) ∙ sym (append_assoc (armed_by g) (armed_by_all a) (armed_by_all b))

none_due : (n : ℕ) (w : Watch) (f : File) (t : Option Run) (rest : List Entry) → Inv no_transfer n w f t rest → rest ≡ []
none_due n w f None rest i = i
none_due n w f (Some r) rest i = absurd i

-- The record of a list is what is due and then the entries of the transfers begun.
record_is : (cs : List Call) (l : Live) (n : ℕ) (w : Watch) (f : File) (d : Driver) (rest : List Entry) → AllTyped cs → Inv l n w f d.transfer rest
    → UnbrokenFrom l n w f d cs
    → entries_from f d cs ≡ rest ++ armed_by_all (begun_from (shown_from d cs))
unfolding entries_from begun_from UnbrokenFrom shown_from
record_is [] l n w f d rest ty i h = sym (append-nil rest ∙ none_due n w f d.transfer rest (subst (λ (k : Live). Inv k n w f d.transfer rest) h i))
record_is (c ∷ cs) l n w f d rest ty i h =
    let o = call d c in
    let t = note c o.answer in
    let k = call_kept c d l n w f rest ty.0 i h.1 in
    let now = wire f o.writes o.memory in
    let begun = armed_by_all (begun_by t) in
    let later = armed_by_all (begun_from (shown_from o.next cs)) in
    let sp : rest ++ begun ≡ now ++ k.rest' = subst (λ (v : Bool). Splits v (rest ++ begun) now k.rest') h.0 k.split in
    let ih = record_is cs (next_live t l) (next_count t n) (next_watch t w (events f o.writes)) (performs f o.writes) o.next k.rest' ty.1 k.inv h.3 in
    ap (λ (r : List Entry). now ++ r) ih
    ∙ sym (append_assoc now k.rest' later)
    ∙ ap (λ (r : List Entry). r ++ later) (sym sp)
    ∙ append_assoc rest begun later
    ∙ ap (λ (r : List Entry). rest ++ r) (sym (armed_append (begun_by t) (begun_from (shown_from o.next cs))))

-- ---- from a driver with nothing under way, over any registers

pub record_of_begun : (cs : List Call) (n : ℕ) (w : Watch) (f : File) (d : Driver) → d.transfer ≡ None → AllTyped cs → UnbrokenFrom no_transfer n w f d cs
    → entries_from f d cs ≡ armed_by_all (begun_from (shown_from d cs))
record_of_begun cs n w f d e ty h = record_is cs no_transfer n w f d [] ty (subst (λ (t : Option Run). Inv no_transfer n w f t []) (sym e) refl) h
