-- Term 3 over the host controller's calls, from the driver's. Assumes nothing.
use mathlib.Core.Path.{◌≡◌, refl, sym, ap, subst, ◌∙◌}
use mathlib.Core.Bool.{false}
use mathlib.Core.List.{List, [], map}
use Prim.Native.Nat.{ℕ, ◌≤◌}
use native.Mathlib.Omega.{arith}
use lib.ListN.{length}
use Rattle.transfers.specs.Driver.{fresh}
use Rattle.record.specs.Grammar.{Entry, PlainReading}
use Rattle.record.specs.Segments.{entry}
use Rattle.record.specs.Wire.{File}
use Rattle.record.specs.Calls as D
use Rattle.record.specs.Asked as Asked
use Rattle.record.specs.Told.{Shown, untold}
use Rattle.record.specs.Shown as S
use Rattle.record.specs.Record.{answered_from, CountsTo}
use Rattle.record.specs.Fates.{broken_of}
use Rattle.record.specs.Premises.{LentFrom}
use Rattle.record.specs.Stages.{StagesFrom}
use Rattle.record.specs.Bytes.{record_of}
use Rattle.record.specs.Kept.{kept, refused, kept_all}
use Rattle.record.specs.Term3.{wire_record, fates, Premises, Unbroken, ComesFrom, Recorded, Term3, Written, ReadBack, InBytes}
use Rattle.record.proofs.Term3 as R
use Rattle.term3.specs.Calls.{Call}
use Rattle.term3.specs.Callers.{no_callers}
use Rattle.term3.specs.Shown.{shown_from}
use Rattle.term3.specs.HostCalls.{AllTyped, Made, fresh_for, Reaches, host_calls}
use Rattle.term3.proofs.Agreeing.{fresh_agrees}
use Rattle.term3.proofs.Table.{table}
use Rattle.term3.proofs.Shadow.{shadow, AllCame, same_shown, typed_shadow, lent_shadow}
use Rattle.term3.proofs.Lifting.{lift, lift_typed, lifts}

-- The driver's calls that a list makes.
abbrev driven : Made → List Call → List D.Call
driven made cs = shadow (no_callers made.shares) (fresh_for made) cs

same : (made : Made) (cs : List Call) → S.shown_from (fresh made.rule) (driven made cs) ≡ shown_from (no_callers made.shares) (fresh_for made) cs
same made cs = sym (same_shown cs (no_callers made.shares) (fresh_for made) (fresh_agrees made))

none_came : (shares : List ℕ) → AllCame (no_callers shares)
none_came shares c = (omega arith, omega arith, (omega arith, omega arith, omega arith, omega arith, omega arith))

typed : (made : Made) (cs : List Call) → AllTyped cs → Asked.AllTyped (driven made cs)
typed made cs ty = typed_shadow cs (no_callers made.shares) (fresh_for made) ty (none_came made.shares)

-- ---- from a record of the grammar to calls

comes : (made : Made) → Reaches made.shares → (f : File) (r : List Entry) → PlainReading r → ComesFrom host_calls made f r
comes made u f r h =
    let rule = made.rule in
    let k = (R.term3).comes rule tt f r h in
    let ds = k.calls in
    let cs = lift u.caller 0 ds in
    let l = lifts ds u.caller (no_callers made.shares) (fresh_for made) u.small u.reaches k.typed (fresh_agrees made) (λ c z. refl) k.unrefused in
    let e : S.shown_from (fresh rule) ds ≡ shown_from (no_callers made.shares) (fresh_for made) cs = ap (S.shown_from (fresh rule)) (sym l.shadows) ∙ same made cs in
    record {
      calls = cs;
      typed = lift_typed ds u.caller 0 k.typed;
      premises = subst (Premises f) e k.premises;
      lent = subst (LentFrom (untold f)) e k.lent;
      unrefused = l.unrefused;
      unbroken = subst (λ (os : List Shown). broken_of (fates f os) ≡ []) e k.unbroken;
      is = subst (λ (os : List Shown). wire_record f os ≡ map entry r) e k.is;
    }

pub term3 : Term3 host_calls
term3 = record {
  unbroken = λ made f cs ty. subst (λ (os : List Shown). Premises f os → broken_of (fates f os) ≡ [] → Unbroken f os) (same made cs) ((R.term3).unbroken made.rule f (driven made cs) (typed made cs ty));
  comes = comes;
  recorded = λ made f cs ty. subst (λ (os : List Shown). Premises f os → Recorded f os) (same made cs) ((R.term3).recorded made.rule f (driven made cs) (typed made cs ty));
  table = table;
  stages = λ made f cs ty. subst (StagesFrom false (untold f)) (same made cs) ((R.term3).stages made.rule f (driven made cs) (typed made cs ty));
}

pub in_bytes : InBytes host_calls
in_bytes = record {
  answered = λ made f cs ty. subst (λ (os : List Shown). wire_record f os ≡ answered_from os) (same made cs) ((R.in_bytes).answered made.rule f (driven made cs) (typed made cs ty));
  counts = λ made f cs ty. subst (λ (os : List Shown). CountsTo 65536 (wire_record f os)) (same made cs) ((R.in_bytes).counts made.rule f (driven made cs) (typed made cs ty));
  written = λ made f cs ty l ms l' n. subst (λ (os : List Shown). kept_all l ms os ≡ kept l' n → Written f os l l' n) (same made cs) ((R.in_bytes).written made.rule f (driven made cs) (typed made cs ty) l ms l' n);
  room = λ made cs ty lent l ms h.
      subst (λ (os : List Shown). length (record_of (answered_from os)) ≤ length l → kept_all l ms os ≡ refused → ⊥) (same made cs)
      ((R.in_bytes).room made.rule (driven made cs) (typed made cs ty) (lent_shadow cs (no_callers made.shares) (fresh_for made) lent) l ms h);
  read = λ made f cs ty. subst (λ (os : List Shown). Premises f os → ReadBack f os (record_of (wire_record f os))) (same made cs) ((R.in_bytes).read made.rule f (driven made cs) (typed made cs ty));
}
