-- `Driven`, proved. Assumes nothing.
use Rattle.std.specs.Prelude.{Err, Result}
use mathlib.Core.Path.{◌≡◌, refl, sym, ap, subst}
use mathlib.Core.List.{List, []}
use Prim.Native.Nat.{ℕ}
use native.Mathlib.Omega.{arith}
use Rattle.transfers.specs.declared.refusal.Refusal.{Refusal}
use Rattle.transfers.specs.Answers.{nothing_armed}
use Rattle.host.specs.declared.answers.SubmitRefusal.{SubmitRefusal}
use Rattle.host.specs.declared.fields.Fields.{Fields}
use Rattle.host.specs.declared.controller.HostController.{HostController}
use Rattle.host.specs.Submit.{submit_next, submit_of}
use Rattle.host.specs.Turn.{whose_turn_of}
use Rattle.host.specs.Start.{StartKind, Starting, start_of}
use Rattle.host.proofs.Begins.{Start, refused_start, taken_start, start_is}
use Rattle.term3.specs.Calls.{fields_of, call}
use Rattle.term3.specs.Callers.{no_callers}
use Rattle.term3.specs.HostCalls.{fresh_for}
use Rattle.term3.specs.Driven.{Driven}
use Rattle.term3.proofs.Agreeing.{fresh_agrees}
use Rattle.term3.proofs.Shadow.{start_begins, submit_driver}
use Rattle.term3.proofs.Turns.{agrees_after}

refused_coming : (d : HostController) (c : ℕ) (x : Fields) (f : ℕ) (why : SubmitRefusal) → (submit_of d c x f).answer ≡ Err why → (submit_of d c x f).next ≡ d
unfolding submit_of
refused_coming d c x f why e = ap (λ (a : Result (Unit {0}) SubmitRefusal). submit_next a d c x f) e

refused_start_lem : (d : HostController) (k : StartKind) (f : ℕ) (buf m log : List ℕ) (why : Refusal) → let o = start_of d k f buf m log in o.answer ≡ Err why
    → (o.next ≡ d) × (o.writes ≡ []) × (o.memory ≡ m) × (o.armed ≡ nothing_armed)
refused_start_lem d k f buf m log why q = go (start_is d k f buf m log) q
  where
    Goes : Starting → Type 0
    Goes o = o.answer ≡ Err why → (o.next ≡ d) × (o.writes ≡ []) × (o.memory ≡ m) × (o.armed ≡ nothing_armed)

    go : Start d k f buf m log → Goes (start_of d k f buf m log)
    go (refused_start w e) = subst Goes (sym e) (λ q. (refl, refl, refl, refl))
    go (taken_start b) = subst Goes (sym b.is) (λ q. absurd (let z : ◌≡◌ {A = ℕ} 0 1 = cc in omega arith))

pub driven : Driven
unfolding call whose_turn_of
driven = record {
  fresh_driver = λ made. refl;
  begins = λ made cs. start_begins _ _ (agrees_after cs (no_callers made.shares) (fresh_for made) (fresh_agrees made));
  comings = λ d c x n f. submit_driver d c (fields_of x n) f;
  looks = λ d f. refl;
  refused_comings = λ d c x n f why e. refused_coming d c (fields_of x n) f why e;
  refused_starts = λ d k f buf m log why e. refused_start_lem d k f buf m log why e;
}
