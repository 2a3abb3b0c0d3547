-- The reader decides, then the room. Assumes nothing.
use Rattle.std.specs.Prelude.{Result, Err}
use Prim.Native.Nat.{ℕ}
use mathlib.Core.Path.{ap, sym, subst, ◌∙◌}
use Rattle.std.proofs.lemmas.Result.{err_from_is_err_and}
use Rattle.export.specs.Exported.{Exported}
use Rattle.record.specs.Refusal.{check_reply}
use Rattle.record.specs.Verdict.{Verdict}
use Rattle.export.proofs.Deciding.{refused_as, accepted_as}
use Rattle.export.proofs.export.Goals as goal
use Rattle.record.specs.declared.refusal.Refusal.{Refusal}

pub returns-in_err-check : goal.returns-in_err-check
returns-in_err-check c = λ b.
    let a = c.args in
    let w = err_from_is_err_and c.from_residual.result c.from_residual.ensures.1 in
    let e = w.1 ∙ ap Err w.2 in
    subst (λ (r : Result ℕ Refusal). Exported a.s.now a.out.now r a.out.now) (sym e)
    (refused_as a.s.now a.out.now _ b (subst (λ (r : Result ℕ Refusal). Verdict a.s.now (check_reply r)) c.in_err-check.was (c.check.ensures b)))

pub returns : goal.returns
returns c = λ b.
    let a = c.args in
    accepted_as a.s.now a.out.now _ _ _ b (subst (λ (r : Result ℕ Refusal). Verdict a.s.now (check_reply r)) c.in_ok-check.was (c.check.ensures b)) c.export_whole.ensures
