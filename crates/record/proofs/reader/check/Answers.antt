-- `check` reads entry by entry. The invariant: what is left to do is what there was to do.
-- Assumes nothing.
use Rattle.std.specs.Prelude.{Err, Ok}
use mathlib.Core.Path.{ap, sym, ◌∙◌}
use Prim.Native.Nat.{ℕ}
use native.Mathlib.Omega.{arith}
use lib.Dec.{eqb}
use Rattle.std.proofs.Common.{Break}
use Rattle.std.proofs.lemmas.Result.{err_from_is_err_and}
use Rattle.record.specs.Reader.{check_of}
use Rattle.record.specs.declared.refusal.Refusal.TheVariants.{Mark, Grammar}
use Rattle.record.proofs.Verdicts.{verdict_of}
use Rattle.record.proofs.Turns.{head_five, start, onward, turn_onward, turn_on, turn_off, stopped, finished}
use Rattle.record.proofs.reader.check.Goals as goal

pub returns-then-not-head_right : goal.returns-then-not-head_right
unfolding check_of
returns-then-not-head_right c = verdict_of c.args.s.now (Err Mark) (simp (sym c.head_right.ensures ∙ c.if-not-head_right.true))

pub loop-entry-init : goal.loop-entry-init
loop-entry-init c =
    let s = c.args.s.now in
    start s _ (head_five s (sym c.head_right.ensures ∙ c.if-not-head_right.false))

pub returns-in_err-entry : goal.returns-in_err-entry
returns-in_err-entry c =
    let s = c.args.s.now in
    let l = c.loop-entry in
    let w = err_from_is_err_and c.from_residual.result c.from_residual.ensures.1 in
    verdict_of s c.from_residual.result (w.1 ∙ ap Err w.2 ∙ stopped s _ l.p _ (sym c.head_right.ensures ∙ c.if-not-head_right.false) (ap (λ (n : ℕ). eqb n 2) c.version-two.ensures) l.invariant
    (turn_off s _ l.p _ (sym c.look_at.ensures ∙ c.in_err-entry.was)))

pub returns-in_err-p : goal.returns-in_err-p
returns-in_err-p c =
    let s = c.args.s.now in
    let l = c.loop-entry in
    let w = err_from_is_err_and c.from_residual-in_err-p.result c.from_residual-in_err-p.ensures.1 in
    verdict_of s c.from_residual-in_err-p.result (w.1 ∙ ap Err w.2 ∙ stopped s _ l.p _ (sym c.head_right.ensures ∙ c.if-not-head_right.false) (ap (λ (n : ℕ). eqb n 2) c.version-two.ensures) l.invariant
    (turn_on s _ l.p c.in-Some.entry _ (sym c.look_at.ensures ∙ c.in_ok-entry.was ∙ ap Ok c.in-Some.is) (sym c.in_err-p.was ∙ c.take.ensures)))

pub loop-entry-smaller : goal.loop-entry-smaller
loop-entry-smaller c =
    let s = c.args.s.now in
    let l = c.loop-entry in
    let t = turn_on s _ l.p c.in-Some.entry (Ok c.in_ok-p.p) (sym c.look_at.ensures ∙ c.in_ok-entry.was ∙ ap Ok c.in-Some.is) (sym c.in_ok-p.was ∙ c.take.ensures) in
    let o = turn_onward s _ l.p c.in_ok-p.p l.invariant.inside t in
    omega (arith, o.further, o.inside)

pub loop-entry-preserved : goal.loop-entry-preserved
loop-entry-preserved c =
    let s = c.args.s.now in
    let l = c.loop-entry in
    onward s _ l.p c.in_ok-p.p l.invariant (turn_on s _ l.p c.in-Some.entry (Ok c.in_ok-p.p) (sym c.look_at.ensures ∙ c.in_ok-entry.was ∙ ap Ok c.in-Some.is) (sym c.in_ok-p.was ∙ c.take.ensures))

pub returns-then-not-may_end : goal.returns-then-not-may_end
returns-then-not-may_end c =
    let s = c.args.s.now in
    let l = c.loop-entry in
    verdict_of s (Err Grammar) (stopped s _ l.p (Err Grammar) (sym c.head_right.ensures ∙ c.if-not-head_right.false) (ap (λ (n : ℕ). eqb n 2) c.version-two.ensures) l.invariant
    (turn_off s _ l.p _ (sym c.look_at.ensures ∙ c.in_ok-entry.was ∙ ap Ok c.in_default.is) ∙ ap Break (finished l.p.scan l.p.count ∙ rw (sym c.may_end.ensures ∙ c.if-not-may_end.true))))

pub returns : goal.returns
returns c =
    let s = c.args.s.now in
    let l = c.loop-entry in
    verdict_of s (Ok l.p.count) (stopped s _ l.p (Ok l.p.count) (sym c.head_right.ensures ∙ c.if-not-head_right.false) (ap (λ (n : ℕ). eqb n 2) c.version-two.ensures) l.invariant
    (turn_off s _ l.p _ (sym c.look_at.ensures ∙ c.in_ok-entry.was ∙ ap Ok c.in_default.is) ∙ ap Break (finished l.p.scan l.p.count ∙ rw (sym c.may_end.ensures ∙ c.if-not-may_end.false))))
