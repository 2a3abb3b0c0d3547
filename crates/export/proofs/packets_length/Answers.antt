-- What is done has been counted. Assumes nothing.
use mathlib.Core.Path.{ap, sym, ◌∙◌}
use mathlib.Core.List.{List}
use Rattle.record.specs.Segments.{Element}
use native.Mathlib.Omega.{arith}
use lib.ListN.{length}
use Rattle.export.specs.Export.{export_of}
use Rattle.export.proofs.Walking.{start, bounds, step_on, all_done}
use Rattle.export.proofs.packets_length.Goals as goal

pub loop-l-init : goal.loop-l-init
loop-l-init c = (omega arith, omega arith, λ w. start c.args.s.now w)

pub loop-l-preserved : goal.loop-l-preserved
loop-l-preserved c =
    let s = c.args.s.now in
    let l = c.loop-l in
    let e = sym c.lengths_at.ensures ∙ c.in-Some.is in
    let b = bounds s l.at c.in-Some.l e in
    (omega (arith, b.twice, l.invariant.0), omega (arith, b.inside), λ w. step_on w.ms s l.at l.n c.in-Some.l e (l.invariant.2 w))

pub returns : goal.returns
returns c = λ w.
    let l = c.loop-l in
    let k = l.invariant.2 w in
    k.size ∙ ap (λ (ms : List Element). length (export_of ms)) (all_done w.ms c.args.s.now l.at l.n k (sym c.lengths_at.ensures ∙ c.in_default.is))
