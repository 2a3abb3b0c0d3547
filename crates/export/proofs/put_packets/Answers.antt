-- What is done has been put. Assumes nothing.
use mathlib.Core.Path.{refl, ap, sym, ◌∙◌}
use native.Mathlib.Nat.{zero-add}
use native.Mathlib.Omega.{arith}
use lib.ListN.{length}
use lib.Seq.{sets}
use Rattle.export.specs.Export.{export_of}
use Rattle.export.proofs.Walking.{store_start, store_on, all_done}
use Rattle.export.proofs.put_packets.Goals as goal

pub loop-l-init : goal.loop-l-init
loop-l-init c = (refl, λ w h. store_start c.args.s.now c.args.out.now w)

pub loop-l-preserved : goal.loop-l-preserved
loop-l-preserved c =
    let a = c.args in
    let l = c.loop-l in
    let p = c.put_entry-used in
    let e = sym c.lengths_at.ensures ∙ c.in-Some.is in
    (omega (arith, p.auto, l.invariant.0), λ w h. store_on w.ms a.s.now l.at l.used p.result a.out.now _ _ c.in-Some.l e (l.invariant.1 w h) h p.ensures)

pub shape_of-out : goal.shape_of-out
shape_of-out c = c.loop-l.invariant.0

pub returns : goal.returns
returns c = λ w h.
    let s = c.args.s.now in
    let l = c.loop-l in
    let k = l.invariant.1 w h in
    let e = ap export_of (all_done w.ms s l.at l.used k.walked (sym c.lengths_at.ensures ∙ c.in_default.is)) in
    record { next = k.walked.size ∙ ap length e ∙ sym (zero-add (length (export_of w.ms))); bytes = k.bytes ∙ ap (sets c.args.out.now 0) e }
