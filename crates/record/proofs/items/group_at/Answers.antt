-- `group_at` adds packet by packet. The invariant: what is left to do is what there was to do.
-- Assumes nothing.
use mathlib.Core.Path.{◌≡◌, ◌∙◌}
use native.Mathlib.Omega.{arith}
use lib.ListN.{drop}
use Rattle.std.specs.Prelude.{Ok, Some}
use Rattle.std.proofs.Common.{rules}
use Rattle.record.specs.Items.{group_of}
use Rattle.record.specs.Reader.{look}
use Rattle.record.specs.declared.look.Look.TheVariants.{Out}
use Rattle.record.proofs.Looking.{out_at}
use Rattle.record.proofs.Spans.{packet_on, walk_on, walked}
use Rattle.record.proofs.items.group_at.Goals as goal

pub loop-x-smaller : goal.loop-x-smaller
loop-x-smaller c =
    let l = c.loop-x in
    let e : look (drop l.p.at c.args.s.now) ≡ Ok (Some (Out c.in-Ok-Some-Out.x)) = search rules in
    omega (arith, out_at c.args.s.now l.p.at c.in-Ok-Some-Out.x e)

pub loop-x-preserved : goal.loop-x-preserved
loop-x-preserved c =
    let l = c.loop-x in
    let e : look (drop l.p.at c.args.s.now) ≡ Ok (Some (Out c.in-Ok-Some-Out.x)) = search rules in
    walk_on c.args.s.now c.args.at l.p _ l.invariant (packet_on c.args.s.now l.p c.in-Ok-Some-Out.x e ∙ rw c.if-x.false)

pub returns-then-x : goal.returns-then-x
returns-then-x c =
    let l = c.loop-x in
    let e : look (drop l.p.at c.args.s.now) ≡ Ok (Some (Out c.in-Ok-Some-Out.x)) = search rules in
    walked c.args.s.now c.args.at l.p _ l.invariant (packet_on c.args.s.now l.p c.in-Ok-Some-Out.x e ∙ rw c.if-x.true)

pub returns-in_default : goal.returns-in_default
unfolding group_of
returns-in_default c = walked c.args.s.now c.args.at c.loop-x.p _ c.loop-x.invariant (search rules)

pub returns-in_default-2 : goal.returns-in_default-2
unfolding group_of
returns-in_default-2 c = walked c.args.s.now c.args.at c.loop-x.p _ c.loop-x.invariant (search rules)

pub returns-in_default-3 : goal.returns-in_default-3
unfolding group_of
returns-in_default-3 c = walked c.args.s.now c.args.at c.loop-x.p _ c.loop-x.invariant (search rules)
