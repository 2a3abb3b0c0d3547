-- The part that goes with the answer. Assumes nothing.
use mathlib.Core.Path.{◌∙◌}
use Rattle.descriptor.proofs.Replying.{found_descriptor}
use Rattle.descriptor.proofs.walk.descriptor_at.Goals as goal

pub part_at-requires : goal.part_at-requires
part_at-requires c =
    let f = found_descriptor c.args.bytes.now c.args.at _ _ _ c.in-Ok-Some.is c.in-Ok-Some.field-0-is c.answer_at.ensures in
    (f.before, f.within)

pub returns-in-Ok-Some : goal.returns-in-Ok-Some
returns-in-Ok-Some c = c.part_at.ensures ∙ (found_descriptor c.args.bytes.now c.args.at _ _ _ c.in-Ok-Some.is c.in-Ok-Some.field-0-is c.answer_at.ensures).is
