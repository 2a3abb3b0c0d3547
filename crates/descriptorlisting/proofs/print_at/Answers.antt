-- The descriptor that is found lies in the bytes. Assumes nothing.
use Rattle.std.proofs.Common.{length, arith, ap}
use Rattle.descriptor.proofs.Replying.{found_descriptor}
use Rattle.descriptorlisting.proofs.print_at.Goals as goal

pub print_descriptor-requires : goal.print_descriptor-requires
print_descriptor-requires g c =
    let f = found_descriptor c.args.bytes.now c.args.at _ _ _ c.in-Ok-Some.is c.in-Ok-Some.field-0-is c.answer_at.ensures in
    omega (arith, f.two, ap length c.descriptor_at-part.ensures)

pub overflow_add-result : goal.overflow_add-result
overflow_add-result g c =
    let f = found_descriptor c.args.bytes.now c.args.at _ _ _ c.in-Ok-Some.is c.in-Ok-Some.field-0-is c.answer_at.ensures in
    omega (arith, f.ends, ap length c.descriptor_at-part.ensures)
