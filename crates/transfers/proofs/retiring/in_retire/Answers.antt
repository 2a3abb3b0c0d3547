-- `in_retire` is `in_retire_one`. Assumes nothing.
use Rattle.std.proofs.Common.{ap, arith}
use Rattle.cutting.specs.declared.depacketiser.InRetired.{InRetired}
use Rattle.cutting.proofs.Retiring.{retire_fits}
use Rattle.transfers.proofs.retiring.in_retire.Goals as goal

pub take_slot-requires : goal.take_slot-requires
take_slot-requires c =
    let a = c.args in
    let n = c.slot_length-n.result in
    let e = ap (λ (y : InRetired). y.count) c.retire-r.ensures in
    let f = retire_fits a.packets n in
    (omega (arith, e, f, c.if-n-gt64.false), omega (arith, e, f, c.requires))
