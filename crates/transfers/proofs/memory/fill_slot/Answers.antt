-- `fill_slot` stores the packet at its slot. Assumes nothing.
use Rattle.std.proofs.Common.{ℕ, ◌+◌, ◌-◌, List, length, ap, ap₂, ◌∙◌, arith, length-take}
use lib.Seq.{sets}
use Rattle.pool.proofs.Stores.{put_sets}
use Rattle.transfers.proofs.Stores.{slot_inside}
use Rattle.transfers.proofs.memory.fill_slot.Goals as goal

pub returns : goal.returns
returns c =
    let a = c.args in
    let at = c.slot_address-at in
    let kept = c.copy_from_slice.ensures.after in
    let n = simp length-take at (ap length kept) in
    put_sets at.result (at.result + a.n - at.result) a.pm.now c.copy_from_slice.new.self (omega (arith, n)) (omega (arith, at.ensures, slot_inside a.slot))
    ∙ ap₂ (λ (k : ℕ) (v : List ℕ). sets a.pm.now k v) at.ensures kept
