-- `take_slot` stores the slot's first bytes into the buffer. Assumes nothing.
use Rattle.std.proofs.Common.{◌≡◌, ℕ, ◌+◌, ◌-◌, List, length, take, drop, ap, ap₂, ◌∙◌, arith, length-take, length-drop}
use lib.Seq.{sets}
use Rattle.pool.proofs.Stores.{put_sets}
use Rattle.transfers.proofs.Stores.{slot_inside}
use Rattle.transfers.proofs.memory.take_slot.Goals as goal

pub returns : goal.returns
returns c =
    let a = c.args in
    let at = c.slot_address-at in
    let kept = c.copy_from_slice.ensures.after in
    let n = simp (length-take, length-drop) at (ap length kept) in
    let room : at.result + a.n - at.result ≡ a.n = omega arith in
    put_sets a.offset (a.offset + a.n - a.offset) a.buf.now c.copy_from_slice.new.self (omega (arith, n, at.ensures, slot_inside a.slot)) (omega arith)
    ∙ ap (λ (v : List ℕ). sets a.buf.now a.offset v) kept
    ∙ ap₂ (λ (j k : ℕ). sets a.buf.now a.offset (take j (drop k a.pm.now))) room at.ensures
