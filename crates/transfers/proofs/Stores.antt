-- Where the slots lie. Assumes nothing.
use Rattle.std.proofs.Common.{◌+◌, ◌≤◌, Bool, true, false, lit≤}
use Rattle.transfers.specs.Memory.{slot_address}

-- The slots are 0x180 to 0x1FF.
pub slot_inside : (s : Bool) → (0x180 ≤ slot_address s) × (slot_address s + 64 ≤ 0x200)
slot_inside false = (lit≤ tt, lit≤ tt)
slot_inside true = (lit≤ tt, lit≤ tt)
