-- `put_out` stores an OUT entry, its bytes from the slot.
-- Assumes nothing.
use mathlib.Core.Path.{◌≡◌, refl, ◌∙◌}
use mathlib.Core.Bool.{Bool, true, false}
use native.Mathlib.Omega.{arith}
use Rattle.std.specs.Int.{from_bool}
use Rattle.record.proofs.Puts.{then, nothing}
use Prim.Native.Nat.{◌+◌, ◌≤◌, ◌-◌}
use Rattle.transfers.proofs.Stores.{slot_inside}
use Rattle.record.specs.Bytes.{flag_byte, encode_all}
use Rattle.record.proofs.Encoding.{encode_one, slot_length, out_low}
use Rattle.record.proofs.Chips.{same_slot}
use Rattle.record.proofs.writer.put_out.Goals as goal

pub returns-in_default : goal.returns-in_default
unfolding encode_all
returns-in_default c = rw c.in_default.is (nothing _ _)

-- The byte of a Boolean.
flag_is : (b : Bool) → from_bool b ≡ flag_byte b
flag_is true = refl
flag_is false = refl

pub slice_bounds-put-end : goal.slice_bounds-put-end
slice_bounds-put-end c = omega (arith, c.slot_address-from.ensures, slot_inside c.in-Some.x.arm.slot)

pub returns : goal.returns
returns c =
    let pm = c.args.pm.now in
    let x = c.in-Some.x in
    let n = x.arm.length in
    let from = c.slot_address-from.result in
    let low : n ≤ 64 = omega (arith, rw c.in-Some.is at (out_low c.args.out c.requires.1)) in
    let k : from + n - from ≡ n = omega arith in
    let head = rw (c.from.ensures ∙ flag_is x.arm.pid, c.from-2.ensures ∙ flag_is x.arm.last) at c.put-next.ensures in
    let own = rw (k, c.slot_address-from.ensures, same_slot x.arm.slot) at c.put.ensures in
    rw (c.in-Some.is, encode_one, slot_length pm x.arm.slot n c.told-pm low) (then head own)
