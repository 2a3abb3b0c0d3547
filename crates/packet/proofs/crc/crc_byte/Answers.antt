-- One byte: the table's entry does eight bits at once. Assumes nothing.
use mathlib.Core.Path.{◌≡◌, ap, sym, ◌∙◌}
use Prim.Native.Nat.{◌/◌, ◌%◌}
use native.Mathlib.Omega.{arith}
use lib.Bits.{bit_xor, xor_lt}
use lib.ListN.{get_or}
use Rattle.packet.specs.Crc.{entry_of}
use Rattle.packet.proofs.Remainders.{byte_by_table, entry_lt}
use Rattle.packet.proofs.crc.crc_byte.Goals as goal

pub returns : goal.returns
returns c =
    let a = c.args in
    let n = bit_xor a.c a.x % 256 in
    let e : get_or a.table.now n 0 ≡ entry_of n = c.requires.entries n (omega arith) in
    (ap (bit_xor (a.c / 256)) e ∙ sym (byte_by_table a.c a.x (omega arith)), omega (arith, xor_lt 16 (a.c / 256) (get_or a.table.now n 0) (omega arith) (omega (arith, e, entry_lt n (omega arith)))))
