-- A PID, the bytes and their CRC16, where they fit. Assumes nothing.
use mathlib.Core.Path.{refl, ◌∙◌}
use native.Mathlib.Omega.{arith}
use Rattle.std.proofs.Common.{rules}
use borrow.Author.Tests.{le-leb}
use lib.ListN.{length}
use Rattle.packet.specs.Packet.{payload, low, encode}
use Rattle.packet.specs.Crc.{crc16_of}
use Rattle.packet.proofs.Written.{wrote, stored_data}
use Rattle.packet.proofs.writer.write_data.Goals as goal

pub returns : goal.returns
unfolding encode
returns c =
    let a = c.args in
    let e = c.in_ok-end.ensures in
    wrote (payload a.second a.bytes.now) a.out.now _ a.used c.in_ok-end.end (le-leb (length a.bytes.now) 64 (omega arith)) e.0 e.1
    (stored_data a.out.now a.bytes.now (low (crc16_of a.bytes.now)) _ _ c.from.result a.used c.in_ok-end.end
    c.copy_from_slice.ensures.after (search rules) refl e.0 e.1 ∙ rw c.from.ensures)
