-- The fields, then the three bytes. Assumes nothing.
use mathlib.Core.Path.{refl}
use native.Mathlib.Omega.{arith}
use borrow.Author.Tests.{le-leb}
use Rattle.packet.specs.Packet.{token, encode}
use Rattle.packet.proofs.writer.write_token.Goals as goal

pub returns : goal.returns
unfolding encode
returns c =
    let a = c.args in
    c.write_eleven.ensures (token a.kind a.address a.endpoint) (rw (le-leb a.address 127 (omega arith), le-leb a.endpoint 15 (omega arith))) refl
