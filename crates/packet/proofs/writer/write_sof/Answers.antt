-- The frame number, then the three bytes. Assumes nothing.
use mathlib.Core.Path.{refl}
use native.Mathlib.Omega.{arith}
use borrow.Author.Tests.{le-leb}
use Rattle.packet.specs.Packet.{sof, encode}
use Rattle.packet.proofs.writer.write_sof.Goals as goal

pub returns : goal.returns
unfolding encode
returns c = c.write_eleven.ensures (sof c.args.frame) (le-leb c.args.frame 2047 (omega arith)) refl
