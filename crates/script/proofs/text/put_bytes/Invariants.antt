-- `put_bytes` stores two digits a byte. The invariant: those of the first i bytes are stored.
-- Assumes nothing.
use Rattle.std.proofs.Common.{◌≡◌, take}
use lib.Seq.{sets}
use Rattle.script.specs.Text.{hex_of}
use Rattle.script.proofs.text.put_bytes.Given as goal

abbrev pub invariant-loop-i : goal.invariant-loop-i
invariant-loop-i l = l.out ≡ sets l.initial.out l.at (hex_of (take l.i l.bytes))
