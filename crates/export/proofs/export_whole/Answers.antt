-- The packets that fit are put. Assumes nothing.
use native.Mathlib.Omega.{arith}
use Prim.Native.Nat.{◌≤◌}
use lib.ListN.{length}
use Rattle.export.specs.Export.{export_of}
use Rattle.export.proofs.Deciding.{too_few, enough}
use Rattle.export.proofs.export_whole.Goals as goal

pub returns-then-out-n : goal.returns-then-out-n
returns-then-out-n c = λ w.
    let a = c.args in
    too_few w.ms a.out.now (omega (arith, c.packets_length-n.ensures w, c.if-out-n.true))

pub returns : goal.returns
returns c = λ w.
    let a = c.args in
    let h : length (export_of w.ms) ≤ length a.out.now = omega (arith, c.packets_length-n.ensures w, c.if-out-n.false) in
    enough w.ms a.out.now _ _ h (c.put_packets.ensures w h)
