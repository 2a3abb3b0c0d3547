-- Both packets are in range and fit. Assumes nothing.
use native.Mathlib.Omega.{arith}
use borrow.Author.Tests.{le-leb}
use lib.ListN.{length}
use Rattle.packet.specs.Packet.{token, payload}
use Rattle.export.proofs.Putting.{pair_put}
use Rattle.export.proofs.put_pair.Goals as goal

pub returns : goal.returns
returns c = λ ha he hn room.
    let a = c.args in
    let w = c.write_token in
    let d = c.write_data in
    pair_put (token a.kind a.address a.endpoint) (payload a.second a.bytes.now) a.out.now _ _ a.used _ _ w.result d.result
    (rw (le-leb a.address 127 ha, le-leb a.endpoint 15 he)) (le-leb (length a.bytes.now) 64 hn)
    w.ensures c.unwrap_or-next.ensures d.ensures c.unwrap_or.ensures (omega (arith, room))
