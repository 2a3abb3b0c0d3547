-- `in_complete` is `in_complete`: retire, the write, retire, then the end. Assumes nothing.
use Rattle.std.proofs.Common.{[], ◌∷◌, sym, ◌∙◌, arith}
use Rattle.transfers.specs.Writes.{completes}
use Rattle.transfers.specs.Step.{in_received, in_complete}
use Rattle.transfers.proofs.Armings.{in_retires}
use Rattle.transfers.proofs.Steps.{in_done_keeps}
use Rattle.transfers.proofs.Telling.{tells_after}
use Rattle.transfers.proofs.in_stage.in_complete.Goals as goal

pub in_retire-requires-2 : goal.in_retire-requires-2
in_retire-requires-2 c =
    let a = c.args in
    let g = rw c.in_received.ensures at c.in-Some.ensures in
    let s = in_retires a.buffers (in_received a.st) a.st.inflight a.buf.now a.pm.now in
    rw g.packets (omega (arith, s.sum, c.in_retire.auto, c.requires))

pub returns : goal.returns
unfolding in_complete
returns c =
    let a = c.args in
    let g = rw c.in_received.ensures at c.in-Some.ensures in
    let h = rw (g.packets, g.inflight, g.buffer) at c.in-Some-in_retire.ensures in
    let d = rw (h.packets, h.buffer) at (c.in_done.ensures c.in_retire-2.new.buf) in
    simp (g.long, h.long)
    (record { tells = tells_after (completes ∷ []) _ c.put.ensures d.tells; memory = d.memory; buffer = h.buffer ∙ sym (in_done_keeps a.x.kind a.st.status a.x _ a.pm.now _) })
