-- `in_move` is `in_move`: retire twice, then arm. Assumes nothing.
use Rattle.std.proofs.Common.{sym, ◌∙◌, arith}
use Rattle.transfers.specs.Step.{in_received, in_move}
use Rattle.transfers.proofs.Armings.{in_retires}
use Rattle.transfers.proofs.Steps.{rearm_memory, rearm_buffer}
use Rattle.transfers.proofs.in_stage.in_move.Goals as goal

pub in_retire-requires-2 : goal.in_retire-requires-2
in_retire-requires-2 c =
    let a = c.args in
    let g = rw c.in_received.ensures at c.in-Some.ensures in
    let s = in_retires a.buffers (in_received a.st) a.st.inflight a.buf.now a.pm.now in
    rw g.packets (omega (arith, s.sum, c.in_retire.auto, c.requires))

pub returns : goal.returns
unfolding in_move
returns c =
    let a = c.args in
    let g = rw c.in_received.ensures at c.in-Some.ensures in
    let h = rw (g.packets, g.inflight, g.buffer) at c.in-Some-in_retire.ensures in
    simp (g.long, h.long) (record { tells = rw (h.packets, h.inflight, h.buffer) at (c.in_rearm.ensures a.pm.now c.in_retire-2.new.buf); memory = sym (rearm_memory a.x a.st _ _ a.buffers a.pm.now _); buffer = h.buffer ∙ sym (rearm_buffer a.x a.st _ _ a.buffers a.pm.now _) })
