-- `in_control_done` is `in_control_done`. Assumes nothing.
use Rattle.transfers.proofs.in_stage.in_control_done.Goals as goal

pub returns : goal.returns
returns c = λ b. simp (c.if-status.false) (c.enter_out.ensures b)
