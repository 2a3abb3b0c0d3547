-- `out_control_done` is `out_control_done`. Assumes nothing.
use Rattle.transfers.proofs.out_stage.out_control_done.Goals as goal

pub returns : goal.returns
returns c = λ m b. simp (c.if-status.false) (c.enter_in.ensures m b)
