-- `setup_done` is `setup_done`. Assumes nothing.
use Rattle.std.proofs.Common.{refl, le-ltb}
use Rattle.transfers.proofs.setup_stage.setup_done.Goals as goal

pub returns-in-None : goal.returns-in-None
returns-in-None c = simp c.in-None.is (record { tells = c.enter_in.ensures _ _; memory = refl })

pub returns-in-In : goal.returns-in-In
returns-in-In c = simp (c.in-In.is, le-ltb _ _ (c.if-n-x.true)) (record { tells = c.enter_in-in-In.ensures _ _; memory = refl })

pub returns-in-Out : goal.returns-in-Out
returns-in-Out c = simp (c.in-Out.is, le-ltb _ _ (c.if-n-x-2.true)) (c.enter_out.ensures _)
