-- `act_in` is `acts`: the poll, then the stage. Assumes nothing.
use Rattle.std.proofs.Common.{[], ◌∷◌, sym, refl, ◌∙◌}
use Rattle.transfers.specs.Writes.{polled}
use Rattle.transfers.specs.Step.{acts}
use Rattle.transfers.proofs.Telling.{acts_after}
use Rattle.transfers.proofs.step.act_in.Goals as goal

pub returns-in-None : goal.returns-in-None
unfolding acts
returns-in-None c =
    simp (sym c.poll_status.ensures ∙ c.in-None.is) (acts_after (polled ∷ []) _ c.put.ensures (record { tells = c.pending.ensures _ _; memory = refl; buffer = refl }))
