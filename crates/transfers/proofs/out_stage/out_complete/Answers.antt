-- `out_complete` is `out_complete`. Assumes nothing.
use Rattle.std.proofs.Common.{[], ◌∷◌}
use Rattle.transfers.specs.Writes.{completes}
use Rattle.transfers.specs.Step.{out_complete}
use Rattle.transfers.proofs.Telling.{tells_after}
use Rattle.transfers.proofs.out_stage.out_complete.Goals as goal

pub returns : goal.returns
unfolding out_complete
returns c =
    let g = c.out_retire-g.ensures in
    let h = rw (g.0, g.1) at c.out_retire-h.ensures in
    λ m b. tells_after (completes ∷ []) _ c.put.ensures (rw h.0 at (c.out_done.ensures m b))
