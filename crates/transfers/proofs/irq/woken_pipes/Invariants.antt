-- `woken_pipes` is the set. The invariant: the pipes below i are looked at. Assumes nothing.
use Rattle.std.proofs.Common.{◌≡◌, ◌-◌, ◌≤◌}
use Rattle.pool.specs.Set.{set_of}
use Rattle.transfers.specs.Irq.{irq_pipes, is_woken}
use Rattle.transfers.proofs.irq.woken_pipes.Given as goal

abbrev pub invariant-loop-i : goal.invariant-loop-i
invariant-loop-i l = (l.set ≡ set_of l.i (is_woken l.ints l.status)) × (l.i ≤ irq_pipes)

abbrev pub decreases-loop-i : goal.decreases-loop-i
decreases-loop-i l = irq_pipes - l.i
