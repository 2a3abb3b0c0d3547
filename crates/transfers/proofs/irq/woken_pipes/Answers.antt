-- `woken_pipes` is the set. The invariant: the pipes below i are looked at. Assumes nothing.
use Rattle.std.proofs.Common.{◌∙◌, add-one, arith}
use Rattle.pool.proofs.Sets.{set_of_lt}
use Rattle.transfers.specs.Irq.{is_woken}
use Rattle.transfers.proofs.WokenPipes.{set_of_last}
use Rattle.transfers.proofs.irq.woken_pipes.Goals as goal

pub with_pipe-set-requires : goal.with_pipe-set-requires
with_pipe-set-requires c =
    let l = c.loop-i in
    let a = c.args in
    (omega arith, omega (arith, set_of_lt l.i (is_woken a.ints a.status)))

pub loop-i-preserved : goal.loop-i-preserved
loop-i-preserved c =
    let l = c.loop-i in
    let a = c.args in (
      c.with_pipe-set.ensures
          ∙ rw (l.invariant.0, c.is_woken.ensures, add-one, set_of_last l.i (is_woken a.ints a.status)),
      omega arith,
    )
