-- `poll_pipe` is `polling_pipe`. Assumes nothing.
use Rattle.std.proofs.Common.{sym, ◌∙◌, arith}
use Rattle.transfers.proofs.OpenPipes.{lent_sizes, open_some}
use Rattle.transfers.proofs.pipes.poll_pipe.Goals as goal

pub poll_full-requires : goal.poll_full-requires
poll_full-requires c =
    let i = c in
    let d = i in
    let a = d.args in
    let u = lent_sizes a.pm.now a.log.now (sym d.lent_fits.ensures ∙ d.if-not-lent_fits.false) in
    (u.1, (open_some _ _ _ (sym d.index_open.ensures ∙ i.in-Some.is)).0)

pub put_wait-requires : goal.put_wait-requires
put_wait-requires c =
    let i = c in
    let d = i in
    let a = d.args in
    let u = lent_sizes a.pm.now a.log.now (sym d.lent_fits.ensures ∙ d.if-not-lent_fits.false) in
    let n = (open_some _ _ _ (sym d.index_open.ensures ∙ i.in-Some.is)).0 in
    (omega arith, omega arith)
