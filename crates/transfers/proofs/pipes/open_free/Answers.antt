-- `open_free` is `open_free`. Assumes nothing.
use Rattle.std.proofs.Common.{sym, ◌∙◌, arith}
use Rattle.pool.proofs.Pipes.{pipe_counted}
use Rattle.transfers.proofs.pipes.open_free.Goals as goal

pub put_open-requires : goal.put_open-requires
put_open-requires c =
    let d = c in
    let n = pipe_counted _ _ (sym d.pipe.ensures ∙ d.in-Some-pipe.is) in
    (omega arith, omega arith, omega arith, omega arith)

pub bounds-pipes-at : goal.bounds-pipes-at
bounds-pipes-at c =
    let d = c in
    (pipe_counted _ _ (sym d.pipe.ensures ∙ d.in-Some-pipe.is)).1
