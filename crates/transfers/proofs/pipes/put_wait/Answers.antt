-- `put_wait` writes `wait_writes`. Assumes nothing.
use Rattle.std.proofs.Common.{◌*◌, ◌^◌, ◌≤◌, arith, pow_mono}
use Rattle.transfers.proofs.pipes.put_wait.Goals as goal

pub overflow_mul-status : goal.overflow_mul-status
overflow_mul-status c =
    let a = c.args in
    let top : 2 ^ (2 * a.n) ≤ 2 ^ 30 = pow_mono {j = 30} (omega arith) in
    omega (arith, c.pipe_bit-status.ensures)
