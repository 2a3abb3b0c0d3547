-- `BitSet::set` meets its contract: the bit is set where n is below 32, and a larger n changes nothing. Assumes nothing.
use mathlib.Core.Path.{sym}
use native.Mathlib.Omega.{arith}
use Rattle.pool.proofs.Sets.{insert_past}
use Rattle.pool.proofs.Words.{shifted, or_insert}
use Rattle.pool.proofs.bitset.BitSet.set.Goals as goal

pub returns-then-n-lt32 : goal.returns-then-n-lt32
returns-then-n-lt32 c =
    let a = c.args in
    rw (shifted a.n (omega arith)) (or_insert a.self.0 a.n (omega arith) (omega arith))

pub returns-else-n-lt32 : goal.returns-else-n-lt32
returns-else-n-lt32 c =
    let a = c.args in
    sym (insert_past a.self.0 a.n (omega arith) (omega arith))
