-- `BitSet::clear` meets its contract: the bit is cleared where n is below 32, and a larger n changes nothing. Assumes nothing.
use mathlib.Core.Path.{sym}
use native.Mathlib.Omega.{arith}
use Rattle.pool.proofs.Sets.{has_past, remove_none}
use Rattle.pool.proofs.Words.{shifted, and_remove}
use Rattle.pool.proofs.bitset.BitSet.clear.Goals as goal

pub returns-then-n-lt32 : goal.returns-then-n-lt32
returns-then-n-lt32 c =
    let a = c.args in
    rw (shifted a.n (omega arith)) (and_remove a.self.0 a.n (omega arith) (omega arith))

pub returns-else-n-lt32 : goal.returns-else-n-lt32
returns-else-n-lt32 c =
    let a = c.args in
    sym (remove_none a.self.0 a.n (omega arith) (has_past 32 a.self.0 a.n (omega arith) (omega arith)))
