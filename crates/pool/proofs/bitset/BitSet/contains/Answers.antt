-- `BitSet::contains` meets its contract: no number above 31 is a member. Assumes nothing.
use mathlib.Core.Path.{sym, ◌∙◌}
use borrow.Author.Tests.{le-ltb}
use native.Mathlib.Omega.{arith}
use Rattle.pool.proofs.Sets.{has_past}
use Rattle.pool.proofs.Words.{shifted, and_has}
use Rattle.pool.proofs.bitset.BitSet.contains.Goals as goal

pub returns-then-n-lt32 : goal.returns-then-n-lt32
returns-then-n-lt32 c =
    let a = c.args in
    rw (shifted a.n (omega arith)) (and_has a.self.0 a.n (omega arith) (omega arith))

pub returns-else-n-lt32 : goal.returns-else-n-lt32
returns-else-n-lt32 c =
    let a = c.args in
    le-ltb _ _ c.if-n-lt32.false ∙ sym (has_past 32 a.self.0 a.n (omega arith) (omega arith))
