-- Each end by a computed test. Assumes nothing.
use native.Mathlib.Omega.{arith}
use Rattle.groups.proofs.Table.{end_is}
use Rattle.groups.proofs.end_of.Goals as goal

pub overflow_cast-result-2 : goal.overflow_cast-result-2
overflow_cast-result-2 c = omega (arith, (end_is c.args.n (omega arith)).1)

pub returns : goal.returns
returns c = end_is c.args.n (omega arith)
