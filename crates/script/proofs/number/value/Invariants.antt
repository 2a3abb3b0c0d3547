-- `value` is `value_of`. The invariant: the digits passed spell n, and n is at most `most`.
-- Assumes nothing.
use Rattle.script.proofs.Spelling.{Spelt}
use Rattle.script.proofs.number.value.Given as goal

abbrev pub invariant-loop-b : goal.invariant-loop-b
invariant-loop-b l = Spelt l.base l.most l.digits l.n l.b-index
