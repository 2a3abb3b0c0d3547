-- What was written before stays. Assumes nothing.
use Rattle.session.specs.Prints.{Grows}
use Rattle.session.proofs.cursor.play_lines.Given as goal

abbrev pub invariant-loop : goal.invariant-loop
invariant-loop g l = Grows (g.W.Write.contents l.initial.to) (g.W.Write.contents l.to)
