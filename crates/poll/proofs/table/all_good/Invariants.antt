-- All entries are looked at, in order. Assumes nothing.
use mathlib.Core.Path.{◌≡◌}
use lib.ListN.{drop}
use Rattle.poll.specs.File.{all_good}
use Rattle.poll.proofs.table.all_good.Given as goal

abbrev pub invariant-loop-i : goal.invariant-loop-i
invariant-loop-i l = all_good 0 l.table ≡ all_good l.i (drop l.i l.table)
