-- `Dispatcher::next_turn` is `next_turn`: at every turn of the loop, what is left to search finds what there was to find. Assumes nothing.
use mathlib.Core.Path.{◌≡◌}
use Prim.Native.Nat.{◌-◌}
use Rattle.dispatcher.specs.Dispatcher.{fits, first_from, next_turn}
use Rattle.dispatcher.proofs.Dispatcher.next_turn.Given as goal

abbrev pub invariant-loop : goal.invariant-loop
invariant-loop l = first_from (8 - l.counter) (fits l.self) l.i ≡ next_turn l.self
