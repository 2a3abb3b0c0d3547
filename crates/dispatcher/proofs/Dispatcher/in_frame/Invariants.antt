-- Of the callers so far nothing is spent. Assumes nothing.
use Rattle.std.proofs.Common.{◌≡◌, ◌++◌, length, take, drop, map}
use Rattle.dispatcher.specs.Dispatcher.{unspent}
use Rattle.dispatcher.proofs.Dispatcher.in_frame.Given as goal

abbrev pub invariant-loop-caller : goal.invariant-loop-caller
invariant-loop-caller l =
    let xs = l.initial.caller-items in
    (l.caller-items ≡ map unspent (take l.caller-index xs) ++ drop l.caller-index xs) × (length l.caller-items ≡ 8)
