-- Of one caller more nothing is spent. Assumes nothing.
use Rattle.std.proofs.Common.{◌<◌, length, rules, arith, get_or}
use Rattle.std.proofs.lemmas.List.{get_or_default}
use Rattle.std.proofs.lemmas.List.Edits.{map_over_more}
use Rattle.dispatcher.specs.Dispatcher.{no_caller, unspent}
use Rattle.dispatcher.proofs.Dispatcher.in_frame.Goals as goal

pub loop-caller-preserved : goal.loop-caller-preserved
loop-caller-preserved c =
    let l = c.loop-caller in
    let x = get_or l.caller-items l.caller-index no_caller in
    let n : l.caller-index < length l.caller-items = omega arith in
    (map_over_more unspent c.settled.new.self.callers l.caller-items l.caller-index x (search rules) l.invariant.0 (get_or_default _ _ _ _ n), search rules)
