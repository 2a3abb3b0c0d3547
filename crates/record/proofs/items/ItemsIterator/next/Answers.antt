-- The cursor goes on, so that the items end.
-- Assumes nothing.
use mathlib.Core.Path.{sym, ◌∙◌}
use Prim.Native.Nat.{◌-◌, ◌<◌}
use native.Mathlib.Omega.{arith}
use lib.ListN.{length}
use Rattle.record.proofs.Spans.{item_further}
use Rattle.record.proofs.items.ItemsIterator.next.Goals as goal

pub returns-clause-goes : goal.returns-clause-goes
returns-clause-goes c =
    let i = c.args.self.now in
    let f = item_further i.bytes.now i.cursor.at c.in_ok-found.found (sym c.item.ensures ∙ c.in_ok-found.was) in
    let less : length i.bytes.now - c.after-self.result.at < length i.bytes.now - i.cursor.at = omega (arith, f, c.after-self.ensures i.cursor.at) in
    record { on = λ h. (tt, h, less); keeps = tt; rests = λ h. tt }
