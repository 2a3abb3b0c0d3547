-- `part` is what std's split gives k-th.
-- Assumes nothing.
use Rattle.std.proofs.Common.{◌≡◌, nat_eq, arith, rules, tests}
use Rattle.std.specs.Prelude.{slice_get, option_map}
use Rattle.std.specs.List.{slice_split}
use Rattle.std.proofs.lemmas.Iterator.Splits.{YieldsList-from_slice_split}
use Rattle.std.proofs.lemmas.Iterator.Consumers.{nth_from_yields_List}
use Rattle.script.proofs.Walks.{split_part}
use Rattle.script.proofs.field.part.Goals as goal

pub returns : goal.returns
returns c =
    let text = c.args.text.now in
    let e : option_map (λ x. x.now) c.nth.result ≡ slice_get (slice_split (λ b. nat_eq b c.args.sep) text) c.args.k = nth_from_yields_List c.nth.result _ c.args.k c.nth.ensures.ran (YieldsList-from_slice_split _ (λ b. nat_eq b c.args.sep) text c.split.ensures.rest c.split.ensures.done c.split.ensures.closure (λ x b q k. search (rules, tests))) in
    grind (arith, e, split_part c.args.sep text c.args.k)
