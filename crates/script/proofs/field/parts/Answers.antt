-- `parts` adds up the separators, no more than there are bytes.
-- Assumes nothing.
use Rattle.std.proofs.Common.{◌≡◌, nat_eq, arith, rules, tests}
use Rattle.std.specs.Prelude.{sum_by, cond}
use Rattle.std.proofs.lemmas.List.Sums.{count_by-le-length}
use Rattle.std.proofs.lemmas.Iterator.{YieldsList-from_slice, YieldsList-from_map}
use Rattle.std.proofs.lemmas.Iterator.Consumers.{YieldsList-at, sum_by_from_yields_List, fits_by_from_yields_list}
use Rattle.script.proofs.field.parts.Goals as goal

pub sum-requires-clause-fits : goal.sum-requires-clause-fits
sum-requires-clause-fits c =
    let text = c.args.text.now in
    fits_by_from_yields_list (λ b. cond (nat_eq b c.args.sep) 1 0) text c.map.result _ (YieldsList-from_map _ (λ b. cond (nat_eq b c.args.sep) 1 0) (YieldsList-at c.map.ensures.source (YieldsList-from_slice text (cc))) c.map.ensures.closure (λ x r q k. search (rules, tests))) (omega (arith, count_by-le-length (λ b. nat_eq b c.args.sep) text))

pub overflow_add-result : goal.overflow_add-result
overflow_add-result c =
    let text = c.args.text.now in
    let e : c.sum.result ≡ sum_by (λ b. cond (nat_eq b c.args.sep) 1 0) text = sum_by_from_yields_List (λ b. cond (nat_eq b c.args.sep) 1 0) text c.map.result _ c.sum.ensures.ran (YieldsList-from_map _ (λ b. cond (nat_eq b c.args.sep) 1 0) (YieldsList-at c.map.ensures.source (YieldsList-from_slice text (cc))) c.map.ensures.closure (λ x r q k. search (rules, tests))) in
    omega (arith, e, count_by-le-length (λ b. nat_eq b c.args.sep) text)
