-- `end_of` stops at the first separator.
-- Assumes nothing.
use Rattle.std.proofs.Common.{◌≡◌, ◌≤◌, length, nat_eq, arith, rules, tests, ap, ◌∙◌}
use Rattle.std.specs.Prelude.{unwrap_or, position}
use Rattle.std.specs.List.{position_or_len}
use Rattle.std.proofs.lemmas.Grind.{common_steps}
use Rattle.std.proofs.lemmas.Iterator.{YieldsList-from_slice}
use Rattle.std.proofs.lemmas.Iterator.Search.{position_from_yields_List}
use Rattle.script.proofs.Walks.{before, after, within}
use Rattle.script.proofs.field.end_of.Goals as goal

pub returns : goal.returns
returns c =
    let text = c.args.text.now in
    let found : c.position.result ≡ position (λ b. nat_eq b c.args.sep) text = position_from_yields_List (λ b. nat_eq b c.args.sep) _ _ c.position.result c.position.ensures.ran (YieldsList-from_slice text (cc)) (λ x b q k. search (rules, tests)) in
    let e : c.unwrap_or.result ≡ position_or_len (λ b. nat_eq b c.args.sep) text = c.unwrap_or.ensures ∙ ap (λ o. unwrap_or o (length text)) found ∙ within _ text in
    let h : position_or_len (λ b. nat_eq b c.args.sep) text ≤ length text = grind (arith, common_steps) in
    (rw e h, rw e (before c.args.sep text), rw e (after c.args.sep text))
