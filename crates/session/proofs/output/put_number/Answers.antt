use Rattle.std.proofs.Common.{rules, codes}
use Rattle.std.specs.Fmt.{decimal}
use Rattle.session.proofs.Puts.{puts_placed, puts_decimal, puts_more}
use Rattle.session.proofs.output.put_number.Goals as goal

pub returns : goal.returns
returns c = puts_more _ _ _ (codes " ") (decimal c.args.n) (puts_placed _ _ _ c.put.ensures) (puts_decimal _ _ _ (search rules) c.put_decimal.ensures)
