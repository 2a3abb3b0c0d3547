use Rattle.std.proofs.Common.{codes, ◌++◌}
use Rattle.std.specs.Fmt.{decimal}
use Rattle.session.proofs.Puts.{puts_placed, puts_more}
use Rattle.session.proofs.print.put_refused.Goals as goal

pub returns : goal.returns
returns c =
    puts_more _ _ _ (codes "answer refused") (codes " " ++ decimal c.args.n ++ codes "\n") (puts_placed _ _ _ c.put.ensures)
    (puts_more _ _ _ (codes " " ++ decimal c.args.n) (codes "\n") c.put_number.ensures (puts_placed _ _ _ c.put-2.ensures))
