use Rattle.std.proofs.Common.{codes}
use Rattle.session.proofs.Puts.{puts_placed, puts_more}
use Rattle.session.proofs.print.print_ok.Goals as goal

pub returns : goal.returns
returns c = puts_more _ _ _ (codes "answer ok\n") (codes ".\n") (puts_placed _ _ _ c.put.ensures) c.print_block_end.ensures
