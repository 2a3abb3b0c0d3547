use Rattle.session.proofs.Puts.{puts_placed}
use Rattle.session.proofs.print.print_block_end.Goals as goal

pub returns : goal.returns
returns c = puts_placed _ _ _ c.put.ensures
