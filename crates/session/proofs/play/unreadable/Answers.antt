use Rattle.std.proofs.Common.{codes, ◌++◌}
use Rattle.std.specs.Fmt.{decimal}
use Rattle.session.proofs.Puts.{puts_placed, puts_more}
use Rattle.session.proofs.play.unreadable.Goals as goal

pub returns : goal.returns
returns c =
    puts_more _ _ _ (codes "line") (codes " " ++ decimal c.args.number ++ codes ": not a line of a script\n.\n") (puts_placed _ _ _ c.put.ensures)
    (puts_more _ _ _ (codes " " ++ decimal c.args.number) (codes ": not a line of a script\n.\n") c.put_number.ensures
    (puts_more _ _ _ (codes ": not a line of a script\n") (codes ".\n") (puts_placed _ _ _ c.put-2.ensures) c.print_block_end.ensures))
