use Rattle.std.proofs.Common.{rules}
use Rattle.session.proofs.Grows.{grows_trans, grows_on_ok}
use Rattle.session.proofs.cursor.play_lines.Goals as goal

pub loop-preserved : goal.loop-preserved
loop-preserved g c = grows_trans _ _ _ c.loop.invariant (search rules)

pub returns : goal.returns
returns g c = grows_on_ok _ _ _ _ c.loop.invariant (search rules)
