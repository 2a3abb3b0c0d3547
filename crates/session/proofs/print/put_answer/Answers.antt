use Rattle.session.proofs.Puts.{puts_placed, puts_answer}
use Rattle.session.proofs.print.put_answer.Goals as goal

pub returns-in-Ok : goal.returns-in-Ok
returns-in-Ok g c = rw c.in-Ok.is (puts_answer (g.T.Came.spelling c.in-Ok.came) _ _ _ _ (puts_placed _ _ _ c.put.ensures) c.put-in-Ok.ensures (puts_placed _ _ _ c.put-in-Ok-2.ensures))
