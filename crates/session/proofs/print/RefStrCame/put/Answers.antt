use Rattle.std.proofs.Common.{ℕ, List, subst}
use Rattle.session.specs.Prints.{Puts}
use Rattle.session.proofs.Puts.{puts_placed}
use Rattle.session.proofs.print.RefStrCame.put.Goals as goal

pub returns : goal.returns
returns c = subst (λ (l : List ℕ). Puts c.args.out.now l c.put.new.self) c.as_bytes.ensures.value (puts_placed _ _ _ c.put.ensures)
