-- A look.
use Rattle.std.specs.Prelude.{cond, ℕ, leb, None, Option, Some}
use Rattle.host.specs.declared.controller.HostController.{HostController}
use Rattle.host.specs.declared.controller.TurnResult.{TurnResult}
use Rattle.host.specs.Controller.{observed, turn_of}

-- The callers are "numbered 0 to 7".
abbrev pub turn_answer : ℕ → Option ℕ
turn_answer c = cond (leb c 7) (Some c) None

-- "A look, never refused, answers whose turn it is, nobody's while a transfer is under way."
unfoldable pub whose_turn_of : HostController → ℕ → TurnResult
whose_turn_of d f = record { next = observed d f; answer = turn_answer (turn_of (observed d f)) }
