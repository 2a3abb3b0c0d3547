-- The example, computed. Assumes nothing.
use mathlib.Core.Path.{refl}
use Rattle.cutting.specs.Counters.{in_next, out_next}
use Rattle.cutting.specs.Retire.{in_retire}
use Rattle.transfers.specs.Sample.{classify}
use Rattle.transfers.specs.Arming.{in_arm, in_arm_two, out_arm, out_arm_two}
use Rattle.transfers.specs.Retiring.{in_retire_one, out_retire_one}
use Rattle.transfers.specs.State.{served, sound}
use Rattle.transfers.specs.Outcome.{start_in, start_out}
use Rattle.transfers.specs.Step.{in_move, in_step, out_move, out_step, acts}
use Rattle.transfers.specs.Calls.{step_of, cancel_of, begin_bulk_in_of, begin_bulk_out_of}
use Rattle.record.specs.Calls.{call}
use Rattle.rules.specs.TwoRules.{TwoRules}

pub two_rules : TwoRules
unfolding in_next out_next in_retire classify in_arm in_arm_two out_arm out_arm_two in_retire_one out_retire_one served sound start_in start_out in_move in_step out_move out_step acts step_of cancel_of begin_bulk_in_of begin_bulk_out_of call
two_rules = record { cancel = (refl, refl); stall = (refl, refl); second = (refl, refl); first = (refl, refl) }
