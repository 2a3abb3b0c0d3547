-- The example, computed. Assumes nothing.
use mathlib.Core.Path.{refl}
use Rattle.cutting.specs.Cut.{lengths, numbered, in_cut_of}
use Rattle.cutting.specs.Counters.{in_next}
use Rattle.cutting.specs.Retire.{in_retire}
use Rattle.transfers.specs.Sample.{classify}
use Rattle.transfers.specs.Writes.{head_writes, arm_writes, enable_writes, go_writes}
use Rattle.transfers.specs.Arming.{in_arm, in_arm_two}
use Rattle.transfers.specs.Retiring.{in_retire_one}
use Rattle.transfers.specs.State.{served, sound}
use Rattle.transfers.specs.Outcome.{start_in}
use Rattle.transfers.specs.Step.{in_complete, in_rearm, in_move, in_step, acts}
use Rattle.transfers.specs.Calls.{step_of, begin_bulk_in_of}
use Rattle.rules.specs.Received.{slot_of, retire_one, arm_one, tally_step, tallied, after_steps}
use Rattle.rules.specs.Armed.{armings, writes_of}
use Rattle.rules.specs.Example.{Example}

pub example : Example
unfolding lengths numbered in_cut_of in_next in_retire classify head_writes arm_writes enable_writes go_writes in_arm in_arm_two in_retire_one served sound start_in in_complete in_rearm in_move in_step acts step_of begin_bulk_in_of slot_of retire_one arm_one tally_step tallied after_steps armings writes_of
example = record { begun = refl; done = refl; bytes = refl; toggle = refl; packets = refl; armed = refl }
