-- Every list of steps from an IN begin to its done hands the caller what the samples tell. Assumes nothing.
use mathlib.Core.Path.{◌≡◌}
use mathlib.Core.Bool.{Bool, true, false}
use Prim.Native.Nat.{◌<◌}
use native.Mathlib.Omega.{arith}
use lib.ListN.{length, drop, length-drop}
use lib.Seq.{length-take-le}
use Rattle.transfers.specs.Registers.{field}
use Rattle.transfers.proofs.OpenPipes.{lent_sizes}
use Rattle.rules.specs.Received.{StepCall, lent_well, packet_at, Receives}
use Rattle.rules.specs.Fields.{read_buffer_control}
use Rattle.rules.specs.Armed.{ArmsAsCut}
use Rattle.rules.proofs.BulkIn.{bulk_armed, bulk_ended}
use Rattle.rules.proofs.ControlIn.{control_armed_lem, control_ended}
use Rattle.rules.proofs.StatusIn.{status_armed}

packet_length : (y : StepCall) (s : Bool) → lent_well y ≡ true → length (packet_at y s) ≡ (read_buffer_control y.sample.buffers s).LENGTH
packet_length y false l =
    let m = (lent_sizes y.memory y.log l).0 in
    let d = length-drop 0x180 y.memory in
    let k : field 0 10 y.sample.buffers < 1024 = omega arith in
    length-take-le (field 0 10 y.sample.buffers) (drop 0x180 y.memory) (omega (arith, m, d, k))
packet_length y true l =
    let m = (lent_sizes y.memory y.log l).0 in
    let d = length-drop 0x1C0 y.memory in
    let k : field 16 10 y.sample.buffers < 1024 = omega arith in
    length-take-le (field 16 10 y.sample.buffers) (drop 0x1C0 y.memory) (omega (arith, m, d, k))

pub receives : Receives
receives = record {
  bulk = λ t a e p k b first m log ys y count q d. let z = bulk_ended t a e p k b first m log q ys y count d in (z.0, z.1, z.2);
  control = λ t a x p s first m log ys y count few q d. let z = control_ended t a x p s first m log few q ys y count d in (z.0, z.1);
  lengths = packet_length;
}

pub arms_as_cut : ArmsAsCut
arms_as_cut = record {
  bulk = λ t a e p k b first m log ys old q n. bulk_armed t a e p k b first m log q ys old n;
  bulk_done = λ t a e p k b first m log ys y count old q d. (bulk_ended t a e p k b first m log q ys y count d).3 old;
  control = λ t a x p s first m log ys old few q n. control_armed_lem t a x p s first m log few q ys old n;
  status = λ filling t a x p s ph first m log ys y count old not_in q d. status_armed filling t a x p s ph first m log not_in q ys y count d old;
  control_done = λ t a x p s first m log ys y count old few q d. (control_ended t a x p s first m log few q ys y count d).2 old;
}
