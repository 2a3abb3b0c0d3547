-- The checks of a step pass along a run, so that it acts. Assumes nothing.
use mathlib.Core.Path.{◌≡◌, refl, ap, ◌∙◌}
use mathlib.Core.Bool.{Bool, true, false, and-false}
use mathlib.Core.List.{List}
use Prim.Native.Nat.{ℕ, zero, suc, ◌+◌, ◌-◌, ◌≤◌}
use native.Mathlib.Omega.{arith}
use lib.ListN.{length}
use lib.Dec.{ltb}
use borrow.Author.Tests.{le-leb, lt-ltb, eq-eqb}
use Rattle.cutting.specs.declared.transfer_type.TransferType.{TransferType}
use Rattle.cutting.specs.declared.depacketiser.InDepacketiser.{InDepacketiser}
use Rattle.cutting.specs.Counters.{in_start_of, out_start}
use Rattle.transfers.specs.declared.sample.Sample.{Sample}
use Rattle.transfers.specs.declared.driver.Request.{Request}
use Rattle.transfers.specs.declared.driver.Stage.{Stage}
use Rattle.transfers.specs.declared.driver.Stage.TheVariants.{Setup as setup_stage, In as in_stage, Out as out_stage}
use Rattle.transfers.specs.Memory.{lent_fits}
use Rattle.transfers.specs.Sample.{classify, available, full}
use Rattle.transfers.specs.State.{target_of, stage_length, served, kind_good, request_good, stage_good, sound}
use Rattle.transfers.specs.Retiring.{in_retire_one, out_retire_one}
use Rattle.transfers.specs.Outcome.{start_in, start_out}
use Rattle.transfers.specs.Step.{out_retire_two, polls, acts}
use Rattle.transfers.specs.Calls.{step_of}
use Rattle.transfers.proofs.Armings.{in_two_flight, out_two_flight, out_two_sum}
use Rattle.record.specs.Calls.{Begin, control_begin, bulk_begin}
use Rattle.record.proofs.Begins.{address_of, size_of, kind_of, request_of, busy, Checked}

-- At most two in flight, the counters within the stage, and the stage within the buffer.
pub record Within (x : Request) (status : Bool) (inflight offset remain : ℕ) : Type 0 where
  pub flight : inflight ≤ 2
  pub inside : offset + remain ≤ stage_length x status
  pub room : stage_length x status ≤ x.length

abbrev pub Fit : Request → Stage → Type 0
Fit x setup_stage = Unit {0}
Fit x (in_stage st) = Within x st.status st.inflight st.offset st.remain
Fit x (out_stage st) = Within x st.status st.inflight st.offset st.remain

kind_good_lem : (x : Begin) (buf : List ℕ) → Checked x buf → kind_good (kind_of x) ≡ true
kind_good_lem (control_begin a z p s ph) buf ck = refl
kind_good_lem (bulk_begin d a e p t b) buf ck = rw (le-leb 1 e ck.kind.0, le-leb e 15 ck.kind.1)

request_good_lem : (x : Begin) (buf : List ℕ) → Checked x buf → request_good (request_of x buf) ≡ true
request_good_lem x buf ck = rw (le-leb (address_of x) 127 ck.addr, le-leb 1 (size_of x) ck.low, le-leb (size_of x) 64 ck.high) (kind_good_lem x buf ck)

stage_good_lem : (x : Request) (st : Stage) → Fit x st → stage_good x st ≡ true
stage_good_lem x setup_stage h = refl
stage_good_lem x (in_stage st) h =
    rw (le-leb st.inflight 2 h.flight, le-leb (st.offset + st.remain) (stage_length x st.status) h.inside, le-leb (stage_length x st.status) x.length h.room)
stage_good_lem x (out_stage st) h =
    rw (le-leb st.inflight 2 h.flight, le-leb (st.offset + st.remain) (stage_length x st.status) h.inside, le-leb (stage_length x st.status) x.length h.room)

-- ---- a step acts

pub acts_when : (b : Bool) (x : Begin) (buf : List ℕ) (st : Stage) (y : Sample) (m log : List ℕ) → lent_fits m log ≡ true → Checked x buf → served b (kind_of x) st ≡ true
    → Fit (request_of x buf) st
    → step_of b (busy x buf st) y buf m log ≡ polls (classify y.status y.intr) (request_of x buf) st y.buffers buf m
unfolding step_of acts sound
acts_when b x buf st y m log room ck sv h =
    let X = request_of x buf in
    rw (room, sv, request_good_lem x buf ck, stage_good_lem X st h, eq-eqb (length buf) (length buf) refl)

-- ---- a stage's start and an OUT stage's move keep within

pub start_in_fit : (x : Request) (t : TransferType) (status : Bool) → stage_length x status ≤ x.length
    → Fit x (in_stage (start_in (target_of x) t status (stage_length x status)).stage)
unfolding start_in
start_in_fit x t status h =
    let n = stage_length x status in
    record { flight = in_two_flight 0 (in_start_of t (target_of x).size (target_of x).pid n) 0 (omega arith); inside = omega arith; room = h }

pub start_out_fit : (x : Request) (t : TransferType) (status : Bool) (received : ℕ) (now m : List ℕ) → stage_length x status ≤ x.length
    → Fit x (out_stage (start_out (target_of x) t status received (stage_length x status) now m).stage)
unfolding start_out
start_out_fit x t status received now m h =
    let n = stage_length x status in
    let c = out_start t (target_of x).size (target_of x).pid n in
    record { flight = out_two_flight 0 c 0 now m (omega arith); inside = omega (arith, out_two_sum 0 c 0 now m); room = h }

-- No slot is available or full in a word 0.
pub none_available : (s : Bool) → available 0 s ≡ false
none_available true = refl
none_available false = refl

none_full : (s : Bool) → full 0 s ≡ false
none_full true = refl
none_full false = refl

-- ---- retiring, with such a word

retire_out : (s : Bool) (k : ℕ) → (out_retire_one 0 s k).inflight ≡ k - 1
unfolding out_retire_one
retire_out s zero = refl
retire_out s (suc k) = rw (none_full s, lt-ltb 0 (suc k) (omega arith))

pub retire_two : (s : Bool) (k : ℕ) → (out_retire_two 0 s k).inflight ≡ k - 1 - 1
retire_two s k =
    let g = out_retire_one 0 s k in
    retire_out g.parity g.inflight ∙ ap (λ (n : ℕ). n - 1) (retire_out s k)

pub retire_in : (c : InDepacketiser) (k : ℕ) (buf m : List ℕ) → in_retire_one 0 c k buf m ≡ record { long = false; packets = c; inflight = k; buffer = buf }
unfolding in_retire_one
retire_in c k buf m = rw (none_full c.parity, and-false (ltb 0 k))
