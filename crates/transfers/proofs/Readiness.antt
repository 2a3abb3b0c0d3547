-- What the checks of a step leave: offset and rest within the buffer, and the stages of a transfer that sends. Assumes nothing.
use Rattle.std.proofs.Common.{◌≡◌, ℕ, ◌+◌, ◌≤◌, Bool, true, false, not, ◌&&◌, leb, List, length, refl, arith, leb-true}
use Rattle.transfers.specs.declared.host_controller.DataPhase.{DataPhase}
use Rattle.transfers.specs.declared.host_controller.DataPhase.TheVariants.{In as phase_in, Out as phase_out, None as phase_none}
use Rattle.transfers.specs.declared.wire.Direction.{Direction}
use Rattle.transfers.specs.declared.wire.Direction.TheVariants.{In, Out}
use Rattle.transfers.specs.declared.driver.Request.{Request}
use Rattle.transfers.specs.declared.driver.Run.{Run}
use Rattle.transfers.specs.declared.driver.Kind.{Kind}
use Rattle.transfers.specs.declared.driver.Kind.TheVariants.{Control as control, Bulk as bulk}
use Rattle.transfers.specs.declared.driver.Stage.{Stage}
use Rattle.transfers.specs.declared.driver.Stage.TheVariants.{Setup as setup_stage, In as in_stage, Out as out_stage}
use Rattle.transfers.specs.State.{fills_of, is_in, fills, same, phase_has, kind_has, served, request_good, stage_length, moving_good, stage_good, sound}
use Rattle.transfers.specs.Step.{lent}
use Rattle.transfers.specs.Calls.{may_step}
use Rattle.transfers.specs.Ready.{Within, InIsStatus}

-- A conjunction that holds, in its parts.
pub both : (a b : Bool) → (a && b) ≡ true → (a ≡ true) × (b ≡ true)
both true b e = (refl, e)
both false b e = absurd (let z : ◌≡◌ {A = ℕ} 0 1 = cc in omega arith)

no : {A : Type 0} → false ≡ true → A
no e = absurd (let z : ◌≡◌ {A = ℕ} 0 1 = cc in omega arith)

moving_within : (x : Request) (k off r : ℕ) (s : Bool) (buf : List ℕ) → moving_good k off r (stage_length x s) x.length ≡ true → x.length ≡ length buf → off + r ≤ length (lent s buf)
moving_within x k off r true buf e h =
    let u = both (leb k 2) (leb (off + r) 0 && leb 0 x.length) e in
    let v = both (leb (off + r) 0) (leb 0 x.length) u.1 in leb-true (off + r) 0 v.0
moving_within x k off r false buf e h =
    let n = stage_length x false in
    let u = both (leb k 2) (leb (off + r) n && leb n x.length) e in
    let v = both (leb (off + r) n) (leb n x.length) u.1 in
    omega (arith, leb-true (off + r) n v.0, leb-true n x.length v.1)

pub sound_within : (x : Request) (st : Stage) (buf : List ℕ) → sound x st ≡ true → x.length ≡ length buf → Within st buf
unfolding sound
sound_within x setup_stage buf e h = tt
sound_within x (in_stage st) buf e h =
    moving_within x st.inflight st.offset st.remain st.status buf (both (request_good x) (stage_good x (in_stage st)) e).1 h
sound_within x (out_stage st) buf e h =
    moving_within x st.inflight st.offset st.remain st.status buf (both (request_good x) (stage_good x (out_stage st)) e).1 h

phase_status : (ph : DataPhase) (s : Bool) → same false (fills_of ph) ≡ true → phase_has ph true s ≡ true → s ≡ true
phase_status phase_in s e f = no e
phase_status phase_out s e f = f
phase_status phase_none s e f = no e

bulk_status : (d : Direction) (s : Bool) → same false (is_in d) ≡ true → (not s && same true (is_in d)) ≡ true → s ≡ true
bulk_status In s e f = no e
bulk_status Out true e f = refl
bulk_status Out false e f = no f

kind_status : (k : Kind) (s : Bool) → same false (fills k) ≡ true → kind_has k true s ≡ true → s ≡ true
kind_status (control c) s e f = phase_status c.phase s e f
kind_status (bulk b) s e f = bulk_status b.direction s e f

pub served_status : (k : Kind) (st : Stage) → served false k st ≡ true → InIsStatus st
unfolding served
served_status k setup_stage e = tt
served_status k (in_stage st) e = let u = both (same false (fills k)) (kind_has k true st.status) e in kind_status k st.status u.0 u.1
served_status k (out_stage st) e = tt

pub may_parts : (b : Bool) (r : Run) → may_step b r ≡ true → (served b r.request.kind r.stage ≡ true) × (sound r.request r.stage ≡ true)
may_parts b r e = both (served b r.request.kind r.stage) (sound r.request r.stage) e
