-- Every call answers as document 01's rows have it, in its numbers. Assumes nothing.
use Rattle.std.proofs.Common.{◌≡◌, ℕ, ◌-◌, Bool, true, false, cond, not, ◌&&◌, ◌||◌, eqb, ltb, leb, List, length, take, drop, sym, refl, ap, ◌∙◌, true≢false, arith, ltb-false, ltb-true, le-ltb, lt-ltb, None, Ok, Option, Some}
use lib.Seq.{sets}
use lib.Bits.{bit_and}
use Rattle.cutting.specs.declared.transfer_type.TransferType.{TransferType}
use Rattle.cutting.specs.declared.depacketiser.InDepacketiser.{InDepacketiser}
use Rattle.cutting.specs.Retire.{in_retire}
use Rattle.transfers.specs.declared.host_controller.UsbError.{UsbError}
use Rattle.transfers.specs.declared.host_controller.UsbError.TheVariants.{Stall, Timeout, Overflow, BitStuffError, CrcError, DataSeqError}
use Rattle.transfers.specs.declared.host_controller.DataPhase.{DataPhase}
use Rattle.transfers.specs.declared.host_controller.DataPhase.TheVariants.{In as phase_in, Out as phase_out, None as phase_none}
use Rattle.transfers.specs.declared.host_controller.TransferExtras.{TransferExtras}
use Rattle.transfers.specs.declared.wire.SetupPacket.{SetupPacket}
use Rattle.transfers.specs.declared.wire.Direction.{Direction}
use Rattle.transfers.specs.declared.wire.Direction.TheVariants.{In, Out}
use Rattle.transfers.specs.declared.refusal.Refusal.TheVariants.{Usb}
use Rattle.transfers.specs.declared.sample.Sample.{Sample}
use Rattle.transfers.specs.declared.sample.Found.TheVariants.{Complete, Failed, Neither}
use Rattle.transfers.specs.declared.driver.Run.{Run}
use Rattle.transfers.specs.declared.driver.Request.{Request}
use Rattle.transfers.specs.declared.driver.Kind.{Kind}
use Rattle.transfers.specs.declared.driver.Kind.TheVariants.{Control as control, Bulk as bulk}
use Rattle.transfers.specs.declared.driver.Stage.{Stage}
use Rattle.transfers.specs.declared.driver.Stage.TheVariants.{Setup as setup_stage, In as in_stage, Out as out_stage}
use Rattle.transfers.specs.declared.driver.InStage.{InStage}
use Rattle.transfers.specs.declared.driver.OutStage.{OutStage}
use Rattle.transfers.specs.Refusal.{number_of}
use Rattle.transfers.specs.Reply.{Reply, result, number, begin_reply, StepResult, waiting, done, step_reply, cancel_reply}
use Rattle.transfers.specs.Registers.{bit}
use Rattle.transfers.specs.Sample.{full, length_in, errors, first_of, classify}
use Rattle.transfers.specs.Memory.{lent_fits, slot_address}
use Rattle.transfers.specs.Retiring.{InRetiring, in_retire_if, in_retire_one}
use Rattle.transfers.specs.State.{address_good, endpoint_good, size_good, is_in, fills, same, phase_has, kind_has, stage_fits, served, control_of}
use Rattle.transfers.specs.Outcome.{Outcome, toggle_in, toggle_out}
use Rattle.transfers.specs.Step.{setup_done, setup_step, in_received, status_count, in_done, in_second_done, in_first_done, in_complete, in_second_moved, in_first_moved, in_rearm, in_move, in_step, out_retire_two, out_control_done, out_done, out_complete, out_move, out_step, lent, keeping, stage_step, polls, acts}
use Rattle.transfers.specs.Calls.{step_if, may_step, step_lent, step_of, cancel_if, stage_parity, cancel_of, Beginning, fields_refusal, begin_refusal, begin_or, is_idle, begins_control, begin_control_of, bulk_request, begins_bulk_in, begin_bulk_in_of, begins_bulk_out, begin_bulk_out_of}
use Rattle.transfers.specs.Rows.{unless, control_row, bulk_row, setup_row, phase_count, bulk_count, end_row, slot_full, slot_length, too_long_of, complete_row, goes_on_row, error_row, acts_row, under_way_row, step_row_of, cancel_row}
use Rattle.transfers.proofs.Readiness.{both, may_parts}
use Rattle.transfers.specs.declared.answers.Step.TheVariants.{Done}

-- ---- begin

begins : (t : Option Run) (m : List ℕ) (b : Beginning) → begin_reply b.answer ≡ result tt → (l i a e p n : Bool)
    → begin_reply (begin_or (begin_refusal l i (fields_refusal a e p n)) t m b).answer
    ≡ unless l 15 (unless i 8 (unless a 12 (unless e 11 (unless p 13 (unless n 14 (result tt))))))
begins t m b k false i a e p n = refl
begins t m b k true false a e p n = refl
begins t m b k true true false e p n = refl
begins t m b k true true true false p n = refl
begins t m b k true true true true false n = refl
begins t m b k true true true true true false = refl
begins t m b k true true true true true true = k

pub control_row_lem : (t : Option Run) (a : ℕ) (x : TransferExtras) (p : ℕ) (s : SetupPacket) (ph : DataPhase) (buf m log : List ℕ)
    → begin_reply (begin_control_of t a x p s ph buf m log).answer ≡ control_row t a p m log
unfolding begin_control_of
control_row_lem t a x p s ph buf m log =
    begins t m (begins_control a x p s ph (length buf) m) refl (lent_fits m log) (is_idle t) (address_good a) true (size_good p) true

pub bulk_in_row : (t : Option Run) (a e p : ℕ) (k : TransferType) (b : Bool) (buf m log : List ℕ)
    → begin_reply (begin_bulk_in_of t a e p k b buf m log).answer ≡ bulk_row t a e p buf m log
unfolding begin_bulk_in_of
bulk_in_row t a e p k b buf m log =
    begins t m (begins_bulk_in (bulk_request In a e p b (length buf)) k m) refl (lent_fits m log) (is_idle t) (address_good a) (endpoint_good e) (size_good p) (leb (length buf) 0xFFFF)

pub bulk_out_row : (t : Option Run) (a e p : ℕ) (k : TransferType) (b : Bool) (buf m log : List ℕ)
    → begin_reply (begin_bulk_out_of t a e p k b buf m log).answer ≡ bulk_row t a e p buf m log
unfolding begin_bulk_out_of
bulk_out_row t a e p k b buf m log =
    begins t m (begins_bulk_out (bulk_request Out a e p b (length buf)) e k buf m) refl (lent_fits m log) (is_idle t) (address_good a) (endpoint_good e) (size_good p) (leb (length buf) 0xFFFF)

-- ---- step

kept_answer : (status : Bool) (buf : List ℕ) (o : Outcome) → (keeping status buf o).answer ≡ o.answer
kept_answer true buf o = refl
kept_answer false buf o = refl

-- An error ends every stage with its number.
failed_row : (e : UsbError) (x : Request) (st : Stage) (w : ℕ) (buf m : List ℕ)
    → step_reply (stage_step (Failed e) x st w buf m).answer ≡ number (number_of (Usb e))
unfolding setup_step in_step out_step
failed_row e x setup_stage w buf m = refl
failed_row e x (in_stage st) w buf m = ap step_reply (kept_answer st.status buf (in_step (Failed e) x st w (lent st.status buf) m))
failed_row e x (out_stage st) w buf m = ap step_reply (kept_answer st.status buf (out_step (Failed e) x st w (lent st.status buf) m))

-- A stage that a step serves is one that the transfer has.
stage_fits_lem : (filling : Bool) (k : Kind) (st : Stage) → served filling k st ≡ true → stage_fits k st ≡ true
unfolding served
stage_fits_lem filling k st e = (both (same filling (fills k)) (stage_fits k st) e).1

-- A second slot is in flight.
one_less : (k : ℕ) → ltb 0 (k - 1) ≡ ltb 1 k
one_less k = go (ltb 1 k) refl
  where
    go : (b : Bool) → ltb 1 k ≡ b → ltb 0 (k - 1) ≡ b
    go true e = lt-ltb 0 (k - 1) (omega (arith, ltb-true 1 k e))
    go false e = le-ltb 0 (k - 1) (omega (arith, ltb-false 1 k e))

-- Whether a slot that is looked at is too long.
long_is : (w : ℕ) (c : InDepacketiser) (k : ℕ) (buf m : List ℕ)
    → (in_retire_one w c k buf m).long ≡ (ltb 0 k && full w c.parity && ltb 64 (length_in w c.parity))
unfolding in_retire_one
long_is w c k buf m = go (ltb 0 k && full w c.parity) (ltb 64 (length_in w c.parity)) refl
  where
    go : (a b : Bool) → ltb 64 (length_in w c.parity) ≡ b → (in_retire_if a (length_in w c.parity) c k buf m).long ≡ (a && b)
    go false b e = refl
    go true true e = rw e
    go true false e = rw e

-- What the second look leaves.
abbrev again : ℕ → InRetiring → List ℕ → InRetiring
again w g m = in_retire_one w g.packets g.inflight g.buffer m

-- Whether one of the two is.
pair_long : (w : ℕ) (c : InDepacketiser) (k : ℕ) (buf m : List ℕ)
    → ((in_retire_one w c k buf m).long || (again w (in_retire_one w c k buf m) m).long)
    ≡ (ltb 0 k && full w c.parity && (ltb 64 (length_in w c.parity) || (ltb 1 k && full w (not c.parity) && ltb 64 (length_in w (not c.parity)))))
unfolding in_retire_one in_retire
pair_long w c k buf m = go (ltb 0 k && full w c.parity) (ltb 64 n) refl refl
  where
    n : ℕ
    n = length_in w c.parity

    go : (a b : Bool) → (ltb 0 k && full w c.parity) ≡ a → ltb 64 n ≡ b
        → ((in_retire_if a n c k buf m).long || (again w (in_retire_if a n c k buf m) m).long)
        ≡ (a && (b || (ltb 1 k && full w (not c.parity) && ltb 64 (length_in w (not c.parity)))))
    go false b e t = long_is w c k buf m ∙ ap (λ (x : Bool). x && ltb 64 n) e
    go true true e t = rw t
    go true false e t =
        rw t
        (long_is w (in_retire c n).rest (k - 1) (sets buf c.offset (take (in_retire c n).count (drop (slot_address c.parity) m))) m
        ∙ ap (λ (x : Bool). x && full w (not c.parity) && ltb 64 (length_in w (not c.parity))) (one_less k))

-- In the document's bit places.
places : (w k : ℕ) (s : Bool)
    → (ltb 0 k && full w s && (ltb 64 (length_in w s) || (ltb 1 k && full w (not s) && ltb 64 (length_in w (not s)))))
    ≡ (ltb 0 k && slot_full w s && (ltb 64 (slot_length w s) || (ltb 1 k && slot_full w (not s) && ltb 64 (slot_length w (not s)))))
places w k true = refl
places w k false = refl

first_look : InStage → ℕ → List ℕ → List ℕ → InRetiring
first_look st w buf m = in_retire_one w (in_received st) st.inflight (lent st.status buf) m

too_long : (st : InStage) (w : ℕ) (buf m : List ℕ) → ((first_look st w buf m).long || (again w (first_look st w buf m) m).long) ≡ too_long_of st w
unfolding first_look
too_long st w buf m = pair_long w (in_received st) st.inflight (lent st.status buf) m ∙ places w st.inflight st.retire

-- A stage that the transfer has ends with the document's count.
in_end : (k : Kind) (status : Bool) (x : Request) (d : InDepacketiser) (m buf : List ℕ) → kind_has k true status ≡ true
    → step_reply (in_done k status x d m buf).answer ≡ end_row k status x.length d.offset
in_end (control c) false x d m buf h = refl
in_end (control c) true x d m buf h = go c.phase h
  where
    go : (ph : DataPhase) → phase_has ph true true ≡ true → step_reply (Ok (Done (status_count ph x.length))) ≡ result (done (phase_count ph x.length d.offset))
    go phase_in h = absurd (true≢false (sym h))
    go phase_out h = refl
    go phase_none h = refl
in_end (bulk b) true x d m buf h = absurd (true≢false (sym h))
in_end (bulk b) false x d m buf h = go b.direction h
  where
    go : (e : Direction) → same true (is_in e) ≡ true → step_reply (Ok (Done d.offset)) ≡ result (done (bulk_count e x.length d.offset))
    go In h = refl
    go Out h = absurd (true≢false (sym h))

out_end : (k : Kind) (x : Request) (st : OutStage) (parity : Bool) (m buf : List ℕ) → kind_has k false st.status ≡ true
    → step_reply (out_done k x st parity m buf).answer ≡ end_row k st.status x.length st.received
out_end (control c) x st parity m buf h = status st.status h
  where
    go : (ph : DataPhase) → phase_has ph false true ≡ true → step_reply (Ok (Done st.received)) ≡ result (done (phase_count ph x.length st.received))
    go phase_in h = refl
    go phase_out h = absurd (true≢false (sym h))
    go phase_none h = absurd (true≢false (sym h))

    status : (s : Bool) → phase_has c.phase false s ≡ true
        → step_reply (out_control_done s x st.received m buf).answer ≡ end_row (control c) s x.length st.received
    status false h = refl
    status true h = go c.phase h
out_end (bulk b) x st parity m buf h = go b.direction (both (not st.status) (same false (is_in b.direction)) h).1
  where
    go : (e : Direction) → same false (is_in e) ≡ true → step_reply (Ok (Done x.length)) ≡ result (done (bulk_count e x.length st.received))
    go In h = absurd (true≢false (sym h))
    go Out h = refl

in_complete_row : (x : Request) (st : InStage) (w : ℕ) (buf m : List ℕ) → kind_has x.kind true st.status ≡ true
    → step_reply (in_complete x st w (lent st.status buf) m).answer ≡ complete_row x (in_stage st) w buf m
unfolding in_complete first_look
in_complete_row x st w buf m fits = go g.long ∙ ap (λ (b : Bool). unless (not b) 9 end) (too_long st w buf m)
  where
    g : InRetiring
    g = first_look st w buf m

    h : InRetiring
    h = again w g m

    end : Reply StepResult
    end = end_row x.kind st.status x.length h.packets.offset

    second : (b : Bool) → step_reply (in_second_done b h x st.status m).answer ≡ unless (not b) 9 end
    second true = refl
    second false = in_end x.kind st.status x h.packets m h.buffer fits

    go : (b : Bool) → step_reply (in_first_done b g w x st.status m).answer ≡ unless (not (b || h.long)) 9 end
    go true = refl
    go false = second h.long

in_move_row : (x : Request) (st : InStage) (w : ℕ) (buf m : List ℕ)
    → step_reply (in_move x st w (lent st.status buf) m).answer ≡ goes_on_row (in_stage st) w
unfolding in_move in_rearm first_look
in_move_row x st w buf m = go g.long ∙ ap (λ (b : Bool). unless (not b) 9 (result (waiting true))) (too_long st w buf m)
  where
    g : InRetiring
    g = first_look st w buf m

    h : InRetiring
    h = again w g m

    second : (b : Bool) → step_reply (in_second_moved b h w x st m).answer ≡ unless (not b) 9 (result (waiting true))
    second true = refl
    second false = refl

    go : (b : Bool) → step_reply (in_first_moved b g w x st m).answer ≡ unless (not (b || h.long)) 9 (result (waiting true))
    go true = refl
    go false = second h.long

setup_row_lem : (ph : DataPhase) (short : Bool) (x : Request) (n : ℕ) (buf m : List ℕ) → step_reply (setup_done ph short x n buf m).answer ≡ setup_row ph short
setup_row_lem phase_in true x n buf m = refl
setup_row_lem phase_in false x n buf m = refl
setup_row_lem phase_out true x n buf m = refl
setup_row_lem phase_out false x n buf m = refl
setup_row_lem phase_none short x n buf m = refl

complete_row_lem : (x : Request) (st : Stage) (w : ℕ) (buf m : List ℕ) → stage_fits x.kind st ≡ true
    → step_reply (stage_step Complete x st w buf m).answer ≡ complete_row x st w buf m
unfolding setup_step in_step out_step out_complete
complete_row_lem x setup_stage w buf m fits =
    let c = control_of x.kind in
    setup_row_lem c.phase (ltb x.length c.wLength) x c.wLength buf m
complete_row_lem x (in_stage st) w buf m fits =
    ap step_reply (kept_answer st.status buf (in_step Complete x st w (lent st.status buf) m)) ∙ in_complete_row x st w buf m fits
complete_row_lem x (out_stage st) w buf m fits =
    ap step_reply (kept_answer st.status buf (out_step Complete x st w (lent st.status buf) m))
    ∙ out_end x.kind x st (out_retire_two w st.retire st.inflight).parity m (lent st.status buf) fits

goes_on_row_lem : (x : Request) (st : Stage) (w : ℕ) (buf m : List ℕ) → step_reply (stage_step Neither x st w buf m).answer ≡ goes_on_row st w
unfolding setup_step in_step out_step out_move
goes_on_row_lem x setup_stage w buf m = refl
goes_on_row_lem x (in_stage st) w buf m =
    ap step_reply (kept_answer st.status buf (in_step Neither x st w (lent st.status buf) m)) ∙ in_move_row x st w buf m
goes_on_row_lem x (out_stage st) w buf m = ap step_reply (kept_answer st.status buf (out_step Neither x st w (lent st.status buf) m))

acts_row_lem : (x : Request) (st : Stage) (s : Sample) (buf m : List ℕ) → stage_fits x.kind st ≡ true
    → step_reply (acts x st s buf m).answer ≡ acts_row x st s buf m
unfolding acts classify
acts_row_lem x st s buf m fits =
    polled (eqb (bit_and s.intr 0x7F8) 0) (bit 18 s.status)
  where
    w : ℕ
    w = s.buffers

    error : (a b c d e f : Bool)
        → step_reply (stage_step (cond a (Failed DataSeqError) (cond b (Failed Stall) (cond c (Failed Overflow)
        (cond d (Failed Timeout) (cond e (Failed BitStuffError) (cond f (Failed CrcError) Neither)))))) x st w buf m).answer
        ≡ cond a (number 6) (cond b (number 1) (cond c (number 3) (cond d (number 2) (cond e (number 4) (cond f (number 5) (goes_on_row st w))))))
    error true b c d e f = failed_row DataSeqError x st w buf m
    error false true c d e f = failed_row Stall x st w buf m
    error false false true d e f = failed_row Overflow x st w buf m
    error false false false true e f = failed_row Timeout x st w buf m
    error false false false false true f = failed_row BitStuffError x st w buf m
    error false false false false false true = failed_row CrcError x st w buf m
    error false false false false false false = goes_on_row_lem x st w buf m

    polled : (z c : Bool)
        → step_reply (polls (cond z None (Some (cond c Complete (first_of s.status errors)))) x st w buf m).answer
        ≡ cond z (result (waiting false)) (cond c (complete_row x st w buf m) (error_row s.status (goes_on_row st w)))
    polled true c = refl
    polled false true = complete_row_lem x st w buf m fits
    polled false false = error (bit 31 s.status) (bit 29 s.status) (bit 26 s.status) (bit 27 s.status) (bit 25 s.status) (bit 24 s.status)

pub step_row : (filling : Bool) (t : Option Run) (s : Sample) (buf m log : List ℕ)
    → step_reply (step_of filling t s buf m log).answer ≡ step_row_of filling t s buf m log
unfolding step_of
step_row filling t s buf m log = go (lent_fits m log) t
  where
    served_row : (r : Run) (b c : Bool) → may_step filling r ≡ b
        → step_reply (step_if b c r s buf m).answer ≡ unless b 16 (unless c 15 (acts_row r.request r.stage s buf m))
    served_row r false c e = refl
    served_row r true false e = refl
    served_row r true true e = acts_row_lem r.request r.stage s buf m (stage_fits_lem filling r.request.kind r.stage (may_parts filling r e).0)

    go : (b : Bool) (t : Option Run) → step_reply (step_lent b filling t s buf m).answer ≡ unless b 15 (under_way_row filling t s buf m)
    go false t = refl
    go true None = refl
    go true (Some r) = served_row r (may_step filling r) (eqb (length buf) r.request.length) refl

-- ---- cancel

pub cancel_row_lem : (t : Option Run) → cancel_reply (cancel_of t).answer ≡ cancel_row t
unfolding cancel_of
cancel_row_lem None = refl
cancel_row_lem (Some r) = go (may_step true r) (may_step false r)
  where
    go : (a b : Bool) → cancel_reply (cancel_if (cond a true b) (Some r) (toggle_in r.request.kind) (toggle_out r.request.kind (stage_parity r.stage))).answer ≡ unless (a || b) 16 (result tt)
    go true b = refl
    go false true = refl
    go false false = refl
