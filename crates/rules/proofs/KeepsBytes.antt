-- The caller's buffer at a step's numbers. Assumes nothing.
use Rattle.std.specs.Prelude.{Err, None, Ok, Option, Result, Some}
use mathlib.Core.Path.{◌≡◌, refl, sym, ap, ap₂, ◌∙◌, subst}
use mathlib.Core.Bool.{Bool, true, false, cond, ◌&&◌, true≢false}
use mathlib.Core.Logic.{◌⊎◌, inl, inr}
use mathlib.Core.List.{List, [], ◌∷◌, ◌++◌, map, append-nil}
use Prim.Native.Nat.{ℕ, ◌+◌, ◌≤◌, min}
use native.Mathlib.Nat.{add-zero}
use native.Mathlib.Omega.{arith}
use borrow.Author.Tests.{eqb-true, eqb-false, ltb-false}
use lib.Bits.{bit_and}
use lib.Dec.{eqb, leb, ltb}
use lib.ListN.{length, take, drop, length-append, length-take, length-drop, take-append-drop}
use lib.Seq.{sets, sets-eq, length-sets, length-take-le, take-length, take-take, take_at, take-append-le}
use Rattle.cutting.specs.declared.transfer_type.TransferType.{TransferType}
use Rattle.cutting.specs.declared.depacketiser.InDepacketiser.{InDepacketiser}
use Rattle.cutting.specs.declared.transfer_type.TransferType.TheVariants.{FixedSize}
use Rattle.cutting.specs.Cut.{Packet, in_cut_of}
use Rattle.cutting.specs.Retire.{in_retire, sum}
use Rattle.cutting.specs.Rules.{joined}
use Rattle.cutting.proofs.Retiring.{retires, retire_fits}
use Rattle.cutting.proofs.Filled.{total_joined, Stored, stored_length, stored_one}
use Rattle.transfers.specs.declared.host_controller.UsbError.{UsbError}
use Rattle.transfers.specs.declared.host_controller.UsbError.TheVariants.{Stall, Timeout, Overflow, BitStuffError, CrcError, DataSeqError}
use Rattle.transfers.specs.declared.host_controller.DataPhase.{DataPhase}
use Rattle.transfers.specs.declared.host_controller.DataPhase.TheVariants.{In as phase_in, Out as phase_out, None as phase_none}
use Rattle.transfers.specs.declared.host_controller.TransferExtras.{TransferExtras}
use Rattle.transfers.specs.declared.wire.SetupPacket.{SetupPacket}
use Rattle.transfers.specs.declared.wire.Direction.TheVariants.{In}
use Rattle.transfers.specs.declared.refusal.Refusal.TheVariants.{LentMemory, State}
use Rattle.transfers.specs.declared.sample.Sample.{Sample}
use Rattle.transfers.specs.declared.sample.Found.{Found}
use Rattle.transfers.specs.declared.sample.Found.TheVariants.{Complete, Failed, Neither}
use Rattle.transfers.specs.declared.driver.Run.{Run}
use Rattle.transfers.specs.declared.driver.Request.{Request}
use Rattle.transfers.specs.declared.driver.Kind.{Kind}
use Rattle.transfers.specs.declared.driver.Kind.TheVariants.{Control as control, Bulk as bulk}
use Rattle.transfers.specs.declared.driver.Stage.{Stage}
use Rattle.transfers.specs.declared.driver.Stage.TheVariants.{Setup as setup_stage, In as in_stage, Out as out_stage}
use Rattle.transfers.specs.declared.driver.InStage.{InStage}
use Rattle.transfers.specs.declared.driver.OutStage.{OutStage}
use Rattle.transfers.specs.Memory.{lent_fits, slot_address}
use Rattle.transfers.specs.Refusal.{error_number, number_of}
use Rattle.transfers.specs.Registers.{bit}
use Rattle.transfers.specs.Reply.{Reply, result, number, StepResult, step_reply}
use Rattle.transfers.specs.Sample.{errors, first_of, classify, full, length_in}
use Rattle.transfers.specs.Retiring.{InRetiring, in_taken, in_retire_if, in_retire_one}
use Rattle.transfers.specs.Ready.{InIsStatus}
use Rattle.transfers.specs.State.{control_of, target_of, address_good, endpoint_good, size_good}
use Rattle.transfers.specs.Outcome.{Outcome, toggle_out, flipped, start_in}
use Rattle.transfers.specs.Step.{setup_done, setup_step, in_received, in_done, in_second_done, in_first_done, in_complete, in_second_moved, in_first_moved, in_rearm, in_move, in_step, out_retire_two, out_control_done, out_done, out_complete, out_move, out_step, lent, keeping, stage_step, polls, acts}
use Rattle.transfers.specs.Calls.{refuses, stage_parity, step_if, may_step, step_lent, step_of, well_formed, is_idle, fields_refusal, begin_refusal, Beginning, bulk_request, begins_bulk_in, begin_bulk_in_of, begin_control_of}
use Rattle.transfers.proofs.OpenPipes.{between, lent_sizes}
use Rattle.transfers.proofs.Beginnings.{none_fields, bulk_good}
use Rattle.transfers.proofs.WellFormed.{step_well, begin_bulk_in_well}
use Rattle.transfers.proofs.Readiness.{sound_within, served_status, may_parts}
use Rattle.rules.specs.Fields.{read_buffer_control}
use Rattle.rules.specs.Received.{slot_of, StepCall, packet_at, Tally, tally_step, tallied, tally_start, received, control_received, Running, step_in, after_step, after_steps, Moved}
use Rattle.rules.specs.KeepsBytes.{packet_stored, buffer_by, buffer_at_nine, packets_by, packets_at_nine, is_in_stage, receiving, in_stage_at, KeepsBytes}
use Rattle.rules.proofs.InStage.{Stands, Comes, fails, goes, finishes, comes, starts_armed, starts}
use Rattle.rules.proofs.Steps.{tally_more, tally_none, after_more, after_none, idle_next, kept_moved, accepted, none_idle}
use Rattle.rules.proofs.ControlIn.{control_so_far}
use Rattle.transfers.specs.declared.answers.Step.TheVariants.{Done, Waiting}
use Rattle.transfers.specs.declared.refusal.Refusal.{Refusal}
use Rattle.transfers.specs.declared.answers.Step.{Step}

no : {A : Type 0} → true ≡ false → A
no e = absurd (true≢false e)

-- ---- a step that acts, by its answer: a number other than 9 with the buffer as lent and v₀ for desk rule 2's toggle, or 9; else the rules' toggles don't differ

-- The transfer is still under way, as its begin asked for it.
abbrev pub StaysWith : Request → Option Run → Type 0
StaysWith x None = ⊥
StaysWith x (Some r) = r.request ≡ x

-- A control transfer has no toggle.
abbrev pub NoToggle : Kind → Bool → Type 0
NoToggle (control c) t = t ≡ false
NoToggle (bulk b) t = Unit {0}

none_out : (k : Kind) → NoToggle k false
none_out (control c) = refl
none_out (bulk b) = tt

abbrev pub Keeps : List ℕ → Request → Bool → (List ℕ → Bool → Type 0) → Result Step Refusal → List ℕ → Bool → Bool → Option Run → Type 0
Keeps buf x v₀ Nine (Ok (Waiting again)) b t v n = (v ≡ t) × StaysWith x n
Keeps buf x v₀ Nine (Ok (Done count)) b t v n = (v ≡ t) × NoToggle x.kind t
Keeps buf x v₀ Nine (Err why) b t v n = ((b ≡ buf) × (v ≡ v₀) × (eqb (number_of why) 9 ≡ false)) ⊎ (Nine b v × (eqb (number_of why) 9 ≡ true))

abbrev pub KeepsOf : List ℕ → Request → Bool → (List ℕ → Bool → Type 0) → Outcome → Type 0
KeepsOf buf x v₀ Nine o = Keeps buf x v₀ Nine o.answer o.buffer o.toggle o.moved o.next

-- The first slot, and the second after it.
abbrev pub first_one : InStage → ℕ → List ℕ → List ℕ → InRetiring
first_one st w buf m = in_retire_one w (in_received st) st.inflight buf m

abbrev pub second_one : ℕ → InRetiring → List ℕ → InRetiring
second_one w g m = in_retire_one w g.packets g.inflight g.buffer m

-- One of the two is long.
abbrev pub Long : InStage → ℕ → List ℕ → List ℕ → Type 0
Long st w buf m = let g = first_one st w buf m in (g.long ≡ true) ⊎ ((g.long ≡ false) × ((second_one w g m).long ≡ true))

-- The long packet isn't copied, and doesn't count.
long_stays : (w : ℕ) (c : InDepacketiser) (k : ℕ) (buf m : List ℕ) → (in_retire_one w c k buf m).long ≡ true
    → ((in_retire_one w c k buf m).buffer ≡ buf) × ((in_retire_one w c k buf m).packets.parity ≡ c.parity)
unfolding in_retire_one
long_stays w c k buf m = go (ltb 0 k && full w c.parity) (ltb 64 (length_in w c.parity))
  where
    taken : (l : Bool) → let g = in_taken l (length_in w c.parity) c k buf m in g.long ≡ true → (g.buffer ≡ buf) × (g.packets.parity ≡ c.parity)
    taken true e = (refl, refl)
    taken false e = no (sym e)

    go : (t l : Bool) → let g = in_retire_if t (length_in w c.parity) c k buf m in g.long ≡ true → (g.buffer ≡ buf) × (g.packets.parity ≡ c.parity)
    go false l e = (refl, refl)
    go true l e = taken (ltb 64 (length_in w c.parity)) e

-- At 9: which slot is long, the buffer after the first, and the toggle by the packets retired.
abbrev pub Held : Kind → InStage → ℕ → List ℕ → List ℕ → List ℕ → Bool → Type 0
Held k st w buf m b v = Long st w buf m × (b ≡ (first_one st w buf m).buffer) × (v ≡ toggle_out k (first_one st w buf m).packets.parity)

in_done_keeps : (v₀ : Bool) (N : List ℕ → Bool → Type 0) (k : Kind) (status : Bool) (x : Request) (d : InDepacketiser) (l m buf : List ℕ) → x.kind ≡ k → KeepsOf l x v₀ N (in_done k status x d m buf)
in_done_keeps v₀ N (control c) true x d l m buf e = (refl, none_out x.kind)
in_done_keeps v₀ N (control c) false x d l m buf e = (refl, refl)
in_done_keeps v₀ N (bulk b) status x d l m buf e = (refl, subst (λ (k : Kind). NoToggle k (flipped b.toggle d.parity)) (sym e) tt)

in_complete_keeps : (v₀ : Bool) (x : Request) (st : InStage) (w : ℕ) (buf m : List ℕ) → KeepsOf buf x v₀ (Held x.kind st w buf m) (in_complete x st w buf m)
unfolding in_complete
in_complete_keeps v₀ x st w buf m = go g.long refl
  where
    g : InRetiring
    g = first_one st w buf m

    h : InRetiring
    h = second_one w g m

    second : g.long ≡ false → (b : Bool) → h.long ≡ b → KeepsOf buf x v₀ (Held x.kind st w buf m) (in_second_done b h x st.status m)
    second f true e = let z = long_stays w g.packets g.inflight g.buffer m e in inr ((inr (f, e), z.0, ap (toggle_out x.kind) z.1), refl)
    second f false e = in_done_keeps v₀ (Held x.kind st w buf m) x.kind st.status x h.packets buf m h.buffer refl

    go : (b : Bool) → g.long ≡ b → KeepsOf buf x v₀ (Held x.kind st w buf m) (in_first_done b g w x st.status m)
    go true e = inr ((inl e, refl, refl), refl)
    go false e = second e h.long refl

in_move_keeps : (v₀ : Bool) (x : Request) (st : InStage) (w : ℕ) (buf m : List ℕ) → KeepsOf buf x v₀ (Held x.kind st w buf m) (in_move x st w buf m)
unfolding in_move in_rearm
in_move_keeps v₀ x st w buf m = go g.long refl
  where
    g : InRetiring
    g = first_one st w buf m

    h : InRetiring
    h = second_one w g m

    second : g.long ≡ false → (b : Bool) → h.long ≡ b → KeepsOf buf x v₀ (Held x.kind st w buf m) (in_second_moved b h w x st m)
    second f true e = let z = long_stays w g.packets g.inflight g.buffer m e in inr ((inr (f, e), z.0, ap (toggle_out x.kind) z.1), refl)
    second f false e = (refl, refl)

    go : (b : Bool) → g.long ≡ b → KeepsOf buf x v₀ (Held x.kind st w buf m) (in_first_moved b g w x st m)
    go true e = inr ((inl e, refl, refl), refl)
    go false e = second e h.long refl

-- ---- by the stage

-- In a status stage the caller's buffer stays.
abbrev pub HeldBy : Kind → Bool → InStage → ℕ → List ℕ → List ℕ → List ℕ → Bool → Type 0
HeldBy k true st w buf m b v = Long st w [] m × (b ≡ buf) × (v ≡ toggle_out k (first_one st w [] m).packets.parity)
HeldBy k false st w buf m b v = Held k st w buf m b v

abbrev pub Nine : Kind → Stage → ℕ → List ℕ → List ℕ → List ℕ → Bool → Type 0
Nine k setup_stage w buf m b v = ⊥
Nine k (in_stage st) w buf m b v = HeldBy k st.status st w buf m b v
Nine k (out_stage st) w buf m b v = ⊥

in_keeping : (x : Request) (v₀ : Bool) (k : Kind) (s : Bool) (st : InStage) (w : ℕ) (buf m : List ℕ) (o : Outcome) → KeepsOf (lent s buf) x v₀ (Held k st w (lent s buf) m) o → KeepsOf buf x v₀ (HeldBy k s st w buf m) (keeping s buf o)
in_keeping x v₀ k false st w buf m o h = h
in_keeping x v₀ k true st w buf m o h = by o.answer h
  where
    by : (a : Result Step Refusal) → Keeps [] x v₀ (Held k st w [] m) a o.buffer o.toggle o.moved o.next → Keeps buf x v₀ (HeldBy k true st w buf m) a buf o.toggle o.moved o.next
    by (Ok (Waiting again)) h = h
    by (Ok (Done count)) h = h
    by (Err why) (inl e) = inl (refl, e.1, e.2)
    by (Err why) (inr e) = inr ((e.0.0, refl, e.0.2), e.1)

abbrev Never : List ℕ → Bool → Type 0
Never b v = ⊥

out_keeping : (x : Request) (v₀ s : Bool) (buf : List ℕ) (o : Outcome) → KeepsOf (lent s buf) x v₀ Never o → KeepsOf buf x v₀ Never (keeping s buf o)
out_keeping x v₀ false buf o h = h
out_keeping x v₀ true buf o h = by o.answer h
  where
    by : (a : Result Step Refusal) → Keeps [] x v₀ Never a o.buffer o.toggle o.moved o.next → Keeps buf x v₀ Never a buf o.toggle o.moved o.next
    by (Ok (Waiting again)) h = h
    by (Ok (Done count)) h = h
    by (Err why) (inl e) = inl (refl, e.1, e.2)
    by (Err why) (inr e) = absurd e.0

setup_keeps : (N : List ℕ → Bool → Type 0) (ph : DataPhase) (short : Bool) (x : Request) (n : ℕ) (buf m : List ℕ) → KeepsOf buf x (toggle_out x.kind false) N (setup_done ph short x n buf m)
setup_keeps N phase_in true x n buf m = inl (refl, refl, refl)
setup_keeps N phase_in false x n buf m = (refl, refl)
setup_keeps N phase_out true x n buf m = inl (refl, refl, refl)
setup_keeps N phase_out false x n buf m = (refl, refl)
setup_keeps N phase_none short x n buf m = (refl, refl)

out_done_keeps : (v₀ : Bool) (N : List ℕ → Bool → Type 0) (k : Kind) (x : Request) (st : OutStage) (parity : Bool) (l m buf : List ℕ) → x.kind ≡ k → KeepsOf l x v₀ N (out_done k x st parity m buf)
out_done_keeps v₀ N (control c) x st parity l m buf e = go st.status
  where
    go : (b : Bool) → KeepsOf l x v₀ N (out_control_done b x st.received m buf)
    go true = (refl, none_out x.kind)
    go false = (refl, refl)
out_done_keeps v₀ N (bulk b) x st parity l m buf e = (refl, subst (λ (k : Kind). NoToggle k (flipped b.toggle parity)) (sym e) tt)

-- The toggle of desk rule 2 where no packet is retired by the step.
abbrev pub parity_toggle : Request → Stage → Bool
parity_toggle x st = toggle_out x.kind (stage_parity st)

complete_keeps : (x : Request) (st : Stage) (w : ℕ) (buf m : List ℕ) → KeepsOf buf x (parity_toggle x st) (Nine x.kind st w buf m) (stage_step Complete x st w buf m)
unfolding setup_step in_step out_step out_complete
complete_keeps x setup_stage w buf m = let c = control_of x.kind in setup_keeps Never c.phase (ltb x.length c.wLength) x c.wLength buf m
complete_keeps x (in_stage st) w buf m =
    in_keeping x (parity_toggle x (in_stage st)) x.kind st.status st w buf m (in_step Complete x st w (lent st.status buf) m) (in_complete_keeps (parity_toggle x (in_stage st)) x st w (lent st.status buf) m)
complete_keeps x (out_stage st) w buf m =
    out_keeping x (parity_toggle x (out_stage st)) st.status buf (out_step Complete x st w (lent st.status buf) m)
    (out_done_keeps (parity_toggle x (out_stage st)) Never x.kind x st (out_retire_two w st.retire st.inflight).parity (lent st.status buf) m (lent st.status buf) refl)

error_keeps : (e : UsbError) (x : Request) (st : Stage) (w : ℕ) (buf m : List ℕ) → eqb (error_number e) 9 ≡ false → KeepsOf buf x (parity_toggle x st) (Nine x.kind st w buf m) (stage_step (Failed e) x st w buf m)
unfolding setup_step in_step out_step
error_keeps e x setup_stage w buf m h = inl (refl, refl, h)
error_keeps e x (in_stage st) w buf m h = in_keeping x (parity_toggle x (in_stage st)) x.kind st.status st w buf m (in_step (Failed e) x st w (lent st.status buf) m) (inl (refl, refl, h))
error_keeps e x (out_stage st) w buf m h = out_keeping x (parity_toggle x (out_stage st)) st.status buf (out_step (Failed e) x st w (lent st.status buf) m) (inl (refl, refl, h))

goes_on_keeps : (x : Request) (st : Stage) (w : ℕ) (buf m : List ℕ) → KeepsOf buf x (parity_toggle x st) (Nine x.kind st w buf m) (stage_step Neither x st w buf m)
unfolding setup_step in_step out_step out_move
goes_on_keeps x setup_stage w buf m = (refl, refl)
goes_on_keeps x (in_stage st) w buf m =
    in_keeping x (parity_toggle x (in_stage st)) x.kind st.status st w buf m (in_step Neither x st w (lent st.status buf) m) (in_move_keeps (parity_toggle x (in_stage st)) x st w (lent st.status buf) m)
goes_on_keeps x (out_stage st) w buf m = out_keeping x (parity_toggle x (out_stage st)) st.status buf (out_step Neither x st w (lent st.status buf) m) (refl, refl)

pub acts_keeps : (x : Request) (st : Stage) (s : Sample) (buf m : List ℕ) → KeepsOf buf x (parity_toggle x st) (Nine x.kind st s.buffers buf m) (acts x st s buf m)
unfolding acts classify
acts_keeps x st s buf m = polled (eqb (bit_and s.intr 0x7F8) 0) (bit 18 s.status)
  where
    w : ℕ
    w = s.buffers

    error : (a b c d e f : Bool)
        → KeepsOf buf x (parity_toggle x st) (Nine x.kind st w buf m) (stage_step (cond a (Failed DataSeqError) (cond b (Failed Stall) (cond c (Failed Overflow)
        (cond d (Failed Timeout) (cond e (Failed BitStuffError) (cond f (Failed CrcError) Neither)))))) x st w buf m)
    error true b c d e f = error_keeps DataSeqError x st w buf m refl
    error false true c d e f = error_keeps Stall x st w buf m refl
    error false false true d e f = error_keeps Overflow x st w buf m refl
    error false false false true e f = error_keeps Timeout x st w buf m refl
    error false false false false true f = error_keeps BitStuffError x st w buf m refl
    error false false false false false true = error_keeps CrcError x st w buf m refl
    error false false false false false false = goes_on_keeps x st w buf m

    polled : (z c : Bool) → KeepsOf buf x (parity_toggle x st) (Nine x.kind st w buf m) (polls (cond z None (Some (cond c Complete (first_of s.status errors)))) x st w buf m)
    polled true c = (refl, refl)
    polled false true = complete_keeps x st w buf m
    polled false false = error (bit 31 s.status) (bit 29 s.status) (bit 26 s.status) (bit 27 s.status) (bit 25 s.status) (bit 24 s.status)

-- ---- every step: refused with 15 or 16, or one that acts, with what the checks left

pub by_busy : (P : Outcome → Type 0) (filling : Bool) (r : Run) (s : Sample) (buf m log : List ℕ) → P (refuses (Some r) LentMemory m buf) → P (refuses (Some r) State m buf)
    → (may_step filling r ≡ true → length buf ≡ r.request.length → lent_fits m log ≡ true → P (acts r.request r.stage s buf m)) → P (step_of filling (Some r) s buf m log)
unfolding step_of
by_busy P filling r s buf m log a b c = go (lent_fits m log) refl
  where
    may : lent_fits m log ≡ true → (v n : Bool) → may_step filling r ≡ v → eqb (length buf) r.request.length ≡ n → P (step_if v n r s buf m)
    may l false n e f = b
    may l true false e f = a
    may l true true e f = c e (eqb-true (length buf) r.request.length f) l

    go : (l : Bool) → lent_fits m log ≡ l → P (step_lent l filling (Some r) s buf m)
    go false e = a
    go true e = may e (may_step filling r) (eqb (length buf) r.request.length) refl refl

pub by_idle : (P : Outcome → Type 0) (filling : Bool) (s : Sample) (buf m log : List ℕ) → P (refuses None LentMemory m buf) → P (refuses None State m buf) → P (step_of filling None s buf m log)
unfolding step_of
by_idle P filling s buf m log a b = go (lent_fits m log)
  where
    go : (l : Bool) → P (step_lent l filling None s buf m)
    go false = a
    go true = b

clash : {A : Type 0} {n : ℕ} {r : StepResult} → number n ≡ result r → A
clash {n = n} {r = r} e = absurd (let z : ◌≡◌ {A = ℕ} 0 1 = cc in omega arith)

number_is : (k n : ℕ) → ◌≡◌ {A = Reply StepResult} (number k) (number n) → k ≡ n
number_is k n e = cc

-- A number other than 9.
other_stays : (buf : List ℕ) (x : Request) (v₀ : Bool) (N : List ℕ → Bool → Type 0) (a : Result Step Refusal) (b : List ℕ) (t v : Bool) (z : Option Run) (n : ℕ) → Keeps buf x v₀ N a b t v z → step_reply a ≡ number n → (n ≡ 9 → ⊥) → (b ≡ buf) × (v ≡ v₀)
other_stays buf x v₀ N (Ok (Waiting again)) b t v z n k e f = clash (sym e)
other_stays buf x v₀ N (Ok (Done count)) b t v z n k e f = clash (sym e)
other_stays buf x v₀ N (Err why) b t v z n (inl k) e f = (k.0, k.1)
other_stays buf x v₀ N (Err why) b t v z n (inr k) e f = absurd (f (sym (number_is (number_of why) n e) ∙ eqb-true (number_of why) 9 k.1))

at_nine : (buf : List ℕ) (x : Request) (v₀ : Bool) (N : List ℕ → Bool → Type 0) (a : Result Step Refusal) (b : List ℕ) (t v : Bool) (z : Option Run) → Keeps buf x v₀ N a b t v z → step_reply a ≡ number 9 → N b v
at_nine buf x v₀ N (Ok (Waiting again)) b t v z k e = clash (sym e)
at_nine buf x v₀ N (Ok (Done count)) b t v z k e = clash (sym e)
at_nine buf x v₀ N (Err why) b t v z (inl k) e = absurd (eqb-false (number_of why) 9 k.2 (number_is (number_of why) 9 e))
at_nine buf x v₀ N (Err why) b t v z (inr k) e = k.0

failed_keeps : (filling : Bool) (t : Option Run) (s : Sample) (buf m log : List ℕ) (n : ℕ)
    → step_reply (step_of filling t s buf m log).answer ≡ number n → (n ≡ 9 → ⊥) → (step_of filling t s buf m log).buffer ≡ buf
failed_keeps filling None s buf m log n =
    by_idle (λ (o : Outcome). step_reply o.answer ≡ number n → (n ≡ 9 → ⊥) → o.buffer ≡ buf) filling s buf m log (λ e f. refl) (λ e f. refl)
failed_keeps filling (Some r) s buf m log n =
    by_busy (λ (o : Outcome). step_reply o.answer ≡ number n → (n ≡ 9 → ⊥) → o.buffer ≡ buf) filling r s buf m log (λ e f. refl) (λ e f. refl)
    (λ v l g. let o = acts r.request r.stage s buf m in
    λ e f. (other_stays buf r.request (parity_toggle r.request r.stage) (Nine r.request.kind r.stage s.buffers buf m) o.answer o.buffer o.toggle o.moved o.next n (acts_keeps r.request r.stage s buf m) e f).0)

-- ---- a step that sends

setup_same : (f : Found) (x : Request) (buf m : List ℕ) → (setup_step f x buf m).buffer ≡ buf
unfolding setup_step
setup_same Complete x buf m = let c = control_of x.kind in by c.phase (ltb x.length c.wLength) c.wLength
  where
    by : (ph : DataPhase) (short : Bool) (n : ℕ) → (setup_done ph short x n buf m).buffer ≡ buf
    by phase_in true n = refl
    by phase_in false n = refl
    by phase_out true n = refl
    by phase_out false n = refl
    by phase_none short n = refl
setup_same (Failed e) x buf m = refl
setup_same Neither x buf m = refl

out_same : (f : Found) (x : Request) (st : OutStage) (w : ℕ) (buf m : List ℕ) → (out_step f x st w buf m).buffer ≡ buf
unfolding out_step out_complete out_move
out_same Complete x st w buf m = by x.kind st.status
  where
    ends : (b : Bool) → (out_control_done b x st.received m buf).buffer ≡ buf
    ends true = refl
    ends false = refl

    by : (k : Kind) (b : Bool) → (out_done k x st (out_retire_two w st.retire st.inflight).parity m buf).buffer ≡ buf
    by (control c) b = ends st.status
    by (bulk u) b = refl
out_same (Failed e) x st w buf m = refl
out_same Neither x st w buf m = refl

keeping_same : (s : Bool) (buf : List ℕ) (o : Outcome) → o.buffer ≡ lent s buf → (keeping s buf o).buffer ≡ buf
keeping_same true buf o e = refl
keeping_same false buf o e = e

status_same : (s : Bool) (buf : List ℕ) (o : Outcome) → s ≡ true → (keeping s buf o).buffer ≡ buf
status_same true buf o e = refl
status_same false buf o e = no (sym e)

stage_same : (f : Found) (x : Request) (st : Stage) (w : ℕ) (buf m : List ℕ) → InIsStatus st → (stage_step f x st w buf m).buffer ≡ buf
stage_same f x setup_stage w buf m h = setup_same f x buf m
stage_same f x (in_stage st) w buf m h = status_same st.status buf (in_step f x st w (lent st.status buf) m) h
stage_same f x (out_stage st) w buf m h = keeping_same st.status buf (out_step f x st w (lent st.status buf) m) (out_same f x st w (lent st.status buf) m)

acts_same : (x : Request) (st : Stage) (s : Sample) (buf m : List ℕ) → InIsStatus st → (acts x st s buf m).buffer ≡ buf
unfolding acts
acts_same x st s buf m h = by (classify s.status s.intr)
  where
    by : (p : Option Found) → (polls p x st s.buffers buf m).buffer ≡ buf
    by None = refl
    by (Some f) = stage_same f x st s.buffers buf m h

sends_same : (t : Option Run) (s : Sample) (buf m log : List ℕ) → (step_of false t s buf m log).buffer ≡ buf
sends_same None s buf m log = by_idle (λ (o : Outcome). o.buffer ≡ buf) false s buf m log refl refl
sends_same (Some r) s buf m log = by_busy (λ (o : Outcome). o.buffer ≡ buf) false r s buf m log refl refl
    (λ v l g. acts_same r.request r.stage s buf m (served_status r.request.kind r.stage (may_parts false r v).0))

-- ---- 9

not_nine : {A : Type 0} (k : ℕ) → eqb k 9 ≡ false → ◌≡◌ {A = Reply StepResult} (number k) (number 9) → A
not_nine k f e = absurd (eqb-false k 9 f (number_is k 9 e))

nine_in : (k : Kind) (st : Stage) (w : ℕ) (buf m b : List ℕ) (v : Bool) → Nine k st w buf m b v → is_in_stage st ≡ true
nine_in k setup_stage w buf m b v e = absurd e
nine_in k (in_stage st) w buf m b v e = refl
nine_in k (out_stage st) w buf m b v e = absurd e

acts_nine : (x : Request) (st : Stage) (s : Sample) (buf m : List ℕ) → step_reply (acts x st s buf m).answer ≡ number 9 → Nine x.kind st s.buffers buf m (acts x st s buf m).buffer (acts x st s buf m).moved
acts_nine x st s buf m e = let o = acts x st s buf m in at_nine buf x (parity_toggle x st) (Nine x.kind st s.buffers buf m) o.answer o.buffer o.toggle o.moved o.next (acts_keeps x st s buf m) e

only_in : (filling : Bool) (t : Option Run) (s : Sample) (buf m log : List ℕ) → step_reply (step_of filling t s buf m log).answer ≡ number 9 → receiving t ≡ true
only_in filling None s buf m log = by_idle (λ (o : Outcome). step_reply o.answer ≡ number 9 → false ≡ true) filling s buf m log (not_nine 15 refl) (not_nine 16 refl)
only_in filling (Some r) s buf m log =
    by_busy (λ (o : Outcome). step_reply o.answer ≡ number 9 → is_in_stage r.stage ≡ true) filling r s buf m log (not_nine 15 refl) (not_nine 16 refl)
    (λ v l g e. nine_in r.request.kind r.stage s.buffers buf m (acts r.request r.stage s buf m).buffer (acts r.request r.stage s buf m).moved (acts_nine r.request r.stage s buf m e))

-- A store from an offset on leaves what is below.
store_below : (buf vs : List ℕ) (off : ℕ) → off + length vs ≤ length buf → take off (sets buf off vs) ≡ take off buf
store_below buf vs off h =
    let a = length-take-le off buf (omega arith) in
    ap (take off) (sets-eq vs buf off h)
    ∙ take-append-le off (take off buf ++ vs) (drop (off + length vs) buf) (let z = length-append (take off buf) vs in omega arith)
    ∙ take_at (take off buf) vs off a

one_below : (w : ℕ) (c : InDepacketiser) (k : ℕ) (buf m : List ℕ) → c.offset + c.remain ≤ length buf
    → let b = (in_retire_one w c k buf m).buffer in (take c.offset b ≡ take c.offset buf) × (length b ≡ length buf)
unfolding in_retire_one
one_below w c k buf m h = go (ltb 0 k && full w c.parity)
  where
    n : ℕ
    n = length_in w c.parity

    taken : (l : Bool) → let b = (in_taken l n c k buf m).buffer in (take c.offset b ≡ take c.offset buf) × (length b ≡ length buf)
    taken true = (refl, refl)
    taken false =
        let from = drop (slot_address c.parity) m in
        let i = (in_retire c n).count in
        let vs = take i from in
        let u = length-take i from in
        let v = (retire_fits c n).0 in
        (store_below buf vs c.offset (omega (arith, u, v, h)), length-sets buf c.offset vs)

    go : (t : Bool) → let b = (in_retire_if t n c k buf m).buffer in (take c.offset b ≡ take c.offset buf) × (length b ≡ length buf)
    go false = (refl, refl)
    go true = taken (ltb 64 n)

held_below : (k : Kind) (s : Bool) (st : InStage) (w : ℕ) (buf m b : List ℕ) (v : Bool) → st.offset + st.remain ≤ length (lent s buf) → HeldBy k s st w buf m b v
    → (take st.offset b ≡ take st.offset buf) × (length b ≡ length buf)
held_below k true st w buf m b v h e = (ap (take st.offset) e.1, ap length e.1)
held_below k false st w buf m b v h e =
    let z = one_below w (in_received st) st.inflight buf m h in
    (ap (take st.offset) e.1 ∙ z.0, ap length e.1 ∙ z.1)

below_nine : (x : Request) (st : InStage) (buf : List ℕ) (y : StepCall)
    → let o = step_in (in_stage_at x st buf) y in step_reply o.answer ≡ number 9 → (take st.offset o.buffer ≡ take st.offset buf) × (length o.buffer ≡ length buf)
below_nine x st buf y =
    let r : Run = record { request = x; stage = in_stage st } in
    by_busy (λ (o : Outcome). step_reply o.answer ≡ number 9 → (take st.offset o.buffer ≡ take st.offset buf) × (length o.buffer ≡ length buf)) true r y.sample buf y.memory y.log
    (not_nine 15 refl) (not_nine 16 refl)
    (λ v l g e. let o = acts x (in_stage st) y.sample buf y.memory in held_below x.kind st.status st y.sample.buffers buf y.memory o.buffer o.moved
    (sound_within x (in_stage st) buf (may_parts true r v).1 (sym l)) (acts_nine x (in_stage st) y.sample buf y.memory e))

-- ---- exactly

pub same_long : (w : ℕ) (s : Bool) → length_in w s ≡ (read_buffer_control w s).LENGTH
same_long w false = refl
same_long w true = refl

same_packet : (y : StepCall) (s : Bool) → take (length_in y.sample.buffers s) (drop (slot_address s) y.memory) ≡ packet_at y s
same_packet y false = refl
same_packet y true = refl

slot_low : (s : Bool) → slot_address s + 64 ≤ 4096
slot_low false = omega arith
slot_low true = omega arith

-- With no room nothing is stored.
no_room : (off room : ℕ) (p buf : List ℕ) → room ≡ 0 → packet_stored off room p buf ≡ buf
no_room off room p buf e =
    let z : min room (length p) ≡ 0 = omega arith in
    ap (λ (k : ℕ). take off buf ++ take k p ++ drop (off + k) buf) z
    ∙ ap₂ {C = List ℕ} ◌++◌ (append-nil (take off buf)) (ap (λ (i : ℕ). drop i buf) (add-zero off)) ∙ take-append-drop off buf

-- n bytes of what lies at `from`.
stores : (c : InDepacketiser) (n : ℕ) (from buf : List ℕ) → n ≤ length from → c.offset + c.remain ≤ 0xFFFF → c.offset + c.remain ≤ length buf
    → sets buf c.offset (take (in_retire c n).count from) ≡ packet_stored c.offset c.remain (take n from) buf
stores c n from buf h few room =
    let off = c.offset in
    let k = min c.remain n in
    let len : length (take k from) ≡ k = length-take-le k from (omega arith) in
    let all = length-take-le n from h in
    ap (λ (i : ℕ). sets buf off (take i from)) (retires c n few).kept
    ∙ sets-eq (take k from) buf off (omega (arith, len, room))
    ∙ ap₂ {C = List ℕ} (λ (l : List ℕ) (i : ℕ). take off buf ++ l ++ drop (off + i) buf) (sym (take-take k n from (omega arith))) len
    ∙ ap (λ (i : ℕ). take off buf ++ take i (take n from) ++ drop (off + i) buf) (let z : k ≡ min c.remain (length (take n from)) = omega arith in z)

module _ (y : StepCall) (fits : length y.memory ≡ 4096) (st : InStage) (buf : List ℕ) (few : st.offset + st.remain ≤ 0xFFFF) where
  abbrev w : ℕ
  w = y.sample.buffers

  abbrev n : ℕ
  n = length_in w st.retire

  taken : st.offset + st.remain ≤ length buf → (l : Bool) → ltb 64 n ≡ l → (in_taken l n (in_received st) st.inflight buf y.memory).buffer ≡ buffer_by l st y buf
  taken h true e = refl
  taken h false e =
      let u = ltb-false 64 n e in
      let v = slot_low st.retire in
      let d = length-drop (slot_address st.retire) y.memory in
      stores (in_received st) n (drop (slot_address st.retire) y.memory) buf (omega (arith, fits, u, v, d)) few h
      ∙ ap (λ (p : List ℕ). packet_stored st.offset st.remain p buf) (same_packet y st.retire)

  -- Nothing to retire at the first: nothing at the second, which is the same slot.
  first_stored : st.offset + st.remain ≤ length buf → Long st w buf y.memory → (first_one st w buf y.memory).buffer ≡ buffer_by (ltb 64 n) st y buf
  unfolding in_retire_one
  first_stored h = go (ltb 0 st.inflight && full w st.retire) refl
    where
      go : (t : Bool) → (ltb 0 st.inflight && full w st.retire) ≡ t
          → (let g = in_retire_if t n (in_received st) st.inflight buf y.memory in (g.long ≡ true) ⊎ ((g.long ≡ false) × ((second_one w g y.memory).long ≡ true)))
          → (in_retire_if t n (in_received st) st.inflight buf y.memory).buffer ≡ buffer_by (ltb 64 n) st y buf
      go false e (inl f) = no (sym f)
      go false e (inr f) = no (sym f.1 ∙ ap (λ (t : Bool). (in_retire_if t n (in_received st) st.inflight buf y.memory).long) e)
      go true e z = taken h (ltb 64 n) refl

  held_kept : (k : Kind) (s : Bool) (b : List ℕ) (v : Bool) → st.offset + st.remain ≤ length (lent s buf) → HeldBy k s st w buf y.memory b v → b ≡ buffer_at_nine st y buf
  held_kept k true b v h e = e.1 ∙ sym (by (ltb 64 (read_buffer_control w st.retire).LENGTH))
    where
      by : (l : Bool) → buffer_by l st y buf ≡ buf
      by true = refl
      by false = no_room st.offset st.remain (packet_at y st.retire) buf (omega arith)
  held_kept k false b v h e = e.1 ∙ first_stored h e.0 ∙ ap (λ (k : ℕ). buffer_by (ltb 64 k) st y buf) (same_long w st.retire)

long_nine : (x : Request) (st : InStage) (buf : List ℕ) (y : StepCall) → st.offset + st.remain ≤ 0xFFFF
    → let o = step_in (in_stage_at x st buf) y in step_reply o.answer ≡ number 9 → o.buffer ≡ buffer_at_nine st y buf
long_nine x st buf y few =
    let r : Run = record { request = x; stage = in_stage st } in
    by_busy (λ (o : Outcome). step_reply o.answer ≡ number 9 → o.buffer ≡ buffer_at_nine st y buf) true r y.sample buf y.memory y.log (not_nine 15 refl) (not_nine 16 refl)
    (λ v l g e. let o = acts x (in_stage st) y.sample buf y.memory in held_kept y (lent_sizes y.memory y.log g).0 st buf few x.kind st.status o.buffer o.moved
    (sound_within x (in_stage st) buf (may_parts true r v).1 (sym l)) (acts_nine x (in_stage st) y.sample buf y.memory e))

-- ---- from a bulk IN begin on

module _ (a e p : ℕ) (k : TransferType) (b : Bool) (first : List ℕ) (few : length first ≤ 0xFFFF) where
  abbrev bulk_x : Request
  bulk_x = bulk_request In a e p b (length first)

  abbrev many : ℕ
  many = length (in_cut_of k p b (length first))

  fit : length first ≤ length first
  fit = omega arith

  data BulkAt (h : Running) (s : Tally) : Type 0 where
    over : h.transfer ≡ None → BulkAt h s
    under : (st : InStage) (ls : List (Packet ℕ)) → h.transfer ≡ Some (record { request = bulk_x; stage = in_stage st }) → well_formed h.transfer ≡ true
        → Stands bulk_x many (length first) first few fit st h.buffer s ls → BulkAt h s

  on_step : (h : Running) (s : Tally) (y : StepCall) → BulkAt h s → BulkAt (after_step (step_in h y)) (tally_step many y s)
  on_step h s y (over q) = over (idle_next true h y q)
  on_step h s y (under st ls q v d) = by
      (subst (λ (t : Option Run). Comes bulk_x many (length first) first few fit y s ls (step_in (record { transfer = t; buffer = h.buffer }) y)) (sym q)
      (comes bulk_x many (length first) first few fit y st h.buffer s ls refl (sym (ap well_formed q) ∙ v) refl d))
    where
      by : Comes bulk_x many (length first) first few fit y s ls (step_in h y) → BulkAt (after_step (step_in h y)) (tally_step many y s)
      by (fails u f) = over u
      by (goes st' now rest u q' d' f sq eq) = under st' rest q' (step_well true h.transfer y.sample h.buffer y.memory y.log v) d'
      by (finishes d₁ buf u kp q' a₁ t₁ b₁ v₁) = over q'

  on_steps : (ys : List StepCall) (h : Running) (s : Tally) → BulkAt h s → BulkAt (after_steps true h ys) (tallied many s ys)
  on_steps [] h s q = rw (after_none true h, tally_none many s) q
  on_steps (y ∷ ys) h s q = rw (after_more true h y ys, tally_more many s y ys) (on_steps ys (after_step (step_in h y)) (tally_step many y s) (on_step h s y q))

  so_far : (h : Running) (s : Tally) → BulkAt h s → (h.transfer ≡ None → ⊥) → Moved (length first) first s.retired (min (length first) (sum (map length s.retired))) h.buffer
  so_far h s (over q) f = absurd (f q)
  so_far h s (under st ls q v d) f =
      let z = kept_moved (length first) first few fit s.retired (in_received st) h.buffer d.flying.kept in
      subst (λ (c : ℕ). Moved (length first) first s.retired c h.buffer) z.counted z

  -- What is stored is what the caller gets.
  stored_moved : (got : List (List ℕ)) (d : InDepacketiser) (buf : List ℕ) → Stored (length first) first few fit got d buf → Moved (length first) first got (min (length first) (sum (map length got))) buf
  stored_moved got d buf z =
      let c : d.offset ≡ min (length first) (sum (map length got)) = z.offset ∙ ap (min (length first)) (total_joined got) in
      record { counted = refl; bytes = z.buffer ∙ ap (λ (i : ℕ). take i (joined got) ++ drop i first) c }

  -- 9 in a stage that stands.
  nine_by : (y : StepCall) (got : List (List ℕ)) (st : InStage) (buf : List ℕ) → Stored (length first) first few fit got (in_received st) buf → st.retire ≡ slot_of (length got)
      → (l : Bool) → let now = packets_by l y got in Moved (length first) first now (min (length first) (sum (map length now))) (buffer_by l st y buf)
  nine_by y got st buf z s true = stored_moved got (in_received st) buf z
  nine_by y got st buf z s false =
      let from = packet_at y st.retire in
      let d = in_received st in
      let w = z.whole in
      let len = stored_length (length first) first few fit got d buf z in
      let same : packet_at y st.retire ≡ packet_at y (slot_of (length got)) = ap (packet_at y) s in
      let stored = stored_one (length first) first few fit got d buf from (length from) (omega arith) z in
      let bytes : sets buf st.offset (take (in_retire d (length from)).count from) ≡ packet_stored st.offset st.remain from buf =
      stores d (length from) from buf (omega arith) (omega (arith, w, few)) (omega (arith, w, len))
      ∙ ap (λ (l : List ℕ). packet_stored st.offset st.remain l buf) (take-length from) in
      let moved = stored_moved (got ++ (take (length from) from ∷ [])) (in_retire d (length from)).rest (sets buf st.offset (take (in_retire d (length from)).count from)) stored in
      subst (λ (l : List ℕ). let now = got ++ (l ∷ []) in Moved (length first) first now (min (length first) (sum (map length now))) (packet_stored st.offset st.remain from buf)) (take-length from ∙ same)
      (subst (λ (l : List ℕ). let now = got ++ (take (length from) from ∷ []) in Moved (length first) first now (min (length first) (sum (map length now))) l) bytes moved)

  nine_moved : (h : Running) (s : Tally) (y : StepCall) → BulkAt h s → step_reply (step_in h y).answer ≡ number 9
      → let got = packets_at_nine y s.retired in Moved (length first) first got (min (length first) (sum (map length got))) (step_in h y).buffer
  nine_moved h s y (over q) r = no (sym (only_in true h.transfer y.sample h.buffer y.memory y.log r) ∙ ap receiving q)
  nine_moved h s y (under st ls q v d) r =
      let kept = d.flying.kept in
      let got = packets_at_nine y s.retired in
      let w = kept.stored.whole in
      let same : step_in h y ≡ step_in (in_stage_at bulk_x st h.buffer) y = ap (λ (t : Option Run). step_in (record { transfer = t; buffer = h.buffer }) y) q in
      let l = ltb 64 (read_buffer_control y.sample.buffers (slot_of (length s.retired))).LENGTH in
      let is : (step_in h y).buffer ≡ buffer_by l st y h.buffer =
      ap (λ (o : Outcome). o.buffer) same ∙ long_nine bulk_x st h.buffer y (omega (arith, w, few)) (ap (λ (o : Outcome). step_reply o.answer) (sym same) ∙ r)
      ∙ ap (λ (z : Bool). buffer_by z st y h.buffer) (ap (λ (u : Bool). ltb 64 (read_buffer_control y.sample.buffers u).LENGTH) kept.parity) in
      subst (λ (l : List ℕ). Moved (length first) first got (min (length first) (sum (map length got))) l) (sym is)
      (nine_by y s.retired st h.buffer kept.stored kept.parity l)

module _ (t : Option Run) (a e p : ℕ) (k : TransferType) (b : Bool) (first m log : List ℕ) (q : (begin_bulk_in_of t a e p k b first m log).answer ≡ Ok tt) where
  abbrev opened : Running
  opened = record { transfer = (begin_bulk_in_of t a e p k b first m log).next; buffer = first }

  abbrev many_slots : ℕ
  many_slots = length (in_cut_of k p b (length first))

  record Fine : Type 0 where
    few : length first ≤ 0xFFFF
    at : BulkAt a e p k b first few opened (tally_start many_slots)

  begins_fine : Fine
  unfolding begin_bulk_in_of
  begins_fine =
      let fields = fields_refusal (address_good a) (endpoint_good e) (size_good p) (leb (length first) 0xFFFF) in
      let r = begin_refusal (lent_fits m log) (is_idle t) fields in
      let x = bulk_request In a e p b (length first) in
      let ok = accepted r t m (begins_bulk_in x k m) q in
      let good = bulk_good t a e p first m log ok.0 in
      let sizes = between 1 p 64 (none_fields (lent_fits m log) (is_idle t) (address_good a) (endpoint_good e) (size_good p) (leb (length first) 0xFFFF) ok.0).2 in
      let room = fit a e p k b first good.few in
      let s = starts_armed x many_slots (length first) first good.few room k (target_of x) refl refl sizes.0 sizes.1 refl in
      record {
        few = good.few;
        at = under (start_in (target_of x) k false (length first)).stage s.rest (ap (λ (z : Beginning). z.next) ok.1)
            (begin_bulk_in_well t a e p k b first m log (none_idle (lent_fits m log) t fields ok.0))
            (starts x many_slots (length first) first good.few room k (target_of x) refl refl sizes.0 sizes.1 refl);
      }

  bulk_so_far : (ys : List StepCall) → ((after_steps true opened ys).transfer ≡ None → ⊥)
      → let got = received many_slots ys in Moved (length first) first got (min (length first) (sum (map length got))) (after_steps true opened ys).buffer
  bulk_so_far ys f =
      let g = begins_fine in
      so_far a e p k b first g.few (after_steps true opened ys) (tallied many_slots (tally_start many_slots) ys) (on_steps a e p k b first g.few ys opened (tally_start many_slots) g.at) f

  bulk_failed_lem : (ys : List StepCall) (y : StepCall) (n : ℕ) → ((after_steps true opened ys).transfer ≡ None → ⊥) → step_reply (step_in (after_steps true opened ys) y).answer ≡ number n → 1 ≤ n → n ≤ 7
      → let got = received many_slots ys in Moved (length first) first got (min (length first) (sum (map length got))) (step_in (after_steps true opened ys) y).buffer
  bulk_failed_lem ys y n f r low high =
      let h = after_steps true opened ys in
      let got = received many_slots ys in
      subst (λ (l : List ℕ). Moved (length first) first got (min (length first) (sum (map length got))) l)
      (sym (failed_keeps true h.transfer y.sample h.buffer y.memory y.log n r (λ (z : n ≡ 9). omega arith))) (bulk_so_far ys f)

  bulk_long_of : (ys : List StepCall) (y : StepCall) → step_reply (step_in (after_steps true opened ys) y).answer ≡ number 9
      → let got = packets_at_nine y (received many_slots ys) in Moved (length first) first got (min (length first) (sum (map length got))) (step_in (after_steps true opened ys) y).buffer
  bulk_long_of ys y r =
      let g = begins_fine in
      nine_moved a e p k b first g.few (after_steps true opened ys) (tallied many_slots (tally_start many_slots) ys) y (on_steps a e p k b first g.few ys opened (tally_start many_slots) g.at) r

control_failed_lem : (t : Option Run) (a : ℕ) (x : TransferExtras) (p : ℕ) (s : SetupPacket) (first m log : List ℕ) (ys : List StepCall) (y : StepCall) (n : ℕ) → s.wLength ≤ 0xFFFF
    → (begin_control_of t a x p s phase_in first m log).answer ≡ Ok tt
    → let h = after_steps true (record { transfer = (begin_control_of t a x p s phase_in first m log).next; buffer = first }) ys in
    let got = control_received (length (in_cut_of FixedSize p true s.wLength)) ys in
    (h.transfer ≡ None → ⊥) → step_reply (step_in h y).answer ≡ number n → 1 ≤ n → n ≤ 7 → Moved s.wLength first got (min s.wLength (sum (map length got))) (step_in h y).buffer
control_failed_lem t a x p s first m log ys y n few q f r low high =
    let h = after_steps true (record { transfer = (begin_control_of t a x p s phase_in first m log).next; buffer = first }) ys in
    let got = control_received (length (in_cut_of FixedSize p true s.wLength)) ys in
    subst (λ (l : List ℕ). Moved s.wLength first got (min s.wLength (sum (map length got))) l)
    (sym (failed_keeps true h.transfer y.sample h.buffer y.memory y.log n r (λ (z : n ≡ 9). omega arith))) (control_so_far t a x p s first m log few q ys f)

pub keeps_bytes : KeepsBytes
keeps_bytes = record {
  failed = failed_keeps;
  sends = sends_same;
  only = only_in;
  below = below_nine;
  long = long_nine;
  bulk = λ t a e p k b first m log ys q. bulk_so_far t a e p k b first m log q ys;
  bulk_failed = λ t a e p k b first m log ys y n q. bulk_failed_lem t a e p k b first m log q ys y n;
  bulk_long = λ t a e p k b first m log ys y q. bulk_long_of t a e p k b first m log q ys y;
  control = λ t a x p s first m log ys few q. control_so_far t a x p s first m log few q ys;
  control_failed = control_failed_lem;
}
