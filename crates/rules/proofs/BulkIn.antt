-- Every list of steps from a bulk IN begin to its done hands the caller what the samples tell, and arms what the cutting says. Assumes nothing.
use Rattle.std.specs.Prelude.{None, Ok, Option, Some}
use mathlib.Core.Path.{◌≡◌, refl, sym, ap, ap₂, ◌∙◌, subst}
use mathlib.Core.Bool.{Bool, true, false}
use mathlib.Core.List.{List, [], ◌∷◌, ◌++◌, map, append_assoc, append-nil}
use Prim.Native.Nat.{ℕ, ◌≤◌}
use native.Mathlib.Omega.{arith}
use lib.Dec.{leb}
use lib.ListN.{length, take, length-append}
use lib.Seq.{take_at}
use Rattle.cutting.specs.declared.transfer_type.TransferType.{TransferType}
use Rattle.cutting.specs.Cut.{Packet, in_cut_of}
use Rattle.transfers.specs.declared.wire.Direction.TheVariants.{In}
use Rattle.transfers.specs.declared.driver.Request.{Request}
use Rattle.transfers.specs.declared.driver.Stage.TheVariants.{In as in_stage}
use Rattle.transfers.specs.declared.driver.InStage.{InStage}
use Rattle.transfers.specs.Log.{Write}
use Rattle.transfers.specs.Memory.{lent_fits}
use Rattle.transfers.specs.State.{target_of, address_good, endpoint_good, size_good}
use Rattle.transfers.specs.Outcome.{flipped, start_in}
use Rattle.transfers.specs.Calls.{well_formed, is_idle, fields_refusal, begin_refusal, Beginning, bulk_request, begins_bulk_in, begin_bulk_in_of}
use Rattle.transfers.proofs.OpenPipes.{between}
use Rattle.transfers.proofs.Beginnings.{none_fields, bulk_good}
use Rattle.transfers.proofs.WellFormed.{step_well, begin_bulk_in_well}
use Rattle.rules.specs.Received.{StepCall, Tally, tally_step, tallied, tally_start, received, Running, step_in, after_step, after_steps, toggled, Moved}
use Rattle.rules.specs.Fields.{word_after}
use Rattle.rules.specs.Armed.{ArmedSlot, armings, shown, writes_of}
use Rattle.cutting.proofs.Rules.{map_append}
use Rattle.rules.proofs.Armed.{armings_append, none_armed}
use Rattle.rules.proofs.InStage.{Stands, Comes, fails, goes, finishes, comes, starts_armed, starts, start_events}
use Rattle.rules.proofs.Steps.{absurd_done, done_is, tally_end, tally_more, tally_none, after_more, writes_more, writes_none, after_none, idle_next, idle_not, toggled_slot, kept_moved, accepted, none_idle}
use Rattle.transfers.specs.declared.answers.Step.TheVariants.{Done}
use Rattle.transfers.specs.declared.driver.Run.{Run}

module _ (a e p : ℕ) (k : TransferType) (b : Bool) (first : List ℕ) (few : length first ≤ 0xFFFF) (low : 1 ≤ p) (high : p ≤ 64) where
  abbrev bulk_x : Request
  bulk_x = bulk_request In a e p b (length first)

  abbrev many : ℕ
  many = length (in_cut_of k p b (length first))

  fit : length first ≤ length first
  fit = omega arith

  abbrev cut_slots : List (Packet ℕ)
  cut_slots = in_cut_of k p b (length first)

  -- `ws`: the writes so far.
  data BulkAt (h : Running) (s : Tally) (ws : List Write) : Type 0 where
    over : h.transfer ≡ None → BulkAt h s ws
    under : (st : InStage) (past ls : List (Packet ℕ)) → h.transfer ≡ Some (record { request = bulk_x; stage = in_stage st }) → well_formed h.transfer ≡ true
        → Stands bulk_x many (length first) first few fit st h.buffer s ls → cut_slots ≡ past ++ ls → ((old : ℕ) → armings old ws ≡ map (shown false) past) → BulkAt h s ws

  -- The step of a transfer under way.
  step_comes : (h : Running) (s : Tally) (y : StepCall) (st : InStage) (ls : List (Packet ℕ)) → h.transfer ≡ Some (record { request = bulk_x; stage = in_stage st }) → well_formed h.transfer ≡ true
      → Stands bulk_x many (length first) first few fit st h.buffer s ls → Comes bulk_x many (length first) first few fit y s ls (step_in h y)
  step_comes h s y st ls e w d =
      subst (λ (t : Option Run). Comes bulk_x many (length first) first few fit y s ls (step_in (record { transfer = t; buffer = h.buffer }) y)) (sym e)
      (comes bulk_x many (length first) first few fit y st h.buffer s ls refl (sym (ap well_formed e) ∙ w) refl d)

  on_step : (h : Running) (s : Tally) (ws : List Write) (y : StepCall) → BulkAt h s ws → BulkAt (after_step (step_in h y)) (tally_step many y s) (ws ++ (step_in h y).writes)
  on_step h s ws y (over e) = over (idle_next true h y e)
  on_step h s ws y (under st past ls e w d sp ev) = by (step_comes h s y st ls e w d)
    where
      by : Comes bulk_x many (length first) first few fit y s ls (step_in h y) → BulkAt (after_step (step_in h y)) (tally_step many y s) (ws ++ (step_in h y).writes)
      by (fails q f) = over q
      by (goes st' now rest u q d' f sq eq) =
          under st' (past ++ now) rest q (step_well true h.transfer y.sample h.buffer y.memory y.log w) d'
          (sp ∙ ap (λ (l : List (Packet ℕ)). past ++ l) sq ∙ sym (append_assoc past now rest))
          (λ old. armings_append ws (step_in h y).writes old ∙ ap₂ {C = List ArmedSlot} ◌++◌ (ev old) (eq (word_after 0x5010_0080 old ws)) ∙ sym (map_append (shown false) past now))
      by (finishes d₁ buf u kp q a₁ t₁ b₁ v₁) = over q

  on_steps : (ys : List StepCall) (h : Running) (s : Tally) (ws : List Write) → BulkAt h s ws → BulkAt (after_steps true h ys) (tallied many s ys) (ws ++ writes_of true h ys)
  on_steps [] h s ws q = rw (after_none true h, tally_none many s, writes_none true h, append-nil ws) q
  on_steps (y ∷ ys) h s ws q =
      rw (after_more true h y ys, tally_more many s y ys, writes_more true h y ys)
      (subst (BulkAt (after_steps true (after_step (step_in h y)) ys) (tallied many (tally_step many y s) ys)) (append_assoc ws (step_in h y).writes (writes_of true (after_step (step_in h y)) ys))
      (on_steps ys (after_step (step_in h y)) (tally_step many y s) (ws ++ (step_in h y).writes) (on_step h s ws y q)))

  at_end : (h : Running) (s : Tally) (ws : List Write) (y : StepCall) (count : ℕ) → BulkAt h s ws → (step_in h y).answer ≡ Ok (Done count)
      → Moved (length first) first (tally_step many y s).retired count (step_in h y).buffer × ((step_in h y).toggle ≡ toggled b (tally_step many y s).retired) × ((step_in h y).next ≡ None)
      × ((old : ℕ) → armings old (step_in h y).writes ≡ [])
  at_end h s ws y count (over e) q = absurd_done (step_in h y).answer count (idle_not true h y e) q
  at_end h s ws y count (under st past ls e w d sp ev) q = by (step_comes h s y st ls e w d)
    where
      by : Comes bulk_x many (length first) first few fit y s ls (step_in h y)
          → Moved (length first) first (tally_step many y s).retired count (step_in h y).buffer × ((step_in h y).toggle ≡ toggled b (tally_step many y s).retired) × ((step_in h y).next ≡ None)
          × ((old : ℕ) → armings old (step_in h y).writes ≡ [])
      by (fails u f) = absurd_done (step_in h y).answer count f q
      by (goes st' now rest u v d' f sq eq) = absurd_done (step_in h y).answer count f q
      by (finishes d₁ buf u kp n₁ a₁ t₁ b₁ v₁) =
          let c : d₁.offset ≡ count = done_is d₁.offset count (sym a₁ ∙ q) in
          let got = (tally_step many y s).retired in (
            subst (λ (c : ℕ). Moved (length first) first got c (step_in h y).buffer) c (rw b₁ (kept_moved (length first) first few fit got d₁ buf kp)),
            t₁ ∙ ap (flipped b) kp.parity ∙ toggled_slot b got,
            n₁,
            λ old. v₁ old ∙ none_armed old,
          )

  -- While it is under way.
  so_far : (h : Running) (s : Tally) (ws : List Write) (old : ℕ) → BulkAt h s ws → (h.transfer ≡ None → ⊥) → armings old ws ≡ map (shown false) (take s.armed cut_slots)
  so_far h s ws old (over e) n = absurd (n e)
  so_far h s ws old (under st past ls e w d sp ev) n =
      let z : length past ≡ s.armed = let u = d.standing.many in let v = ap length sp ∙ length-append past ls in omega arith in
      ev old ∙ ap (map (shown false)) (sym (ap (take s.armed) sp ∙ take_at past ls s.armed z))

-- A bulk IN begin that is accepted.
module _ (t : Option Run) (a e p : ℕ) (k : TransferType) (b : Bool) (first m log : List ℕ) (q : (begin_bulk_in_of t a e p k b first m log).answer ≡ Ok tt) where
  record Fine : Type 0 where
    few : length first ≤ 0xFFFF
    low : 1 ≤ p
    high : p ≤ 64
    at : BulkAt a e p k b first few low high (record { transfer = (begin_bulk_in_of t a e p k b first m log).next; buffer = first }) (tally_start (length (in_cut_of k p b (length first)))) (begin_bulk_in_of t a e p k b first m log).writes

  begins_fine : Fine
  unfolding begin_bulk_in_of
  begins_fine =
      let fields = fields_refusal (address_good a) (endpoint_good e) (size_good p) (leb (length first) 0xFFFF) in
      let r = begin_refusal (lent_fits m log) (is_idle t) fields in
      let x = bulk_request In a e p b (length first) in
      let ok = accepted r t m (begins_bulk_in x k m) q in
      let good = bulk_good t a e p first m log ok.0 in
      let sizes = between 1 p 64 (none_fields (lent_fits m log) (is_idle t) (address_good a) (endpoint_good e) (size_good p) (leb (length first) 0xFFFF) ok.0).2 in
      let slots = length (in_cut_of k p b (length first)) in
      let room = fit a e p k b first good.few sizes.0 sizes.1 in
      let s = starts_armed x slots (length first) first good.few room k (target_of x) refl refl sizes.0 sizes.1 refl in
      record {
        few = good.few;
        low = sizes.0;
        high = sizes.1;
        at = under (start_in (target_of x) k false (length first)).stage s.now s.rest (ap (λ (z : Beginning). z.next) ok.1)
            (begin_bulk_in_well t a e p k b first m log (none_idle (lent_fits m log) t fields ok.0))
            (starts x slots (length first) first good.few room k (target_of x) refl refl sizes.0 sizes.1 refl)
            s.split (λ old. ap (λ (z : Beginning). armings old z.writes) ok.1 ∙ start_events (target_of x) k (length first) old s.now s.events);
      }

  abbrev opened : Running
  opened = record { transfer = (begin_bulk_in_of t a e p k b first m log).next; buffer = first }

  abbrev many_slots : ℕ
  many_slots = length (in_cut_of k p b (length first))

  bulk_at : (ys : List StepCall) → BulkAt a e p k b first begins_fine.few begins_fine.low begins_fine.high (after_steps true opened ys) (tallied many_slots (tally_start many_slots) ys) ((begin_bulk_in_of t a e p k b first m log).writes ++ writes_of true opened ys)
  bulk_at ys = let g = begins_fine in on_steps a e p k b first g.few g.low g.high ys opened (tally_start many_slots) (begin_bulk_in_of t a e p k b first m log).writes g.at

  pub bulk_armed : (ys : List StepCall) (old : ℕ) → ((after_steps true opened ys).transfer ≡ None → ⊥)
      → armings old ((begin_bulk_in_of t a e p k b first m log).writes ++ writes_of true opened ys) ≡ map (shown false) (take (tallied many_slots (tally_start many_slots) ys).armed (in_cut_of k p b (length first)))
  bulk_armed ys old n =
      let g = begins_fine in
      so_far a e p k b first g.few g.low g.high (after_steps true opened ys) (tallied many_slots (tally_start many_slots) ys) ((begin_bulk_in_of t a e p k b first m log).writes ++ writes_of true opened ys) old (bulk_at ys) n

  pub bulk_ended : (ys : List StepCall) (y : StepCall) (count : ℕ) → let o = step_in (after_steps true opened ys) y in
      let got = received many_slots (ys ++ (y ∷ [])) in
      o.answer ≡ Ok (Done count) → Moved (length first) first got count o.buffer × (o.toggle ≡ toggled b got) × (o.next ≡ None) × ((old : ℕ) → armings old o.writes ≡ [])
  bulk_ended ys y count d =
      let g = begins_fine in
      let o = step_in (after_steps true opened ys) y in
      subst (λ (u : Tally). Moved (length first) first u.retired count o.buffer × (o.toggle ≡ toggled b u.retired) × (o.next ≡ None) × ((old : ℕ) → armings old o.writes ≡ []))
      (sym (tally_end many_slots ys y (tally_start many_slots)))
      (at_end a e p k b first g.few g.low g.high (after_steps true opened ys) (tallied many_slots (tally_start many_slots) ys) ((begin_bulk_in_of t a e p k b first m log).writes ++ writes_of true opened ys) y count (bulk_at ys) d)
