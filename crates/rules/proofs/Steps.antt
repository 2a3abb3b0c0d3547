-- Lists of steps, and begins that are accepted. Assumes nothing.
use Rattle.std.specs.Prelude.{Err, None, Ok, Option, Result, Some}
use mathlib.Core.Path.{◌≡◌, refl, sym, ap, ◌∙◌, subst}
use mathlib.Core.Bool.{Bool, true, false, not}
use mathlib.Core.List.{List, [], ◌∷◌, ◌++◌, append_assoc, append-nil}
use Prim.Native.Nat.{ℕ, ◌≤◌, min}
use native.Mathlib.Omega.{arith}
use lib.ListN.{length}
use Rattle.cutting.specs.declared.depacketiser.InDepacketiser.{InDepacketiser}
use Rattle.transfers.specs.declared.refusal.Refusal.{Refusal}
use Rattle.transfers.specs.Outcome.{flipped}
use Rattle.transfers.specs.Calls.{well_formed, is_idle, step_lent, step_of, begin_refusal, Beginning, begin_or}
use Rattle.rules.specs.Received.{StepCall, lent_well, slot_of, Tally, tally_step, tallied, ControlTally, control_by, control_tally, Running, step_by, after_step, after_steps, toggled, Moved}
use Rattle.transfers.specs.Log.{Write}
use Rattle.rules.specs.Armed.{writes_of}
use Rattle.cutting.proofs.Filled.{total_joined}
use Rattle.rules.proofs.Retired.{slot_zero, slot_suc, Kept}
use Rattle.rules.proofs.InStage.{ending, not_done, refused_not}
use Rattle.transfers.specs.declared.answers.Step.TheVariants.{Done}
use Rattle.transfers.specs.declared.answers.Step.{Step}
use Rattle.transfers.specs.declared.driver.Run.{Run}

pub absurd_done : {A : Type 0} (a : Result Step Refusal) (n : ℕ) → not_done a → a ≡ Ok (Done n) → A
unfolding not_done
absurd_done a n f e = absurd (f n e)

pub done_is : (m n : ℕ) → ◌≡◌ {A = Result Step Refusal} (Ok (Done m)) (Ok (Done n)) → m ≡ n
done_is m n e = cc

-- ---- lists of steps

pub tally_end : (slots : ℕ) (ys : List StepCall) (y : StepCall) (s : Tally) → tallied slots s (ys ++ (y ∷ [])) ≡ tally_step slots y (tallied slots s ys)
unfolding tallied
tally_end slots [] y s = refl
tally_end slots (z ∷ ys) y s = tally_end slots ys y (tally_step slots z s)

pub tally_more : (slots : ℕ) (s : Tally) (y : StepCall) (ys : List StepCall) → tallied slots s (y ∷ ys) ≡ tallied slots (tally_step slots y s) ys
unfolding tallied
tally_more slots s y ys = refl

pub tally_none : (slots : ℕ) (s : Tally) → tallied slots s [] ≡ s
unfolding tallied
tally_none slots s = refl

pub control_tally_end : (slots : ℕ) (ys : List StepCall) (y : StepCall) (f : ControlTally) → control_tally slots f (ys ++ (y ∷ [])) ≡ control_by (ending y) slots y (control_tally slots f ys)
unfolding control_tally
control_tally_end slots [] y f = refl
control_tally_end slots (z ∷ ys) y f = control_tally_end slots ys y (control_by (ending z) slots z f)

pub control_tally_more : (slots : ℕ) (f : ControlTally) (y : StepCall) (ys : List StepCall) → control_tally slots f (y ∷ ys) ≡ control_tally slots (control_by (ending y) slots y f) ys
unfolding control_tally
control_tally_more slots f y ys = refl

pub control_tally_none : (slots : ℕ) (f : ControlTally) → control_tally slots f [] ≡ f
unfolding control_tally
control_tally_none slots f = refl

pub after_more : (f : Bool) (h : Running) (y : StepCall) (ys : List StepCall) → after_steps f h (y ∷ ys) ≡ after_steps f (after_step (step_by f h y)) ys
unfolding after_steps
after_more f h y ys = refl

pub writes_more : (f : Bool) (h : Running) (y : StepCall) (ys : List StepCall) → writes_of f h (y ∷ ys) ≡ (step_by f h y).writes ++ writes_of f (after_step (step_by f h y)) ys
unfolding writes_of
writes_more f h y ys = refl

pub writes_none : (f : Bool) (h : Running) → writes_of f h [] ≡ []
unfolding writes_of
writes_none f h = refl

pub after_none : (f : Bool) (h : Running) → after_steps f h [] ≡ h
unfolding after_steps
after_none f h = refl

pub writes_end : (f : Bool) (ys : List StepCall) (h : Running) (y : StepCall) → writes_of f h (ys ++ (y ∷ [])) ≡ writes_of f h ys ++ (step_by f (after_steps f h ys) y).writes
unfolding writes_of after_steps
writes_end f [] h y = append-nil (step_by f h y).writes
writes_end f (z ∷ ys) h y =
    let o = step_by f h z in
    let h' = after_step o in
    ap (λ (l : List Write). o.writes ++ l) (writes_end f ys h' y) ∙ sym (append_assoc o.writes (writes_of f h' ys) (step_by f (after_steps f h' ys) y).writes)

-- Nothing under way: a step is refused.
idle_stays : (f : Bool) (buf : List ℕ) (y : StepCall) → ((step_by f (record { transfer = None; buffer = buf }) y).next ≡ None) × not_done (step_by f (record { transfer = None; buffer = buf }) y).answer
unfolding step_of
idle_stays f buf y = by (lent_well y)
  where
    by : (b : Bool) → ((step_lent b f None y.sample buf y.memory).next ≡ None) × not_done (step_lent b f None y.sample buf y.memory).answer
    by true = (refl, refused_not _)
    by false = (refl, refused_not _)

pub idle_next : (f : Bool) (h : Running) (y : StepCall) → h.transfer ≡ None → (step_by f h y).next ≡ None
idle_next f h y e = ap (λ (t : Option Run). (step_by f (record { transfer = t; buffer = h.buffer }) y).next) e ∙ (idle_stays f h.buffer y).0

pub idle_not : (f : Bool) (h : Running) (y : StepCall) → h.transfer ≡ None → not_done (step_by f h y).answer
idle_not f h y e = subst (λ (t : Option Run). not_done (step_by f (record { transfer = t; buffer = h.buffer }) y).answer) (sym e) (idle_stays f h.buffer y).1

-- ---- toggles

pub toggled_slot : (b : Bool) (ls : List (List ℕ)) → flipped b (slot_of (length ls)) ≡ toggled b ls
unfolding toggled
toggled_slot b [] = ap (flipped b) slot_zero
toggled_slot b (l ∷ ls) = ap (flipped b) (slot_suc (length ls)) ∙ by b (slot_of (length ls)) ∙ toggled_slot (not b) ls
  where
    by : (b s : Bool) → flipped b (not s) ≡ flipped (not b) s
    by true true = refl
    by true false = refl
    by false true = refl
    by false false = refl

-- What was kept is what the caller gets.
pub kept_moved : (n : ℕ) (first : List ℕ) (few : n ≤ 0xFFFF) (room : n ≤ length first) (got : List (List ℕ)) (d : InDepacketiser) (buf : List ℕ) → Kept n first few room got d buf
    → Moved n first got d.offset buf
kept_moved n first few room got d buf k = record { counted = k.stored.offset ∙ ap (min n) (total_joined got); bytes = k.stored.buffer }

-- ---- begins

pub refused_begun : {A : Type 0} (e : Refusal) → ◌≡◌ {A = Result (Unit {0}) Refusal} (Err e) (Ok tt) → A
refused_begun e q = absurd (let z : ◌≡◌ {A = ℕ} 0 1 = cc in omega arith)

-- A begin that is accepted: nothing refuses it.
pub accepted : (r : Result (Unit {0}) Refusal) (t : Option Run) (m : List ℕ) (b : Beginning) → (begin_or r t m b).answer ≡ Ok tt → (r ≡ Ok tt) × (begin_or r t m b ≡ b)
accepted (Err e) t m b q = refused_begun e q
accepted (Ok tt) t m b q = (refl, refl)

-- Only where nothing is under way.
pub none_idle : (l : Bool) (t : Option Run) (r : Result (Unit {0}) Refusal) → begin_refusal l (is_idle t) r ≡ Ok tt → well_formed t ≡ true
none_idle l None r e = refl
none_idle true (Some x) r e = absurd (let z : ◌≡◌ {A = ℕ} 0 1 = cc in omega arith)
none_idle false (Some x) r e = absurd (let z : ◌≡◌ {A = ℕ} 0 1 = cc in omega arith)
