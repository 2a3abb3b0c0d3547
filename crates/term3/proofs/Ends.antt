-- Which of the driver's calls end the transfer under way. Assumes nothing.
use Rattle.std.specs.Prelude.{Err, None, Ok, Option, Result, Some}
use mathlib.Core.Path.{◌≡◌, refl, sym, ap, subst, ◌∙◌}
use mathlib.Core.Bool.{Bool, true, false, cond, true≢false}
use mathlib.Core.List.{List, []}
use Prim.Native.Nat.{ℕ}
use Rattle.transfers.specs.declared.host_controller.DataPhase.TheVariants.{None as phase_none}
use Rattle.transfers.specs.declared.host_controller.TransferExtras.TheVariants.{Normal}
use Rattle.transfers.specs.declared.driver.Driver.{Driver}
use Rattle.transfers.specs.declared.sample.Sample.{Sample}
use Rattle.transfers.specs.Memory.{lent_fits}
use Rattle.transfers.specs.Calls.{is_idle, step_lent, step_of, cancel_of}
use Rattle.record.specs.Calls.{control_begin, begin, step, cancel, open_pipe, close_pipe, poll_pipe, interrupt, detect}
use Rattle.record.specs.Calls as D
use Rattle.record.specs.Told.{Live, no_transfer, live, Note, began, stepped, finished, broke, nothing}
use Rattle.record.specs.Shown.{ends, note_step, note}
use Rattle.record.specs.Table.{is_free}
use Rattle.record.proofs.Heard.{next_live}
use Rattle.record.proofs.Agreed.{Agrees, call_agrees}
use Rattle.term3.specs.Calls.{is_begin}
use Rattle.term3.specs.Callers.{is_end}
use Rattle.transfers.specs.declared.answers.Step.TheVariants.{Done, Waiting}
use Rattle.transfers.specs.declared.refusal.Refusal.{Refusal}
use Rattle.transfers.specs.declared.answers.Step.{Step}
use Rattle.transfers.specs.declared.driver.Run.{Run}

-- ---- nothing under way ends

idle_ends : (c : D.Call) (d : Driver) → is_begin c ≡ false → d.transfer ≡ None → is_end (note c (D.call d c).answer) ≡ false
unfolding D.call step_of cancel_of
idle_ends (begin x buf m log) d b e = absurd (true≢false b)
idle_ends (step v y buf m log) d b e = subst (λ (t : Option Run). is_end (note_step (step_of v t y buf m log).answer y buf) ≡ false) (sym e) (go (lent_fits m log))
  where
    go : (u : Bool) → is_end (note_step (step_lent u v None y buf m).answer y buf) ≡ false
    go true = refl
    go false = refl
idle_ends cancel d b e = subst (λ (t : Option Run). is_end (note cancel (cancel_of t).answer) ≡ false) (sym e) refl
idle_ends (open_pipe a x p q i log) d b e = refl
idle_ends (close_pipe n) d b e = refl
idle_ends (poll_pipe n y m log) d b e = refl
idle_ends (interrupt ints status log) d b e = refl
idle_ends (detect sie log) d b e = refl

busy_before : (c : D.Call) (d : Driver) (t : Option Run) → is_begin c ≡ false → d.transfer ≡ t → is_end (note c (D.call d c).answer) ≡ true → is_idle t ≡ false
busy_before c d None b q e = absurd (true≢false (sym e ∙ idle_ends c d b q))
busy_before c d (Some r) b q e = refl

pub ends_busy : (c : D.Call) (d : Driver) → is_begin c ≡ false → is_end (note c (D.call d c).answer) ≡ true → is_idle d.transfer ≡ false
ends_busy c d b e = busy_before c d d.transfer b refl e

-- ---- a begin alone begins

abbrev is_began : Note → Bool
is_began (began x buf) = true
is_began (stepped v y now) = false
is_began (finished y now) = false
is_began broke = false
is_began nothing = false

step_began : (a : Result Step Refusal) (y : Sample) (buf : List ℕ) → is_began (note_step a y buf) ≡ false
step_began (Ok (Waiting again)) y buf = refl
step_began (Ok (Done k)) y buf = refl
step_began (Err why) y buf = by (ends why)
  where
    by : (v : Bool) → is_began (cond v broke (stepped false y buf)) ≡ false
    by true = refl
    by false = refl

not_began : (c : D.Call) (a : D.Answer c) → is_begin c ≡ false → is_began (note c a) ≡ false
not_began (begin x buf m log) a b = absurd (true≢false b)
not_began (step v y buf m log) a b = step_began a y buf
not_began cancel (Ok tt) b = refl
not_began cancel (Err why) b = refl
not_began (open_pipe a x p q i log) r b = refl
not_began (close_pipe n) a b = refl
not_began (poll_pipe n y m log) a b = refl
not_began (interrupt ints status log) a b = refl
not_began (detect sie log) a b = refl

-- ---- a call that ends the transfer leaves the control pipe free, every other as it was

abbrev live_of : Option Run → Live
live_of None = no_transfer
live_of (Some r) = live (control_begin 0 Normal 0 (record { bmRequestType = 0; bRequest = 0; wValue = 0; wIndex = 0; wLength = 0 }) phase_none) []

live_agrees : (t : Option Run) → Agrees (live_of t) t
live_agrees None = tt
live_agrees (Some r) = tt

agrees_idle : (l : Live) (t : Option Run) → Agrees l t → is_idle t ≡ is_free l
agrees_idle no_transfer None h = refl
agrees_idle no_transfer (Some r) h = absurd h
agrees_idle (live x buf) None h = absurd h
agrees_idle (live x buf) (Some r) h = refl

next_free : (k : Note) (l : Live) → is_began k ≡ false → is_free (next_live k l) ≡ cond (is_end k) true (is_free l)
next_free (began x buf) l b = absurd (true≢false b)
next_free (stepped v y now) l b = refl
next_free (finished y now) l b = refl
next_free broke l b = refl
next_free nothing l b = refl

pub idle_after_lem : (c : D.Call) (d : Driver) → is_begin c ≡ false → let o = D.call d c in is_idle o.next.transfer ≡ cond (is_end (note c o.answer)) true (is_idle d.transfer)
idle_after_lem c d b =
    let o = D.call d c in
    let l = live_of d.transfer in
    let k = note c o.answer in
    agrees_idle (next_live k l) o.next.transfer (call_agrees c d l (live_agrees d.transfer))
    ∙ next_free k l (not_began c o.answer b)
    ∙ ap (cond (is_end k) true) (sym (agrees_idle l d.transfer (live_agrees d.transfer)))
