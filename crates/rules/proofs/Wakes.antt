-- Whom the interrupt routine wakes. Assumes nothing.
use Rattle.std.specs.Prelude.{Err, Ok}
use mathlib.Core.Path.{◌≡◌, refl, ap, sym, subst, ◌∙◌}
use mathlib.Core.Bool.{Bool, true, false, or-false}
use mathlib.Core.List.{List, []}
use Prim.Native.Nat.{ℕ, ◌+◌, ◌%◌, ◌≤◌, ◌<◌}
use native.Mathlib.Nat.{div-one, zero-add}
use native.Mathlib.Omega.{arith}
use lib.Dec.{eqb, ltb}
use lib.ListN.{length}
use borrow.Author.Tests.{le-leb, lt-leb, ltb-true, ne_eqb}
use Rattle.pool.specs.Set.{has, set_of}
use Rattle.transfers.specs.declared.host_controller.TransferExtras.{TransferExtras}
use Rattle.transfers.specs.declared.driver.Driver.{Driver}
use Rattle.transfers.specs.declared.refusal.Refusal.{Refusal}
use Rattle.transfers.specs.declared.irq.Wake.{Wake}
use Rattle.transfers.specs.Reply.{Reply, result, number, irq_reply, open_reply}
use Rattle.transfers.specs.Memory.{log_fits}
use Rattle.transfers.specs.Registers.{bit}
use Rattle.transfers.specs.State.{address_good, endpoint_good, size_good}
use Rattle.transfers.specs.Pipes.{opening}
use Rattle.transfers.specs.Irq.{has_buffer, woken_pipes, Waking, waking_if, waking}
use Rattle.transfers.specs.Rows.{unless, lowest_shut}
use Rattle.transfers.proofs.WokenPipes.{woken, not_woken}
use Rattle.transfers.proofs.PipeReplies.{open_row}
use Rattle.rules.specs.Wakes.{shows_buffer, IrqAnswers, is_in, WokenBy, Wakes}

-- By the log's length.
waking_fits : (ints status : ℕ) (log : List ℕ) → 192 ≤ length log → waking ints status log ≡ waking_if true ints status
unfolding waking
waking_fits ints status log fits = ap (λ (l : Bool). waking_if l ints status) (le-leb 192 (length log) fits)

waking_short : (ints status : ℕ) (log : List ℕ) → length log < 192 → waking ints status log ≡ waking_if false ints status
unfolding waking
waking_short ints status log less = ap (λ (l : Bool). waking_if l ints status) (lt-leb 192 (length log) less)

-- The answer is the definition's.
wake_is : (ints status : ℕ) (log : List ℕ) (w : Wake) → IrqAnswers ints status log w → w ≡ record { pipes = woken_pipes ints status; detect = bit 0 ints }
unfolding waking
wake_is ints status log w = go (log_fits log)
  where
    go : (l : Bool) → (waking_if l ints status).answer ≡ Ok w → w ≡ record { pipes = woken_pipes ints status; detect = bit 0 ints }
    go false h = absurd (let z : ◌≡◌ {A = ℕ} 0 1 = cc in omega arith)
    go true h = cc

-- Pipes 1 to 15: the control pipe's own rule is out.
interrupt_pipe : (ints status n : ℕ) → 1 ≤ n → n ≤ 15 → is_in (woken_pipes ints status) n ≡ shows_buffer ints status n
unfolding has
interrupt_pipe ints status n from to = woken ints status n (omega arith) ∙ rw (ne_eqb n 0 (λ (z : n ≡ 0). omega arith)) (or-false (has_buffer ints status n))

woken_by : (ints status : ℕ) → WokenBy ints status (record { pipes = woken_pipes ints status; detect = bit 0 ints })
unfolding has
woken_by ints status = record {
  each = interrupt_pipe ints status;
  control = woken ints status 0 (omega arith);
  none = λ n from. not_woken ints status n (omega arith);
  detection = ap (λ (v : ℕ). eqb (v % 2) 1) (div-one ints);
}

answered : (ints status : ℕ) (log : List ℕ) (w : Wake) → IrqAnswers ints status log w → WokenBy ints status w
answered ints status log w h = subst (WokenBy ints status) (sym (wake_is ints status log w h)) (woken_by ints status)

unrefused : (ints status : ℕ) (log : List ℕ) (why : Refusal) → 192 ≤ length log → (waking ints status log).answer ≡ Err why → ⊥
unrefused ints status log why fits said =
    let h = sym (ap (λ (e : Waking). e.answer) (waking_fits ints status log fits)) ∙ said in
    let z : ◌≡◌ {A = ℕ} 0 1 = cc in
    omega arith

too_short : (ints status : ℕ) (log : List ℕ) → length log < 192 → (irq_reply (waking ints status log).answer ≡ number 15) × ((waking ints status log).writes ≡ [])
too_short ints status log less =
    let e = waking_short ints status log less in
    (ap (λ (x : Waking). irq_reply x.answer) e, ap (λ (x : Waking). x.writes) e)

-- A check of a row that has a result was passed.
unless_result : {A : Type 0} (b : Bool) (k : ℕ) (r : Reply A) (x : A) → unless b k r ≡ result x → (b ≡ true) × (r ≡ result x)
unless_result true k r x h = (refl, h)
unless_result false k r x h = absurd (let z : ◌≡◌ {A = ℕ} 0 1 = cc in omega arith)

-- Open answers a pipe from 1 to 15.
opens_one : (d : Driver) (address : ℕ) (extras : TransferExtras) (endpoint size interval : ℕ) (log : List ℕ) (n : ℕ)
    → open_reply (opening d address extras endpoint size interval log).answer ≡ result n → (1 ≤ n) × (n ≤ 15)
opens_one d address extras endpoint size interval log n said =
    let low = lowest_shut d.pipes.opened.0 in
    let lent = (unless_result (log_fits log) 15 _ n (sym (open_row d.pipes address extras endpoint size interval log) ∙ said)).1 in
    let known = (unless_result (address_good address) 12 _ n lent).1 in
    let sized = (unless_result (endpoint_good endpoint) 11 _ n known).1 in
    let free = (unless_result (size_good size) 13 _ n sized).1 in
    let last = unless_result (ltb low 15) 10 (result (low + 1)) n free in
    let below = ltb-true low 15 last.0 in
    let is : low + 1 ≡ n = cc in
    (omega arith, omega arith)

alone_woken : (log : List ℕ) → 192 ≤ length log → IrqAnswers 0x10 0x4000_0000 log (record { pipes = 0x8001; detect = false })
unfolding woken_pipes set_of
alone_woken log fits = ap (λ (e : Waking). e.answer) (waking_fits 0x10 0x4000_0000 log fits)

error_woken : (log : List ℕ) → 192 ≤ length log → IrqAnswers 0x20 0 log (record { pipes = 0x0001; detect = false })
unfolding woken_pipes set_of
error_woken log fits = ap (λ (e : Waking). e.answer) (waking_fits 0x20 0 log fits)

pub wakes : Wakes
wakes = record {
  short = too_short;
  answers = unrefused;
  woken = answered;
  opened = λ d address extras endpoint size interval lent n said ints status log w h.
      let k = opens_one d address extras endpoint size interval lent n said in
      (answered ints status log w h).each n k.0 k.1;
  alone = alone_woken;
  error = error_woken;
  handed = λ ints status log log' r d. (d.answer, d.log.count ∙ zero-add (length (waking ints status log).writes), d.log.log);
}
