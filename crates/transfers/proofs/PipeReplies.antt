-- Open, close, poll, interrupt routine and detection answer as document 01's rows have it, in its numbers. Assumes nothing.
use Rattle.std.proofs.Common.{◌≡◌, ℕ, ◌+◌, ◌-◌, ◌<◌, ◌≤◌, Bool, true, false, cond, not, ◌&&◌, ltb, leb, List, refl, ap, ◌∙◌, arith, ltb-false, ltb-true, le-ltb, lt-ltb, leb-false, leb-true, None, Option, Some}
use Rattle.pool.specs.declared.bitset.BitSet.{BitSet}
use Rattle.pool.specs.declared.async_pool.PoolIndex.{PoolIndex}
use Rattle.pool.specs.declared.pipe.PipeNumber.{PipeNumber}
use Rattle.pool.specs.Set.{has, lowest_out}
use Rattle.pool.specs.Pool.{hand_out, alloc_of}
use Rattle.pool.specs.Pipe.{pipe_of, index_of}
use Rattle.pool.proofs.Sets.{first_is, lowest_out_below, lowest_out_no}
use Rattle.transfers.specs.declared.host_controller.TransferExtras.{TransferExtras}
use Rattle.transfers.specs.declared.host_controller.DeviceStatus.{DeviceStatus}
use Rattle.transfers.specs.declared.driver.Pipes.{Pipes}
use Rattle.transfers.specs.declared.pipes.PipeSample.{PipeSample}
use Rattle.transfers.specs.Reply.{Reply, result, number, open_reply, close_reply, packet, no_packet, poll_reply, irq_reply, changed, unchanged, detect_reply}
use Rattle.transfers.specs.Memory.{log_fits, lent_fits}
use Rattle.transfers.specs.Registers.{bit}
use Rattle.transfers.specs.State.{address_good, endpoint_good, size_good}
use Rattle.transfers.specs.Pipes.{pool_of, open_index, open_free, open_if, opening_pipe, handed_out, index_open, close_index, closing_pipe, poll_full, poll_if, polling_pipe}
use Rattle.transfers.specs.Irq.{woken_pipes, waking_if, waking}
use Rattle.transfers.specs.Detect.{status_of, same_status, detecting_if, detecting_status}
use Rattle.transfers.specs.Rows.{unless, lowest_shut, open_row_of, number_open, close_row_of, poll_row, irq_row, detect_row}

-- ---- open

-- Below 15 the lowest index that isn't open is the lowest of all 32.
shut_below : (s : ℕ) → lowest_out s < 15 → lowest_shut s ≡ lowest_out s
unfolding has
shut_below s h =
    first_is 15 0 (λ i. not (has s i)) (lowest_out s)
    (record { from = omega arith; within = omega arith; before = λ i p q. ap not (lowest_out_below s i q); here = λ q. ap not (lowest_out_no s (omega arith)) })

-- Where it is 15 or above, all 15 are open.
shut_none : (s : ℕ) → 15 ≤ lowest_out s → lowest_shut s ≡ 15
unfolding has
shut_none s h =
    first_is 15 0 (λ i. not (has s i)) 15
    (record { from = omega arith; within = omega arith; before = λ i p q. ap not (lowest_out_below s i (omega arith)); here = λ q. absurd (omega arith) })

free_row : (ps : Pipes) (address : ℕ) (extras : TransferExtras) (endpoint size interval : ℕ)
    → open_reply (open_free ps address extras endpoint size interval).answer
    ≡ unless (ltb (lowest_shut ps.opened.0) 15) 10 (result (lowest_shut ps.opened.0 + 1))
unfolding open_free alloc_of pipe_of
free_row ps address extras endpoint size interval = go (ltb low 15) refl
  where
    low : ℕ
    low = lowest_out ps.opened.0

    go : (b : Bool) → ltb low 15 ≡ b
        → (let a = cond b (hand_out (pool_of ps.opened) low) (record { pool = pool_of ps.opened; index = None }) in
        open_reply (open_index a.index a.pool.allocated ps address extras endpoint size interval).answer)
        ≡ unless (ltb (lowest_shut ps.opened.0) 15) 10 (result (lowest_shut ps.opened.0 + 1))
    go true t = rw (shut_below ps.opened.0 (ltb-true low 15 t), t)
    go false t = rw (shut_none ps.opened.0 (ltb-false low 15 t))

pub open_row : (ps : Pipes) (address : ℕ) (extras : TransferExtras) (endpoint size interval : ℕ) (log : List ℕ)
    → open_reply (opening_pipe ps address extras endpoint size interval log).answer ≡ open_row_of ps.opened.0 address endpoint size log
unfolding opening_pipe
open_row ps address extras endpoint size interval log = go (log_fits log) (address_good address) (endpoint_good endpoint) (size_good size)
  where
    s : ℕ
    s = ps.opened.0

    go : (l a e p : Bool) → open_reply (open_if l a e p ps address extras endpoint size interval).answer
        ≡ unless l 15 (unless a 12 (unless e 11 (unless p 13 (unless (ltb (lowest_shut s) 15) 10 (result (lowest_shut s + 1))))))
    go false a e p = refl
    go true false e p = refl
    go true true false p = refl
    go true true true false = refl
    go true true true true = free_row ps address extras endpoint size interval

-- ---- close and poll

-- "index 0 to 14 is pipe 1 to 15"
below : (n : ℕ) → 1 ≤ n → ltb (n - 1) 15 ≡ leb n 15
below n h = go (leb n 15) refl
  where
    go : (b : Bool) → leb n 15 ≡ b → ltb (n - 1) 15 ≡ b
    go true e = lt-ltb (n - 1) 15 (omega (arith, leb-true n 15 e))
    go false e = le-ltb (n - 1) 15 (omega (arith, leb-false n 15 e))

-- A pipe has an index among the open ones exactly where the row says so.
by_number : {A : Type 0} (f : Option PoolIndex → A) (p q : A) (s : BitSet) (n : PipeNumber) → f None ≡ q → ((at : PoolIndex) → f (Some at) ≡ p)
    → f (index_open s n) ≡ cond (number_open s.0 n.0) p q
unfolding index_open index_of has
by_number f p q s n none some = go (leb 1 n.0) (leb n.0 15) refl refl
  where
    at : PoolIndex
    at = record { 0 = n.0 - 1 }

    held : (b : Bool) → f (cond b (Some at) None) ≡ cond b p q
    held true = some at
    held false = none

    go : (a b : Bool) → leb 1 n.0 ≡ a → leb n.0 15 ≡ b
        → f (handed_out s (cond (a && ltb (n.0 - 1) 15) (Some at) None)) ≡ cond (a && b && bit (n.0 - 1) s.0) p q
    go false b e h = none
    go true true e h = rw (below n.0 (leb-true 1 n.0 e) ∙ h) (held (bit (n.0 - 1) s.0))
    go true false e h = rw (below n.0 (leb-true 1 n.0 e) ∙ h) none

unless_is : {A : Type 0} (b : Bool) (k : ℕ) (r : Reply A) → cond b r (number k) ≡ unless b k r
unless_is true k r = refl
unless_is false k r = refl

pub close_row : (ps : Pipes) (n : PipeNumber) → close_reply (closing_pipe ps n).answer ≡ close_row_of ps.opened.0 n.0
unfolding closing_pipe
close_row ps n =
    by_number (λ o. close_reply (close_index o ps).answer) (result tt) (number 17) ps.opened n refl (λ at. refl)
    ∙ unless_is (number_open ps.opened.0 n.0) 17 (result tt)

pub poll_row_lem : (ps : Pipes) (n : PipeNumber) (s : PipeSample) (pm log : List ℕ)
    → poll_reply (polling_pipe ps n s pm log).answer ≡ poll_row ps.opened.0 n.0 s.buffer pm log
unfolding polling_pipe poll_full
poll_row_lem ps n s pm log = go (lent_fits pm log) (bit 15 s.buffer)
  where
    found : (f : Bool) → poll_reply (poll_if true (index_open ps.opened n) f ps n s pm).answer
        ≡ unless (number_open ps.opened.0 n.0) 17 (cond f (result packet) (result no_packet))
    found true =
        by_number (λ o. poll_reply (poll_if true o true ps n s pm).answer) (result packet) (number 17) ps.opened n refl (λ at. refl)
        ∙ unless_is (number_open ps.opened.0 n.0) 17 (result packet)
    found false =
        by_number (λ o. poll_reply (poll_if true o false ps n s pm).answer) (result no_packet) (number 17) ps.opened n refl (λ at. refl)
        ∙ unless_is (number_open ps.opened.0 n.0) 17 (result no_packet)

    go : (l f : Bool) → poll_reply (poll_if l (index_open ps.opened n) f ps n s pm).answer
        ≡ unless l 15 (unless (number_open ps.opened.0 n.0) 17 (cond f (result packet) (result no_packet)))
    go false f = refl
    go true f = found f

-- ---- interrupt routine and detection

pub irq_row_lem : (ints status : ℕ) (log : List ℕ) → irq_reply (waking ints status log).answer ≡ irq_row ints status log
unfolding waking woken_pipes
irq_row_lem ints status log = go (log_fits log)
  where
    go : (l : Bool) → irq_reply (waking_if l ints status).answer ≡ unless l 15 (irq_reply (waking_if true ints status).answer)
    go false = refl
    go true = refl

pub detect_row_lem : (last : DeviceStatus) (sie : ℕ) (log : List ℕ) → detect_reply (detecting_status last sie log).answer ≡ detect_row last sie log
unfolding detecting_status
detect_row_lem last sie log = go (log_fits log) (same_status (status_of sie) last)
  where
    go : (l same : Bool) → detect_reply (detecting_if l same last (status_of sie)).answer
        ≡ unless l 15 (cond same (result unchanged) (result (changed (status_of sie))))
    go false same = refl
    go true true = refl
    go true false = refl
