-- Open, poll, on_irq and detection write no register of the control pipe, and set FULL nowhere. Assumes nothing.
use Rattle.std.proofs.Common.{◌≡◌, ℕ, ◌+◌, ◌-◌, ◌/◌, ◌%◌, ◌<◌, ◌≤◌, Bool, true, false, not, List, [], ◌∷◌, ◌++◌, refl, arith, lit<, lit≤, ne_eqb, None, Option, Some}
use Rattle.pool.specs.declared.bitset.BitSet.{BitSet}
use Rattle.pool.specs.declared.async_pool.PoolIndex.{PoolIndex}
use Rattle.pool.specs.declared.pipe.PipeNumber.{PipeNumber}
use Rattle.pool.specs.Pool.{alloc_of}
use Rattle.pool.specs.Pipe.{offset, pipe_of}
use Rattle.pool.proofs.Pipes.{pipe_counted}
use Rattle.transfers.specs.declared.host_controller.TransferExtras.{TransferExtras}
use Rattle.transfers.specs.declared.driver.Driver.{Driver}
use Rattle.transfers.specs.declared.pipes.PipeSample.{PipeSample}
use Rattle.transfers.specs.Log.{Write, wr}
use Rattle.transfers.specs.Memory.{log_fits, lent_fits}
use Rattle.transfers.specs.Registers.{addr_endp_of, ep_control, ep_buffer_of, inte, int_ep_ctrl, buff_status, ep_status_stall_nak, bit, weigh}
use Rattle.transfers.specs.State.{address_good, endpoint_good, size_good}
use Rattle.transfers.specs.Pipes.{pool_of, arm_pipe, open_writes, open_number, open_index, open_free, open_if, opening_pipe, opening, index_open, wait_writes, poll_full, poll_if, polling_pipe, polling}
use Rattle.transfers.specs.Irq.{clear_writes, waking_if, waking}
use Rattle.transfers.specs.Detect.{same_status, status_of, detecting_if, detecting_status, detecting}
use Rattle.transfers.specs.Isolation.{held_of}
use Rattle.transfers.specs.Apart.{Elsewhere, Apart, NoneFull}
use Rattle.transfers.proofs.OpenPipes.{open_some, between}

-- ---- which writes there are

-- What holds of no writes and of those of each pipe holds of the writes of open.
pub of_open : (T : List Write → Type 0) (d : Driver) (address : ℕ) (extras : TransferExtras) (endpoint size interval : ℕ) (log : List ℕ)
    → T [] → ((n : ℕ) → 1 ≤ n → n ≤ 15 → size ≤ 64 → T (open_writes n address extras endpoint size interval))
    → T (opening d address extras endpoint size interval log).writes
unfolding opening_pipe open_free
of_open T d address extras endpoint size interval log none some =
    go (log_fits log) (address_good address) (endpoint_good endpoint) (size_good size) refl
  where
    number : size ≤ 64 → (at : PoolIndex) (p : BitSet) (o : Option PipeNumber) → pipe_of at ≡ o
        → T (open_number o at p d.pipes address extras endpoint size interval).writes
    number h at p None e = none
    number h at p (Some n) e = let c = pipe_counted at n e in some n.0 (omega arith) (omega arith) h

    index : size ≤ 64 → (p : BitSet) (o : Option PoolIndex) → T (open_index o p d.pipes address extras endpoint size interval).writes
    index h p None = none
    index h p (Some at) = number h at p (pipe_of at) refl

    go : (l a e s : Bool) → size_good size ≡ s → T (open_if l a e s d.pipes address extras endpoint size interval).writes
    go false a e s f = none
    go true false e s f = none
    go true true false s f = none
    go true true true false f = none
    go true true true true f = index (between 1 size 64 f).1 (alloc_of (pool_of d.pipes.opened)).pool.allocated (alloc_of (pool_of d.pipes.opened)).index

-- The same of poll.
pub of_poll : (T : List Write → Type 0) (d : Driver) (n : PipeNumber) (s : PipeSample) (pm log : List ℕ)
    → T [] → (1 ≤ n.0 → n.0 ≤ 15 → T (wait_writes n.0))
    → ((t : Bool) → 1 ≤ n.0 → n.0 ≤ 15 → T (arm_pipe n.0 t (held_of d.pipes n).size))
    → T (polling d n s pm log).writes
unfolding polling_pipe poll_full
of_poll T d n s pm log none wait full = go (lent_fits pm log) (index_open d.pipes.opened n) (bit 15 s.buffer) refl
  where
    go : (b : Bool) (o : Option PoolIndex) (f : Bool) → index_open d.pipes.opened n ≡ o → T (poll_if b o f d.pipes n s pm).writes
    go false o f e = none
    go true None f e = none
    go true (Some at) false e = let c = (open_some d.pipes.opened n at e).0 in wait (omega arith) (omega arith)
    go true (Some at) true e =
        let c = (open_some d.pipes.opened n at e).0 in
        let i : n.0 - offset ≡ at.0 = omega arith in
        rw (← i) (full (not (held_of d.pipes n).toggle) (omega arith) (omega arith))

-- ---- other registers

below : (r : ℕ) → r < 0x5010_0000 → Elsewhere r
below r h = record {
  target = λ e. omega arith;
  control = λ e. omega arith;
  buffer = λ e. omega arith;
  low = λ e. omega arith;
  high = λ e. omega arith;
}

above : (r : ℕ) → 0x5011_0050 ≤ r → Elsewhere r
above r h = record {
  target = λ e. omega arith;
  control = λ e. omega arith;
  buffer = λ e. omega arith;
  low = λ e. omega arith;
  high = λ e. omega arith;
}

target_of : (n : ℕ) → 1 ≤ n → n ≤ 15 → Elsewhere (addr_endp_of n)
target_of n h k = record {
  target = λ e. omega arith;
  control = λ e. omega arith;
  buffer = λ e. omega arith;
  low = λ e. omega arith;
  high = λ e. omega arith;
}

control_of : (n : ℕ) → 1 ≤ n → n ≤ 15 → Elsewhere (ep_control n)
control_of n h k = record {
  target = λ e. omega arith;
  control = λ e. omega arith;
  buffer = λ e. omega arith;
  low = λ e. omega arith;
  high = λ e. omega arith;
}

buffer_of : (n : ℕ) → 1 ≤ n → n ≤ 15 → Elsewhere (ep_buffer_of n)
buffer_of n h k = record {
  target = λ e. omega arith;
  control = λ e. omega arith;
  buffer = λ e. omega arith;
  low = λ e. omega arith;
  high = λ e. omega arith;
}

arm_apart : (n : ℕ) (t : Bool) (p : ℕ) → 1 ≤ n → n ≤ 15 → Apart (arm_pipe n t p)
arm_apart n t p h k = (buffer_of n h k, (below 0 (lit< tt), (buffer_of n h k, tt)))

pub open_apart : (d : Driver) (address : ℕ) (extras : TransferExtras) (endpoint size interval : ℕ) (log : List ℕ)
    → Apart (opening d address extras endpoint size interval log).writes
open_apart d address extras endpoint size interval log =
    of_open Apart d address extras endpoint size interval log tt
    (λ n h k p. (target_of n h k, (control_of n h k, arm_apart n false size h k)))

pub poll_apart : (d : Driver) (n : PipeNumber) (s : PipeSample) (pm log : List ℕ) → Apart (polling d n s pm log).writes
poll_apart d n s pm log =
    of_poll Apart d n s pm log tt
    (λ h k. (above inte (lit≤ tt), (above int_ep_ctrl (lit≤ tt), (above ep_status_stall_nak (lit≤ tt), tt))))
    (λ t h k. arm_apart n.0 t (held_of d.pipes n).size h k)

pub irq_apart : (ints status : ℕ) (log : List ℕ) → Apart (waking ints status log).writes
unfolding waking
irq_apart ints status log = go (log_fits log)
  where
    cleared : (c : Bool) → Apart (clear_writes c ++ (wr inte ints 0 ∷ []))
    cleared true = (above buff_status (lit≤ tt), (above inte (lit≤ tt), tt))
    cleared false = (above inte (lit≤ tt), tt)

    go : (b : Bool) → Apart (waking_if b ints status).writes
    go false = tt
    go true = cleared (bit 4 ints)

pub detect_apart : (d : Driver) (sie : ℕ) (log : List ℕ) → Apart (detecting d sie log).writes
unfolding detecting_status
detect_apart d sie log = go (log_fits log) (same_status (status_of sie) d.last)
  where
    go : (b c : Bool) → Apart (detecting_if b c d.last (status_of sie)).writes
    go false c = tt
    go true true = (above inte (lit≤ tt), tt)
    go true false = (above inte (lit≤ tt), tt)

-- ---- FULL

-- The value of a write to an interrupt pipe's EP_BUFFER_CONTROL has FULL_0 clear.
abbrev Clear : ℕ → ℕ → Type 0
Clear r v = (n : ℕ) → 1 ≤ n → n ≤ 15 → r ≡ ep_buffer_of n → bit 15 v ≡ false

low_clear : (r v : ℕ) → v < 0x8000 → Clear r v
low_clear r v h n p q e = ne_eqb (v / 0x8000 % 2) 1 (λ f. omega arith)

-- No interrupt pipe's EP_BUFFER_CONTROL.
no_buffer : {A : Type 0} (r : ℕ) → 0x5010_0100 ≤ r → (n : ℕ) → 1 ≤ n → n ≤ 15 → r ≡ ep_buffer_of n → A
no_buffer r h n p q e = absurd (omega arith)

armed : (t : Bool) (p : ℕ) → p < 256 → 0x4000 + weigh t 0x2000 + p < 0x8000
armed true p h = omega arith
armed false p h = omega arith

arm_clear : (n : ℕ) (t : Bool) (p : ℕ) → p < 256 → NoneFull (arm_pipe n t p)
arm_clear n t p h = (
  low_clear (ep_buffer_of n) (0x4000 + weigh t 0x2000 + p) (armed t p h),
  (low_clear 0 12 (lit< tt), (low_clear (ep_buffer_of n) 0x400 (lit< tt), tt)),
)

pub open_none_full : (d : Driver) (address : ℕ) (extras : TransferExtras) (endpoint size interval : ℕ) (log : List ℕ)
    → NoneFull (opening d address extras endpoint size interval log).writes
open_none_full d address extras endpoint size interval log =
    of_open NoneFull d address extras endpoint size interval log tt
    (λ n h k p. (no_buffer (addr_endp_of n) (omega arith), (λ m a b e. absurd (omega arith), arm_clear n false size (omega arith))))

-- A u8 is below 256.
pub poll_none_full : (d : Driver) (n : PipeNumber) (s : PipeSample) (pm log : List ℕ) → (held_of d.pipes n).size < 256
    → NoneFull (polling d n s pm log).writes
poll_none_full d n s pm log u =
    of_poll NoneFull d n s pm log tt
    (λ h k. (no_buffer inte (lit≤ tt), (no_buffer int_ep_ctrl (lit≤ tt), (no_buffer ep_status_stall_nak (lit≤ tt), tt))))
    (λ t h k. arm_clear n.0 t (held_of d.pipes n).size u)

pub irq_none_full : (ints status : ℕ) (log : List ℕ) → NoneFull (waking ints status log).writes
unfolding waking
irq_none_full ints status log = go (log_fits log)
  where
    cleared : (c : Bool) → NoneFull (clear_writes c ++ (wr inte ints 0 ∷ []))
    cleared true = (no_buffer buff_status (lit≤ tt), (no_buffer inte (lit≤ tt), tt))
    cleared false = (no_buffer inte (lit≤ tt), tt)

    go : (b : Bool) → NoneFull (waking_if b ints status).writes
    go false = tt
    go true = cleared (bit 4 ints)

pub detect_none_full : (d : Driver) (sie : ℕ) (log : List ℕ) → NoneFull (detecting d sie log).writes
unfolding detecting_status
detect_none_full d sie log = go (log_fits log) (same_status (status_of sie) d.last)
  where
    go : (b c : Bool) → NoneFull (detecting_if b c d.last (status_of sie)).writes
    go false c = tt
    go true true = (no_buffer inte (lit≤ tt), tt)
    go true false = (no_buffer inte (lit≤ tt), tt)
