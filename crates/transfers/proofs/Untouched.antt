-- What open, close, poll and detection leave as it was. Assumes nothing.
use Rattle.std.proofs.Common.{◌≡◌, ℕ, Bool, true, false, List, [], length, refl, ap, arith, length-set, Err, None, Option, Some}
use Rattle.pool.specs.declared.bitset.BitSet.{BitSet}
use Rattle.pool.specs.declared.async_pool.PoolIndex.{PoolIndex}
use Rattle.pool.specs.declared.pipe.PipeNumber.{PipeNumber}
use Rattle.pool.specs.Pool.{alloc_of}
use Rattle.pool.specs.Pipe.{pipe_of}
use Rattle.transfers.specs.declared.host_controller.TransferExtras.{TransferExtras}
use Rattle.transfers.specs.declared.host_controller.DeviceStatus.{DeviceStatus}
use Rattle.transfers.specs.declared.refusal.Refusal.{Refusal}
use Rattle.transfers.specs.declared.driver.Driver.{Driver}
use Rattle.transfers.specs.declared.driver.Pipes.{Pipes}
use Rattle.transfers.specs.declared.pipes.PipeSample.{PipeSample}
use Rattle.transfers.specs.Memory.{log_fits, lent_fits}
use Rattle.transfers.specs.Registers.{bit}
use Rattle.transfers.specs.State.{address_good, endpoint_good, size_good}
use Rattle.transfers.specs.Pipes.{pool_of, with_pipes, Opening, no_packet, open_number, open_index, open_free, open_if, opening_pipe, opening, index_open, close_index, closing_pipe, closing, poll_full, poll_if, polling_pipe, polling}
use Rattle.transfers.specs.Detect.{status_of, same_status, Detecting, detecting_if, detecting_status, with_last, detecting}
use Rattle.transfers.specs.Isolation.{is_open, Whole}

-- ---- the transfer

module _ (d : Driver) (address : ℕ) (extras : TransferExtras) (endpoint size interval : ℕ) (log : List ℕ) where
  pub open_transfer : (opening d address extras endpoint size interval log).next.transfer ≡ d.transfer
  open_transfer = refl

  pub open_last : (opening d address extras endpoint size interval log).next.last ≡ d.last
  open_last = refl

pub close_transfer : (d : Driver) (n : PipeNumber) → (closing d n).next.transfer ≡ d.transfer
close_transfer d n = refl

pub poll_transfer : (d : Driver) (n : PipeNumber) (s : PipeSample) (pm log : List ℕ) → (polling d n s pm log).next.transfer ≡ d.transfer
poll_transfer d n s pm log = refl

pub detect_transfer : (d : Driver) (sie : ℕ) (log : List ℕ) → (detecting d sie log).next.transfer ≡ d.transfer
detect_transfer d sie log = refl

-- ---- which pipes are open

pub poll_opened : (d : Driver) (n : PipeNumber) (s : PipeSample) (pm log : List ℕ) → (polling d n s pm log).next.pipes.opened ≡ d.pipes.opened
unfolding polling_pipe poll_full
poll_opened d n s pm log = go (lent_fits pm log) (index_open d.pipes.opened n) (bit 15 s.buffer)
  where
    go : (b : Bool) (o : Option PoolIndex) (f : Bool) → (poll_if b o f d.pipes n s pm).next.opened ≡ d.pipes.opened
    go false o f = refl
    go true None f = refl
    go true (Some at) false = refl
    go true (Some at) true = refl

pub poll_open : (d : Driver) (n : PipeNumber) (s : PipeSample) (pm log : List ℕ) (k : PipeNumber)
    → is_open (polling d n s pm log).next.pipes.opened k ≡ is_open d.pipes.opened k
poll_open d n s pm log k = ap (λ (p : BitSet). is_open p k) (poll_opened d n s pm log)

pub detect_pipes : (d : Driver) (sie : ℕ) (log : List ℕ) → (detecting d sie log).next.pipes ≡ d.pipes
detect_pipes d sie log = refl

-- ---- 15 pipes

pub open_whole : (d : Driver) (address : ℕ) (extras : TransferExtras) (endpoint size interval : ℕ) (log : List ℕ)
    → Whole d → Whole (opening d address extras endpoint size interval log).next
unfolding opening_pipe open_free
open_whole d address extras endpoint size interval log w =
    go (log_fits log) (address_good address) (endpoint_good endpoint) (size_good size)
  where
    index : (o : Option PoolIndex) (p : BitSet) → length (open_index o p d.pipes address extras endpoint size interval).next.each ≡ 15
    index None p = w
    index (Some at) p = number (pipe_of at)
      where
        number : (o : Option PipeNumber) → length (open_number o at p d.pipes address extras endpoint size interval).next.each ≡ 15
        number None = w
        number (Some n) = simp length-set w

    go : (l a e s : Bool) → length (open_if l a e s d.pipes address extras endpoint size interval).next.each ≡ 15
    go false a e s = w
    go true false e s = w
    go true true false s = w
    go true true true false = w
    go true true true true = index (alloc_of (pool_of d.pipes.opened)).index (alloc_of (pool_of d.pipes.opened)).pool.allocated

pub close_whole : (d : Driver) (n : PipeNumber) → Whole d → Whole (closing d n).next
unfolding closing_pipe
close_whole d n w = go (index_open d.pipes.opened n)
  where
    go : (o : Option PoolIndex) → length (close_index o d.pipes).next.each ≡ 15
    go None = w
    go (Some at) = w

pub poll_whole : (d : Driver) (n : PipeNumber) (s : PipeSample) (pm log : List ℕ) → Whole d → Whole (polling d n s pm log).next
unfolding polling_pipe poll_full
poll_whole d n s pm log w = go (lent_fits pm log) (index_open d.pipes.opened n) (bit 15 s.buffer)
  where
    go : (b : Bool) (o : Option PoolIndex) (f : Bool) → length (poll_if b o f d.pipes n s pm).next.each ≡ 15
    go false o f = w
    go true None f = w
    go true (Some at) false = w
    go true (Some at) true = simp length-set w

-- ---- refusals: "Every other number leaves state, packet memory, log, record and buffer untouched."

pub open_refused : (d : Driver) (address : ℕ) (extras : TransferExtras) (endpoint size interval : ℕ) (log : List ℕ) (why : Refusal)
    → (opening d address extras endpoint size interval log).answer ≡ Err why
    → ((opening d address extras endpoint size interval log).next ≡ d) × ((opening d address extras endpoint size interval log).writes ≡ [])
unfolding opening_pipe open_free
open_refused d address extras endpoint size interval log why =
    go (log_fits log) (address_good address) (endpoint_good endpoint) (size_good size)
  where
    Kept : Opening Pipes → Type 0
    Kept o = o.answer ≡ Err why → (with_pipes d o.next ≡ d) × (o.writes ≡ [])

    number : (at : PoolIndex) (p : BitSet) (o : Option PipeNumber) → Kept (open_number o at p d.pipes address extras endpoint size interval)
    number at p None e = (refl, refl)
    number at p (Some n) e = absurd (let z : ◌≡◌ {A = ℕ} 0 1 = cc in omega arith)

    index : (p : BitSet) (o : Option PoolIndex) → Kept (open_index o p d.pipes address extras endpoint size interval)
    index p None e = (refl, refl)
    index p (Some at) e = number at p (pipe_of at) e

    go : (l a e s : Bool) → Kept (open_if l a e s d.pipes address extras endpoint size interval)
    go false a e s f = (refl, refl)
    go true false e s f = (refl, refl)
    go true true false s f = (refl, refl)
    go true true true false f = (refl, refl)
    go true true true true f = index (alloc_of (pool_of d.pipes.opened)).pool.allocated (alloc_of (pool_of d.pipes.opened)).index f

pub close_refused : (d : Driver) (n : PipeNumber) (why : Refusal) → (closing d n).answer ≡ Err why → (closing d n).next ≡ d
unfolding closing_pipe
close_refused d n why = go (index_open d.pipes.opened n)
  where
    go : (o : Option PoolIndex) → (close_index o d.pipes).answer ≡ Err why → with_pipes d (close_index o d.pipes).next ≡ d
    go None e = refl
    go (Some at) e = absurd (let z : ◌≡◌ {A = ℕ} 0 1 = cc in omega arith)

pub poll_refused : (d : Driver) (n : PipeNumber) (s : PipeSample) (pm log : List ℕ) (why : Refusal)
    → (polling d n s pm log).answer ≡ Err why
    → ((polling d n s pm log).next ≡ d) × ((polling d n s pm log).packet ≡ no_packet) × ((polling d n s pm log).writes ≡ [])
unfolding polling_pipe poll_full
poll_refused d n s pm log why = go (lent_fits pm log) (index_open d.pipes.opened n) (bit 15 s.buffer)
  where
    go : (b : Bool) (o : Option PoolIndex) (f : Bool) → (poll_if b o f d.pipes n s pm).answer ≡ Err why
        → (with_pipes d (poll_if b o f d.pipes n s pm).next ≡ d) × ((poll_if b o f d.pipes n s pm).packet ≡ no_packet)
        × ((poll_if b o f d.pipes n s pm).writes ≡ [])
    go false o f e = (refl, refl, refl)
    go true None f e = (refl, refl, refl)
    go true (Some at) false e = absurd (let z : ◌≡◌ {A = ℕ} 0 1 = cc in omega arith)
    go true (Some at) true e = absurd (let z : ◌≡◌ {A = ℕ} 0 1 = cc in omega arith)

pub detect_refused : (d : Driver) (sie : ℕ) (log : List ℕ) (why : Refusal) → (detecting d sie log).answer ≡ Err why
    → ((detecting d sie log).next ≡ d) × ((detecting d sie log).writes ≡ [])
unfolding detecting_status
detect_refused d sie log why = go (log_fits log) (same_status (status_of sie) d.last)
  where
    Kept : Detecting DeviceStatus → Type 0
    Kept e = e.answer ≡ Err why → ((with_last d e).next ≡ d) × (e.writes ≡ [])

    go : (b c : Bool) → Kept (detecting_if b c d.last (status_of sie))
    go false c e = (refl, refl)
    go true true e = absurd (let z : ◌≡◌ {A = ℕ} 0 1 = cc in omega arith)
    go true false e = absurd (let z : ◌≡◌ {A = ℕ} 0 1 = cc in omega arith)
