-- Open says 10 where all 15 pipes are open and only there, and else opens a pipe that was not open. Assumes nothing.
use Rattle.std.specs.Prelude.{None, Ok, Option, Some}
use mathlib.Core.Path.{◌≡◌, refl, ap, sym, ◌∙◌}
use mathlib.Core.Bool.{Bool, true, false, not, true≢false}
use mathlib.Core.List.{List}
use Prim.Native.Nat.{ℕ, ◌+◌, ◌-◌, ◌≤◌}
use native.Mathlib.Omega.{arith}
use lib.Dec.{ltb}
use borrow.Author.Tests.{ltb-false, not-false}
use Rattle.pool.specs.declared.bitset.BitSet.{BitSet}
use Rattle.pool.specs.declared.async_pool.PoolIndex.{PoolIndex}
use Rattle.pool.specs.declared.pipe.PipeNumber.{PipeNumber}
use Rattle.pool.specs.Set.{has}
use Rattle.pool.specs.Pool.{alloc_of}
use Rattle.pool.specs.Pipe.{offset, pipes, pipe_of, Counted}
use Rattle.pool.proofs.Pools.{alloc_some}
use Rattle.pool.proofs.Sets.{first, first_is}
use Rattle.pool.proofs.Pipes.{index_of_lem, index_of_pipe}
use Rattle.transfers.specs.declared.host_controller.TransferExtras.{TransferExtras}
use Rattle.transfers.specs.declared.driver.Driver.{Driver}
use Rattle.transfers.specs.Reply.{result, number}
use Rattle.transfers.specs.Memory.{log_fits}
use Rattle.transfers.specs.State.{address_good, endpoint_good, size_good}
use Rattle.transfers.specs.Pipes.{open_number, open_index, open_free, open_if, opening_pipe, opening, index_open, pool_of}
use Rattle.transfers.specs.Isolation.{is_open, is_some}
use Rattle.transfers.specs.Rows.{unless, lowest_shut}
use Rattle.rules.specs.AllOpen.{FifteenOpen, TenExactly}
use Rattle.transfers.proofs.OpenPipes.{open_some}
use Rattle.transfers.proofs.PipeReplies.{open_row}

-- A pipe from 1 to 15 whose index the pool has handed out is open.
open_has : (p : BitSet) (n : PipeNumber) → 1 ≤ n.0 → n.0 ≤ pipes → has p.0 (n.0 - offset) ≡ true → is_open p n ≡ true
unfolding index_open
open_has p n h k e =
    rw (index_of_lem (record { 0 = n.0 - offset }) n (omega arith, omega arith), e)

has_open : (p : BitSet) (n : PipeNumber) → is_open p n ≡ true → (at : PoolIndex) → Counted at n → has p.0 at.0 ≡ true
has_open p n e at c = go (index_open p n) refl e
  where
    go : (o : Option PoolIndex) → index_open p n ≡ o → is_some o ≡ true → has p.0 at.0 ≡ true
    go None f g = absurd (true≢false (sym g))
    go (Some i) f g =
        let h = open_some p n i f in
        let same : i.0 ≡ at.0 = omega arith in
        ap (has p.0) (sym same) ∙ h.1

-- A row that says 10 has passed every check before it.
row_ten : (l a e p b : Bool) (k : ℕ) → unless l 15 (unless a 12 (unless e 11 (unless p 13 (unless b 10 (result k))))) ≡ number 10
    → (l ≡ true) × (a ≡ true) × (e ≡ true) × (p ≡ true) × (b ≡ false)
row_ten false a e p b k h = absurd (let z : ◌≡◌ {A = ℕ} 15 10 = cc in omega arith)
row_ten true false e p b k h = absurd (let z : ◌≡◌ {A = ℕ} 12 10 = cc in omega arith)
row_ten true true false p b k h = absurd (let z : ◌≡◌ {A = ℕ} 11 10 = cc in omega arith)
row_ten true true true false b k h = absurd (let z : ◌≡◌ {A = ℕ} 13 10 = cc in omega arith)
row_ten true true true true true k h = absurd (let z : ◌≡◌ {A = ℕ} 0 1 = cc in omega arith)
row_ten true true true true false k h = (refl, refl, refl, refl, refl)

-- All 15 are open where the lowest index that isn't is none of them.
shut_all : (d : Driver) → 15 ≤ lowest_shut d.pipes.opened.0 → FifteenOpen d
unfolding has
shut_all d h n l k =
    open_has d.pipes.opened n l k (not-false _ ((first 15 0 (λ i. not (has d.pipes.opened.0 i))).before (n.0 - offset) (omega arith) (omega arith)))

all_shut : (d : Driver) → FifteenOpen d → lowest_shut d.pipes.opened.0 ≡ 15
unfolding has
all_shut d all =
    first_is 15 0 (λ i. not (has d.pipes.opened.0 i)) 15
    (record {
      from = omega arith;
      within = omega arith;
      before = λ i p q. ap not (has_open d.pipes.opened (record { 0 = i + offset }) (all _ (omega arith) (omega arith)) (record { 0 = i }) (refl, omega arith));
      here = λ q. absurd (omega arith);
    })

-- "10 all 15 open"
pub ten_exactly : TenExactly
ten_exactly = record {
  only = λ d address extras endpoint size interval log said.
      let h = row_ten (log_fits log) (address_good address) (endpoint_good endpoint) (size_good size) (ltb (lowest_shut d.pipes.opened.0) 15) (lowest_shut d.pipes.opened.0 + 1)
      (sym (open_row d.pipes address extras endpoint size interval log) ∙ said) in
      (record { room = h.0; below = h.1; known = h.2; small = h.3 }, shut_all d (ltb-false (lowest_shut d.pipes.opened.0) 15 h.4));
  there = λ d address extras endpoint size interval log fits all.
      open_row d.pipes address extras endpoint size interval log ∙ rw (fits.room, fits.below, fits.known, fits.small, all_shut d all);
}

-- The pipe that is opened was not open.
pub opens_shut : (d : Driver) (address : ℕ) (extras : TransferExtras) (endpoint size interval : ℕ) (log : List ℕ) (n : PipeNumber)
    → (opening d address extras endpoint size interval log).answer ≡ Ok n → is_open d.pipes.opened n ≡ false
unfolding opening_pipe open_free index_open
opens_shut d address extras endpoint size interval log n =
    go (log_fits log) (address_good address) (endpoint_good endpoint) (size_good size)
  where
    number : (at : PoolIndex) → (alloc_of (pool_of d.pipes.opened)).index ≡ Some at → (o : Option PipeNumber) → pipe_of at ≡ o
        → (open_number o at (alloc_of (pool_of d.pipes.opened)).pool.allocated d.pipes address extras endpoint size interval).answer ≡ Ok n
        → is_open d.pipes.opened n ≡ false
    number at e None f s = absurd (let z : ◌≡◌ {A = ℕ} 0 1 = cc in omega arith)
    number at e (Some m) f s =
        let same : m ≡ n = cc in
        rw (index_of_pipe at n (f ∙ ap (λ k. Some k) same), (alloc_some (pool_of d.pipes.opened) at e).2)

    index : (o : Option PoolIndex) → (alloc_of (pool_of d.pipes.opened)).index ≡ o
        → (open_index o (alloc_of (pool_of d.pipes.opened)).pool.allocated d.pipes address extras endpoint size interval).answer ≡ Ok n
        → is_open d.pipes.opened n ≡ false
    index None e s = absurd (let z : ◌≡◌ {A = ℕ} 0 1 = cc in omega arith)
    index (Some at) e s = number at e (pipe_of at) refl s

    go : (l a e f : Bool) → (open_if l a e f d.pipes address extras endpoint size interval).answer ≡ Ok n
        → is_open d.pipes.opened n ≡ false
    go false a e f s = absurd (let z : ◌≡◌ {A = ℕ} 0 1 = cc in omega arith)
    go true false e f s = absurd (let z : ◌≡◌ {A = ℕ} 0 1 = cc in omega arith)
    go true true false f s = absurd (let z : ◌≡◌ {A = ℕ} 0 1 = cc in omega arith)
    go true true true false s = absurd (let z : ◌≡◌ {A = ℕ} 0 1 = cc in omega arith)
    go true true true true s = index (alloc_of (pool_of d.pipes.opened)).index refl s
