-- What open, close and poll make of the pipes. Assumes nothing.
use Rattle.std.specs.Prelude.{None, Ok, Option, Some}
use mathlib.Core.Path.{◌≡◌, refl, ap, sym, ◌∙◌}
use mathlib.Core.Bool.{Bool, true, false, cond, not, ◌&&◌, or-false}
use mathlib.Core.List.{List}
use Prim.Native.Nat.{ℕ, ◌-◌, ◌≤◌}
use native.Mathlib.Omega.{arith}
use borrow.Author.Tests.{lt-ltb, eq-eqb, ne_eqb}
use lib.ListN.{length, set, get_or}
use lib.Seq.{get_or-set_same, get_or-set_other}
use Rattle.pool.specs.declared.bitset.BitSet.{BitSet}
use Rattle.pool.specs.declared.async_pool.PoolIndex.{PoolIndex}
use Rattle.pool.specs.declared.pipe.PipeNumber.{PipeNumber}
use Rattle.pool.specs.Set.{has, insert, remove}
use Rattle.pool.specs.Pool.{alloc_of, free_of}
use Rattle.pool.specs.Pipe.{offset, pipes, pipe_of, Counted}
use Rattle.pool.proofs.Sets.{has_insert, has_remove}
use Rattle.pool.proofs.Pools.{alloc_some}
use Rattle.pool.proofs.Pipes.{pipe_counted, index_of_lem}
use Rattle.transfers.specs.declared.host_controller.TransferExtras.{TransferExtras}
use Rattle.transfers.specs.declared.driver.Driver.{Driver}
use Rattle.transfers.specs.declared.driver.Pipes.{Pipes}
use Rattle.transfers.specs.declared.driver.Pipe.{Pipe}
use Rattle.transfers.specs.declared.pipes.PipeSample.{PipeSample}
use Rattle.transfers.specs.Memory.{log_fits, lent_fits}
use Rattle.transfers.specs.Registers.{bit}
use Rattle.transfers.specs.State.{address_good, endpoint_good, size_good}
use Rattle.transfers.specs.Pipes.{no_pipe, pool_of, open_number, open_index, open_free, open_if, opening_pipe, opening, index_open, close_index, closing_pipe, closing, poll_full, poll_if, polling_pipe, polling}
use Rattle.transfers.specs.Isolation.{is_some, is_open, held_of, Whole}
use Rattle.transfers.proofs.OpenPipes.{open_some}
use Rattle.rules.specs.PipeStates.{AfterOpen, AfterClose, AfterPacket, PipeStates}
use Rattle.transfers.specs.declared.pipes.Poll.TheVariants.{Packet, Waiting}

-- A pipe is open where the pool has handed its index out.
open_is : (p : BitSet) (n : PipeNumber) (at : PoolIndex) → Counted at n → is_open p n ≡ has p.0 at.0
unfolding index_open
open_is p n at c = rw (index_of_lem at n c) (by (has p.0 at.0))
  where
    by : (b : Bool) → is_some (cond b (Some at) None) ≡ b
    by true = refl
    by false = refl

-- The index of a pipe from 1 to 15.
abbrev index_at : PipeNumber → PoolIndex
index_at k = record { 0 = k.0 - offset }

counted_at : (k : PipeNumber) → 1 ≤ k.0 → k.0 ≤ 15 → Counted (index_at k) k
counted_at k h l = (omega arith, omega arith)

-- What is held of pipe n after a store at its index, and of another pipe.
held_stored : (p : BitSet) (each : List Pipe) (at : PoolIndex) (n : PipeNumber) (x : Pipe) → Counted at n → length each ≡ pipes
    → held_of (record { opened = p; each = set each at.0 x }) n ≡ x
held_stored p each at n x c h =
    let e : n.0 - offset ≡ at.0 = omega arith in
    ap (λ (i : ℕ). get_or (set each at.0 x) i no_pipe) e ∙ get_or-set_same each at.0 x no_pipe (omega arith)

held_other : (p : BitSet) (each : List Pipe) (at : PoolIndex) (n k : PipeNumber) (x : Pipe) → Counted at n → 1 ≤ k.0 → (k.0 ≡ n.0 → ⊥)
    → get_or each (k.0 - offset) no_pipe ≡ held_of (record { opened = p; each = set each at.0 x }) k
held_other p each at n k x c l ne = sym (get_or-set_other each at.0 (k.0 - offset) x no_pipe (λ e. ne (omega arith)))

-- ---- open

opens_at : (ps : Pipes) (size : ℕ) (at : PoolIndex) (n : PipeNumber) → length ps.each ≡ pipes → Counted at n → has ps.opened.0 at.0 ≡ false
    → AfterOpen n size ps (record { opened = record { 0 = insert ps.opened.0 at.0 }; each = set ps.each at.0 (record { size = size; toggle = false }) })
opens_at ps size at n w c out =
    let left : BitSet = record { 0 = insert ps.opened.0 at.0 } in
    let held = held_stored left ps.each at n (record { size = size; toggle = false }) c w in
    record {
      shut = open_is ps.opened n at c ∙ out;
      opened = open_is left n at c ∙ has_insert ps.opened.0 at.0 at.0 ∙ rw (lt-ltb at.0 32 (omega arith), eq-eqb at.0 at.0 refl, out);
      size = ap (λ x. x.size) held;
      toggle = ap (λ x. x.toggle) held;
      others = λ k l h ne.
          let o = held_other left ps.each at n k (record { size = size; toggle = false }) c l ne in
          let i = k.0 - offset in
          record {
            opened = open_is ps.opened k (index_at k) (counted_at k l h)
                ∙ sym (open_is left k (index_at k) (counted_at k l h) ∙ has_insert ps.opened.0 at.0 i
                ∙ rw (lt-ltb i 32 (omega arith), ne_eqb i at.0 (λ e. ne (omega arith))) (or-false (has ps.opened.0 i)));
            size = ap (λ x. x.size) o;
            toggle = ap (λ x. x.toggle) o;
          };
    }

opens : (d : Driver) (address : ℕ) (extras : TransferExtras) (endpoint size interval : ℕ) (log : List ℕ) (n : PipeNumber) → Whole d
    → (opening d address extras endpoint size interval log).answer ≡ Ok n
    → AfterOpen n size d.pipes (opening d address extras endpoint size interval log).next.pipes
unfolding opening_pipe open_free
opens d address extras endpoint size interval log n w = go (log_fits log) (address_good address) (endpoint_good endpoint) (size_good size)
  where
    number : (at : PoolIndex) → (alloc_of (pool_of d.pipes.opened)).index ≡ Some at → (o : Option PipeNumber) → pipe_of at ≡ o
        → (open_number o at (alloc_of (pool_of d.pipes.opened)).pool.allocated d.pipes address extras endpoint size interval).answer ≡ Ok n
        → AfterOpen n size d.pipes (open_number o at (alloc_of (pool_of d.pipes.opened)).pool.allocated d.pipes address extras endpoint size interval).next
    number at e None f s = absurd (let z : ◌≡◌ {A = ℕ} 0 1 = cc in omega arith)
    number at e (Some m) f s =
        let same : m ≡ n = cc in
        let a = alloc_some (pool_of d.pipes.opened) at e in
        rw a.0 (opens_at d.pipes size at n w (pipe_counted at n (f ∙ ap (λ k. Some k) same)) a.2)

    index : (o : Option PoolIndex) → (alloc_of (pool_of d.pipes.opened)).index ≡ o
        → (open_index o (alloc_of (pool_of d.pipes.opened)).pool.allocated d.pipes address extras endpoint size interval).answer ≡ Ok n
        → AfterOpen n size d.pipes (open_index o (alloc_of (pool_of d.pipes.opened)).pool.allocated d.pipes address extras endpoint size interval).next
    index None e s = absurd (let z : ◌≡◌ {A = ℕ} 0 1 = cc in omega arith)
    index (Some at) e s = number at e (pipe_of at) refl s

    go : (l a e f : Bool) → (open_if l a e f d.pipes address extras endpoint size interval).answer ≡ Ok n
        → AfterOpen n size d.pipes (open_if l a e f d.pipes address extras endpoint size interval).next
    go false a e f s = absurd (let z : ◌≡◌ {A = ℕ} 0 1 = cc in omega arith)
    go true false e f s = absurd (let z : ◌≡◌ {A = ℕ} 0 1 = cc in omega arith)
    go true true false f s = absurd (let z : ◌≡◌ {A = ℕ} 0 1 = cc in omega arith)
    go true true true false s = absurd (let z : ◌≡◌ {A = ℕ} 0 1 = cc in omega arith)
    go true true true true s = index (alloc_of (pool_of d.pipes.opened)).index refl s

-- ---- close

kept_member : (b : Bool) → (b && true) ≡ b
kept_member true = refl
kept_member false = refl

no_member : (b : Bool) → (b && false) ≡ false
no_member true = refl
no_member false = refl

closes_at : (ps : Pipes) (at : PoolIndex) (n : PipeNumber) → Counted at n × (has ps.opened.0 at.0 ≡ true)
    → AfterClose n ps (record { opened = record { 0 = remove ps.opened.0 at.0 }; each = ps.each })
closes_at ps at n (c, e) =
    let left : BitSet = record { 0 = remove ps.opened.0 at.0 } in
    record {
      opened = open_is ps.opened n at c ∙ e;
      shut = open_is left n at c ∙ has_remove ps.opened.0 at.0 at.0
          ∙ rw (lt-ltb at.0 32 (omega arith), eq-eqb at.0 at.0 refl) (no_member (has ps.opened.0 at.0));
      size = refl;
      toggle = refl;
      others = λ k l h ne.
          let i = k.0 - offset in
          record {
            opened = open_is ps.opened k (index_at k) (counted_at k l h)
                ∙ sym (open_is left k (index_at k) (counted_at k l h) ∙ has_remove ps.opened.0 at.0 i
                ∙ rw (lt-ltb i 32 (omega arith), ne_eqb i at.0 (λ q. ne (omega arith))) (kept_member (has ps.opened.0 i)));
            size = refl;
            toggle = refl;
          };
    }

closes : (d : Driver) (n : PipeNumber) → (closing d n).answer ≡ Ok tt → AfterClose n d.pipes (closing d n).next.pipes
unfolding closing_pipe free_of
closes d n = go (index_open d.pipes.opened n) refl
  where
    go : (o : Option PoolIndex) → index_open d.pipes.opened n ≡ o → (close_index o d.pipes).answer ≡ Ok tt → AfterClose n d.pipes (close_index o d.pipes).next
    go None f e = absurd (let z : ◌≡◌ {A = ℕ} 0 1 = cc in omega arith)
    go (Some at) f e = closes_at d.pipes at n (open_some d.pipes.opened n at f)

-- ---- poll

flips_at : (ps : Pipes) (at : PoolIndex) (n : PipeNumber) (s : PipeSample) (pm : List ℕ) → length ps.each ≡ pipes
    → Counted at n × (has ps.opened.0 at.0 ≡ true) → AfterPacket n ps (poll_full at ps n s pm).next
unfolding poll_full
flips_at ps at n s pm w (c, e) =
    let i : at.0 ≡ n.0 - offset = omega arith in
    let was : get_or ps.each at.0 no_pipe ≡ held_of ps n = ap (λ (j : ℕ). get_or ps.each j no_pipe) i in
    let held = held_stored ps.opened ps.each at n _ c w in
    record {
      opened = open_is ps.opened n at c ∙ e;
      still = open_is ps.opened n at c ∙ e;
      size = ap (λ x. x.size) held ∙ ap (λ x. x.size) was;
      toggle = ap (λ x. x.toggle) held ∙ ap (λ (x : Pipe). not x.toggle) was;
      others = λ k l h ne.
          let o = held_other ps.opened ps.each at n k _ c l ne in
          record { opened = refl; size = ap (λ x. x.size) o; toggle = ap (λ x. x.toggle) o };
    }

module _ (d : Driver) (n : PipeNumber) (s : PipeSample) (pm log : List ℕ) where
  flips : Whole d → (polling d n s pm log).answer ≡ Ok Packet → AfterPacket n d.pipes (polling d n s pm log).next.pipes
  unfolding polling_pipe
  flips w = go (lent_fits pm log) (index_open d.pipes.opened n) refl (bit 15 s.buffer)
    where
      go : (b : Bool) (o : Option PoolIndex) → index_open d.pipes.opened n ≡ o → (f : Bool) → (poll_if b o f d.pipes n s pm).answer ≡ Ok Packet
          → AfterPacket n d.pipes (poll_if b o f d.pipes n s pm).next
      go false o i f e = absurd (let z : ◌≡◌ {A = ℕ} 0 1 = cc in omega arith)
      go true None i f e = absurd (let z : ◌≡◌ {A = ℕ} 0 1 = cc in omega arith)
      go true (Some at) i false e = absurd (let z : ◌≡◌ {A = ℕ} 0 1 = cc in omega arith)
      go true (Some at) i true e = flips_at d.pipes at n s pm w (open_some d.pipes.opened n at i)

  waits_same : (polling d n s pm log).answer ≡ Ok Waiting → (polling d n s pm log).next.pipes ≡ d.pipes
  unfolding polling_pipe poll_full
  waits_same = go (lent_fits pm log) (index_open d.pipes.opened n) (bit 15 s.buffer)
    where
      go : (b : Bool) (o : Option PoolIndex) (f : Bool) → (poll_if b o f d.pipes n s pm).answer ≡ Ok Waiting → (poll_if b o f d.pipes n s pm).next ≡ d.pipes
      go false o f e = refl
      go true None f e = refl
      go true (Some at) false e = refl
      go true (Some at) true e = absurd (let z : ◌≡◌ {A = ℕ} 0 1 = cc in omega arith)

pub pipe_states : PipeStates
pipe_states = record {
  open_pipe = opens;
  close_pipe = λ d n w. closes d n;
  poll_packet = flips;
  poll_waiting = waits_same;
}
