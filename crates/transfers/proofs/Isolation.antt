-- A poll of a pipe sees nothing of the other pipes. Assumes nothing.
use Rattle.std.proofs.Common.{◌≡◌, ℕ, ◌-◌, ◌≤◌, Bool, true, false, cond, not, ◌&&◌, eqb, leb, List, ◌++◌, length, get_or, take, drop, set, replicate, sym, refl, ap, ◌∙◌, ap₂, arith, get_or-set_same, take-take, None, Option, Some}
use Rattle.pool.specs.declared.bitset.BitSet.{BitSet}
use Rattle.pool.specs.declared.async_pool.PoolIndex.{PoolIndex}
use Rattle.pool.specs.declared.pipe.PipeNumber.{PipeNumber}
use Rattle.pool.specs.Set.{has}
use Rattle.pool.specs.Pipe.{offset, pipes, index_of, Counted}
use Rattle.transfers.specs.declared.driver.Pipes.{Pipes}
use Rattle.transfers.specs.declared.driver.Pipe.{Pipe}
use Rattle.transfers.specs.declared.pipes.PipeSample.{PipeSample}
use Rattle.transfers.specs.Memory.{lent_fits, MemoryFits}
use Rattle.transfers.specs.Registers.{bit}
use Rattle.transfers.specs.Pipes.{no_pipe, pipe_area, arm_pipe, handed_out, index_open, packet_size, packet_data, packet_with, Polling, poll_full, poll_if, polling_pipe}
use Rattle.transfers.specs.Isolation.{is_some, is_open, held_of, SamePipe, SameLent, Isolated}
use Rattle.transfers.proofs.OpenPipes.{lent_sizes, open_some}

-- Pools that agree on pipe n give it the same index.
same_index : (n : PipeNumber) (p p' : BitSet) → is_open p n ≡ is_open p' n → index_open p n ≡ index_open p' n
unfolding index_open
same_index n p p' = go (index_of n)
  where
    by : (i : PoolIndex) (b b' : Bool) → is_some (cond b (Some i) None) ≡ is_some (cond b' (Some i) None)
        → cond b (Some i) None ≡ cond b' (Some i) None
    by i true true e = refl
    by i true false e = absurd (let z : ◌≡◌ {A = ℕ} 0 1 = cc in omega arith)
    by i false true e = absurd (let z : ◌≡◌ {A = ℕ} 0 1 = cc in omega arith)
    by i false false e = refl

    go : (o : Option PoolIndex) → is_some (handed_out p o) ≡ is_some (handed_out p' o) → handed_out p o ≡ handed_out p' o
    go None e = refl
    go (Some i) e = by i (has p.0 i.0) (has p'.0 i.0) e

-- At most 64 bytes of the area are looked at.
same_data : (pm pm' : List ℕ) (n k : ℕ) → k ≤ 64 → take 64 (drop (pipe_area n) pm) ≡ take 64 (drop (pipe_area n) pm')
    → packet_data pm n k ≡ packet_data pm' n k
unfolding packet_data
same_data pm pm' n k h e =
    ap (λ (l : List ℕ). l ++ replicate (64 - k) 0)
    (sym (take-take k 64 (drop (pipe_area n) pm) h) ∙ ap (take k) e ∙ take-take k 64 (drop (pipe_area n) pm') h)

-- What is held of pipe n after a store at its index.
held_after : (p : BitSet) (each : List Pipe) (at : PoolIndex) (n : PipeNumber) (x : Pipe) → Counted at n → length each ≡ pipes
    → held_of (record { opened = p; each = set each at.0 x }) n ≡ x
held_after p each at n x c h =
    let e : n.0 - offset ≡ at.0 = omega arith in
    ap (λ (i : ℕ). get_or (set each at.0 x) i no_pipe) e ∙ get_or-set_same each at.0 x no_pipe (omega arith)

module _ (n : PipeNumber) (s : PipeSample) (ps ps' : Pipes) (pm pm' log log' : List ℕ)
    (w : length ps.each ≡ pipes) (w' : length ps'.each ≡ pipes) (same : SamePipe n ps ps') (lent : SameLent n pm pm' log log') where
  record Like (e e' : Polling Pipes) : Type 0 where
    pub answer : e.answer ≡ e'.answer
    pub packet : e.packet ≡ e'.packet
    pub writes : e.writes ≡ e'.writes
    pub next : SamePipe n e.next e'.next

  full : (at : PoolIndex) → Counted at n → MemoryFits pm → Like (poll_full at ps n s pm) (poll_full at ps' n s pm')
  unfolding poll_full
  full at c h =
      let e : n.0 - offset ≡ at.0 = omega arith in
      let size = ap (λ (i : ℕ). (get_or ps.each i no_pipe).size) (sym e) ∙ same.size ∙ ap (λ (i : ℕ). (get_or ps'.each i no_pipe).size) e in
      let toggle = ap (λ (i : ℕ). (get_or ps.each i no_pipe).toggle) (sym e) ∙ same.toggle ∙ ap (λ (i : ℕ). (get_or ps'.each i no_pipe).toggle) e in
      let after = held_after ps.opened ps.each at n _ c w in
      let after' = held_after ps'.opened ps'.each at n _ c w' in
      record {
        answer = refl;
        packet = ap (packet_with s) (same_data pm pm' n.0 (packet_size s.buffer) (omega arith) (lent.area h));
        writes = ap₂ (λ (t : Bool) (p : ℕ). arm_pipe n.0 (not t) p) toggle size;
        next = record {
          opened = same.opened;
          size = ap (λ x. x.size) after ∙ size ∙ sym (ap (λ x. x.size) after');
          toggle = ap (λ x. x.toggle) after ∙ ap not toggle ∙ sym (ap (λ x. x.toggle) after');
        };
      }

  like : (b : Bool) (o : Option PoolIndex) (f : Bool) → lent_fits pm log ≡ b → index_open ps.opened n ≡ o → Like (poll_if b o f ps n s pm) (poll_if b o f ps' n s pm')
  like false o f u e = record { answer = refl; packet = refl; writes = refl; next = same }
  like true None f u e = record { answer = refl; packet = refl; writes = refl; next = same }
  like true (Some at) false u e = record { answer = refl; packet = refl; writes = refl; next = same }
  like true (Some at) true u e = full at (open_some ps.opened n at e).0 (lent_sizes pm log u).0

pub isolated : Isolated
unfolding polling_pipe
isolated n s d d' pm pm' log log' w w' same lent =
    let u = ap₂ (λ (x y : ℕ). eqb x 4096 && leb 192 y) lent.bytes lent.words in
    let e = same_index n d.pipes.opened d'.pipes.opened same.opened in
    let l = like n s d.pipes d'.pipes pm pm' log log' w w' same lent (lent_fits pm log) (index_open d.pipes.opened n) (bit 15 s.buffer) refl refl in
    rw (← u, ← e) (record { answer = l.answer; packet = l.packet; writes = l.writes; next = l.next })
