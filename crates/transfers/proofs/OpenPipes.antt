-- Laws of the interrupt pipes that the proofs of open, close and poll cite. Assumes nothing.
use Rattle.std.proofs.Common.{◌≡◌, ℕ, zero, suc, ◌+◌, ◌-◌, ◌≤◌, Bool, true, false, cond, ◌&&◌, leb, List, ◌++◌, length, take, drop, replicate, sym, refl, ap, ◌∙◌, true≢false, arith, length-drop, length-take-le, eqb-true, leb-true, None, Option, Some}
use lib.Seq.{sets, sets-eq}
use Rattle.pool.specs.declared.bitset.BitSet.{BitSet}
use Rattle.pool.specs.declared.async_pool.PoolIndex.{PoolIndex}
use Rattle.pool.specs.declared.pipe.PipeNumber.{PipeNumber}
use Rattle.pool.specs.Set.{has}
use Rattle.pool.specs.Pipe.{index_of, Counted}
use Rattle.pool.proofs.Pipes.{index_counted}
use Rattle.transfers.specs.Memory.{memory_fits, log_fits, lent_fits, MemoryFits, LogFits}
use Rattle.transfers.specs.Pipes.{pipe_area, packet_data, handed_out, index_open}

-- A number within bounds.
pub between : (lo x hi : ℕ) → (leb lo x && leb x hi) ≡ true → (lo ≤ x) × (x ≤ hi)
between lo x hi = go (leb lo x) (leb x hi) refl refl
  where
    go : (a b : Bool) → leb lo x ≡ a → leb x hi ≡ b → (a && b) ≡ true → (lo ≤ x) × (x ≤ hi)
    go true true p q e = (leb-true lo x p, leb-true x hi q)
    go true false p q e = absurd (true≢false (sym e))
    go false b p q e = absurd (true≢false (sym e))

abbrev pub zeros : ℕ → List ℕ
zeros n = replicate n 0

drop_zeros : (n k : ℕ) → drop k (zeros n) ≡ zeros (n - k)
drop_zeros n zero = let e : n ≡ n - 0 = omega arith in ap zeros e
drop_zeros zero (suc k) = let e : 0 ≡ 0 - suc k = omega arith in ap zeros e
drop_zeros (suc n) (suc k) = let e : n - k ≡ suc n - suc k = omega arith in drop_zeros n k ∙ ap zeros e

-- The bytes copied to the front of a packet of zeros.
pub copied : (pm : List ℕ) (n k : ℕ) → k ≤ 64 → pipe_area n + k ≤ length pm → sets (zeros 64) 0 (take k (drop (pipe_area n) pm)) ≡ packet_data pm n k
unfolding packet_data
copied pm n k h room =
    let len : 0 + length (take k (drop (pipe_area n) pm)) ≡ k =
    omega (arith, length-take-le k (drop (pipe_area n) pm) (omega (arith, length-drop (pipe_area n) pm))) in
    sets-eq (take k (drop (pipe_area n) pm)) (zeros 64) 0 (omega arith)
    ∙ ap (λ (m : ℕ). take k (drop (pipe_area n) pm) ++ drop m (zeros 64)) len
    ∙ ap (λ (r : List ℕ). take k (drop (pipe_area n) pm) ++ r) (drop_zeros 64 k)

pub lent_sizes : (pm log : List ℕ) → lent_fits pm log ≡ true → MemoryFits pm × LogFits log
lent_sizes pm log = go (memory_fits pm) (log_fits log) refl refl
  where
    go : (a b : Bool) → memory_fits pm ≡ a → log_fits log ≡ b → (a && b) ≡ true → MemoryFits pm × LogFits log
    go true true p q e = (eqb-true (length pm) 4096 p, leb-true 192 (length log) q)
    go true false p q e = absurd (true≢false (sym e))
    go false b p q e = absurd (true≢false (sym e))

-- A pipe that is open has a number from 1 to 15, and the pool has handed its index out.
pub open_some : (p : BitSet) (n : PipeNumber) (at : PoolIndex) → index_open p n ≡ Some at
    → Counted at n × (has p.0 at.0 ≡ true)
unfolding index_open
open_some p n at = go (index_of n) refl
  where
    held : (i : PoolIndex) (b : Bool) → has p.0 i.0 ≡ b → index_of n ≡ Some i
        → cond b (Some i) None ≡ Some at → Counted at n × (has p.0 at.0 ≡ true)
    held i true h f e =
        let same : i ≡ at = cc in
        (index_counted at n (f ∙ ap (λ j. Some j) same), ap (λ (j : PoolIndex). has p.0 j.0) (sym same) ∙ h)
    held i false h f e = absurd (let z : ◌≡◌ {A = ℕ} 0 1 = cc in omega arith)

    go : (o : Option PoolIndex) → index_of n ≡ o → handed_out p o ≡ Some at → Counted at n × (has p.0 at.0 ≡ true)
    go (Some i) f e = held i (has p.0 i.0) refl f e
    go None f e = absurd (let z : ◌≡◌ {A = ℕ} 0 1 = cc in omega arith)
