-- Laws of the set of pipes to wake. Assumes nothing.
use Rattle.std.proofs.Common.{◌≡◌, ℕ, zero, suc, ◌+◌, ◌*◌, ◌^◌, ◌<◌, ◌≤◌, Bool, true, false, cond, refl, ap, ◌∙◌, pow-suc, arith, le-ltb, lt-ltb}
use Rattle.pool.specs.Set.{has, set_of}
use Rattle.pool.proofs.Sets.{has_set_of}
use Rattle.transfers.specs.Registers.{weigh}
use Rattle.transfers.specs.Irq.{irq_pipes, is_woken, woken_pipes}

twice : (b : Bool) (x : ℕ) → weigh b (x * 2) ≡ 2 * weigh b x
twice true x = omega arith
twice false x = refl

-- A set of the numbers up to k: that of the numbers below k, and k.
pub set_of_last : (k : ℕ) (f : ℕ → Bool) → set_of (suc k) f ≡ set_of k f + weigh (f k) (2 ^ k)
unfolding set_of
set_of_last zero f = go (f 0)
  where
    go : (b : Bool) → cond b 1 0 + 2 * 0 ≡ 0 + weigh b 1
    go true = refl
    go false = refl
set_of_last (suc k) f =
    let e = ap (weigh (f (suc k))) (pow-suc 2 k) ∙ twice (f (suc k)) (2 ^ k) in
    omega (arith, set_of_last k (λ n. f (suc n)), e)

-- "The interrupt routine now looks at 0 to 15": bit i of the set says whether pipe i is to be woken, and no other bit is set.
pub woken : (ints status i : ℕ) → i < irq_pipes → has (woken_pipes ints status) i ≡ is_woken ints status i
unfolding woken_pipes
woken ints status i h = has_set_of irq_pipes (is_woken ints status) i ∙ rw (lt-ltb i irq_pipes h)

pub not_woken : (ints status i : ℕ) → irq_pipes ≤ i → has (woken_pipes ints status) i ≡ false
unfolding woken_pipes
not_woken ints status i h = has_set_of irq_pipes (is_woken ints status) i ∙ rw (le-ltb i irq_pipes h)
