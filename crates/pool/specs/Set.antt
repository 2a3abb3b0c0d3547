-- What a set of the numbers 0 to 31 is, and what each call on one answers.
use Rattle.std.specs.Prelude.{ℕ, zero, suc, ◌+◌, ◌*◌, ◌/◌, ◌%◌, ◌^◌, Bool, cond, not, ◌&&◌, ◌||◌, eqb, ltb, None, Option, Some}
use Rattle.pool.specs.declared.bitset.BitSet.{BitSet}
use Rattle.pool.specs.declared.bitset.Taken.{Taken}

-- n is a member of the set s: bit n of the word is 1.
unfoldable pub has : ℕ → ℕ → Bool
has s n = eqb (s / 2 ^ n % 2) 1

-- The set of the numbers below k at which f holds.
unfoldable pub set_of : ℕ → (ℕ → Bool) → ℕ
set_of zero f = 0
set_of (suc k) f = cond (f 0) 1 0 + 2 * set_of k (λ n. f (suc n))

-- The set s with the number n, if n is one of 0 to 31.
unfoldable pub insert : ℕ → ℕ → ℕ
insert s n = set_of 32 (λ k. has s k || eqb k n)

-- The set s without the number n.
unfoldable pub remove : ℕ → ℕ → ℕ
remove s n = set_of 32 (λ k. has s k && not (eqb k n))

-- The lowest of the n numbers from k on at which f holds, k + n where it holds at none.
unfoldable pub first_where : ℕ → ℕ → (ℕ → Bool) → ℕ
first_where zero k f = k
first_where (suc n) k f = cond (f k) k (first_where n (suc k) f)

-- The lowest clear bit of 32, 32 where all are set.
unfoldable pub lowest_out : ℕ → ℕ
lowest_out s = first_where 32 0 (λ k. not (has s k))

-- The number n where it is one of 0 to 31.
unfoldable pub option_of : ℕ → Option ℕ
option_of n = cond (ltb n 32) (Some n) None

-- set_any takes the lowest clear bit; a full set stays as it is.
unfoldable pub set_any_of : BitSet → Taken
set_any_of s = record { set = record { 0 = insert s.0 (lowest_out s.0) }; number = option_of (lowest_out s.0) }
