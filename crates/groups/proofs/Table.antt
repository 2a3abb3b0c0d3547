-- How much of the list for 6 each n takes: tests that antt computes. Assumes nothing.
use mathlib.Core.Path.{◌≡◌, refl}
use mathlib.Core.List.{List, [], ◌∷◌}
use Prim.Native.Nat.{ℕ, zero, suc, ◌≤◌}
use native.Mathlib.Omega.{arith}
use lib.ListN.{length, take, get_or}
use Rattle.groups.specs.Groups.{collect, groups_to}
use Rattle.groups.specs.Listing.{bytes_of, list_bytes}

-- The list for n is the first part of that for 6.
pub is_prefix : (n : ℕ) → n ≤ 6 → take (length (list_bytes n)) (list_bytes 6) ≡ list_bytes n
unfolding groups_to collect bytes_of
is_prefix zero h = refl
is_prefix (suc zero) h = refl
is_prefix (suc (suc zero)) h = refl
is_prefix (suc (suc (suc zero))) h = refl
is_prefix (suc (suc (suc (suc zero)))) h = refl
is_prefix (suc (suc (suc (suc (suc zero))))) h = refl
is_prefix (suc (suc (suc (suc (suc (suc zero)))))) h = refl
is_prefix (suc (suc (suc (suc (suc (suc (suc n))))))) h = absurd (omega arith)

-- Where each ends.
abbrev ends : List ℕ
ends = 2 ∷ 7 ∷ 19 ∷ 36 ∷ 62 ∷ 90 ∷ 132 ∷ []

pub end_is : (n : ℕ) → n ≤ 6 → (get_or ends n 0 ≡ length (list_bytes n)) × (get_or ends n 0 ≤ 132)
unfolding groups_to collect bytes_of
end_is zero h = (refl, omega arith)
end_is (suc zero) h = (refl, omega arith)
end_is (suc (suc zero)) h = (refl, omega arith)
end_is (suc (suc (suc zero))) h = (refl, omega arith)
end_is (suc (suc (suc (suc zero)))) h = (refl, omega arith)
end_is (suc (suc (suc (suc (suc zero))))) h = (refl, omega arith)
end_is (suc (suc (suc (suc (suc (suc zero)))))) h = (refl, omega arith)
end_is (suc (suc (suc (suc (suc (suc (suc n))))))) h = absurd (omega arith)
