-- The list of short groups, by their packets' lengths: up to 64 bytes, which one packet may have.
use Rattle.std.specs.Prelude.{Bool, cond, ◌&&◌, List, [], ◌∷◌, ◌++◌, ℕ, zero, suc, ◌-◌, ◌*◌, leb, replicate}

-- What f gives for i, i + 1, .., n of them.
unfoldable pub collect : ℕ → ℕ → (ℕ → List (List ℕ)) → List (List ℕ)
collect i zero f = []
collect i (suc n) f = f i ++ collect (suc i) n f

-- k packets of p bytes, and the rest of t bytes.
abbrev pub cut_at : ℕ → ℕ → ℕ → List ℕ
cut_at t k p = replicate k p ++ ((t - k * p) ∷ [])

-- "k packets .. of one length p .., then one marked packet of 0 to p bytes": t bytes can be cut so.
abbrev pub can_cut : ℕ → ℕ → ℕ → Bool
can_cut t k p = leb (k * p) t && leb (t - k * p) p

-- Such a group, where there is one.
abbrev pub of_size : ℕ → ℕ → ℕ → List (List ℕ)
of_size t k p = cond (can_cut t k p) (cut_at t k p ∷ []) []

-- The groups of t bytes with k unmarked packets.
abbrev pub of_count : ℕ → ℕ → List (List ℕ)
of_count t zero = (t ∷ []) ∷ []
of_count t (suc k) = collect 1 t (of_size t (suc k))

-- The groups of t bytes.
abbrev pub of_total : ℕ → List (List ℕ)
of_total t = collect 0 (suc t) (of_count t)

-- The groups of at most n bytes.
unfoldable pub groups_to : ℕ → List (List ℕ)
groups_to n = collect 0 (suc n) of_total
