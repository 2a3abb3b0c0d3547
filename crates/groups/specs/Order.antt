-- The order of groups: "by total bytes, then by number of packets, then by the first length that differs, smaller first".
use Rattle.std.specs.Prelude.{◌≡◌, ◌⊎◌, List, [], ◌∷◌, ℕ, ◌+◌, ◌<◌, length}

-- The bytes of packets of these lengths.
abbrev pub total : List ℕ → ℕ
total [] = 0
total (x ∷ l) = x + total l

-- "by the first length that differs, smaller first"
abbrev pub Smaller : List ℕ → List ℕ → Type 0
Smaller [] h = ⊥
Smaller (x ∷ g) [] = ⊥
Smaller (x ∷ g) (y ∷ h) = (x < y) ⊎ ((x ≡ y) × Smaller g h)

-- "by number of packets, then .."
abbrev pub Fewer : List ℕ → List ℕ → Type 0
Fewer g h = (length g < length h) ⊎ ((length g ≡ length h) × Smaller g h)

-- "by total bytes, then .."
abbrev pub Before : List ℕ → List ℕ → Type 0
Before g h = (total g < total h) ⊎ ((total g ≡ total h) × Fewer g h)

-- It stands in a list.
abbrev pub In : List ℕ → List (List ℕ) → Type 0
In g [] = ⊥
In g (h ∷ gs) = (g ≡ h) ⊎ In g gs

-- Each stands before all that follow it, so none stands there twice.
abbrev pub Ordered : List (List ℕ) → Type 0
Ordered [] = Unit {0}
Ordered (g ∷ gs) = ((h : List ℕ) → In h gs → Before g h) × Ordered gs
