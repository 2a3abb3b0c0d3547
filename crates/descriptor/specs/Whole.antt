-- The walk from position 0 to its last answer, each position the one after the descriptor found before it.
use Rattle.std.specs.Prelude.{◌≡◌, List, [], ◌∷◌, ◌++◌, ℕ, ◌+◌, ◌*◌, ◌≤◌, length, take, get_or}
use Rattle.descriptor.specs.Walk.{Walked, descriptor, endpoint, end, refused, total_of, walk_of, part_of}
use Rattle.descriptor.specs.Answers.{Accepted, Begins}

-- ---- descriptors one after another, without the walk

-- It "begins with a byte-wide field that contains the total number of bytes in the descriptor" (section 9.5); an endpoint's, of type 5, has at least 7 (table 9-13).
pub record IsDescriptor (p : List ℕ) : Type 0 where
  pub begins : Begins p
  pub endpoint_length : get_or p 1 0 ≡ 5 → 7 ≤ length p

-- Each of a list is one.
abbrev pub AllDescriptors : List (List ℕ) → Type 0
AllDescriptors [] = Unit {0}
AllDescriptors (p ∷ ps) = IsDescriptor p × AllDescriptors ps

-- Their bytes, one after the other.
abbrev pub joined : List (List ℕ) → List ℕ
joined [] = []
joined (p ∷ ps) = p ++ joined ps

-- ---- the walk

-- The answer hands the descriptor p back.
abbrev pub Hands : Walked → List ℕ → Type 0
Hands (descriptor q) p = q ≡ p
Hands (endpoint q e) p = q ≡ p
Hands end p = ⊥
Hands (refused n) p = ⊥

-- The answer hands no descriptor back.
abbrev pub Last : Walked → Type 0
Last (descriptor q) = ⊥
Last (endpoint q e) = ⊥
Last end = Unit {0}
Last (refused n) = Unit {0}

-- What `descriptor_at` hands out: the descriptor's bytes, and none where the answer hands none back.
pub record OnePart : Type 0 where
  pub handed : (w : Walked) (p : List ℕ) → Hands w p → part_of w ≡ p
  pub none : (w : Walked) → Last w → part_of w ≡ []

-- From a position on the walk finds these descriptors and then has this last answer.
abbrev pub Finds : List ℕ → ℕ → List (List ℕ) → Walked → Type 0
Finds b at [] w = (walk_of b at ≡ w) × Last w
Finds b at (p ∷ ps) w = Hands (walk_of b at) p × Finds b (at + length p) ps w

-- A whole walk over the bytes b.
pub record WalkOver (b : List ℕ) : Type 0 where
  pub found : List (List ℕ)
  pub last : Walked
  pub finds : Finds b 0 found last

-- What is true of the walk over any bytes.
pub record WholeWalk : Type 0 where
  -- Every walk comes to a last answer, ..
  pub walk : (b : List ℕ) → WalkOver b
  -- .. which is one, as are the descriptors found.
  pub one : (b : List ℕ) (x y : WalkOver b) → (x.found ≡ y.found) × (x.last ≡ y.last)
  -- There are at most half as many descriptors as wTotalLength says bytes.
  pub few : (b : List ℕ) (x : WalkOver b) → 2 * length x.found ≤ total_of b
  -- Each begins with its own length, at least 2, an endpoint's at least 7.
  pub each : (b : List ℕ) (x : WalkOver b) → AllDescriptors x.found
  -- One after the other they are the first bytes ..
  pub first : (b : List ℕ) (x : WalkOver b) → joined x.found ≡ take (length (joined x.found)) b
  -- .. and, where the walk comes to the end, the first wTotalLength bytes.
  pub whole : (b : List ℕ) (x : WalkOver b) → x.last ≡ end → joined x.found ≡ take (total_of b) b
  -- A walk that refuses does so at the position after all that it found.
  pub refuses : (b : List ℕ) (x : WalkOver b) (n : ℕ) → x.last ≡ refused n → walk_of b (length (joined x.found)) ≡ refused n
  -- Whatever descriptors the configuration begins with, the walk finds them, in order, whether or not it refuses later.
  pub before : (b : List ℕ) (x : WalkOver b) (ps : List (List ℕ)) (rest : List ℕ) → Accepted b → AllDescriptors ps
      → take (total_of b) b ≡ joined ps ++ rest → take (length ps) x.found ≡ ps
  -- Where the configuration is made of descriptors, the walk finds these and comes to the end.
  pub every : (b : List ℕ) (x : WalkOver b) (ps : List (List ℕ)) → Accepted b → AllDescriptors ps
      → take (total_of b) b ≡ joined ps → (x.found ≡ ps) × (x.last ≡ end)
