-- Laws of lists. Assumes nothing.
use mathlib.Core.List.{List, [], ◌∷◌, ◌++◌}
use Prim.Native.Nat.{ℕ}
use Rattle.cutting.specs.Rules.{All}
use Rattle.transfers.specs.Log.{Write, wr}
use Rattle.transfers.specs.Apart.{Every}

pub all_append : {A : Type 0} (P : A → Type 0) (a b : List A) → All P a → All P b → All P (a ++ b)
all_append P [] b p q = q
all_append P (x ∷ a) b p q = (p.0, all_append P a b p.1 q)

pub every_append : (P : ℕ → ℕ → ℕ → Type 0) (a b : List Write) → Every P a → Every P b → Every P (a ++ b)
every_append P [] b p q = q
every_append P (wr r m v ∷ a) b p q = (p.0, every_append P a b p.1 q)
