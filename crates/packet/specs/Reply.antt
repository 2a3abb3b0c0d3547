-- "The answer to each public call .. is a result or one number" (term 1).
use Rattle.std.specs.Prelude.{ℕ}

-- A result, or a number.
pub data Reply (A : Type 0) : Type 0 where
  result : A → Reply A
  number : ℕ → Reply A
