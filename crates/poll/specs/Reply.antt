-- Document 02's numbers of what loading refuses.
use Rattle.std.specs.Prelude.{ℕ}
use Rattle.poll.specs.declared.refusal.Refusal.{Refusal}
use Rattle.poll.specs.declared.refusal.Refusal.TheVariants.{Format, Bounds}

-- A result, or a number.
pub data Reply (A : Type 0) : Type 0 where
  result : A → Reply A
  number : ℕ → Reply A

-- "28 a wrong mark, version or length", "29 any entry outside its bounds"
abbrev pub number_of : Refusal → ℕ
number_of Format = 28
number_of Bounds = 29
