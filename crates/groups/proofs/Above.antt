-- A limit above 6 is refused with 35. Assumes nothing.
use Rattle.std.specs.Prelude.{Err}
use Prim.Native.Nat.{ℕ, ◌<◌}
use mathlib.Core.List.{List}
use borrow.Author.Tests.{lt-leb}
use Rattle.groups.specs.declared.Refusal.TheVariants.{Limit}
use Rattle.groups.specs.Listing.{Listed}

pub above_limit : (n : ℕ) (out : List ℕ) → 6 < n → Listed n out (Err Limit) out
above_limit n out h = record { answer = rw (lt-leb _ _ h); bytes = rw (lt-leb _ _ h) }
