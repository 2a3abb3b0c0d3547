-- How many writes each block has. Assumes nothing.
use Rattle.std.proofs.Common.{◌≡◌, ℕ, length, refl}
use Rattle.transfers.specs.declared.wire.Direction.{Direction}
use Rattle.transfers.specs.declared.writes.Target.{Target}
use Rattle.transfers.specs.Writes.{head_writes, enable_writes, go_writes}

pub head_five : (t : Target) (n : ℕ) → length (head_writes t n) ≡ 5
unfolding head_writes
head_five t n = refl

pub enable_three : (p n : ℕ) → length (enable_writes p n) ≡ 3
unfolding enable_writes
enable_three p n = refl

pub go_three : (d : Direction) → length (go_writes d) ≡ 3
unfolding go_writes
go_three d = refl
