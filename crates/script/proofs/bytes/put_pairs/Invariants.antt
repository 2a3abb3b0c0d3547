-- `put_pairs` puts the byte of each pair.
-- Assumes nothing.
use Rattle.std.proofs.Common.{◌≡◌, ◌<◌, ℕ, get_or}
use Rattle.script.specs.Bytes.{pairs_of}
use Rattle.script.proofs.bytes.put_pairs.Given as goal

abbrev pub invariant-loop-i : goal.invariant-loop-i
invariant-loop-i l = (k : ℕ) → k < l.i → get_or l.byte-items k 0 ≡ get_or (pairs_of l.pairs.digits.now) k 0
