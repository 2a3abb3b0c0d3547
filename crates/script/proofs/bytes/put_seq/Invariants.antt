-- `put_seq` puts each byte of the rule.
-- Assumes nothing.
use Rattle.std.proofs.Common.{◌≡◌, ◌<◌, ℕ, get_or}
use Rattle.script.specs.Bytes.{seq_at}
use Rattle.script.proofs.bytes.put_seq.Given as goal

abbrev pub invariant-loop-i : goal.invariant-loop-i
invariant-loop-i l = (k : ℕ) → k < l.i → get_or l.byte-items k 0 ≡ seq_at l.start l.step k
