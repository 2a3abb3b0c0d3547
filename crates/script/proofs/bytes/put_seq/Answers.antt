-- `put_seq` puts each byte of the rule.
-- Assumes nothing.
use Rattle.std.proofs.Common.{◌∙◌, arith}
use Rattle.script.proofs.Storing.{put_first, seq_length, seq_here}
use Rattle.script.proofs.bytes.put_seq.Goals as goal

pub returns : goal.returns
returns c =
    put_first c.args.out.now c.loop-i.byte-items _ c.args.n (grind arith) (seq_length c.args.start c.args.step 0 c.args.n) (grind arith)
    (λ k h. c.loop-i.invariant k (grind arith) ∙ seq_here c.args.start c.args.step c.args.n k h)
