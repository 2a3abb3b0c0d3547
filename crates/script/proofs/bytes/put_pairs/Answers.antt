-- `put_pairs` puts the byte of each pair.
-- Assumes nothing.
use Rattle.std.proofs.Common.{◌≡◌, ◌∙◌, sym, List, ℕ, length, arith}
use Rattle.script.specs.Bytes.{pairs_of}
use Rattle.script.proofs.Storing.{put_first, pairs_length}
use Rattle.script.proofs.bytes.put_pairs.Goals as goal

pub returns : goal.returns
returns c =
    let vs : List ℕ = pairs_of c.args.pairs.now.digits.now in
    let n : c.len-n.result ≡ length vs = c.len-n.ensures ∙ sym (pairs_length c.args.pairs.now.digits.now) in
    (n, put_first c.args.out.now c.loop-i.byte-items vs c.len-n.result (grind arith) (sym n) (omega (arith, n)) (λ k h. c.loop-i.invariant k (grind arith)))
