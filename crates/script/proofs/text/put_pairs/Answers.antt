-- `put_pairs` puts `-` for no bytes, and else two digits a byte.
-- Assumes nothing.
use Rattle.std.proofs.Common.{◌≡◌, ◌≤◌, ◌+◌, ◌*◌, ◌∙◌, ap, sym, length, arith}
use lib.Seq.{sets}
use Rattle.script.proofs.Placing.{placed_there, placed_not, pairs_none, pairs_some, pairs_length}
use Rattle.script.proofs.text.put_pairs.Goals as goal

pub returns-then-is_empty : goal.returns-then-is_empty
returns-then-is_empty c = rw (pairs_none c.args.bytes.now (grind arith)) c.put.ensures

pub returns-in_default : goal.returns-in_default
returns-in_default c =
    let n = pairs_length c.args.bytes.now (grind arith) in
    placed_not c.args.out.now c.args.at _ (rw n (grind arith))

pub returns : goal.returns
returns c =
    let bytes = c.args.bytes.now in
    let n = pairs_length bytes (grind arith) in
    let e : (c.args.at + 2 * length bytes ≤ length c.args.out.now) × (c.in-Some.end ≡ c.args.at + 2 * length bytes) = grind arith in
    placed_there c.args.out.now c.args.at _ _ _ (rw n e.0) (c.put_bytes.ensures ∙ ap (sets c.args.out.now c.args.at) (sym (pairs_some bytes (grind arith)))) (rw n e.1)
