-- `value` is `value_of`. The invariant: the digits passed spell n, and n is at most `most`.
-- Assumes nothing.
use Rattle.std.proofs.Common.{◌≡◌, ◌<◌, get_or, sym, arith}
use Rattle.script.specs.Numbers.{digit_of}
use Rattle.script.proofs.Spelling.{spelt_more}
use Rattle.script.proofs.number.value.Goals as goal

pub loop-b-preserved : goal.loop-b-preserved
loop-b-preserved c =
    let d : (c.in_ok-n.field-0 ≡ digit_of (get_or c.args.digits.now c.loop-b.b-index 0)) × (c.in_ok-n.field-0 < c.args.base) = grind arith in
    rw d.0 (spelt_more c.args.base c.args.most c.args.digits.now c.loop-b.n c.loop-b.b-index c.loop-b.invariant c.loop-b-test.true (rw (sym d.0) d.1) (rw (sym d.0) (omega arith)))
