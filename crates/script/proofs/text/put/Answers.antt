-- `put` copies a text that fits and leaves out one that doesn't.
-- Assumes nothing.
use Rattle.std.proofs.Common.{◌≡◌, ◌≤◌, ◌+◌, ◌-◌, ◌∙◌, ap, length, arith}
use lib.Seq.{sets}
use Rattle.pool.proofs.Stores.{put_sets}
use Rattle.script.proofs.Placing.{placed_there, placed_not}
use Rattle.script.proofs.text.put.Goals as goal

pub returns-in_default : goal.returns-in_default
returns-in_default c = placed_not c.args.out.now c.args.at c.args.text.now (grind arith)

pub returns : goal.returns
returns c =
    let out = c.args.out.now in
    let e : (c.args.at + length c.args.text.now ≤ length out) × (c.in-Some.end ≡ c.args.at + length c.args.text.now) = grind arith in
    placed_there out c.args.at c.args.text.now _ _ e.0 (put_sets c.args.at (c.in-Some.end - c.args.at) out c.copy_from_slice.new.self (omega arith) (omega arith) ∙ ap (sets out c.args.at) c.copy_from_slice.ensures.after) e.1
