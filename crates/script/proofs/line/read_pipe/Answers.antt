-- The last arm of `read_pipe`: the word is none of the others.
-- Assumes nothing.
use Rattle.std.proofs.Common.{◌≡◌, false, arith}
use Rattle.script.specs.Lines.{pipe_of, word_open, word_close, word_poll, word_irq, word_detect}
use Rattle.script.specs.Parts.{same_text}
use Rattle.script.proofs.Walks.{same_reads}
use Rattle.std.proofs.Math.Bool.{and-false}
use Rattle.script.proofs.line.read_pipe.Goals as goal

pub returns-in_default : goal.returns-in_default
unfolding pipe_of
returns-in_default c =
    let w = c.args.word.now in
    let is_open : same_text w word_open ≡ false = grind (arith, same_reads w word_open, and-false) in
    let is_close : same_text w word_close ≡ false = grind (arith, same_reads w word_close, and-false) in
    let is_poll : same_text w word_poll ≡ false = grind (arith, same_reads w word_poll, and-false) in
    let is_irq : same_text w word_irq ≡ false = grind (arith, same_reads w word_irq, and-false) in
    let is_detect : same_text w word_detect ≡ false = grind (arith, same_reads w word_detect, and-false) in
    simp (is_open, is_close, is_poll, is_irq, is_detect) c.read_alone.ensures
