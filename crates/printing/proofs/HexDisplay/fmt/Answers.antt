-- One byte more. Assumes nothing.
use Rattle.std.proofs.Common.{rules, false, ap, ◌++◌, ◌∙◌, take, flat_map, get_or}
use Rattle.std.proofs.lemmas.Fmt.{hex_byte}
use Rattle.std.proofs.Output.{has_written_append, has_written_of_eq}
use Rattle.printing.specs.Hex.{two_digits}
use Rattle.printing.proofs.Digits.{digits_more}
use Rattle.printing.proofs.HexDisplay.fmt.Goals as goal

pub loop-b-preserved : goal.loop-b-preserved
loop-b-preserved g c p =
    let bs = c.args.self.now.0.now in
    let i = c.loop-b.b-index in
    has_written_of_eq _ _ _ _ _
    (ap (λ t. flat_map two_digits (take i bs) ++ t) (hex_byte false (get_or bs i 0) (search rules)) ∙ digits_more bs i 0 (search rules))
    (has_written_append _ _ _ _ _ _ (c.loop-b.invariant p) (search rules))
