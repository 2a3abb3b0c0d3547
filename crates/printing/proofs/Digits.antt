-- Bytes as digits, byte by byte. Assumes nothing.
use Rattle.std.proofs.Common.{◌≡◌, ℕ, List, [], ◌+◌, ◌++◌, ◌<◌, length, take, get_or, flat_map, sym, ◌∙◌, ap}
use Rattle.std.proofs.lemmas.List.{take_more, flat_map_more}
use Rattle.printing.specs.Hex.{two_digits}

pub digits_more : (bs : List ℕ) (i d : ℕ) → i < length bs → flat_map two_digits (take i bs) ++ two_digits (get_or bs i d) ≡ flat_map two_digits (take (i + 1) bs)
digits_more bs i d lt = flat_map_more two_digits [] (take i bs) (get_or bs i d) ∙ ap (flat_map two_digits) (sym (take_more bs i d lt))
