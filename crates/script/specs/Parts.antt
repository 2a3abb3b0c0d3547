-- "Fields separated by one space": a text's parts between separators. A part may be empty.
use Rattle.std.specs.Prelude.{Bool, true, false, cond, ◌&&◌, List, [], ◌∷◌, ℕ, zero, suc, ◌+◌, eqb}

-- The bytes before the first separator.
unfoldable pub up_to : ℕ → List ℕ → List ℕ
up_to sep [] = []
up_to sep (b ∷ bs) = cond (eqb b sep) [] (b ∷ up_to sep bs)

-- The bytes after the first separator, none where there is no separator.
unfoldable pub past : ℕ → List ℕ → List ℕ
past sep [] = []
past sep (b ∷ bs) = cond (eqb b sep) bs (past sep bs)

-- Part number k, counted from 0; past the last one it is empty.
unfoldable pub part_of : ℕ → List ℕ → ℕ → List ℕ
part_of sep text zero = up_to sep text
part_of sep text (suc k) = part_of sep (past sep text) k

-- How many parts there are: one more than separators.
unfoldable pub parts_of : ℕ → List ℕ → ℕ
parts_of sep [] = 1
parts_of sep (b ∷ bs) = cond (eqb b sep) 1 0 + parts_of sep bs

-- "Fields separated by one space": a line's field number k.
abbrev pub field_of : List ℕ → ℕ → List ℕ
field_of line k = part_of 32 line k

-- How many fields a line has.
abbrev pub fields_of : List ℕ → ℕ
fields_of line = parts_of 32 line

-- What stands after a line's first field.
abbrev pub after_field : List ℕ → List ℕ
after_field line = past 32 line

-- Two texts are the same.
unfoldable pub same_text : List ℕ → List ℕ → Bool
same_text [] [] = true
same_text [] (y ∷ b) = false
same_text (x ∷ a) [] = false
same_text (x ∷ a) (y ∷ b) = eqb x y && same_text a b
