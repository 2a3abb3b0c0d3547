-- A table's file: "the mark `PIT`, version 1 as 16 bits, low byte first, and 256 bytes".
use Rattle.std.specs.Prelude.{Bool, true, cond, ◌&&◌, List, [], ◌∷◌, ℕ, suc, ◌+◌, ◌*◌, eqb, leb, length, drop, get_or}
use Rattle.poll.specs.Reply.{Reply, result, number}

-- "the mark `PIT`"
abbrev pub is_mark : ℕ → ℕ → ℕ → Bool
is_mark a b c = eqb a 0x50 && (eqb b 0x49 && eqb c 0x54)

-- The mark, then a version "as 16 bits, low byte first".
unfoldable pub headed : ℕ → List ℕ → Bool
headed v f = leb 5 (length f) && (is_mark (get_or f 0 0) (get_or f 1 0) (get_or f 2 0) && eqb (get_or f 3 0 + get_or f 4 0 * 256) v)

-- ".. version 1 .., and 256 bytes"
abbrev pub is_version1 : List ℕ → Bool
is_version1 f = headed 1 f && eqb (length f) 261

-- "Entry 0 is 0; entry i for i from 1 to 255 lies from 1 to i."
abbrev pub entry_good : ℕ → ℕ → Bool
entry_good i v = cond (eqb i 0) (eqb v 0) (leb 1 v && leb v i)

-- All entries from entry i on.
unfoldable pub all_good : ℕ → List ℕ → Bool
all_good i [] = true
all_good i (v ∷ t) = entry_good i v && all_good (suc i) t

-- "then with 29 any entry outside its bounds"
unfoldable pub bounded_table : List ℕ → Reply (List ℕ)
bounded_table t = cond (all_good 0 t) (result t) (number 29)

-- A file's table, or its number: "It refuses with 28 a wrong mark, version or length, then .."
unfoldable pub table_in : List ℕ → Reply (List ℕ)
table_in f = cond (is_version1 f) (bounded_table (drop 5 f)) (number 28)
