-- The list as bytes, and what the call answers and leaves: "It refuses with 35 an n above 6, then with 21 lent bytes too few."
use Rattle.std.specs.Prelude.{◌≡◌, cond, ◌&&◌, List, [], ◌∷◌, ◌++◌, ℕ, leb, length, Err, Ok, Result}
use Rattle.std.proofs.lemmas.List.Edits.{sets}
use Rattle.transfers.specs.Reply.{Reply, result, number}
use Rattle.groups.specs.declared.Refusal.{Refusal}
use Rattle.groups.specs.Groups.{groups_to}
use Rattle.groups.specs.Refusal.{number_of}

-- "Each is given as its packet count and then the lengths, a byte each."
unfoldable pub bytes_of : List (List ℕ) → List ℕ
bytes_of [] = []
bytes_of (g ∷ gs) = (length g ∷ g) ++ bytes_of gs

-- The list for n as bytes.
abbrev pub list_bytes : ℕ → List ℕ
list_bytes n = bytes_of (groups_to n)

-- How many bytes were written, or a number.
abbrev pub groups_reply : Result ℕ Refusal → Reply ℕ
groups_reply (Ok k) = result k
groups_reply (Err why) = number (number_of why)

-- The answer for n and a room.
abbrev pub groups_row : ℕ → ℕ → Reply ℕ
groups_row n room = cond (leb n 6) (cond (leb (length (list_bytes n)) room) (result (length (list_bytes n))) (number 21)) (number 35)

-- The lent bytes afterwards: the list from the first byte on and the rest as it was; where it is refused, all as they were.
abbrev pub listed_in : ℕ → List ℕ → List ℕ
listed_in n out = cond (leb n 6 && leb (length (list_bytes n)) (length out)) (sets out 0 (list_bytes n)) out

-- The groups were listed.
pub record Listed (n : ℕ) (out : List ℕ) (r : Result ℕ Refusal) (out' : List ℕ) : Type 0 where
  pub answer : groups_reply r ≡ groups_row n (length out)
  pub bytes : out' ≡ listed_in n out
