-- "list the packet lengths of every group the grammar allows of at most n bytes, each exactly once": the grammar is the record's.
use Rattle.std.specs.Prelude.{◌≡◌, Bool, List, [], ◌∷◌, ℕ, ◌≤◌, length}
use Rattle.record.specs.Grammar.{Four, Entry, setup, out, Part, bulk_part, control_part, one_group, group_bytes, part_entries, Fits}
use Rattle.groups.specs.Order.{In, Ordered}

-- "the packet lengths": of the OUT packets among entries.
abbrev pub packet_lengths : List Entry → List ℕ
packet_lengths [] = []
packet_lengths (setup a lo hi ∷ es) = packet_lengths es
packet_lengths (out a e pid last l ∷ es) = length l ∷ packet_lengths es

-- The packet lengths of a bulk group or of a control with a group.
abbrev pub lengths_of : Part → List ℕ
lengths_of q = packet_lengths (part_entries q)

-- These are the lengths of some group that "the grammar allows of at most n bytes".
pub record Allowed (n : ℕ) (g : List ℕ) : Type 0 where
  pub address : ℕ
  pub endpoint : ℕ
  pub pid : Bool
  pub unmarked : List (List ℕ)
  pub marked : List ℕ
  pub fits : Fits (bulk_part address endpoint pid unmarked marked)
  pub few : length (group_bytes unmarked marked) ≤ n
  pub lengths : lengths_of (bulk_part address endpoint pid unmarked marked) ≡ g

-- The list for n.
pub record Enumerates (n : ℕ) (gs : List (List ℕ)) : Type 0 where
  -- "every group the grammar allows of at most n bytes": bulk groups, and those of controls.
  pub bulk : (a e : ℕ) (b : Bool) (xs : List (List ℕ)) (l : List ℕ) → Fits (bulk_part a e b xs l) → length (group_bytes xs l) ≤ n → In (lengths_of (bulk_part a e b xs l)) gs
  pub control : (a : ℕ) (lo hi : Four) (xs : List (List ℕ)) (l : List ℕ) → Fits (control_part a lo hi (one_group xs l)) → length (group_bytes xs l) ≤ n
      → In (lengths_of (control_part a lo hi (one_group xs l))) gs
  -- And nothing else.
  pub allowed : (g : List ℕ) → In g gs → Allowed n g
  -- "each exactly once", in the request's order.
  pub ordered : Ordered gs
