-- What document 02 asks of a house's own poll table, as one statement.
use Rattle.std.specs.Prelude.{◌≡◌, Result, Ok, Err, List, ◌∷◌, ℕ, ◌+◌, ◌≤◌, min, length, get_or}
use Rattle.poll.specs.declared.refusal.Refusal.{Refusal}
use Rattle.poll.specs.declared.refusal.Refusal.TheVariants.{Format, Bounds}
use Rattle.poll.specs.Table.{built_in_of}
use Rattle.poll.specs.Reply.{Reply, result, number, number_of}
use Rattle.poll.specs.File.{table_in}
use Rattle.poll.specs.Loaded.{load_reply, Took}

-- "The file is the mark `PIT`, version 1 as 16 bits, low byte first, and 256 bytes.": f is one with the entries t.
pub record Version1 (f t : List ℕ) : Type 0 where
  pub bytes : f ≡ 0x50 ∷ 0x49 ∷ 0x54 ∷ 1 ∷ 0 ∷ t
  pub entries : length t ≡ 256

-- "Entry 0 is 0; entry i for i from 1 to 255 lies from 1 to i."
pub record Bounded (t : List ℕ) : Type 0 where
  pub zeroth : get_or t 0 0 ≡ 0
  pub others : (i : ℕ) → 1 ≤ i → i ≤ 255 → (1 ≤ get_or t i 0) × (get_or t i 0 ≤ i)

-- What a file deserves: a number, or that its table is taken.
pub data Deserves (f : List ℕ) (y : Reply (List ℕ)) : Type 0 where
  -- "It refuses with 28 a wrong mark, version or length"
  wrong_format : ((t : List ℕ) → Version1 f t → ⊥) → y ≡ number 28 → Deserves f y
  -- "then with 29 any entry outside its bounds"
  out_of_bounds : (t : List ℕ) → Version1 f t → (Bounded t → ⊥) → y ≡ number 29 → Deserves f y
  -- "a house may load its own in its place"
  taken : (t : List ℕ) → Version1 f t → Bounded t → y ≡ result t → Deserves f y

pub record Loads : Type 0 where
  -- "The rule min(interval, 9) becomes a constant table of 256 bytes"
  pub constant : length built_in_of ≡ 256
  pub capped_at_9 : (i : ℕ) → i ≤ 255 → get_or built_in_of i 0 ≡ min i 9
  -- Each file has what it deserves, and deserves nothing else.
  pub deserved : (f : List ℕ) → Deserves f (table_in f)
  pub only : (f : List ℕ) (y : Reply (List ℕ)) → Deserves f y → y ≡ table_in f
  -- Entry i is the byte 5 + i of the file.
  pub entry : (f t : List ℕ) → table_in f ≡ result t → (i : ℕ) → get_or t i 0 ≡ get_or f (5 + i) 0
  -- What the answer means.
  pub taken_meant : (t : List ℕ) → load_reply (Ok tt) t ≡ result t
  pub format_meant : (t : List ℕ) → (load_reply (Err Format) t ≡ number 28) × (number_of Format ≡ 28)
  pub bounds_meant : (t : List ℕ) → (load_reply (Err Bounds) t ≡ number 29) × (number_of Bounds ≡ 29)
  -- What `Took` says, which `load` promises: a taken table stands in the old one's place, and a refused file leaves that.
  pub replaced : (old f t table : List ℕ) (r : Result (Unit {0}) Refusal) → Took old (table_in f) r table → table_in f ≡ result t → (r ≡ Ok tt) × (table ≡ t)
  pub left_alone : (old f table : List ℕ) (n : ℕ) (r : Result (Unit {0}) Refusal) → Took old (table_in f) r table → table_in f ≡ number n → (load_reply r table ≡ number n) × (table ≡ old)
