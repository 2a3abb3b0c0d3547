-- What a load answers and leaves: "a house may load its own in its place".
use Rattle.std.specs.Prelude.{◌≡◌, Result, Ok, Err, cond, List, ℕ, eqb}
use Rattle.poll.specs.declared.refusal.Refusal.{Refusal}
use Rattle.poll.specs.declared.refusal.Refusal.TheVariants.{Format, Bounds}
use Rattle.poll.specs.Reply.{Reply, result, number, number_of}

-- The answer, with the table that the load leaves.
abbrev pub load_reply : Result (Unit {0}) Refusal → List ℕ → Reply (List ℕ)
load_reply (Ok x) t = result t
load_reply (Err why) t = number (number_of why)

-- The refusal of a number.
abbrev pub refusal_of : ℕ → Refusal
refusal_of n = cond (eqb n 28) Format Bounds

-- The answer of a reply.
abbrev pub answer_of : Reply (List ℕ) → Result (Unit {0}) Refusal
answer_of (result t) = Ok tt
answer_of (number n) = Err (refusal_of n)

-- The table afterwards: the file's in the old one's place; where it is refused, the old one.
abbrev pub table_after : List ℕ → Reply (List ℕ) → List ℕ
table_after old (result t) = t
table_after old (number n) = old

-- The answer r, with the table that it leaves, is this table, or this number says why none is.
pub record Took (old : List ℕ) (y : Reply (List ℕ)) (r : Result (Unit {0}) Refusal) (table' : List ℕ) : Type 0 where
  pub answer : load_reply r table' ≡ y
  pub table : table' ≡ table_after old y
