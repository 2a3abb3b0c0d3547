-- The record's writer: "The writer takes that, the packet memory and the used length, and appends the entries; at used length 0 it writes the head first."
use Rattle.std.specs.Prelude.{◌≡◌, Bool, true, false, cond, ◌&&◌, List, [], ◌++◌, ℕ, ◌+◌, length, eqb, leb, None, Option, Result, Some}
use Rattle.std.proofs.lemmas.List.Edits.{sets}
use Rattle.transfers.specs.Reply.{Reply, result, number}
use Rattle.transfers.specs.declared.answers.Armed.{Armed}
use Rattle.record.specs.Armed.{entries_armed}
use Rattle.record.specs.Bytes.{head_bytes, encode_all, failed_bytes}
use Rattle.record.specs.Refusal.{append_reply}
use Rattle.transfers.specs.declared.answers.ArmedOut.{ArmedOut}
use Rattle.record.specs.declared.refusal.Refusal.{Refusal}
use Rattle.transfers.specs.declared.answers.ArmedSetup.{ArmedSetup}

-- "address (0 to 127)", "endpoint (0 to 15)", "length (0 to 64)": the fields of what was armed lie in their ranges.
abbrev pub setup_in_range : Option ArmedSetup → Bool
setup_in_range None = true
setup_in_range (Some s) = leb s.address 127

-- An OUT packet that was armed: address, endpoint and length.
abbrev pub out_in_range : Option ArmedOut → Bool
out_in_range None = true
out_in_range (Some x) = leb x.address 127 && (leb x.endpoint 15 && leb x.arm.length 64)

-- All that was armed.
unfoldable pub armed_in_range : Armed → Bool
armed_in_range armed = setup_in_range armed.setup && (out_in_range armed.first && out_in_range armed.second)

-- "at used length 0 it writes the head first"
abbrev pub head_of : ℕ → List ℕ
head_of used = cond (eqb used 0) head_bytes []

-- Head and entries that are appended.
unfoldable pub appended : Armed → List ℕ → ℕ → List ℕ
appended armed pm used = head_of used ++ encode_all (entries_armed pm armed)

-- "written when a started transfer ends by 1 to 7 or 9 or is cancelled"
abbrev pub count_bytes : Option ℕ → List ℕ
count_bytes None = []
count_bytes (Some n) = failed_bytes n

-- The bytes that are appended: head, entries, count.
unfoldable pub told_bytes : Armed → Option ℕ → List ℕ → ℕ → List ℕ
told_bytes armed failed pm used = appended armed pm used ++ count_bytes failed

-- What a call of the writer leaves: its answer, the used length or a number, and every byte of the record.
pub record Append : Type 0 where
  pub answer : Reply ℕ
  pub bytes : List ℕ

-- "leaves .. record .. untouched"
abbrev pub refusing : ℕ → List ℕ → Append
refusing n l = record { answer = number n; bytes = l }

-- "15 packet memory not 4,096 bytes", then "19 a field outside its range", then "21 the used length is above the record's, or head and entries don't fit the rest".
abbrev pub append_if : Bool → Bool → Bool → List ℕ → List ℕ → ℕ → Append
append_if false ranged room new l used = refusing 15 l
append_if true false room new l used = refusing 19 l
append_if true true false new l used = refusing 21 l
append_if true true true new l used = record { answer = result (used + length new); bytes = sets l used new }

-- A call of the writer, on any armed answer, packet memory, record and used length.
unfoldable pub append_of : Armed → Option ℕ → List ℕ → List ℕ → ℕ → Append
append_of armed failed pm l used =
    append_if (eqb (length pm) 4096) (armed_in_range armed) (leb (used + length (told_bytes armed failed pm used)) (length l)) (told_bytes armed failed pm used) l used

-- The lengths of the entries: SETUP 10 bytes, OUT 6 and its own.
abbrev pub setup_size : Option ArmedSetup → ℕ
setup_size None = 0
setup_size (Some s) = 10

-- OUT: 6 bytes and its own.
abbrev pub out_size : Option ArmedOut → ℕ
out_size None = 0
out_size (Some x) = 6 + x.arm.length

-- All that was armed.
abbrev pub armed_size : Armed → ℕ
armed_size armed = setup_size armed.setup + out_size armed.first + out_size armed.second

-- A count: 5 bytes.
abbrev pub count_size : Option ℕ → ℕ
count_size None = 0
count_size (Some n) = 5

-- The head's length, where it is written.
abbrev pub head_size : ℕ → ℕ
head_size used = cond (eqb used 0) 5 0

-- Bytes were stored from a place on, and the place after them was answered.
pub record Put (l : List ℕ) (at : ℕ) (vs : List ℕ) (l' : List ℕ) (at' : ℕ) : Type 0 where
  pub bytes : l' ≡ sets l at vs
  pub next : at' ≡ at + length vs

-- A call did what its definition says, in document 01's numbers.
pub record Appended (x : Append) (r : Result ℕ Refusal) (l' : List ℕ) : Type 0 where
  pub answer : append_reply r ≡ x.answer
  pub bytes : l' ≡ x.bytes
