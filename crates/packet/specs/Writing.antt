-- Writing: "refuses with 19 a field outside its range, then with 21 lent bytes too few".
use Rattle.std.specs.Prelude.{◌≡◌, Result, Ok, Err, Bool, cond, ◌&&◌, List, ℕ, ◌+◌, leb, length}
use Rattle.std.proofs.lemmas.List.Edits.{sets}
use Rattle.packet.specs.Packet.{Packet, encode, in_range}
use Rattle.packet.specs.Reply.{Reply, result, number}
use Rattle.packet.specs.Refusal.{number_of}
use Rattle.packet.specs.declared.refusal.Refusal.{Refusal}

-- The packet's bytes fit after those used.
abbrev pub fits : Packet → ℕ → ℕ → Bool
fits p room used = leb (used + length (encode p)) room

-- How many bytes are used afterwards, or a number.
abbrev pub write_row : Packet → ℕ → ℕ → Reply ℕ
write_row p room used = cond (in_range p) (cond (fits p room used) (result (used + length (encode p))) (number 21)) (number 19)

-- The lent bytes afterwards: the packet's after those used, and where it is refused all as they were.
abbrev pub written : Packet → List ℕ → ℕ → List ℕ
written p out used = cond (in_range p && fits p (length out) used) (sets out used (encode p)) out

-- The writer's answer in these terms.
abbrev pub write_reply : Result ℕ Refusal → Reply ℕ
write_reply (Ok n) = result n
write_reply (Err why) = number (number_of why)

-- A packet was written.
pub record Wrote (p : Packet) (out : List ℕ) (used : ℕ) (r : Result ℕ Refusal) (out' : List ℕ) : Type 0 where
  pub answer : write_reply r ≡ write_row p (length out) used
  pub bytes : out' ≡ written p out used
