-- The exported bytes, cut at the packets' lengths, read back as the entries' packets.
use Rattle.std.specs.Prelude.{◌≡◌, List, [], ◌∷◌, ◌++◌, map, ℕ, ◌+◌, length, take, drop}
use Rattle.packet.specs.Reply.{result}
use Rattle.packet.specs.Reading.{read_of}
use Rattle.record.specs.Grammar.{setup, out}
use Rattle.record.specs.Segments.{Element, entry, failed_entry}
use Rattle.record.specs.Verdict.{Whole}
use Rattle.export.specs.Export.{packets_in, export_of}

-- A token is 3 bytes, SETUP's DATA0 has 8 bytes and 3 more, an OUT packet its own and 3 more.
abbrev pub lengths_of : Element → List ℕ
lengths_of (entry (setup a lo hi)) = 3 ∷ 11 ∷ []
lengths_of (entry (out a e pid last l)) = 3 ∷ (3 + length l) ∷ []
lengths_of (failed_entry n) = []

-- Of entries.
abbrev pub lengths_in : List Element → List ℕ
lengths_in [] = []
lengths_in (m ∷ ms) = lengths_of m ++ lengths_in ms

-- Bytes cut at lengths; what is left over would be a piece more.
unfoldable pub cut_at : List ℕ → List ℕ → List (List ℕ)
cut_at [] [] = []
cut_at [] (x ∷ l) = (x ∷ l) ∷ []
cut_at (n ∷ ns) l = take n l ∷ cut_at ns (drop n l)

-- Of every record of the grammar.
pub record ReadsBack : Type 0 where
  pub each : (s : List ℕ) (w : Whole s) → map read_of (cut_at (lengths_in w.ms) (export_of w.ms)) ≡ map result (packets_in w.ms)
