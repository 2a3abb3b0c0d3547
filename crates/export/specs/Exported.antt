-- What exporting a record answers and leaves: "refused as the record reader refuses, then with 21 lent bytes too few".
use Rattle.std.specs.Prelude.{◌≡◌, cond, List, ℕ, leb, length, Err, Ok, Result}
use Rattle.std.proofs.lemmas.List.Edits.{sets}
use Rattle.transfers.specs.Reply.{Reply, result, number}
use Rattle.record.specs.declared.refusal.Refusal.{Refusal}
use Rattle.record.specs.Refusal.{number_of}
use Rattle.record.specs.Segments.{Element}
use Rattle.record.specs.Verdict.{Whole, Verdict}
use Rattle.export.specs.Export.{export_of}

-- How many bytes were written, or a number.
abbrev pub export_reply : Result ℕ Refusal → Reply ℕ
export_reply (Ok n) = result n
export_reply (Err why) = number (number_of why)

-- The answer for a record's entries.
abbrev pub export_row : List Element → ℕ → Reply ℕ
export_row ms room = cond (leb (length (export_of ms)) room) (result (length (export_of ms))) (number 21)

-- The lent bytes afterwards: the packets from the first byte on and the rest as it was; where they don't fit, all as they were.
abbrev pub exported_in : List Element → List ℕ → List ℕ
exported_in ms out = cond (leb (length (export_of ms)) (length out)) (sets out 0 (export_of ms)) out

-- A record was exported.
pub record Exported (s out : List ℕ) (r : Result ℕ Refusal) (out' : List ℕ) : Type 0 where
  -- Bytes that deserve a number of the record reader's get it, and nothing is stored.
  pub refused : (n : ℕ) → Verdict s (number n) → (export_reply r ≡ number n) × (out' ≡ out)
  -- A record of the grammar gives the packets of its entries.
  pub whole : (w : Whole s) → (export_reply r ≡ export_row w.ms (length out)) × (out' ≡ exported_in w.ms out)
