-- What an export is made of, entry by entry, in the record's own fields, and what it leaves: over all entries and all lent bytes.
use Rattle.std.specs.Prelude.{◌≡◌, Bool, false, List, [], ◌∷◌, ◌++◌, ℕ, ◌≤◌, ◌<◌, length, drop}
use Rattle.packet.specs.Packet.{token, payload, encode}
use Rattle.packet.specs.declared.packet.Token.TheVariants.{Out, Setup}
use Rattle.transfers.specs.Reply.{result, number}
use Rattle.record.specs.Grammar.{four, setup, out}
use Rattle.record.specs.Segments.{Element, entry, failed_entry}
use Rattle.export.specs.Export.{export_of}
use Rattle.export.specs.Exported.{export_row, exported_in}

pub record ByEntry : Type 0 where
  -- "a SETUP token and DATA0": to its address, endpoint 0, with its eight bytes in their order.
  pub setup_entry : (a b0 b1 b2 b3 b4 b5 b6 b7 : ℕ)
      → export_of (entry (setup a (four b0 b1 b2 b3) (four b4 b5 b6 b7)) ∷ []) ≡ encode (token Setup a 0) ++ encode (payload false (b0 ∷ b1 ∷ b2 ∷ b3 ∷ b4 ∷ b5 ∷ b6 ∷ b7 ∷ []))
  -- "or an OUT token and its data packet": to its address and endpoint, DATA1 where its PID is 1; its mark doesn't show.
  pub out_entry : (a e : ℕ) (pid last : Bool) (l : List ℕ) → export_of (entry (out a e pid last l) ∷ []) ≡ encode (token Out a e) ++ encode (payload pid l)
  -- "R-5's export gives nothing for the new entry" (R-13).
  pub count_entry : (n : ℕ) → export_of (failed_entry n ∷ []) ≡ []
  -- "entry by entry"
  pub in_order : (ms ns : List Element) → export_of (ms ++ ns) ≡ export_of ms ++ export_of ns
  -- "then with 21 lent bytes too few": the packets come from the first byte on, and the bytes after them stay; else all stay.
  pub enough : (ms : List Element) (o : List ℕ) → length (export_of ms) ≤ length o
      → (export_row ms (length o) ≡ result (length (export_of ms))) × (exported_in ms o ≡ export_of ms ++ drop (length (export_of ms)) o)
  pub too_few : (ms : List Element) (o : List ℕ) → length o < length (export_of ms) → (export_row ms (length o) ≡ number 21) × (exported_in ms o ≡ o)
