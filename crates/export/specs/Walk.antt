-- What the code's own functions do, one entry after another.
use Rattle.std.specs.Prelude.{◌≡◌, List, ℕ, ◌+◌, length, Err, Ok, Result, None, Option, Some}
use Rattle.std.proofs.lemmas.List.Edits.{sets}
use Rattle.packet.specs.Packet.{Packet}
use Rattle.record.specs.declared.look.Look.{Look}
use Rattle.record.specs.declared.look.Look.TheVariants.{Setup, Out, Failed}
use Rattle.record.specs.declared.refusal.Refusal.{Refusal}
use Rattle.export.specs.Export.{encode_packets}
use Rattle.export.specs.declared.Lengths.{Lengths}

-- How many bytes an entry has, and its token and data packet, where an entry stands.
abbrev pub lengths_at : Result (Option Look) Refusal → Option Lengths
lengths_at (Ok (Some (Setup a w))) = Some (record { entry = 10; token = 3; payload = 11 })
lengths_at (Ok (Some (Out x))) = Some (record { entry = 6 + x.length; token = 3; payload = 3 + x.length })
lengths_at (Ok (Some (Failed m))) = Some (record { entry = 5; token = 0; payload = 0 })
lengths_at (Ok None) = None
lengths_at (Err why) = None

-- Packets were put after the bytes used.
pub record Put (ps : List Packet) (out : List ℕ) (used r : ℕ) (out' : List ℕ) : Type 0 where
  pub next : r ≡ used + length (encode_packets ps)
  pub bytes : out' ≡ sets out used (encode_packets ps)
