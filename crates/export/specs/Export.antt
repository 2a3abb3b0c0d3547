-- "A record is exported entry by entry as a SETUP token and DATA0, or an OUT token and its data packet."
use Rattle.std.specs.Prelude.{false, List, [], ◌∷◌, ◌++◌, ℕ}
use Rattle.packet.specs.Packet.{Packet, token, payload, encode}
use Rattle.packet.specs.declared.packet.Token.TheVariants.{Out, Setup}
use Rattle.record.specs.Grammar.{setup, out}
use Rattle.record.specs.Segments.{Element, entry, failed_entry}
use Rattle.record.specs.Bytes.{four_of}

-- The packets of an entry: a SETUP goes to its address, endpoint 0, with its eight bytes; an OUT packet with its PID and bytes; "R-5's export gives nothing for the new
-- entry" (R-13), 0x58.
abbrev pub packets_of : Element → List Packet
packets_of (entry (setup a lo hi)) = token Setup a 0 ∷ payload false (four_of lo ++ four_of hi) ∷ []
packets_of (entry (out a e pid last l)) = token Out a e ∷ payload pid l ∷ []
packets_of (failed_entry n) = []

-- "entry by entry"
abbrev pub packets_in : List Element → List Packet
packets_in [] = []
packets_in (m ∷ ms) = packets_of m ++ packets_in ms

-- The bytes of packets, one after another.
unfoldable pub encode_packets : List Packet → List ℕ
encode_packets [] = []
encode_packets (p ∷ ps) = encode p ++ encode_packets ps

-- The bytes of a record's packets.
abbrev pub export_of : List Element → List ℕ
export_of ms = encode_packets (packets_in ms)
