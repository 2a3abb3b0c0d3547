-- The exported bytes read back, packet by packet. Assumes nothing.
use mathlib.Core.Path.{◌≡◌, refl, ap, ap₂, ◌∙◌}
use mathlib.Core.Bool.{Bool, true, false}
use mathlib.Core.List.{List, [], ◌∷◌, ◌++◌, map}
use Prim.Native.Nat.{ℕ}
use lib.ListN.{length}
use lib.Seq.{take_at, drop_at}
use borrow.Author.Tests.{le-leb}
use Rattle.packet.specs.Packet.{Packet, token, payload, encode, in_range}
use Rattle.packet.specs.declared.packet.Token.TheVariants.{Out as out_token, Setup as setup_token}
use Rattle.packet.specs.Reply.{Reply, result}
use Rattle.packet.specs.Reading.{read_of}
use Rattle.packet.proofs.Written.{size_of, length_encode}
use Rattle.packet.proofs.RoundTrip.{read_write}
use Rattle.record.specs.Grammar.{four, setup, out}
use Rattle.record.specs.Segments.{Element, entry, failed_entry}
use Rattle.record.specs.Verdict.{AllRanged}
use Rattle.record.proofs.Verdicts.{reads_ranged}
use Rattle.export.specs.Export.{packets_in, encode_packets, export_of}
use Rattle.export.specs.ReadsBack.{lengths_in, cut_at, ReadsBack}

-- One packet is cut off and read.
read_one : (p : Packet) (ns : List ℕ) (l : List ℕ) → in_range p ≡ true → map read_of (cut_at (size_of p ∷ ns) (encode p ++ l)) ≡ result p ∷ map read_of (cut_at ns l)
unfolding cut_at
read_one p ns l h =
    ap₂ (λ (x : Reply Packet) (r : List ℕ). x ∷ map read_of (cut_at ns r))
    (ap read_of (take_at (encode p) l (size_of p) (length_encode p)) ∙ read_write p h)
    (drop_at (encode p) l (size_of p) (length_encode p))

-- A token and data.
read_two : (p q : Packet) (ns : List ℕ) (ps : List Packet) → in_range p ≡ true → in_range q ≡ true → map read_of (cut_at ns (encode_packets ps)) ≡ map result ps
    → map read_of (cut_at (size_of p ∷ size_of q ∷ ns) (encode_packets (p ∷ q ∷ ps))) ≡ map result (p ∷ q ∷ ps)
unfolding encode_packets
read_two p q ns ps hp hq e =
    read_one p (size_of q ∷ ns) (encode q ++ encode_packets ps) hp
    ∙ ap (λ (l : List (Reply Packet)). result p ∷ l) (read_one q ns (encode_packets ps) hq ∙ ap (λ (l : List (Reply Packet)). result q ∷ l) e)

read_all : (two : Bool) (ms : List Element) → AllRanged two ms → map read_of (cut_at (lengths_in ms) (export_of ms)) ≡ map result (packets_in ms)
unfolding cut_at encode_packets
read_all two [] h = refl
read_all two (entry (setup a (four b0 b1 b2 b3) (four b4 b5 b6 b7)) ∷ ms) h =
    read_two (token setup_token a 0) (payload false (b0 ∷ b1 ∷ b2 ∷ b3 ∷ b4 ∷ b5 ∷ b6 ∷ b7 ∷ [])) (lengths_in ms) (packets_in ms) (rw (le-leb a 127 h.0.0.0)) refl (read_all two ms h.1)
read_all two (entry (out a e pid last l) ∷ ms) h =
    read_two (token out_token a e) (payload pid l) (lengths_in ms) (packets_in ms) (rw (le-leb a 127 h.0.0.0, le-leb e 15 h.0.0.1)) (le-leb (length l) 64 h.0.0.2) (read_all two ms h.1)
read_all two (failed_entry n ∷ ms) h = read_all two ms h.1

pub reads_back : ReadsBack
reads_back = record { each = λ s w. read_all w.two w.ms (reads_ranged w.two w.ms w.reads) }
