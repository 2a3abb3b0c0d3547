-- `ByEntry`, proved. Assumes nothing.
use mathlib.Core.Path.{◌≡◌, refl, ap, sym, ◌∙◌}
use mathlib.Core.Bool.{false}
use mathlib.Core.List.{List, [], ◌∷◌, ◌++◌, append_assoc}
use Prim.Native.Nat.{ℕ, ◌+◌, ◌≤◌}
use native.Mathlib.Omega.{arith}
use lib.ListN.{length, drop}
use lib.Seq.{sets-eq}
use borrow.Author.Tests.{le-leb, lt-leb}
use Rattle.packet.specs.Packet.{Packet, token, payload}
use Rattle.packet.specs.declared.packet.Token.TheVariants.{Out, Setup}
use Rattle.transfers.specs.Reply.{result}
use Rattle.record.specs.Segments.{Element}
use Rattle.export.specs.Export.{packets_of, packets_in, encode_packets, export_of}
use Rattle.export.specs.Exported.{export_row, exported_in}
use Rattle.export.specs.ByEntry.{ByEntry}
use Rattle.export.proofs.Walking.{packets_append, pair_bytes}

-- The packets of entries after entries.
packets_in_lem : (ms ns : List Element) → packets_in (ms ++ ns) ≡ packets_in ms ++ packets_in ns
packets_in_lem [] ns = refl
packets_in_lem (m ∷ ms) ns = ap (λ (l : List Packet). packets_of m ++ l) (packets_in_lem ms ns) ∙ sym (append_assoc (packets_of m) (packets_in ms) (packets_in ns))

-- Where they fit.
put_all : (ms : List Element) (o : List ℕ) → length (export_of ms) ≤ length o
    → (export_row ms (length o) ≡ result (length (export_of ms))) × (exported_in ms o ≡ export_of ms ++ drop (length (export_of ms)) o)
put_all ms o h =
    let n : 0 + length (export_of ms) ≡ length (export_of ms) = omega arith in
    let f = le-leb (length (export_of ms)) (length o) h in
    (rw f, rw f (sets-eq (export_of ms) o 0 (omega arith) ∙ ap (λ (i : ℕ). export_of ms ++ drop i o) n))

pub by_entry : ByEntry
unfolding encode_packets
by_entry = record {
  setup_entry = λ a b0 b1 b2 b3 b4 b5 b6 b7. pair_bytes (token Setup a 0) (payload false (b0 ∷ b1 ∷ b2 ∷ b3 ∷ b4 ∷ b5 ∷ b6 ∷ b7 ∷ []));
  out_entry = λ a e pid last l. pair_bytes (token Out a e) (payload pid l);
  count_entry = λ n. refl;
  in_order = λ ms ns. ap encode_packets (packets_in_lem ms ns) ∙ packets_append (packets_in ms) (packets_in ns);
  enough = put_all;
  too_few = λ ms o h. (rw (lt-leb (length (export_of ms)) (length o) h), rw (lt-leb (length (export_of ms)) (length o) h));
}
