-- What the reader's verdict makes of an export. Assumes nothing.
use Rattle.std.specs.Prelude.{Err, Result}
use mathlib.Core.Path.{◌≡◌, refl, ap}
use mathlib.Core.List.{List}
use Prim.Native.Nat.{ℕ, ◌≤◌, ◌<◌}
use native.Mathlib.Omega.{arith}
use lib.ListN.{length}
use borrow.Author.Tests.{le-leb, lt-leb}
use Rattle.transfers.specs.Reply.{result, number}
use Rattle.record.specs.Grammar.{Bytes}
use Rattle.record.specs.Refusal.{number_of}
use Rattle.record.specs.Segments.{Element, unfailed}
use Rattle.record.specs.Verdict.{Whole, Verdict, is_whole}
use Rattle.record.specs.declared.refusal.Refusal.{Refusal}
use Rattle.record.proofs.Verdicts.{one_verdict}
use Rattle.export.specs.Export.{export_of, packets_in}
use Rattle.export.specs.Exported.{export_reply, export_row, exported_in, Exported}
use Rattle.export.specs.Walk.{Put}

-- A record of the grammar isn't refused by the reader.
both_ways : {A : Type 0} (s : List ℕ) (n : ℕ) → Bytes s → Whole s → Verdict s (number n) → A
both_ways s n b w v =
    absurd (let z = one_verdict s (number n) (result (length (unfailed w.reads.reading.segments w.reads.reading.last))) b v (is_whole w refl) in let y : ◌≡◌ {A = ℕ} 0 1 = cc in omega arith)

-- "refused as the record reader refuses"
pub refused_as : (s l : List ℕ) (why : Refusal) → Bytes s → Verdict s (number (number_of why)) → Exported s l (Err why) l
refused_as s l why b v = record { refused = λ n u. (one_verdict s (number (number_of why)) (number n) b v u, refl); whole = λ w. both_ways s (number_of why) b w v }

-- An accepted record.
pub accepted_as : (s l l' : List ℕ) (r : Result ℕ Refusal) (k : ℕ) → Bytes s → Verdict s (result k)
    → ((w : Whole s) → (export_reply r ≡ export_row w.ms (length l)) × (l' ≡ exported_in w.ms l)) → Exported s l r l'
accepted_as s l l' r k b v f = record {
  refused = λ n u. absurd (let z = one_verdict s (result k) (number n) b v u in let y : ◌≡◌ {A = ℕ} 0 1 = cc in omega arith);
  whole = f;
}

-- "then with 21 lent bytes too few"
pub too_few : (ms : List Element) (l : List ℕ) → length l < length (export_of ms) → (number 21 ≡ export_row ms (length l)) × (l ≡ exported_in ms l)
too_few ms l h = let e = lt-leb (length (export_of ms)) (length l) h in (rw e, rw e)

pub enough : (ms : List Element) (l l' : List ℕ) (r : ℕ) → length (export_of ms) ≤ length l → Put (packets_in ms) l 0 r l' → (result r ≡ export_row ms (length l)) × (l' ≡ exported_in ms l)
enough ms l l' r h p =
    let e = le-leb (length (export_of ms)) (length l) h in
    let n : r ≡ length (export_of ms) = omega (arith, p.next) in
    (rw e (ap result n), rw e p.bytes)
