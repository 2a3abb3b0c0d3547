-- The writer's bytes are the record's, and the reader reads them.
-- Assumes nothing.
use mathlib.Core.Path.{◌≡◌, refl, ap, sym, subst, ◌∙◌}
use mathlib.Core.List.{List}
use Prim.Native.Nat.{ℕ}
use lib.ListN.{length, drop, length-map}
use lib.Seq.{length-take-le}
use mathlib.Core.Bool.{true, true≢false}
use Rattle.transfers.specs.declared.driver.DeskRule.{DeskRule}
use Rattle.transfers.specs.Driver.{fresh}
use Rattle.record.specs.Grammar.{item}
use Rattle.record.specs.Segments.{Element, unfailed}
use Rattle.record.specs.Wire.{File}
use Rattle.record.specs.Calls.{Call}
use Rattle.record.specs.Asked.{AllTyped, listed, item_of}
use Rattle.record.specs.Shown.{shown_from}
use Rattle.record.specs.Record.{answered_from}
use Rattle.record.specs.Fates.{ended_of}
use Rattle.record.specs.Bytes.{encode_elements, record_of}
use Rattle.record.specs.Kept.{Kept, kept, kept_all}
use Rattle.record.specs.Verdict.{record_in, Reads, is_whole}
use Rattle.record.specs.Term3.{wire_record, fates, Premises, Written, ReadBack}
use Rattle.transfers.specs.Reply.{result}
use Rattle.record.proofs.Counted.{answered}
use Rattle.record.proofs.Failing.{recorded}
use Rattle.record.proofs.Keeping.{Holds, Fine, all_fine}
use Rattle.record.proofs.Verdicts.{version_of, answers_only}
use Rattle.record.proofs.Handing.{drop_record, handed_out}
use Rattle.record.proofs.Holding.{held}

pub written : (rule : DeskRule) (f : File) (cs : List Call) → AllTyped cs → (l : List ℕ) (ms : ℕ → List ℕ) (l' : List ℕ) (n : ℕ) → kept_all l ms (shown_from (fresh rule) cs) ≡ kept l' n → Written f (shown_from (fresh rule) cs) l l' n
written rule f cs t l ms l' n e =
    let h : Holds l l' n (answered_from (shown_from (fresh rule) cs)) = subst (λ (k : Kept). Fine l k (answered_from (shown_from (fresh rule) cs))) e (all_fine (fresh rule) l ms cs) in
    let r = ap record_of (sym (answered rule f cs t)) in
    record { used = sym (length-take-le n l' h.inside) ∙ ap length (h.bytes ∙ r); bytes = h.bytes ∙ r; rest = h.rest }

-- The writer's version is 2.
same_record : (ms : List Element) → record_of ms ≡ record_in true ms
unfolding record_of record_in
same_record ms = refl

pub read : (rule : DeskRule) (f : File) (cs : List Call) → AllTyped cs → Premises f (shown_from (fresh rule) cs) → ReadBack f (shown_from (fresh rule) cs) (record_of (wire_record f (shown_from (fresh rule) cs)))
read rule f cs t p =
    let g = recorded rule f cs t p in
    let r = g.reading in
    let ms = wire_record f (shown_from (fresh rule) cs) in
    let es = listed (ended_of (fates f (shown_from (fresh rule) cs))) in
    let n : length (unfailed r.segments r.last) ≡ length es = sym (length-map (unfailed r.segments r.last) item) ∙ ap length g.transfers ∙ length-map es item_of in
    let b = ap (λ (l : List ℕ). drop 5 l) (same_record ms) ∙ drop_record true ms ∙ ap encode_elements (sym r.is) in
    let k : Reads true ms = record { reading = r; plain = λ e. absurd (true≢false e) } in
    record {
      recorded = g;
      version = version_of (record_of ms) true ms (same_record ms);
      only = λ a v. answers_only (record_of ms) true ms (same_record ms) k a v ∙ ap result n;
      verdict = is_whole (record { two = true; ms = ms; is = same_record ms; reads = k }) (ap result (sym n));
      items = handed_out r.segments r.last (record_of ms) 5 r.segments_fit r.last_fit b;
      held = held (record_of ms) r.segments r.last 5 b;
    }
