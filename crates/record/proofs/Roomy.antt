-- With room for the record and whole packet memories the writer is refused nowhere.
-- Assumes nothing.
use Rattle.std.specs.Prelude.{None, Option}
use mathlib.Core.Path.{◌≡◌, ap, sym, subst, ◌∙◌}
use mathlib.Core.Bool.{true}
use mathlib.Core.List.{List, [], ◌∷◌, ◌++◌, map, append_assoc}
use Prim.Native.Nat.{ℕ, suc, ◌+◌, ◌≤◌}
use native.Mathlib.Nat.{zero-add}
use native.Mathlib.Omega.{arith}
use lib.ListN.{length, length-append, length-drop}
use lib.Seq.{sets, length-sets}
use borrow.Author.Tests.{le-leb, eq-eqb}
use Rattle.transfers.specs.declared.answers.Armed.{Armed}
use Rattle.transfers.specs.declared.driver.DeskRule.{DeskRule}
use Rattle.transfers.specs.declared.driver.Driver.{Driver}
use Rattle.transfers.specs.declared.wire.Direction.TheVariants.{In, Out}
use Rattle.transfers.specs.Answers.{nothing_armed}
use Rattle.transfers.specs.Driver.{fresh}
use Rattle.transfers.specs.Memory.{SlotsOnly}
use Rattle.transfers.proofs.SlotsOnly.{step_slots, begin_control_slots, begin_bulk_in_slots, begin_bulk_out_slots}
use Rattle.record.specs.Calls.{Begin, control_begin, bulk_begin, Call, begin, step, cancel, open_pipe, close_pipe, poll_pipe, interrupt, detect, call, beginning}
use Rattle.record.specs.Armed.{entries_armed}
use Rattle.record.specs.Segments.{Element, entry}
use Rattle.record.specs.Asked.{AllTyped}
use Rattle.record.specs.Shown.{writer_after, shown, shown_from}
use Rattle.record.specs.Record.{counted, answered_from}
use Rattle.record.specs.Bytes.{head_bytes, encode_all, encode_elements, record_of}
use Rattle.record.specs.Writer.{armed_in_range, appended, told_bytes, append_of}
use Rattle.record.specs.Kept.{Kept, kept, refused, appends, appends_by, kept_from, kept_all, Lent, AllLent}
use Rattle.record.proofs.Encoding.{elements_append}
use Rattle.record.proofs.Keeping.{told, no_head_of}
use Rattle.record.proofs.Answered.{AllRanged, all_ranged}
use Rattle.record.proofs.Ranged.{none_ranged}
use Rattle.transfers.specs.declared.driver.Run.{Run}

-- A call of the writer with room.
fits : (a : Armed) (x : Option ℕ) (m l : List ℕ) (n : ℕ) → length m ≡ 4096 → armed_in_range a ≡ true → n + length (told_bytes a x m n) ≤ length l
    → appends a x m (kept l n) ≡ kept (sets l n (told_bytes a x m n)) (n + length (told_bytes a x m n))
unfolding append_of
fits a x m l n hm ha h = rw (eq-eqb (length m) 4096 hm, ha, le-leb (n + length (told_bytes a x m n)) (length l) h)

-- Not refused, with room left for r bytes.
abbrev Room : Kept → ℕ → Type 0
Room refused r = ⊥
Room (kept l n) r = (5 ≤ n) × (n + r ≤ length l)

-- One call of the writer.
append_room : (a : Armed) (x : Option ℕ) (m : List ℕ) (k : Kept) (r : ℕ) → length m ≡ 4096 → armed_in_range a ≡ true → Room k (length (encode_elements (told m a x)) + r) → Room (appends a x m k) r
append_room a x m refused r hm ha h = h
append_room a x m (kept l n) r hm ha h =
    let w = no_head_of a x m n h.0 in
    let e : length (told_bytes a x m n) ≡ length (encode_elements (told m a x)) = ap length w in
    subst (λ (k : Kept). Room k r) (sym (fits a x m l n hm ha (omega (arith, e, h.1))))
    (omega (arith, h.0), omega (arith, e, h.1, length-sets l n (told_bytes a x m n)))

-- Begin and step leave as many bytes of packet memory as they were lent.
slots_length : (m m' : List ℕ) → SlotsOnly m m' → length m ≡ 4096 → length m' ≡ 4096
slots_length m m' s e = let q = ap length s.above in omega (arith, q, length-drop 0x200 m, length-drop 0x200 m')

begin_slots : (t : Option Run) (x : Begin) (buf m log : List ℕ) → SlotsOnly m (beginning t x buf m log).memory
begin_slots t (control_begin a x p s ph) buf m log = begin_control_slots t a x p s ph buf m log
begin_slots t (bulk_begin In a e p k b) buf m log = begin_bulk_in_slots t a e p k b buf m log
begin_slots t (bulk_begin Out a e p k b) buf m log = begin_bulk_out_slots t a e p k b buf m log

none_more : (k : Kept) (r : ℕ) → Room k (0 + r) → Room k r
none_more k r h = subst (λ (n : ℕ). Room k n) (zero-add r) h

-- One call of the driver.
one_room : (m₀ : List ℕ) → length m₀ ≡ 4096 → (c : Call) (d : Driver) (k : Kept) (r : ℕ) → Lent c → armed_in_range (call d c).armed ≡ true
    → Room k (length (encode_elements (told (call d c).memory (call d c).armed (call d c).failed)) + r) → Room (appends_by (writer_after c) m₀ (shown c (call d c)) k) r
unfolding call encode_elements
one_room m₀ hm (begin x buf m log) d k r lent a h = let o = call d (begin x buf m log) in
    append_room o.armed o.failed o.memory k r (slots_length m o.memory (begin_slots d.transfer x buf m log) lent) a h
one_room m₀ hm (step b y buf m log) d k r lent a h = let o = call d (step b y buf m log) in
    append_room o.armed o.failed o.memory k r (slots_length m o.memory (step_slots b d.transfer y buf m log) lent) a h
one_room m₀ hm cancel d k r lent a h = let o = call d cancel in append_room o.armed o.failed m₀ k r hm a h
one_room m₀ hm (open_pipe a x e p i log) d k r lent q h = none_more k r h
one_room m₀ hm (close_pipe n) d k r lent a h = none_more k r h
one_room m₀ hm (poll_pipe n y m log) d k r lent a h = none_more k r h
one_room m₀ hm (interrupt ints status log) d k r lent a h = none_more k r h
one_room m₀ hm (detect sie log) d k r lent a h = none_more k r h

along : (ms : ℕ → List ℕ) → ((i : ℕ) → length (ms i) ≡ 4096) → (cs : List Call) (d : Driver) (k : Kept) → AllLent cs → AllRanged d cs
    → Room k (length (encode_elements (answered_from (shown_from d cs)))) → Room (kept_from ms k (shown_from d cs)) 0
unfolding kept_from answered_from encode_elements shown_from
along ms hm [] d k lent a h = h
along ms hm (c ∷ cs) d k lent a h =
    let o = call d c in
    let x = map entry (entries_armed o.memory o.armed) in
    let y = counted o.failed in
    let rest = answered_from (shown_from o.next cs) in
    let e : length (encode_elements (x ++ (y ++ rest))) ≡ length (encode_elements (x ++ y)) + length (encode_elements rest) =
    ap (λ (l : List Element). length (encode_elements l)) (sym (append_assoc x y rest)) ∙ ap length (elements_append (x ++ y) rest) ∙ length-append (encode_elements (x ++ y)) (encode_elements rest) in
    along (λ i. ms (suc i)) (λ i. hm (suc i)) cs o.next (appends_by (writer_after c) (ms 0) (shown c o) k) lent.1 a.1
    (one_room (ms 0) (hm 0) c d k (length (encode_elements rest)) lent.0 a.0 (subst (λ (r : ℕ). Room k r) e h))

-- The first call of the writer.
head_room : (m l : List ℕ) (r : ℕ) → length m ≡ 4096 → 5 + r ≤ length l → Room (appends nothing_armed None m (kept l 0)) r
unfolding told_bytes appended encode_all
head_room m l r hm h = subst (λ (k : Kept). Room k r) (sym (fits nothing_armed None m l 0 hm none_ranged (omega (arith, h)))) (omega arith, omega (arith, h, length-sets l 0 head_bytes))

pub room : (rule : DeskRule) (cs : List Call) → AllTyped cs → AllLent cs → (l : List ℕ) (ms : ℕ → List ℕ) → ((i : ℕ) → length (ms i) ≡ 4096) → length (record_of (answered_from (shown_from (fresh rule) cs))) ≤ length l
    → kept_all l ms (shown_from (fresh rule) cs) ≡ refused → ⊥
unfolding record_of
room rule cs ty lent l ms hm h q =
    let e = length-append head_bytes (encode_elements (answered_from (shown_from (fresh rule) cs))) in
    subst (λ (k : Kept). Room k 0) q
    (along (λ i. ms (suc i)) (λ i. hm (suc i)) cs (fresh rule) (appends nothing_armed None (ms 0) (kept l 0)) lent (all_ranged rule cs ty)
    (head_room (ms 0) l (length (encode_elements (answered_from (shown_from (fresh rule) cs)))) (hm 0) (omega (arith, e, h))))
