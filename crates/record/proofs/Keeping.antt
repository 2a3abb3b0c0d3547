-- The writer, called after every begin and step and refused nowhere, leaves the record's bytes.
-- Assumes nothing.
use Rattle.std.specs.Prelude.{None, Option, Some}
use mathlib.Core.Path.{◌≡◌, refl, ap, ap₂, sym, subst, ◌∙◌}
use mathlib.Core.Bool.{Bool, true, false}
use mathlib.Core.List.{List, [], ◌∷◌, ◌++◌, map, append_assoc, append-nil}
use Prim.Native.Nat.{ℕ, suc, ◌+◌, ◌≤◌}
use native.Mathlib.Omega.{arith}
use lib.ListN.{length, take, drop, length-append}
use lib.Seq.{sets, sets-eq, length-sets, length-take-le, take_at, drop_at, drop-drop}
use lib.Dec.{eqb, leb}
use borrow.Author.Tests.{leb-true, ne_eqb}
use Rattle.transfers.specs.declared.answers.Armed.{Armed}
use Rattle.transfers.specs.declared.driver.Driver.{Driver}
use Rattle.transfers.specs.Answers.{nothing_armed}
use Rattle.record.specs.Segments.{Element, entry}
use Rattle.record.specs.Calls.{Call, begin, step, cancel, open_pipe, close_pipe, poll_pipe, interrupt, detect, call}
use Rattle.record.specs.Armed.{entries_armed}
use Rattle.record.specs.Shown.{writer_after, shown, shown_from}
use Rattle.record.specs.Record.{counted, answered_from}
use Rattle.record.specs.Bytes.{head_bytes, encode_all, encode_elements, failed_bytes, record_of}
use Rattle.record.specs.Writer.{armed_in_range, appended, count_bytes, told_bytes, append_if, append_of}
use Rattle.record.specs.Kept.{Kept, kept, refused, kept_by, appends, appends_by, kept_from, kept_all}
use Rattle.record.proofs.Encoding.{elements_append, elements_entries}

-- Bytes stored from a place on: all up to their end, and all after it.
seam : (l new : List ℕ) (n : ℕ) → n + length new ≤ length l → length (take n l ++ new) ≡ n + length new
seam l new n h = length-append (take n l) new ∙ ap (λ (k : ℕ). k + length new) (length-take-le n l (omega arith))

put_take : (l new : List ℕ) (n : ℕ) → n + length new ≤ length l → take (n + length new) (sets l n new) ≡ take n l ++ new
put_take l new n h = ap (λ (x : List ℕ). take (n + length new) x) (sets-eq new l n h) ∙ take_at (take n l ++ new) (drop (n + length new) l) (n + length new) (seam l new n h)

put_drop : (l new : List ℕ) (n : ℕ) → n + length new ≤ length l → drop (n + length new) (sets l n new) ≡ drop (n + length new) l
put_drop l new n h = ap (λ (x : List ℕ). drop (n + length new) x) (sets-eq new l n h) ∙ drop_at (take n l ++ new) (drop (n + length new) l) (n + length new) (seam l new n h)

-- The used bytes of a record are head and entries; past them it is as it was lent (l₀).
pub record Holds (l₀ l : List ℕ) (n : ℕ) (es : List Element) : Type 0 where
  pub inside : n ≤ length l
  pub low : 5 ≤ n
  pub bytes : take n l ≡ record_of es
  pub rest : drop n l ≡ drop n l₀

-- So it is where the writer was not refused.
abbrev pub Fine : List ℕ → Kept → List Element → Type 0
Fine l₀ refused es = Unit {0}
Fine l₀ (kept l n) es = Holds l₀ l n es

-- More entries after those there are.
more : (es x : List Element) → record_of es ++ encode_elements x ≡ record_of (es ++ x)
unfolding record_of
more es x = append_assoc head_bytes (encode_elements es) (encode_elements x) ∙ ap (λ (l : List ℕ). head_bytes ++ l) (sym (elements_append es x))

-- What a call tells the writer: the entries that it armed, and its count.
abbrev pub told : List ℕ → Armed → Option ℕ → List Element
told m a x = map entry (entries_armed m a) ++ counted x

count_bytes_lem : (x : Option ℕ) → count_bytes x ≡ encode_elements (counted x)
unfolding encode_elements
count_bytes_lem None = refl
count_bytes_lem (Some n) = sym (append-nil (failed_bytes n))

entries_only : (a : Armed) (m : List ℕ) (n : ℕ) → 5 ≤ n → appended a m n ≡ encode_all (entries_armed m a)
unfolding appended
entries_only a m n h = rw (ne_eqb n 0 (λ e. omega arith)) refl

-- With a head there, none is written.
pub no_head_of : (a : Armed) (x : Option ℕ) (m : List ℕ) (n : ℕ) → 5 ≤ n → told_bytes a x m n ≡ encode_elements (told m a x)
unfolding told_bytes
no_head_of a x m n h =
    ap₂ (λ (u v : List ℕ). u ++ v) (entries_only a m n h ∙ elements_entries (entries_armed m a)) (count_bytes_lem x)
    ∙ sym (elements_append (map entry (entries_armed m a)) (counted x))

grow : (l₀ : List ℕ) (a : Armed) (x : Option ℕ) (m l : List ℕ) (n : ℕ) (es : List Element) → Holds l₀ l n es → n + length (told_bytes a x m n) ≤ length l
    → Holds l₀ (sets l n (told_bytes a x m n)) (n + length (told_bytes a x m n)) (es ++ told m a x)
grow l₀ a x m l n es h room =
    let new = told_bytes a x m n in
    record {
      inside = omega (arith, room, length-sets l n new);
      low = omega (arith, h.low);
      bytes = put_take l new n room ∙ ap₂ (λ (u y : List ℕ). u ++ y) h.bytes (no_head_of a x m n h.low) ∙ more es (told m a x);
      rest = put_drop l new n room ∙ sym (drop-drop (length new) n l) ∙ ap (λ (u : List ℕ). drop (length new) u) h.rest ∙ drop-drop (length new) n l₀;
    }

-- One call of the writer.
appended_fine : (l₀ : List ℕ) (a : Armed) (x : Option ℕ) (m : List ℕ) (k : Kept) (es : List Element) → Fine l₀ k es → Fine l₀ (appends a x m k) (es ++ told m a x)
unfolding append_of
appended_fine l₀ a x m refused es h = tt
appended_fine l₀ a x m (kept l n) es h = go (eqb (length m) 4096) (armed_in_range a) (leb (n + length (told_bytes a x m n)) (length l)) refl
  where
    go : (b c r : Bool) → leb (n + length (told_bytes a x m n)) (length l) ≡ r
        → Fine l₀ (kept_by (append_if b c r (told_bytes a x m n) l n).answer (append_if b c r (told_bytes a x m n) l n).bytes) (es ++ told m a x)
    go false c r q = tt
    go true false r q = tt
    go true true false q = tt
    go true true true q = grow l₀ a x m l n es h (leb-true (n + length (told_bytes a x m n)) (length l) q)

-- The first call leaves the head alone.
first : (m l : List ℕ) → Fine l (appends nothing_armed None m (kept l 0)) []
unfolding append_of told_bytes appended record_of encode_all encode_elements
first m l = go (eqb (length m) 4096) (armed_in_range nothing_armed) (leb 5 (length l)) refl
  where
    go : (b c r : Bool) → leb 5 (length l) ≡ r → Fine l (kept_by (append_if b c r head_bytes l 0).answer (append_if b c r head_bytes l 0).bytes) []
    go false c r q = tt
    go true false r q = tt
    go true true false q = tt
    go true true true q =
        let room = leb-true 5 (length l) q in
        record { inside = omega (arith, room, length-sets l 0 head_bytes); low = omega arith; bytes = put_take l head_bytes 0 room; rest = put_drop l head_bytes 0 room }

-- One call of the driver: what it answers that it armed, and its count, are appended.
one : (l₀ m₀ : List ℕ) (k : Kept) (es : List Element) (d : Driver) (c : Call) → Fine l₀ k es
    → Fine l₀ (appends_by (writer_after c) m₀ (shown c (call d c)) k) (es ++ told (call d c).memory (call d c).armed (call d c).failed)
unfolding call
one l₀ m₀ k es d (begin x buf m log) h = let o = call d (begin x buf m log) in appended_fine l₀ o.armed o.failed o.memory k es h
one l₀ m₀ k es d (step b y buf m log) h = let o = call d (step b y buf m log) in appended_fine l₀ o.armed o.failed o.memory k es h
one l₀ m₀ k es d cancel h = let o = call d cancel in appended_fine l₀ o.armed o.failed m₀ k es h
one l₀ m₀ k es d (open_pipe a x e p i log) h = subst (Fine l₀ k) (sym (append-nil es)) h
one l₀ m₀ k es d (close_pipe n) h = subst (Fine l₀ k) (sym (append-nil es)) h
one l₀ m₀ k es d (poll_pipe n y m log) h = subst (Fine l₀ k) (sym (append-nil es)) h
one l₀ m₀ k es d (interrupt ints status log) h = subst (Fine l₀ k) (sym (append-nil es)) h
one l₀ m₀ k es d (detect sie log) h = subst (Fine l₀ k) (sym (append-nil es)) h

along : (l₀ : List ℕ) (ms : ℕ → List ℕ) (cs : List Call) (k : Kept) (es : List Element) (d : Driver) → Fine l₀ k es → Fine l₀ (kept_from ms k (shown_from d cs)) (es ++ answered_from (shown_from d cs))
unfolding kept_from answered_from shown_from
along l₀ ms [] k es d h = subst (Fine l₀ k) (sym (append-nil es)) h
along l₀ ms (c ∷ cs) k es d h =
    let o = call d c in
    let a = map entry (entries_armed o.memory o.armed) in
    let b = counted o.failed in
    let r = answered_from (shown_from o.next cs) in
    let later : ℕ → List ℕ = λ i. ms (suc i) in
    subst (Fine l₀ (kept_from later (appends_by (writer_after c) (ms 0) (shown c o) k) (shown_from o.next cs))) (append_assoc es (a ++ b) r ∙ ap (λ (v : List Element). es ++ v) (append_assoc a b r))
    (along l₀ later cs (appends_by (writer_after c) (ms 0) (shown c o) k) (es ++ (a ++ b)) o.next (one l₀ (ms 0) k es d c h))

-- The writer's calls over a list of driver calls.
pub all_fine : (d : Driver) (l : List ℕ) (ms : ℕ → List ℕ) (cs : List Call) → Fine l (kept_all l ms (shown_from d cs)) (answered_from (shown_from d cs))
all_fine d l ms cs = along l (λ i. ms (suc i)) cs (appends nothing_armed None (ms 0) (kept l 0)) [] d (first (ms 0) l)
