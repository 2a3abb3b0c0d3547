-- Term 3: the customer's sentence (`Unbroken`, `ComesFrom`), what request R-13 adds to it (`Recorded`), what both rest on (`table`, `stages`), and the record's bytes.
use Rattle.std.specs.Prelude.{◌≡◌, false, List, [], map, ℕ, ◌≤◌, length, take, drop}
use Rattle.transfers.specs.Reply.{Reply, result}
use Rattle.record.specs.Grammar.{Bytes, Entry, part_entries, PlainReading, item}
use Rattle.record.specs.Segments.{Element, entry, Reading, unfailed}
use Rattle.record.specs.Wire.{File}
use Rattle.record.specs.Asked.{listed, item_of, armed_by}
use Rattle.record.specs.Told.{Shown, untold}
use Rattle.record.specs.Record.{record_from, answered_from, CountsTo}
use Rattle.record.specs.Fates.{Fate, fates_from, begun_from, all_of, ended_of, broken_of, FirstsOf, Made}
use Rattle.record.specs.Premises.{PremisesFrom, LentFrom}
use Rattle.record.specs.Stages.{StagesFrom}
use Rattle.record.specs.Bytes.{record_of}
use Rattle.record.specs.Kept.{kept, refused, kept_all}
use Rattle.record.specs.Reader.{version_at}
use Rattle.record.specs.Verdict.{Whole, Verdict}
use Rattle.record.specs.Items.{Accepted, first_at, items_from, answers_for, moves, Held}

-- ---- the lists of calls, and what they show

-- An interface: what its driver is made with, its calls, and of a list of them: that the program's types allow it, that it lends packet memory of 4,096 bytes, what it
-- shows from a fresh driver, what its calls answer besides (`Table`), and that nothing that leads to a transfer and no step is refused (`Unrefused`). `Ample` is what a
-- driver has to be made with so that every record comes from some list.
pub record Interface : Type 1 where
  pub Made : Type 0
  pub Ample : Made → Type 0
  pub Call : Type 0
  pub AllTyped : List Call → Type 0
  pub AllLent : List Call → Type 0
  pub shows : Made → List Call → List Shown
  pub Table : Made → List Call → Type 0
  pub Unrefused : Made → List Call → Type 0

-- Of what a list shows (os), f the registers before its first call, any: the wire record.
abbrev pub wire_record : File → List Shown → List Element
wire_record f os = record_from (untold f) os

-- What became of the transfers begun.
abbrev pub fates : File → List Shown → List Fate
fates f os = fates_from (untold f) os

-- The premises.
abbrev pub Premises : File → List Shown → Type 0
Premises f os = PremisesFrom (untold f) os

-- ---- the customer's sentence
--
-- "For every list of driver calls (begin, step, cancel, open, close, poll, interrupt routine and detection), refused ones included, from a fresh driver,
-- each getting the state the last one returned, and whatever the samples show and packet memory holds: its wire record, the SETUPs and OUT packets in order of
-- arming, lies in document 01's grammar and has exactly one reading. That reading equals the transfers begun, in order, bulk IN left out: each one's address,
-- SETUP, endpoint, first PID and sent bytes are the caller's, a control OUT's being its buffer's first wLength, and its packets are document 01's cutting of
-- those bytes. Every record of the grammar comes from some such list that meets the premises. Premises: each started transfer ended with a count, each step
-- that acted on an OUT transfer was lent its begin's bytes, and an OUT stage was reported complete only after its marked packet was taken."

-- "each started transfer ended with a count": the record is one of the grammar, its one reading is the transfers begun, and its packets are their cuttings.
pub record Unbroken (f : File) (os : List Shown) : Type 0 where
  pub record_is : List Entry
  pub is : wire_record f os ≡ map entry record_is
  pub reading : PlainReading record_is
  pub only : (r : PlainReading record_is) → r.parts ≡ reading.parts
  pub transfers : map item reading.parts ≡ map item_of (listed (begun_from os))
  pub packets : map part_entries reading.parts ≡ map armed_by (listed (begun_from os))

-- A list of calls that meets the premises, without a failure, and has a given record. It also meets document 01's own premise on the bytes lent (`lent`), and none of
-- its begins, or comings and starts, and of its steps is refused.
pub record ComesFrom (k : Interface) (made : k.Made) (f : File) (r : List Entry) : Type 0 where
  pub calls : List k.Call
  pub typed : k.AllTyped calls
  pub premises : Premises f (k.shows made calls)
  pub lent : LentFrom (untold f) (k.shows made calls)
  pub unrefused : k.Unrefused made calls
  pub unbroken : broken_of (fates f (k.shows made calls)) ≡ []
  pub is : wire_record f (k.shows made calls) ≡ map entry r

-- ---- runs with failures
--
-- Request R-13: "Under the other premises of the record's claim, runs with failures are covered too, once every started transfer has ended or been cancelled:
-- the reading is the transfers that ended with a count, the entries counted are the first of their own transfer's, and only version 2 records without 0x58
-- need come from some list."
-- The record has a reading and no other. Each transfer begun ended with a count or failed, in order, and the record is made of their entries; the reading's items
-- are those of the transfers that ended with a count, its packets their cuttings, and the entries that each count counts are the first of the transfer that failed there.
pub record Recorded (f : File) (os : List Shown) : Type 0 where
  pub reading : Reading (wire_record f os)
  pub only : (r : Reading (wire_record f os)) → (r.segments ≡ reading.segments) × (r.last ≡ reading.last)
  pub begun : all_of (fates f os) ≡ begun_from os
  pub made : Made (fates f os) (wire_record f os)
  pub transfers : map item (unfailed reading.segments reading.last) ≡ map item_of (listed (ended_of (fates f os)))
  pub packets : map part_entries (unfailed reading.segments reading.last) ≡ map armed_by (listed (ended_of (fates f os)))
  pub firsts : FirstsOf reading.segments (broken_of (fates f os))

-- ---- all of it
--
-- A begin, or a coming and its start, answers its row, so the transfers begun are those "that the table doesn't refuse" (`table`); the OUT stages of the premises are those in which
-- OUT packets were armed (`stages`).
pub record Term3 (k : Interface) : Type 0 where
  pub unbroken : (made : k.Made) (f : File) (cs : List k.Call) → k.AllTyped cs → let os = k.shows made cs in Premises f os → broken_of (fates f os) ≡ [] → Unbroken f os
  pub comes : (made : k.Made) → k.Ample made → (f : File) (r : List Entry) → PlainReading r → ComesFrom k made f r
  pub recorded : (made : k.Made) (f : File) (cs : List k.Call) → k.AllTyped cs → let os = k.shows made cs in Premises f os → Recorded f os
  pub table : (made : k.Made) (cs : List k.Call) → k.Table made cs
  pub stages : (made : k.Made) (f : File) (cs : List k.Call) → k.AllTyped cs → StagesFrom false (untold f) (k.shows made cs)

-- ---- the record's answers, writer and reader

-- The writer left the record's n bytes, head first; past them the record lent (l) is as it was.
pub record Written (f : File) (os : List Shown) (l l' : List ℕ) (n : ℕ) : Type 0 where
  pub used : n ≡ length (record_of (wire_record f os))
  pub bytes : take n l' ≡ record_of (wire_record f os)
  pub rest : drop n l' ≡ drop n l

-- The reader takes bytes s for version 2, accepts them, counts the transfers that ended with a count, bulk IN left out, and its cursor hands out the items of the
-- record's one reading, whose bytes stand at their places.
pub record ReadBack (f : File) (os : List Shown) (s : List ℕ) : Type 0 where
  pub recorded : Recorded f os
  pub version : version_at s ≡ 2
  pub only : (a : Reply ℕ) → Verdict s a → a ≡ result (length (listed (ended_of (fates f os))))
  pub verdict : Verdict s (result (length (listed (ended_of (fates f os)))))
  pub items : items_from (moves recorded.reading.segments recorded.reading.last) s first_at ≡ answers_for recorded.reading.segments recorded.reading.last first_at
  pub held : Held s recorded.reading.segments recorded.reading.last first_at

-- "Begin and step also answer what they armed", step and cancel the count; a transfer arms at most 65,536 entries, so that each count fits "a 32-bit count"; the
-- writer "leaves exactly the driver's record", and is refused nowhere if there is room; the reader reads it.
pub record InBytes (k : Interface) : Type 0 where
  pub answered : (made : k.Made) (f : File) (cs : List k.Call) → k.AllTyped cs → let os = k.shows made cs in wire_record f os ≡ answered_from os
  pub counts : (made : k.Made) (f : File) (cs : List k.Call) → k.AllTyped cs → CountsTo 65536 (wire_record f (k.shows made cs))
  pub written : (made : k.Made) (f : File) (cs : List k.Call) → k.AllTyped cs → (l : List ℕ) (ms : ℕ → List ℕ) (l' : List ℕ) (n : ℕ) → let os = k.shows made cs in
      kept_all l ms os ≡ kept l' n → Written f os l l' n
  pub room : (made : k.Made) (cs : List k.Call) → k.AllTyped cs → k.AllLent cs → (l : List ℕ) (ms : ℕ → List ℕ) → ((i : ℕ) → length (ms i) ≡ 4096) → let os = k.shows made cs in
      length (record_of (answered_from os)) ≤ length l → kept_all l ms os ≡ refused → ⊥
  pub read : (made : k.Made) (f : File) (cs : List k.Call) → k.AllTyped cs → let os = k.shows made cs in Premises f os → ReadBack f os (record_of (wire_record f os))

-- Any bytes that the reader accepts hand out their items, any bytes are a record in at most one way, and any bytes deserve at most one answer.
pub record AnyBytes : Type 0 where
  pub accepted : (s : List ℕ) (n : ℕ) → Verdict s (result n) → Accepted s n
  pub one : (s : List ℕ) (v w : Whole s)
      → (v.two ≡ w.two) × (v.ms ≡ w.ms) × (v.reads.reading.segments ≡ w.reads.reading.segments) × (v.reads.reading.last ≡ w.reads.reading.last)
  pub verdicts : (s : List ℕ) (a b : Reply ℕ) → Bytes s → Verdict s a → Verdict s b → a ≡ b
