-- The items of a record, one after another: "a control's address, SETUP and OUT bytes; a bulk group's address, endpoint, first PID and bytes".
use Rattle.std.specs.Prelude.{◌≡◌, Bool, true, false, not, cond, List, [], ◌∷◌, ◌++◌, ℕ, zero, suc, ◌+◌, length, take, drop, eqb, Option, Some, None, Result, Ok, Err}
use Rattle.record.specs.Grammar.{Part, bulk_part, control_part, no_group, one_group, part_entries, parts_entries, group_bytes, sent_bytes}
use Rattle.record.specs.Segments.{Segment, unfailed}
use Rattle.record.specs.Bytes.{four_of, encode_all}
use Rattle.record.specs.Reader.{version_at, look}
use Rattle.record.specs.Verdict.{version_number, Whole}
use Rattle.record.specs.declared.look.Look.{Look}
use Rattle.record.specs.declared.look.Look.TheVariants.{Setup, Out, Failed}
use Rattle.record.specs.declared.items.Span.{Span}
use Rattle.record.specs.declared.items.ItemAnswer.{ItemAnswer}
use Rattle.record.specs.declared.items.ItemAnswer.TheVariants.{Control, Bulk, Failed as failed_item}
use Rattle.record.specs.declared.refusal.Refusal.{Refusal}
use Rattle.std.proofs.Common.{ControlFlow, Continue, Break}

-- The first item stands after the head.
abbrev pub first_at : ℕ
first_at = 5

-- One packet of a group: a marked one ends it.
abbrev pub group_look : Result (Option Look) Refusal → Span → ControlFlow Span Span
group_look (Ok (Some (Out x))) p = cond x.last (Break (record { at = p.at + (6 + x.length); count = p.count + x.length })) (Continue (record { at = p.at + (6 + x.length); count = p.count + x.length }))
group_look (Ok (Some (Setup a w))) p = Break p
group_look (Ok (Some (Failed m))) p = Break p
group_look (Ok None) p = Break p
group_look (Err why) p = Break p

-- The same at a position of a record.
unfoldable pub group_of : List ℕ → Span → ControlFlow Span Span
group_of s p = group_look (look (drop p.at s)) p

-- Packet by packet, with f packets at most.
unfoldable pub group_from : ℕ → List ℕ → Span → Span
group_from zero s p = p
group_from (suc f) s p = elim (group_of s p) as (λ _. Span) [ Continue q ↦ group_from f s q | Break q ↦ q ]

-- The packets from a position on, up to a marked one. A packet has at least one byte in the record, so as many packets as bytes are enough.
unfoldable pub group_at_of : List ℕ → ℕ → Span
group_at_of s at = group_from (suc (length s)) s (record { at = at; count = 0 })

-- What follows a SETUP: nothing, or packets on endpoint 0.
abbrev pub sent_look : Result (Option Look) Refusal → List ℕ → ℕ → Span
sent_look (Ok (Some (Out x))) s at = cond (eqb x.endpoint 0) (group_at_of s at) (record { at = at; count = 0 })
sent_look (Ok (Some (Setup a w))) s at = record { at = at; count = 0 }
sent_look (Ok (Some (Failed m))) s at = record { at = at; count = 0 }
sent_look (Ok None) s at = record { at = at; count = 0 }
sent_look (Err why) s at = record { at = at; count = 0 }

-- The same at a position of a record.
unfoldable pub sent_at : List ℕ → ℕ → Span
sent_at s at = sent_look (look (drop at s)) s at

-- A count above 0: the item before it failed.
abbrev pub failed_look : Result (Option Look) Refusal → Bool
failed_look (Ok (Some (Failed m))) = not (eqb m 0)
failed_look (Ok (Some (Setup a w))) = false
failed_look (Ok (Some (Out x))) = false
failed_look (Ok None) = false
failed_look (Err why) = false

-- The same at a position of a record.
unfoldable pub failed_at : List ℕ → ℕ → Bool
failed_at s at = failed_look (look (drop at s))

-- "lists .. only transfers that didn't fail": of one that failed, the position after its count.
abbrev pub unless_failed : Bool → ℕ → ItemAnswer → Option ItemAnswer
unless_failed true at y = Some (failed_item (record { at = at + 5 }))
unless_failed false at y = Some y

-- An item, by the entry that it begins with; a count of none stands for a transfer that armed nothing.
abbrev pub item_look : Result (Option Look) Refusal → List ℕ → ℕ → Option ItemAnswer
item_look (Ok (Some (Setup a w))) s at =
    unless_failed (failed_at s (sent_at s (at + 10)).at) (sent_at s (at + 10)).at
    (Control (record { address = a; setup = at + 2; count = (sent_at s (at + 10)).count; next = record { at = (sent_at s (at + 10)).at } }))
item_look (Ok (Some (Out x))) s at =
    unless_failed (failed_at s (group_at_of s at).at) (group_at_of s at).at
    (Bulk (record { address = x.address; endpoint = x.endpoint; pid = x.pid; count = (group_at_of s at).count; next = record { at = (group_at_of s at).at } }))
item_look (Ok (Some (Failed m))) s at = Some (failed_item (record { at = at + 5 }))
item_look (Ok None) s at = None
item_look (Err why) s at = None

-- What the cursor hands out at a position.
unfoldable pub item_at : List ℕ → ℕ → Option ItemAnswer
item_at s at = item_look (look (drop at s)) s at

-- What stands for a part of a record whose entries begin at a position: its item, by the place of the SETUP bytes and the count of OUT bytes, and the position after it.
abbrev pub item_for : Part → ℕ → Option ItemAnswer
item_for (bulk_part a e b xs l) at = Some (Bulk (record { address = a; endpoint = e; pid = b; count = length (group_bytes xs l); next = record { at = at + length (encode_all (part_entries (bulk_part a e b xs l))) } }))
item_for (control_part a lo hi s) at = Some (Control (record { address = a; setup = at + 2; count = length (sent_bytes s); next = record { at = at + length (encode_all (part_entries (control_part a lo hi s))) } }))

-- The cursor after an item.
abbrev pub next_of : Option ItemAnswer → ℕ → ℕ
next_of (Some (Control c)) at = c.next.at
next_of (Some (Bulk b)) at = b.next.at
next_of (Some (failed_item c)) at = c.at
next_of None at = at

-- What the cursor hands out, k times.
unfoldable pub items_from : ℕ → List ℕ → ℕ → List (Option ItemAnswer)
items_from zero s at = []
items_from (suc k) s at = item_at s at ∷ items_from k s (next_of (item_at s at) at)

-- What stands for the parts of a record whose entries begin at a position.
abbrev pub items_for : List Part → ℕ → List (Option ItemAnswer)
items_for [] at = []
items_for (q ∷ qs) at = item_for q at ∷ items_for qs (at + length (encode_all (part_entries q)))

-- What stands for a reading: the whole transfers before a count, one that failed, and so on; then the end.
abbrev pub answers_for : List Segment → List Part → ℕ → List (Option ItemAnswer)
answers_for [] ps at = items_for ps at ++ (None ∷ [])
answers_for (g ∷ gs) ps at =
    let end = at + length (encode_all (parts_entries g.whole ++ g.first)) + 5 in
    items_for g.whole at ++ (Some (failed_item (record { at = end })) ∷ answers_for gs ps end)

-- How many times the cursor is asked: once for each whole transfer, once for each count, and once for the end.
abbrev pub moves : List Segment → List Part → ℕ
moves [] ps = suc (length ps)
moves (g ∷ gs) ps = length g.whole + suc (moves gs ps)

-- "OUT: 0x4F, address, endpoint, PID, last, length, bytes": packet by packet, each one's length stands at place 5 of its entry and its bytes after it.
abbrev pub PacketsAt : List ℕ → ℕ → List (List ℕ) → Type 0
PacketsAt s at [] = Unit {0}
PacketsAt s at (l ∷ ls) = (take (suc (length l)) (drop (at + 5) s) ≡ length l ∷ l) × PacketsAt s (at + (6 + length l)) ls

-- What stands at an item's places: the SETUP's eight bytes where the answer says (at + 2), its OUT packets from at + 10 on; a bulk group's packets from at on.
abbrev pub HeldAt : List ℕ → Part → ℕ → Type 0
HeldAt s (bulk_part a e b xs l) at = PacketsAt s at (xs ++ (l ∷ []))
HeldAt s (control_part a lo hi no_group) at = take 8 (drop (at + 2) s) ≡ four_of lo ++ four_of hi
HeldAt s (control_part a lo hi (one_group xs l)) at = (take 8 (drop (at + 2) s) ≡ four_of lo ++ four_of hi) × PacketsAt s (at + 10) (xs ++ (l ∷ []))

-- Of the parts of a record whose entries begin at a position.
abbrev pub HeldAll : List ℕ → List Part → ℕ → Type 0
HeldAll s [] at = Unit {0}
HeldAll s (q ∷ qs) at = HeldAt s q at × HeldAll s qs (at + length (encode_all (part_entries q)))

-- Of a reading.
abbrev pub Held : List ℕ → List Segment → List Part → ℕ → Type 0
Held s [] ps at = HeldAll s ps at
Held s (g ∷ gs) ps at = HeldAll s g.whole at × Held s gs ps (at + length (encode_all (parts_entries g.whole ++ g.first)) + 5)

-- A record that the check accepts has a version and a reading; the cursor hands out its items from the first on, and then the end; and their bytes stand at
-- their places.
pub record Accepted (s : List ℕ) (n : ℕ) : Type 0 where
  pub record_is : Whole s
  pub version : version_at s ≡ version_number record_is.two
  pub count : n ≡ length (unfailed record_is.reads.reading.segments record_is.reads.reading.last)
  pub items : items_from (moves record_is.reads.reading.segments record_is.reads.reading.last) s first_at
      ≡ answers_for record_is.reads.reading.segments record_is.reads.reading.last first_at
  pub held : Held s record_is.reads.reading.segments record_is.reads.reading.last first_at
