-- The record's reader over bytes: "18 mark or version; then entry by entry 19 cut, of unknown kind or a field outside its range, and 20 the first after which no grammatical end is possible; at the end, 20 an unfinished transfer".
use Rattle.std.specs.Prelude.{Bool, cond, ◌&&◌, ◌||◌, List, ℕ, zero, suc, ◌+◌, ◌*◌, length, drop, get_or, eqb, leb, Err, None, Ok, Option, Result, Some}
use Rattle.record.specs.Scan.{feed_setup, feed_out, starts_out}
use Rattle.record.specs.Place.{feed_failed, run_on, lost}
use Rattle.record.specs.declared.refusal.Refusal.TheVariants.{Mark, Field, Grammar}
use Rattle.record.specs.declared.scan.Scan.{Scan}
use Rattle.record.specs.declared.scan.Scan.TheVariants.{Between as between, AfterSetup as after_setup, InBulk as in_bulk, InControl as in_control_of}
use Rattle.record.specs.declared.look.Look.{Look}
use Rattle.record.specs.declared.look.Look.TheVariants.{Setup, Out, Failed}
use Rattle.record.specs.declared.reader.Progress.{Progress}
use Rattle.record.specs.declared.refusal.Refusal.{Refusal}
use Rattle.std.proofs.Common.{ControlFlow, Continue, Break}

-- The version in a head.
abbrev pub version_in : List ℕ → ℕ
version_in s = get_or s 3 0 + get_or s 4 0 * 256

-- The version of a record's head; 0 where there is none.
unfoldable pub version_at : List ℕ → ℕ
version_at s = cond (leb 5 (length s)) (version_in s) 0

-- "18 mark or version"; "the reader still takes version 1"
unfoldable pub head_right : List ℕ → Bool
head_right s = leb 5 (length s) && (eqb (get_or s 0 0) 0x57 && (eqb (get_or s 1 0) 0x4C && (eqb (get_or s 2 0) 0x47 && (eqb (version_in s) 1 || eqb (version_in s) 2))))

-- "SETUP: 0x53, address (0 to 127), 8 bytes", the last two of them wLength.
unfoldable pub look_setup : List ℕ → Result (Option Look) Refusal
look_setup l = cond (leb 10 (length l)) (cond (leb (get_or l 1 0) 127) (Ok (Some (Setup (get_or l 1 0) (get_or l 8 0 + get_or l 9 0 * 256)))) (Err Field)) (Err Field)

-- "address, endpoint (0 to 15), PID (0 or 1), last (0 or 1), length (0 to 64)"
unfoldable pub fields_fit : ℕ → ℕ → ℕ → ℕ → ℕ → Bool
fields_fit a e pid last n = leb a 127 && (leb e 15 && (leb pid 1 && (leb last 1 && leb n 64)))

-- "OUT: 0x4F, address, endpoint, PID, last, length, bytes"
unfoldable pub look_out : List ℕ → Result (Option Look) Refusal
look_out l =
    cond (leb 6 (length l))
    (cond (fields_fit (get_or l 1 0) (get_or l 2 0) (get_or l 3 0) (get_or l 4 0) (get_or l 5 0))
    (cond (leb (6 + get_or l 5 0) (length l))
    (Ok (Some (Out (record { address = get_or l 1 0; endpoint = get_or l 2 0; pid = eqb (get_or l 3 0) 1; last = eqb (get_or l 4 0) 1; length = get_or l 5 0 }))))
    (Err Field))
    (Err Field))
    (Err Field)

-- "the entry 0x58 and a 32-bit count, low byte first"
unfoldable pub look_failed : List ℕ → Result (Option Look) Refusal
look_failed l = cond (leb 5 (length l)) (Ok (Some (Failed ((get_or l 1 0 + get_or l 2 0 * 256) + (get_or l 3 0 + get_or l 4 0 * 256) * 65536)))) (Err Field)

-- The entry at the front of bytes, if there are any: "19 cut, of unknown kind or a field outside its range".
unfoldable pub look : List ℕ → Result (Option Look) Refusal
look l = cond (eqb (length l) 0) (Ok None) (cond (eqb (get_or l 0 0) 0x53) (look_setup l) (cond (eqb (get_or l 0 0) 0x4F) (look_out l) (cond (eqb (get_or l 0 0) 0x58) (look_failed l) (Err Field))))

-- "at the end, 20 an unfinished transfer"
abbrev pub finish : Scan → ℕ → Result ℕ Refusal
finish between k = Ok k
finish (after_setup a w) k = Ok k
finish (in_bulk a e q p t) k = Err Grammar
finish (in_control_of a w q p t) k = Err Grammar

-- The automaton takes the entry, or no grammatical end is possible (20).
abbrev pub go_on : Option Scan → ℕ → ℕ → ℕ → Result Progress Refusal
go_on None at run k = Err Grammar
go_on (Some s) at run k = Ok (record { at = at; scan = s; run = run; count = k })

-- One entry. `two` is version 2; in version 1 0x58 is "of unknown kind".
abbrev pub turn_entry : Bool → Look → Progress → Result Progress Refusal
turn_entry two (Setup a w) p = go_on (feed_setup p.scan a w) (p.at + 10) 1 (p.count + 1)
turn_entry two (Out x) p =
    go_on (feed_out p.scan x.address x.endpoint x.pid x.last x.length) (p.at + (6 + x.length)) (run_on (starts_out p.scan x.endpoint) p.run) (p.count + starts_out p.scan x.endpoint)
turn_entry two (Failed m) p = cond two (go_on (feed_failed p.scan p.run m) (p.at + 5) 0 (lost m p.count)) (Err Field)

-- The reader goes on after an entry that it takes.
abbrev pub turned : Result Progress Refusal → ControlFlow (Result ℕ Refusal) Progress
turned (Ok q) = Continue q
turned (Err why) = Break (Err why)

-- One entry: first 19, then 20.
abbrev pub turn_look : Bool → Result (Option Look) Refusal → Progress → ControlFlow (Result ℕ Refusal) Progress
turn_look two (Ok None) p = Break (finish p.scan p.count)
turn_look two (Ok (Some y)) p = turned (turn_entry two y p)
turn_look two (Err why) p = Break (Err why)

-- The same at a position of a record.
unfoldable pub turn_of : List ℕ → Bool → Progress → ControlFlow (Result ℕ Refusal) Progress
turn_of s two p = turn_look two (look (drop p.at s)) p

-- Entry by entry, with f entries at most.
unfoldable pub read_from : ℕ → List ℕ → Bool → Progress → Result ℕ Refusal
read_from zero s two p = Err Field
read_from (suc f) s two p = elim (turn_of s two p) as (λ _. (Result ℕ Refusal)) [ Continue q ↦ read_from f s two q | Break a ↦ a ]

-- After the head nothing is read.
abbrev pub at_head : Progress
at_head = record { at = 5; scan = between; run = 0; count = 0 }

-- The check of a record: its number, or the count of its transfers. An entry has at least one byte, so as many entries as bytes are enough.
unfoldable pub check_of : List ℕ → Result ℕ Refusal
check_of s = cond (head_right s) (read_from (suc (length s)) s (eqb (version_at s) 2) at_head) (Err Mark)
