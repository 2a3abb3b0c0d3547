-- The reader's automaton over entries. An entry that it does not take is the first after which no grammatical end is possible (20).
use Rattle.std.specs.Prelude.{Bool, true, false, not, cond, ◌&&◌, ◌||◌, List, [], ◌∷◌, ℕ, ◌+◌, ◌≤◌, length, eqb, leb, ltb, None, Option, Some}
use Rattle.std.specs.Bool.{beq}
use Rattle.record.specs.Grammar.{Entry, setup, out, w_length_in, Bytes, FourBytes}
use Rattle.record.specs.declared.scan.Scan.{Scan}
use Rattle.record.specs.declared.scan.Scan.TheVariants.{Between as between, AfterSetup as after_setup, InBulk as in_bulk, InControl as in_control_of}

-- On where a test holds, else refused.
abbrev pub guard : Bool → Scan → Option Scan
guard true s = Some s
guard false s = None

-- A bulk group begins: "endpoint 1 to 15", marked, or unmarked "of one length p from 1".
abbrev pub bulk_start : ℕ → ℕ → Bool → Bool → ℕ → Option Scan
bulk_start a e b true n = guard (leb 1 e) between
bulk_start a e b false n = guard (leb 1 e && leb 1 n) (in_bulk a e (not b) n n)

-- After a SETUP of address a and wLength w, on endpoint 0: "one empty marked DATA1 packet, or a group starting with DATA1 of exactly wLength bytes".
abbrev pub control_start : ℕ → ℕ → ℕ → Bool → Bool → ℕ → Option Scan
control_start a w a' b true n = guard (eqb a' a && (b && (eqb n 0 || eqb n w))) between
control_start a w a' b false n = guard (eqb a' a && (b && (leb 1 n && ltb n w))) (in_control_of a w false n n)

-- In a bulk group: "k packets of one length p, unmarked, then one marked packet of 0 to p bytes; one address and endpoint; PIDs alternate; at most 65,535 bytes".
abbrev pub bulk_next : ℕ → ℕ → Bool → ℕ → ℕ → ℕ → ℕ → Bool → Bool → ℕ → Option Scan
bulk_next a e q p t a' e' b true n = guard (eqb a' a && (eqb e' e && (beq b q && (leb n p && leb (t + n) 65535)))) between
bulk_next a e q p t a' e' b false n = guard (eqb a' a && (eqb e' e && (beq b q && (eqb n p && leb (t + n) 65535)))) (in_bulk a e (not q) p (t + n))

-- In a control's group: "of exactly wLength bytes, whose marked packet is not empty; all on endpoint 0 and the SETUP's address".
abbrev pub control_next : ℕ → ℕ → Bool → ℕ → ℕ → ℕ → ℕ → Bool → Bool → ℕ → Option Scan
control_next a w q p t a' e' b true n = guard (eqb a' a && (eqb e' 0 && (beq b q && (leb 1 n && (leb n p && eqb (t + n) w))))) between
control_next a w q p t a' e' b false n = guard (eqb a' a && (eqb e' 0 && (beq b q && (eqb n p && ltb (t + n) w)))) (in_control_of a w (not q) p (t + n))

-- A SETUP begins a control, unless a group is open.
abbrev pub feed_setup : Scan → ℕ → ℕ → Option Scan
feed_setup between a w = Some (after_setup a w)
feed_setup (after_setup a' w') a w = Some (after_setup a w)
feed_setup (in_bulk a' e q p t) a w = None
feed_setup (in_control_of a' w' q p t) a w = None

-- An OUT packet: address, endpoint, PID, last, length.
abbrev pub feed_out : Scan → ℕ → ℕ → Bool → Bool → ℕ → Option Scan
feed_out between a e b last n = bulk_start a e b last n
feed_out (after_setup a' w) a e b last n = cond (eqb e 0) (control_start a' w a b last n) (bulk_start a e b last n)
feed_out (in_bulk a' e' q p t) a e b last n = bulk_next a' e' q p t a e b last n
feed_out (in_control_of a' w q p t) a e b last n = control_next a' w q p t a e b last n

-- One entry.
abbrev pub feed : Scan → Entry → Option Scan
feed s (setup a lo hi) = feed_setup s a (w_length_in hi)
feed s (out a e b last l) = feed_out s a e b last (length l)

-- Entry after entry; what is refused stays refused.
abbrev pub feed_all : Option Scan → List Entry → Option Scan
feed_all s [] = s
feed_all None (e ∷ r) = None
feed_all (Some s) (e ∷ r) = feed_all (feed s e) r

-- 1 where an OUT packet begins an item, else 0.
abbrev pub starts_out : Scan → ℕ → ℕ
starts_out between e = 1
starts_out (after_setup a w) e = cond (eqb e 0) 0 1
starts_out (in_bulk a e' q p t) e = 0
starts_out (in_control_of a w q p t) e = 0

-- 1 where an entry begins an item, else 0.
abbrev pub starts : Scan → Entry → ℕ
starts s (setup a lo hi) = 1
starts s (out a e b last l) = starts_out s e

-- How many items begin.
abbrev pub count_all : Option Scan → List Entry → ℕ
count_all s [] = 0
count_all None (e ∷ r) = 0
count_all (Some s) (e ∷ r) = starts s e + count_all (feed s e) r

-- A record may end between items or after a SETUP.
abbrev pub Ends : Option Scan → Type 0
Ends None = ⊥
Ends (Some between) = Unit {0}
Ends (Some (after_setup a w)) = Unit {0}
Ends (Some (in_bulk a e q p t)) = ⊥
Ends (Some (in_control_of a w q p t)) = ⊥

-- An entry whose fields lie in their ranges (else 19).
abbrev pub InRange : Entry → Type 0
InRange (setup a lo hi) = (a ≤ 127) × FourBytes lo × FourBytes hi
InRange (out a e b last l) = (a ≤ 127) × (e ≤ 15) × (length l ≤ 64) × Bytes l

-- Those of a list.
abbrev pub AllInRange : List Entry → Type 0
AllInRange [] = Unit {0}
AllInRange (e ∷ r) = InRange e × AllInRange r
