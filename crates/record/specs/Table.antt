-- Document 01's table, the row of begin, by what the calls so far tell: no driver state.
use Rattle.std.specs.Prelude.{◌≡◌, Bool, true, false, ◌&&◌, List, [], ◌∷◌, ℕ, length, eqb, leb}
use Rattle.transfers.specs.declared.driver.Driver.{Driver}
use Rattle.transfers.specs.Reply.{Reply, begin_reply}
use Rattle.transfers.specs.Rows.{unless, control_fields_row, bulk_fields_row}
use Rattle.record.specs.Calls.{Begin, control_begin, bulk_begin, Call, begin, step, cancel, open_pipe, close_pipe, poll_pipe, interrupt, detect, Answer, call}
use Rattle.record.specs.Told.{Live, no_transfer, live, Told, hears}
use Rattle.record.specs.Shown.{shown}

-- No transfer is under way.
abbrev pub is_free : Live → Bool
is_free no_transfer = true
is_free (live x buf) = false

-- The fields that the row looks at, with the buffer's length (n).
abbrev pub fields_row : Begin → ℕ → Reply (Unit {0})
fields_row (control_begin a x p s ph) n = control_fields_row a p
fields_row (bulk_begin d a e p t b) n = bulk_fields_row a e p n

-- "15 packet memory not 4,096 bytes, or log below 192 words"; "8 a transfer is under way; 12 address above 127; 11 bulk endpoint not 1 to 15; 13 packet size
-- not 1 to 64; 14 bulk buffer above 65,535 bytes", in this order.
abbrev pub row_of : Live → Begin → List ℕ → List ℕ → List ℕ → Reply (Unit {0})
row_of l x buf m log = unless (eqb (length m) 4096 && leb 192 (length log)) 15 (unless (is_free l) 8 (fields_row x (length buf)))

-- A begin answers what the row says.
abbrev pub Row : Live → (c : Call) → Answer c → Type 0
Row l (begin x buf m log) a = begin_reply a ≡ row_of l x buf m log
Row l (step b y buf m log) a = Unit {0}
Row l cancel a = Unit {0}
Row l (open_pipe u x e p i log) a = Unit {0}
Row l (close_pipe n) a = Unit {0}
Row l (poll_pipe n y m log) a = Unit {0}
Row l (interrupt ints status log) a = Unit {0}
Row l (detect sie log) a = Unit {0}

-- Along a list of calls.
unfoldable pub TableFrom : Told → Driver → List Call → Type 0
TableFrom t d [] = Unit {0}
TableFrom t d (c ∷ cs) = let o = call d c in Row t.live c o.answer × TableFrom (hears t (shown c o)) o.next cs
