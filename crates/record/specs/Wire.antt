-- The wire record of one call: "taken from the registers, as the logs performed in order leave them, and packet memory at each arming, never from the driver's state".
use Rattle.std.specs.Prelude.{Bool, true, false, cond, ◌&&◌, List, [], ◌∷◌, ◌++◌, map, ℕ, take, drop, eqb}
use Rattle.transfers.specs.Log.{Write, wr, masked}
use Rattle.record.specs.Chip.{setup_low, setup_high, ep_buffer, addr_endp, sie_ctrl, field, is_set, slot_place, in_half}
use Rattle.record.specs.Grammar.{Four, four, Entry, setup, out}

-- The registers: a word for each number.
abbrev pub File : Type 0
File = ℕ → ℕ

-- A write, performed on the registers.
abbrev pub perform : File → Write → File
perform f (wr r m v) = λ q. cond (eqb q r) (masked (f q) m v) (f q)

-- "The host's glue performs them in order".
abbrev pub performs : File → List Write → File
performs f [] = f
performs f (w ∷ ws) = performs (perform f w) ws

-- What a write starts: a SETUP with its two words, or an OUT packet with its slot, PID, mark and length.
pub data Event : Type 0 where
  setup_at : ℕ → ℕ → Event
  out_at : Bool → Bool → Bool → ℕ → Event

-- A write that sets bit k.
abbrev pub setting : ℕ → ℕ → ℕ → Bool
setting k m v = is_set k m && is_set k v

-- "SETUP at its start": START_TRANS (bit 0 of SIE_CTRL) is set with SEND_SETUP (bit 1) set.
abbrev pub setup_event : ℕ → ℕ → File → List Event
setup_event m v f = cond (setting 0 m v && is_set 1 (f sie_ctrl)) (setup_at (f setup_low) (f setup_high) ∷ []) []

-- "an OUT packet at each write that sets a slot's AVAILABLE with FULL set, whether or not earlier logs left AVAILABLE set"
abbrev pub slot_event : Bool → ℕ → ℕ → ℕ → List Event
slot_event s m v w = cond (setting (in_half s 10) m v && is_set (in_half s 15) w) (out_at s (is_set (in_half s 13) w) (is_set (in_half s 14) w) (field (in_half s 0) 10 w) ∷ []) []

-- The events of a write, with the registers after it.
abbrev pub event_of : Write → File → List Event
event_of (wr r m v) f = cond (eqb r sie_ctrl) (setup_event m v f) (cond (eqb r ep_buffer) (slot_event false m v (f ep_buffer) ++ slot_event true m v (f ep_buffer)) [])

-- The events of a log, in order.
abbrev pub events : File → List Write → List Event
events f [] = []
events f (w ∷ ws) = event_of w (perform f w) ++ events (perform f w) ws

-- The bytes of a word, low byte first.
abbrev pub word_bytes : ℕ → Four
word_bytes w = four (field 0 8 w) (field 8 8 w) (field 16 8 w) (field 24 8 w)

-- "address and endpoint are those the call's whole log leaves": bits 0 to 6 and 16 to 19 of ADDR_ENDP. The bytes are those of the slot.
abbrev pub entry_of : File → List ℕ → Event → Entry
entry_of f m (setup_at lo hi) = setup (field 0 7 (f addr_endp)) (word_bytes lo) (word_bytes hi)
entry_of f m (out_at s b last n) = out (field 0 7 (f addr_endp)) (field 16 4 (f addr_endp)) b last (take n (drop (slot_place s) m))

-- The entries of a call, from the registers before it, its writes, and packet memory as it leaves it.
unfoldable pub wire : File → List Write → List ℕ → List Entry
wire f ws m = map (entry_of (performs f ws) m) (events f ws)
