-- What a caller asks for: calls of the program's types, and the bytes, packets, entries and item of each transfer begun.
use Rattle.std.specs.Prelude.{true, List, [], ◌∷◌, map, ℕ, ◌<◌, take}
use Rattle.cutting.specs.declared.transfer_type.TransferType.TheVariants.{FixedSize}
use Rattle.cutting.specs.Cut.{Packet, packet, out_cut}
use Rattle.transfers.specs.declared.host_controller.DataPhase.TheVariants.{In as phase_in, Out as phase_out, None as phase_none}
use Rattle.transfers.specs.declared.wire.SetupPacket.{SetupPacket}
use Rattle.transfers.specs.declared.wire.Direction.TheVariants.{In, Out}
use Rattle.transfers.specs.declared.sample.Sample.{Sample}
use Rattle.record.specs.Grammar.{Entry, out, Bytes, Item, bulk_item, control_item}
use Rattle.record.specs.Armed.{low_bytes, high_bytes, setup_entry}
use Rattle.record.specs.Calls.{Begin, control_begin, bulk_begin, Call, begin, step, cancel, open_pipe, close_pipe, poll_pipe, interrupt, detect}

-- ---- the calls that the program's types allow: u8, u16, u32, and lists of bytes and of words

-- A u32.
abbrev pub Word : ℕ → Type 0
Word n = n < 0x1_0000_0000

-- Words of a log.
abbrev pub Words : List ℕ → Type 0
Words [] = Unit {0}
Words (w ∷ l) = Word w × Words l

-- SETUP's fields.
abbrev pub TypedSetup : SetupPacket → Type 0
TypedSetup s = (s.bmRequestType < 256) × (s.bRequest < 256) × (s.wValue < 65536) × (s.wIndex < 65536) × (s.wLength < 65536)

-- The three registers of a sample.
abbrev pub TypedSample : Sample → Type 0
TypedSample y = Word y.status × Word y.intr × Word y.buffers

-- A begin's fields: a control's packet size is a u8, a bulk's a u16.
abbrev pub TypedBegin : Begin → Type 0
TypedBegin (control_begin a x p s ph) = (a < 256) × (p < 256) × TypedSetup s
TypedBegin (bulk_begin d a e p t b) = (a < 256) × (e < 256) × (p < 65536)

-- A call's arguments.
abbrev pub Typed : Call → Type 0
Typed (begin x buf m log) = TypedBegin x × Bytes buf × Bytes m × Words log
Typed (step b y buf m log) = TypedSample y × Bytes buf × Bytes m × Words log
Typed cancel = Unit {0}
Typed (open_pipe a x e p i log) = (a < 256) × (e < 256) × (p < 65536) × (i < 256) × Words log
Typed (close_pipe n) = n.0 < 256
Typed (poll_pipe n y m log) = (n.0 < 256) × Word y.buffer × Word y.address × Bytes m × Words log
Typed (interrupt ints status log) = Word ints × Word status × Words log
Typed (detect sie log) = Word sie × Words log

-- Those of every call of a list.
abbrev pub AllTyped : List Call → Type 0
AllTyped [] = Unit {0}
AllTyped (c ∷ cs) = Typed c × AllTyped cs

-- ---- a transfer begun, and what it is to send

-- A begin with the buffer that it was lent.
pub record Begun : Type 0 where
  pub fields : Begin
  pub buffer : List ℕ

-- The bytes that a transfer sends: "an Out buffer's first wLength bytes, none for In and None"; a bulk OUT's buffer.
abbrev pub sent_of : Begin → List ℕ → List ℕ
sent_of (control_begin a x p s phase_in) buf = []
sent_of (control_begin a x p s phase_out) buf = take s.wLength buf
sent_of (control_begin a x p s phase_none) buf = []
sent_of (bulk_begin d a e p t b) buf = buf

-- "An item's OUT packets are its bytes cut at its begin's packet size and type, a control's as FixedSize; None has none."
abbrev pub packets_of : Begin → List ℕ → List (Packet (List ℕ))
packets_of (control_begin a x p s phase_in) l = out_cut FixedSize p true l
packets_of (control_begin a x p s phase_out) l = out_cut FixedSize p true l
packets_of (control_begin a x p s phase_none) l = []
packets_of (bulk_begin In a e p t b) l = []
packets_of (bulk_begin Out a e p t b) l = out_cut t p b l

-- The entry of a packet, with its address and endpoint.
abbrev pub out_entry : ℕ → ℕ → Packet (List ℕ) → Entry
out_entry a e (packet s b last l) = out a e b last l

-- The entries that a transfer is to arm.
abbrev pub entries_due : Begin → List (Packet (List ℕ)) → List Entry
entries_due (control_begin a x p s ph) ks = setup_entry a s ∷ map (out_entry a 0) ks
entries_due (bulk_begin d a e p t b) ks = map (out_entry a e) ks

-- "its packets are document 01's cutting of those bytes"
abbrev pub armed_by : Begun → List Entry
armed_by g = entries_due g.fields (packets_of g.fields (sent_of g.fields g.buffer))

-- "a control's address, SETUP and an Out buffer's first wLength bytes ..; a bulk OUT's address, endpoint, toggle handed in as first PID, and buffer"
abbrev pub saying : Begin → List ℕ → Item
saying (control_begin a x p s ph) l = control_item a (low_bytes s) (high_bytes s) l
saying (bulk_begin d a e p t b) l = bulk_item a e b l

-- The item of a transfer.
abbrev pub item_of : Begun → Item
item_of g = saying g.fields (sent_of g.fields g.buffer)

-- "bulk IN gives no item"
abbrev pub listing : Begin → Begun → List Begun → List Begun
listing (control_begin a x p s ph) g gs = g ∷ gs
listing (bulk_begin In a e p t b) g gs = gs
listing (bulk_begin Out a e p t b) g gs = g ∷ gs

-- The transfers that give an item.
abbrev pub listed : List Begun → List Begun
listed [] = []
listed (g ∷ gs) = listing g.fields g (listed gs)
