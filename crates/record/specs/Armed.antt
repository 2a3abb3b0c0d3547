-- The entries of what begin and step answer that they armed.
use Rattle.std.specs.Prelude.{List, [], ◌∷◌, ◌++◌, ℕ, ◌/◌, ◌%◌, take, drop, None, Option, Some}
use Rattle.transfers.specs.declared.wire.SetupPacket.{SetupPacket}
use Rattle.transfers.specs.declared.answers.Armed.{Armed}
use Rattle.transfers.specs.declared.answers.ArmedOut.{ArmedOut}
use Rattle.record.specs.Chip.{slot_place}
use Rattle.record.specs.Grammar.{Four, four, Entry, setup, out}
use Rattle.transfers.specs.declared.answers.ArmedSetup.{ArmedSetup}

-- USB 2.0 table 9-2: the SETUP's eight bytes, low byte first.
abbrev pub low_bytes : SetupPacket → Four
low_bytes s = four s.bmRequestType s.bRequest (s.wValue % 256) (s.wValue / 256)

-- wIndex and wLength.
abbrev pub high_bytes : SetupPacket → Four
high_bytes s = four (s.wIndex % 256) (s.wIndex / 256) (s.wLength % 256) (s.wLength / 256)

-- The entry of a SETUP.
abbrev pub setup_entry : ℕ → SetupPacket → Entry
setup_entry a s = setup a (low_bytes s) (high_bytes s)

-- "Begin and step also answer what they armed, at most one SETUP and two OUT packets": their entries, with the packet memory as that call left it.
abbrev pub entry_armed : List ℕ → ArmedOut → Entry
entry_armed m x = out x.address x.endpoint x.arm.pid x.arm.last (take x.arm.length (drop (slot_place x.arm.slot) m))

-- The SETUP that was armed.
abbrev pub setups_armed : Option ArmedSetup → List Entry
setups_armed None = []
setups_armed (Some x) = setup_entry x.address x.setup ∷ []

-- An OUT packet that was armed.
abbrev pub outs_armed : List ℕ → Option ArmedOut → List Entry
outs_armed m None = []
outs_armed m (Some x) = entry_armed m x ∷ []

-- All that a call says that it armed, in order.
abbrev pub entries_armed : List ℕ → Armed → List Entry
entries_armed m a = setups_armed a.setup ++ (outs_armed m a.first ++ outs_armed m a.second)
