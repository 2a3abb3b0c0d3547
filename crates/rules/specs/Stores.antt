-- "The driver stores only in 0x180 to 0x1FF": there only the bytes of the OUT packets that the call says it armed, and none where it armed none.
use Rattle.std.specs.Prelude.{◌≡◌, Bool, true, false, ◌&&◌, List, ℕ, ◌+◌, length, get_or, leb, ltb, None, Option, Some}
use Rattle.cutting.specs.declared.transfer_type.TransferType.{TransferType}
use Rattle.transfers.specs.declared.host_controller.DataPhase.{DataPhase}
use Rattle.transfers.specs.declared.host_controller.TransferExtras.{TransferExtras}
use Rattle.transfers.specs.declared.wire.SetupPacket.{SetupPacket}
use Rattle.transfers.specs.declared.answers.Armed.{Armed}
use Rattle.transfers.specs.declared.sample.Sample.{Sample}
use Rattle.transfers.specs.Calls.{step_of, begin_control_of, begin_bulk_in_of, begin_bulk_out_of}
use Rattle.transfers.specs.declared.answers.ArmedOut.{ArmedOut}
use Rattle.transfers.specs.declared.driver.Run.{Run}

-- "Slots alternate from 0 (at 0x180, then 0x1C0)."
abbrev pub slot_start : Bool → ℕ
slot_start false = 0x180
slot_start true = 0x1C0

-- Byte i of packet memory is one of the packet's bytes in its slot.
abbrev pub packet_byte : Option ArmedOut → ℕ → Bool
packet_byte None i = false
packet_byte (Some o) i = leb (slot_start o.arm.slot) i && ltb i (slot_start o.arm.slot + o.arm.length)

-- Packet memory after a call that armed `a`: as lent where it armed no OUT packet, else every byte that is none of theirs.
pub record StoresArmed (a : Armed) (m m' : List ℕ) : Type 0 where
  pub none : a.first ≡ None → a.second ≡ None → m' ≡ m
  pub same_length : length m' ≡ length m
  pub bytes : (i : ℕ) → packet_byte a.first i ≡ false → packet_byte a.second i ≡ false → get_or m' i 0 ≡ get_or m i 0

-- Every begin and every step, on any state and whatever is lent.
pub record Stores : Type 0 where
  pub step : (filling : Bool) (t : Option Run) (s : Sample) (buf m log : List ℕ)
      → StoresArmed (step_of filling t s buf m log).armed m (step_of filling t s buf m log).memory
  pub control : (t : Option Run) (a : ℕ) (x : TransferExtras) (p : ℕ) (s : SetupPacket) (ph : DataPhase) (buf m log : List ℕ)
      → StoresArmed (begin_control_of t a x p s ph buf m log).armed m (begin_control_of t a x p s ph buf m log).memory
  pub bulk_in : (t : Option Run) (a e p : ℕ) (k : TransferType) (b : Bool) (buf m log : List ℕ)
      → StoresArmed (begin_bulk_in_of t a e p k b buf m log).armed m (begin_bulk_in_of t a e p k b buf m log).memory
  pub bulk_out : (t : Option Run) (a e p : ℕ) (k : TransferType) (b : Bool) (buf m log : List ℕ)
      → StoresArmed (begin_bulk_out_of t a e p k b buf m log).armed m (begin_bulk_out_of t a e p k b buf m log).memory
