-- Packet memory: "Packet memory is lent as 4,096 bytes. Sending copies the part of the caller's buffer from the offset on into a slot."
use Rattle.std.specs.Prelude.{◌≡◌, ℕ, ◌≤◌, Bool, true, false, ◌&&◌, List, length, take, drop, ◌==◌, nat_le}

-- "15 packet memory not 4,096 bytes, or log below 192 words"
abbrev pub memory_fits : List ℕ → Bool
memory_fits pm = length pm == 4096

-- "15 .. log below 192 words"
abbrev pub log_fits : List ℕ → Bool
log_fits log = nat_le 192 (length log)

-- Both.
abbrev pub lent_fits : List ℕ → List ℕ → Bool
lent_fits pm log = memory_fits pm && log_fits log

-- What passes 15, as the crate's own functions ask for it: packet memory is whole.
abbrev pub MemoryFits : List ℕ → Type 0
MemoryFits pm = length pm ≡ 4096

-- The log has room for 64 writes.
abbrev pub LogFits : List ℕ → Type 0
LogFits log = 192 ≤ length log

-- "Slots alternate from 0 (at 0x180, then 0x1C0)."
abbrev pub slot_address : Bool → ℕ
slot_address false = 0x180
slot_address true = 0x1C0

-- "The driver stores only in 0x180 to 0x1FF": all other bytes stay.
pub record SlotsOnly (m m' : List ℕ) : Type 0 where
  pub below : take 0x180 m' ≡ take 0x180 m
  pub above : drop 0x200 m' ≡ drop 0x200 m
