-- The chip in the documents' own numbers: document 01 and the RP2040 datasheet (4.1.4). Nothing here is the driver's.
use Rattle.std.specs.Prelude.{Bool, true, false, ℕ, ◌+◌, ◌/◌, ◌%◌, ◌^◌, eqb}

-- SETUP_PACKET_LOW
abbrev pub setup_low : ℕ
setup_low = 0x5010_0000

-- SETUP_PACKET_HIGH
abbrev pub setup_high : ℕ
setup_high = 0x5010_0004

-- EP_BUFFER_CONTROL of the control pipe
abbrev pub ep_buffer : ℕ
ep_buffer = 0x5010_0080

-- ADDR_ENDP
abbrev pub addr_endp : ℕ
addr_endp = 0x5011_0000

-- SIE_CTRL
abbrev pub sie_ctrl : ℕ
sie_ctrl = 0x5011_004C

-- The j bits of a word from bit k on.
abbrev pub field : ℕ → ℕ → ℕ → ℕ
field k j w = w / 2 ^ k % 2 ^ j

-- Bit k of a word is set.
abbrev pub is_set : ℕ → ℕ → Bool
is_set k w = eqb (field k 1 w) 1

-- "Slots alternate from 0 (at 0x180, then 0x1C0)": a slot's bytes in packet memory.
abbrev pub slot_place : Bool → ℕ
slot_place false = 0x180
slot_place true = 0x1C0

-- Bit k of a slot's half of EP_BUFFER_CONTROL: slot 0 has the lower half. LENGTH is bits 0 to 9, AVAILABLE 10, PID 13, LAST 14, FULL 15.
abbrev pub in_half : Bool → ℕ → ℕ
in_half false k = k
in_half true k = 16 + k
