-- The registers by their datasheet addresses (RP2040 datasheet 4.1.4), and fields of words.
use Rattle.std.specs.Prelude.{ℕ, ◌+◌, ◌*◌, ◌/◌, ◌%◌, ◌^◌, Bool, true, false, ◌==◌}

-- SETUP_PACKET_LOW
abbrev pub setup_low : ℕ
setup_low = 0x5010_0000

-- SETUP_PACKET_HIGH
abbrev pub setup_high : ℕ
setup_high = 0x5010_0004

-- EP_CONTROL of interrupt pipe n.
abbrev pub ep_control : ℕ → ℕ
ep_control n = 0x5010_0000 + 8 * n

-- EP_BUFFER_CONTROL of the control pipe, with both slots' halves.
abbrev pub ep_buffer : ℕ
ep_buffer = 0x5010_0080

-- EP_BUFFER_CONTROL of interrupt pipe n.
abbrev pub ep_buffer_of : ℕ → ℕ
ep_buffer_of n = 0x5010_0080 + 8 * n

-- EPX_CONTROL
abbrev pub epx_control : ℕ
epx_control = 0x5010_0100

-- ADDR_ENDP
abbrev pub addr_endp : ℕ
addr_endp = 0x5011_0000

-- HOST_ADDR_ENDP of interrupt pipe n.
abbrev pub addr_endp_of : ℕ → ℕ
addr_endp_of n = 0x5011_0000 + 4 * n

-- SIE_CTRL
abbrev pub sie_ctrl : ℕ
sie_ctrl = 0x5011_004C

-- SIE_STATUS
abbrev pub sie_status : ℕ
sie_status = 0x5011_0050

-- INT_EP_CTRL
abbrev pub int_ep_ctrl : ℕ
int_ep_ctrl = 0x5011_0054

-- BUFF_STATUS
abbrev pub buff_status : ℕ
buff_status = 0x5011_0058

-- NAK_POLL
abbrev pub nak_poll : ℕ
nak_poll = 0x5011_006C

-- EP_STATUS_STALL_NAK
abbrev pub ep_status_stall_nak : ℕ
ep_status_stall_nak = 0x5011_0070

-- INTE
abbrev pub inte : ℕ
inte = 0x5011_0090

-- ---- fields

-- The mask of a `write`.
abbrev pub ones : ℕ
ones = 0xFFFF_FFFF

-- The j bits of a word from bit k on.
abbrev pub field : ℕ → ℕ → ℕ → ℕ
field k j w = w / 2 ^ k % 2 ^ j

-- Bit k of a word.
abbrev pub bit : ℕ → ℕ → Bool
bit k w = field k 1 w == 1

-- v where b holds, else 0.
abbrev pub weigh : Bool → ℕ → ℕ
weigh true v = v
weigh false v = 0

-- Bit k of a slot's half of EP_BUFFER_CONTROL: slot 0 has the lower half.
abbrev pub at : Bool → ℕ → ℕ
at false k = k
at true k = 16 + k

-- A value in a slot's half.
abbrev pub half : Bool → ℕ → ℕ
half false v = v
half true v = v * 0x1_0000
