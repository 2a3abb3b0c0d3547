-- Sets of interrupts (INTR, INTE and INTS have the same bits).
use Rattle.std.specs.Prelude.{ℕ, Bool, not, ◌==◌, bit_and}

-- "A poll is ready when INTR and 0x7F8 is not zero": TRANS_COMPLETE, BUFF_STATUS and the six errors.
abbrev pub ready_mask : ℕ
ready_mask = 0x7F8

-- One of them is raised.
abbrev pub is_ready : ℕ → Bool
is_ready w = not (bit_and w ready_mask == 0)

-- "trans complete and all six error interrupts": what waiting enables, and every begin and step that enables some.
abbrev pub ending_mask : ℕ
ending_mask = 0x7E8

-- BUFF_STATUS, as an interrupt.
abbrev pub buff_status_mask : ℕ
buff_status_mask = 0x10
