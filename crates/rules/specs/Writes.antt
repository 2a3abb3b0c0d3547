-- Every register that any call may write, by the datasheet's addresses (4.1.4), and how many writes a call makes.
use Rattle.std.specs.Prelude.{◌≡◌, Bool, false, ◌⊎◌, List, ◌++◌, ℕ, ◌+◌, ◌-◌, ◌*◌, ◌≤◌, ◌<◌, length, drop, Option}
use Rattle.std.specs.Int.Bits.{bit_and}
use Rattle.pool.specs.declared.pipe.PipeNumber.{PipeNumber}
use Rattle.cutting.specs.declared.transfer_type.TransferType.{TransferType}
use Rattle.transfers.specs.declared.host_controller.DataPhase.{DataPhase}
use Rattle.transfers.specs.declared.host_controller.TransferExtras.{TransferExtras}
use Rattle.transfers.specs.declared.wire.SetupPacket.{SetupPacket}
use Rattle.transfers.specs.declared.sample.Sample.{Sample}
use Rattle.transfers.specs.declared.pipes.PipeSample.{PipeSample}
use Rattle.transfers.specs.declared.driver.Driver.{Driver}
use Rattle.transfers.specs.Log.{Write, words, logged}
use Rattle.transfers.specs.Registers.{bit}
use Rattle.transfers.specs.Calls.{step_of, begin_control_of, begin_bulk_in_of, begin_bulk_out_of}
use Rattle.transfers.specs.Pipes.{opening, polling}
use Rattle.transfers.specs.Irq.{waking}
use Rattle.transfers.specs.Detect.{detecting}
use Rattle.transfers.specs.Isolation.{held_of}
use Rattle.transfers.specs.Apart.{Every}
use Rattle.transfers.specs.declared.driver.Run.{Run}

-- The list, by the datasheet's addresses. Packet memory from 0x5010_0180 on is not in it, nor is any alias that sets, clears or toggles bits (these lie 0x1000 and more above).
pub data Register : ℕ → Type 0 where
  is_setup_packet_low : Register 0x5010_0000
  is_setup_packet_high : Register 0x5010_0004
  is_ep_control : (n : ℕ) → 1 ≤ n → n ≤ 15 → Register (0x5010_0000 + 8 * n)
  is_ep_buffer_control : (n : ℕ) → n ≤ 15 → Register (0x5010_0080 + 8 * n)
  is_epx_control : Register 0x5010_0100
  is_addr_endp : (n : ℕ) → n ≤ 15 → Register (0x5011_0000 + 4 * n)
  is_sie_ctrl : Register 0x5011_004C
  is_sie_status : Register 0x5011_0050
  is_int_ep_ctrl : Register 0x5011_0054
  is_buff_status : Register 0x5011_0058
  is_nak_poll : Register 0x5011_006C
  is_ep_status_stall_nak : Register 0x5011_0070
  is_inte : Register 0x5011_0090

-- FULL, bits 15 and 31, is set nowhere but in EP_BUFFER_CONTROL 0.
abbrev pub NotFull : ℕ → ℕ → Type 0
NotFull r v = (n : ℕ) → 1 ≤ n → n ≤ 15 → r ≡ 0x5010_0080 + 8 * n → (bit 15 v ≡ false) × (bit 31 v ≡ false)

-- A write that a call may make: "A delay of 12 cycles is a write of its own kind: 0, 0, 12"; or a register's, its "value (zero outside the mask)".
pub data MayWrite : ℕ → ℕ → ℕ → Type 0 where
  delays : MayWrite 0 0 12
  writes : {r m v : ℕ} → Register r → NotFull r v → bit_and v (0xFFFF_FFFF - m) ≡ 0 → MayWrite r m v

-- A call's writes: at most 18, each one that a call may make.
pub record Listed (ws : List Write) : Type 0 where
  pub few : length ws ≤ 18
  pub only : Every MayWrite ws

-- Every call (cancel and close write nothing: their definitions have no writes).
pub record CallsWrite : Type 0 where
  pub begin_control : (t : Option Run) (a : ℕ) (x : TransferExtras) (p : ℕ) (s : SetupPacket) (ph : DataPhase) (buf m log : List ℕ) → Listed (begin_control_of t a x p s ph buf m log).writes
  pub begin_bulk_in : (t : Option Run) (a e p : ℕ) (k : TransferType) (b : Bool) (buf m log : List ℕ) → Listed (begin_bulk_in_of t a e p k b buf m log).writes
  pub begin_bulk_out : (t : Option Run) (a e p : ℕ) (k : TransferType) (b : Bool) (buf m log : List ℕ) → Listed (begin_bulk_out_of t a e p k b buf m log).writes
  -- `step_in` and `step_out`
  pub step : (filling : Bool) (t : Option Run) (s : Sample) (buf m log : List ℕ) → Listed (step_of filling t s buf m log).writes
  pub opens : (d : Driver) (address : ℕ) (extras : TransferExtras) (endpoint size interval : ℕ) (log : List ℕ) → Listed (opening d address extras endpoint size interval log).writes
  -- A pipe's size is a u8.
  pub poll : (d : Driver) (n : PipeNumber) (s : PipeSample) (pm log : List ℕ) → (held_of d.pipes n).size < 256 → Listed (polling d n s pm log).writes
  pub irq : (ints status : ℕ) (log : List ℕ) → Listed (waking ints status log).writes
  pub detect : (d : Driver) (sie : ℕ) (log : List ℕ) → Listed (detecting d sie log).writes
  -- What the list says: from 0x5010_0000 to 0x5010_0103, or from 0x5011_0000 to 0x5011_0093.
  pub where_listed : (r : ℕ) → Register r → ((0x5010_0000 ≤ r) × (r < 0x5010_0104)) ⊎ ((0x5011_0000 ≤ r) × (r < 0x5011_0094))
  -- And the log loses none of them: it is the writes' words, then the words that were there.
  pub whole : (l : List ℕ) (ws : List Write) → 192 ≤ length l → Listed ws → logged l 0 ws ≡ words ws ++ drop (3 * length ws) l
