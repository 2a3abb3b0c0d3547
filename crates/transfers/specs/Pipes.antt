-- The interrupt pipes: "Buffer of pipe n at 0x200 + 128 × n, poll interval min(interval, 9), at most 64 bytes handed out. A packet flips the toggle and arms again."
use Rattle.std.specs.Prelude.{◌≡◌, ℕ, ◌+◌, ◌-◌, ◌*◌, ◌^◌, min, Bool, true, false, cond, not, List, [], ◌∷◌, ◌++◌, take, drop, replicate, slice_index_or, slice_set, Err, None, Ok, Option, Result, Some}
use Rattle.pool.specs.declared.bitset.BitSet.{BitSet}
use Rattle.pool.specs.declared.async_pool.Pool.{Pool}
use Rattle.pool.specs.declared.async_pool.PoolIndex.{PoolIndex}
use Rattle.pool.specs.declared.pipe.PipeNumber.{PipeNumber}
use Rattle.pool.specs.Set.{has}
use Rattle.pool.specs.Pool.{alloc_of, free_of}
use Rattle.pool.specs.Pipe.{pipe_of, index_of}
use Rattle.transfers.specs.declared.host_controller.TransferExtras.{TransferExtras}
use Rattle.transfers.specs.declared.host_controller.UsbError.TheVariants.{TooManyDevices, NoSuchEndpoint}
use Rattle.transfers.specs.declared.host_controller.InterruptPacket.{InterruptPacket}
use Rattle.transfers.specs.declared.refusal.Refusal.{Refusal}
use Rattle.transfers.specs.declared.refusal.Refusal.TheVariants.{Usb, Address, PacketSize, LentMemory, PipeNotOpen}
use Rattle.transfers.specs.declared.driver.Driver.{Driver}
use Rattle.transfers.specs.declared.driver.Pipes.{Pipes}
use Rattle.transfers.specs.declared.driver.Pipe.{Pipe}
use Rattle.transfers.specs.declared.pipes.PipeSample.{PipeSample}
use Rattle.transfers.specs.declared.pipes.Closed.{Closed as CloseResult}
use Rattle.transfers.specs.Log.{Write, wr, delay, Wrote}
use Rattle.transfers.specs.Memory.{log_fits, lent_fits}
use Rattle.transfers.specs.State.{address_good, endpoint_good, size_good}
use Rattle.transfers.specs.Writes.{preamble}
use Rattle.transfers.specs.Registers.{field, bit, weigh, ones, addr_endp_of, ep_control, ep_buffer_of, inte, int_ep_ctrl, ep_status_stall_nak}
use Rattle.transfers.specs.declared.pipes.Poll.TheVariants.{Packet, Waiting}
use Rattle.transfers.specs.declared.pipes.Poll.{Poll}

-- No pipe open, sizes 0, toggles false.
abbrev pub no_pipe : Pipe
no_pipe = record { size = 0; toggle = false }

-- "no pipe open"
abbrev pub fresh_pipes : Pipes
fresh_pipes = record { opened = record { 0 = 0 }; each = replicate 15 no_pipe }

-- "10 all 15 open": the pool of the pipes, of which the driver holds the set of those open, and the call brings the 15.
abbrev pub pool_of : BitSet → Pool
pool_of s = record { total = 15; allocated = s }

-- Where the buffer of pipe n lies in packet memory.
abbrev pub pipe_area : ℕ → ℕ
pipe_area n = 0x200 + 128 * n

-- EP_BUFFER_CONTROL of pipe n gets a packet size and a toggle, then AVAILABLE.
abbrev pub arm_pipe : ℕ → Bool → ℕ → List Write
arm_pipe n toggle size = wr (ep_buffer_of n) ones (0x4000 + weigh toggle 0x2000 + size) ∷ delay ∷ wr (ep_buffer_of n) 0x400 0x400 ∷ []

-- ---- open

-- "poll interval min(interval, 9)"
abbrev pub poll_interval : ℕ → ℕ
poll_interval i = min i 9

-- HOST_ADDR_ENDP, EP_CONTROL and EP_BUFFER_CONTROL of the pipe that is opened.
abbrev pub open_writes : ℕ → ℕ → TransferExtras → ℕ → ℕ → ℕ → List Write
open_writes n address extras endpoint size interval =
    wr (addr_endp_of n) ones (address + endpoint * 0x1_0000 + weigh (preamble extras) 0x400_0000)
    ∷ wr (ep_control n) ones (0xAC00_0000 + poll_interval interval * 0x1_0000 + pipe_area n)
    ∷ arm_pipe n false size

-- What open does: the next state, the answer, and the writes.
pub record Opening (S : Type 0) : Type 0 where
  pub next : S
  pub answer : Result PipeNumber Refusal
  pub writes : List Write

-- A refused open leaves all as it was.
abbrev pub refuse_open : Pipes → Refusal → Opening Pipes
refuse_open ps why = record { next = ps; answer = Err why; writes = [] }

-- The pipe that is opened: "10 all 15 open".
abbrev pub open_number : Option PipeNumber → PoolIndex → BitSet → Pipes → ℕ → TransferExtras → ℕ → ℕ → ℕ → Opening Pipes
open_number None at left ps address extras endpoint size interval = refuse_open ps (Usb TooManyDevices)
open_number (Some n) at left ps address extras endpoint size interval = record {
  next = record { opened = left; each = slice_set ps.each at.0 (record { size = size; toggle = false }) };
  answer = Ok n;
  writes = open_writes n.0 address extras endpoint size interval;
}

-- "10 all 15 open"
abbrev pub open_index : Option PoolIndex → BitSet → Pipes → ℕ → TransferExtras → ℕ → ℕ → ℕ → Opening Pipes
open_index None left ps address extras endpoint size interval = refuse_open ps (Usb TooManyDevices)
open_index (Some at) left ps address extras endpoint size interval = open_number (pipe_of at) at left ps address extras endpoint size interval

-- The lowest free index is opened.
unfoldable pub open_free : Pipes → ℕ → TransferExtras → ℕ → ℕ → ℕ → Opening Pipes
open_free ps address extras endpoint size interval =
    let a = alloc_of (pool_of ps.opened) in
    open_index a.index a.pool.allocated ps address extras endpoint size interval

-- The tests, in their order: the log, the address, the endpoint, the packet size.
abbrev pub open_if : Bool → Bool → Bool → Bool → Pipes → ℕ → TransferExtras → ℕ → ℕ → ℕ → Opening Pipes
open_if false a e s ps address extras endpoint size interval = refuse_open ps LentMemory
open_if true false e s ps address extras endpoint size interval = refuse_open ps Address
open_if true true false s ps address extras endpoint size interval = refuse_open ps (Usb NoSuchEndpoint)
open_if true true true false ps address extras endpoint size interval = refuse_open ps PacketSize
open_if true true true true ps address extras endpoint size interval = open_free ps address extras endpoint size interval

-- An open, on any pipes.
unfoldable pub opening_pipe : Pipes → ℕ → TransferExtras → ℕ → ℕ → ℕ → List ℕ → Opening Pipes
opening_pipe ps address extras endpoint size interval log =
    open_if (log_fits log) (address_good address) (endpoint_good endpoint) (size_good size) ps address extras endpoint size interval

-- Other pipes, and the rest of the driver as it came.
abbrev pub with_pipes : Driver → Pipes → Driver
with_pipes d ps = record { transfer = d.transfer; entries = d.entries; pipes = ps; last = d.last; rule = d.rule }

-- The same for the driver.
abbrev pub with_opening : Driver → Opening Pipes → Opening Driver
with_opening d e = record { next = with_pipes d e.next; answer = e.answer; writes = e.writes }

-- An open, on any driver.
abbrev pub opening : Driver → ℕ → TransferExtras → ℕ → ℕ → ℕ → List ℕ → Opening Driver
opening d address extras endpoint size interval log = with_opening d (opening_pipe d.pipes address extras endpoint size interval log)

-- What open hands back, from what it does.
pub record DidOpen {S : Type 0} (e : Opening S) (s : S) (a : Result PipeNumber Refusal) (k : ℕ) (l l' : List ℕ) : Type 0 where
  pub next : s ≡ e.next
  pub answer : a ≡ e.answer
  pub log : Wrote l 0 e.writes l' k

-- ---- which pipe is open

-- The index, where it is in the set of those handed out.
abbrev pub handed_out : BitSet → Option PoolIndex → Option PoolIndex
handed_out s None = None
handed_out s (Some at) = cond (has s.0 at.0) (Some at) None

-- The index of a pipe that is open: "17 pipe not open, or its number not 1 to 15".
unfoldable pub index_open : BitSet → PipeNumber → Option PoolIndex
index_open s n = handed_out s (index_of n)

-- ---- close

-- The pool has the index back; size and toggle stay.
abbrev pub close_index : Option PoolIndex → Pipes → CloseResult Pipes
close_index None ps = record { next = ps; answer = Err PipeNotOpen }
close_index (Some at) ps = record { next = record { opened = (free_of (pool_of ps.opened) at).pool.allocated; each = ps.each }; answer = Ok tt }

-- A close, on any pipes.
unfoldable pub closing_pipe : Pipes → PipeNumber → CloseResult Pipes
closing_pipe ps n = close_index (index_open ps.opened n) ps

-- A close, on any driver.
abbrev pub closing : Driver → PipeNumber → CloseResult Driver
closing d n = record { next = with_pipes d (closing_pipe d.pipes n).next; answer = (closing_pipe d.pipes n).answer }

-- ---- poll

-- "at most 64 bytes handed out"
abbrev pub packet_size : ℕ → ℕ
packet_size buffer = min (field 0 10 buffer) 64

-- The first k bytes of a pipe's area, then zeros.
unfoldable pub packet_data : List ℕ → ℕ → ℕ → List ℕ
packet_data pm n k = take k (drop (pipe_area n) pm) ++ replicate (64 - k) 0

-- The packet, with the address and the endpoint that the sample has.
abbrev pub packet_with : PipeSample → List ℕ → InterruptPacket
packet_with s bytes = record { address = field 0 7 s.address; endpoint = field 16 4 s.address; size = packet_size s.buffer; «data» = bytes }

-- The packet of pipe n, from its area of packet memory.
abbrev pub packet_of : ℕ → PipeSample → List ℕ → InterruptPacket
packet_of n s pm = packet_with s (packet_data pm n (packet_size s.buffer))

-- No packet: all zeros.
abbrev pub no_packet : InterruptPacket
no_packet = record { address = 0; endpoint = 0; size = 0; «data» = replicate 64 0 }

-- Interrupts on, for every pipe and for this one; its NAK and STALL cleared.
abbrev pub wait_writes : ℕ → List Write
wait_writes n = wr inte 0x10 0x10 ∷ wr int_ep_ctrl (2 ^ n) (2 ^ n) ∷ wr ep_status_stall_nak ones (3 * 2 ^ (2 * n)) ∷ []

-- What poll does: the next state, the answer, the packet (all zeros where there is none), and the writes.
pub record Polling (S : Type 0) : Type 0 where
  pub next : S
  pub answer : Result Poll Refusal
  pub packet : InterruptPacket
  pub writes : List Write

-- A refused poll leaves all as it was.
abbrev pub refuse_poll : Pipes → Refusal → Polling Pipes
refuse_poll ps why = record { next = ps; answer = Err why; packet = no_packet; writes = [] }

-- What is held of the pipe at an index.
abbrev pub held_at : Pipes → PoolIndex → Pipe
held_at ps at = slice_index_or ps.each at.0 no_pipe

-- A packet of the pipe at an index: its toggle is flipped, and it is armed again.
unfoldable pub poll_full : PoolIndex → Pipes → PipeNumber → PipeSample → List ℕ → Polling Pipes
poll_full at ps n s pm = record {
  next = record { opened = ps.opened; each = slice_set ps.each at.0 (record { size = (held_at ps at).size; toggle = not (held_at ps at).toggle }) };
  answer = Ok Packet;
  packet = packet_of n.0 s pm;
  writes = arm_pipe n.0 (not (held_at ps at).toggle) (held_at ps at).size;
}

-- The tests, in their order: lent memory, the pipe open, FULL_0.
abbrev pub poll_if : Bool → Option PoolIndex → Bool → Pipes → PipeNumber → PipeSample → List ℕ → Polling Pipes
poll_if false o full ps n s pm = refuse_poll ps LentMemory
poll_if true None full ps n s pm = refuse_poll ps PipeNotOpen
poll_if true (Some at) false ps n s pm = record { next = ps; answer = Ok Waiting; packet = no_packet; writes = wait_writes n.0 }
poll_if true (Some at) true ps n s pm = poll_full at ps n s pm

-- A poll, on any pipes.
unfoldable pub polling_pipe : Pipes → PipeNumber → PipeSample → List ℕ → List ℕ → Polling Pipes
polling_pipe ps n s pm log = poll_if (lent_fits pm log) (index_open ps.opened n) (bit 15 s.buffer) ps n s pm

-- The same for the driver.
abbrev pub with_polling : Driver → Polling Pipes → Polling Driver
with_polling d e = record { next = with_pipes d e.next; answer = e.answer; packet = e.packet; writes = e.writes }

-- A poll, on any driver.
abbrev pub polling : Driver → PipeNumber → PipeSample → List ℕ → List ℕ → Polling Driver
polling d n s pm log = with_polling d (polling_pipe d.pipes n s pm log)

-- What poll hands back, from what it does.
pub record DidPoll {S : Type 0} (e : Polling S) (s : S) (a : Result Poll Refusal) (p : InterruptPacket) (k : ℕ) (l l' : List ℕ) : Type 0 where
  pub next : s ≡ e.next
  pub answer : a ≡ e.answer
  pub packet : p ≡ e.packet
  pub log : Wrote l 0 e.writes l' k
