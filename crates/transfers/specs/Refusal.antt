-- Document 01's table of numbers: the refusals and their numbers.
use Rattle.std.specs.Prelude.{ℕ}
use Rattle.transfers.specs.declared.host_controller.UsbError.{UsbError}
use Rattle.transfers.specs.declared.host_controller.UsbError.TheVariants.{Stall, Timeout, Overflow, BitStuffError, CrcError, DataSeqError, BufferTooSmall, AllPipesInUse, ProtocolError, TooManyDevices, NoSuchEndpoint}
use Rattle.transfers.specs.declared.refusal.Refusal.{Refusal}
use Rattle.transfers.specs.declared.refusal.Refusal.TheVariants.{Usb, Address, PacketSize, BufferSize, LentMemory, State, PipeNotOpen}

-- "Numbers 1 to 11 follow `UsbError`'s order."
abbrev pub error_number : UsbError → ℕ
error_number Stall = 1
error_number Timeout = 2
error_number Overflow = 3
error_number BitStuffError = 4
error_number CrcError = 5
error_number DataSeqError = 6
error_number BufferTooSmall = 7
error_number AllPipesInUse = 8
error_number ProtocolError = 9
error_number TooManyDevices = 10
error_number NoSuchEndpoint = 11

-- Document 01's number of every refusal.
abbrev pub number_of : Refusal → ℕ
number_of (Usb e) = error_number e
number_of Address = 12
number_of PacketSize = 13
number_of BufferSize = 14
number_of LentMemory = 15
number_of State = 16
number_of PipeNotOpen = 17
