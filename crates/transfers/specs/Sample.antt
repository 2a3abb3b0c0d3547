-- What a step's sample shows: document 01, "steps".
use Rattle.std.specs.Prelude.{ℕ, Bool, cond, List, [], ◌∷◌, ◌==◌, bit_and, None, Option, Some}
use Rattle.transfers.specs.declared.host_controller.UsbError.{UsbError}
use Rattle.transfers.specs.declared.host_controller.UsbError.TheVariants.{Stall, Timeout, Overflow, BitStuffError, CrcError, DataSeqError}
use Rattle.transfers.specs.declared.sample.Found.{Found}
use Rattle.transfers.specs.declared.sample.Found.TheVariants.{Complete, Failed, Neither}
use Rattle.transfers.specs.Registers.{field, bit, at}
use Rattle.transfers.specs.Masks.{ready_mask}

-- An error and its bit in SIE_STATUS.
pub record Error : Type 0 where
  pub place : ℕ
  pub is : UsbError

-- An error at a bit.
abbrev pub error : ℕ → UsbError → Error
error k e = record { place = k; is = e }

-- "errors in the order DATA_SEQ, STALL, RX_OVERFLOW, RX_TIMEOUT, BIT_STUFF, CRC"
abbrev pub errors : List Error
errors = error 31 DataSeqError ∷ error 29 Stall ∷ error 26 Overflow ∷ error 27 Timeout ∷ error 25 BitStuffError ∷ error 24 CrcError ∷ []

-- The first error of a list that is set.
abbrev pub first_of : ℕ → List Error → Found
first_of w [] = Neither
first_of w (e ∷ es) = cond (bit e.place w) (Failed e.is) (first_of w es)

-- "A poll is ready when INTR and 0x7F8 is not zero", else waiting; ready, "TRANS_COMPLETE wins; then errors"
unfoldable pub classify : ℕ → ℕ → Option Found
classify status intr = cond (bit_and intr ready_mask == 0) None (Some (cond (bit 18 status) Complete (first_of status errors)))

-- A slot's AVAILABLE, FULL and LENGTH in EP_BUFFER_CONTROL.
abbrev pub available : ℕ → Bool → Bool
available w s = bit (at s 10) w

-- Its FULL.
abbrev pub full : ℕ → Bool → Bool
full w s = bit (at s 15) w

-- Its LENGTH.
abbrev pub length_in : ℕ → Bool → ℕ
length_in w s = field (at s 0) 10 w
