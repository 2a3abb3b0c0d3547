-- Document 01's "Proved table (star = marked last)", line by line. One theorem holds it all: `proved_table` in proofs/ProvedTable.antt.
use Rattle.std.specs.Prelude.{◌≡◌, ℕ, zero, suc, Bool, true, List, [], ◌∷◌, map, None, Option, Some}
use Rattle.cutting.specs.declared.transfer_type.TransferType.{TransferType}
use Rattle.cutting.specs.declared.transfer_type.TransferType.TheVariants.{FixedSize, VariableSize}
use Rattle.cutting.specs.Cut.{in_cut_of}
use Rattle.cutting.specs.Table.{plain, star, in_row, Cuts}
use Rattle.transfers.specs.declared.host_controller.TransferExtras.{TransferExtras}
use Rattle.transfers.specs.declared.refusal.Refusal.TheVariants.{Usb}
use Rattle.transfers.specs.declared.sample.Found.TheVariants.{Complete, Failed, Neither}
use Rattle.transfers.specs.declared.driver.Driver.{Driver}
use Rattle.transfers.specs.Refusal.{number_of}
use Rattle.transfers.specs.Reply.{result, number, open_reply}
use Rattle.transfers.specs.Memory.{log_fits}
use Rattle.transfers.specs.Sample.{classify}
use Rattle.transfers.specs.State.{address_good, endpoint_good, size_good}
use Rattle.transfers.specs.Pipes.{fresh_pipes, with_pipes, opening, closing}
use Rattle.transfers.specs.declared.sample.Found.{Found}

-- What the table has of a sample: a number is that of the refusal.
pub data Row : Type 0 where
  complete : Row
  waiting : Row
  refused : ℕ → Row

-- A sample, as every step finds it.
abbrev pub status_row : Option Found → Row
status_row None = waiting
status_row (Some Complete) = complete
status_row (Some (Failed e)) = refused (number_of (Usb e))
status_row (Some Neither) = waiting

-- The pool's lines hold whatever the fields are that open takes.
module _ (address : ℕ) (extras : TransferExtras) (endpoint size interval : ℕ) (log : List ℕ) where
  -- The same open, k times.
  unfoldable pub open_times : ℕ → Driver → Driver
  open_times zero d = d
  open_times (suc k) d = (opening (open_times k d) address extras endpoint size interval log).next

  -- Nothing is refused for its fields or the log.
  pub record OpenFits : Type 0 where
    pub room : log_fits log ≡ true
    pub below : address_good address ≡ true
    pub known : endpoint_good endpoint ≡ true
    pub small : size_good size ≡ true

-- All fifteen pipes opened on a driver that had none, by the same open.
abbrev pub all_open : Driver → ℕ → TransferExtras → ℕ → ℕ → ℕ → List ℕ → Driver
all_open d address extras endpoint size interval log = open_times address extras endpoint size interval log 15 (with_pipes d fresh_pipes)

-- The table, row by row.
pub record ProvedTable : Type 0 where
  -- "0 at 64 either way: 0*."
  pub none : (t : TransferType) → Cuts t 0 (star 0 ∷ [])
  -- "63 at 64: 63*."
  pub short : (t : TransferType) → Cuts t 63 (star 63 ∷ [])
  -- "64 Fixed: 64*."
  pub fixed : Cuts FixedSize 64 (star 64 ∷ [])
  -- "64 Variable: 64, 0*."
  pub variable : Cuts VariableSize 64 (plain 64 ∷ star 0 ∷ [])
  -- "65: 64, 1*."
  pub long : (t : TransferType) → Cuts t 65 (plain 64 ∷ star 1 ∷ [])
  -- "128 Variable: 64, 64, 0*."
  pub twice : Cuts VariableSize 128 (plain 64 ∷ plain 64 ∷ star 0 ∷ [])
  -- "IN 65: 64, 64*."
  pub inward : (t : TransferType) (b : Bool) → map in_row (in_cut_of t 64 b 65) ≡ plain 64 ∷ star 64 ∷ []
  -- "SIE_STATUS 0xA000_0000 with INTR 0x400: 6."
  pub sequence : status_row (classify 0xA000_0000 0x400) ≡ refused 6
  -- "0x2004_0000 with 0x8: complete."
  pub done : status_row (classify 0x2004_0000 0x8) ≡ complete
  -- "The status 0x0100_0000 with INTR 0x200, waiting in 01's table, becomes answer 5."
  pub crc : status_row (classify 0x0100_0000 0x200) ≡ refused 5
  -- "Sixteenth open: 10."
  pub sixteenth : (d : Driver) (address : ℕ) (extras : TransferExtras) (endpoint size interval : ℕ) (log : List ℕ)
      → OpenFits address extras endpoint size interval log
      → open_reply (opening (all_open d address extras endpoint size interval log) address extras endpoint size interval log).answer ≡ number 10
  -- "Close 4, open: 4."
  pub again : (d : Driver) (address : ℕ) (extras : TransferExtras) (endpoint size interval : ℕ) (log : List ℕ)
      → OpenFits address extras endpoint size interval log
      → open_reply (opening (closing (all_open d address extras endpoint size interval log) (record { 0 = 4 })).next address extras endpoint size interval log).answer ≡ result 4
