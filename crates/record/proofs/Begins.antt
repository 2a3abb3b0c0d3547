-- What is known of a begin that the table doesn't refuse. Assumes nothing.
use Rattle.std.specs.Prelude.{Option, Some}
use mathlib.Core.List.{List}
use Prim.Native.Nat.{ℕ, ◌≤◌}
use native.Mathlib.Omega.{arith}
use lib.ListN.{length}
use Rattle.transfers.specs.declared.host_controller.DataPhase.TheVariants.{In as phase_in, Out as phase_out, None as phase_none}
use Rattle.transfers.specs.declared.driver.Request.{Request}
use Rattle.transfers.specs.declared.driver.Stage.{Stage}
use Rattle.transfers.specs.declared.driver.Kind.{Kind}
use Rattle.transfers.specs.declared.driver.Kind.TheVariants.{Control as control_kind, Bulk as bulk_kind}
use Rattle.transfers.specs.State.{endpoint_of}
use Rattle.record.specs.Grammar.{Bytes}
use Rattle.record.specs.Calls.{Begin, control_begin, bulk_begin}
use Rattle.record.specs.Asked.{TypedSetup}
use Rattle.transfers.specs.declared.driver.Run.{Run}

-- The fields of a begin that the driver's state keeps.
abbrev pub address_of : Begin → ℕ
address_of (control_begin a x p s ph) = a
address_of (bulk_begin d a e p t b) = a

abbrev pub size_of : Begin → ℕ
size_of (control_begin a x p s ph) = p
size_of (bulk_begin d a e p t b) = p

abbrev pub kind_of : Begin → Kind
kind_of (control_begin a x p s ph) = control_kind (record { phase = ph; wLength = s.wLength })
kind_of (bulk_begin d a e p t b) = bulk_kind (record { direction = d; endpoint = e; toggle = b })

abbrev pub request_of : Begin → List ℕ → Request
request_of x buf = record { address = address_of x; size = size_of x; kind = kind_of x; length = length buf }

-- The transfer in a stage.
abbrev pub busy : Begin → List ℕ → Stage → Option Run
busy x buf st = Some (record { request = request_of x buf; stage = st })

-- A control's SETUP has the fields of its type; a bulk begin's endpoint and buffer were checked.
abbrev pub KindChecked : Begin → List ℕ → Type 0
KindChecked (control_begin a x p s ph) buf = TypedSetup s
KindChecked (bulk_begin d a e p t b) buf = (1 ≤ e) × (e ≤ 15) × (length buf ≤ 65535)

pub record Checked (x : Begin) (buf : List ℕ) : Type 0 where
  pub addr : address_of x ≤ 127
  pub low : 1 ≤ size_of x
  pub high : size_of x ≤ 64
  pub kind : KindChecked x buf

pub endpoint_small : (x : Begin) (buf : List ℕ) → Checked x buf → endpoint_of (kind_of x) ≤ 15
endpoint_small (control_begin a x p s ph) buf h = omega arith
endpoint_small (bulk_begin d a e p t b) buf h = h.kind.1

-- A control Out's buffer holds wLength bytes: else the transfer ends with 7.
abbrev pub Room : Begin → List ℕ → Type 0
Room (control_begin a x p s phase_in) buf = Unit {0}
Room (control_begin a x p s phase_out) buf = s.wLength ≤ length buf
Room (control_begin a x p s phase_none) buf = Unit {0}
Room (bulk_begin d a e p t b) buf = Unit {0}

pub record Proper (x : Begin) (buf : List ℕ) : Type 0 where
  pub checked : Checked x buf
  pub room : Room x buf
  pub are : Bytes buf
