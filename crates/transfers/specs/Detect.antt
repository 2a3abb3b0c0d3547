-- Device detection: "Detection reads the speed field: 0 absent, 1 low, 2 and 3 full; it answers a change from the last status or waiting, and enables the connect interrupt either way."
use Rattle.std.specs.Prelude.{◌≡◌, ℕ, zero, suc, Bool, true, false, List, [], ◌∷◌, Err, None, Ok, Option, Result, Some}
use Rattle.transfers.specs.declared.host_controller.UsbSpeed.{UsbSpeed}
use Rattle.transfers.specs.declared.host_controller.UsbSpeed.TheVariants.{Low1_5, Full12}
use Rattle.transfers.specs.declared.host_controller.DeviceStatus.{DeviceStatus}
use Rattle.transfers.specs.declared.host_controller.DeviceStatus.TheVariants.{Present, Absent}
use Rattle.transfers.specs.declared.refusal.Refusal.TheVariants.{LentMemory}
use Rattle.transfers.specs.declared.driver.Driver.{Driver}
use Rattle.transfers.specs.Log.{Write, wr, Wrote}
use Rattle.transfers.specs.Memory.{log_fits}
use Rattle.transfers.specs.Registers.{field, inte}
use Rattle.transfers.specs.declared.refusal.Refusal.{Refusal}

-- The status of a speed field.
abbrev pub status_at : ℕ → DeviceStatus
status_at zero = Absent
status_at (suc zero) = Present Low1_5
status_at (suc (suc n)) = Present Full12

-- The status of SIE_STATUS.
abbrev pub status_of : ℕ → DeviceStatus
status_of sie = status_at (field 8 2 sie)

-- Two speeds are the same.
abbrev pub same_speed : UsbSpeed → UsbSpeed → Bool
same_speed Low1_5 Low1_5 = true
same_speed Low1_5 Full12 = false
same_speed Full12 Low1_5 = false
same_speed Full12 Full12 = true

-- Two statuses are the same.
abbrev pub same_status : DeviceStatus → DeviceStatus → Bool
same_status (Present a) (Present b) = same_speed a b
same_status (Present a) Absent = false
same_status Absent (Present b) = false
same_status Absent Absent = true

-- What a call does to the last status: the next one, the answer, and the writes.
pub record Detecting (S : Type 0) : Type 0 where
  pub next : S
  pub answer : Result (Option DeviceStatus) Refusal
  pub writes : List Write

-- "enables the connect interrupt either way"
abbrev pub connect : List Write
connect = wr inte 1 1 ∷ []

-- "it answers a change from the last status or waiting"; 15 where the log is short.
abbrev pub detecting_if : Bool → Bool → DeviceStatus → DeviceStatus → Detecting DeviceStatus
detecting_if false same last now = record { next = last; answer = Err LentMemory; writes = [] }
detecting_if true true last now = record { next = last; answer = Ok None; writes = connect }
detecting_if true false last now = record { next = now; answer = Ok (Some now); writes = connect }

-- Detection on a last status.
unfoldable pub detecting_status : DeviceStatus → ℕ → List ℕ → Detecting DeviceStatus
detecting_status last sie log = detecting_if (log_fits log) (same_status (status_of sie) last) last (status_of sie)

-- The same for the driver.
abbrev pub with_last : Driver → Detecting DeviceStatus → Detecting Driver
with_last d e = record { next = record { transfer = d.transfer; entries = d.entries; pipes = d.pipes; last = e.next; rule = d.rule }; answer = e.answer; writes = e.writes }

-- Detection, on any driver.
abbrev pub detecting : Driver → ℕ → List ℕ → Detecting Driver
detecting d sie log = with_last d (detecting_status d.last sie log)

-- What a call hands back, from what it does.
pub record DidDetect {S : Type 0} (e : Detecting S) (s : S) (a : Result (Option DeviceStatus) Refusal) (k : ℕ) (l l' : List ℕ) : Type 0 where
  pub next : s ≡ e.next
  pub answer : a ≡ e.answer
  pub log : Wrote l 0 e.writes l' k
