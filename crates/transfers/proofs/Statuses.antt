-- Laws of device detection. Assumes nothing.
use Rattle.std.proofs.Common.{◌≡◌, true, false, sym, refl, ap, ◌∙◌, true≢false}
use Rattle.transfers.specs.declared.host_controller.UsbSpeed.{UsbSpeed}
use Rattle.transfers.specs.declared.host_controller.UsbSpeed.TheVariants.{Low1_5, Full12}
use Rattle.transfers.specs.declared.host_controller.DeviceStatus.{DeviceStatus}
use Rattle.transfers.specs.declared.host_controller.DeviceStatus.TheVariants.{Present, Absent}
use Rattle.transfers.specs.Detect.{same_speed, same_status}

-- The test says whether two statuses are the same.
same_speed_lem : (a b : UsbSpeed) → same_speed a b ≡ true → a ≡ b
same_speed_lem Low1_5 Low1_5 e = refl
same_speed_lem Low1_5 Full12 e = absurd (true≢false (sym e))
same_speed_lem Full12 Low1_5 e = absurd (true≢false (sym e))
same_speed_lem Full12 Full12 e = refl

pub same_status_lem : (a b : DeviceStatus) → same_status a b ≡ true → a ≡ b
same_status_lem (Present a) (Present b) e = ap (λ s. Present s) (same_speed_lem a b e)
same_status_lem (Present a) Absent e = absurd (true≢false (sym e))
same_status_lem Absent (Present b) e = absurd (true≢false (sym e))
same_status_lem Absent Absent e = refl

itself : (a : DeviceStatus) → same_status a a ≡ true
itself (Present Low1_5) = refl
itself (Present Full12) = refl
itself Absent = refl

pub other_status : (a b : DeviceStatus) → same_status a b ≡ false → a ≡ b → ⊥
other_status a b e same = true≢false (sym (itself a) ∙ ap (same_status a) same ∙ e)
