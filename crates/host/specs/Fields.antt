-- "one transfer waiting, which comes with begin's fields and its buffer's length alone": the fields of a coming, and which of them it refuses.
use Rattle.std.specs.Prelude.{Bool, true, ℕ, leb, Result}
use Rattle.cutting.specs.declared.transfer_type.TransferType.{TransferType}
use Rattle.transfers.specs.declared.host_controller.DataPhase.{DataPhase}
use Rattle.transfers.specs.declared.host_controller.DataPhase.TheVariants.{In}
use Rattle.transfers.specs.declared.host_controller.TransferExtras.{TransferExtras}
use Rattle.transfers.specs.declared.host_controller.TransferExtras.TheVariants.{Normal}
use Rattle.transfers.specs.declared.wire.SetupPacket.{SetupPacket}
use Rattle.transfers.specs.State.{address_good, endpoint_good, size_good}
use Rattle.transfers.specs.Calls.{fields_refusal}
use Rattle.host.specs.declared.fields.BulkFields.{BulkFields}
use Rattle.host.specs.declared.fields.Fields.{Fields}
use Rattle.host.specs.declared.fields.Fields.TheVariants.{Control, BulkIn, BulkOut}
use Rattle.transfers.specs.declared.refusal.Refusal.{Refusal}

-- What `submit_control` is given.
abbrev pub control_fields : ℕ → TransferExtras → ℕ → SetupPacket → DataPhase → ℕ → Fields
control_fields a x p s ph n = Control (record { address = a; extras = x; size = p; setup = s; phase = ph; length = n })

-- What `submit_bulk_in` is given.
abbrev pub bulk_in_fields : ℕ → ℕ → ℕ → TransferType → Bool → ℕ → Fields
bulk_in_fields a e p k b n = BulkIn (record { address = a; endpoint = e; size = p; kind = k; toggle = b; length = n })

-- What `submit_bulk_out` is given.
abbrev pub bulk_out_fields : ℕ → ℕ → ℕ → TransferType → Bool → ℕ → Fields
bulk_out_fields a e p k b n = BulkOut (record { address = a; endpoint = e; size = p; kind = k; toggle = b; length = n })

-- A caller that never came.
abbrev pub no_fields : Fields
no_fields = control_fields 0 Normal 0 (record { bmRequestType = 0; bRequest = 0; wValue = 0; wIndex = 0; wLength = 0 }) In 0

-- "its buffer's length"
abbrev pub length_of : Fields → ℕ
length_of (Control x) = x.length
length_of (BulkIn x) = x.length
length_of (BulkOut x) = x.length

-- "its full requested bytes ..: wLength or the bulk buffer's length"
abbrev pub requested_of : Fields → ℕ
requested_of (Control x) = x.setup.wLength
requested_of (BulkIn x) = x.length
requested_of (BulkOut x) = x.length

-- A bulk coming's 12, 11, 13, 14.
abbrev pub bulk_refused : BulkFields → Result (Unit {0}) Refusal
bulk_refused x = fields_refusal (address_good x.address) (endpoint_good x.endpoint) (size_good x.size) (leb x.length 0xFFFF)

-- "then as begin does, save that 8 no longer occurs": 12, 11, 13, 14; nothing is lent, so there is no 15. As at begin a control has no endpoint and no limit of its buffer.
abbrev pub fields_refused : Fields → Result (Unit {0}) Refusal
fields_refused (Control x) = fields_refusal (address_good x.address) true (size_good x.size) true
fields_refused (BulkIn x) = bulk_refused x
fields_refused (BulkOut x) = bulk_refused x
