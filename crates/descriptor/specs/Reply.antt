-- "Where an answer is an enum, a definition gives this paper's number and values for each of its cases."
use Rattle.std.specs.Prelude.{◌≡◌, List, ℕ, Option, Some, None, Result, Ok, Err, codes}
use Rattle.descriptor.specs.declared.refusal.Refusal.{Refusal}
use Rattle.descriptor.specs.declared.refusal.Refusal.TheVariants.{Length, TotalLength, Configuration}
use Rattle.descriptor.specs.declared.walk.EndpointKind.{EndpointKind}
use Rattle.descriptor.specs.declared.walk.EndpointKind.TheVariants.{Control, Isochronous, Bulk, Interrupt}
use Rattle.descriptor.specs.declared.walk.Endpoint.{Endpoint}
use Rattle.descriptor.specs.declared.walk.Descriptor.{Descriptor}
use Rattle.descriptor.specs.Walk.{EndpointFields, Walked, descriptor, endpoint, end, refused}

-- "22 a bLength below 2", "an endpoint's below 7"; "23 a wTotalLength below 9 or above the bytes lent", "one that runs past wTotalLength"; "24 fewer than 9 bytes or a second byte other than 2"
abbrev pub number_of : Refusal → ℕ
number_of Length = 22
number_of TotalLength = 23
number_of Configuration = 24

-- The transfer types of bmAttributes' bits 1:0 (table 9-13): 0 control, 1 isochronous, 2 bulk, 3 interrupt.
abbrev pub type_number : EndpointKind → ℕ
type_number Control = 0
type_number Isochronous = 1
type_number Bulk = 2
type_number Interrupt = 3

-- Their names there, in small letters.
abbrev pub type_text : EndpointKind → List ℕ
type_text Control = codes "control"
type_text Isochronous = codes "isochronous"
type_text Bulk = codes "bulk"
type_text Interrupt = codes "interrupt"

-- An endpoint's values.
abbrev pub fields_of : Endpoint → EndpointFields
fields_of e = record { address = e.address; transfer_type = type_number e.kind; max_packet_size = e.size; interval = e.interval }

-- A descriptor, with an endpoint's values where it is one.
abbrev pub descriptor_reply : Option Endpoint → List ℕ → Walked
descriptor_reply None part = descriptor part
descriptor_reply (Some e) part = endpoint part (fields_of e)

-- An answer, with the part of the bytes that goes with it.
abbrev pub walk_reply : Result (Option Descriptor) Refusal → List ℕ → Walked
walk_reply (Ok (Some d)) part = descriptor_reply d.endpoint part
walk_reply (Ok None) part = end
walk_reply (Err why) part = refused (number_of why)

-- No two answers have one reply: a contract on the reply leaves no choice of the answer.
pub record OneAnswer : Type 0 where
  pub told : (r s : Result (Option Descriptor) Refusal) (p q : List ℕ) → walk_reply r p ≡ walk_reply s q → r ≡ s
