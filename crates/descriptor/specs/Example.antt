-- A boot mouse's configuration, walked: each line is computed by the checker.
use Rattle.std.specs.Prelude.{◌≡◌, refl, List, [], ◌∷◌, ◌++◌, ℕ, ◌+◌, ◌*◌, Option, Some, None, Result, Ok, Err}
use Rattle.descriptor.specs.declared.refusal.Refusal.{Refusal}
use Rattle.descriptor.specs.declared.refusal.Refusal.TheVariants.{Length, TotalLength, Configuration}
use Rattle.descriptor.specs.declared.walk.EndpointKind.{EndpointKind}
use Rattle.descriptor.specs.declared.walk.EndpointKind.TheVariants.{Control, Isochronous, Bulk, Interrupt}
use Rattle.descriptor.specs.declared.walk.Endpoint.{Endpoint}
use Rattle.descriptor.specs.declared.walk.Descriptor.{Descriptor}
use Rattle.descriptor.specs.Walk.{walk_of, end}
use Rattle.descriptor.specs.Reply.{type_number, walk_reply}
use Rattle.descriptor.specs.Whole.{Finds}

-- wTotalLength is 34.
abbrev configuration : List ℕ
configuration = 9 ∷ 2 ∷ 34 ∷ 0 ∷ 1 ∷ 1 ∷ 0 ∷ 0x80 ∷ 50 ∷ []

abbrev interface : List ℕ
interface = 9 ∷ 4 ∷ 0 ∷ 0 ∷ 1 ∷ 3 ∷ 1 ∷ 2 ∷ 0 ∷ []

-- A class-specific descriptor: HID's.
abbrev hid : List ℕ
hid = 9 ∷ 0x21 ∷ 0x11 ∷ 1 ∷ 0 ∷ 1 ∷ 0x22 ∷ 52 ∷ 0 ∷ []

-- An endpoint descriptor of seven bytes.
abbrev endpoint_of : ℕ → ℕ → ℕ → ℕ → ℕ → List ℕ
endpoint_of attributes address low high interval = 7 ∷ 5 ∷ address ∷ attributes ∷ low ∷ high ∷ interval ∷ []

-- 0x81, with the given bmAttributes, 8 bytes, interval 10.
abbrev endpoint_with : ℕ → List ℕ
endpoint_with attributes = endpoint_of attributes 0x81 8 0 10

-- The box's bytes, with the given bmAttributes; 3 is the mouse's.
abbrev box : ℕ → List ℕ
box attributes = configuration ++ (interface ++ (hid ++ endpoint_with attributes))

-- What the call answers: a descriptor of no endpoint, ..
abbrev other : Result (Option Descriptor) Refusal
other = Ok (Some (record { endpoint = None }))

-- .. an endpoint with the given fields, ..
abbrev found : Endpoint → Result (Option Descriptor) Refusal
found e = Ok (Some (record { endpoint = Some e }))

-- .. and the mouse's, of the given kind.
abbrev answered : EndpointKind → Result (Option Descriptor) Refusal
answered kind = found (record { address = 0x81; kind = kind; size = 8; interval = 10 })

pub record Example : Type 0 where
  -- the walk, call by call: what is answered, and the part that goes with it
  pub first : walk_reply other configuration ≡ walk_of (box 3) 0
  pub second : walk_reply other interface ≡ walk_of (box 3) 9
  pub third : walk_reply other hid ≡ walk_of (box 3) 18
  pub fourth : walk_reply (answered Interrupt) (endpoint_with 3) ≡ walk_of (box 3) 27
  pub fifth : walk_reply (Ok None) [] ≡ walk_of (box 3) 34
  -- the same as one walk
  pub walk : Finds (box 3) 0 (configuration ∷ interface ∷ hid ∷ endpoint_with 3 ∷ []) end
  -- the other transfer types
  pub control : walk_reply (answered Control) (endpoint_with 0) ≡ walk_of (box 0) 27
  pub isochronous : walk_reply (answered Isochronous) (endpoint_with 1) ≡ walk_of (box 1) 27
  pub bulk : walk_reply (answered Bulk) (endpoint_with 2) ≡ walk_of (box 2) 27
  -- whatever the endpoint's fields are
  pub any : (kind : EndpointKind) (address low high interval : ℕ)
      → walk_reply (found (record { address = address; kind = kind; size = low + 256 * high; interval = interval })) (endpoint_of (type_number kind) address low high interval)
      ≡ walk_of (configuration ++ (interface ++ (hid ++ endpoint_of (type_number kind) address low high interval))) 27
  -- a refusal of each kind
  pub length : walk_reply (Err Length) [] ≡ walk_of (box 3) 12
  pub past : walk_reply (Err TotalLength) [] ≡ walk_of (box 3) 33
  pub nothing : walk_reply (Err Configuration) [] ≡ walk_of [] 0

any_endpoint : (kind : EndpointKind) (address low high interval : ℕ)
    → walk_reply (found (record { address = address; kind = kind; size = low + 256 * high; interval = interval })) (endpoint_of (type_number kind) address low high interval)
    ≡ walk_of (configuration ++ (interface ++ (hid ++ endpoint_of (type_number kind) address low high interval))) 27
unfolding walk_of
any_endpoint Control address low high interval = refl
any_endpoint Isochronous address low high interval = refl
any_endpoint Bulk address low high interval = refl
any_endpoint Interrupt address low high interval = refl

pub example : Example
unfolding walk_of
example = record {
  first = refl;
  second = refl;
  third = refl;
  fourth = refl;
  fifth = refl;
  walk = (refl, (refl, (refl, (refl, (refl, tt)))));
  control = refl;
  isochronous = refl;
  bulk = refl;
  any = any_endpoint;
  length = refl;
  past = refl;
  nothing = refl;
}
