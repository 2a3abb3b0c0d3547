-- The walk of a configuration descriptor (USB 2.0 section 9.6), in the request's words, numbers and order.
use Rattle.std.specs.Prelude.{cond, ◌||◌, not, List, [], ℕ, ◌+◌, ◌*◌, ◌%◌, eqb, leb, ltb, length, take, drop, get_or}

-- "its bEndpointAddress, transfer type (bmAttributes modulo 4), wMaxPacketSize and bInterval"
pub record EndpointFields : Type 0 where
  pub address : ℕ
  pub transfer_type : ℕ
  pub max_packet_size : ℕ
  pub interval : ℕ

-- What the walk hands back at a position: a descriptor's bytes, an endpoint descriptor's with its fields, the end, or a number.
pub data Walked : Type 0 where
  descriptor : List ℕ → Walked
  endpoint : List ℕ → EndpointFields → Walked
  end : Walked
  refused : ℕ → Walked

-- wTotalLength: two bytes at offset 2 of the configuration descriptor (table 9-10), the low one first (section 8.1).
abbrev pub total_of : List ℕ → ℕ
total_of b = get_or b 2 0 + 256 * get_or b 3 0

-- "the next descriptor .. as a part of the caller's own bytes": as many as its first byte, bLength, says.
abbrev pub part_at : List ℕ → ℕ → List ℕ
part_at b at = take (get_or b at 0) (drop at b)

-- An endpoint descriptor's fields by their offsets (table 9-13).
abbrev pub fields_at : List ℕ → ℕ → EndpointFields
fields_at b at = record { address = get_or b (at + 2) 0; transfer_type = get_or b (at + 3) 0 % 4; max_packet_size = get_or b (at + 4) 0 + 256 * get_or b (at + 5) 0; interval = get_or b (at + 6) 0 }

-- "then with 22 an endpoint's below 7"
abbrev pub endpoint_answer : List ℕ → ℕ → Walked
endpoint_answer b at = cond (ltb (get_or b at 0) 7) (refused 22) (endpoint (part_at b at) (fields_at b at))

-- bDescriptorType, the second byte, is 5 for an endpoint (table 9-5).
abbrev pub typed_answer : List ℕ → ℕ → Walked
typed_answer b at = cond (eqb (get_or b (at + 1) 0) 5) (endpoint_answer b at) (descriptor (part_at b at))

-- "at each descriptor with 22 a bLength below 2, then with 23 one that runs past wTotalLength"
abbrev pub inside_answer : List ℕ → ℕ → Walked
inside_answer b at =
    cond (ltb (get_or b at 0) 2) (refused 22)
    (cond (ltb (total_of b) (at + get_or b at 0)) (refused 23) (typed_answer b at))

-- "It refuses with 24 fewer than 9 bytes or a second byte other than 2, then with 23 a wTotalLength below 9 or above the bytes lent"; "From wTotalLength on it answers end."
unfoldable pub walk_of : List ℕ → ℕ → Walked
walk_of b at =
    cond (ltb (length b) 9 || not (eqb (get_or b 1 0) 2)) (refused 24)
    (cond (ltb (total_of b) 9 || ltb (length b) (total_of b)) (refused 23)
    (cond (leb (total_of b) at) end (inside_answer b at)))

-- The descriptor's bytes, none where none is found.
abbrev pub part_of : Walked → List ℕ
part_of (descriptor p) = p
part_of (endpoint p e) = p
part_of end = []
part_of (refused n) = []
