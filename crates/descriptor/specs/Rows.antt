-- The smallest inputs of every answer, as one theorem.
use Rattle.std.specs.Prelude.{◌≡◌, refl, List, [], ◌∷◌, ℕ, replicate}
use Rattle.descriptor.specs.Walk.{walk_of, part_of, descriptor, endpoint, end, refused}

-- A configuration descriptor with the given low and high byte of wTotalLength and what follows its nine bytes.
abbrev long : ℕ → ℕ → List ℕ → List ℕ
long low high rest = 9 ∷ 2 ∷ low ∷ high ∷ 1 ∷ 1 ∷ 0 ∷ 0 ∷ 0 ∷ rest

-- One with a wTotalLength below 256.
abbrev config : ℕ → List ℕ → List ℕ
config total rest = long total 0 rest

-- The first six bytes of an endpoint descriptor of n, and the rest: 0x81, interrupt, 8 bytes.
abbrev interrupt : ℕ → List ℕ → List ℕ
interrupt n rest = n ∷ 5 ∷ 0x81 ∷ 3 ∷ 8 ∷ 0 ∷ rest

pub record Rows : Type 0 where
  -- 24
  pub nothing : walk_of [] 0 ≡ refused 24
  pub short : walk_of (9 ∷ 2 ∷ 9 ∷ 0 ∷ 0 ∷ 0 ∷ 0 ∷ 0 ∷ []) 0 ≡ refused 24
  pub device : walk_of (9 ∷ 1 ∷ 9 ∷ 0 ∷ 0 ∷ 0 ∷ 0 ∷ 0 ∷ 0 ∷ []) 0 ≡ refused 24
  -- 23 for wTotalLength, whatever the position
  pub zero_total : walk_of (config 0 []) 0 ≡ refused 23
  pub below : walk_of (config 8 []) 8 ≡ refused 23
  pub above : walk_of (config 10 []) 0 ≡ refused 23
  pub most : walk_of (long 0xFF 0xFF []) 0xFFFF ≡ refused 23
  -- the configuration descriptor itself, whatever its bLength, and the end
  pub first : walk_of (config 9 []) 0 ≡ descriptor (config 9 [])
  pub of_two : walk_of (2 ∷ 2 ∷ 9 ∷ 0 ∷ 1 ∷ 1 ∷ 0 ∷ 0 ∷ 0 ∷ []) 0 ≡ descriptor (2 ∷ 2 ∷ [])
  pub over : walk_of (config 9 []) 9 ≡ end
  pub ignored : walk_of (config 9 (0 ∷ [])) 9 ≡ end
  pub wide : walk_of (config 9 []) 0x1_0000 ≡ end
  pub far : walk_of (config 9 []) 0xFFFF_FFFF_FFFF_FFFF ≡ end
  -- wTotalLength 0x109, of 265 bytes
  pub last : walk_of (long 9 1 (replicate 256 2)) 264 ≡ refused 23
  pub full : walk_of (long 9 1 (replicate 256 2)) 265 ≡ end
  -- 22, then 23, at a descriptor
  pub zero : walk_of (config 10 (0 ∷ [])) 9 ≡ refused 22
  pub one : walk_of (config 10 (1 ∷ [])) 9 ≡ refused 22
  pub past : walk_of (config 10 (2 ∷ [])) 9 ≡ refused 23
  pub past_total : walk_of (config 10 (2 ∷ 4 ∷ [])) 9 ≡ refused 23
  pub two : walk_of (config 11 (2 ∷ 4 ∷ [])) 9 ≡ descriptor (2 ∷ 4 ∷ [])
  -- then 22 for an endpoint's
  pub bare : walk_of (config 11 (2 ∷ 5 ∷ [])) 9 ≡ refused 22
  pub six : walk_of (config 15 (interrupt 6 [])) 9 ≡ refused 22
  pub six_cut : walk_of (config 14 (6 ∷ 5 ∷ 0x81 ∷ 3 ∷ 8 ∷ [])) 9 ≡ refused 23
  pub cut : walk_of (config 15 (interrupt 7 [])) 9 ≡ refused 23
  -- an endpoint, as a part of the bytes and with its fields
  pub whole : walk_of (config 16 (interrupt 7 (10 ∷ []))) 9 ≡ endpoint (interrupt 7 (10 ∷ [])) (record { address = 0x81; transfer_type = 3; max_packet_size = 8; interval = 10 })
  pub part : part_of (walk_of (config 16 (interrupt 7 (10 ∷ []))) 9) ≡ interrupt 7 (10 ∷ [])
  -- bmAttributes 0x0D and all 16 bits of wMaxPacketSize, in a descriptor of nine bytes
  pub audio : walk_of (config 18 (9 ∷ 5 ∷ 4 ∷ 0x0D ∷ 0x20 ∷ 0x14 ∷ 1 ∷ 0 ∷ 0 ∷ [])) 9
      ≡ endpoint (9 ∷ 5 ∷ 4 ∷ 0x0D ∷ 0x20 ∷ 0x14 ∷ 1 ∷ 0 ∷ 0 ∷ []) (record { address = 4; transfer_type = 1; max_packet_size = 0x1420; interval = 1 })
  -- a position inside a descriptor is read as if one stood there
  pub inside : walk_of (config 16 (interrupt 7 (10 ∷ []))) 10 ≡ descriptor (5 ∷ 0x81 ∷ 3 ∷ 8 ∷ 0 ∷ [])

pub rows : Rows
unfolding walk_of
rows = record {
  nothing = refl;
  short = refl;
  device = refl;
  zero_total = refl;
  below = refl;
  above = refl;
  most = refl;
  first = refl;
  of_two = refl;
  over = refl;
  ignored = refl;
  wide = refl;
  far = refl;
  last = refl;
  full = refl;
  zero = refl;
  one = refl;
  past = refl;
  past_total = refl;
  two = refl;
  bare = refl;
  six = refl;
  six_cut = refl;
  cut = refl;
  whole = refl;
  part = refl;
  audio = refl;
  inside = refl;
}
