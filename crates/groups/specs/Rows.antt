-- The lists for the smallest limits, how long each is, and the refusals, as one theorem.
use Rattle.std.specs.Prelude.{◌≡◌, refl, [], ◌∷◌, length}
use Rattle.transfers.specs.Reply.{result, number}
use Rattle.groups.specs.Groups.{collect, groups_to}
use Rattle.groups.specs.Listing.{bytes_of, list_bytes, groups_row}

pub record Rows : Type 0 where
  -- "For n = 2: 0; 1; 1 0; 2; 1 1; 2 0; 1 1 0."
  pub two : groups_to 2 ≡ (0 ∷ []) ∷ (1 ∷ []) ∷ (1 ∷ 0 ∷ []) ∷ (2 ∷ []) ∷ (1 ∷ 1 ∷ []) ∷ (2 ∷ 0 ∷ []) ∷ (1 ∷ 1 ∷ 0 ∷ []) ∷ []
  -- The smallest list that an order from the last length on would change.
  pub three : groups_to 3 ≡ (0 ∷ []) ∷ (1 ∷ []) ∷ (1 ∷ 0 ∷ []) ∷ (2 ∷ []) ∷ (1 ∷ 1 ∷ []) ∷ (2 ∷ 0 ∷ []) ∷ (1 ∷ 1 ∷ 0 ∷ []) ∷ (3 ∷ []) ∷ (2 ∷ 1 ∷ []) ∷ (3 ∷ 0 ∷ []) ∷ (1 ∷ 1 ∷ 1 ∷ []) ∷ (1 ∷ 1 ∷ 1 ∷ 0 ∷ []) ∷ []
  -- "Each is given as its packet count and then the lengths, a byte each."
  pub two_bytes : list_bytes 2 ≡ 1 ∷ 0 ∷ 1 ∷ 1 ∷ 2 ∷ 1 ∷ 0 ∷ 1 ∷ 2 ∷ 2 ∷ 1 ∷ 1 ∷ 2 ∷ 2 ∷ 0 ∷ 3 ∷ 1 ∷ 1 ∷ 0 ∷ []
  pub none : list_bytes 0 ≡ 1 ∷ 0 ∷ []
  pub six : length (groups_to 6) ≡ 36
  -- Where each list just fits, and one byte less.
  pub fits_0 : groups_row 0 2 ≡ result 2
  pub fits_1 : groups_row 1 7 ≡ result 7
  pub fits_2 : groups_row 2 19 ≡ result 19
  pub fits_3 : groups_row 3 36 ≡ result 36
  pub fits_4 : groups_row 4 62 ≡ result 62
  pub fits_5 : groups_row 5 90 ≡ result 90
  pub fits_6 : groups_row 6 132 ≡ result 132
  pub room_0 : groups_row 0 1 ≡ number 21
  pub room_6 : groups_row 6 131 ≡ number 21
  -- 35, also where nothing is lent.
  pub limit : groups_row 7 132 ≡ number 35
  pub limit_first : groups_row 7 0 ≡ number 35

pub rows : Rows
unfolding groups_to collect bytes_of
rows = record {
  two = refl;
  three = refl;
  two_bytes = refl;
  none = refl;
  six = refl;
  fits_0 = refl;
  fits_1 = refl;
  fits_2 = refl;
  fits_3 = refl;
  fits_4 = refl;
  fits_5 = refl;
  fits_6 = refl;
  room_0 = refl;
  room_6 = refl;
  limit = refl;
  limit_first = refl;
}
