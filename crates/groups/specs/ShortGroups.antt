-- What document 02 asks of short groups, as one statement.
use Rattle.std.specs.Prelude.{◌≡◌, List, [], ◌∷◌, ◌++◌, ℕ, ◌≤◌, ◌<◌, length, drop, Err, Ok, Result}
use Rattle.transfers.specs.Reply.{result, number}
use Rattle.groups.specs.declared.Refusal.TheVariants.{Limit, Room}
use Rattle.groups.specs.Enumerates.{Enumerates}
use Rattle.groups.specs.declared.Refusal.{Refusal}
use Rattle.groups.specs.Groups.{groups_to}
use Rattle.groups.specs.Listing.{bytes_of, groups_reply, Listed}
use Rattle.groups.specs.Refusal.{number_of}

pub record ShortGroups : Type 0 where
  -- "Given a limit n of 0 to 6 bytes, list the packet lengths of every group the grammar allows of at most n bytes, each exactly once"
  pub enumerates : (n : ℕ) → n ≤ 6 → Enumerates n (groups_to n)
  -- No other list does.
  pub only : (n : ℕ) (gs hs : List (List ℕ)) → Enumerates n gs → Enumerates n hs → gs ≡ hs
  -- "Each is given as its packet count and then the lengths, a byte each."
  pub no_group_of : bytes_of [] ≡ []
  pub each_group : (g : List ℕ) (gs : List (List ℕ)) → bytes_of (g ∷ gs) ≡ length g ∷ (g ++ bytes_of gs)
  -- What the answer means: how many bytes were written, or a number.
  pub used_meant : (k : ℕ) → groups_reply (Ok k) ≡ result k
  pub limit_meant : (groups_reply (Err Limit) ≡ number 35) × (number_of Limit ≡ 35)
  pub room_meant : (groups_reply (Err Room) ≡ number 21) × (number_of Room ≡ 21)
  -- What `Listed` says, which `short_groups` promises. "It refuses with 35 an n above 6": whatever is lent, and all of it stays.
  pub above_6 : (n : ℕ) (out : List ℕ) (r : Result ℕ Refusal) (out' : List ℕ) → Listed n out r out' → 6 < n → (groups_reply r ≡ number 35) × (out' ≡ out)
  -- "then with 21 lent bytes too few"
  pub too_few : (n : ℕ) (out : List ℕ) (r : Result ℕ Refusal) (out' : List ℕ) → Listed n out r out' → n ≤ 6 → length out < length (bytes_of (groups_to n))
      → (groups_reply r ≡ number 21) × (out' ≡ out)
  -- Else the list comes from the first byte on, and the bytes after it stay.
  pub enough : (n : ℕ) (out : List ℕ) (r : Result ℕ Refusal) (out' : List ℕ) → Listed n out r out' → n ≤ 6 → length (bytes_of (groups_to n)) ≤ length out
      → (groups_reply r ≡ result (length (bytes_of (groups_to n)))) × (out' ≡ bytes_of (groups_to n) ++ drop (length (bytes_of (groups_to n))) out)
