-- The smallest files of every answer, as one theorem.
use Rattle.std.specs.Prelude.{◌≡◌, refl, List, [], ◌∷◌, ◌++◌, ℕ, zero, suc, take, set}
use Rattle.poll.specs.Table.{capped, built_in_of}
use Rattle.poll.specs.Reply.{result, number}
use Rattle.poll.specs.File.{headed, all_good, bounded_table, table_in}

-- Version 1 with these entries.
abbrev pub file : List ℕ → List ℕ
file t = 0x50 ∷ 0x49 ∷ 0x54 ∷ 1 ∷ 0 ∷ t

-- n entries from i on, entry i being i.
abbrev pub counted : ℕ → ℕ → List ℕ
counted i zero = []
counted i (suc n) = i ∷ counted (suc i) n

-- The built-in table with another entry i.
abbrev but : ℕ → ℕ → List ℕ
but i v = set built_in_of i v

pub record Rows : Type 0 where
  -- 28: nothing, a head alone, a byte less and a byte more
  pub nothing : table_in [] ≡ number 28
  pub short : table_in (0x50 ∷ 0x49 ∷ 0x54 ∷ 1 ∷ []) ≡ number 28
  pub bare : table_in (file []) ≡ number 28
  pub less : table_in (file (take 255 built_in_of)) ≡ number 28
  pub more : table_in (file (built_in_of ++ (9 ∷ []))) ≡ number 28
  -- each byte of the mark and of the version
  pub mark_p : table_in (0x70 ∷ 0x49 ∷ 0x54 ∷ 1 ∷ 0 ∷ built_in_of) ≡ number 28
  pub mark_i : table_in (0x50 ∷ 0x69 ∷ 0x54 ∷ 1 ∷ 0 ∷ built_in_of) ≡ number 28
  pub mark_t : table_in (0x50 ∷ 0x49 ∷ 0x74 ∷ 1 ∷ 0 ∷ built_in_of) ≡ number 28
  pub version_0 : table_in (0x50 ∷ 0x49 ∷ 0x54 ∷ 0 ∷ 0 ∷ built_in_of) ≡ number 28
  pub version_2 : table_in (0x50 ∷ 0x49 ∷ 0x54 ∷ 2 ∷ 0 ∷ built_in_of) ≡ number 28
  pub version_256 : table_in (0x50 ∷ 0x49 ∷ 0x54 ∷ 0 ∷ 1 ∷ built_in_of) ≡ number 28
  pub version_257 : table_in (0x50 ∷ 0x49 ∷ 0x54 ∷ 1 ∷ 1 ∷ built_in_of) ≡ number 28
  -- 28 before 29
  pub format_first : table_in (file (take 255 (but 0 1))) ≡ number 28
  -- 29
  pub zeroth : table_in (file (but 0 1)) ≡ number 29
  pub first_0 : table_in (file (but 1 0)) ≡ number 29
  pub first_2 : table_in (file (but 1 2)) ≡ number 29
  pub fifth_0 : table_in (file (but 5 0)) ≡ number 29
  pub fifth_6 : table_in (file (but 5 6)) ≡ number 29
  pub last_0 : table_in (file (but 255 0)) ≡ number 29
  pub before_last : table_in (file (but 254 255)) ≡ number 29
  -- the built-in table itself; an entry at each of its bounds; every entry at its upper bound
  pub built_in : table_in (file built_in_of) ≡ result built_in_of
  pub fifth_1 : table_in (file (but 5 1)) ≡ result (but 5 1)
  pub last_255 : table_in (file (but 255 255)) ≡ result (but 255 255)
  pub slowest : table_in (file (counted 0 256)) ≡ result (counted 0 256)

pub rows : Rows
unfolding capped headed all_good bounded_table table_in
rows = record {
  nothing = refl;
  short = refl;
  bare = refl;
  less = refl;
  more = refl;
  mark_p = refl;
  mark_i = refl;
  mark_t = refl;
  version_0 = refl;
  version_2 = refl;
  version_256 = refl;
  version_257 = refl;
  format_first = refl;
  zeroth = refl;
  first_0 = refl;
  first_2 = refl;
  fifth_0 = refl;
  fifth_6 = refl;
  last_0 = refl;
  before_last = refl;
  built_in = refl;
  fifth_1 = refl;
  last_255 = refl;
  slowest = refl;
}
