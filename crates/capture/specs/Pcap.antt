-- A pcap file's packet heads: the time in seconds and microseconds, and the length twice, each 32 bits low byte first.
use Rattle.std.specs.Prelude.{List, [], ◌∷◌, ◌++◌, ℕ, ◌/◌, ◌%◌}

-- 32 bits, low byte first.
abbrev pub low32 : ℕ → List ℕ
low32 n = n % 256 ∷ n / 256 % 256 ∷ n / 65536 % 256 ∷ n / 16777216 % 256 ∷ []

-- A record has no clock, so the time of packet i, counted from 0, is i microseconds.
abbrev pub frame_head : ℕ → ℕ → List ℕ
frame_head i n = low32 (i / 1000000) ++ (low32 (i % 1000000) ++ (low32 n ++ low32 n))
