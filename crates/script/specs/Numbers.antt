-- "Numbers are decimal, or hexadecimal after `0x`."
use Rattle.std.specs.Prelude.{Bool, true, cond, ◌&&◌, List, [], ◌∷◌, ℕ, ◌+◌, ◌*◌, ◌-◌, eqb, leb, ltb, length, drop, get_or, Option, Some, None}

-- The value of a decimal or hexadecimal digit, "of either case"; 16 for a byte that is no digit.
unfoldable pub digit_of : ℕ → ℕ
digit_of b =
    cond (leb 48 b && leb b 57) (b - 48)
    (cond (leb 65 b && leb b 70) (b - 65 + 10)
    (cond (leb 97 b && leb b 102) (b - 97 + 10) 16))

-- All bytes are digits of the base.
unfoldable pub all_digits : ℕ → List ℕ → Bool
all_digits base [] = true
all_digits base (b ∷ bs) = ltb (digit_of b) base && all_digits base bs

-- The number that digits spell, the most significant first, after a number n.
unfoldable pub spelled : ℕ → ℕ → List ℕ → ℕ
spelled base n [] = n
spelled base n (b ∷ bs) = spelled base (n * base + digit_of b) bs

-- The number that digits of a base spell, if there is a digit, all are of the base, and it is at most `most`.
unfoldable pub value_of : ℕ → ℕ → List ℕ → Option ℕ
value_of base most ds = cond (ltb 0 (length ds) && (all_digits base ds && leb (spelled base 0 ds) most)) (Some (spelled base 0 ds)) None

-- "Hexadecimal after `0x`": a text begins so.
abbrev pub is_hex : List ℕ → Bool
is_hex text = leb 2 (length text) && (eqb (get_or text 0 0) 48 && eqb (get_or text 1 0) 120)

-- "Numbers are decimal, or hexadecimal after `0x`": the number of a text, if it is one and at most `most`.
unfoldable pub number_of : List ℕ → ℕ → Option ℕ
number_of text most = cond (is_hex text) (value_of 16 most (drop 2 text)) (value_of 10 most text)
