-- The check fields of packets, by the polynomial and bit by bit (USB 2.0 section 8.3.5).
use Rattle.std.specs.Prelude.{◌≡◌, cond, List, [], ◌∷◌, ℕ, zero, suc, ◌+◌, ◌*◌, ◌-◌, ◌/◌, ◌%◌, ◌<◌, eqb, get_or}
use Rattle.std.specs.Int.Bits.{differ, bit_xor}

-- One bit of the data: the remainder moves on by a place; where the bit that leaves it and the data's bit differ, the polynomial is taken off. The remainder's
-- highest bit is held lowest, as it is sent first, so that the polynomial's bits stand in that order too.
abbrev pub crc_bit : ℕ → ℕ → ℕ → ℕ
crc_bit poly c b = cond (eqb (differ (c % 2) b) 1) (bit_xor (c / 2) poly) (c / 2)

-- n bits of a number, its lowest first, as they are sent.
unfoldable pub crc_bits : ℕ → ℕ → ℕ → ℕ → ℕ
crc_bits poly zero c x = c
crc_bits poly (suc n) c x = crc_bits poly n (crc_bit poly c (x % 2)) (x / 2)

-- n bits the other way round, before those of a number.
unfoldable pub turned : ℕ → ℕ → ℕ → ℕ
turned zero x y = y
turned (suc n) x y = turned n (x / 2) (x % 2 + 2 * y)

-- "G(X) = X^16 + X^15 + X^2 + 1. The binary bit pattern that represents this polynomial is 1000000000000101B", turned round.
abbrev pub poly16 : ℕ
poly16 = 0xA001

-- The remainder after bytes.
unfoldable pub remainder16 : ℕ → List ℕ → ℕ
remainder16 c [] = c
remainder16 c (x ∷ l) = remainder16 (crc_bits poly16 8 c x) l

-- CRC16 of data: from all ones, and the remainder's complement is sent.
unfoldable pub crc16_of : List ℕ → ℕ
crc16_of l = 0xFFFF - remainder16 0xFFFF l

-- "a table of 256 sixteen-bit entries whose rule follows from the polynomial": eight bits of 0 after the entry's number.
unfoldable pub entry_of : ℕ → ℕ
entry_of n = crc_bits poly16 8 n 0

-- All entries of a table follow that rule.
pub record Tabled (t : List ℕ) : Type 0 where
  pub entries : (n : ℕ) → n < 256 → get_or t n 0 ≡ entry_of n

-- "G(X) = X^5 + X^2 + 1. The binary bit pattern that represents this polynomial is 00101B", turned round.
abbrev pub poly5 : ℕ
poly5 = 0x14

-- CRC5 of a token's eleven bits.
unfoldable pub crc5_of : ℕ → ℕ
crc5_of v = 31 - crc_bits poly5 11 31 v

-- Two bytes that leave "the five-bit residual at the receiver .. 01100B" (section 8.3.5.1).
abbrev pub Residual5 : ℕ → Type 0
Residual5 w = crc_bits poly5 16 31 w ≡ turned 5 0xC 0

-- Bytes that leave "the 16-bit residual .. 1000000000001101B" (section 8.3.5.2).
abbrev pub Residual16 : List ℕ → Type 0
Residual16 l = remainder16 0xFFFF l ≡ turned 16 0x800D 0
