-- `Writes` and `Reads`, proved. Assumes nothing.
use mathlib.Core.Path.{◌≡◌, refl, ap, sym, subst, ◌∙◌}
use mathlib.Core.Logic.{◌⊎◌, inl, inr}
use mathlib.Core.Bool.{Bool, true, false, cond, ◌&&◌, ◌||◌, true≢false}
use mathlib.Core.List.{List, ◌∷◌, ◌++◌}
use Prim.Native.Nat.{ℕ, ◌+◌, ◌-◌, ◌*◌, ◌/◌, ◌%◌, ◌≤◌, ◌<◌}
use native.Mathlib.Omega.{arith}
use lib.Dec.{eqb, leb}
use lib.ListN.{length, take, drop, get_or}
use lib.Seq.{take-append_seam}
use borrow.Author.Tests.{eqb-true, eqb-false, eq-eqb, ne_eqb, le-leb, lt-leb}
use Rattle.std.specs.Prelude.{Option, None}
use Rattle.packet.specs.Crc.{crc5_of, crc16_of, Residual5, Residual16}
use Rattle.packet.specs.Packet.{Packet, token, sof, payload, handshake, low, checked, encode, Bytes, in_range, kind_of}
use Rattle.packet.specs.Reply.{result, number}
use Rattle.packet.specs.Reading.{word_at, eleven_of, read_rest, read_kind, read_of}
use Rattle.packet.specs.Writing.{write_row}
use Rattle.packet.specs.Checks.{room_for, begins3, begins3to67, begins1, PacketOr27, Writes, Reads}
use Rattle.packet.specs.declared.packet.Token.{Token}
use Rattle.packet.specs.declared.packet.Handshake.{Handshake}
use Rattle.packet.specs.declared.packet.Handshake.TheVariants.{Ack, Nak, Stall}
use Rattle.packet.specs.declared.packet.Kind.{Kind}
use Rattle.packet.specs.declared.packet.Kind.TheVariants.{Data as data_kind, Handshake as handshake_kind}
use Rattle.packet.proofs.Written.{size_of, length_encode}
use Rattle.packet.proofs.Answered.{eleven_length, data_short, data_long}
use Rattle.packet.proofs.RoundTrip.{low_part, address_part, endpoint_part, word_lt, data_back}
use Rattle.packet.proofs.Residuals.{residual_token, token_checked, residual_data, data_checked}

-- ---- writing

outside : (p : Packet) (room used : ℕ) → in_range p ≡ false → write_row p room used ≡ number 19
outside p room used e = rw e

within : (p : Packet) (n room used : ℕ) → in_range p ≡ true → size_of p ≡ n → write_row p room used ≡ room_for n room used
within p n room used e s = rw (e, length_encode p, s)

token_outside : (k : Token) (a e room used : ℕ) → (127 < a) ⊎ (15 < e) → write_row (token k a e) room used ≡ number 19
token_outside k a e room used (inl h) = outside (token k a e) room used (rw (lt-leb a 127 h))
token_outside k a e room used (inr h) = outside (token k a e) room used (go (leb a 127))
  where
    go : (t : Bool) → t && leb e 15 ≡ false
    go true = lt-leb e 15 h
    go false = refl

-- A word's fields in its two bytes.
low_seven : (w : ℕ) → w % 256 % 128 ≡ w % 128
low_seven w = omega arith

next_four : (w : ℕ) → w % 256 / 128 + 2 * (w / 256 % 8) ≡ w / 128 % 16
next_four w = omega arith

all_eleven : (w : ℕ) → w % 256 + 256 * (w / 256 % 8) ≡ w % 2048
all_eleven w = omega arith

address_there : (k : Token) (a e : ℕ) → a ≤ 127 → e ≤ 15 → get_or (encode (token k a e)) 1 0 % 128 ≡ a
unfolding encode
address_there k a e ha he = low_seven (checked (a + 128 * e)) ∙ address_part a e (crc5_of (a + 128 * e)) ha he

endpoint_there : (k : Token) (a e : ℕ) → a ≤ 127 → e ≤ 15 → get_or (encode (token k a e)) 1 0 / 128 + 2 * (get_or (encode (token k a e)) 2 0 % 8) ≡ e
unfolding encode
endpoint_there k a e ha he = next_four (checked (a + 128 * e)) ∙ endpoint_part a e (crc5_of (a + 128 * e)) ha he

frame_there : (f : ℕ) → f ≤ 2047 → get_or (encode (sof f)) 1 0 + 256 * (get_or (encode (sof f)) 2 0 % 8) ≡ f
unfolding encode
frame_there f h = all_eleven (checked f) ∙ low_part 2048 f (crc5_of f) (omega arith)

data_there : (b : Bool) (d : List ℕ) → take (length d) (drop 1 (encode (payload b d))) ≡ d
unfolding encode
data_there b d = take-append_seam d (low (crc16_of d))

pub writes : Writes
unfolding encode
writes = record {
  token19 = token_outside;
  sof19 = λ f room used h. outside (sof f) room used (lt-leb f 2047 h);
  data19 = λ b d room used h. outside (payload b d) room used (lt-leb (length d) 64 h);
  token_room = λ k a e room used ha he. within (token k a e) 3 room used (rw (le-leb a 127 ha, le-leb e 15 he)) refl;
  sof_room = λ f room used h. within (sof f) 3 room used (le-leb f 2047 h) refl;
  data_room = λ b d room used h. within (payload b d) (3 + length d) room used (le-leb (length d) 64 h) refl;
  handshake_room = λ h room used. within (handshake h) 1 room used refl refl;
  out_first = λ a e. refl;
  in_first = λ a e. refl;
  setup_first = λ a e. refl;
  sof_first = λ f. refl;
  data0_first = λ d. refl;
  data1_first = λ d. refl;
  address_bits = address_there;
  endpoint_bits = endpoint_there;
  frame_bits = frame_there;
  data_bytes = data_there;
}

-- ---- reading

-- A number that a test of several found is one of them.
found : (P : ℕ → Type 0) (x n : ℕ) (t : Bool) → P n → (t ≡ true → P x) → eqb x n || t ≡ true → P x
found P x n t p f e = go (eqb x n) refl e
  where
    go : (b : Bool) → eqb x n ≡ b → b || t ≡ true → P x
    go true q h = subst P (sym (eqb-true x n q)) p
    go false q h = f h

last : (P : ℕ → Type 0) (x n : ℕ) → P n → eqb x n ≡ true → P x
last P x n p e = subst P (sym (eqb-true x n e)) p

-- Of a test of several that found none, each found none.
none : (a b : Bool) → a || b ≡ false → (a ≡ false) × (b ≡ false)
none true b e = absurd (true≢false e)
none false b e = (refl, e)

three : (P : ℕ → Type 0) (x : ℕ) → P 0xE1 → P 0x69 → P 0x2D → P 0xA5 → begins3 x ≡ true → P x
three P x a b c d = found P x 0xE1 (eqb x 0x69 || (eqb x 0x2D || eqb x 0xA5)) a (found P x 0x69 (eqb x 0x2D || eqb x 0xA5) b (found P x 0x2D (eqb x 0xA5) c (last P x 0xA5 d)))

data_pids : (P : ℕ → Type 0) (x : ℕ) → P 0xC3 → P 0x4B → begins3to67 x ≡ true → P x
data_pids P x a b = found P x 0xC3 (eqb x 0x4B) a (last P x 0x4B b)

one : (P : ℕ → Type 0) (x : ℕ) → P 0xD2 → P 0x5A → P 0x1E → begins1 x ≡ true → P x
one P x a b c = found P x 0xD2 (eqb x 0x5A || eqb x 0x1E) a (found P x 0x5A (eqb x 0x1E) b (last P x 0x1E c))

unknown_kind : (x : ℕ) → begins3 x ≡ false → begins3to67 x ≡ false → begins1 x ≡ false → kind_of x ≡ None
unfolding kind_of
unknown_kind x f g h =
    let f1 = none (eqb x 0xE1) (eqb x 0x69 || (eqb x 0x2D || eqb x 0xA5)) f in
    let f2 = none (eqb x 0x69) (eqb x 0x2D || eqb x 0xA5) f1.1 in
    let f3 = none (eqb x 0x2D) (eqb x 0xA5) f2.1 in
    let g1 = none (eqb x 0xC3) (eqb x 0x4B) g in
    let h1 = none (eqb x 0xD2) (eqb x 0x5A || eqb x 0x1E) h in
    let h2 = none (eqb x 0x5A) (eqb x 0x1E) h1.1 in
    rw (f1.0, f2.0, f3.0, f3.1, g1.0, g1.1, h1.0, h2.0, h2.1)

unknown_read : (x : ℕ) (l : List ℕ) → begins3 x ≡ false → begins3to67 x ≡ false → begins1 x ≡ false → read_of (x ∷ l) ≡ number 25
unfolding read_of
unknown_read x l f g h = ap (λ (k : Option Kind). read_kind k l) (unknown_kind x f g h)

-- A test that passes exactly where a condition holds.
judged : (C : Type 0) (a b : ℕ) (p : Packet) → (a ≡ b → C) → (C → a ≡ b) → PacketOr27 C (cond (eqb a b) (result p) (number 27))
judged C a b p f g = go (eqb a b) refl
  where
    go : (t : Bool) → eqb a b ≡ t → PacketOr27 C (cond t (result p) (number 27))
    go true e = f (eqb-true a b e)
    go false e = (refl, λ h. eqb-false a b e (g h))

eleven_long : (l : List ℕ) (p : Packet) → Bytes l → length l ≡ 2 → PacketOr27 (Residual5 (word_at l 0)) (eleven_of l p)
eleven_long l p h n =
    let w = word_at l 0 in
    rw (eq-eqb (length l) 2 n)
    (judged (Residual5 w) w (checked (w % 2048)) p
    (λ e. subst Residual5 (sym e) (residual_token (w % 2048) (omega arith))) (token_checked w (word_lt l 0 h)))

token_length : (x : ℕ) (l : List ℕ) → begins3 x ≡ true → (length l ≡ 2 → ⊥) → read_of (x ∷ l) ≡ number 26
unfolding read_of kind_of
token_length x l e n =
    three (λ (y : ℕ). read_of (y ∷ l) ≡ number 26) x
    (eleven_length l _ n) (eleven_length l _ n) (eleven_length l _ n) (eleven_length l _ n) e

token_late : (x : ℕ) (l : List ℕ) → Bytes l → begins3 x ≡ true → length l ≡ 2 → PacketOr27 (Residual5 (word_at l 0)) (read_of (x ∷ l))
unfolding read_of kind_of
token_late x l h e n =
    three (λ (y : ℕ). PacketOr27 (Residual5 (word_at l 0)) (read_of (y ∷ l))) x
    (eleven_long l _ h n) (eleven_long l _ h n) (eleven_long l _ h n) (eleven_long l _ h n) e

data_wrong_length : (b : Bool) (l : List ℕ) → (length l < 2) ⊎ (66 < length l) → read_rest (data_kind b) l ≡ number 26
data_wrong_length b l (inl h) = data_short b l h
data_wrong_length b l (inr h) = data_long b l (omega arith) h

data_length : (x : ℕ) (l : List ℕ) → begins3to67 x ≡ true → (length l < 2) ⊎ (66 < length l) → read_of (x ∷ l) ≡ number 26
unfolding read_of kind_of
data_length x l e n = data_pids (λ (y : ℕ). read_of (y ∷ l) ≡ number 26) x (data_wrong_length false l n) (data_wrong_length true l n) e

data_long_enough : (b : Bool) (l : List ℕ) → Bytes l → 2 ≤ length l → length l ≤ 66 → PacketOr27 (Residual16 l) (read_rest (data_kind b) l)
data_long_enough b l h m k =
    let n = length l - 2 in
    let d = take n l in
    let w = word_at l n in
    let back = data_back n l h (omega arith) in
    rw (le-leb 2 (length l) m, le-leb (length l) 66 k)
    (judged (Residual16 l) w (crc16_of d) (payload b d)
    (λ e. subst Residual16 (ap (λ (v : ℕ). d ++ low v) (sym e) ∙ back) (residual_data d))
    (λ e. data_checked d w (word_lt l n h) (subst Residual16 (sym back) e)))

data_late : (x : ℕ) (l : List ℕ) → Bytes l → begins3to67 x ≡ true → 2 ≤ length l → length l ≤ 66 → PacketOr27 (Residual16 l) (read_of (x ∷ l))
unfolding read_of kind_of
data_late x l h e m k =
    data_pids (λ (y : ℕ). PacketOr27 (Residual16 l) (read_of (y ∷ l))) x
    (data_long_enough false l h m k) (data_long_enough true l h m k) e

one_more : (h : Handshake) (l : List ℕ) → (length l ≡ 0 → ⊥) → read_rest (handshake_kind h) l ≡ number 26
one_more h l n = rw (ne_eqb (length l) 0 n)

handshake_length : (x : ℕ) (l : List ℕ) → begins1 x ≡ true → (length l ≡ 0 → ⊥) → read_of (x ∷ l) ≡ number 26
unfolding read_of kind_of
handshake_length x l e n = one (λ (y : ℕ). read_of (y ∷ l) ≡ number 26) x (one_more Ack l n) (one_more Nak l n) (one_more Stall l n) e

pub reads : Reads
unfolding read_of
reads = record {
  empty25 = refl;
  other25 = unknown_read;
  token26 = token_length;
  data26 = data_length;
  handshake26 = handshake_length;
  token27 = token_late;
  data27 = data_late;
  token_meant = λ k a e d. refl;
  sof_meant = λ f d. refl;
  data_meant = λ b d. (refl, refl);
  handshake_meant = λ h d. refl;
}
