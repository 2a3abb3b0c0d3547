-- Every packet written is read as itself, and every accepted byte string is what writing its reading gives. Assumes nothing.
use mathlib.Core.Path.{◌≡◌, refl, ap, ap₂, sym, subst, ◌∙◌}
use mathlib.Core.Bool.{Bool, true, false, cond, ◌&&◌, true≢false}
use mathlib.Core.List.{List, [], ◌∷◌, ◌++◌}
use Prim.Native.Nat.{ℕ, zero, suc, ◌+◌, ◌-◌, ◌*◌, ◌/◌, ◌%◌, ◌≤◌, ◌<◌}
use native.Mathlib.Nat.{add_comm, mul_comm, zero-add, le_trans, zero-lt-suc, mul-add-mod_self_right, add-mul-div_right, mod-eq_of_lt, div-eq_of_lt}
use native.Mathlib.Omega.{arith}
use lib.Dec.{eqb, leb}
use lib.ListN.{length, take, get_or, length-append}
use lib.Seq.{take-append_seam, length-take-le}
use borrow.Author.Tests.{eq-eqb, eqb-true, le-leb, leb-true}
use Rattle.std.specs.Prelude.{Option, Some, None}
use Rattle.packet.specs.Crc.{crc5_of, crc16_of}
use Rattle.packet.specs.Packet.{Packet, token, sof, payload, handshake, token_pid, sof_pid, data_pid, handshake_pid, pid_of, pid_byte, low, checked, target, encode, Bytes, in_range, kind_of}
use Rattle.packet.specs.Reply.{result, number}
use Rattle.packet.specs.Reading.{word_at, read_rest, read_kind, read_of}
use Rattle.packet.specs.declared.packet.Token.{Token}
use Rattle.packet.specs.declared.packet.Token.TheVariants.{Out, In, Setup}
use Rattle.packet.specs.declared.packet.Handshake.{Handshake}
use Rattle.packet.specs.declared.packet.Handshake.TheVariants.{Ack, Nak, Stall}
use Rattle.packet.specs.declared.packet.Kind.{Kind}
use Rattle.packet.specs.declared.packet.Kind.TheVariants.{Token as token_kind, Sof as sof_kind, Data as data_kind, Handshake as handshake_kind}

both : (a b : Bool) → (a && b) ≡ true → (a ≡ true) × (b ≡ true)
both true b e = (refl, e)
both false b e = absurd (true≢false (sym e))

-- ---- the PID byte

kind_back : (k : Kind) → kind_of (pid_byte (pid_of k)) ≡ Some k
unfolding kind_of
kind_back (token_kind Out) = refl
kind_back (token_kind In) = refl
kind_back (token_kind Setup) = refl
kind_back sof_kind = refl
kind_back (data_kind false) = refl
kind_back (data_kind true) = refl
kind_back (handshake_kind Ack) = refl
kind_back (handshake_kind Nak) = refl
kind_back (handshake_kind Stall) = refl

-- The byte of a kind.
abbrev byte_of : Option Kind → ℕ → ℕ
byte_of (Some k) x = pid_byte (pid_of k)
byte_of None x = x

pick : (x n : ℕ) (k r : Option Kind) → (x ≡ n → byte_of k x ≡ x) → byte_of r x ≡ x → byte_of (cond (eqb x n) k r) x ≡ x
pick x n k r f g = go (eqb x n) refl
  where
    go : (b : Bool) → eqb x n ≡ b → byte_of (cond b k r) x ≡ x
    go true e = f (eqb-true x n e)
    go false e = g

kind_byte : (x : ℕ) → byte_of (kind_of x) x ≡ x
unfolding kind_of
kind_byte x =
    pick x 0xE1 (Some (token_kind Out)) _ sym (pick x 0x69 (Some (token_kind In)) _ sym (pick x 0x2D (Some (token_kind Setup)) _ sym
    (pick x 0xA5 (Some sof_kind) _ sym (pick x 0xC3 (Some (data_kind false)) _ sym (pick x 0x4B (Some (data_kind true)) _ sym
    (pick x 0xD2 (Some (handshake_kind Ack)) _ sym (pick x 0x5A (Some (handshake_kind Nak)) _ sym (pick x 0x1E (Some (handshake_kind Stall)) None sym refl))))))))

-- ---- fields in a word

-- A low part below m, and the rest.
pub low_part : (m x k : ℕ) → x < m → (x + m * k) % m ≡ x
low_part m x k h = ap (λ (y : ℕ). y % m) (add_comm x (m * k) ∙ ap (λ (y : ℕ). y + x) (mul_comm m k)) ∙ mul-add-mod_self_right k m x ∙ mod-eq_of_lt h

high_part : (m x k : ℕ) → x < m → (x + m * k) / m ≡ k
high_part m x k h = ap (λ (y : ℕ). (x + y) / m) (mul_comm m k) ∙ add-mul-div_right x k (le_trans (zero-lt-suc x) h) ∙ ap (λ (y : ℕ). y + k) (div-eq_of_lt h) ∙ zero-add k

-- A word and its two bytes.
two_bytes : (w : ℕ) → w % 256 + 256 * (w / 256) ≡ w
two_bytes w = omega arith

module _ (a e c : ℕ) (ha : a ≤ 127) (he : e ≤ 15) where
  regroup : a + 128 * e + 2048 * c ≡ a + 128 * (e + 16 * c)
  regroup = omega arith

  eleven_part : (a + 128 * e + 2048 * c) % 2048 ≡ a + 128 * e
  eleven_part = low_part 2048 (a + 128 * e) c (omega arith)

  pub address_part : (a + 128 * e + 2048 * c) % 128 ≡ a
  address_part = ap (λ (y : ℕ). y % 128) regroup ∙ low_part 128 a (e + 16 * c) (omega arith)

  pub endpoint_part : (a + 128 * e + 2048 * c) / 128 % 16 ≡ e
  endpoint_part = ap (λ (y : ℕ). y / 128 % 16) regroup ∙ ap (λ (y : ℕ). y % 16) (high_part 128 a (e + 16 * c) (omega arith)) ∙ low_part 16 e c (omega arith)

-- ---- written, then read

read_token : (k : Token) (a e : ℕ) → a ≤ 127 → e ≤ 15 → read_rest (token_kind k) (low (checked (target a e))) ≡ result (token k a e)
read_token k a e ha he =
    let v = a + 128 * e in
    let right : checked v ≡ checked (checked v % 2048) = ap checked (sym (eleven_part a e (crc5_of v) ha he)) in
    rw (two_bytes (checked v), eq-eqb (checked v) (checked (checked v % 2048)) right, address_part a e (crc5_of v) ha he, endpoint_part a e (crc5_of v) ha he)

read_sof : (f : ℕ) → f ≤ 2047 → read_rest sof_kind (low (checked f)) ≡ result (sof f)
read_sof f h =
    let part : checked f % 2048 ≡ f = low_part 2048 f (crc5_of f) (omega arith) in
    rw (two_bytes (checked f), eq-eqb (checked f) (checked (checked f % 2048)) (ap checked (sym part)), part)

-- Where the data ends, its CRC16 stands.
end_take : (d : List ℕ) (w : ℕ) → take (length d) (d ++ low w) ≡ d
end_take d w = take-append_seam d (low w)

end_word : (d : List ℕ) (w : ℕ) → word_at (d ++ low w) (length d) ≡ w
end_word [] w = two_bytes w
end_word (x ∷ d) w = end_word d w

read_data : (b : Bool) (d : List ℕ) → length d ≤ 64 → read_rest (data_kind b) (d ++ low (crc16_of d)) ≡ result (payload b d)
read_data b d h =
    let w = crc16_of d in
    let n : length (d ++ low w) ≡ length d + 2 = length-append d (low w) in
    let cut : length d + 2 - 2 ≡ length d = omega arith in
    rw (n, le-leb 2 (length d + 2) (omega arith), le-leb (length d + 2) 66 (omega arith), cut, end_take d w, end_word d w, eq-eqb w w refl)

pub read_write : (p : Packet) → in_range p ≡ true → read_of (encode p) ≡ result p
unfolding read_of encode
read_write (token k a e) h =
    let f = both (leb a 127) (leb e 15) h in
    rw (kind_back (token_kind k)) (read_token k a e (leb-true a 127 f.0) (leb-true e 15 f.1))
read_write (sof f) h = rw (kind_back sof_kind) (read_sof f (leb-true f 2047 h))
read_write (payload b d) h = rw (kind_back (data_kind b)) (read_data b d (leb-true (length d) 64 h))
read_write (handshake k) h = rw (kind_back (handshake_kind k))

-- ---- read, then written

-- Bytes of a word are those that it was made of.
word_bytes : (x y : ℕ) → x < 256 → low (x + 256 * y) ≡ x ∷ y ∷ []
word_bytes x y h = ap₂ (λ (p q : ℕ). p ∷ q ∷ []) (low_part 256 x y h) (high_part 256 x y h)

-- A list of two.
pair : (l : List ℕ) → length l ≡ 2 → l ≡ get_or l 0 0 ∷ get_or l 1 0 ∷ []
pair [] e = absurd (omega arith)
pair (x ∷ []) e = absurd (omega arith)
pair (x ∷ y ∷ []) e = refl
pair (x ∷ y ∷ z ∷ l) e = absurd (omega arith)

-- What was read.
record Written (x : ℕ) (l : List ℕ) (p : Packet) : Type 0 where
  bytes : encode p ≡ x ∷ l
  range : in_range p ≡ true

-- Two tests passed.
record Passed {A : Type 0} (b c : Bool) (r : A) (p : A) : Type 0 where
  first : b ≡ true
  second : c ≡ true
  same : r ≡ p

passed : (b c : Bool) (r p : Packet) → cond b (cond c (result r) (number 27)) (number 26) ≡ result p → Passed b c r p
passed true true r p e = record { first = refl; second = refl; same = cc }
passed true false r p e = absurd (let z : ◌≡◌ {A = ℕ} 0 1 = cc in omega arith)
passed false c r p e = absurd (let z : ◌≡◌ {A = ℕ} 0 1 = cc in omega arith)

passed_one : (b : Bool) (r p : Packet) → cond b (result r) (number 26) ≡ result p → (b ≡ true) × (r ≡ p)
passed_one true r p e = (refl, cc)
passed_one false r p e = absurd (let z : ◌≡◌ {A = ℕ} 0 1 = cc in omega arith)

-- Every element is a byte.
get_d_byte : (l : List ℕ) → Bytes l → (i : ℕ) → get_or l i 0 < 256
get_d_byte [] h i = omega arith
get_d_byte (x ∷ l) h zero = h.0
get_d_byte (x ∷ l) h (suc i) = get_d_byte l h.1 i

-- Two bytes are sixteen bits.
pub word_lt : (l : List ℕ) (i : ℕ) → Bytes l → word_at l i < 65536
word_lt l i h = omega (arith, get_d_byte l h i, get_d_byte l h (suc i))

-- A word that was checked stands in the bytes.
word_back : (l : List ℕ) → Bytes l → length l ≡ 2 → word_at l 0 ≡ checked (word_at l 0 % 2048) → low (checked (word_at l 0 % 2048)) ≡ l
word_back l h n e = ap low (sym e) ∙ word_bytes (get_or l 0 0) (get_or l 1 0) (get_d_byte l h 0) ∙ sym (pair l n)

eleven_bits : (w : ℕ) → w % 128 + 128 * (w / 128 % 16) ≡ w % 2048
eleven_bits w = omega arith

write_token : (k : Token) (x : ℕ) (l : List ℕ) (p : Packet) → Bytes l → pid_byte (token_pid k) ≡ x → read_rest (token_kind k) l ≡ result p → Written x l p
unfolding encode
write_token k x l p h b e =
    let w = word_at l 0 in
    let q = passed (eqb (length l) 2) (eqb w (checked (w % 2048))) (token k (w % 128) (w / 128 % 16)) p e in
    subst (Written x l) q.same
    (record {
      bytes = ap₂ (λ (y : ℕ) (r : List ℕ). y ∷ r) b (ap (λ (v : ℕ). low (checked v)) (eleven_bits w) ∙ word_back l h (eqb-true (length l) 2 q.first) (eqb-true w (checked (w % 2048)) q.second));
      range = rw (le-leb (w % 128) 127 (omega arith), le-leb (w / 128 % 16) 15 (omega arith));
    })

write_sof : (x : ℕ) (l : List ℕ) (p : Packet) → Bytes l → pid_byte sof_pid ≡ x → read_rest sof_kind l ≡ result p → Written x l p
unfolding encode
write_sof x l p h b e =
    let w = word_at l 0 in
    let q = passed (eqb (length l) 2) (eqb w (checked (w % 2048))) (sof (w % 2048)) p e in
    subst (Written x l) q.same
    (record {
      bytes = ap₂ (λ (y : ℕ) (r : List ℕ). y ∷ r) b (word_back l h (eqb-true (length l) 2 q.first) (eqb-true w (checked (w % 2048)) q.second));
      range = le-leb (w % 2048) 2047 (omega arith);
    })

-- Data and the two bytes after it.
pub data_back : (n : ℕ) (l : List ℕ) → Bytes l → length l ≡ n + 2 → take n l ++ low (word_at l n) ≡ l
data_back zero l h e = word_bytes (get_or l 0 0) (get_or l 1 0) (get_d_byte l h 0) ∙ sym (pair l e)
data_back (suc n) [] h e = absurd (omega arith)
data_back (suc n) (x ∷ l) h e = ap (λ (r : List ℕ). x ∷ r) (data_back n l h.1 (omega arith))

write_data : (d : Bool) (x : ℕ) (l : List ℕ) (p : Packet) → Bytes l → pid_byte (data_pid d) ≡ x → read_rest (data_kind d) l ≡ result p → Written x l p
unfolding encode
write_data d x l p h b e =
    let n = length l - 2 in
    let q = passed (leb 2 (length l) && leb (length l) 66) (eqb (word_at l n) (crc16_of (take n l))) (payload d (take n l)) p e in
    let s = both (leb 2 (length l)) (leb (length l) 66) q.first in
    let least = leb-true 2 (length l) s.0 in
    let most = leb-true (length l) 66 s.1 in
    let right = eqb-true (word_at l n) (crc16_of (take n l)) q.second in
    subst (Written x l) q.same
    (record {
      bytes = ap₂ (λ (y : ℕ) (r : List ℕ). y ∷ r) b (ap (λ (w : ℕ). take n l ++ low w) (sym right) ∙ data_back n l h (omega arith));
      range = le-leb (length (take n l)) 64 (omega (arith, length-take-le n l (omega arith)));
    })

nothing : (l : List ℕ) → length l ≡ 0 → l ≡ []
nothing [] e = refl
nothing (x ∷ l) e = absurd (omega arith)

write_handshake : (k : Handshake) (x : ℕ) (l : List ℕ) (p : Packet) → pid_byte (handshake_pid k) ≡ x → read_rest (handshake_kind k) l ≡ result p → Written x l p
unfolding encode
write_handshake k x l p b e =
    let q = passed_one (eqb (length l) 0) (handshake k) p e in
    subst (Written x l) q.1 (record { bytes = ap₂ (λ (y : ℕ) (r : List ℕ). y ∷ r) b (sym (nothing l (eqb-true (length l) 0 q.0))); range = refl })

write_rest : (k : Kind) (x : ℕ) (l : List ℕ) (p : Packet) → Bytes l → pid_byte (pid_of k) ≡ x → read_rest k l ≡ result p → Written x l p
write_rest (token_kind k) x l p h b e = write_token k x l p h b e
write_rest sof_kind x l p h b e = write_sof x l p h b e
write_rest (data_kind d) x l p h b e = write_data d x l p h b e
write_rest (handshake_kind k) x l p h b e = write_handshake k x l p b e

write_kind : (k : Option Kind) (x : ℕ) (l : List ℕ) (p : Packet) → Bytes l → byte_of k x ≡ x → read_kind k l ≡ result p → Written x l p
write_kind (Some k) x l p h b e = write_rest k x l p h b e
write_kind None x l p h b e = absurd (let z : ◌≡◌ {A = ℕ} 0 1 = cc in omega arith)

-- "every accepted byte string is what writing its reading gives", and its fields are in range.
pub write_read : (l : List ℕ) (p : Packet) → Bytes l → read_of l ≡ result p → (encode p ≡ l) × (in_range p ≡ true)
unfolding read_of
write_read [] p h e = absurd (let z : ◌≡◌ {A = ℕ} 0 1 = cc in omega arith)
write_read (x ∷ l) p h e = let w = write_kind (kind_of x) x l p h.1 (kind_byte x) e in (w.bytes, w.range)
