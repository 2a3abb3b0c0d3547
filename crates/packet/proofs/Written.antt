-- A packet refused, and one written. Assumes nothing.
use mathlib.Core.Path.{◌≡◌, refl, ap, ◌∙◌}
use mathlib.Core.Bool.{true}
use mathlib.Core.List.{List, ◌∷◌, ◌++◌}
use Prim.Native.Nat.{ℕ, ◌+◌, ◌-◌, ◌≤◌, ◌<◌}
use native.Mathlib.Omega.{arith}
use lib.ListN.{length, set, length-append, length-set}
use lib.Seq.{sets, length-sets}
use native.Mathlib.Numerals.{add-one}
use borrow.Author.Tests.{le-leb, lt-leb}
use borrow.Rule.Slice.PartMut.{put_mid}
use Rattle.std.specs.Prelude.{Ok, Err}
use Rattle.pool.proofs.Stores.{sets_append, put_sets}
use Rattle.packet.specs.Crc.{crc16_of}
use Rattle.packet.specs.Packet.{Packet, token, sof, payload, handshake, low, encode, in_range}
use Rattle.packet.specs.Writing.{Wrote}
use Rattle.packet.specs.declared.refusal.Refusal.TheVariants.{Room}

-- How many bytes a packet has.
abbrev pub size_of : Packet → ℕ
size_of (token k a e) = 3
size_of (sof f) = 3
size_of (payload b d) = 3 + length d
size_of (handshake h) = 1

pub length_encode : (p : Packet) → length (encode p) ≡ size_of p
unfolding encode
length_encode (token k a e) = refl
length_encode (sof f) = refl
length_encode (payload b d) = omega (arith, length-append d (low (crc16_of d)))
length_encode (handshake h) = refl

-- 21.
pub no_room : (p : Packet) (out : List ℕ) (used : ℕ) → in_range p ≡ true → length out < used + size_of p → Wrote p out used (Err Room) out
no_room p out used e h = let f = lt-leb (used + size_of p) (length out) h in record { answer = rw (length_encode p, e, f); bytes = rw (length_encode p, e, f) }

pub wrote : (p : Packet) (out out' : List ℕ) (used end : ℕ) → in_range p ≡ true → end ≡ used + size_of p → end ≤ length out → out' ≡ sets out used (encode p)
    → Wrote p out used (Ok end) out'
wrote p out out' used end e n m h =
    let f = le-leb (used + size_of p) (length out) (omega (arith, n, m)) in
    record { answer = rw (length_encode p, e, f, n); bytes = rw (length_encode p, e, f) h }

-- A PID byte, data and the two bytes of its CRC16, each stored after the one before.
pub stored_data : (out d l p q : List ℕ) (x used end : ℕ) → p ≡ d → q ≡ l → length l ≡ 2 → end ≡ used + (3 + length d) → end ≤ length out
    → put_mid (end - 2) (end - (end - 2)) (put_mid (used + 1) (end - 2 - (used + 1)) (set out used x) p) q ≡ sets out used (x ∷ (d ++ l))
stored_data out d l p q x used end e f n m h =
    let o = set out used x in
    let first : put_mid (used + 1) (end - 2 - (used + 1)) o p ≡ sets o (used + 1) d =
    ap (put_mid (used + 1) (end - 2 - (used + 1)) o) e ∙ put_sets (used + 1) (end - 2 - (used + 1)) o d (omega arith) (omega (arith, length-set out used x))
    in
    let last : put_mid (end - 2) (end - (end - 2)) (sets o (used + 1) d) q ≡ sets (sets o (used + 1) d) (end - 2) l =
    ap (put_mid (end - 2) (end - (end - 2)) (sets o (used + 1) d)) f
    ∙ put_sets (end - 2) (end - (end - 2)) (sets o (used + 1) d) l (omega arith) (omega (arith, length-sets o (used + 1) d, length-set out used x))
    in
    let at : end - 2 ≡ used + 1 + length d = omega arith in
    ap (λ (r : List ℕ). put_mid (end - 2) (end - (end - 2)) r q) first ∙ last
    ∙ ap (λ (i : ℕ). sets (sets o (used + 1) d) i l) at
    ∙ sets_append d l o (used + 1)
    ∙ ap (λ (i : ℕ). sets o i (d ++ l)) (add-one used)
