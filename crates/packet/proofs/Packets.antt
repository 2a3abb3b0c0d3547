-- `Packets`, proved. Assumes nothing.
use mathlib.Core.Path.{◌≡◌, refl, ap, ap₂, sym, ◌∙◌}
use mathlib.Core.Bool.{Bool, true, false, cond, ◌&&◌}
use mathlib.Core.List.{List, ◌++◌, append_assoc}
use Prim.Native.Nat.{ℕ, ◌+◌, ◌-◌, ◌≤◌}
use native.Mathlib.Omega.{arith}
use lib.Dec.{leb}
use lib.Bits.{bit_xor}
use lib.ListN.{length, take, drop, length-append}
use lib.Seq.{sets, sets-eq, length-take-le, take_at, drop_at}
use borrow.Author.Tests.{le-leb, leb-true}
use Rattle.packet.specs.Crc.{poly16, entry_of}
use Rattle.packet.specs.Packet.{Packet, Bytes, encode, in_range}
use Rattle.packet.specs.Reply.{result, number}
use Rattle.packet.specs.Reading.{read_of}
use Rattle.packet.specs.Writing.{fits, write_row, written}
use Rattle.packet.specs.Packets.{Packets}
use Rattle.packet.proofs.Remainders.{bits_linear, byte_by_table}
use Rattle.packet.proofs.Residuals.{residual_token, residual_data}
use Rattle.packet.proofs.RoundTrip.{read_write, write_read}

-- What a write that isn't refused says.
record Taken (p : Packet) (room used n : ℕ) : Type 0 where
  range : in_range p ≡ true
  room_fits : fits p room used ≡ true
  next : used + length (encode p) ≡ n

taken : (p : Packet) (room used n : ℕ) → write_row p room used ≡ result n → Taken p room used n
taken p room used n e = go (in_range p) (fits p room used) refl refl e
  where
    go : (a b : Bool) → in_range p ≡ a → fits p room used ≡ b → cond a (cond b (result (used + length (encode p))) (number 21)) (number 19) ≡ result n → Taken p room used n
    go true true f g q = record { range = f; room_fits = g; next = cc }
    go true false f g q = absurd (let z : ◌≡◌ {A = ℕ} 0 1 = cc in omega arith)
    go false b f g q = absurd (let z : ◌≡◌ {A = ℕ} 0 1 = cc in omega arith)

-- The bytes stored stand where they were stored.
pub stored : (v l : List ℕ) (at : ℕ) → at + length v ≤ length l → take (length v) (drop at (sets l at v)) ≡ v
stored v l at h =
    let room : at ≤ length l = omega arith in
    let e : drop at (sets l at v) ≡ v ++ drop (at + length v) l = ap (drop at) (sets-eq v l at h ∙ append_assoc (take at l) v (drop (at + length v) l)) ∙ drop_at (take at l) (v ++ drop (at + length v) l) at (length-take-le at l room) in
    ap (take (length v)) e ∙ take_at v (drop (at + length v) l) (length v) refl

reads : (p : Packet) (out : List ℕ) (used n : ℕ) → write_row p (length out) used ≡ result n → read_of (take (n - used) (drop used (written p out used))) ≡ result p
reads p out used n e =
    let t = taken p (length out) used n e in
    let size : n - used ≡ length (encode p) = omega (arith, t.next) in
    let all : written p out used ≡ sets out used (encode p) = rw (t.range, t.room_fits) in
    ap read_of (ap₂ (λ (i : ℕ) (l : List ℕ). take i (drop used l)) size all ∙ stored (encode p) out used (leb-true (used + length (encode p)) (length out) t.room_fits))
    ∙ read_write p t.range

writes : (s : List ℕ) (p : Packet) → Bytes s → read_of s ≡ result p → (out : List ℕ) → length s ≤ length out
    → (write_row p (length out) 0 ≡ result (length s)) × (written p out 0 ≡ s ++ drop (length s) out)
writes s p b e out h =
    let w = write_read s p b e in
    let room : leb (0 + length s) (length out) ≡ true = le-leb (0 + length s) (length out) (omega arith) in
    let n : 0 + length s ≡ length s = omega arith in
    (rw (w.0, w.1, n, le-leb (length s) (length out) h), rw (w.0, w.1, n, le-leb (length s) (length out) h) (sets-eq s out 0 (omega arith) ∙ ap (λ (i : ℕ). s ++ drop i out) n))

stays : (p : Packet) (out : List ℕ) (used n : ℕ) → write_row p (length out) used ≡ number n → written p out used ≡ out
stays p out used n e = go (in_range p) (fits p (length out) used) e
  where
    go : (a b : Bool) → cond a (cond b (result (used + length (encode p))) (number 21)) (number 19) ≡ number n → cond (a && b) (sets out used (encode p)) out ≡ out
    go true true q = absurd (let z : ◌≡◌ {A = ℕ} 0 1 = cc in omega arith)
    go true false q = refl
    go false b q = refl

others : (p : Packet) (out : List ℕ) (used n : ℕ) → write_row p (length out) used ≡ result n
    → (take used (written p out used) ≡ take used out) × (drop n (written p out used) ≡ drop n out)
others p out used n e =
    let t = taken p (length out) used n e in
    let all : written p out used ≡ sets out used (encode p) = rw (t.range, t.room_fits) in
    let room = leb-true (used + length (encode p)) (length out) t.room_fits in
    let before = length-take-le used out (omega arith) in
    let cut = sets-eq (encode p) out used room in (
      ap (take used) (all ∙ cut ∙ append_assoc (take used out) (encode p) (drop (used + length (encode p)) out)) ∙ take_at (take used out) (encode p ++ drop (used + length (encode p)) out) used before,
      ap₂ drop (sym t.next) (all ∙ cut) ∙ drop_at (take used out ++ encode p) (drop (used + length (encode p)) out) (used + length (encode p)) (length-append (take used out) (encode p) ∙ ap (λ (i : ℕ). i + length (encode p)) before)
          ∙ ap (λ (i : ℕ). drop i out) t.next,
    )

entries_add : (m n : ℕ) → entry_of (bit_xor m n) ≡ bit_xor (entry_of m) (entry_of n)
unfolding entry_of
entries_add m n = bits_linear poly16 8 m n 0 0

pub packets : Packets
packets = record {
  reads_written = reads;
  writes_read = writes;
  keeps = stays;
  keeps_others = others;
  residual5 = residual_token;
  residual16 = residual_data;
  by_table = byte_by_table;
  adds_up = entries_add;
}
