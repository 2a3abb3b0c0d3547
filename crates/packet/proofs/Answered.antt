-- What the reader answers in each case. Assumes nothing.
use mathlib.Core.Path.{◌≡◌, ap, sym, ◌∙◌}
use mathlib.Core.Bool.{Bool, true, false, cond, ◌&&◌}
use mathlib.Core.List.{List, [], ◌∷◌}
use Prim.Native.Nat.{ℕ, suc, ◌-◌, ◌/◌, ◌%◌, ◌≤◌, ◌<◌}
use native.Mathlib.Omega.{arith}
use lib.Dec.{eqb, leb}
use lib.ListN.{length, take, drop}
use borrow.Author.Tests.{ne_eqb, le-leb, lt-leb, leb-true, leb-false}
use Rattle.std.specs.Prelude.{Option, Some, None, Ok}
use Rattle.pool.proofs.Cases.{by_cases}
use Rattle.packet.specs.Crc.{crc16_of}
use Rattle.packet.specs.Packet.{Packet, token, sof, payload, handshake, checked, kind_of}
use Rattle.packet.specs.Reply.{Reply, result, number}
use Rattle.packet.specs.Reading.{word_at, eleven_of, read_rest, read_kind, read_of, data_in, Answers}
use Rattle.packet.specs.declared.packet.Kind.{Kind}
use Rattle.packet.specs.declared.packet.Kind.TheVariants.{Token as token_kind, Sof as sof_kind, Data as data_kind, Handshake as handshake_kind}
use Rattle.packet.specs.declared.reader.Reading.{Reading}
use Rattle.packet.specs.declared.reader.Reading.TheVariants.{Token, Sof, Data, Handshake}

-- ---- eleven bits and their CRC5

pub eleven_length : (l : List ℕ) (p : Packet) → (length l ≡ 2 → ⊥) → eleven_of l p ≡ number 26
eleven_length l p h = rw (ne_eqb (length l) 2 h)

-- ---- data and its CRC16

module _ (b : Bool) (l : List ℕ) where
  pub data_short : length l < 2 → read_rest (data_kind b) l ≡ number 26
  data_short h = rw (lt-leb 2 (length l) h)

  pub data_long : 2 ≤ length l → 66 < length l → read_rest (data_kind b) l ≡ number 26
  data_long h k = rw (le-leb 2 (length l) h, lt-leb (length l) 66 k)

-- ---- the data

-- The data stands after the PID byte and before the CRC16.
pub record Handed (s : List ℕ) (d : List ℕ) : Type 0 where
  pub least : 3 ≤ length s
  pub part : take (length s - 3) (drop 1 s) ≡ d

eleven_no_data : (l : List ℕ) (p : Packet) (b : Bool) (d : List ℕ) → eleven_of l p ≡ result (payload b d) → p ≡ payload b d
eleven_no_data l p b d e = go (eqb (length l) 2) (eqb (word_at l 0) (checked (word_at l 0 % 2048))) e
  where
    go : (t u : Bool) → cond t (cond u (result p) (number 27)) (number 26) ≡ result (payload b d) → p ≡ payload b d
    go true true q = cc
    go true false q = absurd (let z : ◌≡◌ {A = ℕ} 0 1 = cc in omega arith)
    go false u q = absurd (let z : ◌≡◌ {A = ℕ} 0 1 = cc in omega arith)

handed_rest : (k : Kind) (x : ℕ) (l : List ℕ) (b : Bool) (d : List ℕ) → read_rest k l ≡ result (payload b d) → Handed (x ∷ l) d
handed_rest (token_kind k) x l b d e =
    absurd (let q = eleven_no_data l (token k (word_at l 0 % 128) (word_at l 0 / 128 % 16)) b d e in let z : ◌≡◌ {A = ℕ} 0 1 = cc in omega arith)
handed_rest sof_kind x l b d e = absurd (let q = eleven_no_data l (sof (word_at l 0 % 2048)) b d e in let z : ◌≡◌ {A = ℕ} 0 1 = cc in omega arith)
handed_rest (data_kind c) x l b d e =
    by_cases (leb 2 (length l))
    (λ (g : leb 2 (length l) ≡ true). record {
      least = omega (arith, leb-true 2 (length l) g);
      part = cut ∙ go (leb 2 (length l) && leb (length l) 66) (eqb (word_at l (length l - 2)) (crc16_of (take (length l - 2) l))) e;
    })
    (λ (g : leb 2 (length l) ≡ false). absurd (let z : ◌≡◌ {A = Reply Packet} (number 26) (result (payload b d)) = sym (data_short c l (leb-false 2 (length l) g)) ∙ e in let y : ◌≡◌ {A = ℕ} 0 1 = cc in omega arith))
  where
    cut : take (suc (length l) - 3) l ≡ take (length l - 2) l
    cut = let n : suc (length l) - 3 ≡ length l - 2 = omega arith in ap (λ (i : ℕ). take i l) n

    go : (t u : Bool) → cond t (cond u (result (payload c (take (length l - 2) l))) (number 27)) (number 26) ≡ result (payload b d) → take (length l - 2) l ≡ d
    go true true q = cc
    go true false q = absurd (let z : ◌≡◌ {A = ℕ} 0 1 = cc in omega arith)
    go false u q = absurd (let z : ◌≡◌ {A = ℕ} 0 1 = cc in omega arith)
handed_rest (handshake_kind h) x l b d e = absurd (go (eqb (length l) 0) e)
  where
    go : (t : Bool) → cond {A = Reply Packet} t (result (handshake h)) (number 26) ≡ result (payload b d) → ⊥
    go true q = let z : ◌≡◌ {A = ℕ} 0 1 = cc in omega arith
    go false q = let z : ◌≡◌ {A = ℕ} 0 1 = cc in omega arith

handed_kind : (k : Option Kind) (x : ℕ) (l : List ℕ) (b : Bool) (d : List ℕ) → read_kind k l ≡ result (payload b d) → Handed (x ∷ l) d
handed_kind (Some k) x l b d e = handed_rest k x l b d e
handed_kind None x l b d e = absurd (let z : ◌≡◌ {A = ℕ} 0 1 = cc in omega arith)

handed : (s : List ℕ) (b : Bool) (d : List ℕ) → read_of s ≡ result (payload b d) → Handed s d
unfolding read_of
handed [] b d e = absurd (let z : ◌≡◌ {A = ℕ} 0 1 = cc in omega arith)
handed (x ∷ l) b d e = handed_kind (kind_of x) x l b d e

-- A data packet was read: its data stands there.
pub hands_data : (s : List ℕ) (r : Reading) (b : Bool) → Answers (read_of s) (Ok r) → r ≡ Data b → Handed s (data_in (read_of s))
hands_data s (Data c) b h e = handed s c (data_in (read_of s)) (sym h)
hands_data s (Token k a e) b h q = absurd cc
hands_data s (Sof f) b h q = absurd cc
hands_data s (Handshake k) b h q = absurd cc
