-- Decoding an entry's encoding gives the entry, and encoding what was decoded gives the bytes back.
-- Assumes nothing.
use mathlib.Core.Path.{◌≡◌, refl, sym, ap, ap₂, ◌∙◌}
use mathlib.Core.Bool.{Bool, true, false}
use mathlib.Core.List.{List, [], ◌∷◌, ◌++◌}
use Prim.Native.Nat.{ℕ, zero, suc, ◌+◌, ◌*◌, ◌-◌, ◌/◌, ◌%◌, ◌≤◌, ◌<◌}
use native.Mathlib.Omega.{arith}
use lib.ListN.{length, take, drop, get_or, length-append, take-append-drop, length-drop}
use lib.Seq.{drop-cons, drop-drop, length-take-le, drop-append_seam}
use lib.Dec.{eqb, leb}
use borrow.Author.Tests.{ne_eqb, le-leb}
use Rattle.record.specs.Grammar.{four, Entry, setup, out, w_length_in, Bytes}
use Rattle.record.specs.Segments.{Element, entry, failed_entry}
use Rattle.record.specs.Bytes.{flag_byte, encode, failed_bytes, encode_element}
use Rattle.record.specs.Scan.{InRange}
use Rattle.record.specs.Place.{feed_element, run_after, count_after, ElementInRange}
use Rattle.record.specs.Reader.{look_setup, fields_fit, look_out, look_failed, look, go_on, turned, turn_look, turn_of}
use Rattle.record.specs.declared.look.Look.{Look}
use Rattle.record.specs.declared.refusal.Refusal.{Refusal}
use Rattle.std.specs.Prelude.{Option, Some, Result, Ok}
use Rattle.record.specs.declared.look.Look.TheVariants.{Setup, Out, Failed}
use Rattle.record.specs.declared.reader.Progress.{Progress}
use Rattle.record.specs.Verdict.{OfVersion}
use Rattle.record.proofs.Looking.{OutFits}
use Rattle.record.proofs.Puts.{count_halves, count_halves_lem}

-- What the reader sees of an entry.
abbrev pub look_of : Entry → Result (Option Look) Refusal
look_of (setup a lo hi) = Ok (Some (Setup a (w_length_in hi)))
look_of (out a e b last l) = Ok (Some (Out (record { address = a; endpoint = e; pid = b; last = last; length = length l })))

bit_is : (b : Bool) → eqb (flag_byte b) 1 ≡ b
bit_is true = refl
bit_is false = refl

bit_low : (b : Bool) → leb (flag_byte b) 1 ≡ true
bit_low true = refl
bit_low false = refl

fits : (a e : ℕ) (b last : Bool) (n : ℕ) → a ≤ 127 → e ≤ 15 → n ≤ 64 → fields_fit a e (flag_byte b) (flag_byte last) n ≡ true
unfolding fields_fit
fits a e b last n ha he hn = rw (le-leb a 127 ha, le-leb e 15 he, bit_low b, bit_low last, le-leb n 64 hn)

see_setup : (a b0 b1 b2 b3 b4 b5 b6 b7 : ℕ) (post : List ℕ) → a ≤ 127
    → look (0x53 ∷ a ∷ b0 ∷ b1 ∷ b2 ∷ b3 ∷ b4 ∷ b5 ∷ b6 ∷ b7 ∷ post) ≡ Ok (Some (Setup a (b6 + b7 * 256)))
unfolding look look_setup
see_setup a b0 b1 b2 b3 b4 b5 b6 b7 post h =
    let l : List ℕ = 0x53 ∷ a ∷ b0 ∷ b1 ∷ b2 ∷ b3 ∷ b4 ∷ b5 ∷ b6 ∷ b7 ∷ post in
    rw (ne_eqb (length l) 0 (λ (z : length l ≡ 0). omega arith), le-leb 10 (length l) (omega arith), le-leb a 127 h)

see_out : (a e : ℕ) (b last : Bool) (m post : List ℕ) → a ≤ 127 → e ≤ 15 → length m ≤ 64
    → look (0x4F ∷ a ∷ e ∷ flag_byte b ∷ flag_byte last ∷ length m ∷ (m ++ post)) ≡ Ok (Some (Out (record { address = a; endpoint = e; pid = b; last = last; length = length m })))
unfolding look look_out
see_out a e b last m post ha he hm =
    let l : List ℕ = 0x4F ∷ a ∷ e ∷ flag_byte b ∷ flag_byte last ∷ length m ∷ (m ++ post) in
    let k = length-append m post in
    rw (ne_eqb (length l) 0 (λ (z : length l ≡ 0). omega arith), le-leb 6 (length l) (omega arith), fits a e b last (length m) ha he hm, le-leb (6 + length m) (length l) (omega arith), bit_is b, bit_is last)

-- Decode of encode.
pub look_encode : (e : Entry) (post : List ℕ) → InRange e → look (encode e ++ post) ≡ look_of e
look_encode (setup a (four b0 b1 b2 b3) (four b4 b5 b6 b7)) post h = see_setup a b0 b1 b2 b3 b4 b5 b6 b7 post h.0
look_encode (out a e b last l) post h = see_out a e b last l post h.0 h.1 h.2

pub drop_encode : (e : Entry) (post : List ℕ) → drop (length (encode e)) (encode e ++ post) ≡ post
drop_encode e post = drop-append_seam (encode e) post

-- A count: its four bytes.
value_back : (n : ℕ) → (n % 65536 % 256 + n % 65536 / 256 * 256) + (n / 65536 % 256 + n / 65536 / 256 * 256) * 65536 ≡ n
value_back n =
    let a : n % 65536 % 256 + n % 65536 / 256 * 256 ≡ n % 65536 = omega arith in
    let b : n / 65536 % 256 + n / 65536 / 256 * 256 ≡ n / 65536 = omega arith in
    let c : n % 65536 + n / 65536 * 65536 ≡ n = omega arith in
    ap₂ (λ (x y : ℕ). x + y * 65536) a b ∙ c

-- What the reader sees of an entry of version 2.
abbrev pub look_element : Element → Result (Option Look) Refusal
look_element (entry e) = look_of e
look_element (failed_entry m) = Ok (Some (Failed m))

pub see_failed : (m : ℕ) (post : List ℕ) → look (failed_bytes m ++ post) ≡ Ok (Some (Failed m))
unfolding look look_failed
see_failed m post = ap (λ (l : List ℕ). look (l ++ post)) (count_halves_lem m) ∙ halves_seen
  where
    halves_seen : look (count_halves m ++ post) ≡ Ok (Some (Failed m))
    halves_seen =
        let l : List ℕ = count_halves m ++ post in
        rw (ne_eqb (length l) 0 (λ (z : length l ≡ 0). omega arith), le-leb 5 (length l) (omega arith)) (ap (λ (n : ℕ). Ok (Some (Failed n))) (value_back m))

pub look_element_lem : (m : Element) (post : List ℕ) → ElementInRange m → look (encode_element m ++ post) ≡ look_element m
look_element_lem (entry e) post h = look_encode e post h
look_element_lem (failed_entry m) post h = see_failed m post

pub drop_element : (m : Element) (post : List ℕ) → drop (length (encode_element m)) (encode_element m ++ post) ≡ post
drop_element m post = drop-append_seam (encode_element m) post

turn_look_lem : (two : Bool) (m : Element) (p : Progress) → OfVersion two m
    → turn_look two (look_element m) p ≡ turned (go_on (feed_element p.scan p.run m) (p.at + length (encode_element m)) (run_after p.scan p.run m) (count_after p.scan p.count m))
turn_look_lem two (entry (setup a (four b0 b1 b2 b3) (four b4 b5 b6 b7))) p v = refl
turn_look_lem two (entry (out a e b last l)) p v =
    let z : 6 + length l ≡ length (encode (out a e b last l)) = omega arith in
    let m = entry (out a e b last l) in
    ap (λ (n : ℕ). turned (go_on (feed_element p.scan p.run m) (p.at + n) (run_after p.scan p.run m) (count_after p.scan p.count m))) z
turn_look_lem two (failed_entry m) p v = ap (λ (b : Bool). turn_look b (Ok (Some (Failed m))) p) v

-- The turn at an entry's encoding feeds the entry.
pub turn_element : (s : List ℕ) (two : Bool) (p : Progress) (m : Element) (post : List ℕ) → drop p.at s ≡ encode_element m ++ post → ElementInRange m → OfVersion two m
    → turn_of s two p ≡ turned (go_on (feed_element p.scan p.run m) (p.at + length (encode_element m)) (run_after p.scan p.run m) (count_after p.scan p.count m))
unfolding turn_of
turn_element s two p m post q h v = ap (λ (l : List ℕ). turn_look two (look l) p) q ∙ ap (λ (y : Result (Option Look) Refusal). turn_look two y p) (look_element_lem m post h) ∙ turn_look_lem two m p v

-- ---- back

byte_at : (l : List ℕ) (i : ℕ) → Bytes l → get_or l i 0 < 256
byte_at [] zero h = omega arith
byte_at [] (suc i) h = omega arith
byte_at (x ∷ l) zero h = h.0
byte_at (x ∷ l) (suc i) h = byte_at l i h.1

pub bytes_drop : (n : ℕ) (l : List ℕ) → Bytes l → Bytes (drop n l)
bytes_drop zero l h = h
bytes_drop (suc n) [] h = tt
bytes_drop (suc n) (x ∷ l) h = bytes_drop n l h.1

bytes_take : (n : ℕ) (l : List ℕ) → Bytes l → Bytes (take n l)
bytes_take zero l h = tt
bytes_take (suc n) [] h = tt
bytes_take (suc n) (x ∷ l) h = (h.0, bytes_take n l h.1)

-- The entry that stands at the front of bytes.
pub record Decoded (two : Bool) (l : List ℕ) : Type 0 where
  pub element : Element
  pub ranged : ElementInRange element
  pub version : OfVersion two element
  pub rest : List ℕ
  pub is : l ≡ encode_element element ++ rest

one_more : (l : List ℕ) (j : ℕ) (r : List ℕ) → j < length l → drop (suc j) l ≡ r → drop j l ≡ get_or l j 0 ∷ r
one_more l j r h q = drop-cons l j 0 h ∙ ap (λ (v : List ℕ). get_or l j 0 ∷ v) q

pub setup_decoded : (two : Bool) (l : List ℕ) → Bytes l → get_or l 0 0 ≡ 0x53 → 10 ≤ length l → get_or l 1 0 ≤ 127 → Decoded two l
setup_decoded two l b k h a = record {
  version = tt;
  element = entry (setup (get_or l 1 0) (four (get_or l 2 0) (get_or l 3 0) (get_or l 4 0) (get_or l 5 0)) (four (get_or l 6 0) (get_or l 7 0) (get_or l 8 0) (get_or l 9 0)));
  ranged = (a, (byte_at l 2 b, byte_at l 3 b, byte_at l 4 b, byte_at l 5 b), (byte_at l 6 b, byte_at l 7 b, byte_at l 8 b, byte_at l 9 b));
  rest = drop 10 l;
  is =
      one_more l 0 _ (omega arith) (one_more l 1 _ (omega arith) (one_more l 2 _ (omega arith) (one_more l 3 _ (omega arith) (one_more l 4 _ (omega arith)
      (one_more l 5 _ (omega arith) (one_more l 6 _ (omega arith) (one_more l 7 _ (omega arith) (one_more l 8 _ (omega arith) (one_more l 9 (drop 10 l) (omega arith) refl)))))))))
      ∙ ap (λ (n : ℕ). n ∷ get_or l 1 0 ∷ get_or l 2 0 ∷ get_or l 3 0 ∷ get_or l 4 0 ∷ get_or l 5 0 ∷ get_or l 6 0 ∷ get_or l 7 0 ∷ get_or l 8 0 ∷ get_or l 9 0 ∷ drop 10 l) k;
}

bit_back : (n : ℕ) → n ≤ 1 → n ≡ flag_byte (eqb n 1)
bit_back zero h = refl
bit_back (suc zero) h = refl
bit_back (suc (suc n)) h = absurd (omega arith)

pub out_decoded : (two : Bool) (l : List ℕ) → Bytes l → OutFits l → Decoded two l
out_decoded two l b f =
    let n = get_or l 5 0 in
    let w = f.whole in
    let m = take n (drop 6 l) in
    let e₆ : drop 6 l ≡ m ++ drop (6 + n) l = sym (take-append-drop n (drop 6 l)) ∙ ap (λ (v : List ℕ). m ++ v) (drop-drop n 6 l) in
    let d : length (drop 6 l) ≡ length l - 6 = length-drop 6 l in
    let lm : length m ≡ n = length-take-le n (drop 6 l) (omega arith) in
    record {
      version = tt;
      element = entry (out (get_or l 1 0) (get_or l 2 0) (eqb (get_or l 3 0) 1) (eqb (get_or l 4 0) 1) m);
      ranged = (f.address, f.endpoint, (let s = f.short in omega arith), bytes_take n (drop 6 l) (bytes_drop 6 l b));
      rest = drop (6 + n) l;
      is =
          one_more l 0 _ (omega arith) (one_more l 1 _ (omega arith) (one_more l 2 _ (omega arith) (one_more l 3 _ (omega arith) (one_more l 4 _ (omega arith)
          (one_more l 5 (m ++ drop (6 + n) l) (omega arith) e₆)))))
          ∙ again f.kind (bit_back (get_or l 3 0) f.pid) (bit_back (get_or l 4 0) f.last) (sym lm);
    }
  where
    again : {k p q n k' p' q' n' : ℕ} {r : List ℕ} → k ≡ k' → p ≡ p' → q ≡ q' → n ≡ n'
        → k ∷ get_or l 1 0 ∷ get_or l 2 0 ∷ p ∷ q ∷ n ∷ r ≡ k' ∷ get_or l 1 0 ∷ get_or l 2 0 ∷ p' ∷ q' ∷ n' ∷ r
    again e₁ e₂ e₃ e₄ = cc

pub failed_decoded : (l : List ℕ) → Bytes l → get_or l 0 0 ≡ 0x58 → 5 ≤ length l → Decoded true l
failed_decoded l b k h =
    let x = get_or l 1 0 in
    let y = get_or l 2 0 in
    let z = get_or l 3 0 in
    let u = get_or l 4 0 in
    let hx = byte_at l 1 b in
    let hy = byte_at l 2 b in
    let hz = byte_at l 3 b in
    let hu = byte_at l 4 b in
    let v = (x + y * 256) + (z + u * 256) * 65536 in
    let lo : v % 65536 ≡ x + y * 256 = omega arith in
    let hi : v / 65536 ≡ z + u * 256 = omega arith in
    let e₁ : x ≡ v % 65536 % 256 = sym (ap (λ (n : ℕ). n % 256) lo ∙ low x y hx) in
    let e₂ : y ≡ v % 65536 / 256 = sym (ap (λ (n : ℕ). n / 256) lo ∙ high x y hx) in
    let e₃ : z ≡ v / 65536 % 256 = sym (ap (λ (n : ℕ). n % 256) hi ∙ low z u hz) in
    let e₄ : u ≡ v / 65536 / 256 = sym (ap (λ (n : ℕ). n / 256) hi ∙ high z u hz) in
    record {
      version = refl;
      element = failed_entry v;
      ranged = omega arith;
      rest = drop 5 l;
      is =
          one_more l 0 _ (omega arith) (one_more l 1 _ (omega arith) (one_more l 2 _ (omega arith) (one_more l 3 _ (omega arith) (one_more l 4 (drop 5 l) (omega arith) refl))))
          ∙ five k e₁ e₂ e₃ e₄
          ∙ ap (λ (x : List ℕ). x ++ drop 5 l) (sym (count_halves_lem v));
    }
  where
    low : (x y : ℕ) → x < 256 → (x + y * 256) % 256 ≡ x
    low x y h = omega arith

    high : (x y : ℕ) → x < 256 → (x + y * 256) / 256 ≡ y
    high x y h = omega arith

    five : {k a b c d k' a' b' c' d' : ℕ} {r : List ℕ} → k ≡ k' → a ≡ a' → b ≡ b' → c ≡ c' → d ≡ d' → k ∷ a ∷ b ∷ c ∷ d ∷ r ≡ k' ∷ a' ∷ b' ∷ c' ∷ d' ∷ r
    five e₀ e₁ e₂ e₃ e₄ = cc
