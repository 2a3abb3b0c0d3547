-- An entry's packets, as they are put. Assumes nothing.
use Rattle.std.specs.Prelude.{Err, Ok, Result, Option, None, Some}
use Rattle.std.specs.Result.{result_unwrap_or}
use mathlib.Core.Path.{◌≡◌, refl, ap, ap₂, sym, subst, ◌∙◌}
use mathlib.Core.Bool.{true, false}
use mathlib.Core.List.{List, [], ◌∷◌, ◌++◌}
use Prim.Native.Nat.{ℕ, ◌+◌, ◌*◌, ◌≤◌}
use native.Mathlib.Omega.{arith}
use lib.ListN.{length, take, drop, length-append, length-drop}
use lib.Seq.{sets, length-sets, length-take-le, drop-drop, take-append_seam}
use borrow.Author.Tests.{le-leb}
use Rattle.pool.proofs.Stores.{sets_append}
use Rattle.packet.specs.Packet.{Packet, token, payload, encode, in_range}
use Rattle.packet.specs.Reply.{result}
use Rattle.packet.specs.Writing.{write_reply, Wrote}
use Rattle.packet.specs.declared.packet.Token.TheVariants.{Out as out_token, Setup as setup_token}
use Rattle.packet.proofs.Written.{size_of, length_encode}
use Rattle.record.specs.Bytes.{encode_element}
use Rattle.record.specs.Grammar.{four, setup, out as out_entry}
use Rattle.record.specs.Segments.{Element, entry, failed_entry}
use Rattle.record.specs.Place.{ElementInRange}
use Rattle.record.specs.Reader.{look}
use Rattle.record.specs.declared.look.OutHead.{OutHead}
use Rattle.record.specs.declared.look.Look.{Look}
use Rattle.record.specs.declared.look.Look.TheVariants.{Setup, Out, Failed}
use Rattle.record.specs.declared.refusal.Refusal.{Refusal as Why}
use Rattle.record.proofs.Decoding.{look_element, look_element_lem}
use Rattle.export.specs.Export.{packets_of, encode_packets}
use Rattle.export.specs.Walk.{Put}
use Rattle.export.proofs.Walking.{pair_bytes, pair_length}
use Rattle.packet.specs.declared.refusal.Refusal.{Refusal}

-- ---- writes

used_is : (r : Result ℕ Refusal) (used n : ℕ) → write_reply r ≡ result n → result_unwrap_or r used ≡ n
used_is (Ok k) used n e = cc
used_is (Err w) used n e = absurd (let z : ◌≡◌ {A = ℕ} 0 1 = cc in omega arith)

record One (p : Packet) (out : List ℕ) (used : ℕ) (r : Result ℕ Refusal) (out' : List ℕ) : Type 0 where
  next : result_unwrap_or r used ≡ used + length (encode p)
  bytes : out' ≡ sets out used (encode p)

-- A packet that fits and has its fields in range.
one : (p : Packet) (out : List ℕ) (used : ℕ) (r : Result ℕ Refusal) (out' : List ℕ) → in_range p ≡ true → used + length (encode p) ≤ length out → Wrote p out used r out' → One p out used r out'
one p out used r out' h room w =
    let f = le-leb (used + length (encode p)) (length out) room in
    record { next = used_is r used (used + length (encode p)) (w.answer ∙ rw (h, f)); bytes = w.bytes ∙ rw (h, f) }

-- A token and its data packet.
pub pair_put : (p q : Packet) (out out₁ out₂ : List ℕ) (used n₁ n₂ : ℕ) (r₁ r₂ : Result ℕ Refusal) → in_range p ≡ true → in_range q ≡ true
    → Wrote p out used r₁ out₁ → n₁ ≡ result_unwrap_or r₁ used → Wrote q out₁ n₁ r₂ out₂ → n₂ ≡ result_unwrap_or r₂ n₁ → used + (size_of p + size_of q) ≤ length out
    → Put (p ∷ q ∷ []) out used n₂ out₂
pair_put p q out out₁ out₂ used n₁ n₂ r₁ r₂ hp hq w₁ e₁ w₂ e₂ room =
    let lp = length_encode p in
    let lq = length_encode q in
    let o = one p out used r₁ out₁ hp (omega arith) w₁ in
    let at₁ : n₁ ≡ used + length (encode p) = e₁ ∙ o.next in
    let same : length out₁ ≡ length out = ap length o.bytes ∙ length-sets out used (encode p) in
    let t = one q out₁ n₁ r₂ out₂ hq (omega arith) w₂ in
    let b = pair_bytes p q in
    record {
      next = e₂ ∙ t.next ∙ omega (arith, at₁, ap length b, length-append (encode p) (encode q));
      bytes = t.bytes ∙ ap₂ (λ (l : List ℕ) (n : ℕ). sets l n (encode q)) o.bytes at₁ ∙ sets_append (encode p) (encode q) out used ∙ ap (sets out used) (sym b);
    }

-- Nothing.
pub none_put : (ps : List Packet) (out : List ℕ) (used : ℕ) → ps ≡ [] → Put ps out used used out
unfolding encode_packets
none_put ps out used e = subst (λ (qs : List Packet). Put qs out used used out) (sym e) (record { next = omega arith; bytes = refl })

-- ---- what a look saw

abbrev Seen : Type 0
Seen = Result (Option Look) Why

-- No packets come of it.
abbrev pub NoPackets : Result (Option Look) Why → Type 0
NoPackets (Ok (Some (Setup a w))) = ⊥
NoPackets (Ok (Some (Out x))) = ⊥
NoPackets (Ok (Some (Failed m))) = Unit {0}
NoPackets (Ok None) = Unit {0}
NoPackets (Err why) = Unit {0}

module _ (s : List ℕ) (at : ℕ) (m : Element) (post : List ℕ) (h : ElementInRange m) (q : drop at s ≡ encode_element m ++ post) where
  seen : look (drop at s) ≡ look_element m
  seen = ap look q ∙ look_element_lem m post h

  -- What stands k bytes after the position.
  after : (k : ℕ) → drop (at + k) s ≡ drop k (encode_element m ++ post)
  after k = sym (drop-drop k at s) ∙ ap (drop k) q

pub record SetupThere (s : List ℕ) (at a : ℕ) (m : Element) : Type 0 where
  pub address : a ≤ 127
  pub packets : token setup_token a 0 ∷ payload false (take 8 (drop (at + 2) s)) ∷ [] ≡ packets_of m

pub setup_there : (s : List ℕ) (at : ℕ) (m : Element) (post : List ℕ) → ElementInRange m → drop at s ≡ encode_element m ++ post → (a w : ℕ) → look (drop at s) ≡ Ok (Some (Setup a w)) → SetupThere s at a m
setup_there s at (entry (setup a' (four b0 b1 b2 b3) (four b4 b5 b6 b7))) post h q a w e =
    let m = entry (setup a' (four b0 b1 b2 b3) (four b4 b5 b6 b7)) in
    let z : ◌≡◌ {A = Seen} (Ok (Some (Setup a' (b6 + b7 * 256)))) (Ok (Some (Setup a w))) = sym (seen s at m post h q) ∙ e in
    let same : a' ≡ a = cc in
    record {
      address = subst (λ (x : ℕ). x ≤ 127) same h.0;
      packets = ap₂ (λ (x : ℕ) (l : List ℕ). token setup_token x 0 ∷ payload false l ∷ []) (sym same) (ap (take 8) (after s at m post h q 2));
    }
setup_there s at (entry (out_entry a' e' b last l)) post h q a w e = absurd (let z = sym (seen s at (entry (out_entry a' e' b last l)) post h q) ∙ e in let y : ◌≡◌ {A = ℕ} 0 1 = cc in omega arith)
setup_there s at (failed_entry n) post h q a w e = absurd (let z = sym (seen s at (failed_entry n) post h q) ∙ e in let y : ◌≡◌ {A = ℕ} 0 1 = cc in omega arith)

pub record OutThere (s : List ℕ) (at : ℕ) (x : OutHead) (m : Element) : Type 0 where
  pub address : x.address ≤ 127
  pub endpoint : x.endpoint ≤ 15
  pub short : x.length ≤ 64
  pub packets : token out_token x.address x.endpoint ∷ payload x.pid (take x.length (drop (at + 6) s)) ∷ [] ≡ packets_of m

pub out_there : (s : List ℕ) (at : ℕ) (m : Element) (post : List ℕ) → ElementInRange m → drop at s ≡ encode_element m ++ post → (x : OutHead) → look (drop at s) ≡ Ok (Some (Out x)) → OutThere s at x m
out_there s at (entry (out_entry a e b last l)) post h q x p =
    let m = entry (out_entry a e b last l) in
    let z : ◌≡◌ {A = Seen} (Ok (Some (Out (record { address = a; endpoint = e; pid = b; last = last; length = length l })))) (Ok (Some (Out x))) = sym (seen s at m post h q) ∙ p in
    let same : ◌≡◌ {A = OutHead} (record { address = a; endpoint = e; pid = b; last = last; length = length l }) x = cc in
    let data_is : take (length l) (drop (at + 6) s) ≡ l = ap (take (length l)) (after s at m post h q 6) ∙ take-append_seam l post in
    subst (λ (y : OutHead). OutThere s at y m) same
    (record { address = h.0; endpoint = h.1; short = h.2; packets = ap (λ (d : List ℕ). token out_token a e ∷ payload b d ∷ []) data_is })
out_there s at (entry (setup a lo hi)) post h q x p = absurd (let z = sym (seen s at (entry (setup a lo hi)) post h q) ∙ p in let y : ◌≡◌ {A = ℕ} 0 1 = cc in omega arith)
out_there s at (failed_entry n) post h q x p = absurd (let z = sym (seen s at (failed_entry n) post h q) ∙ p in let y : ◌≡◌ {A = ℕ} 0 1 = cc in omega arith)

-- Where the look saw neither there are no packets.
pub none_there : (s : List ℕ) (at : ℕ) (m : Element) (post : List ℕ) → ElementInRange m → drop at s ≡ encode_element m ++ post → (y : Seen) → look (drop at s) ≡ y → NoPackets y → packets_of m ≡ []
none_there s at (entry (setup a lo hi)) post h q y e n = absurd (subst NoPackets (sym e ∙ seen s at (entry (setup a lo hi)) post h q) n)
none_there s at (entry (out_entry a e' b last l)) post h q y e n = absurd (subst NoPackets (sym e ∙ seen s at (entry (out_entry a e' b last l)) post h q) n)
none_there s at (failed_entry c) post h q y e n = refl

-- ---- put

-- The lengths of a pair's bytes.
pair_room : (p q : Packet) (used room : ℕ) (ps : List Packet) → p ∷ q ∷ [] ≡ ps → used + length (encode_packets ps) ≤ room → used + (size_of p + size_of q) ≤ room
pair_room p q used room ps e h = omega (arith, h, ap (λ (l : List Packet). length (encode_packets l)) e, pair_length p q, length_encode p, length_encode q)

pub setup_put : (s : List ℕ) (at used r a n : ℕ) (l l' : List ℕ) (m : Element) → SetupThere s at a m → n ≡ 8 → at + 10 ≤ length s
    → (a ≤ 127 → 0 ≤ 15 → length (take n (drop (at + 2) s)) ≤ 64 → used + (6 + length (take n (drop (at + 2) s))) ≤ length l
    → Put (token setup_token a 0 ∷ payload false (take n (drop (at + 2) s)) ∷ []) l used r l')
    → used + length (encode_packets (packets_of m)) ≤ length l → Put (packets_of m) l used r l'
setup_put s at used r a n l l' m t e inside put room =
    let d = take n (drop (at + 2) s) in
    let is : token setup_token a 0 ∷ payload false d ∷ [] ≡ packets_of m = ap (λ (k : ℕ). token setup_token a 0 ∷ payload false (take k (drop (at + 2) s)) ∷ []) e ∙ t.packets in
    let size : length d ≡ n = length-take-le n (drop (at + 2) s) (omega (arith, e, inside, length-drop (at + 2) s)) in
    subst (λ (ps : List Packet). Put ps l used r l') is
    (put t.address (omega arith) (omega (arith, size, e)) (omega (arith, pair_room (token setup_token a 0) (payload false d) used (length l) (packets_of m) is room)))

pub out_put : (s : List ℕ) (at used r n : ℕ) (x : OutHead) (l l' : List ℕ) (m : Element) → OutThere s at x m → n ≡ x.length → at + (6 + x.length) ≤ length s
    → (x.address ≤ 127 → x.endpoint ≤ 15 → length (take n (drop (at + 6) s)) ≤ 64 → used + (6 + length (take n (drop (at + 6) s))) ≤ length l
    → Put (token out_token x.address x.endpoint ∷ payload x.pid (take n (drop (at + 6) s)) ∷ []) l used r l')
    → used + length (encode_packets (packets_of m)) ≤ length l → Put (packets_of m) l used r l'
out_put s at used r n x l l' m t e inside put room =
    let d = take n (drop (at + 6) s) in
    let is : token out_token x.address x.endpoint ∷ payload x.pid d ∷ [] ≡ packets_of m =
    ap (λ (k : ℕ). token out_token x.address x.endpoint ∷ payload x.pid (take k (drop (at + 6) s)) ∷ []) e ∙ t.packets in
    let size : length d ≡ n = length-take-le n (drop (at + 6) s) (omega (arith, e, inside, length-drop (at + 6) s)) in
    subst (λ (ps : List Packet). Put ps l used r l') is
    (put t.address t.endpoint (omega (arith, size, e, t.short)) (omega (arith, pair_room (token out_token x.address x.endpoint) (payload x.pid d) used (length l) (packets_of m) is room)))
