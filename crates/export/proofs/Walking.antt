-- How far a walk over a record's entries has come. Assumes nothing.
use mathlib.Core.Path.{◌≡◌, refl, ap, ap₂, sym, subst, ◌∙◌}
use mathlib.Core.Bool.{Bool, false}
use mathlib.Core.List.{List, [], ◌∷◌, ◌++◌, append_assoc, append-nil}
use Prim.Native.Nat.{ℕ, ◌+◌, ◌*◌, ◌≤◌}
use native.Mathlib.Omega.{arith}
use lib.Seq.{sets, length-sets}
use lib.ListN.{length, drop, length-append, length-drop}
use Rattle.pool.proofs.Stores.{sets_append}
use Rattle.packet.proofs.Written.{length_encode}
use Rattle.packet.specs.Packet.{Packet, token, payload, encode}
use Rattle.packet.specs.declared.packet.Token.TheVariants.{Out as out_token, Setup as setup_token}
use Rattle.record.specs.Bytes.{encode_element, encode_elements}
use Rattle.record.specs.Grammar.{four, setup, out}
use Rattle.record.specs.Segments.{Element, entry, failed_entry}
use Rattle.record.specs.Place.{ElementInRange}
use Rattle.record.specs.Reader.{look}
use Rattle.record.specs.Verdict.{AllRanged, Whole}
use Rattle.record.specs.declared.look.Look.{Look}
use Rattle.record.specs.declared.look.Look.TheVariants.{Setup, Out, Failed}
use Rattle.record.specs.declared.refusal.Refusal.{Refusal}
use Rattle.std.specs.Prelude.{Option, Some, None, Result, Ok, Err}
use Rattle.record.proofs.Decoding.{look_element, look_element_lem}
use Rattle.record.proofs.Looking.{setup_at, out_at, failed_at}
use Rattle.record.proofs.Handing.{after_all, drop_record}
use Rattle.record.proofs.Verdicts.{reads_ranged}
use Rattle.export.specs.Export.{packets_of, packets_in, encode_packets, export_of}
use Rattle.export.specs.Walk.{lengths_at, Put}
use Rattle.export.specs.declared.Lengths.{Lengths}

-- ---- an entry's lengths

-- The entry at a position has some bytes and lies inside, and its packets have at most twice its bytes.
pub record Bounds (s : List ℕ) (at : ℕ) (l : Lengths) : Type 0 where
  pub some : 1 ≤ l.entry
  pub inside : at + l.entry ≤ length s
  pub twice : l.token + l.payload ≤ 2 * l.entry

pub bounds : (s : List ℕ) (at : ℕ) (l : Lengths) → lengths_at (look (drop at s)) ≡ Some l → Bounds s at l
bounds s at l e = go (look (drop at s)) refl e
  where
    same : (m : Lengths) → Some m ≡ Some l → Bounds s at m → Bounds s at l
    same m q h = subst (Bounds s at) (let z : m ≡ l = cc in z) h

    go : (y : Result (Option Look) Refusal) → look (drop at s) ≡ y → lengths_at y ≡ Some l → Bounds s at l
    go (Ok (Some (Setup a w))) e q = same _ q (record { some = omega arith; inside = setup_at s at a w e; twice = omega arith })
    go (Ok (Some (Out x))) e q = same _ q (record { some = omega arith; inside = out_at s at x e; twice = omega arith })
    go (Ok (Some (Failed m))) e q = same _ q (record { some = omega arith; inside = failed_at s at m e; twice = omega arith })
    go (Ok None) e q = absurd (let z : ◌≡◌ {A = ℕ} 0 1 = cc in omega arith)
    go (Err why) e q = absurd (let z : ◌≡◌ {A = ℕ} 0 1 = cc in omega arith)

-- The same, each for itself.
pub entry_some : (s : List ℕ) (at : ℕ) (l : Lengths) → lengths_at (look (drop at s)) ≡ Some l → 1 ≤ l.entry
entry_some s at l e = (bounds s at l e).some

pub entry_inside : (s : List ℕ) (at : ℕ) (l : Lengths) → lengths_at (look (drop at s)) ≡ Some l → at + l.entry ≤ length s
entry_inside s at l e = (bounds s at l e).inside

pub packets_twice : (s : List ℕ) (at : ℕ) (l : Lengths) → lengths_at (look (drop at s)) ≡ Some l → l.token + l.payload ≤ 2 * l.entry
packets_twice s at l e = (bounds s at l e).twice

pub packets_append : (a b : List Packet) → encode_packets (a ++ b) ≡ encode_packets a ++ encode_packets b
unfolding encode_packets
packets_append [] b = refl
packets_append (p ∷ a) b = ap (λ (l : List ℕ). encode p ++ l) (packets_append a b) ∙ sym (append_assoc (encode p) (encode_packets a) (encode_packets b))

-- A token and data.
pub pair_bytes : (p q : Packet) → encode_packets (p ∷ q ∷ []) ≡ encode p ++ encode q
unfolding encode_packets
pair_bytes p q = ap (λ (l : List ℕ). encode p ++ l) (append-nil (encode q))

pub pair_length : (p q : Packet) → length (encode_packets (p ∷ q ∷ [])) ≡ length (encode p) + length (encode q)
pair_length p q = ap length (pair_bytes p q) ∙ length-append (encode p) (encode q)

-- What the lengths at an entry are.
record Measured (m : Element) : Type 0 where
  lengths : Lengths
  is : lengths_at (look_element m) ≡ Some lengths
  entry_is : lengths.entry ≡ length (encode_element m)
  packets_are : lengths.token + lengths.payload ≡ length (encode_packets (packets_of m))
  twice : lengths.token + lengths.payload ≤ 2 * lengths.entry

measured : (m : Element) → Measured m
unfolding encode_packets
measured (entry (setup a (four b0 b1 b2 b3) (four b4 b5 b6 b7))) =
    let p = token setup_token a 0 in
    let q = payload false (b0 ∷ b1 ∷ b2 ∷ b3 ∷ b4 ∷ b5 ∷ b6 ∷ b7 ∷ []) in
    record { lengths = record { entry = 10; token = 3; payload = 11 }; is = refl; entry_is = refl; packets_are = omega (arith, pair_length p q, length_encode p, length_encode q); twice = omega arith }
measured (entry (out a e pid last l)) =
    let p = token out_token a e in
    let q = payload pid l in
    record { lengths = record { entry = 6 + length l; token = 3; payload = 3 + length l }; is = refl; entry_is = omega arith; packets_are = omega (arith, pair_length p q, length_encode p, length_encode q); twice = omega arith }
measured (failed_entry n) = record { lengths = record { entry = 5; token = 0; payload = 0 }; is = refl; entry_is = refl; packets_are = refl; twice = omega arith }

-- ---- entries one after another

in_append : (a b : List Element) → packets_in (a ++ b) ≡ packets_in a ++ packets_in b
in_append [] b = refl
in_append (m ∷ a) b = ap (λ (l : List Packet). packets_of m ++ l) (in_append a b) ∙ sym (append_assoc (packets_of m) (packets_in a) (packets_in b))

export_append : (a b : List Element) → export_of (a ++ b) ≡ export_of a ++ export_of b
export_append a b = ap encode_packets (in_append a b) ∙ packets_append (packets_in a) (packets_in b)

-- One entry more.
pub export_more : (a : List Element) (m : Element) → export_of (a ++ (m ∷ [])) ≡ export_of a ++ encode_packets (packets_of m)
export_more a m = export_append a (m ∷ []) ∙ ap (λ (ps : List Packet). export_of a ++ encode_packets ps) (append-nil (packets_of m))

-- The entries before a position are done, with n bytes of packets; the rest stands there.
pub record Walked (ms : List Element) (s : List ℕ) (at n : ℕ) : Type 0 where
  pub done : List Element
  pub rest : List Element
  pub two : Bool
  pub split : done ++ rest ≡ ms
  pub here : drop at s ≡ encode_elements rest
  pub ranged : AllRanged two rest
  pub size : n ≡ length (export_of done)

pub start : (s : List ℕ) (w : Whole s) → Walked w.ms s 5 0
unfolding encode_packets
start s w = record {
  done = [];
  rest = w.ms;
  two = w.two;
  split = refl;
  here = ap (drop 5) w.is ∙ drop_record w.two w.ms;
  ranged = reads_ranged w.two w.ms w.reads;
  size = refl;
}

-- The next entry, by its lengths.
pub record Stepped (ms : List Element) (s : List ℕ) (at n : ℕ) (k : Walked ms s at n) (l : Lengths) : Type 0 where
  pub m : Element
  pub post : List ℕ
  pub in_range : ElementInRange m
  pub here : drop at s ≡ encode_element m ++ post
  pub size : l.token + l.payload ≡ length (encode_packets (packets_of m))
  pub room : n + length (encode_packets (packets_of m)) ≤ length (export_of ms)
  pub next : Walked ms s (at + l.entry) (n + (l.token + l.payload))
  pub done_is : next.done ≡ k.done ++ (m ∷ [])

-- Bytes of no entry.
none_seen : (l : List ℕ) → l ≡ [] → lengths_at (look l) ≡ None
unfolding look
none_seen l e = ap (λ (x : List ℕ). lengths_at (look x)) e

-- What stands where an entry does.
seen_at : (s : List ℕ) (at : ℕ) (m : Element) (post : List ℕ) → ElementInRange m → drop at s ≡ encode_element m ++ post → lengths_at (look (drop at s)) ≡ Some (measured m).lengths
seen_at s at m post r h = ap lengths_at (ap look h ∙ look_element_lem m post r) ∙ (measured m).is

pub step : (ms : List Element) (s : List ℕ) (at n : ℕ) (k : Walked ms s at n) (l : Lengths) → lengths_at (look (drop at s)) ≡ Some l → Stepped ms s at n k l
unfolding encode_elements
step ms s at n k l some = go k.rest k.split k.here k.ranged
  where
    go : (rest : List Element) → k.done ++ rest ≡ ms → drop at s ≡ encode_elements rest → AllRanged k.two rest → Stepped ms s at n k l
    go [] e h r = absurd (let z = sym (none_seen (drop at s) h) ∙ some in let y : ◌≡◌ {A = ℕ} 0 1 = cc in omega arith)
    go (m ∷ rest) e h r =
        let f = measured m in
        let z = sym (seen_at s at m (encode_elements rest) r.0.0 h) ∙ some in
        let same : f.lengths ≡ l = cc in
        let size : l.token + l.payload ≡ length (encode_packets (packets_of m)) = ap (λ (x : Lengths). x.token + x.payload) (sym same) ∙ f.packets_are in
        let entry_is : l.entry ≡ length (encode_element m) = ap (λ (x : Lengths). x.entry) (sym same) ∙ f.entry_is in
        let more = export_more k.done m in
        let joined : (k.done ++ (m ∷ [])) ++ rest ≡ ms = append_assoc k.done (m ∷ []) rest ∙ e in
        let count : length (export_of ms) ≡ length (export_of k.done) + length (encode_packets (packets_of m)) + length (export_of rest) =
        ap (λ (l : List Element). length (export_of l)) (sym joined) ∙ ap length (export_append (k.done ++ (m ∷ [])) rest) ∙ length-append (export_of (k.done ++ (m ∷ []))) (export_of rest)
        ∙ ap (λ (i : ℕ). i + length (export_of rest)) (ap length more ∙ length-append (export_of k.done) (encode_packets (packets_of m))) in
        record {
          m = m;
          post = encode_elements rest;
          in_range = r.0.0;
          here = h;
          size = size;
          room = omega (arith, count, k.size);
          next = record {
            done = k.done ++ (m ∷ []);
            rest = rest;
            two = k.two;
            split = joined;
            here = ap (λ (i : ℕ). drop (at + i) s) entry_is ∙ after_all s at (encode_element m) (encode_elements rest) h;
            ranged = r.1;
            size = ap₂ ◌+◌ k.size size ∙ sym (ap length more ∙ length-append (export_of k.done) (encode_packets (packets_of m)));
          };
          done_is = refl;
        }

-- Where no entry stands, all are done.
pub all_done : (ms : List Element) (s : List ℕ) (at n : ℕ) (k : Walked ms s at n) → lengths_at (look (drop at s)) ≡ None → k.done ≡ ms
unfolding encode_elements
all_done ms s at n k none = go k.rest k.split k.here k.ranged
  where
    go : (rest : List Element) → k.done ++ rest ≡ ms → drop at s ≡ encode_elements rest → AllRanged k.two rest → k.done ≡ ms
    go [] e h r = sym (append-nil k.done) ∙ e
    go (m ∷ rest) e h r = absurd (let z = sym (seen_at s at m (encode_elements rest) r.0.0 h) ∙ none in let y : ◌≡◌ {A = ℕ} 0 1 = cc in omega arith)

-- One entry more.
pub step_on : (ms : List Element) (s : List ℕ) (at n : ℕ) (l : Lengths) → lengths_at (look (drop at s)) ≡ Some l → Walked ms s at n → Walked ms s (at + l.entry) (n + (l.token + l.payload))
step_on ms s at n l e k = (step ms s at n k l e).next

-- The packets of what is done stand at the start of the lent bytes.
pub record Stored (ms : List Element) (s : List ℕ) (at used : ℕ) (l₀ l : List ℕ) : Type 0 where
  pub walked : Walked ms s at used
  pub bytes : l ≡ sets l₀ 0 (export_of walked.done)

pub store_start : (s l : List ℕ) (w : Whole s) → Stored w.ms s 5 0 l l
unfolding encode_packets start
store_start s l w = record { walked = start s w; bytes = refl }

-- The packets of one entry more.
pub store_on : (ms : List Element) (s : List ℕ) (at used used' : ℕ) (l₀ l l' : List ℕ) (r : Lengths) → lengths_at (look (drop at s)) ≡ Some r
    → Stored ms s at used l₀ l → length (export_of ms) ≤ length l₀
    → ((m : Element) (post : List ℕ) → ElementInRange m → drop at s ≡ encode_element m ++ post → used + length (encode_packets (packets_of m)) ≤ length l → Put (packets_of m) l used used' l')
    → Stored ms s (at + r.entry) used' l₀ l'
store_on ms s at used used' l₀ l l' r e k room put =
    let st = step ms s at used k.walked r e in
    let same : length l ≡ length l₀ = ap length k.bytes ∙ length-sets l₀ 0 (export_of k.walked.done) in
    let p = put st.m st.post st.in_range st.here (omega (arith, st.room, same)) in
    let pk = encode_packets (packets_of st.m) in
    let place : used ≡ 0 + length (export_of k.walked.done) = omega (arith, k.walked.size) in
    record {
      walked = record {
        done = st.next.done;
        rest = st.next.rest;
        two = st.next.two;
        split = st.next.split;
        here = st.next.here;
        ranged = st.next.ranged;
        size = p.next ∙ ap (λ (i : ℕ). used + i) (sym st.size) ∙ st.next.size;
      };
      bytes =
          p.bytes ∙ ap₂ (λ (x : List ℕ) (i : ℕ). sets x i pk) k.bytes place ∙ sets_append (export_of k.walked.done) pk l₀ 0
          ∙ ap (sets l₀ 0) (sym (export_more k.walked.done st.m) ∙ ap export_of (sym st.done_is));
    }

-- The bytes of a record's packets are at most twice its own.
export_small : (ms : List Element) → length (export_of ms) ≤ 2 * length (encode_elements ms)
unfolding encode_elements encode_packets
export_small [] = omega arith
export_small (m ∷ ms) =
    let f = measured m in
    omega (arith, f.twice, f.entry_is, f.packets_are, export_small ms, ap length (packets_append (packets_of m) (packets_in ms)), length-append (encode_packets (packets_of m)) (export_of ms), length-append (encode_element m) (encode_elements ms))

pub fits_twice : (s : List ℕ) (w : Whole s) → length (export_of w.ms) ≤ 2 * length s
fits_twice s w =
    let e : length (drop 5 s) ≡ length (encode_elements w.ms) = ap length (ap (drop 5) w.is ∙ drop_record w.two w.ms) in
    omega (arith, export_small w.ms, e, length-drop 5 s)
