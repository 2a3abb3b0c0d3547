-- The bytes of a record are those of one version, one list of entries and one reading. Assumes nothing.
use mathlib.Core.Path.{◌≡◌, refl, sym, ap, ap₂, ◌∙◌}
use mathlib.Core.Bool.{Bool, true, false}
use mathlib.Core.List.{List, [], ◌∷◌, ◌++◌, head-eq_of_cons-eq, tail-eq_of_cons-eq}
use Prim.Native.Nat.{ℕ}
use native.Mathlib.Omega.{arith}
use lib.ListN.{length, drop, length-append}
use Rattle.record.specs.Grammar.{Four, four, setup, out}
use Rattle.record.specs.Segments.{Element, entry, failed_entry}
use Rattle.record.specs.Bytes.{flag_byte, encode, failed_bytes, encode_element, encode_elements}
use Rattle.record.specs.Reader.{look}
use Rattle.record.specs.declared.look.Look.TheVariants.{Failed}
use Rattle.record.specs.declared.refusal.Refusal.{Refusal}
use Rattle.std.specs.Prelude.{Option, Some, Result, Ok}
use Rattle.record.specs.declared.look.Look.{Look}
use Rattle.record.specs.Verdict.{version_number, Whole}
use Rattle.record.proofs.Decoding.{see_failed}
use Rattle.record.proofs.Verdicts.{encode_some, version_of}
use Rattle.record.proofs.Handing.{drop_record}
use Rattle.record.proofs.OneReading.{one_reading}

-- ---- an entry's bytes

same_front : (a b x y : List ℕ) → length a ≡ length b → a ++ x ≡ b ++ y → (a ≡ b) × (x ≡ y)
same_front [] [] x y e q = (refl, q)
same_front [] (v ∷ b) x y e q = absurd (omega arith)
same_front (u ∷ a) [] x y e q = absurd (omega arith)
same_front (u ∷ a) (v ∷ b) x y e q = let k = same_front a b x y (omega arith) (tail-eq_of_cons-eq q) in (ap₂ {C = List ℕ} ◌∷◌ (head-eq_of_cons-eq q) k.0, k.1)

same_bit : (b c : Bool) → flag_byte b ≡ flag_byte c → b ≡ c
same_bit true true e = refl
same_bit true false e = absurd (omega arith)
same_bit false true e = absurd (omega arith)
same_bit false false e = refl

same_setup : (a b : ℕ) (lo hi lo' hi' : Four) (p q : List ℕ) → encode (setup a lo hi) ++ p ≡ encode (setup b lo' hi') ++ q → (setup a lo hi ≡ setup b lo' hi') × (p ≡ q)
same_setup a b (four _ _ _ _) (four _ _ _ _) (four _ _ _ _) (four _ _ _ _) p q e = (cc, cc)

same_out : (a e : ℕ) (b v : Bool) (l : List ℕ) (a' e' : ℕ) (b' v' : Bool) (l' p q : List ℕ) → encode (out a e b v l) ++ p ≡ encode (out a' e' b' v' l') ++ q
    → (out a e b v l ≡ out a' e' b' v' l') × (p ≡ q)
same_out a e b v l a' e' b' v' l' p q h =
    let ha : a ≡ a' = cc in
    let he : e ≡ e' = cc in
    let hb = same_bit b b' (cc) in
    let hv = same_bit v v' (cc) in
    let k = same_front l l' p q (cc) (cc) in
    let hl = k.0 in
    (cc, k.1)

same_failed : (n m : ℕ) (p q : List ℕ) → failed_bytes n ++ p ≡ failed_bytes m ++ q → (n ≡ m) × (p ≡ q)
same_failed n m p q h = let e : ◌≡◌ {A = Result (Option Look) Refusal} (Ok (Some (Failed n))) (Ok (Some (Failed m))) = sym (see_failed n p) ∙ ap look h ∙ see_failed m q in (cc, cc)

-- Two entries whose bytes are the first of the same.
same_element : (m n : Element) (p q : List ℕ) → encode_element m ++ p ≡ encode_element n ++ q → (m ≡ n) × (p ≡ q)
same_element (entry (setup a lo hi)) (entry (setup b lo' hi')) p q h = let k = same_setup a b lo hi lo' hi' p q h in (ap entry k.0, k.1)
same_element (entry (setup a lo hi)) (entry (out b e v w l)) p q h = absurd (let z : ◌≡◌ {A = ℕ} 0x53 0x4F = head-eq_of_cons-eq h in omega arith)
same_element (entry (setup a lo hi)) (failed_entry n) p q h = absurd (let z : ◌≡◌ {A = ℕ} 0x53 0x58 = head-eq_of_cons-eq h in omega arith)
same_element (entry (out a e b v l)) (entry (setup a' lo hi)) p q h = absurd (let z : ◌≡◌ {A = ℕ} 0x4F 0x53 = head-eq_of_cons-eq h in omega arith)
same_element (entry (out a e b v l)) (entry (out a' e' b' v' l')) p q h = let k = same_out a e b v l a' e' b' v' l' p q h in (ap entry k.0, k.1)
same_element (entry (out a e b v l)) (failed_entry n) p q h = absurd (let z : ◌≡◌ {A = ℕ} 0x4F 0x58 = head-eq_of_cons-eq h in omega arith)
same_element (failed_entry n) (entry (setup a lo hi)) p q h = absurd (let z : ◌≡◌ {A = ℕ} 0x58 0x53 = head-eq_of_cons-eq h in omega arith)
same_element (failed_entry n) (entry (out a e b v l)) p q h = absurd (let z : ◌≡◌ {A = ℕ} 0x58 0x4F = head-eq_of_cons-eq h in omega arith)
same_element (failed_entry n) (failed_entry m) p q h = let k = same_failed n m p q h in (ap failed_entry k.0, k.1)

-- ---- a record's bytes

no_bytes : {A : Type 0} (m : Element) (r : List ℕ) → [] ≡ encode_element m ++ r → A
no_bytes m r h = absurd (let z = ap length h in let y = encode_some m in let x = length-append (encode_element m) r in omega arith)

same_elements : (ms ns : List Element) → encode_elements ms ≡ encode_elements ns → ms ≡ ns
unfolding encode_elements
same_elements [] [] h = refl
same_elements [] (n ∷ ns) h = no_bytes n (encode_elements ns) h
same_elements (m ∷ ms) [] h = no_bytes m (encode_elements ms) (sym h)
same_elements (m ∷ ms) (n ∷ ns) h = let k = same_element m n (encode_elements ms) (encode_elements ns) h in ap₂ {C = List Element} ◌∷◌ k.0 (same_elements ms ns k.1)

same_version : (b c : Bool) → version_number b ≡ version_number c → b ≡ c
same_version true true e = refl
same_version true false e = absurd (omega arith)
same_version false true e = absurd (omega arith)
same_version false false e = refl

pub one_capture : (s : List ℕ) (v w : Whole s)
    → (v.two ≡ w.two) × (v.ms ≡ w.ms) × (v.reads.reading.segments ≡ w.reads.reading.segments) × (v.reads.reading.last ≡ w.reads.reading.last)
one_capture s v w =
    let h = same_version v.two w.two (sym (version_of s v.two v.ms v.is) ∙ version_of s w.two w.ms w.is) in
    let e = same_elements v.ms w.ms (sym (drop_record v.two v.ms) ∙ ap (λ (l : List ℕ). drop 5 l) (sym v.is ∙ w.is) ∙ drop_record w.two w.ms) in
    let r = v.reads.reading in
    let t = w.reads.reading in
    let k = one_reading r.segments t.segments r.last t.last r.segments_fit t.segments_fit r.last_fit t.last_fit (r.is ∙ e ∙ sym t.is) in
    (h, e, k.0, k.1)
