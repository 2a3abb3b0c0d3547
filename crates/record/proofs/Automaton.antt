-- The reader's automaton takes exactly the records of the grammar, refuses where no grammatical end is possible, and counts the items.
-- Assumes nothing.
use Rattle.std.specs.Prelude.{None, Option, Some}
use mathlib.Core.Path.{◌≡◌, refl, sym, ap, ◌∙◌, subst}
use mathlib.Core.Logic.{◌⊎◌, inl, inr}
use mathlib.Core.Bool.{Bool, true, false, not, ◌&&◌, ◌||◌, beq, false≢true, or-true}
use mathlib.Core.List.{List, [], ◌∷◌, ◌++◌, append-nil, head-eq_of_cons-eq, tail-eq_of_cons-eq}
use Prim.Native.Nat.{ℕ, zero, suc, ◌+◌, ◌-◌, ◌≤◌, ◌<◌}
use native.Mathlib.Omega.{arith}
use lib.ListN.{length, length-append, replicate, length-replicate}
use lib.Dec.{eqb, leb, ltb}
use borrow.Author.Tests.{eqb-true, eqb-false, leb-true, leb-false, ltb-true, eq-eqb, ne_eqb, le-leb, lt-ltb}
use Rattle.pool.proofs.Cases.{by_cases}
use Rattle.record.specs.Grammar.{Four, Entry, setup, out, w_length_in, Bytes, FourBytes, group, group_bytes, AllOf, Sizes, Sent, Part, bulk_part, control_part, sent_entries, SentFits, AllFit, parts_entries, PlainReading, four, no_group, one_group}
use Rattle.record.specs.Scan.{guard, bulk_start, control_start, bulk_next, control_next, feed, feed_all, starts, count_all, Ends, InRange, AllInRange}
use Rattle.record.specs.declared.scan.Scan.{Scan}
use Rattle.record.specs.declared.scan.Scan.TheVariants.{Between as between, AfterSetup as after_setup, InBulk as in_bulk, InControl as in_control_of}
use Rattle.record.proofs.Both.{and_left, and_right}

-- ---- what may still come in a state

record BulkTail (a e : ℕ) (q : Bool) (p t : ℕ) (r : List Entry) : Type 0 where
  xs : List (List ℕ)
  l : List ℕ
  after : List Entry
  full : AllOf p xs
  short : length l ≤ p
  total : t + length (group_bytes xs l) ≤ 65535
  are : Bytes (group_bytes xs l)
  rest : PlainReading after
  is : group a e q xs l ++ after ≡ r

record ControlTail (a : ℕ) (wl : ℕ) (q : Bool) (p t : ℕ) (r : List Entry) : Type 0 where
  xs : List (List ℕ)
  l : List ℕ
  after : List Entry
  full : AllOf p xs
  short : length l ≤ p
  some_last : 1 ≤ length l
  total : t + length (group_bytes xs l) ≡ wl
  are : Bytes (group_bytes xs l)
  rest : PlainReading after
  is : group a 0 q xs l ++ after ≡ r

-- What follows a SETUP of wLength wl.
abbrev SentOf : ℕ → Sent → Type 0
SentOf wl no_group = Unit {0}
SentOf wl (one_group xs l) = ((xs ≡ []) × (l ≡ [])) ⊎ (Sizes xs l × (length (group_bytes xs l) ≡ wl) × (1 ≤ length l))

to_fits : (hi : Four) (s : Sent) → SentOf (w_length_in hi) s → SentFits hi s
to_fits hi no_group f = f
to_fits hi (one_group xs l) (inl f) = inl f
to_fits hi (one_group xs l) (inr f) = inr (f.0, omega (arith, f.1), f.2)

of_fits : (hi : Four) (s : Sent) → SentFits hi s → SentOf (w_length_in hi) s
of_fits hi no_group f = f
of_fits hi (one_group xs l) (inl f) = inl f
of_fits hi (one_group xs l) (inr f) = inr (f.0, omega (arith, f.1), f.2)

record SetupTail (a : ℕ) (wl : ℕ) (r : List Entry) : Type 0 where
  s : Sent
  fits : SentOf wl s
  after : List Entry
  rest : PlainReading after
  is : sent_entries a s ++ after ≡ r

abbrev Lang : Scan → List Entry → Type 0
Lang between r = PlainReading r
Lang (after_setup a wl) r = SetupTail a wl r
Lang (in_bulk a e q p t) r = BulkTail a e q p t r
Lang (in_control_of a wl q p t) r = ControlTail a wl q p t r

-- How many items are still to begin.
abbrev due : (s : Scan) (r : List Entry) → Lang s r → ℕ
due between r k = length k.parts
due (after_setup a wl) r k = length k.rest.parts
due (in_bulk a e q p t) r k = length k.rest.parts
due (in_control_of a wl q p t) r k = length k.rest.parts

-- The states that are met: numbers in range.
abbrev Met : Scan → Type 0
Met between = Unit {0}
Met (after_setup a wl) = (a ≤ 127) × (wl ≤ 65535)
Met (in_bulk a e q p t) = (a ≤ 127) × (1 ≤ e) × (e ≤ 15) × (1 ≤ p) × (p ≤ 64) × (t ≤ 65535)
Met (in_control_of a wl q p t) = (a ≤ 127) × (1 ≤ p) × (p ≤ 64) × (t < wl) × (wl ≤ 65535)

none_entry : {A : Type 0} (e : Entry) (r : List Entry) → [] ≡ e ∷ r → A
none_entry e r q = absurd (let z : ◌≡◌ {A = ℕ} 0 1 = cc in omega arith)

guard_some : (b : Bool) (s s' : Scan) → guard b s ≡ Some s' → (b ≡ true) × (s ≡ s')
guard_some true s s' e = (refl, cc)
guard_some false s s' e = absurd (let z : ◌≡◌ {A = ℕ} 0 1 = cc in omega arith)

bytes_append : (a b : List ℕ) → Bytes a → Bytes b → Bytes (a ++ b)
bytes_append [] b p q = q
bytes_append (x ∷ a) b p q = (p.0, bytes_append a b p.1 q)

bytes_right : (a b : List ℕ) → Bytes (a ++ b) → Bytes b
bytes_right [] b h = h
bytes_right (x ∷ a) b h = bytes_right a b h.1

beq_true : (a b : Bool) → beq a b ≡ true → a ≡ b
beq_true true true e = refl
beq_true true false e = absurd (false≢true e)
beq_true false true e = absurd (false≢true e)
beq_true false false e = refl

beq_refl : (b : Bool) → beq b b ≡ true
beq_refl true = refl
beq_refl false = refl

-- ---- soundness, entry by entry

one_group_lem : (a e : ℕ) (b : Bool) (l : List ℕ) (r : List Entry) → a ≤ 127 → 1 ≤ e → e ≤ 15 → length l ≤ 64 → Bytes l → PlainReading r → PlainReading (out a e b true l ∷ r)
one_group_lem a e b l r ha he hf hl hb k = record {
  parts = bulk_part a e b [] l ∷ k.parts;
  fit = ((ha, he, hf, record { p = 64; low = omega arith; high = omega arith; full = tt; short = hl; total = omega arith; are = hb }), k.fit);
  is = ap (λ (s : List Entry). out a e b true l ∷ s) k.is;
}

more_group : (a e : ℕ) (b : Bool) (x : List ℕ) (r : List Entry) → a ≤ 127 → 1 ≤ e → e ≤ 15 → 1 ≤ length x → length x ≤ 64 → Bytes x → BulkTail a e (not b) (length x) (length x) r → PlainReading (out a e b false x ∷ r)
more_group a e b x r ha he hf lo hi hb k =
    let n = length-append x (group_bytes k.xs k.l) in
    record {
      parts = bulk_part a e b (x ∷ k.xs) k.l ∷ k.rest.parts;
      fit = ((ha, he, hf, record { p = length x; low = lo; high = hi; full = (refl, k.full); short = k.short; total = let t = k.total in omega arith; are = bytes_append x (group_bytes k.xs k.l) hb k.are }), k.rest.fit);
      is = ap (λ (s : List Entry). out a e b false x ∷ (group a e (not b) k.xs k.l ++ s)) k.rest.is ∙ ap (λ (s : List Entry). out a e b false x ∷ s) k.is;
    }

setup_part : (a : ℕ) (lo hi : Four) (r : List Entry) → a ≤ 127 → FourBytes lo → FourBytes hi → SetupTail a (w_length_in hi) r → PlainReading (setup a lo hi ∷ r)
setup_part a lo hi r ha hl hh k = record {
  parts = control_part a lo hi k.s ∷ k.rest.parts;
  fit = ((ha, hl, hh, to_fits hi k.s k.fits), k.rest.fit);
  is = ap (λ (s : List Entry). setup a lo hi ∷ (sent_entries a k.s ++ s)) k.rest.is ∙ ap (λ (s : List Entry). setup a lo hi ∷ s) k.is;
}

nil_of : (l : List ℕ) → length l ≡ 0 → l ≡ []
nil_of [] e = refl
nil_of (x ∷ l) e = absurd (omega arith)

bulk_start_sound : (a e : ℕ) (b last : Bool) (l : List ℕ) (r : List Entry) (s' : Scan) → InRange (out a e b last l) → bulk_start a e b last (length l) ≡ Some s' → Lang s' r → PlainReading (out a e b last l ∷ r)
bulk_start_sound a e b true l r s' h q k =
    let g = guard_some (leb 1 e) between s' q in
    one_group_lem a e b l r h.0 (leb-true 1 e g.0) h.1 h.2 h.3 (subst (λ (v : Scan). Lang v r) (sym g.1) k)
bulk_start_sound a e b false l r s' h q k =
    let g = guard_some (leb 1 e && leb 1 (length l)) (in_bulk a e (not b) (length l) (length l)) s' q in
    more_group a e b l r h.0 (leb-true 1 e (and_left (leb 1 e) (leb 1 (length l)) g.0)) h.1 (leb-true 1 (length l) (and_right (leb 1 e) (leb 1 (length l)) g.0)) h.2 h.3 (subst (λ (v : Scan). Lang v r) (sym g.1) k)

one_fits : (wl : ℕ) (l : List ℕ) → length l ≤ 64 → Bytes l → (eqb (length l) 0 || eqb (length l) wl) ≡ true → SentOf wl (one_group [] l)
one_fits wl l h hb e = by_cases (eqb (length l) 0)
    (λ (q : eqb (length l) 0 ≡ true). inl (refl, nil_of l (eqb-true (length l) 0 q)))
    (λ (q : eqb (length l) 0 ≡ false).
    let u : eqb (length l) wl ≡ true = rw q at e in
    let w : length l ≡ wl = eqb-true (length l) wl u in
    let z : length l ≡ 0 → ⊥ = eqb-false (length l) 0 q in
    inr (record { p = 64; low = omega arith; high = omega arith; full = tt; short = h; total = omega arith; are = hb }, w, pos (length l) z))
  where
    pos : (n : ℕ) → (n ≡ 0 → ⊥) → 1 ≤ n
    pos zero z = absurd (z refl)
    pos (suc n) z = omega arith

control_start_sound : (a : ℕ) (wl : ℕ) (a' : ℕ) (b last : Bool) (l : List ℕ) (r : List Entry) (s' : Scan) → wl ≤ 65535 → InRange (out a' 0 b last l) → control_start a wl a' b last (length l) ≡ Some s' → Lang s' r → SetupTail a wl (out a' 0 b last l ∷ r)
control_start_sound a wl a' b true l r s' w h q k =
    let n = length l in
    let t₂ = eqb n 0 || eqb n wl in
    let g = guard_some (eqb a' a && (b && t₂)) between s' q in
    let ea : a ≡ a' = sym (eqb-true a' a (and_left (eqb a' a) (b && t₂) g.0)) in
    let c = and_right (eqb a' a) (b && t₂) g.0 in
    let eb : true ≡ b = sym (and_left b t₂ c) in
    record { s = one_group [] l; fits = one_fits wl l h.2 h.3 (and_right b t₂ c); after = r; rest = subst (λ (v : Scan). Lang v r) (sym g.1) k; is = λ i. out (ea i) 0 (eb i) true l ∷ r }
control_start_sound a wl a' b false l r s' w h q k =
    let n = length l in
    let t₂ = leb 1 n && ltb n wl in
    let g = guard_some (eqb a' a && (b && t₂)) (in_control_of a wl false n n) s' q in
    let ea : a ≡ a' = sym (eqb-true a' a (and_left (eqb a' a) (b && t₂) g.0)) in
    let c = and_right (eqb a' a) (b && t₂) g.0 in
    let eb : true ≡ b = sym (and_left b t₂ c) in
    let lo : 1 ≤ n = leb-true 1 n (and_left (leb 1 n) (ltb n wl) (and_right b t₂ c)) in
    let u : ControlTail a wl false n n r = subst (λ (v : Scan). Lang v r) (sym g.1) k in
    let m : length (l ++ group_bytes u.xs u.l) ≡ n + length (group_bytes u.xs u.l) = length-append l (group_bytes u.xs u.l) in
    record {
      s = one_group (l ∷ u.xs) u.l;
      fits = inr (record { p = n; low = lo; high = h.2; full = (refl, u.full); short = u.short; total = let z = u.total in omega arith; are = bytes_append l (group_bytes u.xs u.l) h.3 u.are }, m ∙ u.total, u.some_last);
      after = u.after;
      rest = u.rest;
      is = (λ i. out (ea i) 0 (eb i) false l ∷ (group a 0 false u.xs u.l ++ u.after)) ∙ ap (λ (s : List Entry). out a' 0 b false l ∷ s) u.is;
    }

bulk_next_sound : (a e : ℕ) (q : Bool) (p t a' e' : ℕ) (b last : Bool) (l : List ℕ) (r : List Entry) (s' : Scan) → InRange (out a' e' b last l) → bulk_next a e q p t a' e' b last (length l) ≡ Some s' → Lang s' r → BulkTail a e q p t (out a' e' b last l ∷ r)
bulk_next_sound a e q p t a' e' b true l r s' h g k =
    let n = length l in
    let t₄ = leb n p && leb (t + n) 65535 in
    let t₃ = beq b q && t₄ in
    let t₂ = eqb e' e && t₃ in
    let j = guard_some (eqb a' a && t₂) between s' g in
    let ea : a ≡ a' = sym (eqb-true a' a (and_left (eqb a' a) t₂ j.0)) in
    let c₂ = and_right (eqb a' a) t₂ j.0 in
    let ee : e ≡ e' = sym (eqb-true e' e (and_left (eqb e' e) t₃ c₂)) in
    let c₃ = and_right (eqb e' e) t₃ c₂ in
    let eb : q ≡ b = sym (beq_true b q (and_left (beq b q) t₄ c₃)) in
    let c₄ = and_right (beq b q) t₄ c₃ in
    record {
      xs = [];
      l = l;
      after = r;
      full = tt;
      short = leb-true n p (and_left (leb n p) (leb (t + n) 65535) c₄);
      total = leb-true (t + n) 65535 (and_right (leb n p) (leb (t + n) 65535) c₄);
      are = h.3;
      rest = subst (λ (v : Scan). Lang v r) (sym j.1) k;
      is = λ i. out (ea i) (ee i) (eb i) true l ∷ r;
    }
bulk_next_sound a e q p t a' e' b false l r s' h g k =
    let n = length l in
    let t₄ = eqb n p && leb (t + n) 65535 in
    let t₃ = beq b q && t₄ in
    let t₂ = eqb e' e && t₃ in
    let j = guard_some (eqb a' a && t₂) (in_bulk a e (not q) p (t + n)) s' g in
    let ea : a ≡ a' = sym (eqb-true a' a (and_left (eqb a' a) t₂ j.0)) in
    let c₂ = and_right (eqb a' a) t₂ j.0 in
    let ee : e ≡ e' = sym (eqb-true e' e (and_left (eqb e' e) t₃ c₂)) in
    let c₃ = and_right (eqb e' e) t₃ c₂ in
    let eb : q ≡ b = sym (beq_true b q (and_left (beq b q) t₄ c₃)) in
    let c₄ = and_right (beq b q) t₄ c₃ in
    let u : BulkTail a e (not q) p (t + n) r = subst (λ (v : Scan). Lang v r) (sym j.1) k in
    let m = length-append l (group_bytes u.xs u.l) in
    record {
      xs = l ∷ u.xs;
      l = u.l;
      after = u.after;
      full = (eqb-true n p (and_left (eqb n p) (leb (t + n) 65535) c₄), u.full);
      short = u.short;
      total = let z = u.total in omega arith;
      are = bytes_append l (group_bytes u.xs u.l) h.3 u.are;
      rest = u.rest;
      is = (λ i. out (ea i) (ee i) (eb i) false l ∷ (group a e (not q) u.xs u.l ++ u.after)) ∙ ap (λ (s : List Entry). out a' e' b false l ∷ s) u.is;
    }

control_next_sound : (a : ℕ) (wl : ℕ) (q : Bool) (p t a' e' : ℕ) (b last : Bool) (l : List ℕ) (r : List Entry) (s' : Scan) → InRange (out a' e' b last l) → control_next a wl q p t a' e' b last (length l) ≡ Some s' → Lang s' r → ControlTail a wl q p t (out a' e' b last l ∷ r)
control_next_sound a wl q p t a' e' b true l r s' h g k =
    let n = length l in
    let t₅ = leb n p && eqb (t + n) wl in
    let t₄ = leb 1 n && t₅ in
    let t₃ = beq b q && t₄ in
    let t₂ = eqb e' 0 && t₃ in
    let j = guard_some (eqb a' a && t₂) between s' g in
    let ea : a ≡ a' = sym (eqb-true a' a (and_left (eqb a' a) t₂ j.0)) in
    let c₂ = and_right (eqb a' a) t₂ j.0 in
    let ee : 0 ≡ e' = sym (eqb-true e' 0 (and_left (eqb e' 0) t₃ c₂)) in
    let c₃ = and_right (eqb e' 0) t₃ c₂ in
    let eb : q ≡ b = sym (beq_true b q (and_left (beq b q) t₄ c₃)) in
    let c₄ = and_right (beq b q) t₄ c₃ in
    let c₅ = and_right (leb 1 n) t₅ c₄ in
    record {
      xs = [];
      l = l;
      after = r;
      full = tt;
      short = leb-true n p (and_left (leb n p) (eqb (t + n) wl) c₅);
      some_last = leb-true 1 n (and_left (leb 1 n) t₅ c₄);
      total = eqb-true (t + n) wl (and_right (leb n p) (eqb (t + n) wl) c₅);
      are = h.3;
      rest = subst (λ (v : Scan). Lang v r) (sym j.1) k;
      is = λ i. out (ea i) (ee i) (eb i) true l ∷ r;
    }
control_next_sound a wl q p t a' e' b false l r s' h g k =
    let n = length l in
    let t₄ = eqb n p && ltb (t + n) wl in
    let t₃ = beq b q && t₄ in
    let t₂ = eqb e' 0 && t₃ in
    let j = guard_some (eqb a' a && t₂) (in_control_of a wl (not q) p (t + n)) s' g in
    let ea : a ≡ a' = sym (eqb-true a' a (and_left (eqb a' a) t₂ j.0)) in
    let c₂ = and_right (eqb a' a) t₂ j.0 in
    let ee : 0 ≡ e' = sym (eqb-true e' 0 (and_left (eqb e' 0) t₃ c₂)) in
    let c₃ = and_right (eqb e' 0) t₃ c₂ in
    let eb : q ≡ b = sym (beq_true b q (and_left (beq b q) t₄ c₃)) in
    let c₄ = and_right (beq b q) t₄ c₃ in
    let u : ControlTail a wl (not q) p (t + n) r = subst (λ (v : Scan). Lang v r) (sym j.1) k in
    let m = length-append l (group_bytes u.xs u.l) in
    record {
      xs = l ∷ u.xs;
      l = u.l;
      after = u.after;
      full = (eqb-true n p (and_left (eqb n p) (ltb (t + n) wl) c₄), u.full);
      short = u.short;
      some_last = u.some_last;
      total = let z = u.total in omega arith;
      are = bytes_append l (group_bytes u.xs u.l) h.3 u.are;
      rest = u.rest;
      is = (λ i. out (ea i) (ee i) (eb i) false l ∷ (group a 0 (not q) u.xs u.l ++ u.after)) ∙ ap (λ (s : List Entry). out a' e' b false l ∷ s) u.is;
    }

-- Nothing of the control comes first: the list begins another part.
no_sent : (a : ℕ) (wl : ℕ) (r : List Entry) → PlainReading r → SetupTail a wl r
no_sent a wl r k = record { s = no_group; fits = tt; after = r; rest = k; is = refl }

-- wLength of bytes.
length_small : (hi : Four) → FourBytes hi → w_length_in hi ≤ 65535
length_small (four a b c d) h = omega arith

abbrev Small : Scan → Type 0
Small between = Unit {0}
Small (after_setup a wl) = (wl ≤ 65535)
Small (in_bulk a e q p t) = Unit {0}
Small (in_control_of a wl q p t) = Unit {0}

sound : (s s' : Scan) (e : Entry) (r : List Entry) → Small s → InRange e → feed s e ≡ Some s' → Lang s' r → Lang s (e ∷ r)
sound between s' (setup a lo hi) r m h q k = setup_part a lo hi r h.0 h.1 h.2 (subst (λ (v : Scan). Lang v r) (sym (let z : after_setup a (w_length_in hi) ≡ s' = cc in z)) k)
sound between s' (out a e b last l) r m h q k = bulk_start_sound a e b last l r s' h q k
sound (after_setup a wl) s' (setup a' lo hi') r m h q k = no_sent a wl (setup a' lo hi' ∷ r) (setup_part a' lo hi' r h.0 h.1 h.2 (subst (λ (v : Scan). Lang v r) (sym (let z : after_setup a' (w_length_in hi') ≡ s' = cc in z)) k))
sound (after_setup a wl) s' (out a' e b last l) r m h q k = by_cases (eqb e 0)
    (λ (z : eqb e 0 ≡ true).
    let u : 0 ≡ e = sym (eqb-true e 0 z) in
    let g : control_start a wl a' b last (length l) ≡ Some s' = rw z at q in
    subst (λ (v : ℕ). SetupTail a wl (out a' v b last l ∷ r)) u (control_start_sound a wl a' b last l r s' m (h.0, omega arith, h.2, h.3) g k))
    (λ (z : eqb e 0 ≡ false). no_sent a wl (out a' e b last l ∷ r) (bulk_start_sound a' e b last l r s' h (rw z at q) k))
sound (in_bulk a e q p t) s' (setup a' lo hi) r m h g k = absurd (let z : ◌≡◌ {A = ℕ} 0 1 = cc in omega arith)
sound (in_bulk a e q p t) s' (out a' e' b last l) r m h g k = bulk_next_sound a e q p t a' e' b last l r s' h g k
sound (in_control_of a wl q p t) s' (setup a' lo hi') r m h g k = absurd (let z : ◌≡◌ {A = ℕ} 0 1 = cc in omega arith)
sound (in_control_of a wl q p t) s' (out a' e' b last l) r m h g k = control_next_sound a wl q p t a' e' b last l r s' h g k

-- ---- completeness, entry by entry

longer : (xs : List (List ℕ)) (l : List ℕ) → length l ≤ length (group_bytes xs l)
longer [] l = omega arith
longer (x ∷ xs) l = let h = longer xs l in let e = length-append x (group_bytes xs l) in omega arith

record Step (s : Scan) (e : Entry) (r : List Entry) (n : ℕ) : Type 0 where
  next : Scan
  fed : feed s e ≡ Some next
  lang : Lang next r
  counted : starts s e + due next r lang ≡ n

step_at : (s : Scan) (n : ℕ) (e e' : Entry) (r r' : List Entry) → e ∷ r ≡ e' ∷ r' → Step s e r n → Step s e' r' n
step_at s n e e' r r' q k = subst (λ (v : Entry). Step s v r' n) (head-eq_of_cons-eq q) (subst (λ (v : List Entry). Step s e v n) (tail-eq_of_cons-eq q) k)

eqb_self : (n : ℕ) → eqb n n ≡ true
eqb_self n = eq-eqb n n refl

all_of : (p n : ℕ) (xs : List (List ℕ)) → n ≡ p → AllOf p xs → AllOf n xs
all_of p n xs e h = subst (λ (k : ℕ). AllOf k xs) (sym e) h

abbrev read_of : (ps : List Part) → AllFit ps → PlainReading (parts_entries ps)
read_of ps h = record { parts = ps; fit = h; is = refl }

between_parts : (ps : List Part) (e : Entry) (r : List Entry) → AllFit ps → parts_entries ps ≡ e ∷ r → Step between e r (length ps)
between_parts [] e r h q = none_entry e r q
between_parts (bulk_part a n b [] l ∷ ps) e r h q =
    step_at between (suc (length ps)) (out a n b true l) e (parts_entries ps) r q (record { next = between; fed = rw (le-leb 1 n h.0.1); lang = read_of ps h.1; counted = omega arith })
between_parts (bulk_part a n b (x ∷ xs) l ∷ ps) e r h q =
    let z = h.0.3 in
    let u : length x ≡ z.p = z.full.0 in
    let lo : 1 ≤ length x = let v = z.low in omega arith in
    let m = length-append x (group_bytes xs l) in
    step_at between (suc (length ps)) (out a n b false x) e (group a n (not b) xs l ++ parts_entries ps) r q (record {
      next = in_bulk a n (not b) (length x) (length x);
      fed = rw (le-leb 1 n h.0.1, le-leb 1 (length x) lo);
      lang = record {
        xs = xs;
        l = l;
        after = parts_entries ps;
        full = all_of z.p (length x) xs u z.full.1;
        short = let v = z.short in omega arith;
        total = let v = z.total in omega arith;
        are = bytes_right x (group_bytes xs l) z.are;
        rest = read_of ps h.1;
        is = refl;
      };
      counted = omega arith;
    })
between_parts (control_part a lo hi s ∷ ps) e r h q =
    step_at between (suc (length ps)) (setup a lo hi) e (sent_entries a s ++ parts_entries ps) r q (record { next = after_setup a (w_length_in hi); fed = refl; lang = record { s = s; fits = of_fits hi s h.0.3; after = parts_entries ps; rest = read_of ps h.1; is = refl }; counted = omega arith })

-- What begins a part is taken after a SETUP too.
later : (a : ℕ) (wl : ℕ) (e : Entry) (s' : Scan) → feed between e ≡ Some s' → feed (after_setup a wl) e ≡ Some s'
later a wl (setup a' lo hi') s' q = q
later a wl (out a' n b true l) s' q =
    let g = leb-true 1 n (guard_some (leb 1 n) between s' q).0 in
    rw (ne_eqb n 0 (λ (z : n ≡ 0). omega arith)) q
later a wl (out a' n b false l) s' q =
    let g = leb-true 1 n (and_left (leb 1 n) (leb 1 (length l)) (guard_some (leb 1 n && leb 1 (length l)) (in_bulk a' n (not b) (length l) (length l)) s' q).0) in
    rw (ne_eqb n 0 (λ (z : n ≡ 0). omega arith)) q

later_starts : (a : ℕ) (wl : ℕ) (e : Entry) (s' : Scan) → feed between e ≡ Some s' → starts (after_setup a wl) e ≡ starts between e
later_starts a wl (setup a' lo hi) s' q = refl
later_starts a wl (out a' n b true l) s' q =
    let g = leb-true 1 n (guard_some (leb 1 n) between s' q).0 in
    rw (ne_eqb n 0 (λ (z : n ≡ 0). omega arith))
later_starts a wl (out a' n b false l) s' q =
    let g = leb-true 1 n (and_left (leb 1 n) (leb 1 (length l)) (guard_some (leb 1 n && leb 1 (length l)) (in_bulk a' n (not b) (length l) (length l)) s' q).0) in
    rw (ne_eqb n 0 (λ (z : n ≡ 0). omega arith))

last_taken : (wl : ℕ) (l : List ℕ) → SentOf wl (one_group [] l) → (eqb (length l) 0 || eqb (length l) wl) ≡ true
last_taken wl l (inl h) = subst (λ (v : List ℕ). (eqb (length v) 0 || eqb (length v) wl) ≡ true) (sym h.1) refl
last_taken wl l (inr h) = rw (eq-eqb (length l) wl h.1) (or-true (eqb (length l) 0))

cons_none : {A : Type 0} (x : List ℕ) (xs : List (List ℕ)) → x ∷ xs ≡ [] → A
cons_none x xs q = absurd (let z : ◌≡◌ {A = ℕ} 0 1 = cc in omega arith)

after_setup_lem : (a : ℕ) (wl : ℕ) (s : Sent) (after : List Entry) (e : Entry) (r : List Entry) → SentOf wl s → (k : PlainReading after) → sent_entries a s ++ after ≡ e ∷ r → Step (after_setup a wl) e r (length k.parts)
after_setup_lem a wl no_group after e r f k q =
    let st = between_parts k.parts e r k.fit (k.is ∙ q) in
    record { next = st.next; fed = later a wl e st.next st.fed; lang = st.lang; counted = ap (λ (n : ℕ). n + due st.next r st.lang) (later_starts a wl e st.next st.fed) ∙ st.counted }
after_setup_lem a wl (one_group [] l) after e r f k q =
    step_at (after_setup a wl) (length k.parts) (out a 0 true true l) e after r q (record { next = between; fed = rw (eqb_self a, last_taken wl l f); lang = k; counted = omega arith })
after_setup_lem a wl (one_group (x ∷ xs) l) after e r (inl f) k q = cons_none x xs f.0
after_setup_lem a wl (one_group (x ∷ xs) l) after e r (inr f) k q =
    let z = f.0 in
    let u : length x ≡ z.p = z.full.0 in
    let lo : 1 ≤ length x = let v = z.low in omega arith in
    let m = length-append x (group_bytes xs l) in
    let w = f.1 in
    let ll = longer xs l in
    let up : length x < wl = let v = f.2 in omega arith in
    step_at (after_setup a wl) (length k.parts) (out a 0 true false x) e (group a 0 false xs l ++ after) r q (record {
      next = in_control_of a wl false (length x) (length x);
      fed = rw (eqb_self a, le-leb 1 (length x) lo, lt-ltb (length x) wl up);
      lang = record {
        xs = xs;
        l = l;
        after = after;
        full = all_of z.p (length x) xs u z.full.1;
        short = let v = z.short in omega arith;
        some_last = f.2;
        total = sym m ∙ w;
        are = bytes_right x (group_bytes xs l) z.are;
        rest = k;
        is = refl;
      };
      counted = omega arith;
    })

in_bulk_lem : (a n : ℕ) (v : Bool) (p t : ℕ) (xs : List (List ℕ)) (l : List ℕ) (after : List Entry) (e : Entry) (r : List Entry)
    → AllOf p xs → length l ≤ p → t + length (group_bytes xs l) ≤ 65535 → Bytes (group_bytes xs l) → (k : PlainReading after) → group a n v xs l ++ after ≡ e ∷ r → Step (in_bulk a n v p t) e r (length k.parts)
in_bulk_lem a n v p t [] l after e r f s tot by k q =
    step_at (in_bulk a n v p t) (length k.parts) (out a n v true l) e after r q (record { next = between; fed = rw (eqb_self a, eqb_self n, beq_refl v, le-leb (length l) p s, le-leb (t + length l) 65535 tot); lang = k; counted = omega arith })
in_bulk_lem a n v p t (x ∷ xs) l after e r f s tot by k q =
    let m = length-append x (group_bytes xs l) in
    let u : t + length x ≤ 65535 = omega arith in
    step_at (in_bulk a n v p t) (length k.parts) (out a n v false x) e (group a n (not v) xs l ++ after) r q (record {
      next = in_bulk a n (not v) p (t + length x);
      fed = rw (eqb_self a, eqb_self n, beq_refl v, eq-eqb (length x) p f.0, le-leb (t + length x) 65535 u);
      lang = record { xs = xs; l = l; after = after; full = f.1; short = s; total = omega arith; are = bytes_right x (group_bytes xs l) by; rest = k; is = refl };
      counted = omega arith;
    })

in_control : (a : ℕ) (wl : ℕ) (v : Bool) (p t : ℕ) (xs : List (List ℕ)) (l : List ℕ) (after : List Entry) (e : Entry) (r : List Entry)
    → AllOf p xs → length l ≤ p → 1 ≤ length l → t + length (group_bytes xs l) ≡ wl → Bytes (group_bytes xs l) → (k : PlainReading after) → group a 0 v xs l ++ after ≡ e ∷ r → Step (in_control_of a wl v p t) e r (length k.parts)
in_control a wl v p t [] l after e r f s o tot by k q =
    step_at (in_control_of a wl v p t) (length k.parts) (out a 0 v true l) e after r q (record { next = between; fed = rw (eqb_self a, beq_refl v, le-leb 1 (length l) o, le-leb (length l) p s, eq-eqb (t + length l) wl tot); lang = k; counted = omega arith })
in_control a wl v p t (x ∷ xs) l after e r f s o tot by k q =
    let m = length-append x (group_bytes xs l) in
    let ll = longer xs l in
    let u : t + length x < wl = omega arith in
    step_at (in_control_of a wl v p t) (length k.parts) (out a 0 v false x) e (group a 0 (not v) xs l ++ after) r q (record {
      next = in_control_of a wl (not v) p (t + length x);
      fed = rw (eqb_self a, beq_refl v, eq-eqb (length x) p f.0, lt-ltb (t + length x) wl u);
      lang = record { xs = xs; l = l; after = after; full = f.1; short = s; some_last = o; total = let w : (t + length x) + length (group_bytes xs l) ≡ t + length (x ++ group_bytes xs l) = omega arith in w ∙ tot; are = bytes_right x (group_bytes xs l) by; rest = k; is = refl };
      counted = omega arith;
    })

complete : (s : Scan) (e : Entry) (r : List Entry) (k : Lang s (e ∷ r)) → Step s e r (due s (e ∷ r) k)
complete between e r k = between_parts k.parts e r k.fit k.is
complete (after_setup a wl) e r k = after_setup_lem a wl k.s k.after e r k.fits k.rest k.is
complete (in_bulk a n v p t) e r k = in_bulk_lem a n v p t k.xs k.l k.after e r k.full k.short k.total k.are k.rest k.is
complete (in_control_of a wl v p t) e r k = in_control a wl v p t k.xs k.l k.after e r k.full k.short k.some_last k.total k.are k.rest k.is

-- ---- whole records

no_group_of : {A : Type 0} (a n : ℕ) (v : Bool) (xs : List (List ℕ)) (l : List ℕ) (after : List Entry) → group a n v xs l ++ after ≡ [] → A
no_group_of a n v [] l after q = none_entry (out a n v true l) after (sym q)
no_group_of a n v (x ∷ xs) l after q = none_entry (out a n v false x) (group a n (not v) xs l ++ after) (sym q)

no_parts : (ps : List Part) → parts_entries ps ≡ [] → length ps ≡ 0
no_parts [] q = refl
no_parts (bulk_part a e b xs l ∷ ps) q = no_group_of a e b xs l (parts_entries ps) q
no_parts (control_part a lo hi s ∷ ps) q = none_entry (setup a lo hi) (sent_entries a s ++ parts_entries ps) (sym q)

none_sent : (a wl : ℕ) (s : Sent) (after : List Entry) (k : PlainReading after) → sent_entries a s ++ after ≡ [] → length k.parts ≡ 0
none_sent a wl no_group after k q = no_parts k.parts (k.is ∙ q)
none_sent a wl (one_group xs l) after k q = no_group_of a 0 true xs l after q

-- What may come is taken to its end, and its items are counted.
record Takes (s : Scan) (r : List Entry) (n : ℕ) : Type 0 where
  ends : Ends (feed_all (Some s) r)
  count : count_all (Some s) r ≡ n

takes : (r : List Entry) (s : Scan) (k : Lang s r) → Takes s r (due s r k)
takes [] between k = record { ends = tt; count = sym (no_parts k.parts k.is) }
takes [] (after_setup a wl) k = record { ends = tt; count = sym (none_sent a wl k.s k.after k.rest k.is) }
takes [] (in_bulk a n v p t) k = no_group_of a n v k.xs k.l k.after k.is
takes [] (in_control_of a wl v p t) k = no_group_of a 0 v k.xs k.l k.after k.is
takes (e ∷ r) s k =
    let st = complete s e r k in
    let z = takes r st.next st.lang in
    record { ends = rw st.fed z.ends; count = rw st.fed (ap (λ (n : ℕ). starts s e + n) z.count ∙ st.counted) }

small_of : (s : Scan) → Met s → Small s
small_of between m = tt
small_of (after_setup a wl) m = m.1
small_of (in_bulk a e q p t) m = tt
small_of (in_control_of a wl q p t) m = tt

guard_met : (b : Bool) (s s' : Scan) → (b ≡ true → Met s) → guard b s ≡ Some s' → Met s'
guard_met b s s' h q = let g = guard_some b s s' q in subst Met g.1 (h g.0)

bulk_start_met : (a e : ℕ) (b last : Bool) (l : List ℕ) (s' : Scan) → InRange (out a e b last l) → bulk_start a e b last (length l) ≡ Some s' → Met s'
bulk_start_met a e b true l s' h q = guard_met (leb 1 e) between s' (λ g. tt) q
bulk_start_met a e b false l s' h q = guard_met (leb 1 e && leb 1 (length l)) (in_bulk a e (not b) (length l) (length l)) s'
    (λ (g : (leb 1 e && leb 1 (length l)) ≡ true). (h.0, leb-true 1 e (and_left (leb 1 e) (leb 1 (length l)) g), h.1, leb-true 1 (length l) (and_right (leb 1 e) (leb 1 (length l)) g), h.2, (let v = h.2 in omega arith))) q

met_next : (s s' : Scan) (e : Entry) → Met s → InRange e → feed s e ≡ Some s' → Met s'
met_next between s' (setup a lo hi) m h q = subst Met (let z : after_setup a (w_length_in hi) ≡ s' = cc in z) (h.0, length_small hi h.2)
met_next between s' (out a e b last l) m h q = bulk_start_met a e b last l s' h q
met_next (after_setup a wl) s' (setup a' lo hi') m h q = subst Met (let z : after_setup a' (w_length_in hi') ≡ s' = cc in z) (h.0, length_small hi' h.2)
met_next (after_setup a wl) s' (out a' e b last l) m h q = by_cases (eqb e 0) (λ (z : eqb e 0 ≡ true). start last (rw z at q)) (λ (z : eqb e 0 ≡ false). bulk_start_met a' e b last l s' h (rw z at q))
  where
    start : (last : Bool) → control_start a wl a' b last (length l) ≡ Some s' → Met s'
    start true g = guard_met (eqb a' a && (b && (eqb (length l) 0 || eqb (length l) wl))) between s' (λ z. tt) g
    start false g =
        let n = length l in
        let t₂ = leb 1 n && ltb n wl in
        guard_met (eqb a' a && (b && t₂)) (in_control_of a wl false n n) s'
        (λ (z : (eqb a' a && (b && t₂)) ≡ true).
        let c = and_right b t₂ (and_right (eqb a' a) (b && t₂) z) in
        (m.0, leb-true 1 n (and_left (leb 1 n) (ltb n wl) c), h.2, ltb-true n wl (and_right (leb 1 n) (ltb n wl) c), m.1)) g
met_next (in_bulk a e q p t) s' (setup a' lo hi) m h g = absurd (let z : ◌≡◌ {A = ℕ} 0 1 = cc in omega arith)
met_next (in_bulk a e q p t) s' (out a' e' b true l) m h g = guard_met (eqb a' a && (eqb e' e && (beq b q && (leb (length l) p && leb (t + length l) 65535)))) between s' (λ z. tt) g
met_next (in_bulk a e q p t) s' (out a' e' b false l) m h g =
    let n = length l in
    let t₄ = eqb n p && leb (t + n) 65535 in
    let t₃ = beq b q && t₄ in
    let t₂ = eqb e' e && t₃ in
    guard_met (eqb a' a && t₂) (in_bulk a e (not q) p (t + n)) s'
    (λ (z : (eqb a' a && t₂) ≡ true). (m.0, m.1, m.2, m.3, m.4, leb-true (t + n) 65535 (and_right (eqb n p) (leb (t + n) 65535) (and_right (beq b q) t₄ (and_right (eqb e' e) t₃ (and_right (eqb a' a) t₂ z)))))) g
met_next (in_control_of a wl q p t) s' (setup a' lo hi') m h g = absurd (let z : ◌≡◌ {A = ℕ} 0 1 = cc in omega arith)
met_next (in_control_of a wl q p t) s' (out a' e' b true l) m h g = guard_met (eqb a' a && (eqb e' 0 && (beq b q && (leb 1 (length l) && (leb (length l) p && eqb (t + length l) wl))))) between s' (λ z. tt) g
met_next (in_control_of a wl q p t) s' (out a' e' b false l) m h g =
    let n = length l in
    let t₄ = eqb n p && ltb (t + n) wl in
    let t₃ = beq b q && t₄ in
    let t₂ = eqb e' 0 && t₃ in
    guard_met (eqb a' a && t₂) (in_control_of a wl (not q) p (t + n)) s'
    (λ (z : (eqb a' a && t₂) ≡ true). (m.0, m.1, m.2, ltb-true (t + n) wl (and_right (eqb n p) (ltb (t + n) wl) (and_right (beq b q) t₄ (and_right (eqb e' 0) t₃ (and_right (eqb a' a) t₂ z)))), m.4)) g

-- A prefix that was taken, and what may come after it.
back : (pre : List Entry) (s s' : Scan) (post : List Entry) → Met s → AllInRange pre → feed_all (Some s) pre ≡ Some s' → Lang s' post → Lang s (pre ++ post)
back [] s s' post m h q k = subst (λ (v : Scan). Lang v post) (sym (let z : s ≡ s' = cc in z)) k
back (e ∷ pre) s s' post m h q k = go (feed s e) refl q (λ u mu g. back pre u s' post mu h.1 g k)
  where
    stuck : (pre : List Entry) → feed_all None pre ≡ Some s' → ⊥
    stuck [] g = let z : ◌≡◌ {A = ℕ} 0 1 = cc in omega arith
    stuck (x ∷ pre) g = let z : ◌≡◌ {A = ℕ} 0 1 = cc in omega arith

    go : (o : Option Scan) → feed s e ≡ o → feed_all o pre ≡ Some s' → ((u : Scan) → Met u → feed_all (Some u) pre ≡ Some s' → Lang u (pre ++ post)) → Lang s (e ∷ (pre ++ post))
    go None z g ih = absurd (stuck pre g)
    go (Some u) z g ih = sound s u e (pre ++ post) (small_of s m) h.0 z (ih u (met_next s u e m h.0 z) g)

all_met : (pre : List Entry) (s s' : Scan) → Met s → AllInRange pre → feed_all (Some s) pre ≡ Some s' → Met s'
all_met [] s s' m h q = subst Met (let z : s ≡ s' = cc in z) m
all_met (e ∷ pre) s s' m h q = go (feed s e) refl q (λ u mu g. all_met pre u s' mu h.1 g)
  where
    stuck : (pre : List Entry) → feed_all None pre ≡ Some s' → ⊥
    stuck [] g = let z : ◌≡◌ {A = ℕ} 0 1 = cc in omega arith
    stuck (x ∷ pre) g = let z : ◌≡◌ {A = ℕ} 0 1 = cc in omega arith

    go : (o : Option Scan) → feed s e ≡ o → feed_all o pre ≡ Some s' → ((u : Scan) → Met u → feed_all (Some u) pre ≡ Some s' → Met s') → Met s'
    go None z g ih = absurd (stuck pre g)
    go (Some u) z g ih = ih u (met_next s u e m h.0 z) g

-- From every state that is met the record can be ended.
record Ending (s : Scan) : Type 0 where
  post : List Entry
  lang : Lang s post

zeros : (n : ℕ) → Bytes (replicate n 0)
zeros zero = tt
zeros (suc n) = (omega arith, zeros n)

-- A group of so many bytes whose marked packet is not empty.
record Filled (p n : ℕ) : Type 0 where
  xs : List (List ℕ)
  l : List ℕ
  full : AllOf p xs
  short : length l ≤ p
  some_last : 1 ≤ length l
  total : length (group_bytes xs l) ≡ n
  are : Bytes (group_bytes xs l)

fill : (f p n : ℕ) → 1 ≤ p → 1 ≤ n → n ≤ f → Filled p n
fill zero p n hp hn hf = absurd (omega arith)
fill (suc f) p n hp hn hf = by_cases (leb n p)
    (λ (q : leb n p ≡ true).
    let e : length (replicate n 0) ≡ n = length-replicate {A = ℕ} n 0 in
    record { xs = []; l = replicate n 0; full = tt; short = let v = leb-true n p q in omega arith; some_last = omega arith; total = e; are = zeros n })
    (λ (q : leb n p ≡ false).
    let v = leb-false n p q in
    let z = fill f p (n - p) hp (omega arith) (omega arith) in
    let e : length (replicate p 0) ≡ p = length-replicate {A = ℕ} p 0 in
    let m = length-append (replicate p 0) (group_bytes z.xs z.l) in
    record {
      xs = replicate p 0 ∷ z.xs;
      l = z.l;
      full = (e, z.full);
      short = z.short;
      some_last = z.some_last;
      total = let t = z.total in omega arith;
      are = bytes_append (replicate p 0) (group_bytes z.xs z.l) (zeros p) z.are;
    })

end_control : (a : ℕ) (wl : ℕ) (q : Bool) (p t n : ℕ) → 1 ≤ p → t + suc n ≡ wl → Ending (in_control_of a wl q p t)
end_control a wl q p t n hp e =
    let h = fill (suc n) p (suc n) hp (omega arith) (omega arith) in
    record {
      post = group a 0 q h.xs h.l ++ [];
      lang = record { xs = h.xs; l = h.l; after = []; full = h.full; short = h.short; some_last = h.some_last; total = ap (λ (k : ℕ). t + k) h.total ∙ e; are = h.are; rest = read_of [] tt; is = refl };
    }

ending : (s : Scan) → Met s → Ending s
ending between m = record { post = []; lang = read_of [] tt }
ending (after_setup a wl) m = record { post = []; lang = no_sent a wl [] (read_of [] tt) }
ending (in_bulk a e q p t) m = record {
  post = out a e q true [] ∷ [];
  lang = record { xs = []; l = []; after = []; full = tt; short = omega arith; total = let v = m.5 in omega arith; are = tt; rest = read_of [] tt; is = refl };
}
ending (in_control_of a wl q p t) m =
    let v = m.3 in
    end_control a wl q p t (wl - suc t) m.1 (omega arith)

pub feed_append : (o : Option Scan) (a b : List Entry) → feed_all o (a ++ b) ≡ feed_all (feed_all o a) b
feed_append o [] b = refl
feed_append None (e ∷ a) b = stay b
  where
    stay : (b : List Entry) → None ≡ feed_all None b
    stay [] = refl
    stay (x ∷ b) = refl
feed_append (Some s) (e ∷ a) b = feed_append (feed s e) a b

none_stays : (b : List Entry) → Ends (feed_all None b) → ⊥
none_stays [] h = h
none_stays (x ∷ b) h = h

ends_some : (o : Option Scan) → Ends o → (s : Scan) × (o ≡ Some s) × Lang s []
ends_some None h = absurd h
ends_some (Some between) h = (between, refl, read_of [] tt)
ends_some (Some (after_setup a wl)) h = (after_setup a wl, refl, no_sent a wl [] (read_of [] tt))
ends_some (Some (in_bulk a e q p t)) h = absurd h
ends_some (Some (in_control_of a wl q p t)) h = absurd h

-- The automaton takes exactly the records of the grammar; an entry that it does not take has no grammatical end after it; every other prefix has one.
pub record PlainReader : Type 0 where
  pub takes_all : (r : List Entry) → PlainReading r → Ends (feed_all (Some between) r)
  pub counts : (r : List Entry) (k : PlainReading r) → count_all (Some between) r ≡ length k.parts
  pub takes_only : (r : List Entry) → AllInRange r → Ends (feed_all (Some between) r) → PlainReading r
  pub refuses : (pre post : List Entry) → feed_all (Some between) pre ≡ None → PlainReading (pre ++ post) → ⊥
  pub viable : (pre : List Entry) (s : Scan) → AllInRange pre → feed_all (Some between) pre ≡ Some s → (post : List Entry) × PlainReading (pre ++ post)

pub plain_reader : PlainReader
plain_reader = record {
  takes_all = λ r k. (takes r between k).ends;
  counts = λ r k. (takes r between k).count;
  takes_only = λ r h e. let u = ends_some (feed_all (Some between) r) e in subst PlainReading (append-nil r) (back r between u.0 [] tt h u.1 u.2);
  refuses = λ pre post q k. none_stays post (subst (λ (o : Option Scan). Ends (feed_all o post)) q (subst Ends (feed_append (Some between) pre post) (takes (pre ++ post) between k).ends));
  viable = λ pre s h q. let z = ending s (all_met pre between s tt h q) in (z.post, back pre between s z.post tt h q z.lang);
}
