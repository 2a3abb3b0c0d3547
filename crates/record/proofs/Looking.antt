-- What the reader sees at the front of bytes.
-- Assumes nothing.
use mathlib.Core.Path.{◌≡◌, refl, ap}
use mathlib.Core.Bool.{true, false, ◌&&◌}
use mathlib.Core.List.{List}
use Prim.Native.Nat.{ℕ, ◌+◌, ◌*◌, ◌≤◌}
use native.Mathlib.Omega.{arith}
use lib.ListN.{length, drop, get_or, length-drop}
use lib.Dec.{eqb, leb}
use borrow.Author.Tests.{eqb-true, leb-true}
use Rattle.pool.proofs.Cases.{by_cases}
use Rattle.record.specs.Reader.{look_setup, fields_fit, look_out, look_failed, look}
use Rattle.record.specs.declared.look.OutHead.{OutHead}
use Rattle.record.specs.declared.look.Look.{Look}
use Rattle.record.specs.declared.look.Look.TheVariants.{Setup, Out, Failed}
use Rattle.record.specs.declared.refusal.Refusal.{Refusal}
use Rattle.record.specs.declared.refusal.Refusal.TheVariants.{Field}
use Rattle.std.specs.Prelude.{Option, Some, None, Result, Ok, Err}
use Rattle.record.proofs.Both.{and_left, and_right}

-- The fields of an OUT entry at the front.
abbrev pub head_at : List ℕ → OutHead
head_at l = record { address = get_or l 1 0; endpoint = get_or l 2 0; pid = eqb (get_or l 3 0) 1; last = eqb (get_or l 4 0) 1; length = get_or l 5 0 }

pub record OutFits (l : List ℕ) : Type 0 where
  pub kind : get_or l 0 0 ≡ 0x4F
  pub address : get_or l 1 0 ≤ 127
  pub endpoint : get_or l 2 0 ≤ 15
  pub pid : get_or l 3 0 ≤ 1
  pub last : get_or l 4 0 ≤ 1
  pub short : get_or l 5 0 ≤ 64
  pub whole : 6 + get_or l 5 0 ≤ length l

-- What a look is, by cases.
pub data Seen (l : List ℕ) (y : Result (Option Look) Refusal) : Type 0 where
  seen_end : length l ≡ 0 → y ≡ Ok None → Seen l y
  seen_bad : y ≡ Err Field → Seen l y
  seen_setup : get_or l 0 0 ≡ 0x53 → 10 ≤ length l → get_or l 1 0 ≤ 127 → y ≡ Ok (Some (Setup (get_or l 1 0) (get_or l 8 0 + get_or l 9 0 * 256))) → Seen l y
  seen_out : OutFits l → y ≡ Ok (Some (Out (head_at l))) → Seen l y
  seen_failed : get_or l 0 0 ≡ 0x58 → 5 ≤ length l → y ≡ Ok (Some (Failed ((get_or l 1 0 + get_or l 2 0 * 256) + (get_or l 3 0 + get_or l 4 0 * 256) * 65536))) → Seen l y

fields : (l : List ℕ) → get_or l 0 0 ≡ 0x4F → fields_fit (get_or l 1 0) (get_or l 2 0) (get_or l 3 0) (get_or l 4 0) (get_or l 5 0) ≡ true → 6 + get_or l 5 0 ≤ length l → OutFits l
unfolding fields_fit
fields l k h w =
    let a = leb (get_or l 1 0) 127 in
    let b = leb (get_or l 2 0) 15 in
    let c = leb (get_or l 3 0) 1 in
    let d = leb (get_or l 4 0) 1 in
    let e = leb (get_or l 5 0) 64 in
    let h₁ = and_right a (b && (c && (d && e))) h in
    let h₂ = and_right b (c && (d && e)) h₁ in
    let h₃ = and_right c (d && e) h₂ in
    record {
      kind = k;
      address = leb-true (get_or l 1 0) 127 (and_left a (b && (c && (d && e))) h);
      endpoint = leb-true (get_or l 2 0) 15 (and_left b (c && (d && e)) h₁);
      pid = leb-true (get_or l 3 0) 1 (and_left c (d && e) h₂);
      last = leb-true (get_or l 4 0) 1 (and_left d e h₃);
      short = leb-true (get_or l 5 0) 64 (and_right d e h₃);
      whole = w;
    }

see_setup : (l : List ℕ) → get_or l 0 0 ≡ 0x53 → Seen l (look_setup l)
unfolding look_setup
see_setup l k = by_cases (leb 10 (length l))
    (λ (p : leb 10 (length l) ≡ true). by_cases (leb (get_or l 1 0) 127)
    (λ (q : leb (get_or l 1 0) 127 ≡ true). seen_setup k (leb-true 10 (length l) p) (leb-true (get_or l 1 0) 127 q) (rw (p, q)))
    (λ (q : leb (get_or l 1 0) 127 ≡ false). seen_bad (rw (p, q))))
    (λ (p : leb 10 (length l) ≡ false). seen_bad (rw p))

see_out : (l : List ℕ) → get_or l 0 0 ≡ 0x4F → Seen l (look_out l)
unfolding look_out
see_out l k = by_cases (leb 6 (length l))
    (λ (p : leb 6 (length l) ≡ true). by_cases (fields_fit (get_or l 1 0) (get_or l 2 0) (get_or l 3 0) (get_or l 4 0) (get_or l 5 0))
    (λ (q : fields_fit (get_or l 1 0) (get_or l 2 0) (get_or l 3 0) (get_or l 4 0) (get_or l 5 0) ≡ true). by_cases (leb (6 + get_or l 5 0) (length l))
    (λ (r : leb (6 + get_or l 5 0) (length l) ≡ true). seen_out (fields l k q (leb-true (6 + get_or l 5 0) (length l) r)) (rw (p, q, r)))
    (λ (r : leb (6 + get_or l 5 0) (length l) ≡ false). seen_bad (rw (p, q, r))))
    (λ (q : fields_fit (get_or l 1 0) (get_or l 2 0) (get_or l 3 0) (get_or l 4 0) (get_or l 5 0) ≡ false). seen_bad (rw (p, q))))
    (λ (p : leb 6 (length l) ≡ false). seen_bad (rw p))

see_failed : (l : List ℕ) → get_or l 0 0 ≡ 0x58 → Seen l (look_failed l)
unfolding look_failed
see_failed l k = by_cases (leb 5 (length l))
    (λ (p : leb 5 (length l) ≡ true). seen_failed k (leb-true 5 (length l) p) (rw p))
    (λ (p : leb 5 (length l) ≡ false). seen_bad (rw p))

pub seen : (l : List ℕ) → Seen l (look l)
unfolding look
seen l = by_cases (eqb (length l) 0)
    (λ (e : eqb (length l) 0 ≡ true). seen_end (eqb-true (length l) 0 e) (rw e))
    (λ (e : eqb (length l) 0 ≡ false). by_cases (eqb (get_or l 0 0) 0x53)
    (λ (k : eqb (get_or l 0 0) 0x53 ≡ true). rw (e, k) (see_setup l (eqb-true (get_or l 0 0) 0x53 k)))
    (λ (k : eqb (get_or l 0 0) 0x53 ≡ false). by_cases (eqb (get_or l 0 0) 0x4F)
    (λ (j : eqb (get_or l 0 0) 0x4F ≡ true). rw (e, k, j) (see_out l (eqb-true (get_or l 0 0) 0x4F j)))
    (λ (j : eqb (get_or l 0 0) 0x4F ≡ false). by_cases (eqb (get_or l 0 0) 0x58)
    (λ (i : eqb (get_or l 0 0) 0x58 ≡ true). rw (e, k, j, i) (see_failed l (eqb-true (get_or l 0 0) 0x58 i)))
    (λ (i : eqb (get_or l 0 0) 0x58 ≡ false). rw (e, k, j, i) (seen_bad refl)))))

-- A SETUP has its ten bytes, an OUT packet its own.
pub setup_inside : (l : List ℕ) (a w : ℕ) → look l ≡ Ok (Some (Setup a w)) → 10 ≤ length l
setup_inside l a w e = go (seen l)
  where
    go : Seen l (look l) → 10 ≤ length l
    go (seen_end h q) = absurd (let z : ◌≡◌ {A = ℕ} 0 1 = cc in omega arith)
    go (seen_bad q) = absurd (let z : ◌≡◌ {A = ℕ} 0 1 = cc in omega arith)
    go (seen_setup k h i q) = h
    go (seen_out h q) = absurd (let z : ◌≡◌ {A = ℕ} 0 1 = cc in omega arith)
    go (seen_failed k h q) = absurd (let z : ◌≡◌ {A = ℕ} 0 1 = cc in omega arith)

pub out_inside : (l : List ℕ) (x : OutHead) → look l ≡ Ok (Some (Out x)) → 6 + x.length ≤ length l
out_inside l x e = go (seen l)
  where
    go : Seen l (look l) → 6 + x.length ≤ length l
    go (seen_end h q) = absurd (let z : ◌≡◌ {A = ℕ} 0 1 = cc in omega arith)
    go (seen_bad q) = absurd (let z : ◌≡◌ {A = ℕ} 0 1 = cc in omega arith)
    go (seen_setup k h i q) = absurd (let z : ◌≡◌ {A = ℕ} 0 1 = cc in omega arith)
    go (seen_failed k h q) = absurd (let z : ◌≡◌ {A = ℕ} 0 1 = cc in omega arith)
    go (seen_out h q) = let z : x ≡ head_at l = cc in let w = h.whole in let v : x.length ≡ get_or l 5 0 = ap (λ (y : OutHead). y.length) z in omega arith

pub failed_inside : (l : List ℕ) (m : ℕ) → look l ≡ Ok (Some (Failed m)) → 5 ≤ length l
failed_inside l m e = go (seen l)
  where
    go : Seen l (look l) → 5 ≤ length l
    go (seen_end h q) = absurd (let z : ◌≡◌ {A = ℕ} 0 1 = cc in omega arith)
    go (seen_bad q) = absurd (let z : ◌≡◌ {A = ℕ} 0 1 = cc in omega arith)
    go (seen_setup k h i q) = absurd (let z : ◌≡◌ {A = ℕ} 0 1 = cc in omega arith)
    go (seen_out h q) = absurd (let z : ◌≡◌ {A = ℕ} 0 1 = cc in omega arith)
    go (seen_failed k h q) = h

-- The same at a position: an entry ends inside.
pub setup_at : (s : List ℕ) (at a w : ℕ) → look (drop at s) ≡ Ok (Some (Setup a w)) → at + 10 ≤ length s
setup_at s at a w e = omega (arith, setup_inside (drop at s) a w e, length-drop at s)

pub out_at : (s : List ℕ) (at : ℕ) (x : OutHead) → look (drop at s) ≡ Ok (Some (Out x)) → at + (6 + x.length) ≤ length s
out_at s at x e = omega (arith, out_inside (drop at s) x e, length-drop at s)

pub failed_at : (s : List ℕ) (at m : ℕ) → look (drop at s) ≡ Ok (Some (Failed m)) → at + 5 ≤ length s
failed_at s at m e = omega (arith, failed_inside (drop at s) m e, length-drop at s)
