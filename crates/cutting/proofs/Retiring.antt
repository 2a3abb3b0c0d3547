-- Laws of retiring: what is counted of the packets received. Assumes nothing.
use mathlib.Core.Path.{◌≡◌, refl, ap, ◌∙◌}
use mathlib.Core.Bool.{Bool, true, false, not, cond}
use mathlib.Core.List.{List, [], ◌∷◌}
use Prim.Native.Nat.{ℕ, ◌+◌, ◌-◌, ◌≤◌, ◌<◌, min}
use native.Mathlib.Omega.{arith}
use lib.Dec.{ltb}
use borrow.Author.Tests.{ltb-true, ltb-false, le-ltb}
use Rattle.pool.proofs.Cases.{by_cases}
use Rattle.cutting.specs.declared.depacketiser.InDepacketiser.{InDepacketiser}
use Rattle.cutting.specs.Retire.{in_begin, kept_of, in_retire, retired, sum, odd}

-- What is kept is no more than the room, than the packet, and than fits above the offset.
pub kept_fits : (off r k : ℕ) → (kept_of off r k ≤ r) × (kept_of off r k ≤ k) × (kept_of off r k ≤ 0xFFFF - off)
kept_fits off r k = go (ltb (0xFFFF - off) r) (ltb k r) (ltb-false (0xFFFF - off) r) (ltb-true k r) (ltb-false k r)
  where
    go : (a b : Bool) → (a ≡ false → r ≤ 0xFFFF - off) → (b ≡ true → k < r) → (b ≡ false → r ≤ k)
        → (cond a 0 (cond b k r) ≤ r) × (cond a 0 (cond b k r) ≤ k) × (cond a 0 (cond b k r) ≤ 0xFFFF - off)
    go true b f g h = (omega arith, omega arith, omega arith)
    go false true f g h = let u = f refl in let v = g refl in (omega arith, omega arith, omega arith)
    go false false f g h = let u = f refl in let v = h refl in (omega arith, omega arith, omega arith)

-- Of a packet no more is counted than there is room for, and than it has.
pub retire_fits : (c : InDepacketiser) (k : ℕ) → ((in_retire c k).count ≤ c.remain) × ((in_retire c k).count ≤ k)
unfolding in_retire
retire_fits c k = ((kept_fits c.offset c.remain k).0, (kept_fits c.offset c.remain k).1)

-- Offset and room together stay as they are.
pub retire_sum : (c : InDepacketiser) (k : ℕ) → (in_retire c k).rest.offset + (in_retire c k).rest.remain ≡ c.offset + c.remain
unfolding in_retire
retire_sum c k = omega (arith, (kept_fits c.offset c.remain k).0)

-- Of a packet of k bytes there are kept as many as there is room for.
kept_min : (off r k : ℕ) → off + r ≤ 0xFFFF → kept_of off r k ≡ min r k
kept_min off r k h =
    ap (λ (v : Bool). cond v 0 (cond (ltb k r) k r)) (le-ltb (0xFFFF - off) r (omega (arith, h)))
    ∙ by_cases (ltb k r)
    (λ (e : ltb k r ≡ true). ap (λ (v : Bool). cond v k r) e ∙ (let z = ltb-true k r e in omega arith))
    (λ (e : ltb k r ≡ false). ap (λ (v : Bool). cond v k r) e ∙ (let z = ltb-false k r e in omega arith))

-- One packet: what is counted, and what is left.
pub record Retires (c : InDepacketiser) (k : ℕ) : Type 0 where
  pub kept : (in_retire c k).count ≡ min c.remain k
  pub offset : (in_retire c k).rest.offset ≡ c.offset + min c.remain k
  pub remain : (in_retire c k).rest.remain ≡ c.remain - min c.remain k

pub retires : (c : InDepacketiser) (k : ℕ) → c.offset + c.remain ≤ 0xFFFF → Retires c k
unfolding in_retire
retires c k h =
    let e = kept_min c.offset c.remain k h in
    record { kept = e; offset = ap (λ (n : ℕ). c.offset + n) e; remain = ap (λ (n : ℕ). c.remain - n) e }

pub counts_from : (ks : List ℕ) (c : InDepacketiser) → c.offset + c.remain ≤ 0xFFFF → ((retired c ks).offset ≡ c.offset + min c.remain (sum ks)) × ((retired c ks).remain ≡ c.remain - sum ks)
counts_from [] c h = (omega arith, omega arith)
counts_from (k ∷ ks) c h =
    let r = retires c k h in
    let o = r.offset in
    let m = r.remain in
    let ih = counts_from ks (in_retire c k).rest (omega arith) in
    (ih.0 ∙ omega arith, ih.1 ∙ omega arith)

abbrev flips : (b : Bool) → Bool → Bool
flips true p = not p
flips false p = p

parity_from : (ks : List ℕ) (c : InDepacketiser) → (retired c ks).parity ≡ flips (odd ks) c.parity
unfolding in_retire
parity_from [] c = refl
parity_from (k ∷ ks) c = parity_from ks (in_retire c k).rest ∙ by (odd ks) c.parity
  where
    by : (o p : Bool) → flips o (not p) ≡ flips (not o) p
    by true true = refl
    by true false = refl
    by false p = refl

pub parity_odd : (n : ℕ) (ks : List ℕ) → (retired (in_begin n) ks).parity ≡ odd ks
parity_odd n ks = parity_from ks (in_begin n) ∙ by (odd ks)
  where
    by : (o : Bool) → flips o false ≡ o
    by true = refl
    by false = refl
