-- What `next_packet` hands out lies within the counters and within a slot. Assumes nothing.
use Rattle.std.specs.Prelude.{None, Option, Some}
use mathlib.Core.Path.{◌≡◌, refl, sym, ap}
use mathlib.Core.Bool.{Bool, true, false, not, cond}
use Prim.Native.Nat.{ℕ, ◌+◌, ◌-◌, ◌≤◌, ◌<◌}
use native.Mathlib.Omega.{arith}
use lib.Dec.{eqb, ltb}
use borrow.Author.Tests.{ltb-true, ltb-false}
use Rattle.cutting.specs.declared.packetiser.Arm.{Arm}
use Rattle.cutting.specs.declared.packetiser.OutCounters.{OutCounters}
use Rattle.cutting.specs.declared.packetiser.InPacketiser.{InPacketiser}
use Rattle.cutting.specs.Counters.{sends, next_of, pid_of, out_gives, out_next, in_gives, in_next}

-- A packet has at most the bytes that are left, and at most the packet size.
pub record Small (r p n : ℕ) : Type 0 where
  pub rest : n ≤ r
  pub size : n ≤ p
  pub slot : p ≤ 64

none : {A : Type 0} (n : ℕ) (last : Bool) → None ≡ sends n last → A
none n last e = absurd (let z : ◌≡◌ {A = ℕ} 0 1 = cc in omega arith)

abbrev length_or : Option (ℕ × Bool) → ℕ
length_or None = 0
length_or (Some (n, last)) = n

length_of : (a n : ℕ) (b last : Bool) → sends a b ≡ sends n last → a ≡ n
length_of a n b last e = ap length_or e

pub next_small : (r p : ℕ) (z : Bool) (n : ℕ) (last : Bool) → next_of r p z ≡ sends n last → Small r p n
next_small r p z n last =
    go (eqb p 0) (ltb 64 p) (eqb r 0) (ltb r p) (ltb p r) z (ltb-false 64 p) (ltb-true r p) (ltb-true p r) (ltb-false r p) (ltb-false p r)
  where
    go : (b0 b1 b2 b3 b4 z : Bool) → (b1 ≡ false → p ≤ 64) → (b3 ≡ true → r < p) → (b4 ≡ true → p < r) → (b3 ≡ false → p ≤ r) → (b4 ≡ false → r ≤ p)
        → cond b0 None (cond b1 None (cond b2 (cond z (sends 0 true) None) (cond b3 (sends r true) (cond b4 (sends p false) (sends p (not z)))))) ≡ sends n last → Small r p n
    go true b1 b2 b3 b4 z f1 f3 f4 g3 g4 e = none n last e
    go false true b2 b3 b4 z f1 f3 f4 g3 g4 e = none n last e
    go false false true b3 b4 true f1 f3 f4 g3 g4 e =
        let q = length_of 0 n true last e in let s = f1 refl in record { rest = omega arith; size = omega arith; slot = s }
    go false false true b3 b4 false f1 f3 f4 g3 g4 e = none n last e
    go false false false true b4 z f1 f3 f4 g3 g4 e =
        let q = length_of r n true last e in let s = f1 refl in let t = f3 refl in record { rest = omega arith; size = omega arith; slot = s }
    go false false false false true z f1 f3 f4 g3 g4 e =
        let q = length_of p n false last e in let s = f1 refl in let t = f4 refl in record { rest = omega arith; size = omega arith; slot = s }
    go false false false false false z f1 f3 f4 g3 g4 e =
        let q = length_of p n (not z) last e in let s = f1 refl in let t = g3 refl in record { rest = omega arith; size = omega arith; slot = s }

no_arm : {A : Type 0} (a : Arm) → None ≡ Some a → A
no_arm a e = absurd (let z : ◌≡◌ {A = ℕ} 0 1 = cc in omega arith)

arm_of : (x a : Arm) → Some x ≡ Some a → x ≡ a
arm_of x a e = cc

-- An OUT packet: it goes into the next slot, and has no more bytes than are left or than a slot holds.
pub record OutFits (c : OutCounters) (a : Arm) : Type 0 where
  pub slot : a.slot ≡ c.slot
  pub rest : a.length ≤ c.remain
  pub small : a.length ≤ 64

pub out_fits : (c : OutCounters) (a : Arm) → (out_next c).arm ≡ Some a → OutFits c a
unfolding out_next
out_fits c a = by (ltb (0xFFFF - c.offset) c.remain) (next_of c.remain c.size c.zlp) refl
  where
    by : (g : Bool) (x : Option (ℕ × Bool)) → next_of c.remain c.size c.zlp ≡ x → (out_gives (cond g None x) c).arm ≡ Some a → OutFits c a
    by true x q e = no_arm a e
    by false None q e = no_arm a e
    by false (Some (n, last)) q e =
        let s = next_small c.remain c.size c.zlp n last q in
        let u = arm_of (record { slot = c.slot; pid = pid_of c.pid c.slot; last = last; length = n }) a e in
        let v : n ≡ a.length = ap (λ (y : Arm). y.length) u in
        record { slot = sym (ap (λ (y : Arm). y.slot) u); rest = omega (arith, s.rest); small = omega (arith, s.size, s.slot) }

-- Offset and rest together stay as they are.
pub out_sum : (c : OutCounters) → (out_next c).rest.offset + (out_next c).rest.remain ≡ c.offset + c.remain
unfolding out_next
out_sum c = by (ltb (0xFFFF - c.offset) c.remain) (next_of c.remain c.size c.zlp) refl
  where
    by : (g : Bool) (x : Option (ℕ × Bool)) → next_of c.remain c.size c.zlp ≡ x → (out_gives (cond g None x) c).rest.offset + (out_gives (cond g None x) c).rest.remain ≡ c.offset + c.remain
    by true x q = refl
    by false None q = refl
    by false (Some (n, last)) q = omega (arith, (next_small c.remain c.size c.zlp n last q).rest)

-- An IN slot: the next one, armed with the packet size, which a slot holds.
pub record InFits (c : InPacketiser) (a : Arm) : Type 0 where
  pub slot : a.slot ≡ c.slot
  pub size : a.length ≡ c.size
  pub small : a.length ≤ 64

pub in_fits : (c : InPacketiser) (a : Arm) → (in_next c).arm ≡ Some a → InFits c a
unfolding in_next
in_fits c a = by (next_of c.remain c.size c.zlp) refl
  where
    by : (x : Option (ℕ × Bool)) → next_of c.remain c.size c.zlp ≡ x → (in_gives x c).arm ≡ Some a → InFits c a
    by None q e = no_arm a e
    by (Some (n, last)) q e =
        let s = next_small c.remain c.size c.zlp n last q in
        let u = arm_of (record { slot = c.slot; pid = pid_of c.pid c.slot; last = last; length = c.size }) a e in
        let v : c.size ≡ a.length = ap (λ (y : Arm). y.length) u in
        record { slot = sym (ap (λ (y : Arm). y.slot) u); size = sym v; small = omega (arith, s.slot) }
