-- Values are zero outside their masks. Assumes nothing.
use mathlib.Core.Path.{◌≡◌, refl, ap, ◌∙◌}
use mathlib.Core.Bool.{Bool, true, false}
use Prim.Native.Nat.{ℕ, zero, suc, ◌+◌, ◌-◌, ◌*◌, ◌/◌, ◌%◌, ◌^◌, ◌≤◌, ◌<◌}
use native.Mathlib.Nat.{pow-suc}
use native.Mathlib.Omega.{arith}
use lib.Bits.{bit_and, and_step, and_zero_l, and_zero_r, and_shr, and_mod}
use lib.Dec.{leb}
use lib.Pow.{pow-lt}
use Rattle.cutting.specs.declared.packetiser.Arm.{Arm}
use Rattle.transfers.specs.declared.host_controller.TransferExtras.{TransferExtras}
use Rattle.transfers.specs.declared.host_controller.TransferExtras.TheVariants.{Normal, WithPreamble}
use Rattle.transfers.specs.declared.wire.Direction.{Direction}
use Rattle.transfers.specs.declared.wire.Direction.TheVariants.{In, Out}
use Rattle.transfers.specs.Registers.{weigh, half}
use Rattle.transfers.specs.Writes.{preamble, towards, arm_value, enables}

-- A number and what is missing of k ones share no bit.
missing : (k x : ℕ) → x < 2 ^ k → bit_and x (2 ^ k - 1 - x) ≡ 0
missing zero x h = ap (λ (n : ℕ). bit_and n (0 - n)) (let z : x ≡ 0 = omega arith in z) ∙ and_zero_l 0
missing (suc k) x h =
    let p = pow-suc 2 k in
    let m = 2 ^ suc k - 1 - x in
    let ih = missing k (x / 2) (omega arith) in
    let e : m / 2 ≡ 2 ^ k - 1 - x / 2 = omega arith in
    let f : m % 2 ≡ 1 - x % 2 = omega arith in
    let g : bit_and (x / 2) (m / 2) ≡ 0 = ap (bit_and (x / 2)) e ∙ ih in
    and_step x m ∙ omega (arith, f, g)

-- A set of bits that is its own mask.
pub own : (x : ℕ) → x < 0x1_0000_0000 → bit_and x (0xFFFF_FFFF - x) ≡ 0
own x h = missing 32 x h

pub own_power : (n : ℕ) → n ≤ 15 → bit_and (2 ^ n) (0xFFFF_FFFF - 2 ^ n) ≡ 0
own_power n h = own (2 ^ n) (pow-lt {i = n} {j = 32} (omega arith))

pub enables_out : (p n : ℕ) → bit_and (enables p n) (0xFFFF_FFFF - enables p n) ≡ 0
enables_out p n = by (leb (2 * p) n)
  where
    by : (b : Bool) → bit_and (0x7E8 + weigh b 0x10) (0xFFFF_FFFF - (0x7E8 + weigh b 0x10)) ≡ 0
    by true = refl
    by false = refl

pub setup_out : (x : TransferExtras) → bit_and (2 + weigh (preamble x) 0x40) (0xFFFF_FFFF - 0x4E) ≡ 0
setup_out Normal = refl
setup_out WithPreamble = refl

pub towards_out : (d : Direction) → bit_and (towards d) (0xFFFF_FFFF - 0xE) ≡ 0
towards_out In = refl
towards_out Out = refl

-- ---- a slot's half

-- By the ten lowest bits and the others.
by_ten : (a b : ℕ) → bit_and (a % 0x400) (b % 0x400) ≡ 0 → bit_and (a / 0x400) (b / 0x400) ≡ 0 → bit_and a b ≡ 0
by_ten a b e f = let g = and_mod a b 10 ∙ e in let h = and_shr a b 10 ∙ f in omega arith

by_sixteen : (a b : ℕ) → bit_and (a % 0x1_0000) (b % 0x1_0000) ≡ 0 → bit_and (a / 0x1_0000) (b / 0x1_0000) ≡ 0 → bit_and a b ≡ 0
by_sixteen a b e f = let g = and_mod a b 16 ∙ e in let h = and_shr a b 16 ∙ f in omega arith

-- PID, LAST and FULL, above LENGTH.
abbrev flags : Bool → Bool → Bool → ℕ
flags f b l = weigh b 8 + weigh l 16 + weigh f 32

above_length : (f b l : Bool) (n : ℕ) → n ≤ 64 → (n + weigh b 0x2000 + weigh l 0x4000 + weigh f 0x8000) / 0x400 ≡ flags f b l
above_length true true true n h = omega arith
above_length true true false n h = omega arith
above_length true false true n h = omega arith
above_length true false false n h = omega arith
above_length false true true n h = omega arith
above_length false true false n h = omega arith
above_length false false true n h = omega arith
above_length false false false n h = omega arith

flags_out : (f b l : Bool) → (bit_and (flags f b l) 0x3F_FFC7 ≡ 0) × (bit_and (flags f b l) 7 ≡ 0)
flags_out true true true = (refl, refl)
flags_out true true false = (refl, refl)
flags_out true false true = (refl, refl)
flags_out true false false = (refl, refl)
flags_out false true true = (refl, refl)
flags_out false true false = (refl, refl)
flags_out false false true = (refl, refl)
flags_out false false false = (refl, refl)

pub slot_out : (f : Bool) (a : Arm) → a.length ≤ 64 → bit_and (half a.slot (arm_value f a)) (0xFFFF_FFFF - half a.slot 0xE3FF) ≡ 0
slot_out f a h = by a.slot
  where
    v : ℕ
    v = arm_value f a

    top : v / 0x400 ≡ flags f a.pid a.last
    top = above_length f a.pid a.last a.length h

    low : bit_and v 0x1C00 ≡ 0
    low = by_ten v 0x1C00 (and_zero_r (v % 0x400)) (ap (λ (n : ℕ). bit_and n 7) top ∙ (flags_out f a.pid a.last).1)

    by : (s : Bool) → bit_and (half s v) (0xFFFF_FFFF - half s 0xE3FF) ≡ 0
    by false = by_ten v 0xFFFF_1C00 (and_zero_r (v % 0x400)) (ap (λ (n : ℕ). bit_and n 0x3F_FFC7) top ∙ (flags_out f a.pid a.last).0)
    by true = by_sixteen (v * 0x1_0000) 0x1C00_FFFF
        (ap (λ (n : ℕ). bit_and n 0xFFFF) (let z : v * 0x1_0000 % 0x1_0000 ≡ 0 = omega arith in z) ∙ and_zero_l 0xFFFF)
        (ap (λ (n : ℕ). bit_and n 0x1C00) (let z : v * 0x1_0000 / 0x1_0000 ≡ v = omega arith in z) ∙ low)

pub available_out : (s : Bool) → bit_and (half s 0x400) (0xFFFF_FFFF - half s 0x400) ≡ 0
available_out true = refl
available_out false = refl
