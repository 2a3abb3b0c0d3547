-- The fields of what begin and step answer that they armed lie in their ranges.
-- Assumes nothing.
use Rattle.std.specs.Prelude.{None, Option, Some}
use mathlib.Core.Path.{◌≡◌, refl}
use mathlib.Core.Bool.{Bool, true, false}
use mathlib.Core.List.{List}
use Prim.Native.Nat.{ℕ, ◌≤◌}
use borrow.Author.Tests.{le-leb}
use Rattle.cutting.specs.declared.packetiser.OutCounters.{OutCounters}
use Rattle.cutting.specs.Counters.{out_next}
use Rattle.cutting.proofs.Next.{out_fits}
use Rattle.transfers.specs.declared.answers.ArmedSetup.{ArmedSetup}
use Rattle.transfers.specs.Arming.{may_arm, out_armed, out_arm_if, out_arm, out_arm_two}
use Rattle.transfers.specs.Answers.{nothing_armed, out_of, outs_armed}
use Rattle.record.specs.Writer.{out_in_range, armed_in_range}
use Rattle.cutting.specs.declared.packetiser.Arm.{Arm}

-- A packet of at most 64 bytes, or none.
abbrev pub Small : Option Arm → Type 0
Small None = Unit {0}
Small (Some a) = a.length ≤ 64

one_small : (w : ℕ) (c : OutCounters) (k : ℕ) (buf m : List ℕ) → Small (out_arm w c k buf m).arm
unfolding out_arm
one_small w c k buf m = go (may_arm w k c.slot)
  where
    armed : (a : Option Arm) → (out_next c).arm ≡ a → Small (out_armed a (out_next c).rest k c.offset buf m).arm
    armed None e = tt
    armed (Some a) e = (out_fits c a e).small

    go : (b : Bool) → Small (out_arm_if b c k buf m).arm
    go false = tt
    go true = armed (out_next c).arm refl

pub two_small : (w : ℕ) (c : OutCounters) (k : ℕ) (buf m : List ℕ) → Small (out_arm_two w c k buf m).first × Small (out_arm_two w c k buf m).second
unfolding out_arm_two
two_small w c k buf m = let g = out_arm w c k buf m in (one_small w c k buf m, one_small w g.packets g.inflight buf g.memory)

pub none_ranged : armed_in_range nothing_armed ≡ true
unfolding armed_in_range
none_ranged = refl

out_ranged : (x y : ℕ) (a : Option Arm) → x ≤ 127 → y ≤ 15 → Small a → out_in_range (out_of x y a) ≡ true
out_ranged x y None h k s = refl
out_ranged x y (Some a) h k s = rw (le-leb x 127 h, le-leb y 15 k, le-leb a.length 64 s)

pub outs_ranged : (x y : ℕ) (a b : Option Arm) → x ≤ 127 → y ≤ 15 → Small a × Small b → armed_in_range (outs_armed x y a b) ≡ true
unfolding armed_in_range
outs_ranged x y a b h k s = rw (out_ranged x y a h k s.0, out_ranged x y b h k s.1)

pub setup_ranged : (s : ArmedSetup) → s.address ≤ 127 → armed_in_range (record { setup = Some s; first = None; second = None }) ≡ true
unfolding armed_in_range
setup_ranged s h = rw (le-leb s.address 127 h)
