-- Counters with nothing left arm nothing; a status stage has one packet. Assumes nothing.
use Rattle.std.specs.Prelude.{None, Option, Some}
use mathlib.Core.Path.{◌≡◌, refl, ap, ap₂, ◌∙◌}
use mathlib.Core.Bool.{Bool, true, false, cond}
use mathlib.Core.List.{List, [], ◌++◌, append-nil}
use Prim.Native.Nat.{ℕ, ◌-◌, ◌≤◌}
use native.Mathlib.Omega.{arith}
use lib.Dec.{eqb, ltb}
use borrow.Author.Tests.{ne_eqb, le-ltb}
use Rattle.cutting.specs.declared.transfer_type.TransferType.TheVariants.{FixedSize}
use Rattle.cutting.specs.declared.packetiser.InPacketiser.{InPacketiser}
use Rattle.cutting.specs.declared.packetiser.OutCounters.{OutCounters}
use Rattle.cutting.specs.Counters.{next_of, in_start_of, in_gives, in_next, out_start, out_gives, out_next}
use Rattle.transfers.specs.Log.{Write}
use Rattle.transfers.specs.Writes.{arm_writes}
use Rattle.transfers.specs.Arming.{may_arm, InArming, in_armed, in_arm_if, in_arm, in_arm_two, OutArming, out_kept, out_armed, out_arm_if, out_arm, out_arm_two}

next_spent : (p : ℕ) → next_of 0 p false ≡ None
next_spent p = by (eqb p 0) (ltb 64 p)
  where
    by : (u v : Bool) → ◌≡◌ {A = Option (ℕ × Bool)} (cond u None (cond v None None)) None
    by true v = refl
    by false true = refl
    by false false = refl

end_of : (r p : ℕ) (z : Bool) → r ≡ 0 → z ≡ false → next_of r p z ≡ None
end_of r p z e f = ap₂ {C = Option (ℕ × Bool)} (λ (u : ℕ) (v : Bool). next_of u p v) e f ∙ next_spent p

-- With nothing left and no empty packet owed, nothing is armed.
pub in_spent : (w : ℕ) (c : InPacketiser) (k : ℕ) → c.remain ≡ 0 → c.zlp ≡ false → in_arm w c k ≡ record { packets = c; inflight = k; writes = [] }
unfolding in_arm in_next
in_spent w c k e f = by (may_arm w k c.slot)
  where
    by : (b : Bool) → in_arm_if b c k ≡ record { packets = c; inflight = k; writes = [] }
    by false = refl
    by true = ap (λ (x : Option (ℕ × Bool)). in_armed (in_gives x c).arm (in_gives x c).rest k) (end_of c.remain c.size c.zlp e f)

pub out_spent : (w : ℕ) (c : OutCounters) (k : ℕ) (buf m : List ℕ) → c.remain ≡ 0 → c.zlp ≡ false → out_arm w c k buf m ≡ out_kept c k m
unfolding out_arm out_next
out_spent w c k buf m e f = by (may_arm w k c.slot)
  where
    given : Option (ℕ × Bool) → OutArming
    given x = out_armed (out_gives x c).arm (out_gives x c).rest k c.offset buf m

    inner : (b : Bool) → given (cond b None (next_of c.remain c.size c.zlp)) ≡ out_kept c k m
    inner true = refl
    inner false = ap given (end_of c.remain c.size c.zlp e f)

    by : (b : Bool) → out_arm_if b c k buf m ≡ out_kept c k m
    by false = refl
    by true = inner (ltb (0xFFFF - c.offset) c.remain)

abbrev second : ℕ → List ℕ → OutArming → OutArming
second w buf g = out_arm w g.packets g.inflight buf g.memory

pub out_two_spent : (w : ℕ) (c : OutCounters) (k : ℕ) (buf m : List ℕ) → c.remain ≡ 0 → c.zlp ≡ false → ((out_arm_two w c k buf m).packets ≡ c) × ((out_arm_two w c k buf m).writes ≡ [])
unfolding out_arm_two
out_two_spent w c k buf m e f =
    let one = out_spent w c k buf m e f in (
      ap (λ (g : OutArming). (second w buf g).packets) one ∙ ap (λ (g : OutArming). g.packets) one,
      ap (λ (g : OutArming). g.writes ++ (second w buf g).writes) one ∙ ap (λ (g : OutArming). g.writes) one,
    )

-- The empty packet that is owed is the last.
empty_next : (p : ℕ) → 1 ≤ p → p ≤ 64 → next_of 0 p true ≡ Some (0, true)
empty_next p low high = rw (ne_eqb p 0 (λ e. omega arith), le-ltb 64 p high)

-- A status stage OUT: one empty packet, marked, with the first PID; then nothing is left.
pub status_start : (p : ℕ) (b : Bool) (m : List ℕ) → 1 ≤ p → p ≤ 64 → let g = out_arm_two 0 (out_start FixedSize p b 0) 0 [] m in
    (g.packets ≡ record { slot = true; pid = b; remain = 0; offset = 0; size = p; zlp = false }) × (g.writes ≡ arm_writes true (record { slot = false; pid = b; last = true; length = 0 }))
unfolding out_arm_two out_arm out_next
status_start p b m low high = (
  ap (λ (g : OutArming). (second 0 [] g).packets) first ∙ ap (λ (g : OutArming). g.packets) then,
  ap (λ (g : OutArming). g.writes ++ (second 0 [] g).writes) first ∙ ap (λ (g : OutArming). ws ++ g.writes) then ∙ append-nil ws,
)
  where
    c : OutCounters
    c = out_start FixedSize p b 0

    d : OutCounters
    d = record { slot = true; pid = b; remain = 0; offset = 0; size = p; zlp = false }

    ws : List Write
    ws = arm_writes true (record { slot = false; pid = b; last = true; length = 0 })

    given : Option (ℕ × Bool) → OutArming
    given x = out_armed (out_gives x c).arm (out_gives x c).rest 0 0 [] m

    first : out_arm 0 c 0 [] m ≡ given (Some (0, true))
    first = ap given (empty_next p low high)

    then : out_arm 0 d 1 [] (given (Some (0, true))).memory ≡ out_kept d 1 (given (Some (0, true))).memory
    then = out_spent 0 d 1 [] (given (Some (0, true))).memory refl refl

abbrev second_in : ℕ → InArming → InArming
second_in w g = in_arm w g.packets g.inflight

pub in_two_spent : (w : ℕ) (c : InPacketiser) (k : ℕ) → c.remain ≡ 0 → c.zlp ≡ false → ((in_arm_two w c k).packets ≡ c) × ((in_arm_two w c k).writes ≡ [])
unfolding in_arm_two
in_two_spent w c k e f =
    let one = in_spent w c k e f in (
      ap (λ (g : InArming). (second_in w g).packets) one ∙ ap (λ (g : InArming). g.packets) one,
      ap (λ (g : InArming). g.writes ++ (second_in w g).writes) one ∙ ap (λ (g : InArming). g.writes) one,
    )

-- A status stage IN: one slot of the packet size, marked, with the first PID; then nothing is left.
pub status_start_in : (p : ℕ) (b : Bool) → 1 ≤ p → p ≤ 64 → let g = in_arm_two 0 (in_start_of FixedSize p b 0) 0 in
    (g.packets ≡ record { slot = true; pid = b; remain = 0; size = p; zlp = false }) × (g.writes ≡ arm_writes false (record { slot = false; pid = b; last = true; length = p }))
unfolding in_arm_two in_arm in_next
status_start_in p b low high = (
  ap (λ (g : InArming). (second_in 0 g).packets) first ∙ ap (λ (g : InArming). g.packets) then,
  ap (λ (g : InArming). g.writes ++ (second_in 0 g).writes) first ∙ ap (λ (g : InArming). ws ++ g.writes) then ∙ append-nil ws,
)
  where
    c : InPacketiser
    c = in_start_of FixedSize p b 0

    d : InPacketiser
    d = record { slot = true; pid = b; remain = 0; size = p; zlp = false }

    ws : List Write
    ws = arm_writes false (record { slot = false; pid = b; last = true; length = p })

    given : Option (ℕ × Bool) → InArming
    given x = in_armed (in_gives x c).arm (in_gives x c).rest 0

    first : in_arm 0 c 0 ≡ given (Some (0, true))
    first = ap given (empty_next p low high)

    then : in_arm 0 d 1 ≡ record { packets = d; inflight = 1; writes = [] }
    then = in_spent 0 d 1 refl refl
