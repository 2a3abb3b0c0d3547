-- The logs of stages and of arming: what they start, and what they leave in ADDR_ENDP. Assumes nothing.
use Rattle.std.specs.Prelude.{None, Option, Some}
use mathlib.Core.Path.{◌≡◌, refl, ap, ap₂, ◌∙◌}
use mathlib.Core.Bool.{Bool, true, false}
use mathlib.Core.List.{List, [], ◌∷◌, ◌++◌, append-nil}
use Prim.Native.Nat.{ℕ, ◌+◌, ◌*◌, ◌≤◌}
use native.Mathlib.Omega.{arith}
use Rattle.cutting.specs.declared.packetiser.InPacketiser.{InPacketiser}
use Rattle.cutting.specs.declared.packetiser.OutCounters.{OutCounters}
use Rattle.cutting.specs.Counters.{in_next, out_next}
use Rattle.cutting.proofs.Next.{out_fits, in_fits}
use Rattle.transfers.specs.declared.wire.Direction.{Direction}
use Rattle.transfers.specs.declared.writes.Target.{Target}
use Rattle.transfers.specs.Log.{Write}
use Rattle.transfers.specs.Registers.{addr_endp, field}
use Rattle.transfers.specs.Writes.{head_writes, enable_writes, go_writes}
use Rattle.transfers.specs.Arming.{may_arm, in_armed, in_arm_if, in_arm, in_arm_two, out_armed, out_arm_if, out_arm, out_arm_two}
use Rattle.record.specs.Wire.{File, performs, Event, out_at, events}
use Rattle.record.proofs.Logs.{events_append, performs_append, Starts, Silent, starts_append, silent_nil, silent_enable, silent_go, head_quiet, head_addr, arm_addr, arm_out, arm_in}
use Rattle.cutting.specs.declared.packetiser.Arm.{Arm}

-- Between two silent pieces.
pub between : (pre mid post : List Write) (es : List Event) → Silent pre → Starts mid es → Silent post → Starts (pre ++ (mid ++ post)) es
between pre mid post es p s q =
    let r = starts_append pre (mid ++ post) [] (es ++ []) p (starts_append mid post es [] s q) in
    record { are = λ f. r.are f ∙ append-nil es; addr = r.addr }

-- ADDR_ENDP's fields.
pub address_field : (a e : ℕ) → a ≤ 127 → field 0 7 (a + e * 65536) ≡ a
address_field a e h = omega arith

pub endpoint_field : (a e : ℕ) → a ≤ 127 → e ≤ 15 → field 16 4 (a + e * 65536) ≡ e
endpoint_field a e h k = omega arith

-- The log of a stage's start.
abbrev pub start_log : List Write → Target → ℕ → List Write → Direction → List Write
start_log pre t n mid d = pre ++ (head_writes t n ++ (mid ++ (enable_writes t.size n ++ go_writes d)))

-- It starts what the arming starts, and leaves the address and endpoint.
pub record Heads (f : File) (ws : List Write) (es : List Event) (t : Target) : Type 0 where
  pub are : events f ws ≡ es
  pub addr : performs f ws addr_endp ≡ t.address + t.endpoint * 65536

pub heads : (pre mid : List Write) (es : List Event) (t : Target) (n : ℕ) (d : Direction) → Silent pre → Starts mid es → (f : File)
    → Heads f (start_log pre t n mid d) es t
heads pre mid es t n d p s f =
    let post = enable_writes t.size n ++ go_writes d in
    let r = between [] mid post es silent_nil s (starts_append (enable_writes t.size n) (go_writes d) [] [] (silent_enable t.size n) (silent_go d)) in
    let g = performs f pre in
    let h = performs g (head_writes t n) in
    record {
      are =
          events_append f pre (head_writes t n ++ (mid ++ post))
          ∙ ap₂ {C = List Event} ◌++◌ (p.are f) (events_append g (head_writes t n) (mid ++ post) ∙ ap₂ {C = List Event} ◌++◌ (head_quiet g t n) (r.are h));
      addr =
          ap (λ (x : File). x addr_endp) (performs_append f pre (head_writes t n ++ (mid ++ post)) ∙ performs_append g (head_writes t n) (mid ++ post))
          ∙ r.addr h ∙ head_addr g t n;
    }

-- ---- IN arming starts nothing

in_armed_lem : (a : Option Arm) (b c : InPacketiser) (k : ℕ) → (in_next b).arm ≡ a → Silent (in_armed a c k).writes
in_armed_lem None b c k e = silent_nil
in_armed_lem (Some a) b c k e = record { are = λ f. arm_in f a (in_fits b a e).small; addr = λ f. arm_addr f false a }

in_one : (w : ℕ) (c : InPacketiser) (k : ℕ) → Silent (in_arm w c k).writes
unfolding in_arm
in_one w c k = go (may_arm w k c.slot)
  where
    go : (b : Bool) → Silent (in_arm_if b c k).writes
    go false = silent_nil
    go true = in_armed_lem (in_next c).arm c (in_next c).rest k refl

pub in_two : (w : ℕ) (c : InPacketiser) (k : ℕ) → Silent (in_arm_two w c k).writes
unfolding in_arm_two
in_two w c k =
    let g = in_arm w c k in
    let h = in_arm w g.packets g.inflight in
    starts_append g.writes h.writes [] [] (in_one w c k) (in_one w g.packets g.inflight)

-- ---- OUT arming starts what it says that it armed

abbrev pub arm_events : Option Arm → List Event
arm_events None = []
arm_events (Some a) = out_at a.slot a.pid a.last a.length ∷ []

out_armed_lem : (a : Option Arm) (b c : OutCounters) (k off : ℕ) (buf m : List ℕ) → (out_next b).arm ≡ a
    → Starts (out_armed a c k off buf m).writes (arm_events (out_armed a c k off buf m).arm)
out_armed_lem None b c k off buf m e = silent_nil
out_armed_lem (Some a) b c k off buf m e = record { are = λ f. arm_out f a (out_fits b a e).small; addr = λ f. arm_addr f true a }

out_one : (w : ℕ) (c : OutCounters) (k : ℕ) (buf m : List ℕ) → Starts (out_arm w c k buf m).writes (arm_events (out_arm w c k buf m).arm)
unfolding out_arm
out_one w c k buf m = go (may_arm w k c.slot)
  where
    go : (b : Bool) → Starts (out_arm_if b c k buf m).writes (arm_events (out_arm_if b c k buf m).arm)
    go false = silent_nil
    go true = out_armed_lem (out_next c).arm c (out_next c).rest k c.offset buf m refl

pub out_two : (w : ℕ) (c : OutCounters) (k : ℕ) (buf m : List ℕ)
    → Starts (out_arm_two w c k buf m).writes (arm_events (out_arm_two w c k buf m).first ++ arm_events (out_arm_two w c k buf m).second)
unfolding out_arm_two
out_two w c k buf m =
    let g = out_arm w c k buf m in
    let h = out_arm w g.packets g.inflight buf g.memory in
    starts_append g.writes h.writes (arm_events g.arm) (arm_events h.arm) (out_one w c k buf m) (out_one w g.packets g.inflight buf g.memory)
