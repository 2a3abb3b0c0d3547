-- A slot armed by the driver IN is one armed by the samples. Assumes nothing.
use Rattle.std.specs.Prelude.{None, Option, Some}
use mathlib.Core.Path.{◌≡◌, refl, sym, ap, ap₂, ◌∙◌, subst}
use mathlib.Core.Bool.{Bool, true, false, not, ◌&&◌}
use mathlib.Core.List.{List, [], ◌∷◌, ◌++◌, map, append_assoc}
use Prim.Native.Nat.{ℕ, zero, suc, ◌+◌, ◌<◌, min}
use native.Mathlib.Omega.{arith}
use lib.Dec.{ltb}
use lib.ListN.{length}
use borrow.Author.Tests.{ltb-true, ltb-false, lt-ltb, le-ltb}
use Rattle.pool.proofs.Cases.{by_cases}
use Rattle.cutting.specs.declared.packetiser.Arm.{Arm}
use Rattle.cutting.specs.declared.packetiser.InPacketiser.{InPacketiser}
use Rattle.cutting.specs.declared.packetiser.Next.{Next}
use Rattle.cutting.specs.Cut.{Packet, packet}
use Rattle.cutting.specs.Counters.{next_of, pid_of, in_gives, in_next}
use Rattle.cutting.specs.Left.{InLeft, stop_in, go_in}
use Rattle.transfers.specs.Sample.{available}
use Rattle.transfers.specs.Writes.{arm_writes}
use Rattle.transfers.specs.Arming.{may_arm, InArming, in_armed, in_arm_if, in_arm, in_arm_two}
use Rattle.cutting.proofs.Next.{in_fits}
use Rattle.rules.specs.Fields.{word_after, read_buffer_control}
use Rattle.rules.specs.Received.{slot_of, arm_if, arm_one}
use Rattle.rules.specs.Armed.{ArmedSlot, armings, shown}
use Rattle.cutting.proofs.Rules.{map_append}
use Rattle.rules.proofs.Armed.{same_available, armings_append, arms_shown, none_armed as no_armings}
use Rattle.rules.proofs.Retired.{slot_more}

-- ---- the counters after a slot

pub no_arm : {A : Type 0} (a : Arm) → None ≡ Some a → A
no_arm a e = absurd (let z : ◌≡◌ {A = ℕ} 0 1 = cc in omega arith)

record After (c : InPacketiser) (v : Next InPacketiser) : Type 0 where
  size : v.rest.size ≡ c.size
  pid : v.rest.pid ≡ c.pid
  none : v.arm ≡ None → v.rest ≡ c
  some : (a : Arm) → v.arm ≡ Some a → v.rest.slot ≡ not c.slot

after : (x : Option (ℕ × Bool)) (c : InPacketiser) → After c (in_gives x c)
after None c = record { size = refl; pid = refl; none = λ e. refl; some = λ a e. no_arm a e }
after (Some (n, last)) c =
    record { size = refl; pid = refl; none = λ e. no_arm (record { slot = c.slot; pid = pid_of c.pid c.slot; last = last; length = c.size }) (sym e); some = λ a e. refl }

next_after : (c : InPacketiser) → After c (in_next c)
unfolding in_next
next_after c = after (next_of c.remain c.size c.zlp) c

-- ---- what one arming does

abbrev kept : InPacketiser → ℕ → InArming
kept c k = record { packets = c; inflight = k; writes = [] }

abbrev arming : InPacketiser → ℕ → Arm → InArming
arming c k a = record { packets = (in_next c).rest; inflight = k + 1; writes = arm_writes false a }

arm_no : (w : ℕ) (c : InPacketiser) (k : ℕ) → may_arm w k c.slot ≡ false → in_arm w c k ≡ kept c k
unfolding in_arm
arm_no w c k e = ap (λ (v : Bool). in_arm_if v c k) e

arm_end : (w : ℕ) (c : InPacketiser) (k : ℕ) → (in_next c).arm ≡ None → in_arm w c k ≡ kept c k
unfolding in_arm
arm_end w c k e = by (may_arm w k c.slot)
  where
    by : (v : Bool) → in_arm_if v c k ≡ kept c k
    by false = refl
    by true = ap (λ (x : Option Arm). in_armed x (in_next c).rest k) e ∙ ap (λ (d : InPacketiser). kept d k) ((next_after c).none e)

arm_go : (w : ℕ) (c : InPacketiser) (k : ℕ) (a : Arm) → may_arm w k c.slot ≡ true → (in_next c).arm ≡ Some a → in_arm w c k ≡ arming c k a
unfolding in_arm
arm_go w c k a q e = ap (λ (v : Bool). in_arm_if v c k) q ∙ ap (λ (x : Option Arm). in_armed x (in_next c).rest k) e

-- ---- the driver's counters, with so many armed and retired

module _ (slots : ℕ) (q : Bool) (p : ℕ) where
  pub record Standing (r a : ℕ) (left : List (Packet ℕ)) (c : InPacketiser) (k : ℕ) : Type 0 where
    pub slot : c.slot ≡ slot_of a
    pub hands : InLeft c left
    pub many : a + length left ≡ slots
    pub flight : a ≡ r + k
    pub pid : c.pid ≡ q
    pub size : c.size ≡ p

  -- Some of the slots left are armed now: the writes show it, and the rest is left.
  pub record Arming (r a : ℕ) (left : List (Packet ℕ)) (g : InArming) : Type 0 where
    pub now : List (Packet ℕ)
    pub rest : List (Packet ℕ)
    pub split : left ≡ now ++ rest
    pub standing : Standing r a rest g.packets g.inflight
    pub events : (old : ℕ) → armings old g.writes ≡ map (shown false) now

  same_two : (a r k : ℕ) → a ≡ r + k → ltb k 2 ≡ ltb a (r + 2)
  same_two a r k e = by_cases (ltb k 2)
      (λ (h : ltb k 2 ≡ true). let z = ltb-true k 2 h in h ∙ sym (lt-ltb a (r + 2) (omega arith)))
      (λ (h : ltb k 2 ≡ false). let z = ltb-false k 2 h in h ∙ sym (le-ltb a (r + 2) (omega arith)))

  module _ (w r a : ℕ) (left : List (Packet ℕ)) (c : InPacketiser) (k : ℕ) (h : Standing r a left c k) where
    abbrev may : Bool
    may = ltb a (r + 2) && not (read_buffer_control w (slot_of a)).AVAILABLE

    same_may : may_arm w k c.slot ≡ may
    same_may = ap₂ {C = Bool} ◌&&◌ (same_two a r k h.flight) (ap not (ap (available w) h.slot ∙ same_available w (slot_of a)))

    -- Nothing is armed.
    stays : arm_one slots w r a ≡ a → in_arm w c k ≡ kept c k → Arming r (arm_one slots w r a) left (in_arm w c k)
    stays e f = rw (e, f) (record { now = []; rest = left; split = refl; standing = h; events = no_armings })

    none_left : ltb a slots ≡ false → arm_one slots w r a ≡ a
    unfolding arm_one
    none_left e = ap (λ (b : Bool). arm_if (b && may) a) e

    may_not : may ≡ false → arm_one slots w r a ≡ a
    unfolding arm_one
    may_not e = by (ltb a slots) (ltb a (r + 2) && not (read_buffer_control w (slot_of a)).AVAILABLE) e
      where
        by : (u v : Bool) → v ≡ false → arm_if (u && v) a ≡ a
        by true v e = ap (λ (b : Bool). arm_if b a) e
        by false v e = refl

    arms : ltb a slots ≡ true → may ≡ true → arm_one slots w r a ≡ a + 1
    unfolding arm_one
    arms e f = ap₂ {C = ℕ} (λ (u v : Bool). arm_if (u && v) a) e f

    by_left : (ks : List (Packet ℕ)) → InLeft c ks → left ≡ ks → Arming r (arm_one slots w r a) left (in_arm w c k)
    by_left ks (stop_in e) q = let m = h.many in let z = ap length q in stays (none_left (le-ltb a slots (omega arith))) (arm_end w c k e)
    by_left ks (go_in {ks = ks'} x e l) q = by_cases may
        (λ (u : may ≡ true).
        let m = h.many in
        let y = ap length q in
        let f = arm_go w c k x (same_may ∙ u) e in
        let g = arms (lt-ltb a slots (omega arith)) u in
        let n = next_after c in
        rw (g, f) (record {
          now = packet x.slot x.pid x.last x.length ∷ [];
          rest = ks';
          split = q;
          standing = record {
            slot = n.some x e ∙ ap not h.slot ∙ sym (slot_more a);
            hands = l;
            many = omega arith;
            flight = let z = h.flight in omega arith;
            pid = n.pid ∙ h.pid;
            size = n.size ∙ h.size;
          };
          events = λ old. arms_shown false x old (in_fits c x e).small;
        }))
        (λ (u : may ≡ false). stays (may_not u) (arm_no w c k (same_may ∙ u)))

    pub arm_one_lem : Arming r (arm_one slots w r a) left (in_arm w c k)
    arm_one_lem = by_left left h.hands refl

  pub arm_two_lem : (w r a : ℕ) (left : List (Packet ℕ)) (c : InPacketiser) (k : ℕ) → Standing r a left c k → Arming r (arm_one slots w r (arm_one slots w r a)) left (in_arm_two w c k)
  unfolding in_arm_two
  arm_two_lem w r a left c k h =
      let g = in_arm w c k in
      let i = in_arm w g.packets g.inflight in
      let p = arm_one_lem w r a left c k h in
      let q = arm_one_lem w r (arm_one slots w r a) p.rest g.packets g.inflight p.standing in
      record {
        now = p.now ++ q.now;
        rest = q.rest;
        split = p.split ∙ ap (λ (l : List (Packet ℕ)). p.now ++ l) q.split ∙ sym (append_assoc p.now q.now q.rest);
        standing = q.standing;
        events = λ old.
            armings_append g.writes i.writes old ∙ ap₂ {C = List ArmedSlot} ◌++◌ (p.events old) (q.events (word_after 0x5010_0080 old g.writes)) ∙ sym (map_append (shown false) p.now q.now);
      }

-- ---- at a stage's start

one_armed : (s : ℕ) → 0 < s → arm_one s 0 0 0 ≡ 1
unfolding arm_one slot_of
one_armed s h = ap (λ (b : Bool). arm_if (b && true) 0) (lt-ltb 0 s h)

none_armed : arm_one 0 0 0 0 ≡ 0
unfolding arm_one
none_armed = refl

no_second : arm_one 1 0 0 1 ≡ 1
unfolding arm_one
no_second = refl

second : (s : ℕ) → 1 < s → arm_one s 0 0 1 ≡ 2
unfolding arm_one slot_of
second s h = ap (λ (b : Bool). arm_if (b && true) 1) (lt-ltb 1 s h)

pub two_armed : (s : ℕ) → arm_one s 0 0 (arm_one s 0 0 0) ≡ min s 2
two_armed zero = ap (arm_one 0 0 0) none_armed ∙ none_armed ∙ omega arith
two_armed (suc zero) = ap (arm_one 1 0 0) (one_armed 1 (omega arith)) ∙ no_second ∙ omega arith
two_armed (suc (suc s)) = ap (arm_one (suc (suc s)) 0 0) (one_armed (suc (suc s)) (omega arith)) ∙ second (suc (suc s)) (omega arith) ∙ omega arith

pub start_armed : (slots : ℕ) (q : Bool) (p : ℕ) (left : List (Packet ℕ)) (c : InPacketiser) → Standing slots q p 0 0 left c 0 → Arming slots q p 0 (min slots 2) left (in_arm_two 0 c 0)
start_armed slots q p left c h = subst (λ (a : ℕ). Arming slots q p 0 a left (in_arm_two 0 c 0)) (two_armed slots) (arm_two_lem slots q p 0 0 0 left c 0 h)
