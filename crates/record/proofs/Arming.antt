-- Arming up to two OUT packets: the first of the packets still to come, their entries, and those still to come after them. Assumes nothing.
use Rattle.std.specs.Prelude.{None, Option, Some}
use mathlib.Core.Path.{◌≡◌, refl, sym, ap, ap₂, ◌∙◌, subst}
use mathlib.Core.Bool.{Bool, true, false, not, cond, true≢false}
use mathlib.Core.List.{List, [], ◌∷◌, ◌++◌, map}
use Prim.Native.Nat.{ℕ, ◌+◌, ◌-◌, ◌≤◌}
use native.Mathlib.Omega.{arith}
use lib.ListN.{length, take, drop, length-drop}
use lib.Seq.{sets, length-take-le}
use lib.Dec.{ltb}
use Rattle.pool.proofs.Cases.{by_cases}
use Rattle.cutting.specs.declared.packetiser.Arm.{Arm}
use Rattle.cutting.specs.declared.packetiser.OutCounters.{OutCounters}
use Rattle.cutting.specs.declared.packetiser.Next.{Next}
use Rattle.cutting.specs.Cut.{Packet, packet}
use Rattle.cutting.specs.Counters.{next_of, pid_of, out_gives, out_next}
use Rattle.cutting.specs.Left.{OutLeft, stop, go, Ends}
use Rattle.cutting.proofs.Next.{out_fits}
use Rattle.transfers.specs.Registers.{addr_endp, field}
use Rattle.transfers.specs.Memory.{slot_address}
use Rattle.record.specs.Chip.{slot_place}
use Rattle.transfers.specs.Arming.{may_arm, OutArming, out_kept, out_armed, out_arm_if, out_arm, OutArmings, out_arm_two}
use Rattle.record.specs.Grammar.{Entry, out}
use Rattle.record.specs.Wire.{File, Event, out_at, entry_of}
use Rattle.record.specs.Asked.{out_entry}
use Rattle.record.specs.Told.{Watch, not_armed, in_slot, taken, marks}
use Rattle.record.proofs.Stages.{arm_events}
use Rattle.record.proofs.Memory.{slot_same, slot_other, slot_room}

abbrev pub Packets : Type 0
Packets = List (Packet (List ℕ))

-- The event of a packet.
abbrev pub ev_of : Packet (List ℕ) → Event
ev_of (packet s b last l) = out_at s b last (length l)

-- ---- the watch

-- Once a marked packet is armed, nothing is left.
abbrev pub Over : Watch → Packets → Type 0
Over not_armed ks = Unit {0}
Over (in_slot s) ks = ks ≡ []
Over taken ks = ks ≡ []

pub none_cons : {A : Type 0} (k : Packet (List ℕ)) (ks : Packets) → k ∷ ks ≡ [] → A
none_cons k ks e = absurd (let z : ◌≡◌ {A = ℕ} 0 1 = cc in omega arith)

pub over_marks : (new ks : Packets) (w : Watch) → Ends (new ++ ks) → Over w (new ++ ks) → Over (marks w (map ev_of new)) ks
over_marks [] ks w e o = o
over_marks (packet s b true l ∷ new) ks w e o = over_marks new ks (in_slot s) (subst Ends (sym e) tt) e
over_marks (packet s b false l ∷ new) ks not_armed e o = over_marks new ks not_armed e tt
over_marks (packet s b false l ∷ new) ks (in_slot r) e o = none_cons (packet s b false l) (new ++ ks) o
over_marks (packet s b false l ∷ new) ks taken e o = none_cons (packet s b false l) (new ++ ks) o

pub ends_after : (new ks : Packets) → Ends (new ++ ks) → Ends ks
ends_after [] ks e = e
ends_after (packet s b true l ∷ new) ks e = ends_after new ks (subst Ends (sym e) tt)
ends_after (packet s b false l ∷ new) ks e = ends_after new ks e

-- ---- the counters after a packet

no_arm : {A : Type 0} (a : Arm) → None ≡ Some a → A
no_arm a e = absurd (let z : ◌≡◌ {A = ℕ} 0 1 = cc in omega arith)

-- Packet size and first PID stay; the slot changes with each packet; with no packet all stays.
record After (c : OutCounters) (v : Next OutCounters) : Type 0 where
  size : v.rest.size ≡ c.size
  pid : v.rest.pid ≡ c.pid
  none : v.arm ≡ None → v.rest ≡ c
  some : (a : Arm) → v.arm ≡ Some a → v.rest.slot ≡ not c.slot

gives : (x : Option (ℕ × Bool)) (c : OutCounters) → After c (out_gives x c)
gives None c = record { size = refl; pid = refl; none = λ e. refl; some = λ a e. no_arm a e }
gives (Some (n, last)) c =
    record { size = refl; pid = refl; none = λ e. no_arm (record { slot = c.slot; pid = pid_of c.pid c.slot; last = last; length = n }) (sym e); some = λ a e. refl }

next_after : (c : OutCounters) → After c (out_next c)
unfolding out_next
next_after c = gives (cond (ltb (0xFFFF - c.offset) c.remain) None (next_of c.remain c.size c.zlp)) c

-- The same packet size and first PID.
pub record Alike (c d : OutCounters) : Type 0 where
  pub size : d.size ≡ c.size
  pub pid : d.pid ≡ c.pid

armed_alike : (a : Option Arm) (c d : OutCounters) (k off : ℕ) (buf m : List ℕ) → Alike c d → Alike c (out_armed a d k off buf m).packets
armed_alike None c d k off buf m h = h
armed_alike (Some a) c d k off buf m h = h

one_alike : (w : ℕ) (b c : OutCounters) (k : ℕ) (buf m : List ℕ) → Alike b c → Alike b (out_arm w c k buf m).packets
unfolding out_arm
one_alike w b c k buf m h = by (may_arm w k c.slot)
  where
    by : (v : Bool) → Alike b (out_arm_if v c k buf m).packets
    by false = h
    by true =
        let n = next_after c in
        armed_alike (out_next c).arm b (out_next c).rest k c.offset buf m (record { size = n.size ∙ h.size; pid = n.pid ∙ h.pid })

pub two_alike : (w : ℕ) (c : OutCounters) (k : ℕ) (buf m : List ℕ) → Alike c (out_arm_two w c k buf m).packets
unfolding out_arm_two
two_alike w c k buf m =
    let g = out_arm w c k buf m in
    one_alike w c g.packets g.inflight buf g.memory (one_alike w c c k buf m (record { size = refl; pid = refl }))

-- ---- where nothing is armed, what was lent doesn't matter

one_none : (w : ℕ) (c : OutCounters) (k : ℕ) (u v m : List ℕ) → (out_arm w c k u m).arm ≡ None → out_arm w c k u m ≡ out_arm w c k v m
unfolding out_arm
one_none w c k u v m = by (may_arm w k c.slot) (out_next c).arm
  where
    said : (a : Option Arm) → (out_armed a (out_next c).rest k c.offset u m).arm ≡ None → out_armed a (out_next c).rest k c.offset u m ≡ out_armed a (out_next c).rest k c.offset v m
    said None e = refl
    said (Some a) e = no_arm a (sym e)

    by : (b : Bool) (a : Option Arm) → (out_arm_if b c k u m).arm ≡ None → out_arm_if b c k u m ≡ out_arm_if b c k v m
    by false a e = refl
    by true a e = said (out_next c).arm e

abbrev then_arm : ℕ → List ℕ → OutArming → OutArmings
then_arm w v g =
    let h = out_arm w g.packets g.inflight v g.memory in
    record { packets = h.packets; inflight = h.inflight; writes = g.writes ++ h.writes; memory = h.memory; first = g.arm; second = h.arm }

pub none_armed : (w : ℕ) (c : OutCounters) (k : ℕ) (u v m : List ℕ) → (out_arm_two w c k u m).first ≡ None → (out_arm_two w c k u m).second ≡ None
    → out_arm_two w c k u m ≡ out_arm_two w c k v m
unfolding out_arm_two
none_armed w c k u v m p q =
    let g = out_arm w c k u m in
    ap (λ (h : OutArming). record { packets = h.packets; inflight = h.inflight; writes = g.writes ++ h.writes; memory = h.memory; first = g.arm; second = h.arm }) (one_none w g.packets g.inflight u v g.memory q)
    ∙ ap (then_arm w v) (one_none w c k u v m p)

-- ---- what an arming of some of the packets left did

pub record Two (buf : List ℕ) (can : Bool) (ks : Packets) (g : OutArmings) : Type 0 where
  pub new : Packets
  pub rest : Packets
  pub split : ks ≡ new ++ rest
  pub progress : can ≡ true → length rest ≤ length ks - 1
  pub left : OutLeft buf g.packets rest
  pub says : arm_events g.first ++ arm_events g.second ≡ map ev_of new
  pub wired : (f : File) (a e : ℕ) → field 0 7 (f addr_endp) ≡ a → field 16 4 (f addr_endp) ≡ e → map (entry_of f g.memory) (map ev_of new) ≡ map (out_entry a e) new

abbrev joined : OutArming → OutArming → OutArmings
joined g h = record { packets = h.packets; inflight = h.inflight; writes = g.writes ++ h.writes; memory = h.memory; first = g.arm; second = h.arm }

module _ (buf : List ℕ) where
  abbrev part : OutCounters → Arm → List ℕ
  part c a = take a.length (drop c.offset buf)

  abbrev made : OutCounters → Arm → Packet (List ℕ)
  made c a = packet a.slot a.pid a.last (part c a)

  abbrev sending : OutCounters → Arm → ℕ → List ℕ → OutArming
  sending c a k m = out_armed (Some a) (out_next c).rest k c.offset buf m

  -- ---- one packet

  -- A packet that may be handed out and lies within the buffer.
  record Given (c : OutCounters) (a : Arm) : Type 0 where
    is : (out_next c).arm ≡ Some a
    small : a.length ≤ 64
    inside : c.offset + a.length ≤ length buf

  data One (can : Bool) (c : OutCounters) (ks : Packets) (k : ℕ) (m : List ℕ) (g : OutArming) : Type 0 where
    skip : g ≡ out_kept c k m → (can ≡ true → ks ≡ []) → One can c ks k m g
    sent : (a : Arm) (ks' : Packets) → g ≡ sending c a k m → ks ≡ made c a ∷ ks' → Given c a → OutLeft buf (out_next c).rest ks' → One can c ks k m g

  one : (w : ℕ) (c : OutCounters) (ks : Packets) (k : ℕ) (m : List ℕ) → OutLeft buf c ks → One (may_arm w k c.slot) c ks k m (out_arm w c k buf m)
  unfolding out_arm
  one w c ks k m l = by_cases (may_arm w k c.slot)
      (λ (q : may_arm w k c.slot ≡ true). may q l)
      (λ (q : may_arm w k c.slot ≡ false). skip (ap (λ (b : Bool). out_arm_if b c k buf m) q) (λ (r : may_arm w k c.slot ≡ true). absurd (true≢false (sym r ∙ q))))
    where
      is : may_arm w k c.slot ≡ true → (a : Option Arm) → (out_next c).arm ≡ a
          → out_arm_if (may_arm w k c.slot) c k buf m ≡ out_armed a (out_next c).rest k c.offset buf m
      is q a e = ap (λ (b : Bool). out_arm_if b c k buf m) q ∙ ap (λ (x : Option Arm). out_armed x (out_next c).rest k c.offset buf m) e

      may : {ks : Packets} → may_arm w k c.slot ≡ true → OutLeft buf c ks → One (may_arm w k c.slot) c ks k m (out_arm_if (may_arm w k c.slot) c k buf m)
      may q (stop e) = skip (is q None e ∙ ap (λ (d : OutCounters). out_kept d k m) ((next_after c).none e)) (λ r. refl)
      may q (go {ks = ks'} a e s i l) = sent a ks' (is q (Some a) e) refl (record { is = e; small = s; inside = i }) l

  -- ---- two packets

  part_length : (c : OutCounters) (a : Arm) → Given c a → length (part c a) ≡ a.length
  part_length c a h = length-take-le a.length (drop c.offset buf) (let e = length-drop c.offset buf in omega (arith, h.inside))

  part_small : (c : OutCounters) (a : Arm) → Given c a → length (part c a) ≤ 64
  part_small c a h = let e = part_length c a h in omega (arith, h.small)

  one_says : (c : OutCounters) (a : Arm) → Given c a → arm_events (Some a) ≡ ev_of (made c a) ∷ []
  one_says c a h = ap (λ (n : ℕ). out_at a.slot a.pid a.last n ∷ []) (sym (part_length c a h))

  -- Its entry, where its slot still holds its bytes.
  entry_is : (c : OutCounters) (a : Arm) (m : List ℕ) (f : File) (x y : ℕ) → field 0 7 (f addr_endp) ≡ x → field 16 4 (f addr_endp) ≡ y
      → take (length (part c a)) (drop (slot_place a.slot) m) ≡ part c a → entry_of f m (ev_of (made c a)) ≡ out_entry x y (made c a)
  entry_is c a m f x y p q r = λ i. out (p i) (q i) a.pid a.last (r i)

  none_two : (can : Bool) (c : OutCounters) (ks : Packets) (k : ℕ) (m : List ℕ) → (can ≡ true → ks ≡ []) → OutLeft buf c ks
      → Two buf can ks (joined (out_kept c k m) (out_kept c k m))
  none_two can c ks k m z l =
      record { new = []; rest = ks; split = refl; progress = λ q. rw (z q) (omega arith); left = l; says = refl; wired = λ f a e p q. refl }

  module _ (can : Bool) (c : OutCounters) (a : Arm) (ks : Packets) (k : ℕ) (m : List ℕ) (full : length m ≡ 4096) (h : Given c a) where
    abbrev m₁ : List ℕ
    m₁ = sets m (slot_address a.slot) (part c a)

    one_wired : (f : File) (x y : ℕ) → field 0 7 (f addr_endp) ≡ x → field 16 4 (f addr_endp) ≡ y
        → map (entry_of f m₁) (map ev_of (made c a ∷ [])) ≡ map (out_entry x y) (made c a ∷ [])
    one_wired f x y p q = ap (λ (e : Entry). e ∷ []) (entry_is c a m₁ f x y p q (slot_same m full (part c a) (part_small c a h) a.slot))

    one_left : OutLeft buf (out_next c).rest ks → Two buf can (made c a ∷ ks) (joined (out_kept c k m) (sending c a k m))
    one_left l = record { new = made c a ∷ []; rest = ks; split = refl; progress = λ q. omega arith; left = l; says = one_says c a h; wired = one_wired }

    one_right : OutLeft buf (out_next c).rest ks → Two buf can (made c a ∷ ks) (joined (sending c a k m) (out_kept (out_next c).rest (k + 1) m₁))
    one_right l = record { new = made c a ∷ []; rest = ks; split = refl; progress = λ q. omega arith; left = l; says = one_says c a h; wired = one_wired }

    abbrev c₁ : OutCounters
    c₁ = (out_next c).rest

    -- The second goes into the other slot.
    first_stays : (b : Arm) → Given c₁ b → take (length (part c a)) (drop (slot_place a.slot) (sets m₁ (slot_address b.slot) (part c₁ b))) ≡ part c a
    first_stays b g =
        let e : b.slot ≡ not a.slot = (out_fits c₁ b g.is).slot ∙ (next_after c).some a h.is ∙ ap not (sym (out_fits c a h.is).slot) in
        ap (λ (s : Bool). take (length (part c a)) (drop (slot_place a.slot) (sets m₁ (slot_address s) (part c₁ b)))) e
        ∙ slot_other m₁ (slot_room m full (part c a) (part_small c a h) a.slot) (part c₁ b) (part_small c₁ b g) a.slot (length (part c a)) (part_small c a h)
        ∙ slot_same m full (part c a) (part_small c a h) a.slot

    both : (b : Arm) (ks₂ : Packets) → Given c₁ b → OutLeft buf (out_next c₁).rest ks₂
        → Two buf can (made c a ∷ made c₁ b ∷ ks₂) (joined (sending c a k m) (sending c₁ b (k + 1) m₁))
    both b ks₂ g l =
        let m₂ = sets m₁ (slot_address b.slot) (part c₁ b) in
        record {
          new = made c a ∷ made c₁ b ∷ [];
          rest = ks₂;
          split = refl;
          progress = λ q. omega arith;
          left = l;
          says = ap₂ {C = List Event} ◌++◌ (one_says c a h) (one_says c₁ b g);
          wired = λ f x y p q. ap₂ {C = List Entry} (λ (u v : Entry). u ∷ v ∷ [])
              (entry_is c a m₂ f x y p q (first_stays b g))
              (entry_is c₁ b m₂ f x y p q (slot_same m₁ (slot_room m full (part c a) (part_small c a h) a.slot) (part c₁ b) (part_small c₁ b g) b.slot));
        }

  -- The second arming, after each outcome of the first.
  after_skip : (can can₂ : Bool) (c : OutCounters) (ks : Packets) (k : ℕ) (m : List ℕ) → length m ≡ 4096 → (can ≡ true → ks ≡ []) → OutLeft buf c ks
      → (h : OutArming) → One can₂ c ks k m h → Two buf can ks (joined (out_kept c k m) h)
  after_skip can can₂ c ks k m full z l h (skip e y) = subst (λ (x : OutArming). Two buf can ks (joined (out_kept c k m) x)) (sym e) (none_two can c ks k m z l)
  after_skip can can₂ c ks k m full z l h (sent a ks' e q g l') =
      subst (λ (x : OutArming). Two buf can ks (joined (out_kept c k m) x)) (sym e)
      (subst (λ (x : Packets). Two buf can x (joined (out_kept c k m) (sending c a k m))) (sym q) (one_left can c a ks' k m full g l'))

  after_sent : (can can₂ : Bool) (c : OutCounters) (a : Arm) (ks : Packets) (k : ℕ) (m : List ℕ) → length m ≡ 4096 → Given c a → OutLeft buf (out_next c).rest ks
      → (h : OutArming) → One can₂ (out_next c).rest ks (k + 1) (sending c a k m).memory h → Two buf can (made c a ∷ ks) (joined (sending c a k m) h)
  after_sent can can₂ c a ks k m full g l h (skip e y) =
      subst (λ (x : OutArming). Two buf can (made c a ∷ ks) (joined (sending c a k m) x)) (sym e) (one_right can c a ks k m full g l)
  after_sent can can₂ c a ks k m full g l h (sent b ks₂ e q i l₂) =
      subst (λ (x : OutArming). Two buf can (made c a ∷ ks) (joined (sending c a k m) x)) (sym e)
      (subst (λ (x : Packets). Two buf can (made c a ∷ x) (joined (sending c a k m) (sending (out_next c).rest b (k + 1) (sending c a k m).memory))) (sym q)
      (both can c a ks k m full g b ks₂ i l₂))

  pub two : (w : ℕ) (c : OutCounters) (ks : Packets) (k : ℕ) (m : List ℕ) → length m ≡ 4096 → OutLeft buf c ks → Two buf (may_arm w k c.slot) ks (out_arm_two w c k buf m)
  unfolding out_arm_two
  two w c ks k m full l = by (out_arm w c k buf m) (one w c ks k m l)
    where
      can : Bool
      can = may_arm w k c.slot

      then : OutArming → OutArming
      then g = out_arm w g.packets g.inflight buf g.memory

      by : (g : OutArming) → One can c ks k m g → Two buf can ks (joined g (then g))
      by g (skip e z) =
          subst (λ (x : OutArming). Two buf can ks (joined x (then x))) (sym e)
          (after_skip can can c ks k m full z l (then (out_kept c k m)) (one w c ks k m l))
      by g (sent a ks' e q h l') =
          subst (λ (x : OutArming). Two buf can ks (joined x (then x))) (sym e)
          (subst (λ (x : Packets). Two buf can x (joined (sending c a k m) (then (sending c a k m)))) (sym q)
          (after_sent can (may_arm w (k + 1) (out_next c).rest.slot) c a ks' k m full h l' (then (sending c a k m))
          (one w (out_next c).rest ks' (k + 1) (sending c a k m).memory l')))
