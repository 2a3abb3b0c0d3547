-- A slot retired by the driver is a packet retired by the samples; its bytes go where the count says. Assumes nothing.
use mathlib.Core.Path.{◌≡◌, refl, sym, ap, ap₂, ◌∙◌, subst}
use mathlib.Core.Bool.{Bool, true, false, not, ◌&&◌}
use mathlib.Core.List.{List, [], ◌∷◌, ◌++◌}
use Prim.Native.Nat.{ℕ, suc, ◌+◌, ◌≤◌}
use native.Mathlib.Numerals.{add-one}
use native.Mathlib.Omega.{arith}
use lib.Dec.{ltb}
use lib.ListN.{length, take, drop, length-append, length-drop}
use lib.Seq.{sets}
use borrow.Author.Tests.{ltb-true, ltb-false, lt-ltb, le-ltb}
use Rattle.pool.proofs.Cases.{by_cases}
use Rattle.cutting.specs.declared.depacketiser.InDepacketiser.{InDepacketiser}
use Rattle.cutting.specs.Retire.{in_retire}
use Rattle.transfers.specs.Memory.{slot_address}
use Rattle.transfers.specs.Sample.{full, length_in}
use Rattle.transfers.specs.Retiring.{InRetiring, in_taken, in_retire_if, in_retire_one}
use Rattle.transfers.proofs.Readiness.{both}
use Rattle.rules.specs.Fields.{read_buffer_control}
use Rattle.rules.specs.Received.{StepCall, slot_of, packet_at, Tally, retire_if, may_retire, retire_one}
use Rattle.cutting.proofs.Filled.{Stored, stored_length, stored_one}

pub no : {A : Type 0} → true ≡ false → A
no e = absurd (let z : ◌≡◌ {A = ℕ} 0 1 = cc in omega arith)

pub slot_suc : (k : ℕ) → slot_of (suc k) ≡ not (slot_of k)
unfolding slot_of
slot_suc k = refl

pub slot_zero : slot_of 0 ≡ false
unfolding slot_of
slot_zero = refl

pub slot_more : (k : ℕ) → slot_of (k + 1) ≡ not (slot_of k)
slot_more k = ap slot_of (add-one k) ∙ slot_suc k

length_snoc : {A : Type 0} (l : List A) (x : A) → length (l ++ (x ∷ [])) ≡ length l + 1
length_snoc l x = length-append l (x ∷ [])

-- Retiring arms nothing.
pub retire_armed : (y : StepCall) (s : Tally) → (retire_one y s).armed ≡ s.armed
unfolding retire_one
retire_armed y s = by (may_retire y s)
  where
    by : (b : Bool) → (retire_if b y s).armed ≡ s.armed
    by true = refl
    by false = refl

-- ---- the counters and the buffer, with what was retired

module _ (n : ℕ) (lent : List ℕ) (few : n ≤ 0xFFFF) (room : n ≤ length lent) where
  pub record Kept (got : List (List ℕ)) (d : InDepacketiser) (buf : List ℕ) : Type 0 where
    pub parity : d.parity ≡ slot_of (length got)
    pub stored : Stored n lent few room got d buf

  pub kept_length : (got : List (List ℕ)) (d : InDepacketiser) (buf : List ℕ) → Kept got d buf → length buf ≡ length lent
  kept_length got d buf r = stored_length n lent few room got d buf r.stored

  retired_parity : (d : InDepacketiser) (k : ℕ) → (in_retire d k).rest.parity ≡ not d.parity
  unfolding in_retire
  retired_parity d k = refl

  -- A packet of k bytes at `from`.
  kept_one : (got : List (List ℕ)) (d : InDepacketiser) (buf : List ℕ) (from : List ℕ) (k : ℕ) → k ≤ length from → Kept got d buf
      → Kept (got ++ (take k from ∷ [])) (in_retire d k).rest (sets buf d.offset (take (in_retire d k).count from))
  kept_one got d buf from k h r = record {
    parity = retired_parity d k ∙ ap not r.parity ∙ sym (slot_more (length got)) ∙ ap slot_of (sym (length_snoc got (take k from)));
    stored = stored_one n lent few room got d buf from k h r.stored;
  }

  -- ---- one slot

  -- With k in flight.
  pub record Flying (s : Tally) (d : InDepacketiser) (k : ℕ) (buf : List ℕ) : Type 0 where
    pub kept : Kept s.retired d buf
    pub flight : s.armed ≡ length s.retired + k

  -- 9, or retired (or nothing to retire).
  pub data One (s : Tally) (g : InRetiring) : Type 0 where
    too_long_of : g.long ≡ true → One s g
    fine : g.long ≡ false → Flying s g.packets g.inflight g.buffer → One s g

  module _ (y : StepCall) (fits : length y.memory ≡ 4096) where
    same_full : (s : Bool) → full y.sample.buffers s ≡ (read_buffer_control y.sample.buffers s).FULL
    same_full false = refl
    same_full true = refl

    same_packet : (s : Bool) → take (length_in y.sample.buffers s) (drop (slot_address s) y.memory) ≡ packet_at y s
    same_packet false = refl
    same_packet true = refl

    slot_low : (s : Bool) → slot_address s + 64 ≤ 4096
    slot_low false = omega arith
    slot_low true = omega arith

    same_flight : (a r k : ℕ) → a ≡ r + k → ltb 0 k ≡ ltb r a
    same_flight a r k e = by_cases (ltb 0 k)
        (λ (q : ltb 0 k ≡ true). let z = ltb-true 0 k q in q ∙ sym (lt-ltb r a (omega arith)))
        (λ (q : ltb 0 k ≡ false). let z = ltb-false 0 k q in q ∙ sym (le-ltb r a (omega arith)))

    module _ (s : Tally) (d : InDepacketiser) (k : ℕ) (buf : List ℕ) (f : Flying s d k buf) where
      taken : ltb 0 k ≡ true → One (retire_if true y s) (in_taken (ltb 64 (length_in y.sample.buffers d.parity)) (length_in y.sample.buffers d.parity) d k buf y.memory)
      taken h = by (ltb 64 (length_in y.sample.buffers d.parity)) refl
        where
          by : (b : Bool) → ltb 64 (length_in y.sample.buffers d.parity) ≡ b → One (retire_if true y s) (in_taken b (length_in y.sample.buffers d.parity) d k buf y.memory)
          by true e = too_long_of refl
          by false e =
              let n = length_in y.sample.buffers d.parity in
              let from = drop (slot_address d.parity) y.memory in
              let u = ltb-false 64 n e in
              let v = slot_low d.parity in
              let l = length-drop (slot_address d.parity) y.memory in
              let z = ltb-true 0 k h in
              let p : packet_at y (slot_of (length s.retired)) ≡ take n from = ap (packet_at y) (sym f.kept.parity) ∙ sym (same_packet d.parity) in
              fine refl (record {
                kept = subst (λ (x : List ℕ). Kept (s.retired ++ (x ∷ [])) (in_retire d n).rest (sets buf d.offset (take (in_retire d n).count from))) (sym p)
                    (kept_one s.retired d buf from n (omega (arith, fits, u, v, l)) f.kept);
                flight = let q = f.flight in let w = length_snoc s.retired (packet_at y (slot_of (length s.retired))) in omega arith;
              })

      test : (ltb 0 k && full y.sample.buffers d.parity) ≡ may_retire y s
      test = ap₂ {C = Bool} ◌&&◌ (same_flight s.armed (length s.retired) k f.flight) (ap (full y.sample.buffers) f.kept.parity ∙ same_full (slot_of (length s.retired)))

      by_test : (b : Bool) → (ltb 0 k && full y.sample.buffers d.parity) ≡ b → One (retire_if b y s) (in_retire_if b (length_in y.sample.buffers d.parity) d k buf y.memory)
      by_test false e = fine refl f
      by_test true e = taken (both (ltb 0 k) (full y.sample.buffers d.parity) e).0

      pub one : One (retire_one y s) (in_retire_one y.sample.buffers d k buf y.memory)
      unfolding retire_one in_retire_one
      one = subst (λ (b : Bool). One (retire_if b y s) (in_retire_if (ltb 0 k && full y.sample.buffers d.parity) (length_in y.sample.buffers d.parity) d k buf y.memory)) test
          (by_test (ltb 0 k && full y.sample.buffers d.parity) refl)
