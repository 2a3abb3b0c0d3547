-- The counters hand out exactly document 01's cutting, packet by packet, and stop after the marked one. Assumes nothing.
use Rattle.std.specs.Prelude.{None, Option}
use mathlib.Core.Path.{◌≡◌, refl, sym, ap, ◌∙◌}
use mathlib.Core.Bool.{Bool, true, false, not, cond}
use mathlib.Core.List.{List, [], ◌∷◌, map}
use Prim.Native.Nat.{ℕ, zero, suc, ◌+◌, ◌-◌, ◌≤◌, ◌<◌}
use native.Mathlib.Nat.{sub-zero, not-suc-le-zero, le_of_suc-le-suc, suc-sub-suc}
use native.Mathlib.Omega.{arith}
use lib.ListN.{length, take, drop}
use lib.Seq.{take-nil, length-take-le, take-take, drop-drop}
use lib.Dec.{ltb}
use borrow.Author.Tests.{le-ltb}
use Rattle.pool.proofs.Cases.{by_cases}
use Rattle.cutting.specs.declared.transfer_type.TransferType.{TransferType}
use Rattle.cutting.specs.declared.packetiser.OutCounters.{OutCounters}
use Rattle.cutting.specs.declared.packetiser.Next.{Next}
use Rattle.cutting.specs.declared.packetiser.InPacketiser.{InPacketiser}
use Rattle.cutting.specs.Cut.{Packet, packet, lengths, deal, none, numbered, out_cut, in_cut_of}
use Rattle.cutting.specs.Counters.{sends, zlp_of, next_of, pid_of, owed_after, out_start, out_gives, out_next, in_start_of, in_gives, in_next}
use Rattle.cutting.specs.Left.{OutLeft, stop, go, InLeft, stop_in, go_in, Ends}
use Rattle.cutting.proofs.Lengths.{more, more_le, less_le, lengths_more, lengths_last, lengths_some, next_more, owed_more, next_last, next_after}

pub pid_not : (b s : Bool) → pid_of b (not s) ≡ not (pid_of b s)
pid_not true true = refl
pid_not true false = refl
pid_not false true = refl
pid_not false false = refl

pub deal_none : (ns l : List ℕ) → none (deal ns l) ≡ none ns
unfolding deal
deal_none [] l = refl
deal_none (n ∷ ns) l = refl

map_none : {A B : Type 0} (f : A → B) (l : List A) → none (map f l) ≡ none l
map_none f [] = refl
map_none f (x ∷ l) = refl

pub drop_take : (p r : ℕ) (l : List ℕ) → p ≤ r → drop p (take r l) ≡ take (r - p) (drop p l)
drop_take zero r l h = ap (λ (k : ℕ). take k l) (sym (sub-zero r))
drop_take (suc p) zero l h = absurd (not-suc-le-zero h)
drop_take (suc p) (suc r) [] h = sym (take-nil (suc r - suc p))
drop_take (suc p) (suc r) (x ∷ l) h = drop_take p r l (le_of_suc-le-suc h) ∙ ap (λ (k : ℕ). take k (drop p l)) (sym (suc-sub-suc r p))

-- The first packet of some, where others follow and where none does.
out_first : (s b : Bool) (n : ℕ) (ns l : List ℕ) → none ns ≡ false → numbered s b (deal (n ∷ ns) l) ≡ packet s b false (take n l) ∷ numbered (not s) (not b) (deal ns (drop n l))
unfolding deal numbered
out_first s b n ns l e = rw (deal_none ns (drop n l) ∙ e)

out_only : (s b : Bool) (n : ℕ) (l : List ℕ) → numbered s b (deal (n ∷ []) l) ≡ packet s b true (take n l) ∷ []
unfolding deal numbered
out_only s b n l = refl

in_first : (s b : Bool) (p n : ℕ) (ns : List ℕ) → none ns ≡ false → numbered s b (map (λ (k : ℕ). p) (n ∷ ns)) ≡ packet s b false p ∷ numbered (not s) (not b) (map (λ (k : ℕ). p) ns)
unfolding numbered
in_first s b p n ns e = rw (map_none (λ (k : ℕ). p) ns ∙ e)

in_only : (s b : Bool) (p n : ℕ) → numbered s b (map (λ (k : ℕ). p) (n ∷ [])) ≡ packet s b true p ∷ []
unfolding numbered
in_only s b p n = refl

module _ (t : TransferType) (p : ℕ) (b : Bool) (h : 0 < p) (k : p ≤ 64) where
  -- ---- OUT

  module _ (buf : List ℕ) where
    -- The counters in the midst of a transfer, and the packets of the bytes that are left.
    abbrev out_at : ℕ → ℕ → Bool → OutCounters
    out_at r off s = record { slot = s; pid = b; remain = r; offset = off; size = p; zlp = zlp_of t p r }

    abbrev out_rest : ℕ → ℕ → Bool → List (Packet (List ℕ))
    out_rest r off s = numbered s (pid_of b s) (deal (lengths t p r) (take r (drop off buf)))

    out_gives_lem : (r off : ℕ) (s : Bool) (n : Option (ℕ × Bool)) → off + r ≤ 0xFFFF → next_of r p (zlp_of t p r) ≡ n → out_next (out_at r off s) ≡ out_gives n (out_at r off s)
    unfolding out_next
    out_gives_lem r off s n f e = rw (le-ltb (0xFFFF - off) r (omega arith), e)

    out_none : (r off : ℕ) (s z : Bool) → next_of r p z ≡ None → (out_next (record { slot = s; pid = b; remain = r; offset = off; size = p; zlp = z })).arm ≡ None
    unfolding out_next
    out_none r off s z e = by (ltb (0xFFFF - off) r)
      where
        by : (a : Bool) → (out_gives (cond a None (next_of r p z)) (record { slot = s; pid = b; remain = r; offset = off; size = p; zlp = z })).arm ≡ None
        by true = refl
        by false = rw e

    out_more : (r off : ℕ) (s : Bool) → more t p r ≡ true → out_rest r off s ≡ packet s (pid_of b s) false (take p (drop off buf)) ∷ out_rest (r - p) (off + p) (not s)
    out_more r off s e =
        let u : p ≤ r = more_le t p r e in
        rw (
          lengths_more t p r h e,
          out_first s (pid_of b s) p (lengths t p (r - p)) (take r (drop off buf)) (lengths_some t p (r - p) h),
          take-take p r (drop off buf) u,
          drop_take p r (drop off buf) u,
          drop-drop p off buf,
          ← pid_not b s,
        )

    out_end : (r off : ℕ) (s : Bool) → more t p r ≡ false → out_rest r off s ≡ packet s (pid_of b s) true (take r (drop off buf)) ∷ []
    out_end r off s e =
        rw (lengths_last t p r h e, out_only s (pid_of b s) r (take r (drop off buf)), take-take r r (drop off buf) (omega arith))

    out_last : (r off : ℕ) (s : Bool) → off + r ≤ 0xFFFF → off + r ≤ length buf → more t p r ≡ false → OutLeft buf (out_at r off s) (out_rest r off s)
    out_last r off s f g e =
        let u : r ≤ p = less_le t p r e in
        let x = out_gives_lem r off s (sends r true) f (next_last p h k t r e) in
        rw (out_end r off s e)
        (go (record { slot = s; pid = pid_of b s; last = true; length = r }) (ap (λ (y : Next OutCounters). y.arm) x) (omega arith) g
        (stop {c = (out_next (out_at r off s)).rest} (rw x (out_none (r - r) (off + r) (not s) (owed_after r (zlp_of t p r)) (next_after p h k t r e)))))

    out_left : (n r off : ℕ) (s : Bool) → r ≤ n → off + r ≤ 0xFFFF → off + r ≤ length buf → OutLeft buf (out_at r off s) (out_rest r off s)
    out_left zero r off s e f g =
        by_cases (more t p r) (λ (q : more t p r ≡ true). let u : p ≤ r = more_le t p r q in absurd (omega arith)) (out_last r off s f g)
    out_left (suc n) r off s e f g = by_cases (more t p r)
        (λ (q : more t p r ≡ true).
        let u : p ≤ r = more_le t p r q in
        let x = out_gives_lem r off s (sends p false) f (next_more p h k t r q) in
        rw (out_more r off s q)
        (go {ks = out_rest (r - p) (off + p) (not s)} (record { slot = s; pid = pid_of b s; last = false; length = p }) (ap (λ (y : Next OutCounters). y.arm) x) k (omega arith)
        (rw (x, owed_more p h k t r q) (out_left n (r - p) (off + p) (not s) (omega arith) (omega arith) (omega arith)))))
        (out_last r off s f g)

  -- ---- IN

  abbrev in_at : ℕ → Bool → InPacketiser
  in_at r s = record { slot = s; pid = b; remain = r; size = p; zlp = zlp_of t p r }

  abbrev in_rest : ℕ → Bool → List (Packet ℕ)
  in_rest r s = numbered s (pid_of b s) (map (λ (k : ℕ). p) (lengths t p r))

  in_gives_lem : (r : ℕ) (s : Bool) (n : Option (ℕ × Bool)) → next_of r p (zlp_of t p r) ≡ n → in_next (in_at r s) ≡ in_gives n (in_at r s)
  unfolding in_next
  in_gives_lem r s n e = rw e

  in_none : (r : ℕ) (s z : Bool) → next_of r p z ≡ None → (in_next (record { slot = s; pid = b; remain = r; size = p; zlp = z })).arm ≡ None
  unfolding in_next
  in_none r s z e = rw e

  in_last : (r : ℕ) (s : Bool) → more t p r ≡ false → InLeft (in_at r s) (in_rest r s)
  in_last r s e =
      let x = in_gives_lem r s (sends r true) (next_last p h k t r e) in
      rw (lengths_last t p r h e, in_only s (pid_of b s) p r)
      (go_in (record { slot = s; pid = pid_of b s; last = true; length = p }) (ap (λ (y : Next InPacketiser). y.arm) x)
      (stop_in {c = (in_next (in_at r s)).rest} (rw x (in_none (r - r) (not s) (owed_after r (zlp_of t p r)) (next_after p h k t r e)))))

  in_left : (n r : ℕ) (s : Bool) → r ≤ n → InLeft (in_at r s) (in_rest r s)
  in_left zero r s e =
      by_cases (more t p r) (λ (q : more t p r ≡ true). let u : p ≤ r = more_le t p r q in absurd (omega arith)) (in_last r s)
  in_left (suc n) r s e = by_cases (more t p r)
      (λ (q : more t p r ≡ true).
      let u : p ≤ r = more_le t p r q in
      let x = in_gives_lem r s (sends p false) (next_more p h k t r q) in
      rw (lengths_more t p r h q, in_first s (pid_of b s) p p (lengths t p (r - p)) (lengths_some t p (r - p) h), ← pid_not b s)
      (go_in {ks = in_rest (r - p) (not s)} (record { slot = s; pid = pid_of b s; last = false; length = p }) (ap (λ (y : Next InPacketiser). y.arm) x)
      (rw (x, owed_more p h k t r q) (in_left n (r - p) (not s) (omega arith)))))
      (in_last r s)

  -- ---- the theorems

  -- The counters of n bytes, n at most the buffer's length, hand out the cutting of the buffer's first n bytes.
  pub out_cut_lem : (buf : List ℕ) (n : ℕ) → n ≤ 0xFFFF → n ≤ length buf → OutLeft buf (out_start t p b n) (out_cut t p b (take n buf))
  unfolding out_cut
  out_cut_lem buf n f g = rw (length-take-le n buf g) (out_left buf n n 0 false (omega arith) (omega arith) (omega arith))

  -- The slots of n bytes IN are armed as the document says.
  pub in_cut : (n : ℕ) → InLeft (in_start_of t p b n) (in_cut_of t p b n)
  unfolding in_cut_of
  in_cut n = in_left n n false (omega arith)

-- ---- the mark

numbered_ends : {A : Type 0} (s b : Bool) (l : List A) → Ends (numbered s b l)
unfolding numbered
numbered_ends s b [] = tt
numbered_ends s b (x ∷ []) = refl
numbered_ends s b (x ∷ y ∷ l) = numbered_ends (not s) (not b) (y ∷ l)

-- Nothing comes after the marked packet.
pub out_ends : (t : TransferType) (p : ℕ) (b : Bool) (l : List ℕ) → Ends (out_cut t p b l)
unfolding out_cut
out_ends t p b l = numbered_ends false b (deal (lengths t p (length l)) l)
