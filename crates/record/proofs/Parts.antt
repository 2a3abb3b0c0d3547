-- A transfer's entries are a part of the grammar. Assumes nothing.
use mathlib.Core.Path.{◌≡◌, refl, sym, ap, ◌∙◌, subst}
use mathlib.Core.Logic.{inl, inr}
use mathlib.Core.Bool.{Bool, true, false, not}
use mathlib.Core.List.{List, [], ◌∷◌, ◌++◌, map}
use Prim.Native.Nat.{ℕ, zero, suc, ◌≤◌, ◌<◌}
use native.Mathlib.Omega.{arith}
use lib.ListN.{length, take, drop, take-append-drop, length-drop}
use lib.Seq.{length-take-le}
use borrow.Author.Tests.{ltb-true, le-ltb}
use Rattle.pool.proofs.Cases.{by_cases}
use Rattle.cutting.specs.declared.transfer_type.TransferType.{TransferType}
use Rattle.cutting.specs.declared.transfer_type.TransferType.TheVariants.{FixedSize, VariableSize}
use Rattle.cutting.specs.Cut.{out_cut}
use Rattle.cutting.proofs.Lengths.{more, more_le, less_le}
use Rattle.transfers.specs.declared.host_controller.DataPhase.{DataPhase}
use Rattle.transfers.specs.declared.host_controller.DataPhase.TheVariants.{In as phase_in, Out as phase_out, None as phase_none}
use Rattle.transfers.specs.declared.host_controller.TransferExtras.{TransferExtras}
use Rattle.transfers.specs.declared.wire.SetupPacket.{SetupPacket}
use Rattle.transfers.specs.declared.wire.Direction.TheVariants.{In, Out}
use Rattle.record.specs.Grammar.{w_length_in, FourBytes, Bytes, Entry, out, group, group_bytes, AllOf, Sizes, Part, part_entries, Fits, bulk_item, control_item, item, bulk_part, control_part, no_group, one_group}
use Rattle.record.specs.Calls.{Begin, control_begin, bulk_begin}
use Rattle.record.specs.Armed.{low_bytes, high_bytes, setup_entry}
use Rattle.record.specs.Asked.{TypedSetup, Begun, out_entry, armed_by, item_of, listed}
use Rattle.record.proofs.Cuts.{cut_at, cut_is, cut_more, cut_last}
use Rattle.record.proofs.Begins.{Checked, Proper}

-- The unmarked packets' bytes and the marked one's.
pub record Halves (t : TransferType) (p : ℕ) (l : List ℕ) : Type 0 where
  pub fulls : List (List ℕ)
  pub final : List ℕ
  pub group_is : (a e : ℕ) (s b : Bool) → group a e b fulls final ≡ map (out_entry a e) (cut_at t p s b l)
  pub bytes_are : group_bytes fulls final ≡ l
  pub full : AllOf p fulls
  pub short : length final ≤ p
  pub some : t ≡ FixedSize → 1 ≤ length l → 1 ≤ length final

last_halves : (t : TransferType) (p : ℕ) (l : List ℕ) → 0 < p → more t p (length l) ≡ false → Halves t p l
last_halves t p l h q = record {
  fulls = [];
  final = l;
  group_is = λ a e s b. sym (ap (map (out_entry a e)) (cut_last t p s b l h q));
  bytes_are = refl;
  full = tt;
  short = less_le t p (length l) q;
  some = λ e k. k;
}

-- FixedSize: what is left after a full packet isn't empty.
some_left : (t : TransferType) (p : ℕ) (l : List ℕ) → more t p (length l) ≡ true → t ≡ FixedSize → 1 ≤ length (drop p l)
some_left FixedSize p l q e = let u : p < length l = ltb-true p (length l) q in let k = length-drop p l in omega arith
some_left VariableSize p l q e = absurd (let z : ◌≡◌ {A = ℕ} 0 1 = cc in omega arith)

more_halves : (t : TransferType) (p : ℕ) (l : List ℕ) → 0 < p → more t p (length l) ≡ true → Halves t p (drop p l) → Halves t p l
more_halves t p l h q r = record {
  fulls = take p l ∷ r.fulls;
  final = r.final;
  group_is = λ a e s b.
      ap (λ (x : List Entry). out a e b false (take p l) ∷ x) (r.group_is a e (not s) (not b))
      ∙ sym (ap (map (out_entry a e)) (cut_more t p s b l h q));
  bytes_are = ap (λ (x : List ℕ). take p l ++ x) r.bytes_are ∙ take-append-drop p l;
  full = (length-take-le p l (more_le t p (length l) q), r.full);
  short = r.short;
  some = λ e k. r.some e (some_left t p l q e);
}

pub halves : (n : ℕ) (t : TransferType) (p : ℕ) (l : List ℕ) → 0 < p → length l ≤ n → Halves t p l
halves zero t p l h k = by_cases (more t p (length l))
    (λ (q : more t p (length l) ≡ true). let u : p ≤ length l = more_le t p (length l) q in absurd (omega arith))
    (last_halves t p l h)
halves (suc n) t p l h k = by_cases (more t p (length l))
    (λ (q : more t p (length l) ≡ true).
    let u : p ≤ length l = more_le t p (length l) q in
    let e = length-drop p l in
    more_halves t p l h q (halves n t p (drop p l) h (omega arith)))
    (last_halves t p l h)

sizes : (t : TransferType) (p : ℕ) (l : List ℕ) (h : Halves t p l) → 1 ≤ p → p ≤ 64 → length l ≤ 65535 → Bytes l → Sizes h.fulls h.final
sizes t p l h low high b by = record {
  p = p;
  low = low;
  high = high;
  full = h.full;
  short = h.short;
  total = subst (λ (r : List ℕ). length r ≤ 65535) (sym h.bytes_are) b;
  are = subst Bytes (sym h.bytes_are) by;
}

cut_group : (t : TransferType) (p : ℕ) (l : List ℕ) (h : Halves t p l) (b : Bool) (a e : ℕ) → group a e b h.fulls h.final ≡ map (out_entry a e) (out_cut t p b l)
cut_group t p l h b a e = h.group_is a e false b ∙ ap (map (out_entry a e)) (sym (cut_is t p b l))

bytes_take : (n : ℕ) (l : List ℕ) → Bytes l → Bytes (take n l)
bytes_take zero l h = tt
bytes_take (suc n) [] h = tt
bytes_take (suc n) (x ∷ l) h = (h.0, bytes_take n l h.1)

-- ---- SETUP's bytes

pub low_are : (s : SetupPacket) → TypedSetup s → FourBytes (low_bytes s)
low_are s h = let a = h.2 in (h.0, h.1, omega arith, omega arith)

pub high_are : (s : SetupPacket) → TypedSetup s → FourBytes (high_bytes s)
high_are s h = let a = h.3 in let b = h.4 in (omega arith, omega arith, omega arith, omega arith)

pub length_in : (s : SetupPacket) → w_length_in (high_bytes s) ≡ s.wLength
length_in s = omega arith

-- ---- the part of a transfer

pub record PartOf (g : Begun) : Type 0 where
  pub part : Part
  pub fits : Fits part
  pub entries_are : part_entries part ≡ armed_by g
  pub item_is : item part ≡ item_of g

module _ (a : ℕ) (x : TransferExtras) (p : ℕ) (s : SetupPacket) (buf : List ℕ) where
  abbrev asked : DataPhase → Begun
  asked ph = record { fields = control_begin a x p s ph; buffer = buf }

  -- A control that sends one empty packet.
  empty_part : (ph : DataPhase) → Checked (control_begin a x p s ph) buf → armed_by (asked ph) ≡ setup_entry a s ∷ map (out_entry a 0) (out_cut FixedSize p true [])
      → item_of (asked ph) ≡ control_item a (low_bytes s) (high_bytes s) [] → PartOf (asked ph)
  empty_part ph ck e i = record {
    part = control_part a (low_bytes s) (high_bytes s) (one_group [] []);
    fits = (ck.addr, low_are s ck.kind, high_are s ck.kind, inl (refl, refl));
    entries_are =
        ap (λ (r : List Entry). setup_entry a s ∷ r) (sym (ap (map (out_entry a 0)) (cut_is FixedSize p true [] ∙ cut_last FixedSize p false true [] ck.low (le-ltb p 0 (omega arith)))))
        ∙ sym e;
    item_is = sym i;
  }

  out_part : Checked (control_begin a x p s phase_out) buf → Bytes buf → s.wLength ≤ length buf → 1 ≤ s.wLength → PartOf (asked phase_out)
  out_part ck by room pos =
      let l = take s.wLength buf in
      let e : length l ≡ s.wLength = length-take-le s.wLength buf room in
      let h = halves (length l) FixedSize p l ck.low (omega arith) in
      let k = ck.kind.4 in
      record {
        part = control_part a (low_bytes s) (high_bytes s) (one_group h.fulls h.final);
        fits = (
          ck.addr,
          low_are s ck.kind,
          high_are s ck.kind,
          inr (
            sizes FixedSize p l h ck.low ck.high (omega arith) (bytes_take s.wLength buf by),
            omega (arith, ap length h.bytes_are, e, length_in s),
            h.some refl (omega arith),
          ),
        );
        entries_are = ap (λ (r : List Entry). setup_entry a s ∷ r) (cut_group FixedSize p l h true a 0);
        item_is = ap (λ (r : List ℕ). control_item a (low_bytes s) (high_bytes s) r) h.bytes_are;
      }

  out_or_empty : (k : ℕ) → Checked (control_begin a x p s phase_out) buf → Bytes buf → s.wLength ≤ length buf → s.wLength ≡ k → PartOf (asked phase_out)
  out_or_empty zero ck by room e =
      empty_part phase_out ck (ap (λ (n : ℕ). setup_entry a s ∷ map (out_entry a 0) (out_cut FixedSize p true (take n buf))) e)
      (ap (λ (n : ℕ). control_item a (low_bytes s) (high_bytes s) (take n buf)) e)
  out_or_empty (suc k) ck by room e = out_part ck by room (omega arith)

  none_part : Checked (control_begin a x p s phase_none) buf → PartOf (asked phase_none)
  none_part ck = record {
    part = control_part a (low_bytes s) (high_bytes s) no_group;
    fits = (ck.addr, low_are s ck.kind, high_are s ck.kind, tt);
    entries_are = refl;
    item_is = refl;
  }

bulk_part_lem : (a e p : ℕ) (t : TransferType) (b : Bool) (buf : List ℕ) → Checked (bulk_begin Out a e p t b) buf → Bytes buf → PartOf (record { fields = bulk_begin Out a e p t b; buffer = buf })
bulk_part_lem a e p t b buf ck by =
    let h = halves (length buf) t p buf ck.low (omega arith) in
    record {
      part = bulk_part a e b h.fulls h.final;
      fits = (ck.addr, ck.kind.0, ck.kind.1, sizes t p buf h ck.low ck.high ck.kind.2 by);
      entries_are = cut_group t p buf h b a e;
      item_is = ap (λ (r : List ℕ). bulk_item a e b r) h.bytes_are;
    }

-- ---- all of them

-- The entries of a list of transfers.
abbrev pub armed_by_all : List Begun → List Entry
armed_by_all [] = []
armed_by_all (g ∷ gs) = armed_by g ++ armed_by_all gs

-- A transfer gives a part, or, a bulk IN, nothing.
pub data Shape (g : Begun) : Type 0 where
  sends : PartOf g → ((gs : List Begun) → listed (g ∷ gs) ≡ g ∷ listed gs) → Shape g
  silent : armed_by g ≡ [] → ((gs : List Begun) → listed (g ∷ gs) ≡ listed gs) → Shape g

pub shape : (x : Begin) (buf : List ℕ) → Proper x buf → Shape (record { fields = x; buffer = buf })
shape (control_begin a x p s phase_in) buf h = sends (empty_part a x p s buf phase_in h.checked refl refl) (λ gs. refl)
shape (control_begin a x p s phase_out) buf h = sends (out_or_empty a x p s buf s.wLength h.checked h.are h.room refl) (λ gs. refl)
shape (control_begin a x p s phase_none) buf h = sends (none_part a x p s buf h.checked) (λ gs. refl)
shape (bulk_begin Out a e p t b) buf h = sends (bulk_part_lem a e p t b buf h.checked h.are) (λ gs. refl)
shape (bulk_begin In a e p t b) buf h = silent refl (λ gs. refl)
