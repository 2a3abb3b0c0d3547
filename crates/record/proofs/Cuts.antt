-- Document 01's cutting, packet by packet. Assumes nothing.
use mathlib.Core.Path.{◌≡◌, refl, sym, ap, ◌∙◌, subst}
use mathlib.Core.Bool.{Bool, true, false, not}
use mathlib.Core.List.{List, [], ◌∷◌}
use Prim.Native.Nat.{ℕ, ◌-◌, ◌≤◌, ◌<◌}
use native.Mathlib.Omega.{arith}
use lib.ListN.{length, take, drop, length-drop}
use lib.Seq.{take-length}
use Rattle.cutting.specs.declared.transfer_type.TransferType.{TransferType}
use Rattle.cutting.specs.Cut.{Packet, packet, lengths, deal, numbered, out_cut}
use Rattle.cutting.specs.Counters.{out_start}
use Rattle.cutting.specs.Left.{OutLeft}
use Rattle.cutting.proofs.Lengths.{more, lengths_more, lengths_last, lengths_some}
use Rattle.cutting.proofs.Cutting.{deal_none, out_cut_lem}

-- The packets of bytes, from a slot and a PID on.
abbrev pub cut_at : TransferType → ℕ → Bool → Bool → List ℕ → List (Packet (List ℕ))
cut_at t p s b l = numbered s b (deal (lengths t p (length l)) l)

pub cut_is : (t : TransferType) (p : ℕ) (b : Bool) (l : List ℕ) → out_cut t p b l ≡ cut_at t p false b l
unfolding out_cut
cut_is t p b l = refl

-- The counters of a whole buffer hand out its cutting.
pub all_cut : (t : TransferType) (p : ℕ) (b : Bool) (buf : List ℕ) → 0 < p → p ≤ 64 → length buf ≤ 65535 → OutLeft buf (out_start t p b (length buf)) (out_cut t p b buf)
all_cut t p b buf low high h =
    subst (λ (l : List ℕ). OutLeft buf (out_start t p b (length buf)) (out_cut t p b l)) (take-length buf) (out_cut_lem t p b low high buf (length buf) h (omega arith))

-- Another packet follows.
pub cut_more : (t : TransferType) (p : ℕ) (s b : Bool) (l : List ℕ) → 0 < p → more t p (length l) ≡ true
    → cut_at t p s b l ≡ packet s b false (take p l) ∷ cut_at t p (not s) (not b) (drop p l)
unfolding deal numbered
cut_more t p s b l h e =
    let ns = lengths t p (length l - p) in
    ap (λ (r : List ℕ). numbered s b (deal r l)) (lengths_more t p (length l) h e)
    ∙ ap (λ (v : Bool). packet s b v (take p l) ∷ numbered (not s) (not b) (deal ns (drop p l))) (deal_none ns (drop p l) ∙ lengths_some t p (length l - p) h)
    ∙ ap (λ (n : ℕ). packet s b false (take p l) ∷ numbered (not s) (not b) (deal (lengths t p n) (drop p l))) (sym (length-drop p l))

-- None follows.
pub cut_last : (t : TransferType) (p : ℕ) (s b : Bool) (l : List ℕ) → 0 < p → more t p (length l) ≡ false → cut_at t p s b l ≡ packet s b true l ∷ []
unfolding deal numbered
cut_last t p s b l h e =
    ap (λ (r : List ℕ). numbered s b (deal r l)) (lengths_last t p (length l) h e)
    ∙ ap (λ (r : List ℕ). packet s b true r ∷ []) (take-length l)
