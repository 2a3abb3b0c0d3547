-- A part has at most 65,537 entries. Assumes nothing.
use mathlib.Core.Path.{◌≡◌, ap}
use mathlib.Core.Logic.{inl, inr}
use mathlib.Core.Bool.{Bool, true, not}
use mathlib.Core.List.{List, [], ◌∷◌}
use Prim.Native.Nat.{ℕ, suc, ◌≤◌}
use native.Mathlib.Omega.{arith}
use lib.ListN.{length, length-append}
use Rattle.record.specs.Grammar.{Entry, group, group_bytes, AllOf, Part, part_entries, Fits, sent_entries, SentFits, Four, Sent, bulk_part, control_part, no_group, one_group}
use Rattle.record.specs.Segments.{FirstPart}

group_few : (a e : ℕ) (b : Bool) (xs : List (List ℕ)) (l : List ℕ) (p : ℕ) → 1 ≤ p → AllOf p xs → length (group a e b xs l) ≤ suc (length (group_bytes xs l))
group_few a e b [] l p h f = omega arith
group_few a e b (x ∷ xs) l p h f =
    let k = group_few a e (not b) xs l p h f.1 in
    let n = length-append x (group_bytes xs l) in
    let z = f.0 in
    omega arith

sent_few : (a : ℕ) (hi : Four) (s : Sent) → SentFits hi s → length (sent_entries a s) ≤ 65536
sent_few a hi no_group f = omega arith
sent_few a hi (one_group xs l) (inl f) = let z : length (group a 0 true xs l) ≡ length (group a 0 true [] l) = ap (λ (v : List (List ℕ)). length (group a 0 true v l)) f.0 in omega arith
sent_few a hi (one_group xs l) (inr f) = let z = group_few a 0 true xs l f.0.p f.0.low f.0.full in let t = f.0.total in omega arith

part_few : (q : Part) → Fits q → length (part_entries q) ≤ 65537
part_few (bulk_part a e b xs l) f = let z = group_few a e b xs l f.3.p f.3.low f.3.full in let t = f.3.total in omega arith
part_few (control_part a lo hi s) f = let z = sent_few a hi s f.3 in omega arith

-- So has a first part.
pub first_few : (es : List Entry) → FirstPart es → length es ≤ 65537
first_few es k =
    let z = part_few k.part k.fits in
    let l = ap length k.is in
    let n = length-append es k.rest in
    omega arith
