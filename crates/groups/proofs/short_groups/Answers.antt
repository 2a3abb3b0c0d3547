-- 35, then 21, then the first part of the constant. Assumes nothing.
-- As many bytes of the list for 6 as that for n has are that for n.
use mathlib.Core.Path.{◌≡◌, ap, ap₂, sym, ◌∙◌}
use mathlib.Core.List.{List, ◌++◌}
use Prim.Native.Nat.{ℕ, ◌≤◌, ◌<◌}
use native.Mathlib.Omega.{arith}
use lib.ListN.{length, take, drop}
use lib.Seq.{sets, sets-eq}
use borrow.Author.Tests.{lt-leb, le-leb}
use Rattle.groups.specs.Groups.{collect, groups_to}
use Rattle.groups.specs.Listing.{bytes_of, list_bytes}
use Rattle.groups.proofs.Table.{is_prefix}
use Rattle.groups.proofs.short_groups.Goals as goal

first_is : (n k : ℕ) → n ≤ 6 → k ≡ length (list_bytes n) → take k (list_bytes 6) ≡ list_bytes n
first_is n k h e = ap (λ (i : ℕ). take i (list_bytes 6)) e ∙ is_prefix n h

-- The list for n, stored from the first byte on.
list_put : (n k : ℕ) (out part : List ℕ) → n ≤ 6 → k ≡ length (list_bytes n) → k ≤ length out → part ≡ take k (list_bytes 6) → part ++ drop k out ≡ sets out 0 (list_bytes n)
list_put n k out part h e room p =
    ap₂ (λ (l : List ℕ) (i : ℕ). l ++ drop i out) (p ∙ first_is n k h e) (omega (arith, e)) ∙ sym (sets-eq (list_bytes n) out 0 (omega (arith, e, room)))

pub returns-then-out-k : goal.returns-then-out-k
returns-then-out-k c =
    let a = c.args in
    let few : length a.out.now < length (list_bytes a.n) = omega (arith, c.if-out-k.true, c.end_of-k.ensures.0) in
    let low : a.n ≤ 6 = omega (arith, c.if-n-gt-MAX_LIMIT.false) in
    record { answer = rw (le-leb _ _ low, lt-leb _ _ few); bytes = rw (le-leb _ _ low, lt-leb _ _ few) }

pub returns : goal.returns
unfolding groups_to collect bytes_of
returns c =
    let if2 = c.if-out-k.false in
    let end_of = c.end_of-k in
    let if1 = c.if-n-gt-MAX_LIMIT.false in
    let a = c.args in
    let room : length (list_bytes a.n) ≤ length a.out.now = omega (arith, if2, end_of.ensures.0) in
    let low : a.n ≤ 6 = omega (arith, if1) in
    record {
      answer = rw (le-leb _ _ low, le-leb _ _ room, end_of.ensures.0);
      bytes = rw (le-leb _ _ low, le-leb _ _ room) (list_put a.n end_of.result a.out.now _ low end_of.ensures.0 if2 c.copy_from_slice.ensures.after);
    }
