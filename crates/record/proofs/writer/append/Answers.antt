-- `append` refuses with 15, 19, 21 in this order, else it appends what was armed and the count.
-- Assumes nothing.
use Rattle.std.specs.Prelude.{Option, Ok}
use mathlib.Core.Path.{◌≡◌, refl, ap, sym, subst, ◌∙◌}
use mathlib.Core.Bool.{true}
use mathlib.Core.List.{List}
use native.Mathlib.Omega.{arith}
use Rattle.std.proofs.Common.{rules}
use Rattle.record.proofs.Encoding.{told_size}
use Prim.Native.Nat.{ℕ, ◌+◌, ◌-◌, ◌≤◌, ◌<◌}
use lib.ListN.{length}
use borrow.Author.Tests.{eq-eqb, ne_eqb, le-leb, lt-leb}
use Rattle.transfers.specs.Reply.{result}
use Rattle.transfers.specs.declared.answers.Armed.{Armed}
use Rattle.record.specs.Writer.{armed_in_range, armed_size, count_size, head_size, told_bytes, append_of, Put, Appended}
use Rattle.record.proofs.writer.append.Goals as goal

pub returns-in_default : goal.returns-in_default
unfolding append_of
returns-in_default c =
    let few : length c.args.pm.now ≡ 4096 → ⊥ = search rules in
    simp (ne_eqb _ _ few) (record { answer = refl; bytes = refl })

pub returns-then-not-armed_in_range : goal.returns-then-not-armed_in_range
unfolding append_of
returns-then-not-armed_in_range c =
    let e : length c.args.pm.now ≡ 4096 = search rules in
    simp (eq-eqb _ _ e, sym c.armed_in_range.ensures ∙ c.if-not-armed_in_range.true) (record { answer = refl; bytes = refl })

pub returns-in_default-checked_sub : goal.returns-in_default-checked_sub
unfolding append_of
returns-in_default-checked_sub c =
    let a = c.args in
    let e : length a.pm.now ≡ 4096 = search rules in
    let g = sym c.armed_in_range.ensures ∙ c.if-not-armed_in_range.false in
    let few : length a.bytes.now < a.used = omega (arith, c.in_default-checked_sub.ensures) in
    simp (eq-eqb _ _ e, g, lt-leb (a.used + length (told_bytes a.armed a.failed a.pm.now a.used)) (length a.bytes.now) (omega (arith, few))) (record { answer = refl; bytes = refl })

pub returns-then-room-n : goal.returns-then-room-n
unfolding append_of
returns-then-room-n c =
    let a = c.args in
    let e : length a.pm.now ≡ 4096 = search rules in
    let g = sym c.armed_in_range.ensures ∙ c.if-not-armed_in_range.false in
    let s = told_size a.armed a.failed a.pm.now a.used e g in
    let r : (a.used ≤ length a.bytes.now) × (c.in-Some.room ≡ length a.bytes.now - a.used) = c.in-Some.ensures in
    simp (eq-eqb _ _ e, g, lt-leb (a.used + length (told_bytes a.armed a.failed a.pm.now a.used)) (length a.bytes.now) (omega (arith, s, c.size-n.ensures, r))) (record { answer = refl; bytes = refl })

pub put_told-requires : goal.put_told-requires
put_told-requires c =
    let a = c.args in
    let r : (a.used ≤ length a.bytes.now) × (c.in-Some.room ≡ length a.bytes.now - a.used) = c.in-Some.ensures in
    (omega (arith, c.size-n.ensures, r), sym c.armed_in_range.ensures ∙ c.if-not-armed_in_range.false)

-- What is appended, where it fits.
told : (armed : Armed) (failed : Option ℕ) (pm pm' l l' : List ℕ) (used n : ℕ) → length pm ≡ 4096 → armed_in_range armed ≡ true → pm' ≡ pm
    → used + (head_size used + armed_size armed + count_size failed) ≤ length l → Put l used (told_bytes armed failed pm' used) l' n → Appended (append_of armed failed pm l used) (Ok n) l'
unfolding append_of
told armed failed pm pm' l l' used n e g same room p =
    let q = subst (λ (m : List ℕ). Put l used (told_bytes armed failed m used) l' n) same p in
    let s = told_size armed failed pm used e g in
    simp (eq-eqb _ _ e, g, le-leb (used + length (told_bytes armed failed pm used)) (length l) (omega (arith, s, room))) (record { answer = ap result q.next; bytes = q.bytes })

pub returns : goal.returns
returns c =
    let a = c.args in
    let e : length a.pm.now ≡ 4096 = search rules in
    let same : c.in-Ok.pm.now ≡ a.pm.now = search rules in
    let r : (a.used ≤ length a.bytes.now) × (c.in-Some.room ≡ length a.bytes.now - a.used) = c.in-Some.ensures in
    told a.armed a.failed a.pm.now c.in-Ok.pm.now a.bytes.now _ a.used _ e (sym c.armed_in_range.ensures ∙ c.if-not-armed_in_range.false) same (omega (arith, c.size-n.ensures, r)) c.put_told.ensures
