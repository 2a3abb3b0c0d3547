-- `Pool::alloc` meets its contract: what `set_any` took is handed out where it is below the total. Assumes nothing.
use Rattle.std.specs.Prelude.{Some}
use Prim.Native.Nat.{ℕ, min}
use borrow.Author.Tests.{lt-ltb, le-ltb}
use mathlib.Core.Path.{ap, ap₂, sym, ◌∙◌}
use native.Mathlib.Omega.{arith}
use Rattle.pool.specs.declared.bitset.BitSet.{BitSet}
use Rattle.pool.specs.Pool.{alloc_of}
use Rattle.pool.specs.Set.{set_any_of, lowest_out}
use Rattle.pool.proofs.Sets.{option_some, option_none}
use Rattle.pool.proofs.async_pool.Pool.alloc.Goals as goal

pub returns-in_default-2 : goal.returns-in_default-2
unfolding alloc_of set_any_of
returns-in_default-2 c =
    let p = c.args.self in
    let low = lowest_out p.allocated.0 in
    let taken = c.set_any-taken.ensures in
    let none = option_none low (sym (ap (λ t. t.number) taken) ∙ c.in_default.is) in
    simp (le-ltb low (min p.total 32) (omega arith))

pub returns-in_default : goal.returns-in_default
unfolding alloc_of set_any_of
returns-in_default c =
    let p = c.args.self in
    let low = lowest_out p.allocated.0 in
    let taken = c.set_any-taken.ensures in
    let some = option_some low _ (sym (ap (λ t. t.number) taken) ∙ c.in-Some.is) in
    simp (le-ltb low (min p.total 32) (omega arith))

pub returns-in-Some : goal.returns-in-Some
unfolding alloc_of set_any_of
returns-in-Some c =
    let p = c.args.self in
    let low = lowest_out p.allocated.0 in
    let taken = c.set_any-taken.ensures in
    let some = option_some low _ (sym (ap (λ t. t.number) taken) ∙ c.in-Some.is) in
    simp (lt-ltb low (min p.total 32) (omega arith))
    (ap₂ (λ (a : BitSet) (i : ℕ). record { pool = record { total = p.total; allocated = a }; index = Some (record { 0 = i }) })
    (ap (λ t. t.set) taken) (sym some.0))
