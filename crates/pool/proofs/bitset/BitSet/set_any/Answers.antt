-- `BitSet::set_any` meets its contract: the zeros below the lowest bit of the complement count up to the lowest clear bit. Assumes nothing.
use Rattle.std.specs.Prelude.{Option}
use Prim.Native.Nat.{ℕ}
use mathlib.Core.Path.{ap, ap₂, sym, ◌∙◌}
use native.Mathlib.Omega.{arith}
use Rattle.pool.specs.Set.{insert, lowest_out, option_of, set_any_of}
use Rattle.pool.proofs.Sets.{insert_past, option_in, option_out}
use Rattle.pool.proofs.Words.{trailing_not}
use Rattle.pool.proofs.bitset.BitSet.set_any.Goals as goal

pub returns-then-next-lt32 : goal.returns-then-next-lt32
unfolding set_any_of
returns-then-next-lt32 c =
    let s = c.args.self.0 in
    let e = trailing_not s (omega arith) in
    ap₂ (λ (x : ℕ) (o : Option ℕ). record { set = record { 0 = x }; number = o }) (c.set.ensures ∙ ap (insert s) e)
    (sym (option_in _ c.if-next-lt32.true) ∙ ap option_of e)

pub returns-else-next-lt32 : goal.returns-else-next-lt32
unfolding set_any_of
returns-else-next-lt32 c =
    let s = c.args.self.0 in
    let e = trailing_not s (omega arith) in
    ap₂ (λ (x : ℕ) (o : Option ℕ). record { set = record { 0 = x }; number = o })
    (sym (insert_past s (lowest_out s) (omega arith) (omega arith)))
    (sym (option_out _ c.if-next-lt32.false) ∙ ap option_of e)
