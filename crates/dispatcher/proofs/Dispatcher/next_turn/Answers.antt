-- `Dispatcher::next_turn` is `next_turn`: at every turn of the loop, what is left to search finds what there was to find. Assumes nothing.
use mathlib.Core.Path.{◌≡◌, sym, ap, ◌∙◌}
use Prim.Native.Nat.{ℕ, ◌+◌, ◌-◌, ◌<◌}
use native.Mathlib.Omega.{arith}
use Rattle.dispatcher.specs.Dispatcher.{fits, first_from}
use Rattle.dispatcher.proofs.Rounds.{first_here, first_on, first_end}
use Rattle.dispatcher.proofs.Dispatcher.next_turn.Goals as goal

pub returns-then-fits : goal.returns-then-fits
returns-then-fits c =
    let e = c.after-i.ensures in
    let l = c.loop in
    let self = c.args.self.now in
    let b : 0 < 8 - l.counter = omega arith in
    e ∙ sym (first_here (8 - l.counter) (fits self) l.i b (ap (fits self) (sym e) ∙ sym c.fits.ensures ∙ c.if-fits.true)) ∙ l.invariant

pub loop-preserved : goal.loop-preserved
loop-preserved c =
    let e = c.after-i.ensures in
    let l = c.loop in
    let self = c.args.self.now in
    let b : 0 < 8 - l.counter = omega arith in
    let z : 8 - (l.counter + 1) ≡ 8 - l.counter - 1 = omega arith in
    ap (λ (m : ℕ). first_from m (fits self) c.after-i.result) z ∙ ap (first_from (8 - l.counter - 1) (fits self)) e
    ∙ sym (first_on (8 - l.counter) (fits self) l.i b (ap (fits self) (sym e) ∙ sym c.fits.ensures ∙ c.if-fits.false)) ∙ l.invariant

pub returns : goal.returns
returns c =
    let l = c.loop in
    let self = c.args.self.now in
    let z : 8 - l.counter ≡ 0 = omega arith in
    sym (first_end (8 - l.counter) (fits self) l.i z) ∙ l.invariant
