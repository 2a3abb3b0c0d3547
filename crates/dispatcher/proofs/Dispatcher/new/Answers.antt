-- Eight shares make eight callers. Assumes nothing.
use Rattle.std.proofs.Common.{◌≡◌, false, ℕ, List, [], ◌∷◌, length, map, refl, ap, ◌∙◌, rules, arith}
use Rattle.dispatcher.specs.declared.Caller.{Caller}
use Rattle.dispatcher.specs.declared.Dispatcher.{Dispatcher}
use Rattle.dispatcher.specs.Dispatcher.{nobody, newcomer}
use Rattle.dispatcher.proofs.Mapped.{mapped}
use Rattle.dispatcher.proofs.Dispatcher.new.Goals as goal

-- A caller that waits for nothing, with this share.
abbrev sharing : ℕ → Caller
sharing q = record { pending = false; requested = 0; quota = q; used = 0 }

eight : (quota : List ℕ) → length quota ≡ 8 → map sharing quota ≡ map (newcomer quota) (0 ∷ 1 ∷ 2 ∷ 3 ∷ 4 ∷ 5 ∷ 6 ∷ 7 ∷ [])
eight [] h0 = absurd (omega arith)
eight (a ∷ []) h0 = absurd (omega arith)
eight (a ∷ b ∷ []) h0 = absurd (omega arith)
eight (a ∷ b ∷ c ∷ []) h0 = absurd (omega arith)
eight (a ∷ b ∷ c ∷ d ∷ []) h0 = absurd (omega arith)
eight (a ∷ b ∷ c ∷ d ∷ e ∷ []) h0 = absurd (omega arith)
eight (a ∷ b ∷ c ∷ d ∷ e ∷ f ∷ []) h0 = absurd (omega arith)
eight (a ∷ b ∷ c ∷ d ∷ e ∷ f ∷ g ∷ []) h0 = absurd (omega arith)
eight (a ∷ b ∷ c ∷ d ∷ e ∷ f ∷ g ∷ h ∷ []) h0 = refl
eight (a ∷ b ∷ c ∷ d ∷ e ∷ f ∷ g ∷ h ∷ i ∷ l) h0 = absurd (omega arith)

pub returns : goal.returns
returns c =
    let q = c.args.quota in
    let n : length q ≡ 8 = search rules in
    let e = mapped _ _ sharing q c.map.result 8 0 c.map.ensures.items n (λ p x y f k. search rules) in
    ap (λ (l : List Caller). let t : Dispatcher = record { callers = l; turn = nobody; last = 7; frame = 0 } in t) (e ∙ eight q n)
