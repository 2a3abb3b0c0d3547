-- Where the turn goes, and what is stored against it. Assumes nothing.
use mathlib.Core.Path.{◌≡◌, refl, sym, ap, ◌∙◌}
use mathlib.Core.Bool.{Bool, true, false, cond, true≢false}
use Prim.Native.Nat.{ℕ, ◌≤◌, ◌<◌}
use native.Mathlib.Omega.{arith}
use lib.Dec.{leb, eqb}
use borrow.Author.Tests.{leb-true, leb-false, le-leb, eqb-true, eqb-false}
use Rattle.dispatcher.specs.declared.Caller.{Caller}
use Rattle.dispatcher.specs.declared.Dispatcher.{Dispatcher}
use Rattle.dispatcher.specs.Dispatcher.{nobody, pending_at, fits, next_turn, with_turn, passes, current, whose, in_frame, with_pending, submits}
use Rattle.dispatcher.proofs.Rounds.{Reached}
use Rattle.dispatcher.proofs.Rooms.{fits_told, kept_frame, other_kept}
use Rattle.dispatcher.proofs.Turning.{Good, next_reach, next_small, next_held}

-- ---- what is stored, as of now

-- "When a transfer ends, by cancel too, the turn passes": stored while the transfer was under way, the state is now the one whose turn has passed.
pub current_ended : (t : Dispatcher) → Good false t → current true t ≡ passes t
current_ended t g = ap (λ (b : Bool). with_turn t (cond b (next_turn t) t.turn)) (le-leb nobody t.turn (big t.turn (g.pre.busy refl)))
  where
    big : (x : ℕ) → x ≡ 8 → 8 ≤ x
    big x e = omega arith

-- What is up to date stays as it is.
pub current_same : (idle : Bool) (t : Dispatcher) → Good idle t → current idle t ≡ t
current_same false t g = refl
current_same true t g = go (leb nobody t.turn) refl
  where
    eight : 8 ≤ t.turn → next_turn t ≡ t.turn
    eight h = at (leb 8 (next_turn t)) refl
      where
        same : (x y : ℕ) → 8 ≤ x → x ≤ 8 → 8 ≤ y → y ≤ 8 → x ≡ y
        same x y p q r s = omega arith

        at : (b : Bool) → leb 8 (next_turn t) ≡ b → next_turn t ≡ t.turn
        at true e = same (next_turn t) t.turn (leb-true 8 (next_turn t) e) (next_small t g.pre.last8) h g.pre.turn8
        at false e =
            let k = leb-false 8 (next_turn t) e in
            absurd (true≢false (sym (next_held t k) ∙ g.none refl h (next_turn t) k))

    go : (b : Bool) → leb nobody t.turn ≡ b → with_turn t (cond b (next_turn t) t.turn) ≡ t
    go true e = ap (with_turn t) (eight (leb-true nobody t.turn e))
    go false e = refl

-- ---- where the turn goes

-- "With none under way or waiting, the next to come has the turn.": if its remainder is large enough.
pub first_submit : (t : Dispatcher) (c n f : ℕ) → Good true t → ((e : ℕ) → e < 8 → pending_at t e ≡ false) → c < 8 → fits (with_pending (in_frame t f) c n) c ≡ true
    → whose true (submits true t c n f) ≡ c
first_submit t c n f g none h fit =
    ap (λ (b : Bool). cond b (next_turn u) t.turn) (le-leb nobody t.turn (free (leb 8 t.turn) refl))
    ∙ only (next_turn u) r.small (fits_told u (next_turn u) r.good).0
  where
    u : Dispatcher
    u = with_pending (in_frame t f) c n

    free : (b : Bool) → leb 8 t.turn ≡ b → 8 ≤ t.turn
    free true e = leb-true 8 t.turn e
    free false e =
        let k = leb-false 8 t.turn e in
        absurd (true≢false (sym (fits_told t t.turn (g.pre.held refl k)).0 ∙ none t.turn k))

    only : (e : ℕ) → e < 8 → pending_at u e ≡ true → e ≡ c
    only e he w = go (eqb e c) refl
      where
        go : (b : Bool) → eqb e c ≡ b → e ≡ c
        go true q = eqb-true e c q
        go false q =
            absurd (true≢false (sym w ∙ ap (λ (x : Caller). x.pending) (other_kept (in_frame t f) c _ e (eqb-false e c q)) ∙ (kept_frame t f e).0 ∙ none e he))

    r : Reached (fits u) t.last c (next_turn u)
    r = next_reach u g.pre.last8 c h fit
