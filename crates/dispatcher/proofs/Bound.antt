-- "at most seven transfers of others end between a caller's coming and its turn", counted from when its remainder suffices. Assumes nothing.
use mathlib.Core.Path.{◌≡◌, refl, sym, ap, ◌∙◌, subst}
use mathlib.Core.Logic.{◌⊎◌, inl, inr}
use mathlib.Core.Bool.{Bool, true, false, cond, ◌&&◌, true≢false}
use mathlib.Core.List.{List, [], ◌∷◌}
use Prim.Native.Nat.{ℕ, ◌+◌, ◌-◌, ◌%◌, ◌≤◌, ◌<◌}
use native.Mathlib.Omega.{arith}
use lib.Dec.{leb, eqb}
use borrow.Author.Tests.{leb-true, leb-false, lt-leb, eqb-false, ne_eqb}
use Rattle.dispatcher.specs.declared.Dispatcher.{Dispatcher}
use Rattle.dispatcher.specs.Dispatcher.{nobody, requested_at, fits, next_turn, passes, settled, whose, in_frame, with_pending, observes, runs, starts}
use Rattle.dispatcher.specs.Events.{Event, submitted, observed, started, ended, nothing, moved, idle_after, Allowed, AllAllowed, runner, ends_other, others_end}
use Rattle.dispatcher.proofs.Rounds.{gap}
use Rattle.dispatcher.proofs.Rooms.{kept_frame, fits_frame, fits_by, other_kept}
use Rattle.dispatcher.proofs.Turning.{Good, next_reach, still_fits, move_good}

-- So many transfers of others can still end before c has the turn: those of the callers from the one whose turn it is up to c; while one is under way those from it on, seven others if it is c's own.
abbrev pub left : Bool → Dispatcher → ℕ → ℕ
left true t c = (c + 8 - t.turn) % 8
left false t c = cond (eqb t.last c) 7 ((c + 8 - t.last) % 8)

pub left_seven : (idle : Bool) (t : Dispatcher) (c : ℕ) → left idle t c ≤ 7
left_seven true t c = omega arith
left_seven false t c = go (eqb t.last c)
  where
    go : (b : Bool) → cond b 7 ((c + 8 - t.last) % 8) ≤ 7
    go true = omega arith
    go false = omega arith

-- ---- one event

-- Where somebody fits somebody has the turn, and settling changes nothing.
turn_held : (idle : Bool) (t : Dispatcher) (c : ℕ) → Good idle t → c < 8 → fits t c ≡ true → idle ≡ true → t.turn < 8
turn_held idle t c g h f i = go (leb 8 t.turn) refl
  where
    go : (b : Bool) → leb 8 t.turn ≡ b → t.turn < 8
    go true e = absurd (true≢false (sym f ∙ g.none i (leb-true 8 t.turn e) c h))
    go false e = leb-false 8 t.turn e

stays : (idle : Bool) (t : Dispatcher) (n : ℕ) → (idle ≡ true → t.turn < 8) → cond (idle && leb nobody t.turn) n t.turn ≡ t.turn
stays false t n h = refl
stays true t n h = ap (λ (b : Bool). cond b n t.turn) (lt-leb nobody t.turn (h refl))

-- The same turn and the same last that started leave the same bound.
left_same : (idle : Bool) (t u : Dispatcher) (c : ℕ) → u.turn ≡ t.turn → u.last ≡ t.last → left idle u c ≡ left idle t c
left_same true t u c e h = ap (λ (x : ℕ). (c + 8 - x) % 8) e
left_same false t u c e h = ap (λ (x : ℕ). cond (eqb x c) 7 ((c + 8 - x) % 8)) h

-- c goes on fitting, the bound falls by one with each end of another's, and whose transfer is under way is the last that started.
record Nearer (c r : ℕ) (idle : Bool) (t : Dispatcher) (x : Event) : Type 0 where
  still : fits (moved idle t x) c ≡ true
  fewer : ends_other c r x + left (idle_after idle x) (moved idle t x) c ≤ left idle t c
  ran : idle_after idle x ≡ false → runner r x ≡ (moved idle t x).last

zero_plus : (a b : ℕ) → a ≡ b → 0 + a ≤ b
zero_plus a b e = omega arith

apart : (r c : ℕ) → (r ≡ c → ⊥) → (r < c) ⊎ (c < r)
apart r c e = go (leb r c) refl (leb c r) refl
  where
    go : (a : Bool) → leb r c ≡ a → (b : Bool) → leb c r ≡ b → (r < c) ⊎ (c < r)
    go true p true q = absurd (e (let m = leb-true r c p in let n = leb-true c r q in omega arith))
    go true p false q = inl (leb-false c r q)
    go false p b q = inr (leb-false r c p)

-- When a transfer of r ended the turn went to j.
end_near : (r c j : ℕ) → r < 8 → c < 8 → j < 8 → (j ≡ c) ⊎ (gap j c < gap r c) → cond (eqb r c) 0 1 + (c + 8 - j) % 8 ≤ cond (eqb r c) 7 ((c + 8 - r) % 8)
end_near r c j hr hc hj n = go (eqb r c) refl n
  where
    near : (r < c) ⊎ (c < r) → gap j c < gap r c → 1 + (c + 8 - j) % 8 ≤ (c + 8 - r) % 8
    near (inl l) q = omega arith
    near (inr l) q = omega arith

    own : (r < c) ⊎ (c < r) → 1 + (c + 8 - c) % 8 ≤ (c + 8 - r) % 8
    own (inl l) = omega arith
    own (inr l) = omega arith

    go : (b : Bool) → eqb r c ≡ b → (j ≡ c) ⊎ (gap j c < gap r c) → cond b 0 1 + (c + 8 - j) % 8 ≤ cond b 7 ((c + 8 - r) % 8)
    go true e q = omega arith
    go false e (inl q) = subst (λ (x : ℕ). 1 + (c + 8 - x) % 8 ≤ (c + 8 - r) % 8) (sym q) (own (apart r c (eqb-false r c e)))
    go false e (inr q) = near (apart r c (eqb-false r c e)) q

nearer : (c r : ℕ) (idle : Bool) (t : Dispatcher) (x : Event) → Good idle t → Allowed idle t x → c < 8 → fits t c ≡ true → (idle ≡ false → r ≡ t.last) → (whose idle t ≡ c → ⊥) → Nearer c r idle t x
nearer c r idle t (submitted d n g) k a h f rl nt =
    let u = with_pending (in_frame t g) d n in
    record {
      still = still_fits (in_frame t g) d n c ((kept_frame t g d).0 ∙ a.1) (fits_frame t g c f);
      fewer = zero_plus (left idle (settled idle u) c) (left idle t c) (left_same idle t (settled idle u) c (stays idle u (next_turn u) (turn_held idle t c k h f)) refl);
      ran = rl;
    }
nearer c r idle t (observed g) k a h f rl nt =
    let u = in_frame t g in
    record {
      still = fits_frame t g c f;
      fewer = zero_plus (left idle (settled idle u) c) (left idle t c) (left_same idle t (settled idle u) c (stays idle u (next_turn u) (turn_held idle t c k h f)) refl);
      ran = rl;
    }
nearer c r true t (started d g) k a h f rl nt =
    let u = in_frame t g in
    let v = observes true t g in
    let turn_d : t.turn ≡ d = sym (stays true u (next_turn u) (turn_held true t c k h f)) ∙ a.2 in
    let ne : (c ≡ d) → ⊥ = λ e. nt (turn_d ∙ sym e) in
    record {
      still = ap fits_by (other_kept v d (runs v d (requested_at t d)) c ne) ∙ fits_frame t g c f;
      fewer = zero_plus (left false (starts v d (requested_at t d)) c) (left true t c)
          (ap (λ (b : Bool). cond b 7 ((c + 8 - d) % 8)) (ne_eqb d c (λ e. ne (sym e))) ∙ ap (λ (x : ℕ). (c + 8 - x) % 8) (sym turn_d));
      ran = λ e. refl;
    }
nearer c r false t (started d g) k a h f rl nt = absurd (true≢false (sym a.0))
nearer c r false t ended g a h f rl nt =
    let q = next_reach t g.pre.last8 c h f in
    record {
      still = f;
      fewer = subst (λ (x : ℕ). cond (eqb x c) 0 1 + left true (passes t) c ≤ left false t c) (sym (rl refl)) (end_near t.last c (next_turn t) g.pre.last8 h q.small q.nearer);
      ran = λ e. absurd (true≢false e);
    }
nearer c r true t ended g a h f rl nt = absurd (true≢false a)
nearer c r idle t nothing g a h f rl nt = record { still = f; fewer = zero_plus (left idle t c) (left idle t c) refl; ran = rl }

-- ---- every list of events

sum_le : (a b p q : ℕ) → b ≤ p → a + p ≤ q → a + b ≤ q
sum_le a b p q h k = omega arith

-- From any moment at which c waits and its remainder is large enough, no more than `left` transfers of others end before it has the turn.
pub bound : (xs : List Event) (idle : Bool) (t : Dispatcher) (c r : ℕ) → Good idle t → AllAllowed idle t xs → c < 8 → fits t c ≡ true → (idle ≡ false → r ≡ t.last)
    → others_end c r idle t xs ≤ left idle t c
unfolding others_end
bound [] idle t c r g a h f rl = omega arith
bound (x ∷ xs) idle t c r g a h f rl = go (eqb (whose idle t) c) refl (λ n. bound xs (idle_after idle x) (moved idle t x) c (runner r x) (move_good idle t x a.0 g) a.1 h n.still n.ran)
  where
    go : (b : Bool) → eqb (whose idle t) c ≡ b → (Nearer c r idle t x → others_end c (runner r x) (idle_after idle x) (moved idle t x) xs ≤ left (idle_after idle x) (moved idle t x) c)
        → cond b 0 (ends_other c r x + others_end c (runner r x) (idle_after idle x) (moved idle t x) xs) ≤ left idle t c
    go true e rest = omega arith
    go false e rest =
        let n = nearer c r idle t x g a.0 h f rl (eqb-false (whose idle t) c e) in
        sum_le (ends_other c r x) (others_end c (runner r x) (idle_after idle x) (moved idle t x) xs) (left (idle_after idle x) (moved idle t x) c) (left idle t c) (rest n) n.fewer
