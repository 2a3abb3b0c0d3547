-- What holds of turns after every event. Assumes nothing.
use mathlib.Core.Path.{◌≡◌, refl, sym, ap, subst, ◌∙◌}
use mathlib.Core.Bool.{Bool, true, false, cond, ◌&&◌, true≢false}
use mathlib.Core.List.{List, [], ◌∷◌, map}
use Prim.Native.Nat.{ℕ, zero, suc, ◌+◌, ◌≤◌, ◌<◌}
use native.Mathlib.Omega.{arith}
use lib.ListN.{length, get_or, length-set}
use lib.Dec.{leb, eqb}
use borrow.Author.Tests.{leb-false, eqb-true, eqb-false}
use Rattle.dispatcher.specs.declared.Caller.{Caller}
use Rattle.dispatcher.specs.declared.Dispatcher.{Dispatcher}
use Rattle.dispatcher.specs.Dispatcher.{nobody, no_caller, caller_at, with_caller, pending_at, requested_at, quota_at, used_at, fits, next_turn, with_turn, passes, settled, newcomer, fresh, in_frame, with_pending, observes, runs, starts}
use Rattle.dispatcher.specs.Events.{Event, submitted, observed, started, ended, nothing, moved, idle_after, Allowed}
use Rattle.dispatcher.proofs.Rounds.{never, gap, Reached, reach, first_small, first_held}
use Rattle.dispatcher.proofs.Rooms.{fits_told, kept_frame, used_frame, fits_frame, length_frame, fits_by, other_kept, same_kept, charged_within}

-- ---- the invariant

-- All of it but that somebody has the turn if somebody fits.
pub record Pre (idle : Bool) (t : Dispatcher) : Type 0 where
  pub callers8 : length t.callers ≡ 8
  pub last8 : t.last < 8
  pub turn8 : t.turn ≤ 8
  pub busy : idle ≡ false → t.turn ≡ 8
  pub held : idle ≡ true → t.turn < 8 → fits t t.turn ≡ true
  pub within : (c : ℕ) → used_at t c ≤ quota_at t c

-- "nobody's while a transfer is under way"; who has the turn fits, and where nobody has it nobody fits.
pub record Good (idle : Bool) (t : Dispatcher) : Type 0 where
  pub pre : Pre idle t
  pub none : idle ≡ true → 8 ≤ t.turn → (c : ℕ) → c < 8 → fits t c ≡ false

-- ---- the next turn

pub next_reach : (t : Dispatcher) → t.last < 8 → (c : ℕ) → c < 8 → fits t c ≡ true → Reached (fits t) t.last c (next_turn t)
next_reach t h c k f = reach 8 (fits t) t.last c h k f (small t.last)
  where
    small : (i : ℕ) → gap i c ≤ 8
    small i = omega arith

pub next_small : (t : Dispatcher) → t.last < 8 → next_turn t ≤ 8
next_small t h = first_small 8 (fits t) t.last h

pub next_held : (t : Dispatcher) → next_turn t < 8 → fits t (next_turn t) ≡ true
next_held t k = first_held 8 (fits t) t.last k

next_none : (t : Dispatcher) → t.last < 8 → 8 ≤ next_turn t → (c : ℕ) → c < 8 → fits t c ≡ false
next_none t h n c k = go (fits t c) refl
  where
    go : (b : Bool) → fits t c ≡ b → b ≡ false
    go false e = refl
    go true e = absurd (never (next_turn t) n (next_reach t h c k e).small)

-- ---- every event keeps it

-- Nobody's turn, then the next that fits.
with_turn_pre : (t : Dispatcher) (idle : Bool) → Pre idle t → Pre true (passes t)
with_turn_pre t idle p = record {
  callers8 = p.callers8;
  last8 = p.last8;
  turn8 = next_small t p.last8;
  busy = λ e. absurd (true≢false e);
  held = λ e h. next_held t h;
  within = p.within;
}

passes_good : (idle : Bool) (t : Dispatcher) → Pre idle t → Good true (passes t)
passes_good idle t p = record { pre = with_turn_pre t idle p; none = λ e h. next_none t p.last8 h }

settled_good : (idle : Bool) (t : Dispatcher) → Pre idle t → Good idle (settled idle t)
settled_good false t p = record { pre = p; none = λ e. absurd (true≢false (sym e)) }
settled_good true t p = go (leb nobody t.turn) refl
  where
    go : (b : Bool) → leb nobody t.turn ≡ b → Good true (with_turn t (cond b (next_turn t) t.turn))
    go true e = passes_good true t p
    go false e = record { pre = p; none = λ q h. absurd (never t.turn h (leb-false nobody t.turn e)) }

frame_pre : (idle : Bool) (t : Dispatcher) (f : ℕ) → Pre idle t → Pre idle (in_frame t f)
frame_pre idle t f p = record {
  callers8 = length_frame (eqb f t.frame) t.callers ∙ p.callers8;
  last8 = p.last8;
  turn8 = p.turn8;
  busy = p.busy;
  held = λ e h. fits_frame t f t.turn (p.held e h);
  within = λ c. let s = used_frame t f c in let w = p.within c in let k = (kept_frame t f c).2 in omega (arith, s, w, k);
}

-- A caller that fits isn't the one that comes, and goes on fitting.
pub still_fits : (t : Dispatcher) (c n d : ℕ) → pending_at t c ≡ false → fits t d ≡ true → fits (with_pending t c n) d ≡ true
still_fits t c n d e h =
    let other : (d ≡ c) → ⊥ = λ q. true≢false (sym (fits_told t d h).0 ∙ ap (pending_at t) q ∙ e) in
    ap fits_by (other_kept t c _ d other) ∙ h

-- A state of c that is within its share leaves all within theirs.
caller_within : (t : Dispatcher) (c : ℕ) (x : Caller) → length t.callers ≡ 8 → c < 8 → x.used ≤ x.quota → ((d : ℕ) → used_at t d ≤ quota_at t d) → (d : ℕ) → used_at (with_caller t c x) d ≤ quota_at (with_caller t c x) d
caller_within t c x l h m w d = go (eqb d c) refl
  where
    Within : Caller → Type 0
    Within y = y.used ≤ y.quota

    go : (b : Bool) → eqb d c ≡ b → Within (caller_at (with_caller t c x) d)
    go true e = subst (λ (i : ℕ). Within (caller_at (with_caller t c x) i)) (sym (eqb-true d c e)) (subst Within (sym (same_kept t c x l h)) m)
    go false e = subst Within (sym (other_kept t c x d (eqb-false d c e))) (w d)

submit_pre : (idle : Bool) (t : Dispatcher) (c n : ℕ) → c < 8 → pending_at t c ≡ false → Pre idle t → Pre idle (with_pending t c n)
submit_pre idle t c n h e p = record {
  callers8 = length-set t.callers c _ ∙ p.callers8;
  last8 = p.last8;
  turn8 = p.turn8;
  busy = p.busy;
  held = λ q k. still_fits t c n t.turn e (p.held q k);
  within = caller_within t c _ p.callers8 h (p.within c) p.within;
}

start_good : (t : Dispatcher) (c n : ℕ) → c < 8 → Pre true t → Good false (starts t c n)
start_good t c n h p = record {
  pre = record {
    callers8 = length-set t.callers c (runs t c n) ∙ p.callers8;
    last8 = h;
    turn8 = omega arith;
    busy = λ e. refl;
    held = λ e. absurd (true≢false (sym e));
    within = caller_within t c (runs t c n) p.callers8 h (charged_within t c n (p.within c)) p.within;
  };
  none = λ e. absurd (true≢false (sym e));
}

pub look_good : (idle : Bool) (t : Dispatcher) (f : ℕ) → Good idle t → Good idle (observes idle t f)
look_good idle t f g = settled_good idle (in_frame t f) (frame_pre idle t f g.pre)

pub move_good : (idle : Bool) (t : Dispatcher) (x : Event) → Allowed idle t x → Good idle t → Good (idle_after idle x) (moved idle t x)
move_good idle t (submitted c n f) a g = settled_good idle (with_pending (in_frame t f) c n) (submit_pre idle (in_frame t f) c n a.0 ((kept_frame t f c).0 ∙ a.1) (frame_pre idle t f g.pre))
move_good idle t (observed f) a g = look_good idle t f g
move_good true t (started c f) a g = start_good (observes true t f) c (requested_at t c) a.1 (look_good true t f g).pre
move_good false t (started c f) a g = absurd (true≢false (sym a.0))
move_good idle t ended a g = passes_good idle t g.pre
move_good idle t nothing a g = g

-- ---- at first

newcomers_at : (quota cs : List ℕ) (c : ℕ) → let x = get_or (map (newcomer quota) cs) c no_caller in (x.pending ≡ false) × (x.used ≡ 0)
newcomers_at quota [] c = (refl, refl)
newcomers_at quota (e ∷ cs) zero = (refl, refl)
newcomers_at quota (e ∷ cs) (suc c) = newcomers_at quota cs c

-- Nobody waits, and nothing is spent.
pub fresh_at : (quota : List ℕ) (c : ℕ) → (pending_at (fresh quota) c ≡ false) × (used_at (fresh quota) c ≡ 0)
fresh_at quota c = newcomers_at quota (0 ∷ 1 ∷ 2 ∷ 3 ∷ 4 ∷ 5 ∷ 6 ∷ 7 ∷ []) c

-- Each of the eight has its share.
pub fresh_share : (quota : List ℕ) (c : ℕ) → c < 8 → quota_at (fresh quota) c ≡ get_or quota c 0
fresh_share quota zero h = refl
fresh_share quota (suc zero) h = refl
fresh_share quota (suc (suc zero)) h = refl
fresh_share quota (suc (suc (suc zero))) h = refl
fresh_share quota (suc (suc (suc (suc zero)))) h = refl
fresh_share quota (suc (suc (suc (suc (suc zero))))) h = refl
fresh_share quota (suc (suc (suc (suc (suc (suc zero)))))) h = refl
fresh_share quota (suc (suc (suc (suc (suc (suc (suc zero))))))) h = refl
fresh_share quota (suc (suc (suc (suc (suc (suc (suc (suc c)))))))) h = absurd (omega arith)

none_fits : (quota : List ℕ) (c : ℕ) → fits (fresh quota) c ≡ false
none_fits quota c = ap (λ (b : Bool). b && leb (used_at (fresh quota) c + requested_at (fresh quota) c) (quota_at (fresh quota) c)) (fresh_at quota c).0

pub fresh_good : (quota : List ℕ) → Good true (fresh quota)
fresh_good quota = record {
  pre = record {
    callers8 = refl;
    last8 = omega arith;
    turn8 = omega arith;
    busy = λ e. refl;
    held = λ e h. absurd (never 8 (omega arith) h);
    within = λ c. let z = (fresh_at quota c).1 in omega (arith, z);
  };
  none = λ e h c k. none_fits quota c;
}
