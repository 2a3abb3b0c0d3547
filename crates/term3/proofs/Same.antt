-- What the calls tell of the callers and what the dispatcher holds move alike. Assumes nothing.
use mathlib.Core.Path.{◌≡◌, refl, sym, ap, ap₂, ◌∙◌}
use mathlib.Core.Bool.{Bool, true, false, cond, not, ◌&&◌, true≢false}
use mathlib.Core.List.{map}
use Prim.Native.Nat.{ℕ, zero, suc, ◌+◌, ◌%◌, ◌<◌}
use native.Mathlib.Omega.{arith}
use lib.ListN.{length, get_or}
use lib.Dec.{eqb, leb}
use borrow.Author.Tests.{eqb-true, eqb-false}
use Rattle.dispatcher.specs.declared.Caller.{Caller}
use Rattle.dispatcher.specs.declared.Dispatcher.{Dispatcher}
use Rattle.dispatcher.specs.Dispatcher.{no_caller, caller_at, with_caller, pending_at, requested_at, quota_at, used_at, after, first_from, unspent, charged}
use Rattle.dispatcher.specs.Dispatcher as T
use Rattle.dispatcher.proofs.Rounds.{after_mod, after_lt}
use Rattle.dispatcher.proofs.Rooms.{fits_told, unspent_at, kept_frame, other_kept, same_kept, charged_all}
use Rattle.term3.specs.Callers.{Coming, requested, Callers, put, fits, first_that, next_turn, finds, in_frame, joins, looks, runs, ends}

-- Told (t) and held (u) alike; i says that no transfer is under way.
pub record Same (t : Callers) (i : Bool) (u : Dispatcher) : Type 0 where
  pub busy : t.under_way ≡ not i
  pub waits : (c : ℕ) → c < 8 → t.waits c ≡ pending_at u c
  pub asks : (c : ℕ) → c < 8 → t.waits c ≡ true → requested (t.came c) ≡ requested_at u c
  pub last : t.last ≡ u.last
  pub turn : t.turn ≡ u.turn
  pub share : (c : ℕ) → c < 8 → t.share c ≡ quota_at u c
  pub spent : (c : ℕ) → c < 8 → t.spent c ≡ used_at u c
  pub frame : t.frame ≡ u.frame

-- ---- who fits, and where the turn goes

pub same_fits : (t : Callers) (i : Bool) (u : Dispatcher) → Same t i u → (c : ℕ) → c < 8 → fits t c ≡ T.fits u c
same_fits t i u s c h = go (t.waits c) refl
  where
    go : (w : Bool) → t.waits c ≡ w → (w && leb (t.spent c + requested (t.came c)) (t.share c)) ≡ (pending_at u c && leb (used_at u c + requested_at u c) (quota_at u c))
    go true e =
        ap₂ (λ (a b : ℕ). leb (a + b) (t.share c)) (s.spent c h) (s.asks c h e)
        ∙ ap (leb (used_at u c + requested_at u c)) (s.share c h)
        ∙ ap (λ (b : Bool). b && leb (used_at u c + requested_at u c) (quota_at u c)) (sym e ∙ s.waits c h)
    go false e = ap (λ (b : Bool). b && leb (used_at u c + requested_at u c) (quota_at u c)) (sym e ∙ s.waits c h)

onward : (n i : ℕ) → i < 8 → n % 8 ≡ i → (n + 1) % 8 ≡ (i + 1) % 8
onward n i h e = omega arith

-- The search of what was told and the dispatcher's.
first_same : (k : ℕ) (v w : ℕ → Bool) (n i : ℕ) → n % 8 ≡ after i → ((e : ℕ) → e < 8 → v e ≡ w e) → first_that v k n ≡ first_from k w i
unfolding first_from first_that
first_same zero v w n i e h = refl
first_same (suc k) v w n i e h =
    let j = after i in
    ap (λ (z : ℕ). cond (v z) z (first_that v k (n + 1))) e
    ∙ ap (λ (b : Bool). cond b j (first_that v k (n + 1))) (h j (after_lt i))
    ∙ ap (cond (w j) j) (first_same k v w (n + 1) j (onward n j (after_lt i) e ∙ sym (after_mod j (after_lt i))) h)

pub same_next : (t : Callers) (i : Bool) (u : Dispatcher) → Same t i u → u.last < 8 → next_turn t ≡ T.next_turn u
same_next t i u s h = ap (λ (r : ℕ). first_that (fits t) 8 (r + 1)) s.last ∙ first_same 8 (fits t) (T.fits u) (u.last + 1) u.last (sym (after_mod u.last h)) (same_fits t i u s)

not_not : (b : Bool) → not (not b) ≡ b
not_not true = refl
not_not false = refl

pub same_finds : (t : Callers) (i : Bool) (u : Dispatcher) → Same t i u → u.last < 8 → Same (finds t) i (T.settled i u)
same_finds t i u s h = record {
  busy = s.busy;
  waits = s.waits;
  asks = s.asks;
  last = s.last;
  turn =
      ap (λ (b : Bool). cond (b && leb 8 t.turn) (next_turn t) t.turn) (ap not s.busy ∙ not_not i)
      ∙ ap₂ (λ (n m : ℕ). cond (i && leb 8 n) m n) s.turn (same_next t i u s h);
  share = s.share;
  spent = s.spent;
  frame = s.frame;
}

-- ---- what happens

pub same_frame : (t : Callers) (i : Bool) (u : Dispatcher) (f : ℕ) → Same t i u → Same (in_frame t f) i (T.in_frame u f)
same_frame t i u f s = record {
  busy = s.busy;
  waits = λ c h. s.waits c h ∙ sym (kept_frame u f c).0;
  asks = λ c h w. s.asks c h w ∙ sym (kept_frame u f c).1;
  last = s.last;
  turn = s.turn;
  share = λ c h. s.share c h ∙ sym (kept_frame u f c).2;
  spent = λ c h. ap₂ (λ (b : Bool) (n : ℕ). cond b n 0) (ap (eqb f) s.frame) (s.spent c h) ∙ go c (eqb f u.frame);
  frame = refl;
}
  where
    go : (c : ℕ) (b : Bool) → cond b (used_at u c) 0 ≡ (let x = get_or (cond b u.callers (map unspent u.callers)) c no_caller in x.used)
    go c true = refl
    go c false = sym (ap (λ (x : Caller). x.used) (unspent_at u.callers c))

-- Told at c and stored there.
put_kept : {A : Type 0} (w : ℕ → A) (g : Caller → A) (u : Dispatcher) (c : ℕ) (x : Caller) (v : A) (e : ℕ) → length u.callers ≡ 8 → c < 8 → v ≡ g x → w e ≡ g (caller_at u e)
    → put w c v e ≡ g (caller_at (with_caller u c x) e)
put_kept w g u c x v e l h p q = go (eqb e c) refl
  where
    go : (b : Bool) → eqb e c ≡ b → cond b v (w e) ≡ g (caller_at (with_caller u c x) e)
    go true r = p ∙ ap g (sym (same_kept u c x l h)) ∙ sym (ap (λ (n : ℕ). g (caller_at (with_caller u c x) n)) (eqb-true e c r))
    go false r = q ∙ ap g (sym (other_kept u c x e (eqb-false e c r)))

-- What isn't changed at c stays everywhere.
all_kept : {A : Type 0} (g : Caller → A) (u : Dispatcher) (c : ℕ) (x : Caller) (e : ℕ) → length u.callers ≡ 8 → c < 8 → g x ≡ g (caller_at u c) → g (caller_at u e) ≡ g (caller_at (with_caller u c x) e)
all_kept g u c x e l h p = go (eqb e c) refl
  where
    go : (b : Bool) → eqb e c ≡ b → g (caller_at u e) ≡ g (caller_at (with_caller u c x) e)
    go true r =
        ap (λ (n : ℕ). g (caller_at u n)) (eqb-true e c r) ∙ sym p ∙ ap g (sym (same_kept u c x l h))
        ∙ sym (ap (λ (n : ℕ). g (caller_at (with_caller u c x) n)) (eqb-true e c r))
    go false r = ap g (sym (other_kept u c x e (eqb-false e c r)))

pub same_joins : (t : Callers) (i : Bool) (u : Dispatcher) (c : ℕ) (x : Coming) → Same t i u → c < 8 → length u.callers ≡ 8 → Same (joins t c x) i (T.with_pending u c (requested x))
same_joins t i u c x s h p = record {
  busy = s.busy;
  waits = λ e k. put_kept t.waits (λ (z : Caller). z.pending) u c y true e p h refl (s.waits e k);
  asks = asks;
  last = s.last;
  turn = s.turn;
  share = λ e k. s.share e k ∙ all_kept (λ (z : Caller). z.quota) u c y e p h refl;
  spent = λ e k. s.spent e k ∙ all_kept (λ (z : Caller). z.used) u c y e p h refl;
  frame = s.frame;
}
  where
    y : Caller
    y = record { pending = true; requested = requested x; quota = quota_at u c; used = used_at u c }

    asks : (e : ℕ) → e < 8 → put t.waits c true e ≡ true → requested (put t.came c x e) ≡ requested_at (with_caller u c y) e
    asks e k w = go (eqb e c) refl w
      where
        go : (b : Bool) → eqb e c ≡ b → cond b true (t.waits e) ≡ true → requested (cond b x (t.came e)) ≡ requested_at (with_caller u c y) e
        go true r v = sym (ap (λ (n : ℕ). requested_at (with_caller u c y) n) (eqb-true e c r) ∙ ap (λ (z : Caller). z.requested) (same_kept u c y p h))
        go false r v = s.asks e k v ∙ ap (λ (z : Caller). z.requested) (sym (other_kept u c y e (eqb-false e c r)))

pub same_looks : (t : Callers) (i : Bool) (u : Dispatcher) (f : ℕ) → Same t i u → u.last < 8 → Same (looks t f) i (T.observes i u f)
same_looks t i u f s h = same_finds (in_frame t f) i (T.in_frame u f) (same_frame t i u f s) h

-- A start's caller waits no longer.
pub put_false : (w : ℕ → Bool) (c e : ℕ) → put w c false e ≡ true → w e ≡ true
put_false w c e q = go (eqb e c) q
  where
    go : (b : Bool) → cond b false (w e) ≡ true → w e ≡ true
    go true p = absurd (true≢false (sym p))
    go false p = p

pub same_runs : (t : Callers) (i : Bool) (u : Dispatcher) (c : ℕ) → Same t i u → c < 8 → length u.callers ≡ 8 → T.fits u c ≡ true → Same (runs t c) false (T.starts u c (requested_at u c))
same_runs t i u c s h p f =
    let k = fits_told u c f in
    let all : charged u c (requested_at u c) ≡ used_at u c + requested_at u c = charged_all u c (requested_at u c) k.1 in
    let bytes : t.spent c + requested (t.came c) ≡ charged u c (requested_at u c) = ap₂ (λ (a b : ℕ). a + b) (s.spent c h) (s.asks c h (s.waits c h ∙ k.0)) ∙ sym all in
    let x = T.runs u c (requested_at u c) in
    record {
      busy = refl;
      waits = λ e z. put_kept t.waits (λ (y : Caller). y.pending) u c x false e p h refl (s.waits e z);
      asks = λ e z w. s.asks e z (put_false t.waits c e w) ∙ all_kept (λ (y : Caller). y.requested) u c x e p h refl;
      last = refl;
      turn = refl;
      share = λ e z. s.share e z ∙ all_kept (λ (y : Caller). y.quota) u c x e p h refl;
      spent = λ e z. put_kept t.spent (λ (y : Caller). y.used) u c x (t.spent c + requested (t.came c)) e p h bytes (s.spent e z);
      frame = s.frame;
    }

pub same_ends : (t : Callers) (i : Bool) (u : Dispatcher) → Same t i u → u.last < 8 → Same (ends t) true (T.passes u)
same_ends t i u s h = record {
  busy = refl;
  waits = s.waits;
  asks = s.asks;
  last = s.last;
  turn = same_next t i u s h;
  share = s.share;
  spent = s.spent;
  frame = s.frame;
}
