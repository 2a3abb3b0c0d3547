-- Remainders. Assumes nothing.
use mathlib.Core.Path.{◌≡◌, refl, sym, ap, ◌∙◌}
use mathlib.Core.Bool.{Bool, true, false, cond, ◌&&◌, true≢false}
use mathlib.Core.List.{List, map}
use Prim.Native.Nat.{ℕ, ◌+◌, ◌-◌, ◌≤◌, ◌<◌}
use native.Mathlib.Omega.{arith}
use lib.ListN.{length, get_or, get_or-map, length-map}
use lib.Seq.{get_or-set_same, get_or-set_other}
use lib.Dec.{leb, eqb}
use borrow.Author.Tests.{leb-true, le-leb, leb-false, lt-leb}
use Rattle.dispatcher.specs.declared.Caller.{Caller}
use Rattle.dispatcher.specs.declared.Dispatcher.{Dispatcher}
use Rattle.dispatcher.specs.Dispatcher.{no_caller, caller_at, with_caller, pending_at, requested_at, quota_at, used_at, fits, charged, unspent, in_frame}

-- The same test, by the remainder and by the sum.
pub room_by : (used n quota : ℕ) → used ≤ quota → leb n (quota - used) ≡ leb (used + n) quota
room_by used n quota h = go (leb n (quota - used)) refl
  where
    go : (b : Bool) → leb n (quota - used) ≡ b → b ≡ leb (used + n) quota
    go true e = let q = leb-true n (quota - used) e in sym (le-leb (used + n) quota (omega (arith, q, h)))
    go false e = let q = leb-false n (quota - used) e in sym (lt-leb (used + n) quota (omega (arith, q, h)))

-- ---- who fits

both : (w : Bool) (n s : ℕ) → (w && leb n s) ≡ true → (w ≡ true) × (n ≤ s)
both true n s e = (refl, leb-true n s e)
both false n s e = absurd (true≢false (sym e))

-- Who fits waits, and its remainder is large enough,
pub fits_told : (t : Dispatcher) (c : ℕ) → fits t c ≡ true → (pending_at t c ≡ true) × (used_at t c + requested_at t c ≤ quota_at t c)
fits_told t c e = both (pending_at t c) (used_at t c + requested_at t c) (quota_at t c) e

of_both : (w : Bool) (n s : ℕ) → w ≡ true → n ≤ s → (w && leb n s) ≡ true
of_both true n s e h = le-leb n s h
of_both false n s e h = absurd (true≢false (sym e))

-- and the other way round.
pub fits_made : (t : Dispatcher) (c : ℕ) → pending_at t c ≡ true → used_at t c + requested_at t c ≤ quota_at t c → fits t c ≡ true
fits_made t c e h = of_both (pending_at t c) (used_at t c + requested_at t c) (quota_at t c) e h

-- ---- a frame number

-- With nothing spent of any, nothing is spent of c.
pub unspent_at : (l : List Caller) (c : ℕ) → get_or (map unspent l) c no_caller ≡ unspent (get_or l c no_caller)
unspent_at l c = get_or-map unspent l c no_caller

-- All else of c stays,
pub kept_frame : (t : Dispatcher) (f c : ℕ) → (pending_at (in_frame t f) c ≡ pending_at t c) × (requested_at (in_frame t f) c ≡ requested_at t c) × (quota_at (in_frame t f) c ≡ quota_at t c)
kept_frame t f c = go (eqb f t.frame)
  where
    go : (b : Bool) → let x = get_or (cond b t.callers (map unspent t.callers)) c no_caller in
        (x.pending ≡ pending_at t c) × (x.requested ≡ requested_at t c) × (x.quota ≡ quota_at t c)
    go true = (refl, refl, refl)
    go false =
        let e = unspent_at t.callers c in
        (ap (λ (x : Caller). x.pending) e, ap (λ (x : Caller). x.requested) e, ap (λ (x : Caller). x.quota) e)

-- no spent count grows,
pub used_frame : (t : Dispatcher) (f c : ℕ) → used_at (in_frame t f) c ≤ used_at t c
used_frame t f c = go (eqb f t.frame)
  where
    go : (b : Bool) → let x = get_or (cond b t.callers (map unspent t.callers)) c no_caller in x.used ≤ used_at t c
    go true = omega arith
    go false = let z = ap (λ (x : Caller). x.used) (unspent_at t.callers c) in omega (arith, z)

-- so that who fits goes on fitting.
pub fits_frame : (t : Dispatcher) (f c : ℕ) → fits t c ≡ true → fits (in_frame t f) c ≡ true
fits_frame t f c e =
    let g = fits_told t c e in
    let k = kept_frame t f c in
    let s = used_frame t f c in
    fits_made (in_frame t f) c (k.0 ∙ g.0) (omega (arith, g.1, s, k.1, k.2))

pub length_frame : (b : Bool) (l : List Caller) → length (cond b l (map unspent l)) ≡ length l
length_frame true l = refl
length_frame false l = length-map l unspent

-- ---- another state of a caller

-- What fits, by what is kept of it.
abbrev pub fits_by : Caller → Bool
fits_by x = x.pending && leb (x.used + x.requested) x.quota

-- It leaves the others,
pub other_kept : (t : Dispatcher) (c : ℕ) (x : Caller) (d : ℕ) → (d ≡ c → ⊥) → caller_at (with_caller t c x) d ≡ caller_at t d
other_kept t c x d e = get_or-set_other t.callers c d x no_caller e

-- and is kept.
pub same_kept : (t : Dispatcher) (c : ℕ) (x : Caller) → length t.callers ≡ 8 → c < 8 → caller_at (with_caller t c x) c ≡ x
same_kept t c x n h = get_or-set_same t.callers c x no_caller (omega arith)

-- ---- a charge

-- It never passes the share,
pub charged_within : (t : Dispatcher) (c n : ℕ) → used_at t c ≤ quota_at t c → charged t c n ≤ quota_at t c
charged_within t c n h = go (leb (used_at t c + n) (quota_at t c)) refl
  where
    go : (b : Bool) → leb (used_at t c + n) (quota_at t c) ≡ b → cond b (used_at t c + n) (used_at t c) ≤ quota_at t c
    go true e = leb-true (used_at t c + n) (quota_at t c) e
    go false e = h

-- and is the bytes where the remainder is large enough.
pub charged_all : (t : Dispatcher) (c n : ℕ) → used_at t c + n ≤ quota_at t c → charged t c n ≡ used_at t c + n
charged_all t c n h = rw (le-leb (used_at t c + n) (quota_at t c) h) refl
