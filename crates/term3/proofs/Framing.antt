-- The charges of every frame. Assumes nothing.
use Rattle.std.specs.Prelude.{Err, Ok}
use mathlib.Core.Path.{◌≡◌, refl, sym, ap, ap₂, subst, ◌∙◌}
use mathlib.Core.Bool.{Bool, true, false, cond}
use mathlib.Core.List.{List, [], ◌∷◌, ◌++◌}
use Prim.Native.Nat.{ℕ, ◌+◌, ◌≤◌, ◌<◌}
use native.Mathlib.Omega.{arith}
use lib.ListN.{get_or}
use lib.Dec.{eqb}
use borrow.Author.Tests.{eqb-true, eqb-false, eq-eqb, ne_eqb}
use Rattle.dispatcher.specs.Dispatcher.{used_at}
use Rattle.host.specs.declared.controller.HostController.{HostController}
use Rattle.record.specs.Shown.{note}
use Rattle.term3.specs.Calls.{Call, submit, whose_turn, start, driver, Answer, call}
use Rattle.term3.specs.Callers.{requested, Callers, no_callers, put, ends, is_end, hears}
use Rattle.term3.specs.HostCalls.{fresh_for}
use Rattle.term3.specs.Turns.{after}
use Rattle.term3.specs.Frames.{Charge, charges, seen, frames_from, sum_of, AllWithin, last_of, Frames}
use Rattle.term3.proofs.Agreeing.{Agrees, agrees_next, fresh_agrees}

-- ---- sums

sum_append : (c : ℕ) (l k : List Charge) → sum_of c (l ++ k) ≡ sum_of c l + sum_of c k
sum_append c [] k = omega arith
sum_append c (x ∷ l) k = let r = sum_append c l k in omega (arith, r)

-- A charge more, told as a sum and as a spent count.
sum_put : (f : ℕ → ℕ) (e n c : ℕ) → f c + cond (eqb e c) n 0 ≡ put f e (f e + n) c
sum_put f e n c = go (eqb c e) refl
  where
    go : (b : Bool) → eqb c e ≡ b → f c + cond (eqb e c) n 0 ≡ cond b (f e + n) (f c)
    go true p =
        let q = eqb-true c e p in
        ap (λ (b : Bool). f c + cond b n 0) (eq-eqb e c (sym q)) ∙ ap (λ (z : ℕ). f z + n) q
    go false p = ap (λ (b : Bool). f c + cond b n 0) (ne_eqb e c (λ q. eqb-false c e p (sym q))) ∙ (let z : f c + 0 ≡ f c = omega arith in z)

-- ---- one call

-- The charges so far: in the same frame with the new ones, in another the new ones alone.
abbrev carry : Bool → List Charge → List Charge → List Charge
carry true l new = l ++ new
carry false l new = new

carry_none : (b : Bool) (l : List Charge) (c : ℕ) → sum_of c (carry b l []) ≡ cond b (sum_of c l) 0
carry_none true l c = sum_append c l [] ∙ (let z : sum_of c l + 0 ≡ sum_of c l = omega arith in z)
carry_none false l c = refl

carry_one : (b : Bool) (l : List Charge) (x : Charge) (c : ℕ) → sum_of c (carry b l (x ∷ [])) ≡ cond b (sum_of c l) 0 + cond (eqb x.caller c) x.bytes 0
carry_one true l x c = let r = sum_append c l (x ∷ []) in omega (arith, r)
carry_one false l x c = omega arith

-- What was told of the spent counts is what the frame's starts sum up to.
record Sums (s : ℕ) (l : List Charge) (t : Callers) : Type 0 where
  frame : t.frame ≡ s
  sums : (c : ℕ) → sum_of c l ≡ t.spent c

-- A frame number comes in.
frame_sums : (s : ℕ) (l : List Charge) (t : Callers) (f c : ℕ) → Sums s l t → sum_of c (carry (eqb f s) l []) ≡ cond (eqb f t.frame) (t.spent c) 0
frame_sums s l t f c k = carry_none (eqb f s) l c ∙ ap₂ (λ (b : Bool) (n : ℕ). cond b n 0) (ap (eqb f) (sym k.frame)) (k.sums c)

same_frame : (s : ℕ) (l : List Charge) (t : Callers) → Sums s l t → Sums s (carry (eqb s s) l []) t
same_frame s l t k = record { frame = k.frame; sums = λ c. carry_none (eqb s s) l c ∙ ap (λ (b : Bool). cond b (sum_of c l) 0) (eq-eqb s s refl) ∙ k.sums c }

call_sums : (s : ℕ) (l : List Charge) (t : Callers) (x : Call) (a : Answer x) → Sums s l t → let n = seen s x a in Sums n (carry (eqb n s) l (charges t x a)) (hears t x a)
call_sums s l t (submit c x n f) (Ok tt) k = record { frame = refl; sums = λ e. frame_sums s l t f e k }
call_sums s l t (submit c x n f) (Err why) k = same_frame s l t k
call_sums s l t (whose_turn f) a k = record { frame = refl; sums = λ e. frame_sums s l t f e k }
call_sums s l t (start q f buf m log) (Ok c) k = record {
  frame = refl;
  sums = λ e.
      carry_one (eqb f s) l (record { caller = c; bytes = requested (t.came c) }) e
      ∙ ap (λ (n : ℕ). n + cond (eqb c e) (requested (t.came c)) 0) (sym (carry_none (eqb f s) l e) ∙ frame_sums s l t f e k)
      ∙ sum_put (λ (z : ℕ). cond (eqb f t.frame) (t.spent z) 0) c (requested (t.came c)) e;
}
call_sums s l t (start q f buf m log) (Err why) k = same_frame s l t k
call_sums s l t (driver c b) a k = go (is_end (note c a))
  where
    go : (v : Bool) → Sums s (carry (eqb s s) l []) (cond v (ends t) t)
    go true = let r = same_frame s l t k in record { frame = r.frame; sums = r.sums }
    go false = same_frame s l t k

-- ---- every list

-- No spent count passes its share.
spent_within : (t : Callers) (d : HostController) → Agrees t d → (c : ℕ) → c < 8 → t.spent c ≤ t.share c
spent_within t d h c k =
    let a = h.same.spent c k in
    let b = h.same.share c k in
    let w = h.good.pre.within c in
    omega (arith, a, b, w)

share_same : (t : Callers) (x : Call) (a : Answer x) (c : ℕ) → (hears t x a).share c ≡ t.share c
share_same t (submit z x n f) (Ok tt) c = refl
share_same t (submit z x n f) (Err why) c = refl
share_same t (whose_turn f) a c = refl
share_same t (start k f buf m log) (Ok z) c = refl
share_same t (start k f buf m log) (Err why) c = refl
share_same t (driver z b) a c = go (is_end (note z a))
  where
    go : (v : Bool) → (let u : Callers = cond v (ends t) t in u).share c ≡ t.share c
    go true = refl
    go false = refl

frame_within : (shares : List ℕ) (s : ℕ) (l : List Charge) (t : Callers) (d : HostController) → Agrees t d → Sums s l t → ((c : ℕ) → t.share c ≡ get_or shares c 0) → (c : ℕ) → c < 8 → sum_of c l ≤ get_or shares c 0
frame_within shares s l t d h k e c z =
    let a = k.sums c in
    let b = e c in
    let w = spent_within t d h c z in
    omega (arith, a, b, w)

-- The frames from here on, by whether the call stays in the frame.
abbrev closing : Bool → List Charge → List (List Charge) → List (List Charge)
closing true l ls = ls
closing false l ls = l ∷ ls

frames_next : (s : ℕ) (l : List Charge) (t : Callers) (d : HostController) (x : Call) (xs : List Call) → let o = call d x in let n = seen s x o.answer in
    frames_from s l t d (x ∷ xs) ≡ closing (eqb n s) l (frames_from n (carry (eqb n s) l (charges t x o.answer)) (hears t x o.answer) o.next xs)
unfolding frames_from
frames_next s l t d x xs = go (eqb (seen s x (call d x).answer) s)
  where
    n : ℕ
    n = seen s x (call d x).answer

    go : (b : Bool) → let o = call d x in let u = hears t x o.answer in let new = charges t x o.answer in
        cond b (frames_from n (l ++ new) u o.next xs) (l ∷ frames_from n new u o.next xs) ≡ closing b l (frames_from n (carry b l new) u o.next xs)
    go true = refl
    go false = refl

all_within : (cs : List Call) (shares : List ℕ) (s : ℕ) (l : List Charge) (t : Callers) (d : HostController) → Agrees t d → Sums s l t → ((c : ℕ) → t.share c ≡ get_or shares c 0) → AllWithin shares (frames_from s l t d cs)
unfolding frames_from
all_within [] shares s l t d h k e = (frame_within shares s l t d h k e, tt)
all_within (x ∷ xs) shares s l t d h k e =
    let o = call d x in
    let n = seen s x o.answer in
    let u = hears t x o.answer in
    let m = carry (eqb n s) l (charges t x o.answer) in
    let rest = all_within xs shares n m u o.next (agrees_next t d x h) (call_sums s l t x o.answer k) (λ c. share_same t x o.answer c ∙ e c) in
    subst (AllWithin shares) (sym (frames_next s l t d x xs)) (go (eqb n s) (frames_from n m u o.next xs) rest)
  where
    go : (b : Bool) (ls : List (List Charge)) → AllWithin shares ls → AllWithin shares (closing b l ls)
    go true ls r = r
    go false ls r = (frame_within shares s l t d h k e, r)

-- There is a frame, and what went before it isn't the last.
record Some (ls : List (List Charge)) : Type 0 where
  head : List Charge
  tail : List (List Charge)
  is : ls ≡ head ∷ tail

frames_some : (cs : List Call) (s : ℕ) (l : List Charge) (t : Callers) (d : HostController) → Some (frames_from s l t d cs)
unfolding frames_from
frames_some [] s l t d = record { head = l; tail = []; is = refl }
frames_some (x ∷ xs) s l t d =
    let o = call d x in
    let n = seen s x o.answer in
    let m = carry (eqb n s) l (charges t x o.answer) in
    subst Some (sym (frames_next s l t d x xs)) (go (eqb n s) (frames_from n m (hears t x o.answer) o.next xs) (frames_some xs n m (hears t x o.answer) o.next))
  where
    go : (b : Bool) (ls : List (List Charge)) → Some ls → Some (closing b l ls)
    go true ls k = k
    go false ls k = record { head = l; tail = ls; is = refl }

last_closing : (b : Bool) (l : List Charge) (ls : List (List Charge)) → Some ls → last_of (closing b l ls) ≡ last_of ls
last_closing true l ls k = refl
last_closing false l ls k = ap (λ (z : List (List Charge)). last_of (l ∷ z)) k.is ∙ ap last_of (sym k.is)

last_sums : (cs : List Call) (s : ℕ) (l : List Charge) (t : Callers) (d : HostController) → Agrees t d → Sums s l t → (c : ℕ) → c < 8 → sum_of c (last_of (frames_from s l t d cs)) ≡ used_at (after d cs).dispatcher c
unfolding frames_from after
last_sums [] s l t d h k c z = k.sums c ∙ h.same.spent c z
last_sums (x ∷ xs) s l t d h k c z =
    let o = call d x in
    let n = seen s x o.answer in
    let u = hears t x o.answer in
    let m = carry (eqb n s) l (charges t x o.answer) in
    ap (λ (ls : List (List Charge)). sum_of c (last_of ls)) (frames_next s l t d x xs)
    ∙ ap (sum_of c) (last_closing (eqb n s) l (frames_from n m u o.next xs) (frames_some xs n m u o.next))
    ∙ last_sums xs n m u o.next (agrees_next t d x h) (call_sums s l t x o.answer k) c z

none_yet : (shares : List ℕ) → Sums 0 [] (no_callers shares)
none_yet shares = record { frame = refl; sums = λ c. refl }

pub frames : Frames
frames = record {
  within = λ made cs. all_within cs made.shares 0 [] (no_callers made.shares) (fresh_for made) (fresh_agrees made) (none_yet made.shares) (λ c. refl);
  summed = λ made cs c z. last_sums cs 0 [] (no_callers made.shares) (fresh_for made) (fresh_agrees made) (none_yet made.shares) c z;
}
