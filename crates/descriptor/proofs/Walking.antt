-- The walk from position 0 to its last answer. Assumes nothing.
use mathlib.Core.Path.{◌≡◌, refl, sym, ap, ap₂, subst, ◌∙◌}
use mathlib.Core.Bool.{Bool, true, false}
use mathlib.Core.Logic.{◌⊎◌, inl, inr}
use mathlib.Core.List.{List, [], ◌∷◌, ◌++◌, append_assoc}
use Prim.Native.Nat.{ℕ, zero, suc, ◌+◌, ◌*◌, ◌≤◌}
use native.Mathlib.Nat.{zero-add}
use native.Mathlib.Omega.{arith}
use Rattle.std.proofs.Common.{rules}
use Rattle.std.proofs.lemmas.Grind.{common_steps}
use lib.Dec.{eqb}
use lib.ListN.{length, take, drop, get_or, length-append, take-append-drop}
use lib.Seq.{length-take-le, take-add, drop-drop, take-append_seam, drop-append_seam}
use Rattle.descriptor.specs.Walk.{Walked, descriptor, endpoint, end, refused, total_of, walk_of}
use Rattle.descriptor.specs.Answers.{Accepted, Stands, Deserves, no_head, wrong_total, at_end, too_short, runs_past, short_endpoint, another_type, an_endpoint}
use Rattle.descriptor.specs.Whole.{IsDescriptor, AllDescriptors, joined, Hands, Last, Finds, WalkOver, WholeWalk}
use Rattle.descriptor.proofs.Answered.{deserved, only, end_from, end_only}

-- ---- what an answer hands back

hands_last : (w : Walked) (p : List ℕ) → Hands w p → Last w → ⊥
hands_last w p h l = search rules

hands_same : (w : Walked) (p q : List ℕ) → Hands w p → Hands w q → p ≡ q
hands_same w p q h i = search rules

-- What is handed back is a descriptor that stands there.
pub record Handed (b : List ℕ) (at : ℕ) (p : List ℕ) : Type 0 where
  pub accepted : Accepted b
  pub stands : Stands b at p
  pub is : IsDescriptor p

pub handed : (b : List ℕ) (at : ℕ) (p : List ℕ) → Hands (walk_of b at) p → Handed b at p
handed b at p h = go (walk_of b at) h (deserved b at)
  where
    here : (q : List ℕ) → q ≡ p → Accepted b → Stands b at q → (get_or q 1 0 ≡ 5 → 7 ≤ length q) → Handed b at p
    here q e a s k = subst (Handed b at) e (record { accepted = a; stands = s; is = record { begins = s.begins; endpoint_length = λ x. omega (arith, k x) } })

    go : (w : Walked) → Hands w p → Deserves b at w → Handed b at p
    go w h (no_head t f) = search rules
    go w h (wrong_total t u f) = search rules
    go w h (at_end a t f) = search rules
    go w h (too_short a t n f) = search rules
    go w h (runs_past a t two n f) = search rules
    go w h (short_endpoint a q s k n f) = search rules
    go w h (another_type a q s k f) = here q (search rules) a s (search rules)
    go w h (an_endpoint a q s k n f) = here q (search rules) a s (search rules)

-- A descriptor that stands at a position is handed back.
pub hands_standing : (b : List ℕ) (at : ℕ) (p : List ℕ) → Accepted b → Stands b at p → IsDescriptor p → Hands (walk_of b at) p
hands_standing b at p a s i = go (eqb (get_or p 1 0) 5) refl
  where
    go : (t : Bool) → eqb (get_or p 1 0) 5 ≡ t → Hands (walk_of b at) p
    go true e = let o = only b at _ (an_endpoint a p s (search rules) (search rules) refl) in search rules
    go false e = let o = only b at _ (another_type a p s (search rules) refl) in search rules

-- A descriptor is handed back, or none.
pub turned : (w : Walked) → ((p : List ℕ) × Hands w p) ⊎ Last w
turned (descriptor p) = inl (p, refl)
turned (endpoint p e) = inl (p, refl)
turned end = inr tt
turned (refused n) = inr tt

-- ---- walks

-- From a position on.
record From (b : List ℕ) (at : ℕ) : Type 0 where
  found : List (List ℕ)
  last : Walked
  finds : Finds b at found last

pub inside : (b : List ℕ) (at : ℕ) (p : List ℕ) → Handed b at p → (2 ≤ length p) × (at + length p ≤ total_of b) × (total_of b ≤ length b)
inside b at p h = (h.is.begins.two, h.stands.within, h.accepted.lent)

-- One turn: the walk goes on after a descriptor, or has its last answer.
over : (b : List ℕ) (at : ℕ) → ((p : List ℕ) → Hands (walk_of b at) p → From b (at + length p)) → ((p : List ℕ) × Hands (walk_of b at) p) ⊎ Last (walk_of b at) → From b at
over b at on (inl (p, h)) = record { found = p ∷ (on p h).found; last = (on p h).last; finds = (h, (on p h).finds) }
over b at on (inr l) = record { found = []; last = walk_of b at; finds = (refl, l) }

-- Each descriptor has at least two bytes, so as many turns as bytes are left suffice.
walk_from : (turns : ℕ) (b : List ℕ) (at : ℕ) → length b ≤ turns + at → From b at
walk_from zero b at enough = over b at (λ p h. absurd (omega (arith, enough, inside b at p (handed b at p h)))) (turned (walk_of b at))
walk_from (suc n) b at enough = over b at (λ p h. walk_from n b (at + length p) (omega (arith, enough, inside b at p (handed b at p h)))) (turned (walk_of b at))

finds_one : (b : List ℕ) (at : ℕ) (ps qs : List (List ℕ)) (v w : Walked) → Finds b at ps v → Finds b at qs w → (ps ≡ qs) × (v ≡ w)
finds_one b at [] [] v w f g = search rules
finds_one b at [] (q ∷ qs) v w f g = let l = hands_last v q in search rules
finds_one b at (p ∷ ps) [] v w f g = let l = hands_last w p in search rules
finds_one b at (p ∷ ps) (q ∷ qs) v w f g =
    let same = hands_same (walk_of b at) p q f.0 g.0 in
    let rest = finds_one b (at + length p) ps qs v w f.1 in
    search rules

finds_few : (b : List ℕ) (at : ℕ) (ps : List (List ℕ)) (w : Walked) → Finds b at ps w → at ≤ total_of b → at + 2 * length ps ≤ total_of b
finds_few b at [] w f h = omega (arith, h)
finds_few b at (p ∷ ps) w f h =
    let i = inside b at p (handed b at p f.0) in
    omega (arith, i, finds_few b (at + length p) ps w f.1 (omega (arith, i)))

finds_each : (b : List ℕ) (at : ℕ) (ps : List (List ℕ)) (w : Walked) → Finds b at ps w → AllDescriptors ps
finds_each b at [] w f = tt
finds_each b at (p ∷ ps) w f = ((handed b at p f.0).is, finds_each b (at + length p) ps w f.1)

-- The bytes from a position on begin with the descriptor that stands there.
standing_rest : (b : List ℕ) (at : ℕ) (p : List ℕ) (s : Stands b at p) → drop at b ≡ p ++ s.after
standing_rest b at p s = let e = drop-append_seam s.before (p ++ s.after) in search rules

finds_first : (b : List ℕ) (at : ℕ) (ps : List (List ℕ)) (w : Walked) → Finds b at ps w → joined ps ≡ take (length (joined ps)) (drop at b)
finds_first b at [] w f = refl
finds_first b at (p ∷ ps) w f =
    let s = (handed b at p f.0).stands in
    let head : take (length p) (drop at b) ≡ p = ap (take (length p)) (standing_rest b at p s) ∙ take-append_seam p s.after in
    let tail : take (length (joined ps)) (drop (length p) (drop at b)) ≡ joined ps = ap (take (length (joined ps))) (drop-drop (length p) at b) ∙ sym (finds_first b (at + length p) ps w f.1) in
    sym (ap (λ (k : ℕ). take k (drop at b)) (length-append p (joined ps)) ∙ take-add (length p) (length (joined ps)) (drop at b) ∙ ap₂ (λ (x y : List ℕ). x ++ y) head tail)

-- The last answer is given at the position after all that was found.
finds_last : (b : List ℕ) (at : ℕ) (ps : List (List ℕ)) (w : Walked) → Finds b at ps w → walk_of b (at + length (joined ps)) ≡ w
finds_last b at [] w f = search rules
finds_last b at (p ∷ ps) w f = ap (walk_of b) (omega (arith, length-append p (joined ps))) ∙ finds_last b (at + length p) ps w f.1

-- It isn't past wTotalLength.
finds_within : (b : List ℕ) (at : ℕ) (ps : List (List ℕ)) (w : Walked) → Finds b at ps w → at ≤ total_of b → at + length (joined ps) ≤ total_of b
finds_within b at [] w f h = search rules
finds_within b at (p ∷ ps) w f h =
    let i = inside b at p (handed b at p f.0) in
    omega (arith, length-append p (joined ps), finds_within b (at + length p) ps w f.1 (search rules))

-- The walk came to the end at wTotalLength.
over_at : (b : List ℕ) (x : WalkOver b) → x.last ≡ end → length (joined x.found) ≡ total_of b
over_at b x e =
    let done = end_only b (0 + length (joined x.found)) (finds_last b 0 x.found x.last x.finds ∙ e) in
    let within = finds_within b 0 x.found x.last x.finds (omega arith) in
    omega (arith, done.1, within)

-- ---- descriptors that the configuration begins with

-- Where some bytes of the configuration are followed by a descriptor, it stands there.
stands_after : (b pre p rest : List ℕ) → Accepted b → IsDescriptor p → take (total_of b) b ≡ pre ++ (p ++ rest) → Stands b (length pre) p
stands_after b pre p rest a i e =
    let t : length (take (total_of b) b) ≡ total_of b = length-take-le (total_of b) b a.lent in
    record {
      before = pre;
      after = rest ++ drop (total_of b) b;
      bytes = let whole = take-append-drop (total_of b) b in grind (arith, common_steps);
      position = refl;
      begins = i.begins;
      within = omega (arith, t, ap length e, length-append pre (p ++ rest), length-append p rest);
    }

-- The same bytes with a descriptor gone over.
gone_over : (pre p rest tail : List ℕ) → pre ++ ((p ++ rest) ++ tail) ≡ (pre ++ p) ++ (rest ++ tail)
gone_over pre p rest tail = grind (arith, common_steps)

finds_before : (b pre : List ℕ) (qs ps : List (List ℕ)) (w : Walked) (rest : List ℕ) → Accepted b → AllDescriptors ps
    → take (total_of b) b ≡ pre ++ (joined ps ++ rest) → Finds b (length pre) qs w → take (length ps) qs ≡ ps
finds_before b pre qs [] w rest a all e f = refl
finds_before b pre [] (p ∷ ps) w rest a all e f =
    let s = stands_after b pre p (joined ps ++ rest) a all.0 (e ∙ ap (λ (l : List ℕ). pre ++ l) (append_assoc p (joined ps) rest)) in
    absurd (hands_last w p (subst (λ (x : Walked). Hands x p) f.0 (hands_standing b (length pre) p a s all.0)) f.1)
finds_before b pre (q ∷ qs) (p ∷ ps) w rest a all e f =
    let s = stands_after b pre p (joined ps ++ rest) a all.0 (e ∙ ap (λ (l : List ℕ). pre ++ l) (append_assoc p (joined ps) rest)) in
    let same : q ≡ p = hands_same (walk_of b (length pre)) q p f.0 (hands_standing b (length pre) p a s all.0) in
    let on : Finds b (length (pre ++ p)) qs w = subst (λ (k : ℕ). Finds b k qs w) (ap (λ (x : List ℕ). length pre + length x) same ∙ sym (length-append pre p)) f.1 in
    ap₂ (λ (x : List ℕ) (xs : List (List ℕ)). x ∷ xs) same (finds_before b (pre ++ p) qs ps w rest a all.1 (e ∙ gone_over pre p (joined ps) rest) on)

finds_every : (b pre : List ℕ) (ps : List (List ℕ)) → Accepted b → AllDescriptors ps → take (total_of b) b ≡ pre ++ joined ps → Finds b (length pre) ps end
finds_every b pre [] a all e =
    let t : length (take (total_of b) b) ≡ total_of b = length-take-le (total_of b) b a.lent in
    (end_from b (length pre) a (omega (arith, t, ap length e, length-append pre [])), tt)
finds_every b pre (p ∷ ps) a all e = (
  hands_standing b (length pre) p a (stands_after b pre p (joined ps) a all.0 e) all.0,
  subst (λ (k : ℕ). Finds b k ps end) (length-append pre p) (finds_every b (pre ++ p) ps a all.1 (e ∙ sym (append_assoc pre p (joined ps)))),
)

pub whole_walk : WholeWalk
whole_walk = record {
  walk = λ b. let r = walk_from (length b) b 0 (omega arith) in record { found = r.found; last = r.last; finds = r.finds };
  one = λ b x y. finds_one b 0 x.found y.found x.last y.last x.finds y.finds;
  few = λ b x. omega (arith, finds_few b 0 x.found x.last x.finds (omega arith));
  each = λ b x. finds_each b 0 x.found x.last x.finds;
  first = λ b x. finds_first b 0 x.found x.last x.finds;
  whole = λ b x e. finds_first b 0 x.found x.last x.finds ∙ rw (over_at b x e);
  refuses = λ b x n e. ap (walk_of b) (sym (zero-add (length (joined x.found)))) ∙ finds_last b 0 x.found x.last x.finds ∙ e;
  before = λ b x ps rest a all e. finds_before b [] x.found ps x.last rest a all e x.finds;
  every = λ b x ps a all e. finds_one b 0 x.found ps x.last end x.finds (finds_every b [] ps a all e);
}
