-- What the tests of a file say in the request's words. Assumes nothing.
use mathlib.Core.Path.{◌≡◌, refl, ap, ap₂, sym, ◌∙◌}
use mathlib.Core.Bool.{Bool, true, cond, ◌&&◌, true≢false}
use mathlib.Core.List.{List, [], ◌∷◌}
use Prim.Native.Nat.{ℕ, zero, suc, ◌+◌, ◌*◌, ◌≤◌, ◌<◌}
use native.Mathlib.Nat.{add-zero, add-suc, suc-add}
use native.Mathlib.Omega.{arith}
use lib.Dec.{eqb, leb}
use lib.ListN.{length, drop, get_or}
use borrow.Author.Tests.{eqb-true, leb-true, eq-eqb, ne_eqb, le-leb}
use Rattle.poll.specs.File.{is_mark, headed, is_version1, entry_good, all_good}
use Rattle.poll.specs.Loads.{Version1, Bounded}
use Rattle.poll.proofs.Tables.{both, version1_length}

-- ---- the head

-- A file that begins with the head of a version below 256.
pub head_bytes : (v : ℕ) (f : List ℕ) → v < 256 → headed v f ≡ true → f ≡ 0x50 ∷ 0x49 ∷ 0x54 ∷ v ∷ 0 ∷ drop 5 f
unfolding headed
head_bytes v [] h e = absurd (true≢false (sym e))
head_bytes v (a ∷ []) h e = absurd (true≢false (sym e))
head_bytes v (a ∷ b ∷ []) h e = absurd (true≢false (sym e))
head_bytes v (a ∷ b ∷ c ∷ []) h e = absurd (true≢false (sym e))
head_bytes v (a ∷ b ∷ c ∷ d ∷ []) h e = absurd (true≢false (sym e))
head_bytes v (a ∷ b ∷ c ∷ d ∷ x ∷ t) h e =
    let p = both (is_mark a b c) (eqb (d + x * 256) v) (both (leb 5 (length (a ∷ b ∷ c ∷ d ∷ x ∷ t))) (is_mark a b c && eqb (d + x * 256) v) e).1 in
    let i = both (eqb a 0x50) (eqb b 0x49 && eqb c 0x54) p.0 in
    let j = both (eqb b 0x49) (eqb c 0x54) i.1 in
    let version : d + x * 256 ≡ v = eqb-true (d + x * 256) v p.1 in
    let low : d ≡ v = omega (arith, version, h) in
    let high : x ≡ 0 = omega (arith, version, h) in
    rw (eqb-true a 0x50 i.0, eqb-true b 0x49 j.0, eqb-true c 0x54 j.1, low, high)

pub head_right_lem : (v : ℕ) (t : List ℕ) → headed v (0x50 ∷ 0x49 ∷ 0x54 ∷ v ∷ 0 ∷ t) ≡ true
unfolding headed
head_right_lem v t = rw (le-leb 5 (suc (suc (suc (suc (suc (length t)))))) (omega arith)) (eq-eqb (v + 0 * 256) v (omega arith))

-- ---- version 1

pub version1_bytes : (f : List ℕ) → is_version1 f ≡ true → Version1 f (drop 5 f)
version1_bytes f e =
    let head = head_bytes 1 f (omega arith) (both (headed 1 f) (eqb (length f) 261) e).0 in
    record { bytes = head; entries = omega (arith, ap length head, version1_length f e) }

pub version1_right : (f t : List ℕ) → Version1 f t → (is_version1 f ≡ true) × (drop 5 f ≡ t)
version1_right f t x = (rw (x.bytes, head_right_lem 1 t) (eq-eqb (length (0x50 ∷ 0x49 ∷ 0x54 ∷ 1 ∷ 0 ∷ t)) 261 (omega (arith, x.entries))), ap (drop 5) x.bytes)

-- ---- the bounds

good_at : (t : List ℕ) (k i : ℕ) → all_good k t ≡ true → i < length t → entry_good (k + i) (get_or t i 0) ≡ true
unfolding all_good
good_at [] k i e h = absurd (omega arith)
good_at (v ∷ t) k zero e h = ap (λ (n : ℕ). entry_good n v) (add-zero k) ∙ (both (entry_good k v) (all_good (suc k) t) e).0
good_at (v ∷ t) k (suc i) e h =
    ap (λ (n : ℕ). entry_good n (get_or t i 0)) (add-suc k i ∙ sym (suc-add k i)) ∙ good_at t (suc k) i (both (entry_good k v) (all_good (suc k) t) e).1 (omega arith)

good_from : (t : List ℕ) (k : ℕ) → ((i : ℕ) → i < length t → entry_good (k + i) (get_or t i 0) ≡ true) → all_good k t ≡ true
unfolding all_good
good_from [] k h = refl
good_from (v ∷ t) k h =
    ap₂ ◌&&◌ (ap (λ (n : ℕ). entry_good n v) (sym (add-zero k)) ∙ h 0 (omega arith))
    (good_from t (suc k) (λ i l. ap (λ (n : ℕ). entry_good n (get_or t i 0)) (suc-add k i ∙ sym (add-suc k i)) ∙ h (suc i) (omega arith)))

within : (i v : ℕ) → 1 ≤ i → entry_good i v ≡ true → (1 ≤ v) × (v ≤ i)
within i v l e =
    let w = both (leb 1 v) (leb v i) (ap (λ (b : Bool). cond b (eqb v 0) (leb 1 v && leb v i)) (sym (ne_eqb i 0 (λ z. omega arith))) ∙ e) in
    (leb-true 1 v w.0, leb-true v i w.1)

pub good_bounded : (t : List ℕ) → length t ≡ 256 → all_good 0 t ≡ true → Bounded t
good_bounded t n e =
    let at : (i : ℕ) → i < 256 → entry_good i (get_or t i 0) ≡ true = λ i h. good_zero i (omega (arith, n, h)) in
    record { zeroth = eqb-true (get_or t 0 0) 0 (at 0 (omega arith)); others = λ i l h. within i (get_or t i 0) l (at i (omega arith)) }
  where
    good_zero : (i : ℕ) → i < length t → entry_good i (get_or t i 0) ≡ true
    good_zero i h =
        let same : 0 + i ≡ i = omega arith in
        ap (λ (k : ℕ). entry_good k (get_or t i 0)) (sym same) ∙ good_at t 0 i e h

pub bounded_good : (t : List ℕ) → length t ≡ 256 → Bounded t → all_good 0 t ≡ true
bounded_good t n b = good_from t 0 (λ i h. at (0 + i) i (omega arith) (omega (arith, n, h)))
  where
    at : (k i : ℕ) → k ≡ i → i ≤ 255 → entry_good k (get_or t i 0) ≡ true
    at zero zero e h = eq-eqb (get_or t 0 0) 0 b.zeroth
    at zero (suc i) e h = absurd (omega arith)
    at (suc k) zero e h = absurd (omega arith)
    at (suc k) (suc i) e h =
        let w = b.others (suc i) (omega arith) h in
        rw (ne_eqb (suc k) 0 (λ z. omega arith), le-leb 1 (get_or t (suc i) 0) w.0, le-leb (get_or t (suc i) 0) (suc k) (omega (arith, w.1, e)))
