-- The list has every short shape of a group, nothing else, and each before those after it. Assumes nothing.
use mathlib.Core.Path.{◌≡◌, refl, ap, sym, subst, ◌∙◌}
use mathlib.Core.Logic.{inl, inr}
use mathlib.Core.Bool.{Bool, true, false, cond, ◌&&◌, true≢false}
use mathlib.Core.List.{List, [], ◌∷◌, ◌++◌}
use Prim.Native.Nat.{ℕ, zero, suc, ◌+◌, ◌-◌, ◌*◌, ◌≤◌, ◌<◌}
use native.Mathlib.Nat.{suc-mul}
use native.Mathlib.Omega.{arith}
use lib.Dec.{leb}
use lib.ListN.{length, replicate}
use borrow.Author.Tests.{leb-true, le-leb}
use Rattle.groups.specs.Order.{total, Smaller, Before, In, Ordered}
use Rattle.groups.specs.Groups.{can_cut, cut_at, of_size, of_count, of_total, groups_to}
use Rattle.groups.proofs.Collecting.{From, collect_from, collect_in, collect_ordered}

-- The grammar's sentence over lengths: k packets of p, then one of at most p.
pub record Group (g : List ℕ) : Type 0 where
  pub k : ℕ
  pub p : ℕ
  pub last : ℕ
  pub low : 1 ≤ p
  pub high : p ≤ 64
  pub short : last ≤ p
  pub is : g ≡ replicate k p ++ (last ∷ [])

total_cut : (k p l : ℕ) → total (replicate k p ++ (l ∷ [])) ≡ k * p + l
total_cut zero p l = omega arith
total_cut (suc k) p l = omega (arith, total_cut k p l, suc-mul k p)

length_cut : (k p l : ℕ) → length (replicate k p ++ (l ∷ [])) ≡ suc k
length_cut zero p l = refl
length_cut (suc k) p l = ap suc (length_cut k p l)

both : (a b : Bool) → (a && b) ≡ true → (a ≡ true) × (b ≡ true)
both true b e = (refl, e)
both false b e = absurd (true≢false (sym e))

-- What stands in `of_size`.
record Sized (t k p : ℕ) (g : List ℕ) : Type 0 where
  room : k * p ≤ t
  short : t - k * p ≤ p
  is : g ≡ cut_at t k p

size_in : (t k p : ℕ) (g : List ℕ) → In g (of_size t k p) → Sized t k p g
size_in t k p g = go (can_cut t k p) refl
  where
    go : (b : Bool) → can_cut t k p ≡ b → In g (cond b (cut_at t k p ∷ []) []) → Sized t k p g
    go true e (inl q) =
        let w = both (leb (k * p) t) (leb (t - k * p) p) e in
        record { room = leb-true (k * p) t w.0; short = leb-true (t - k * p) p w.1; is = q }
    go true e (inr q) = absurd q
    go false e q = absurd q

in_size : (t k p : ℕ) → k * p ≤ t → t - k * p ≤ p → In (cut_at t k p) (of_size t k p)
in_size t k p h l = rw (le-leb (k * p) t h, le-leb (t - k * p) p l) (inl refl)

-- What stands in `of_count`, its bytes and its packets.
record Counted (t k : ℕ) (g : List ℕ) : Type 0 where
  sum : total g ≡ t
  packets : length g ≡ suc k
  group : t ≤ 64 → Group g

count_in : (t k : ℕ) (g : List ℕ) → In g (of_count t k) → Counted t k g
count_in t zero g (inl e) =
    record {
      sum = ap total e ∙ total_cut 0 0 t ∙ omega arith;
      packets = ap length e;
      group = λ h. record { k = 0; p = 64; last = t; low = omega arith; high = omega arith; short = h; is = e };
    }
count_in t zero g (inr i) = absurd i
count_in t (suc k) g i = sized (collect_from t 1 (of_size t (suc k)) g i)
  where
    sized : From 1 t (of_size t (suc k)) g → Counted t (suc k) g
    sized r =
        let s = size_in t (suc k) r.j g r.in_f in
        record {
          sum = ap total s.is ∙ total_cut (suc k) r.j (t - suc k * r.j) ∙ omega (arith, s.room);
          packets = ap length s.is ∙ length_cut (suc k) r.j (t - suc k * r.j);
          group = λ h. record { k = suc k; p = r.j; last = t - suc k * r.j; low = r.low; high = omega (arith, r.high); short = s.short; is = s.is };
        }

-- ---- in order

same_count : (t k j j' : ℕ) (g h : List ℕ) → j < j' → Sized t (suc k) j g → Sized t (suc k) j' h → Before g h
same_count t k j j' g h l a b =
    inr (
      ap total a.is ∙ total_cut (suc k) j (t - suc k * j) ∙ omega (arith, a.room, b.room)
          ∙ sym (ap total b.is ∙ total_cut (suc k) j' (t - suc k * j')),
      inr (
        ap length a.is ∙ length_cut (suc k) j (t - suc k * j) ∙ sym (ap length b.is ∙ length_cut (suc k) j' (t - suc k * j')),
        subst (λ (x : List ℕ). Smaller x h) (sym a.is) (subst (λ (x : List ℕ). Smaller (cut_at t (suc k) j) x) (sym b.is) (inl (omega (arith, l)))),
      ),
    )

one : (b : Bool) (g : List ℕ) → Ordered (cond b (g ∷ []) [])
one true g = (λ h i. absurd i, tt)
one false g = tt

count_ordered : (t k : ℕ) → Ordered (of_count t k)
count_ordered t zero = (λ h i. absurd i, tt)
count_ordered t (suc k) =
    collect_ordered t 1 (of_size t (suc k)) (λ j l h. one (can_cut t (suc k) j) (cut_at t (suc k) j))
    (λ j j' g h l m q a b. same_count t k j j' g h m (size_in t (suc k) j g a) (size_in t (suc k) j' h b))

total_ordered : (t : ℕ) → Ordered (of_total t)
total_ordered t =
    collect_ordered (suc t) 0 (of_count t) (λ k l h. count_ordered t k)
    (λ k k' g h l m q a b.
    let x = count_in t k g a in
    let y = count_in t k' h b in
    inr (x.sum ∙ sym y.sum, inl (omega (arith, x.packets, y.packets))))

-- A group of a total.
total_in : (t : ℕ) (g : List ℕ) → In g (of_total t) → (total g ≡ t) × (t ≤ 64 → Group g)
total_in t g i = go (collect_from (suc t) 0 (of_count t) g i)
  where
    go : From 0 (suc t) (of_count t) g → (total g ≡ t) × (t ≤ 64 → Group g)
    go r = let x = count_in t r.j g r.in_f in (x.sum, x.group)

pub all_ordered : (n : ℕ) → Ordered (groups_to n)
unfolding groups_to
all_ordered n =
    collect_ordered (suc n) 0 of_total (λ t l h. total_ordered t)
    (λ t t' g h l m q a b. inl (omega (arith, (total_in t g a).0, (total_in t' h b).0)))

-- Up to 64 bytes, where one packet may have them all, nothing else stands there.
pub all_groups : (n : ℕ) (g : List ℕ) → n ≤ 64 → In g (groups_to n) → Group g × (total g ≤ n)
unfolding groups_to
all_groups n g small i =
    let r = collect_from (suc n) 0 of_total g i in
    let x = total_in r.j g r.in_f in
    (x.1 (omega (arith, r.high)), omega (arith, x.0, r.high))

-- ---- every one

in_count : (k p l : ℕ) → 1 ≤ p → l ≤ p → In (replicate k p ++ (l ∷ [])) (of_count (k * p + l) k)
in_count zero p l h s = inl (ap (λ (x : ℕ). x ∷ []) (omega arith))
in_count (suc k) p l h s =
    let left : suc k * p + l - suc k * p ≡ l = omega arith in
    collect_in (suc k * p + l) 1 p (of_size (suc k * p + l) (suc k)) (replicate (suc k) p ++ (l ∷ [])) h (omega (arith, suc-mul k p))
    (subst (λ (x : ℕ). In (replicate (suc k) p ++ (x ∷ [])) (of_size (suc k * p + l) (suc k) p)) left
    (in_size (suc k * p + l) (suc k) p (omega arith) (omega arith)))

count_le : (k p : ℕ) → 1 ≤ p → k ≤ k * p
count_le zero p h = omega arith
count_le (suc k) p h = omega (arith, count_le k p h, suc-mul k p)

pub every_group : (n : ℕ) (g : List ℕ) → Group g → total g ≤ n → In g (groups_to n)
unfolding groups_to
every_group n g d h =
    let sum : total g ≡ d.k * d.p + d.last = ap total d.is ∙ total_cut d.k d.p d.last in
    collect_in (suc n) 0 (d.k * d.p + d.last) of_total g (omega arith) (omega (arith, sum, h))
    (collect_in (suc (d.k * d.p + d.last)) 0 d.k (of_count (d.k * d.p + d.last)) g (omega arith) (omega (arith, count_le d.k d.p d.low))
    (subst (λ (x : List ℕ). In x (of_count (d.k * d.p + d.last) d.k)) (sym d.is) (in_count d.k d.p d.last d.low d.short)))
