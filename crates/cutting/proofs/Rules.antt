-- The cutting meets USB 2.0's packet rules, and nothing else does. Assumes nothing.
use mathlib.Core.Path.{◌≡◌, refl, sym, ap, ap₂, ◌∙◌, subst}
use mathlib.Core.Bool.{Bool, true, false, not}
use mathlib.Core.List.{List, [], ◌∷◌, ◌++◌, map, append_assoc, append-nil}
use Prim.Native.Nat.{ℕ, zero, suc, ◌+◌, ◌-◌, ◌≤◌, ◌<◌}
use native.Mathlib.Omega.{arith}
use lib.ListN.{length, take, drop, length-drop, take-append-drop, length-append, length-map}
use lib.Seq.{take-length, length-take-le, take_at, drop_at}
use borrow.Author.Tests.{ltb-true, leb-false, lt-ltb, le-ltb, le-leb, lt-leb}
use Rattle.pool.proofs.Cases.{by_cases}
use Rattle.cutting.specs.declared.transfer_type.TransferType.{TransferType}
use Rattle.cutting.specs.declared.transfer_type.TransferType.TheVariants.{FixedSize, VariableSize}
use Rattle.cutting.specs.Cut.{Packet, packet, lengths, deal, none, numbered, out_cut, in_cut_of}
use Rattle.cutting.proofs.Lengths.{more, more_le, less_le, lengths_more, lengths_last}
use Rattle.cutting.specs.Rules.{slot, pid, marked, load, All, Alternating, joined, OutRules, Takes, Each, InRules, UsbRules}

no : {A : Type 0} → true ≡ false → A
no e = absurd (let z : ◌≡◌ {A = ℕ} 0 1 = cc in omega arith)

pub joined_nil : joined [] ≡ []
unfolding joined
joined_nil = refl

pub joined_cons : (l : List ℕ) (ls : List (List ℕ)) → joined (l ∷ ls) ≡ l ++ joined ls
unfolding joined
joined_cons l ls = refl

pub joined_snoc : (ls : List (List ℕ)) (l : List ℕ) → joined (ls ++ (l ∷ [])) ≡ joined ls ++ l
joined_snoc [] l = joined_cons l [] ∙ ap (λ (x : List ℕ). l ++ x) joined_nil ∙ append-nil l ∙ ap (λ (x : List ℕ). x ++ l) (sym joined_nil)
joined_snoc (k ∷ ls) l =
    joined_cons k (ls ++ (l ∷ []))
    ∙ ap (λ (x : List ℕ). k ++ x) (joined_snoc ls l)
    ∙ sym (append_assoc k (joined ls) l)
    ∙ ap (λ (x : List ℕ). x ++ l) (sym (joined_cons k ls))

deal_cons : (n : ℕ) (ns l : List ℕ) → deal (n ∷ ns) l ≡ take n l ∷ deal ns (drop n l)
unfolding deal
deal_cons n ns l = refl

deal_nil : (l : List ℕ) → deal [] l ≡ []
unfolding deal
deal_nil l = refl

not_both : {A : Type 0} → FixedSize ≡ VariableSize → A
not_both e = absurd (let z : ◌≡◌ {A = ℕ} 0 1 = cc in omega arith)

-- ---- the loads

-- Byte strings that are cut as the rules say: fs, then f.
record Loads (t : TransferType) (p : ℕ) (bytes : List ℕ) (fs : List (List ℕ)) (f : List ℕ) : Type 0 where
  back : joined fs ++ f ≡ bytes
  full : All (λ (l : List ℕ). length l ≡ p) fs
  within : length f ≤ p
  fixed : t ≡ FixedSize → 0 < length bytes → 0 < length f
  variable : t ≡ VariableSize → length f < p

record Split (t : TransferType) (p : ℕ) (bytes : List ℕ) (ls : List (List ℕ)) : Type 0 where
  fs : List (List ℕ)
  f : List ℕ
  whole : ls ≡ fs ++ (f ∷ [])
  loads : Loads t p bytes fs f

abbrev cut : TransferType → ℕ → List ℕ → List (List ℕ)
cut t p l = deal (lengths t p (length l)) l

module _ (p : ℕ) (low : 1 ≤ p) where
  short : (t : TransferType) (n : ℕ) → more t p n ≡ false → t ≡ VariableSize → n < p
  short FixedSize n e q = not_both q
  short VariableSize n e q = leb-false p n e

  longer : (t : TransferType) (n : ℕ) → more t p n ≡ true → t ≡ FixedSize → p < n
  longer FixedSize n e q = ltb-true p n e
  longer VariableSize n e q = not_both (sym q)

  cut_last : (t : TransferType) (l : List ℕ) → more t p (length l) ≡ false → cut t p l ≡ l ∷ []
  cut_last t l e =
      ap (λ (ns : List ℕ). deal ns l) (lengths_last t p (length l) low e)
      ∙ deal_cons (length l) [] l ∙ ap₂ {C = List (List ℕ)} ◌∷◌ (take-length l) (deal_nil (drop (length l) l))

  cut_more : (t : TransferType) (l : List ℕ) → more t p (length l) ≡ true → cut t p l ≡ take p l ∷ cut t p (drop p l)
  cut_more t l e =
      ap (λ (ns : List ℕ). deal ns l) (lengths_more t p (length l) low e)
      ∙ deal_cons p (lengths t p (length l - p)) l
      ∙ ap (λ (n : ℕ). take p l ∷ deal (lengths t p n) (drop p l)) (sym (length-drop p l))

  split_last : (t : TransferType) (l : List ℕ) → more t p (length l) ≡ false → Split t p l (cut t p l)
  split_last t l e = record {
    fs = [];
    f = l;
    whole = cut_last t l e;
    loads = record { back = ap (λ (x : List ℕ). x ++ l) joined_nil; full = tt; within = less_le t p (length l) e; fixed = λ q h. h; variable = short t (length l) e };
  }

  split_more : (t : TransferType) (l : List ℕ) → more t p (length l) ≡ true → Split t p (drop p l) (cut t p (drop p l)) → Split t p l (cut t p l)
  split_more t l e s =
      let u = more_le t p (length l) e in
      record {
        fs = take p l ∷ s.fs;
        f = s.f;
        whole = cut_more t l e ∙ ap (λ (x : List (List ℕ)). take p l ∷ x) s.whole;
        loads = record {
          back =
              ap (λ (x : List ℕ). x ++ s.f) (joined_cons (take p l) s.fs) ∙ append_assoc (take p l) (joined s.fs) s.f
              ∙ ap (λ (x : List ℕ). take p l ++ x) s.loads.back ∙ take-append-drop p l;
          full = (length-take-le p l u, s.loads.full);
          within = s.loads.within;
          fixed = λ q h. s.loads.fixed q (let v = longer t (length l) e q in omega (arith, length-drop p l));
          variable = s.loads.variable;
        };
      }

  split_up : (n : ℕ) (t : TransferType) (l : List ℕ) → length l ≤ n → Split t p l (cut t p l)
  split_up zero t l h = by_cases (more t p (length l)) (λ (e : more t p (length l) ≡ true). absurd (omega (arith, more_le t p (length l) e))) (split_last t l)
  split_up (suc n) t l h = by_cases (more t p (length l))
      (λ (e : more t p (length l) ≡ true). split_more t l e (split_up n t (drop p l) (let z = length-drop p l in let q = more_le t p (length l) e in omega arith)))
      (split_last t l)

  -- ---- nothing else is cut so

  last_only : (t : TransferType) (f : List ℕ) → length f ≤ p → (t ≡ VariableSize → length f < p) → more t p (length f) ≡ false
  last_only FixedSize f h k = le-ltb p (length f) h
  last_only VariableSize f h k = lt-leb p (length f) (k refl)

  more_only : (t : TransferType) (n r : ℕ) → n ≡ p + r → (t ≡ FixedSize → 0 < r) → more t p n ≡ true
  more_only FixedSize n r e h = let q = h refl in lt-ltb p n (omega arith)
  more_only VariableSize n r e h = le-leb p n (omega arith)

  loads_only : (t : TransferType) (fs : List (List ℕ)) (f l : List ℕ) → Loads t p l fs f → cut t p l ≡ fs ++ (f ∷ [])
  loads_only t [] f l r =
      let e : f ≡ l = ap (λ (x : List ℕ). x ++ f) (sym joined_nil) ∙ r.back in
      subst (λ (x : List ℕ). cut t p x ≡ f ∷ []) e (cut_last t f (last_only t f r.within r.variable))
  loads_only t (x ∷ fs) f l r =
      let b : x ++ (joined fs ++ f) ≡ l = sym (append_assoc x (joined fs) f) ∙ ap (λ (y : List ℕ). y ++ f) (sym (joined_cons x fs)) ∙ r.back in
      let n : length l ≡ p + (length (joined fs) + length f) =
      sym (ap length b) ∙ length-append x (joined fs ++ f) ∙ ap₂ {C = ℕ} ◌+◌ r.full.0 (length-append (joined fs) f) in
      let g : t ≡ FixedSize → 0 < length f = λ q. r.fixed q (omega arith) in
      let t0 : take p l ≡ x = ap (take p) (sym b) ∙ take_at x (joined fs ++ f) p r.full.0 in
      let d0 : drop p l ≡ joined fs ++ f = ap (drop p) (sym b) ∙ drop_at x (joined fs ++ f) p r.full.0 in
      cut_more t l (more_only t (length l) (length (joined fs) + length f) n (λ q. let z = g q in omega arith))
      ∙ ap₂ {C = List (List ℕ)} ◌∷◌ t0
      (loads_only t fs f (drop p l) (record { back = sym d0; full = r.full.1; within = r.within; fixed = λ q h. g q; variable = r.variable }))

-- ---- marks, PIDs and slots

-- Packets before the last one, from slot s and PID b on; the slot and the PID after them.
abbrev fronts : {A : Type 0} → Bool → Bool → List A → List (Packet A)
fronts s b [] = []
fronts s b (x ∷ xs) = packet s b false x ∷ fronts (not s) (not b) xs

abbrev turned : {A : Type 0} → Bool → List A → Bool
turned s [] = s
turned s (x ∷ xs) = turned (not s) xs

numbered_snoc : {A : Type 0} (s b : Bool) (xs : List A) (x : A) → numbered s b (xs ++ (x ∷ [])) ≡ fronts s b xs ++ (packet (turned s xs) (turned b xs) true x ∷ [])
unfolding numbered
numbered_snoc s b [] x = refl
numbered_snoc s b (y ∷ []) x = refl
numbered_snoc s b (y ∷ z ∷ xs) x = ap (λ (l : List (Packet _)). packet s b false y ∷ l) (numbered_snoc (not s) (not b) (z ∷ xs) x)

numbered_loads : {A : Type 0} (s b : Bool) (xs : List A) → map load (numbered s b xs) ≡ xs
unfolding numbered
numbered_loads s b [] = refl
numbered_loads s b (x ∷ xs) = ap (λ (l : List _). x ∷ l) (numbered_loads (not s) (not b) xs)

numbered_pids : {A : Type 0} (s b : Bool) (xs : List A) → Alternating b (map pid (numbered s b xs))
unfolding numbered
numbered_pids s b [] = tt
numbered_pids s b (x ∷ xs) = (refl, numbered_pids (not s) (not b) xs)

numbered_slots : {A : Type 0} (s b : Bool) (xs : List A) → Alternating s (map slot (numbered s b xs))
unfolding numbered
numbered_slots s b [] = tt
numbered_slots s b (x ∷ xs) = (refl, numbered_slots (not s) (not b) xs)

fronts_unmarked : {A : Type 0} (s b : Bool) (xs : List A) → All (λ (k : Packet A). marked k ≡ false) (fronts s b xs)
fronts_unmarked s b [] = tt
fronts_unmarked s b (x ∷ xs) = (refl, fronts_unmarked (not s) (not b) xs)

fronts_all : {A : Type 0} (P : A → Type 0) (s b : Bool) (xs : List A) → All P xs → All (λ (k : Packet A). P (load k)) (fronts s b xs)
fronts_all P s b [] h = tt
fronts_all P s b (x ∷ xs) h = (h.0, fronts_all P (not s) (not b) xs h.1)

numbered_all : {A : Type 0} (P : A → Type 0) (s b : Bool) (xs : List A) → All P xs → All (λ (k : Packet A). P (load k)) (numbered s b xs)
unfolding numbered
numbered_all P s b [] h = tt
numbered_all P s b (x ∷ xs) h = (h.0, numbered_all P (not s) (not b) xs h.1)

-- None is longer than a bound that p keeps.
all_within : (p n : ℕ) (fs : List (List ℕ)) (f : List ℕ) → p ≤ n → All (λ (l : List ℕ). length l ≡ p) fs → length f ≤ p → All (λ (l : List ℕ). length l ≤ n) (fs ++ (f ∷ []))
all_within p n [] f k h e = (omega arith, tt)
all_within p n (x ∷ fs) f k h e = (omega (arith, h.0), all_within p n fs f k h.1 e)

outward : (t : TransferType) (p : ℕ) (b : Bool) (l : List ℕ) → 1 ≤ p → p ≤ 64 → OutRules t p b l (out_cut t p b l)
unfolding out_cut
outward t p b l low high =
    let s = split_up p low (length l) t l (omega arith) in
    let r = s.loads in
    record {
      front = fronts false b s.fs;
      final = packet (turned false s.fs) (turned b s.fs) true s.f;
      whole = ap (numbered false b) s.whole ∙ numbered_snoc false b s.fs s.f;
      rejoined = ap joined (numbered_loads false b (cut t p l) ∙ s.whole) ∙ joined_snoc s.fs s.f ∙ r.back;
      full = fronts_all (λ (x : List ℕ). length x ≡ p) false b s.fs r.full;
      within = r.within;
      small = numbered_all (λ (x : List ℕ). length x ≤ 64) false b (cut t p l)
          (subst (All (λ (x : List ℕ). length x ≤ 64)) (sym s.whole) (all_within p 64 s.fs s.f high r.full r.within));
      fixed = r.fixed;
      variable = λ q. let z = r.variable q in omega arith;
      unmarked = fronts_unmarked false b s.fs;
      mark = refl;
      pids = numbered_pids false b (cut t p l);
      slots = numbered_slots false b (cut t p l);
    }

-- ---- only the cutting

pub map_append : {A B : Type 0} (f : A → B) (xs ys : List A) → map f (xs ++ ys) ≡ map f xs ++ map f ys
map_append f [] ys = refl
map_append f (x ∷ xs) ys = ap (λ (l : List _). f x ∷ l) (map_append f xs ys)

all_loads : {A : Type 0} (P : A → Type 0) (ks : List (Packet A)) → All (λ (k : Packet A). P (load k)) ks → All P (map load ks)
all_loads P [] h = tt
all_loads P (k ∷ ks) h = (h.0, all_loads P ks h.1)

-- A packet is its parts.
parts : {A : Type 0} (k : Packet A) (s b m : Bool) → slot k ≡ s → pid k ≡ b → marked k ≡ m → k ≡ packet s b m (load k)
parts (packet s' b' m' l) s b m e f g = λ i. packet (e i) (f i) (g i) l

numbered_one : {A : Type 0} (s b : Bool) (x : A) → numbered s b (x ∷ []) ≡ packet s b true x ∷ []
unfolding numbered
numbered_one s b x = refl

numbered_more : {A : Type 0} (s b : Bool) (x : A) (xs : List A) (y : A) → numbered s b (x ∷ (xs ++ (y ∷ []))) ≡ packet s b false x ∷ numbered (not s) (not b) (xs ++ (y ∷ []))
unfolding numbered
numbered_more s b x [] y = refl
numbered_more s b x (z ∷ xs) y = refl

numbered_only : {A : Type 0} (s b : Bool) (front : List (Packet A)) (final : Packet A) → All (λ (k : Packet A). marked k ≡ false) front → marked final ≡ true
    → Alternating b (map pid (front ++ (final ∷ []))) → Alternating s (map slot (front ++ (final ∷ []))) → front ++ (final ∷ []) ≡ numbered s b (map load front ++ (load final ∷ []))
numbered_only s b [] final u m p q = ap (λ (k : Packet _). k ∷ []) (parts final s b true q.0 p.0 m) ∙ sym (numbered_one s b (load final))
numbered_only s b (k ∷ front) final u m p q =
    ap₂ {C = List (Packet _)} ◌∷◌ (parts k s b false q.0 p.0 u.0) (numbered_only (not s) (not b) front final u.1 m p.1 q.1)
    ∙ sym (numbered_more s b (load k) (map load front) (load final))

only : (t : TransferType) (p : ℕ) (b : Bool) (l : List ℕ) (ks : List (Packet (List ℕ))) → 1 ≤ p → OutRules t p b l ks → ks ≡ out_cut t p b l
unfolding out_cut
only t p b l ks low r =
    let fs = map load r.front in
    let f = load r.final in
    let e : map load ks ≡ fs ++ (f ∷ []) = ap (map load) r.whole ∙ map_append load r.front (r.final ∷ []) in
    let bs : joined fs ++ f ≡ l = sym (joined_snoc fs f) ∙ ap joined (sym e) ∙ r.rejoined in
    let c : cut t p l ≡ fs ++ (f ∷ []) = loads_only p low t fs f l
    (record { back = bs; full = all_loads (λ (x : List ℕ). length x ≡ p) r.front r.full; within = r.within; fixed = r.fixed; variable = λ q. let z = r.variable q in omega arith }) in
    r.whole
    ∙ numbered_only false b r.front r.final r.unmarked r.mark
    (subst (λ (x : List (Packet (List ℕ))). Alternating b (map pid x)) r.whole r.pids) (subst (λ (x : List (Packet (List ℕ))). Alternating false (map slot x)) r.whole r.slots)
    ∙ ap (numbered false b) (sym c)

-- ---- IN

-- As many slots as packets, each with p for its load.
same_all : (P : ℕ → Type 0) (p : ℕ) (ns : List ℕ) → P p → All P (map (λ (k : ℕ). p) ns)
same_all P p [] h = tt
same_all P p (n ∷ ns) h = (h, same_all P p ns h)

none_same : {A B : Type 0} (xs : List A) (ys : List B) → length xs ≡ length ys → none xs ≡ none ys
none_same [] [] e = refl
none_same [] (y ∷ ys) e = absurd (omega (arith, e))
none_same (x ∷ xs) [] e = absurd (omega (arith, e))
none_same (x ∷ xs) (y ∷ ys) e = refl

takes_all : (p : ℕ) (s b : Bool) (xs : List ℕ) (ls : List (List ℕ)) → length xs ≡ length ls → All (λ (x : ℕ). x ≡ p) xs → All (λ (l : List ℕ). length l ≤ p) ls → Each Takes (numbered s b xs) (numbered s b ls)
unfolding numbered
takes_all p s b [] [] e h k = tt
takes_all p s b [] (l ∷ ls) e h k = absurd (omega (arith, e))
takes_all p s b (x ∷ xs) [] e h k = absurd (omega (arith, e))
takes_all p s b (x ∷ xs) (l ∷ ls) e h k =
    let n : length xs ≡ length ls = omega (arith, e) in
    (record { same_slot = refl; same_pid = refl; same_mark = none_same xs ls n; room = omega (arith, h.0, k.0) }, takes_all p (not s) (not b) xs ls n h.1 k.1)

length_deal : (ns l : List ℕ) → length (deal ns l) ≡ length ns
length_deal [] l = ap length (deal_nil l)
length_deal (n ∷ ns) l = ap length (deal_cons n ns l) ∙ ap suc (length_deal ns (drop n l))

-- A list with something in it, by its last.
record Ended {A : Type 0} (l : List A) : Type 0 where
  xs : List A
  x : A
  is : l ≡ xs ++ (x ∷ [])

ended : {A : Type 0} (x : A) (l : List A) → Ended (x ∷ l)
ended x [] = record { xs = []; x = x; is = refl }
ended x (y ∷ l) = let e = ended y l in record { xs = x ∷ e.xs; x = e.x; is = ap (λ (z : List _). x ∷ z) e.is }

slots_end : (t : TransferType) (p n : ℕ) → 1 ≤ p → Ended (map (λ (k : ℕ). p) (lengths t p n))
slots_end t p n low = by_cases (more t p n)
    (λ (e : more t p n ≡ true). subst (λ (ns : List ℕ). Ended (map (λ (k : ℕ). p) ns)) (sym (lengths_more t p n low e)) (ended p (map (λ (k : ℕ). p) (lengths t p (n - p)))))
    (λ (e : more t p n ≡ false). subst (λ (ns : List ℕ). Ended (map (λ (k : ℕ). p) ns)) (sym (lengths_last t p n low e)) (ended p []))

-- The cutting's own packets find their slots.
own_slots : (t : TransferType) (p : ℕ) (b : Bool) (l : List ℕ) → 1 ≤ p → Each Takes (in_cut_of t p b (length l)) (out_cut t p b l)
unfolding in_cut_of out_cut
own_slots t p b l low =
    let s = split_up p low (length l) t l (omega arith) in
    takes_all p false b (map (λ (k : ℕ). p) (lengths t p (length l))) (cut t p l)
    (length-map (lengths t p (length l)) (λ (k : ℕ). p) ∙ sym (length_deal (lengths t p (length l)) l))
    (same_all (λ (k : ℕ). k ≡ p) p (lengths t p (length l)) refl)
    (subst (All (λ (x : List ℕ). length x ≤ p)) (sym s.whole) (all_within p p s.fs s.f (omega arith) s.loads.full s.loads.within))

inward : (t : TransferType) (p : ℕ) (b : Bool) (n : ℕ) → 1 ≤ p → p ≤ 64 → InRules t p b n (in_cut_of t p b n)
unfolding in_cut_of
inward t p b n low high =
    let e = slots_end t p n low in
    let ss = map (λ (k : ℕ). p) (lengths t p n) in
    record {
      front = fronts false b e.xs;
      final = packet (turned false e.xs) (turned b e.xs) true e.x;
      whole = ap (numbered false b) e.is ∙ numbered_snoc false b e.xs e.x;
      sized = numbered_all (λ (k : ℕ). (k ≡ p) × (k ≤ 64)) false b ss (same_all (λ (k : ℕ). (k ≡ p) × (k ≤ 64)) p (lengths t p n) (refl, high));
      unmarked = fronts_unmarked false b e.xs;
      mark = refl;
      pids = numbered_pids false b ss;
      slots = numbered_slots false b ss;
      suffice = λ bytes ks q r.
          subst (λ (m : ℕ). Each Takes (in_cut_of t p b m) ks) q (subst (Each Takes (in_cut_of t p b (length bytes))) (sym (only t p b bytes ks low r)) (own_slots t p b bytes low));
    }

pub usb_rules : UsbRules
usb_rules = record { outward = outward; only = only; inward = inward }
