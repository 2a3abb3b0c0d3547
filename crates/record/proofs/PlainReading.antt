-- A record has at most one reading. Assumes nothing.
use mathlib.Core.Path.{◌≡◌, refl, sym, ap₂}
use mathlib.Core.Bool.{Bool, true, false, not}
use mathlib.Core.List.{List, [], ◌∷◌, ◌++◌, head-eq_of_cons-eq, tail-eq_of_cons-eq}
use Prim.Native.Nat.{ℕ, ◌≤◌}
use native.Mathlib.Omega.{arith}
use Rattle.record.specs.Grammar.{Four, Entry, setup, out, group, no_group, one_group, Part, bulk_part, control_part, part_entries, sent_entries, AllFit, parts_entries}
use Rattle.record.proofs.Both.{absurd-eq}

-- What two groups agree on where the lists that begin with them agree.
record Same (a e : ℕ) (b : Bool) (xs : List (List ℕ)) (l : List ℕ) (r : List Entry) (a' e' : ℕ) (b' : Bool) (xs' : List (List ℕ)) (l' : List ℕ) (r' : List Entry) : Type 0 where
  address : a ≡ a'
  endpoint : e ≡ e'
  pid : b ≡ b'
  full : xs ≡ xs'
  short : l ≡ l'
  after : r ≡ r'

same : (a e : ℕ) (b : Bool) (xs : List (List ℕ)) (l : List ℕ) (r : List Entry) (a' e' : ℕ) (b' : Bool) (xs' : List (List ℕ)) (l' : List ℕ) (r' : List Entry)
    → group a e b xs l ++ r ≡ group a' e' b' xs' l' ++ r' → Same a e b xs l r a' e' b' xs' l' r'
same a e b [] l r a' e' b' [] l' r' q = record { address = cc; endpoint = cc; pid = cc; full = refl; short = cc; after = cc }
same a e b [] l r a' e' b' (x ∷ xs) l' r' q = absurd-eq (cc)
same a e b (x ∷ xs) l r a' e' b' [] l' r' q = absurd-eq (cc)
same a e b (x ∷ xs) l r a' e' b' (x' ∷ xs') l' r' q =
    let k = same a e (not b) xs l r a' e' (not b') xs' l' r' (tail-eq_of_cons-eq q) in
    record { address = k.address; endpoint = k.endpoint; pid = cc; full = ap₂ {C = List (List ℕ)} ◌∷◌ (cc) k.full; short = k.short; after = k.after }

-- No list of parts begins with an OUT packet on endpoint 0.
not_zero : (qs : List Part) → AllFit qs → (a : ℕ) (b last : Bool) (l : List ℕ) (r : List Entry) → parts_entries qs ≡ out a 0 b last l ∷ r → ⊥
not_zero [] f a b last l r q = let z : ◌≡◌ {A = ℕ} 0 1 = cc in omega arith
not_zero (bulk_part a' e b' [] l' ∷ qs) f a b last l r q = let z : e ≡ 0 = cc in let k : 1 ≤ e = f.0.1 in omega arith
not_zero (bulk_part a' e b' (x ∷ xs) l' ∷ qs) f a b last l r q = let z : e ≡ 0 = cc in let k : 1 ≤ e = f.0.1 in omega arith
not_zero (control_part a' lo hi s ∷ qs) f a b last l r q = let z : ◌≡◌ {A = ℕ} 0 1 = cc in omega arith

-- The same of a group on endpoint 0.
not_group : (qs : List Part) → AllFit qs → (a : ℕ) (b : Bool) (xs : List (List ℕ)) (l : List ℕ) (r : List Entry) → parts_entries qs ≡ group a 0 b xs l ++ r → ⊥
not_group qs f a b [] l r q = not_zero qs f a b true l r q
not_group qs f a b (x ∷ xs) l r q = not_zero qs f a b false x (group a 0 (not b) xs l ++ r) q

nil_ne : {A : Type 0} (x : Entry) (r : List Entry) → [] ≡ x ∷ r → A
nil_ne x r q = absurd-eq (cc)

nil_ne_part : {A : Type 0} (q : Part) (r : List Entry) → [] ≡ part_entries q ++ r → A
nil_ne_part (bulk_part a e b [] l) r k = nil_ne (out a e b true l) r k
nil_ne_part (bulk_part a e b (x ∷ xs) l) r k = nil_ne (out a e b false x) (group a e (not b) xs l ++ r) k
nil_ne_part (control_part a lo hi s) r k = nil_ne (setup a lo hi) (sent_entries a s ++ r) k

setup_ne_group : {A : Type 0} (a : ℕ) (lo hi : Four) (r : List Entry) (a' e : ℕ) (b : Bool) (xs : List (List ℕ)) (l : List ℕ) (r' : List Entry)
    → setup a lo hi ∷ r ≡ group a' e b xs l ++ r' → A
setup_ne_group a lo hi r a' e b [] l r' q = absurd-eq (cc)
setup_ne_group a lo hi r a' e b (x ∷ xs) l r' q = absurd-eq (cc)

-- Two lists of parts of the grammar with one record are one list.
pub one_plain_reading : (ps qs : List Part) → AllFit ps → AllFit qs → parts_entries ps ≡ parts_entries qs → ps ≡ qs
one_plain_reading [] [] f g k = refl
one_plain_reading [] (q ∷ qs) f g k = nil_ne_part q (parts_entries qs) k
one_plain_reading (q ∷ qs) [] f g k = nil_ne_part q (parts_entries qs) (sym k)
one_plain_reading (bulk_part a e b xs l ∷ ps) (bulk_part a' e' b' xs' l' ∷ qs) f g k =
    let s = same a e b xs l (parts_entries ps) a' e' b' xs' l' (parts_entries qs) k in
    let t : ps ≡ qs = one_plain_reading ps qs f.1 g.1 s.after in
    cc (s.address, s.endpoint, s.pid, s.full, s.short, t)
one_plain_reading (bulk_part a e b xs l ∷ ps) (control_part a' lo hi s ∷ qs) f g k = setup_ne_group a' lo hi (sent_entries a' s ++ parts_entries qs) a e b xs l (parts_entries ps) (sym k)
one_plain_reading (control_part a lo hi s ∷ ps) (bulk_part a' e b xs l ∷ qs) f g k = setup_ne_group a lo hi (sent_entries a s ++ parts_entries ps) a' e b xs l (parts_entries qs) k
one_plain_reading (control_part a lo hi no_group ∷ ps) (control_part a' lo' hi' no_group ∷ qs) f g k =
    let t : ps ≡ qs = one_plain_reading ps qs f.1 g.1 (tail-eq_of_cons-eq k) in cc
one_plain_reading (control_part a lo hi no_group ∷ ps) (control_part a' lo' hi' (one_group xs l) ∷ qs) f g k = absurd (not_group ps f.1 a' true xs l (parts_entries qs) (tail-eq_of_cons-eq k))
one_plain_reading (control_part a lo hi (one_group xs l) ∷ ps) (control_part a' lo' hi' no_group ∷ qs) f g k = absurd (not_group qs g.1 a true xs l (parts_entries ps) (sym (tail-eq_of_cons-eq k)))
one_plain_reading (control_part a lo hi (one_group xs l) ∷ ps) (control_part a' lo' hi' (one_group xs' l') ∷ qs) f g k =
    let s = same a 0 true xs l (parts_entries ps) a' 0 true xs' l' (parts_entries qs) (tail-eq_of_cons-eq k) in
    let t : ps ≡ qs = one_plain_reading ps qs f.1 g.1 s.after in
    cc (s.address, s.full, s.short, t, head-eq_of_cons-eq k)
