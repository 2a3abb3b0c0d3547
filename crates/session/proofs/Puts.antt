-- What texts put one after the other come to. Assumes nothing.
use mathlib.Core.Path.{◌≡◌, refl, sym, ap, ◌∙◌}
use mathlib.Core.Bool.{Bool, true, false, cond}
use mathlib.Core.List.{List, ◌++◌, append_assoc}
use Prim.Native.Nat.{ℕ, ◌+◌, ◌^◌, ◌<◌, ◌≤◌}
use native.Mathlib.Omega.{arith}
use borrow.Author.Tests.{le-leb, leb-true}
use lib.ListN.{length, take, drop, length-append}
use lib.Seq.{sets, sets-eq, length-sets, length-take-le, take_at, take-take}
use Rattle.std.specs.Prelude.{Option, None, Some, IfSome, codes}
use Rattle.std.specs.Fmt.{decimal}
use Rattle.script.specs.Text.{fits, placed, place_after, Placed, PlacedDecimal}
use Rattle.script.specs.declared.text.Text.{Text}
use Rattle.script.proofs.Decimals.{decimal_placed}
use Rattle.session.specs.Prints.{kept, Puts}

put_take : (l new : List ℕ) (n : ℕ) → n + length new ≤ length l → take (n + length new) (sets l n new) ≡ take n l ++ new
put_take l new n h =
    let seam : length (take n l ++ new) ≡ n + length new = length-append (take n l) new ∙ ap (λ (k : ℕ). k + length new) (length-take-le n l (omega arith)) in
    ap (λ (x : List ℕ). take (n + length new) x) (sets-eq new l n h) ∙ take_at (take n l ++ new) (drop (n + length new) l) (n + length new) seam

room_placed : (out : List ℕ) (at : ℕ) (text : List ℕ) → length (placed out at text) ≡ length out
unfolding placed
room_placed out at text = go (fits out at text)
  where
    go : (there : Bool) → length (cond there (sets out at text) out) ≡ length out
    go true = length-sets out at text
    go false = refl

put_below : (l new : List ℕ) (n : ℕ) → n + length new ≤ length l → take n (sets l n new) ≡ take n l
put_below l new n h =
    let long : length (take n l) ≡ n = length-take-le n l (omega arith) in
    ap (take n) (sets-eq new l n h) ∙ ap (take n) (append_assoc (take n l) new (drop (n + length new) l)) ∙ take_at (take n l) (new ++ drop (n + length new) l) n long

below_placed : (out : List ℕ) (at : ℕ) (text : List ℕ) → take at (placed out at text) ≡ take at out
unfolding placed
below_placed out at text = go (fits out at text) refl
  where
    go : (there : Bool) → fits out at text ≡ there → take at (cond there (sets out at text) out) ≡ take at out
    go true e = put_below out text at (leb-true _ _ e)
    go false e = refl

after_placed : (out : List ℕ) (at : ℕ) (text : List ℕ) → at ≤ place_after out at text
unfolding place_after
after_placed out at text = go (fits out at text)
  where
    go : (there : Bool) → at ≤ cond there (at + length text) at
    go true = omega arith
    go false = omega arith

pub puts_placed : {N : ℕ} (a b : Text N) (text : List ℕ) → Placed a.room a.used text b.room b.used → Puts a text b
unfolding placed place_after
puts_placed a b text p =
    let there : a.used + length text ≤ length a.room → fits a.room a.used text ≡ true = λ h. le-leb (a.used + length text) (length a.room) h in
    let used : a.used + length text ≤ length a.room → b.used ≡ a.used + length text = λ h. p.next ∙ ap (λ (x : Bool). cond x (a.used + length text) a.used) (there h) in
    let room : a.used + length text ≤ length a.room → b.room ≡ sets a.room a.used text = λ h. p.bytes ∙ ap (λ (x : Bool). cond x (sets a.room a.used text) a.room) (there h) in
    record {
      room = ap length p.bytes ∙ room_placed a.room a.used text;
      stays = ap (take a.used) p.bytes ∙ below_placed a.room a.used text;
      on = omega (arith, p.next, after_placed a.room a.used text);
      kept = λ h. ap (λ (n : ℕ). take n b.room) (used h) ∙ ap (λ (l : List ℕ). take (a.used + length text) l) (room h) ∙ put_take a.room text a.used h;
      used = used;
    }

pub puts_decimal : {N : ℕ} (a b : Text N) (n : ℕ) → n < 2 ^ 64 → PlacedDecimal a.room a.used n b.room b.used → Puts a (decimal n) b
puts_decimal a b n small p = puts_placed a b (decimal n) (decimal_placed a.room a.used n b.room b.used small p)

pub puts_more : {N : ℕ} (a b c : Text N) (s t : List ℕ) → Puts a s b → Puts b t c → Puts a (s ++ t) c
puts_more a b c s t p q =
    let both : length (s ++ t) ≡ length s + length t = length-append s t in
    let first : a.used + length (s ++ t) ≤ length a.room → a.used + length s ≤ length a.room = λ h. omega arith in
    let second : a.used + length (s ++ t) ≤ length a.room → b.used + length t ≤ length b.room = λ h. omega (arith, p.used (first h), p.room) in
    record {
      room = q.room ∙ p.room;
      stays = sym (take-take a.used b.used c.room p.on) ∙ ap (take a.used) q.stays ∙ take-take a.used b.used b.room p.on ∙ p.stays;
      on = omega (arith, p.on, q.on);
      kept = λ h. q.kept (second h) ∙ ap (λ (l : List ℕ). l ++ t) (p.kept (first h)) ∙ append_assoc (kept a) s t;
      used = λ h. omega (arith, p.used (first h), q.used (second h));
    }

pub puts_answer : {N : ℕ} (o : Option (List ℕ)) (a b c d : Text N) → Puts a (codes "answer ") b → IfSome o (λ text. Puts b text c) → Puts c (codes "\n") d
    → IfSome o (λ text. Puts a (codes "answer " ++ text ++ codes "\n") d)
puts_answer None a b c d p q r = tt
puts_answer (Some text) a b c d p q r = puts_more a b d (codes "answer ") (text ++ codes "\n") p (puts_more b c d text (codes "\n") q r)
