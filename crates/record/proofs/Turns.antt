-- The reader entry by entry: where a turn leads, and what is left to do.
-- Assumes nothing.
use Rattle.std.specs.Prelude.{None, Option, Result, Some, Ok, Err}
use mathlib.Core.Path.{◌≡◌, refl, sym, ap, ◌∙◌}
use mathlib.Core.Bool.{Bool, true, false, cond, ◌&&◌, ◌||◌}
use mathlib.Core.List.{List}
use Prim.Native.Nat.{ℕ, zero, suc, ◌+◌, ◌-◌, ◌≤◌, ◌<◌}
use native.Mathlib.Omega.{arith}
use lib.ListN.{length, drop, get_or, length-drop}
use lib.Dec.{eqb, leb}
use borrow.Author.Tests.{leb-true}
use Rattle.record.specs.Scan.{feed_setup, feed_out, starts_out}
use Rattle.record.specs.Reader.{version_in, version_at, head_right, look, finish, go_on, turn_entry, turned, turn_look, turn_of, read_from, at_head, check_of}
use Rattle.record.specs.declared.scan.Scan.{Scan}
use Rattle.record.specs.declared.scan.Scan.TheVariants.{Between as between, AfterSetup as after_setup, InBulk as in_bulk, InControl as in_control_of}
use Rattle.record.specs.declared.look.Look.{Look}
use Rattle.record.specs.declared.look.Look.TheVariants.{Setup, Out, Failed}
use Rattle.std.proofs.Common.{Continue, Break}
use Rattle.record.specs.declared.reader.Progress.{Progress}
use Rattle.record.specs.Place.{may_end, feed_failed, run_on, lost}
use Rattle.record.proofs.Both.{and_left}
use Rattle.record.proofs.Looking.{setup_inside, out_inside, failed_inside}
use Rattle.record.specs.declared.refusal.Refusal.{Refusal}
use Rattle.record.specs.declared.refusal.Refusal.TheVariants.{Grammar}

-- A turn goes on by at least one byte, within the bytes, and begins at most one item.
pub record Onward (s : List ℕ) (p q : Progress) : Type 0 where
  pub further : p.at < q.at
  pub inside : q.at ≤ length s
  pub few : q.count ≤ p.count + 1
  pub short : q.run ≤ p.run + 1

go_is : (o : Option Scan) (at run k : ℕ) (q : Progress) → turned (go_on o at run k) ≡ Continue q → (q.at ≡ at) × (q.count ≡ k) × (q.run ≡ run)
go_is None at run k q e = absurd (let z : ◌≡◌ {A = ℕ} 0 1 = cc in omega arith)
go_is (Some s) at run k q e =
    let z : record { at = at; scan = s; run = run; count = k } ≡ q = cc in
    (ap (λ (y : Progress). y.at) (sym z), ap (λ (y : Progress). y.count) (sym z), ap (λ (y : Progress). y.run) (sym z))

run_few : (k n : ℕ) → run_on k n ≤ n + 1
run_few zero n = omega arith
run_few (suc k) n = omega arith

lost_few : (m k : ℕ) → lost m k ≤ k
lost_few m k = go (eqb m 0)
  where
    go : (b : Bool) → cond b k (k - 1) ≤ k
    go true = omega arith
    go false = omega arith

starts_few : (s : Scan) (e : ℕ) → starts_out s e ≤ 1
starts_few between e = omega arith
starts_few (after_setup a w) e = go (eqb e 0)
  where
    go : (b : Bool) → cond b 0 1 ≤ 1
    go true = omega arith
    go false = omega arith
starts_few (in_bulk a n q p t) e = omega arith
starts_few (in_control_of a w q p t) e = omega arith

pub turn_onward : (s : List ℕ) (two : Bool) (p q : Progress) → p.at ≤ length s → turn_of s two p ≡ Continue q → Onward s p q
unfolding turn_of
turn_onward s two p q h e = go (look (drop p.at s)) refl e
  where
    go : (y : Result (Option Look) Refusal) → look (drop p.at s) ≡ y → turn_look two y p ≡ Continue q → Onward s p q
    go (Ok None) k g = absurd (let z : ◌≡◌ {A = ℕ} 0 1 = cc in omega arith)
    go (Err why) k g = absurd (let z : ◌≡◌ {A = ℕ} 0 1 = cc in omega arith)
    go (Ok (Some (Setup a w))) k g =
        let u = setup_inside (drop p.at s) a w k in
        let v = length-drop p.at s in
        let z = go_is (feed_setup p.scan a w) (p.at + 10) 1 (p.count + 1) q g in
        record { further = omega arith; inside = omega arith; few = omega arith; short = omega arith }
    go (Ok (Some (Out x))) k g =
        let u = out_inside (drop p.at s) x k in
        let v = length-drop p.at s in
        let w = starts_few p.scan x.endpoint in
        let z = go_is (feed_out p.scan x.address x.endpoint x.pid x.last x.length) (p.at + (6 + x.length)) (run_on (starts_out p.scan x.endpoint) p.run) (p.count + starts_out p.scan x.endpoint) q g in
        let r = run_few (starts_out p.scan x.endpoint) p.run in
        record { further = omega arith; inside = omega arith; few = omega arith; short = omega arith }
    go (Ok (Some (Failed m))) k g = by two g
      where
        by : (two : Bool) → turn_look two (Ok (Some (Failed m))) p ≡ Continue q → Onward s p q
        by false g = absurd (let z : ◌≡◌ {A = ℕ} 0 1 = cc in omega arith)
        by true g =
            let u = failed_inside (drop p.at s) m k in
            let v = length-drop p.at s in
            let w = lost_few m p.count in
            let z = go_is (feed_failed p.scan p.run m) (p.at + 5) 0 (lost m p.count) q g in
            record { further = omega arith; inside = omega arith; few = omega arith; short = omega arith }

pub read_go : (f : ℕ) (s : List ℕ) (two : Bool) (p q : Progress) → turn_of s two p ≡ Continue q → read_from (suc f) s two p ≡ read_from f s two q
unfolding read_from
read_go f s two p q e = rw (e, read_from)

pub read_stop : (f : ℕ) (s : List ℕ) (two : Bool) (p : Progress) (a : Result ℕ Refusal) → turn_of s two p ≡ Break a → read_from (suc f) s two p ≡ a
unfolding read_from
read_stop f s two p a e = rw (e, read_from)

-- A turn at an entry, by what the automaton makes of it.
pub turn_on : (s : List ℕ) (two : Bool) (p : Progress) (y : Look) (r : Result Progress Refusal) → look (drop p.at s) ≡ Ok (Some y) → r ≡ turn_entry two y p → turn_of s two p ≡ turned r
unfolding turn_of
turn_on s two p y r e t = rw e (ap turned (sym t))

-- A turn where no entry stands, and one at the end.
pub turn_off : (s : List ℕ) (two : Bool) (p : Progress) (y : Result (Option Look) Refusal) → look (drop p.at s) ≡ y → turn_of s two p ≡ turn_look two y p
unfolding turn_of
turn_off s two p y e = rw e

-- The reader has come to a place: what is left to do from there is what there was to do.
pub record Reached (s : List ℕ) (two : Bool) (p : Progress) : Type 0 where
  pub fuel : ℕ
  pub same : read_from (suc fuel) s two p ≡ read_from (suc (length s)) s two at_head
  pub enough : length s ≤ fuel + p.at
  pub inside : p.at ≤ length s
  pub few : p.count ≤ p.at
  pub short : p.run ≤ p.at

pub head_five : (s : List ℕ) → head_right s ≡ true → 5 ≤ length s
unfolding head_right
head_five s h = leb-true 5 (length s) (and_left (leb 5 (length s)) (eqb (get_or s 0 0) 0x57 && (eqb (get_or s 1 0) 0x4C && (eqb (get_or s 2 0) 0x47 && (eqb (version_in s) 1 || eqb (version_in s) 2)))) h)

pub start : (s : List ℕ) (two : Bool) → 5 ≤ length s → Reached s two at_head
start s two h = record { fuel = length s; same = refl; enough = omega arith; inside = h; few = omega arith; short = omega arith }

pub onward : (s : List ℕ) (two : Bool) (p q : Progress) → Reached s two p → turn_of s two p ≡ Continue q → Reached s two q
onward s two p q r e = go r.fuel r.same r.enough (turn_onward s two p q r.inside e)
  where
    go : (f : ℕ) → read_from (suc f) s two p ≡ read_from (suc (length s)) s two at_head → length s ≤ f + p.at → Onward s p q → Reached s two q
    go zero k h o = absurd (let u = o.further in let v = o.inside in omega arith)
    go (suc f) k h o = record {
      fuel = f;
      same = sym (read_go (suc f) s two p q e) ∙ k;
      enough = let u = o.further in omega arith;
      inside = o.inside;
      few = let u = o.further in let v = o.few in let w = r.few in omega arith;
      short = let u = o.further in let v = o.short in let w = r.short in omega arith;
    }

-- Where the reader stops, it answers.
pub stopped : (s : List ℕ) (two : Bool) (p : Progress) (a : Result ℕ Refusal) → head_right s ≡ true → two ≡ eqb (version_at s) 2 → Reached s two p → turn_of s two p ≡ Break a → a ≡ check_of s
unfolding check_of
stopped s two p a h v r e = rw (h, ← v) (sym (read_stop r.fuel s two p a e) ∙ r.same)

-- At the end.
pub finished : (k : Scan) (n : ℕ) → finish k n ≡ cond (may_end k) (Ok n) (Err Grammar)
finished between n = refl
finished (after_setup a w) n = refl
finished (in_bulk a e q p t) n = refl
finished (in_control_of a w q p t) n = refl
