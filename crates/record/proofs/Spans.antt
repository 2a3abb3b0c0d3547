-- The packets of a group one after another: where a packet leads, and what is left to do.
-- Assumes nothing.
use mathlib.Core.Path.{◌≡◌, refl, sym, ap, subst, ◌∙◌}
use mathlib.Core.Bool.{Bool, true, false, cond}
use mathlib.Core.List.{List}
use Prim.Native.Nat.{ℕ, zero, suc, ◌+◌, ◌≤◌, ◌<◌}
use native.Mathlib.Omega.{arith}
use lib.ListN.{length, drop, length-drop}
use Rattle.record.specs.Reader.{look}
use Rattle.record.specs.Items.{group_look, group_of, group_from, group_at_of, sent_look, sent_at, failed_look, failed_at, unless_failed, item_look, item_at, next_of}
use Rattle.record.specs.declared.items.ItemAnswer.{ItemAnswer}
use Rattle.record.specs.declared.items.ItemAnswer.TheVariants.{Failed as failed_item}
use lib.Dec.{eqb}
use Rattle.record.specs.declared.look.Look.{Look}
use Rattle.record.specs.declared.look.OutHead.{OutHead}
use Rattle.record.specs.declared.look.Look.TheVariants.{Setup, Out, Failed}
use Rattle.record.specs.declared.refusal.Refusal.{Refusal}
use Rattle.std.specs.Prelude.{Option, Some, None, Result, Ok, Err}
use Rattle.record.specs.declared.items.Span.{Span}
use Rattle.std.proofs.Common.{ControlFlow, Continue, Break}
use Rattle.record.proofs.Looking.{out_inside, failed_inside, setup_at, out_at, failed_at as failed_at_place}

-- A packet goes on by at least one byte, within the bytes.
pub record Further (s : List ℕ) (p q : Span) : Type 0 where
  pub further : p.at < q.at
  pub inside : q.at ≤ length s
  pub few : p.count ≤ p.at → q.count ≤ q.at

pub packet_further : (s : List ℕ) (p q : Span) → p.at ≤ length s → group_of s p ≡ Continue q → Further s p q
unfolding group_of
packet_further s p q h e = go (look (drop p.at s)) refl e
  where
    more_is : (b : Bool) (x : Span) → cond b (Break x) (Continue x) ≡ Continue q → x ≡ q
    more_is true x g = absurd (let z : ◌≡◌ {A = ℕ} 0 1 = cc in omega arith)
    more_is false x g = cc

    go : (y : Result (Option Look) Refusal) → look (drop p.at s) ≡ y → group_look y p ≡ Continue q → Further s p q
    go (Ok None) k g = absurd (let z : ◌≡◌ {A = ℕ} 0 1 = cc in omega arith)
    go (Err why) k g = absurd (let z : ◌≡◌ {A = ℕ} 0 1 = cc in omega arith)
    go (Ok (Some (Setup a w))) k g = absurd (let z : ◌≡◌ {A = ℕ} 0 1 = cc in omega arith)
    go (Ok (Some (Failed m))) k g = absurd (let z : ◌≡◌ {A = ℕ} 0 1 = cc in omega arith)
    go (Ok (Some (Out x))) k g =
        let u = out_inside (drop p.at s) x k in
        let v = length-drop p.at s in
        let n : Span = record { at = p.at + (6 + x.length); count = p.count + x.length } in
        let z = more_is x.last n g in
        let za : p.at + (6 + x.length) ≡ q.at = ap (λ (y : Span). y.at) z in
        let zc : p.count + x.length ≡ q.count = ap (λ (y : Span). y.count) z in
        record { further = omega arith; inside = omega arith; few = λ (f : p.count ≤ p.at). omega arith }

pub group_more : (f : ℕ) (s : List ℕ) (p q : Span) → group_of s p ≡ Continue q → group_from (suc f) s p ≡ group_from f s q
unfolding group_from
group_more f s p q e = rw (e, group_from)

pub group_ended : (f : ℕ) (s : List ℕ) (p q : Span) → group_of s p ≡ Break q → group_from (suc f) s p ≡ q
unfolding group_from
group_ended f s p q e = rw (e, group_from)

-- The walk has come to a place: what is left to do from there is what there was to do.
pub record Walked (s : List ℕ) (at : ℕ) (p : Span) : Type 0 where
  pub fuel : ℕ
  pub same : group_from (suc fuel) s p ≡ group_at_of s at
  pub enough : length s ≤ fuel + p.at
  pub inside : p.at ≤ length s
  pub few : p.count ≤ p.at

pub walk_start : (s : List ℕ) (at : ℕ) → at ≤ length s → Walked s at (record { at = at; count = 0 })
unfolding group_at_of
walk_start s at h = record { fuel = length s; same = refl; enough = omega arith; inside = h; few = omega arith }

pub walk_on : (s : List ℕ) (at : ℕ) (p q : Span) → Walked s at p → group_of s p ≡ Continue q → Walked s at q
walk_on s at p q r e = go r.fuel r.same r.enough (packet_further s p q r.inside e)
  where
    go : (f : ℕ) → group_from (suc f) s p ≡ group_at_of s at → length s ≤ f + p.at → Further s p q → Walked s at q
    go zero k h o = absurd (let u = o.further in let v = o.inside in omega arith)
    go (suc f) k h o = record {
      fuel = f;
      same = sym (group_more (suc f) s p q e) ∙ k;
      enough = let u = o.further in omega arith;
      inside = o.inside;
      few = o.few r.few;
    }

-- A marked packet ends the walk, an unmarked one goes on.
pub packet_on : (s : List ℕ) (p : Span) (x : OutHead) → look (drop p.at s) ≡ Ok (Some (Out x))
    → group_of s p ≡ cond x.last (Break (record { at = p.at + (6 + x.length); count = p.count + x.length })) (Continue (record { at = p.at + (6 + x.length); count = p.count + x.length }))
unfolding group_of
packet_on s p x e = rw e

-- The walk ends at a packet, or where none stands.
pub walked : (s : List ℕ) (at : ℕ) (p q : Span) → Walked s at p → group_of s p ≡ Break q → q ≡ group_at_of s at
walked s at p q r e = sym (group_ended r.fuel s p q e) ∙ r.same

-- A count has its five bytes.
pub failed_room : (s : List ℕ) (at : ℕ) → failed_at s at ≡ true → at + 5 ≤ length s
unfolding failed_at
failed_room s at e = go (look (drop at s)) refl e
  where
    go : (y : Result (Option Look) Refusal) → look (drop at s) ≡ y → failed_look y ≡ true → at + 5 ≤ length s
    go (Ok (Some (Failed m))) k g = let u = failed_inside (drop at s) m k in let v = length-drop at s in omega arith
    go (Ok (Some (Setup a w))) k g = absurd (let z : ◌≡◌ {A = ℕ} 0 1 = cc in omega arith)
    go (Ok (Some (Out x))) k g = absurd (let z : ◌≡◌ {A = ℕ} 0 1 = cc in omega arith)
    go (Err why) k g = absurd (let z : ◌≡◌ {A = ℕ} 0 1 = cc in omega arith)
    go (Ok None) k g = absurd (let z : ◌≡◌ {A = ℕ} 0 1 = cc in omega arith)

-- A walk leads no way back, and stays inside.
packet_ended : (s : List ℕ) (p q : Span) → p.at ≤ length s → group_of s p ≡ Break q → (p.at ≤ q.at) × (q.at ≤ length s)
unfolding group_of
packet_ended s p q h e = go (look (drop p.at s)) refl e
  where
    here : p ≡ q → (p.at ≤ q.at) × (q.at ≤ length s)
    here z = subst (λ (x : Span). (p.at ≤ x.at) × (x.at ≤ length s)) z (omega arith, h)

    break_is : (b : Bool) (x : Span) → cond b (Break x) (Continue x) ≡ Break q → x ≡ q
    break_is true x g = cc
    break_is false x g = absurd (let z : ◌≡◌ {A = ℕ} 0 1 = cc in omega arith)

    go : (y : Result (Option Look) Refusal) → look (drop p.at s) ≡ y → group_look y p ≡ Break q → (p.at ≤ q.at) × (q.at ≤ length s)
    go (Ok None) k g = here (cc)
    go (Err why) k g = here (cc)
    go (Ok (Some (Setup a w))) k g = here (cc)
    go (Ok (Some (Failed m))) k g = here (cc)
    go (Ok (Some (Out x))) k g =
        let u = out_at s p.at x k in
        let n : Span = record { at = p.at + (6 + x.length); count = p.count + x.length } in
        let z : p.at + (6 + x.length) ≡ q.at = ap (λ (y : Span). y.at) (break_is x.last n g) in
        (omega (arith, z), omega (arith, z, u))

group_inside : (f : ℕ) (s : List ℕ) (p : Span) → p.at ≤ length s → (p.at ≤ (group_from f s p).at) × ((group_from f s p).at ≤ length s)
unfolding group_from
group_inside zero s p h = (omega arith, h)
group_inside (suc f) s p h = go (group_of s p) (λ (q : Span) (k : q.at ≤ length s). group_inside f s q k) refl
  where
    go : (t : ControlFlow Span Span) → ((q : Span) → q.at ≤ length s → (q.at ≤ (group_from f s q).at) × ((group_from f s q).at ≤ length s)) → group_of s p ≡ t
        → (p.at ≤ (group_from (suc f) s p).at) × ((group_from (suc f) s p).at ≤ length s)
    go (Continue q) ih e =
        let o = packet_further s p q h e in
        let r = ih q o.inside in
        subst (λ (x : Span). (p.at ≤ x.at) × (x.at ≤ length s)) (sym (group_more f s p q e)) (omega (arith, o.further, r.0), r.1)
    go (Break q) ih e = subst (λ (x : Span). (p.at ≤ x.at) × (x.at ≤ length s)) (sym (group_ended f s p q e)) (packet_ended s p q h e)

-- A group has at least one packet where one stands.
group_further : (s : List ℕ) (at : ℕ) (x : OutHead) → look (drop at s) ≡ Ok (Some (Out x)) → (at < (group_at_of s at).at) × ((group_at_of s at).at ≤ length s)
unfolding group_at_of
group_further s at x e = go x.last (packet_on s p x e)
  where
    p : Span
    p = record { at = at; count = 0 }

    n : Span
    n = record { at = at + (6 + x.length); count = 0 + x.length }

    inside : at + (6 + x.length) ≤ length s
    inside = out_at s at x e

    go : (b : Bool) → group_of s p ≡ cond b (Break n) (Continue n) → (at < (group_from (suc (length s)) s p).at) × ((group_from (suc (length s)) s p).at ≤ length s)
    go true k = subst (λ (y : Span). (at < y.at) × (y.at ≤ length s)) (sym (group_ended (length s) s p n k)) (omega arith, inside)
    go false k =
        let r = group_inside (length s) s n inside in
        subst (λ (y : Span). (at < y.at) × (y.at ≤ length s)) (sym (group_more (length s) s p n k)) (omega (arith, r.0), r.1)

sent_inside : (s : List ℕ) (at : ℕ) → at ≤ length s → (at ≤ (sent_at s at).at) × ((sent_at s at).at ≤ length s)
unfolding sent_at
sent_inside s at h = go (look (drop at s)) refl
  where
    none : Span
    none = record { at = at; count = 0 }

    by : (b : Bool) → (at ≤ (group_at_of s at).at) × ((group_at_of s at).at ≤ length s) → (at ≤ (cond b (group_at_of s at) none).at) × ((cond b (group_at_of s at) none).at ≤ length s)
    by true k = k
    by false k = (omega arith, h)

    go : (y : Result (Option Look) Refusal) → look (drop at s) ≡ y → (at ≤ (sent_look y s at).at) × ((sent_look y s at).at ≤ length s)
    go (Ok None) k = (omega arith, h)
    go (Err why) k = (omega arith, h)
    go (Ok (Some (Setup a w))) k = (omega arith, h)
    go (Ok (Some (Failed m))) k = (omega arith, h)
    go (Ok (Some (Out x))) k = let r = group_further s at x k in by (eqb x.endpoint 0) (omega (arith, r.0), r.1)

-- The cursor goes on by at least one byte, within the bytes.
pub item_further : (s : List ℕ) (at : ℕ) (y : ItemAnswer) → item_at s at ≡ Some y → (at < next_of (Some y) at) × (next_of (Some y) at ≤ length s)
unfolding item_at
item_further s at y e = go (look (drop at s)) refl e
  where
    Further' : ItemAnswer → Type 0
    Further' v = (at < next_of (Some v) at) × (next_of (Some v) at ≤ length s)

    unless : (b : Bool) (n : ℕ) (x : ItemAnswer) → failed_at s n ≡ b → unless_failed b n x ≡ Some y → at < n → n ≤ length s → next_of (Some x) at ≡ n → Further' y
    unless true n x f g h k q = let z : failed_item (record { at = n + 5 }) ≡ y = cc in subst Further' z (omega (arith, h), failed_room s n f)
    unless false n x f g h k q = let z : x ≡ y = cc in subst Further' z (omega (arith, q, h), omega (arith, q, k))

    go : (l : Result (Option Look) Refusal) → look (drop at s) ≡ l → item_look l s at ≡ Some y → Further' y
    go (Ok None) k g = absurd (let z : ◌≡◌ {A = ℕ} 0 1 = cc in omega arith)
    go (Err why) k g = absurd (let z : ◌≡◌ {A = ℕ} 0 1 = cc in omega arith)
    go (Ok (Some (Failed m))) k g = let z : failed_item (record { at = at + 5 }) ≡ y = cc in subst Further' z (omega arith, failed_at_place s at m k)
    go (Ok (Some (Setup a w))) k g =
        let r = sent_inside s (at + 10) (setup_at s at a w k) in
        unless (failed_at s (sent_at s (at + 10)).at) (sent_at s (at + 10)).at _ refl g (omega (arith, r.0)) r.1 refl
    go (Ok (Some (Out x))) k g =
        let r = group_further s at x k in
        unless (failed_at s (group_at_of s at).at) (group_at_of s at).at _ refl g r.0 r.1 refl
