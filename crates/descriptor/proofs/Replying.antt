-- An answer and its part. Assumes nothing.
use mathlib.Core.Path.{◌≡◌, subst}
use mathlib.Core.List.{List, []}
use Rattle.std.specs.Prelude.{Option, Some, Result, Ok, Err}
use Prim.Native.Nat.{ℕ, ◌+◌, ◌≤◌, ◌<◌}
use native.Mathlib.Omega.{arith}
use Rattle.std.proofs.Common.{rules}
use lib.ListN.{length, get_or}
use Rattle.descriptor.specs.declared.refusal.Refusal.{Refusal}
use Rattle.descriptor.specs.declared.walk.EndpointKind.{EndpointKind}
use Rattle.descriptor.specs.declared.walk.Endpoint.{Endpoint}
use Rattle.descriptor.specs.declared.walk.Descriptor.{Descriptor}
use Rattle.descriptor.specs.Walk.{Walked, part_at, walk_of, part_of}
use Rattle.descriptor.specs.Reply.{number_of, type_number, fields_of, descriptor_reply, walk_reply, OneAnswer}
use Rattle.descriptor.specs.Whole.{Hands, Last, OnePart}
use Rattle.descriptor.proofs.Answered.{part_there}
use Rattle.descriptor.proofs.Walking.{handed}

-- What a call answers.
abbrev pub Answer : Type 0
Answer = Result (Option Descriptor) Refusal

-- The answer r is the walk's.
abbrev pub Right : List ℕ → ℕ → Answer → Type 0
Right b at r = walk_reply r (part_of (walk_of b at)) ≡ walk_of b at

-- A descriptor that is found lies in the bytes lent.
pub record Found (b : List ℕ) (at : ℕ) : Type 0 where
  pub before : at < length b
  pub within : at + get_or b at 0 ≤ length b
  pub is : part_at b at ≡ part_of (walk_of b at)
  pub two : 2 ≤ length (part_of (walk_of b at))
  pub ends : at + length (part_of (walk_of b at)) ≤ length b

handed_own : (x : Option Endpoint) (w : Walked) → descriptor_reply x (part_of w) ≡ w → Hands w (part_of w)
handed_own x w e = search rules

pub found_descriptor : (b : List ℕ) (at : ℕ) (r : Answer) (x : Option Descriptor) (d : Descriptor) → r ≡ Ok x → x ≡ Some d → Right b at r → Found b at
found_descriptor b at r x d ok some e =
    let h = handed b at (part_of (walk_of b at)) (handed_own d.endpoint (walk_of b at) (subst (λ (y : Option Descriptor). Right b at (Ok y)) some (subst (Right b at) ok e))) in
    let t = part_there b at (part_of (walk_of b at)) h.stands in
    record {
      before = omega (arith, h.is.begins.two, h.stands.within, h.accepted.lent);
      within = omega (arith, h.stands.within, h.accepted.lent, t.long);
      is = t.is;
      two = h.is.begins.two;
      ends = omega (arith, h.stands.within, h.accepted.lent);
    }

part_handed : (w : Walked) (p : List ℕ) → Hands w p → part_of w ≡ p
part_handed w p h = search rules

part_none : (w : Walked) → Last w → part_of w ≡ []
part_none w l = search rules

pub one_part : OnePart
one_part = record { handed = part_handed; none = part_none }

-- ---- no two answers have one reply

kind_told : (k l : EndpointKind) → type_number k ≡ type_number l → k ≡ l
kind_told k l e = search rules

refusal_told : (v w : Refusal) → number_of v ≡ number_of w → v ≡ w
refusal_told v w e = search rules

endpoint_told : (d e : Endpoint) → fields_of d ≡ fields_of e → d ≡ e
endpoint_told d e f = let k = kind_told d.kind e.kind in search rules

found_told : (x y : Option Endpoint) (p q : List ℕ) → descriptor_reply x p ≡ descriptor_reply y q → x ≡ y
found_told (Some d) (Some e) p q f = let k = endpoint_told d e in search rules
found_told x y p q f = search rules

told : (r s : Answer) (p q : List ℕ) → walk_reply r p ≡ walk_reply s q → r ≡ s
told (Ok (Some d)) (Ok (Some e)) p q f = let k = found_told d.endpoint e.endpoint p q f in search rules
told (Err v) (Err w) p q f = let k = refusal_told v w in search rules
told r s p q f = search rules

pub one_answer : OneAnswer
one_answer = record { told = told }
