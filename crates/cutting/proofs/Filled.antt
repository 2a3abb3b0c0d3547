-- The bytes of the packets received, in the buffer. Assumes nothing.
use mathlib.Core.Path.{◌≡◌, refl, sym, ap, ap₂, ◌∙◌, subst}
use mathlib.Core.Bool.{true, false}
use mathlib.Core.List.{List, [], ◌∷◌, ◌++◌, map, append_assoc, append-nil}
use Prim.Native.Nat.{ℕ, ◌+◌, ◌≤◌, min}
use native.Mathlib.Nat.{add-zero}
use native.Mathlib.Omega.{arith}
use lib.Dec.{ltb}
use lib.ListN.{length, take, drop, length-append, length-drop}
use lib.Seq.{sets, sets-eq, length-take-le, take-length, take-take, drop-drop, take_at, drop_at, take-append-le, take-append-add}
use borrow.Author.Tests.{ltb-true, ltb-false}
use Rattle.pool.proofs.Cases.{by_cases}
use Rattle.cutting.specs.declared.depacketiser.InDepacketiser.{InDepacketiser}
use Rattle.cutting.specs.Rules.{joined}
use Rattle.cutting.specs.Retire.{in_begin, in_retire, filled, sum, CountsBytes}
use Rattle.cutting.proofs.Rules.{joined_nil, joined_snoc}
use Rattle.cutting.proofs.Retiring.{retires, counts_from, parity_odd}

-- The packets' lengths add up to the bytes joined.
pub total_joined : (ls : List (List ℕ)) → length (joined ls) ≡ sum (map length ls)
unfolding joined
total_joined [] = refl
total_joined (l ∷ ls) = length-append l (joined ls) ∙ ap (λ (n : ℕ). length l + n) (total_joined ls)

-- ---- a store after what is there

module _ (j x lent : List ℕ) (off k : ℕ) (a : off ≤ length j) (b : off ≤ length lent) where
  length_buffer : length (take off j ++ drop off lent) ≡ length lent
  length_buffer =
      let t = length-take-le off j a in
      let d = length-drop off lent in
      length-append (take off j) (drop off lent) ∙ omega arith

  stays : k ≡ 0 → take off j ++ take k x ≡ take (off + k) (j ++ x)
  stays e = subst (λ (n : ℕ). take off j ++ take n x ≡ take (off + n) (j ++ x)) (sym e)
      (append-nil (take off j) ∙ sym (take-append-le off j x a) ∙ ap (λ (n : ℕ). take n (j ++ x)) (sym (add-zero off)))

  put : k ≤ length x → off + k ≤ length lent → take off j ++ take k x ≡ take (off + k) (j ++ x)
      → sets (take off j ++ drop off lent) off (take k x) ≡ take (off + k) (j ++ x) ++ drop (off + k) lent
  put h q e =
      let buf = take off j ++ drop off lent in
      let n = length-take-le k x h in
      sets-eq (take k x) buf off (omega (arith, n, length_buffer, q))
      ∙ ap₂ {C = List ℕ} (λ (y : List ℕ) (i : ℕ). y ++ take k x ++ drop (off + i) buf) (take_at (take off j) (drop off lent) off (length-take-le off j a)) n
      ∙ ap₂ {C = List ℕ} ◌++◌ e (sym (drop-drop k off buf) ∙ ap (drop k) (drop_at (take off j) (drop off lent) off (length-take-le off j a)) ∙ drop-drop k off lent)

-- ---- the counters and the buffer, with what was retired

module _ (n : ℕ) (lent : List ℕ) (few : n ≤ 0xFFFF) (room : n ≤ length lent) where
  pub record Stored (got : List (List ℕ)) (d : InDepacketiser) (buf : List ℕ) : Type 0 where
    pub offset : d.offset ≡ min n (length (joined got))
    pub whole : d.offset + d.remain ≡ n
    pub buffer : buf ≡ take d.offset (joined got) ++ drop d.offset lent

  pub stored_length : (got : List (List ℕ)) (d : InDepacketiser) (buf : List ℕ) → Stored got d buf → length buf ≡ length lent
  stored_length got d buf r =
      ap length r.buffer ∙ length_buffer (joined got) [] lent d.offset 0 (omega (arith, r.offset)) (omega (arith, r.whole, room))

  pub stored_none : (d : InDepacketiser) → d.offset ≡ 0 → d.remain ≡ n → Stored [] d lent
  stored_none d e f = record {
    offset = let z = ap length joined_nil in omega arith;
    whole = omega arith;
    buffer = ap (λ (i : ℕ). take i (joined []) ++ drop i lent) (sym e);
  }

  -- A packet x of k bytes at `from`.
  pub stored_one : (got : List (List ℕ)) (d : InDepacketiser) (buf : List ℕ) (from : List ℕ) (k : ℕ) → k ≤ length from → Stored got d buf
      → Stored (got ++ (take k from ∷ [])) (in_retire d k).rest (sets buf d.offset (take (in_retire d k).count from))
  stored_one got d buf from k h r =
      let x = take k from in
      let j = joined got in
      let len = length-take-le k from h in
      let q = retires d k (omega (arith, r.whole, few)) in
      let c = min d.remain k in
      let o = r.offset in
      let w = r.whole in
      let small : c ≤ length x = omega arith in
      let inside : d.offset ≤ length j = omega arith in
      let e : take d.offset j ++ take c x ≡ take (d.offset + c) (j ++ x) = by_cases (ltb d.offset (length j))
      (λ (u : ltb d.offset (length j) ≡ true). let v = ltb-true d.offset (length j) u in stays j x lent d.offset c inside (omega arith) (omega arith))
      (λ (u : ltb d.offset (length j) ≡ false). let v = ltb-false d.offset (length j) u in
      subst (λ (i : ℕ). take i j ++ take c x ≡ take (i + c) (j ++ x)) (let z : length j ≡ d.offset = omega arith in z)
      (ap (λ (y : List ℕ). y ++ take c x) (take-length j) ∙ sym (take-append-add j x c))) in
      record {
        offset = q.offset ∙ (let s = length-append j x in let z : d.offset + c ≡ min n (length (j ++ x)) = omega arith in z) ∙ ap (λ (y : List ℕ). min n (length y)) (sym (joined_snoc got x));
        whole = let qo = q.offset in let qr = q.remain in omega arith;
        buffer =
            ap₂ {C = List ℕ} (λ (y : List ℕ) (i : ℕ). sets y d.offset (take i from)) r.buffer q.kept
            ∙ ap (λ (y : List ℕ). sets (take d.offset j ++ drop d.offset lent) d.offset y) (sym (take-take c k from (omega arith)))
            ∙ put j x lent d.offset c inside (omega arith) small (omega arith) e
            ∙ ap₂ {C = List ℕ} (λ (i : ℕ) (y : List ℕ). take i y ++ drop i lent) (sym q.offset) (sym (joined_snoc got x));
      }

  stored_all : (ls got : List (List ℕ)) (c : InDepacketiser) (buf : List ℕ) → Stored got c buf
      → filled c buf ls ≡ take (min n (length (joined (got ++ ls)))) (joined (got ++ ls)) ++ drop (min n (length (joined (got ++ ls)))) lent
  stored_all [] got c buf r =
      r.buffer ∙ ap (λ (i : ℕ). take i (joined got) ++ drop i lent) r.offset
      ∙ ap (λ (x : List (List ℕ)). take (min n (length (joined x))) (joined x) ++ drop (min n (length (joined x))) lent) (sym (append-nil got))
  stored_all (l ∷ ls) got c buf r =
      let more = subst (λ (x : List ℕ). Stored (got ++ (x ∷ [])) (in_retire c (length l)).rest (sets buf c.offset (take (in_retire c (length l)).count l))) (take-length l)
      (stored_one got c buf l (length l) (omega arith) r) in
      stored_all ls (got ++ (l ∷ [])) (in_retire c (length l)).rest (sets buf c.offset (take (in_retire c (length l)).count l)) more
      ∙ ap (λ (x : List (List ℕ)). take (min n (length (joined x))) (joined x) ++ drop (min n (length (joined x))) lent) (append_assoc got (l ∷ []) ls)

  bytes : (ls : List (List ℕ)) → let count = min n (sum (map length ls)) in filled (in_begin n) lent ls ≡ take count (joined ls) ++ drop count lent
  bytes ls = stored_all ls [] (in_begin n) lent (stored_none (in_begin n) refl refl) ∙ ap (λ (k : ℕ). take (min n k) (joined ls) ++ drop (min n k) lent) (total_joined ls)

pub counts_bytes : CountsBytes
counts_bytes = record {
  counted = λ n ks h. (counts_from ks (in_begin n) (omega arith)).0 ∙ omega arith;
  wanted = λ n ks h. (counts_from ks (in_begin n) (omega arith)).1;
  bytes = λ n lent ls few room. bytes n lent few room ls;
  alternates = parity_odd;
}
