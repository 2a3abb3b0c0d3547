-- Laws of the log: writes one after another, and the words that stay. Assumes nothing.
use Rattle.std.proofs.Common.{◌≡◌, ℕ, ◌+◌, ◌*◌, ◌≤◌, List, [], ◌∷◌, ◌++◌, length, drop, sym, refl, ap, ◌∙◌, ap₂, add-zero, arith, length-append}
use lib.Seq.{sets, sets-eq, length-sets}
use Rattle.transfers.specs.declared.log.Log.{Log}
use Rattle.transfers.specs.Log.{Write, wr, words, logged, Wrote}
use Rattle.transfers.specs.Puts.{Puts}
use Rattle.pool.proofs.Stores.{sets_append}

words_append : (a b : List Write) → words (a ++ b) ≡ words a ++ words b
words_append [] b = refl
words_append (wr r m v ∷ a) b = ap (λ (l : List ℕ). r ∷ m ∷ v ∷ l) (words_append a b)

words_length : (a : List Write) → length (words a) ≡ 3 * length a
words_length [] = refl
words_length (wr r m v ∷ a) = omega (arith, words_length a)

pub nothing : (l : List ℕ) (k : ℕ) → Wrote l k [] l k
nothing l k = record { log = refl; count = sym (add-zero k) }

-- Writes, and others after them.
pub then : {l l₁ l₂ : List ℕ} {k k₁ k₂ : ℕ} {a b : List Write} → Wrote l k a l₁ k₁ → Wrote l₁ k₁ b l₂ k₂ → Wrote l k (a ++ b) l₂ k₂
then {l} {l₁} {l₂} {k} {k₁} {k₂} {a} {b} p q = record {
  log =
      q.log
      ∙ ap₂ (λ (m : List ℕ) (n : ℕ). sets m (3 * n) (words b)) p.log p.count
      ∙ ap (λ (n : ℕ). sets (logged l k a) n (words b)) (omega (arith, words_length a))
      ∙ sets_append (words a) (words b) l (3 * k)
      ∙ ap (λ (r : List ℕ). sets l (3 * k) r) (sym (words_append a b));
  count = omega (arith, p.count, q.count, length-append a b);
}

-- The same of the log itself.
pub puts_then : {l m n : Log} {a b : List Write} → Puts l a m → Puts m b n → Puts l (a ++ b) n
puts_then p q = record { same = q.same ∙ p.same; wrote = then p.wrote q.wrote }

pub same_room : {l l' : List ℕ} {k k' : ℕ} {ws : List Write} → Wrote l k ws l' k' → length l' ≡ length l
same_room {l} {k = k} {ws = ws} p = ap length p.log ∙ length-sets l (3 * k) (words ws)

-- "The answer counts the writes; later words stay": the log is the writes' words from word 0 on, then the old words.
pub logged_is : (l : List ℕ) (ws : List Write) → 3 * length ws ≤ length l → logged l 0 ws ≡ words ws ++ drop (3 * length ws) l
logged_is l ws h =
    let e : 0 + length (words ws) ≡ 3 * length ws = omega (arith, words_length ws) in
    sets-eq (words ws) l 0 (omega arith) ∙ ap (λ (n : ℕ). words ws ++ drop n l) e
