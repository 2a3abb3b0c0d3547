-- The fewest digits that hold a number are its decimal text. Assumes nothing.
use mathlib.Core.Path.{◌≡◌, sym, ap, subst, ◌∙◌}
use mathlib.Core.List.{List, [], ◌∷◌, ◌++◌}
use Prim.Native.Nat.{ℕ, zero, suc, ◌+◌, ◌-◌, ◌*◌, ◌/◌, ◌%◌, ◌^◌, ◌<◌, ◌≤◌}
use native.Mathlib.Nat.{pow-zero, pow-suc, one-le-pow}
use native.Mathlib.Omega.{arith}
use Rattle.std.proofs.Common.{nat_lt, true}
use Rattle.std.proofs.lemmas.Bool.Decides.{nat_tests}
use Rattle.std.specs.Fmt.{decimal}
use Rattle.std.proofs.lemmas.Fmt.{decimal_digit, decimal_step}
use Rattle.io.specs.Digits.{last_digits, hex_digit_ascii}
use Rattle.script.specs.Text.{Placed, PlacedDecimal}

glyph : (d : ℕ) → d < 10 → hex_digit_ascii d ≡ 48 + d
glyph d h = let low : nat_lt d 10 ≡ true = grind (arith, nat_tests) in rw low

times_ten : (c : ℕ) → 10 ^ suc c ≡ 10 ^ c * 10
times_ten c = pow-suc 10 c

last_decimal : (count n : ℕ) → 1 ≤ count → n < 10 ^ count → (1 < count → 10 ^ (count - 1) ≤ n) → n < 2 ^ 64 → last_digits 10 count n ≡ decimal n
last_decimal zero n some holds fewest small = absurd (omega arith)
last_decimal (suc zero) n some holds fewest small =
    let below : n < 10 = omega (arith, times_ten 0, pow-zero 10) in
    let same : n % 10 ≡ n = omega arith in
    ap (λ (d : ℕ). hex_digit_ascii d ∷ []) same ∙ ap (λ (g : ℕ). g ∷ []) (glyph n below) ∙ sym (decimal_digit n below)
last_decimal (suc (suc c)) n some holds fewest small =
    let least : 10 ^ suc c ≤ n = subst (λ (k : ℕ). 10 ^ k ≤ n) (omega arith) (fewest (omega arith)) in
    let ten : 10 ≤ n = omega (arith, times_ten c, one-le-pow c 10 (omega arith)) in
    let one_less : c ≡ suc c - 1 = omega arith in
    let low : 10 ^ c ≤ n / 10 = omega (arith, times_ten c, least) in
    let front : last_digits 10 (suc c) (n / 10) ≡ decimal (n / 10) =
    last_decimal (suc c) (n / 10) (omega arith) (omega (arith, times_ten (suc c))) (λ more. subst (λ (k : ℕ). 10 ^ k ≤ n / 10) one_less low) (omega arith) in
    ap (λ (l : List ℕ). l ++ (hex_digit_ascii (n % 10) ∷ [])) front
    ∙ ap (λ (g : ℕ). decimal (n / 10) ++ (g ∷ [])) (glyph (n % 10) (omega arith))
    ∙ sym (decimal_step n ten small)

pub decimal_placed : (out : List ℕ) (at n : ℕ) (out' : List ℕ) (at' : ℕ) → n < 2 ^ 64 → PlacedDecimal out at n out' at' → Placed out at (decimal n) out' at'
decimal_placed out at n out' at' small p = subst (λ (l : List ℕ). Placed out at l out' at') (last_decimal p.count n p.fewest.0 p.fewest.1 p.fewest.2 small) p.text
