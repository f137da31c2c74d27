-- Numbers of more than twenty digits.
use Rattle.std.specs.Prelude.{◌≡◌, ℕ, set, codes, ◌+◌, ◌/◌, ◌%◌, ◌^◌, ◌<◌, ◌≤◌, List, [], ◌∷◌, ◌++◌, length, take}
use Rattle.std.specs.Fmt.{decimal}
use Rattle.bac_tool.specs.ErrorLines.{error_line}
use Rattle.std.proofs.Common.{ap, sym, ◌∙◌, arith, lit≤, lit<, append_assoc}
use Rattle.std.proofs.lemmas.Fmt.{decimal_step_wide, length-decimal-le_wide}
use Rattle.std.proofs.lemmas.List.{length-append, length-take-le, take_more_set}

-- where a text ends that stands behind the place
pub ends_at : (room old text : List ℕ) (at result : ℕ) → take result room ≡ take at old ++ text → result ≤ length room → at ≤ length old → result ≡ at + length text
ends_at room old text at result e within before = omega (arith, ap (λ (l : List ℕ). length l) e, length-append (take at old) text, length-take-le result room within, length-take-le at old before)

-- a number of 128 bits has at most 39 digits
pub few_digits : (n : ℕ) → n < 2 ^ 128 → length (decimal n) ≤ 39
few_digits n small =
    let limit : 2 ^ 128 ≤ 10 ^ 39 = lit≤ tt in
    let wide : 2 ^ 128 ≤ 10 ^ 64 = lit≤ tt in
    length-decimal-le_wide 39 n (lit< tt) (omega (arith, small, limit)) (omega (arith, small, wide))

-- its digits are those of a tenth of it, and one more
pub one_digit_more : (n : ℕ) → n < 2 ^ 128 → 10 ≤ n → decimal n ≡ decimal (n / 10) ++ (48 + n % 10) ∷ []
one_digit_more n small large = let wide : 2 ^ 128 ≤ 10 ^ 64 = lit≤ tt in decimal_step_wide n large (omega (arith, small, wide))

pub one_longer : (n : ℕ) → n < 2 ^ 128 → 10 ≤ n → length (decimal n) ≡ length (decimal (n / 10)) + 1
one_longer n small large = ap (λ (l : List ℕ). length l) (one_digit_more n small large) ∙ length-append (decimal (n / 10)) ((48 + n % 10) ∷ [])

-- the last digit written behind those of the tenth
pub one_digit_behind : (room old : List ℕ) (at end n : ℕ) → n < 2 ^ 128 → 10 ≤ n → end < length room → take end room ≡ take at old ++ decimal (n / 10) → take (end + 1) (set room end (48 + n % 10)) ≡ take at old ++ decimal n
one_digit_behind room old at end n small large below e =
    take_more_set room end (48 + n % 10) below
    ∙ ap (λ (l : List ℕ). l ++ (48 + n % 10) ∷ []) e
    ∙ append_assoc (take at old) (decimal (n / 10)) ((48 + n % 10) ∷ [])
    ∙ ap (λ (l : List ℕ). take at old ++ l) (sym (one_digit_more n small large))

-- a text between the name of the program and the end of a line
pub line_of : (first second third : List ℕ) (text : List ℕ) → first ≡ codes "bactool: " → second ≡ first ++ text → third ≡ second ++ codes "\n" → third ≡ error_line text
line_of first second third text e f g =
    g ∙ ap (λ (l : List ℕ). l ++ codes "\n") (f ∙ ap (λ (l : List ℕ). l ++ text) e) ∙ append_assoc (codes "bactool: ") text (codes "\n")
