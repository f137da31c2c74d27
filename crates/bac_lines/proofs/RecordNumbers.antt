-- Numbers of a range, with which a line begins.
use Rattle.std.specs.Prelude.{◌≡◌, ◌⊎◌, ℕ, ◌+◌, ◌*◌, ◌/◌, ◌%◌, ◌^◌, ◌<◌, ◌≤◌, List, [], ◌∷◌, ◌++◌, length, take, slice_index, IsTrue, decimal}
use Rattle.std.proofs.Common.{sym, ◌∙◌, ap, arith, inl, inr, get_or}
use Rattle.std.proofs.lemmas.Bool.{both_ways, not-true}
use Rattle.std.proofs.lemmas.Fmt.{decimal_digit, decimal_step, decimal_nonempty, first_decimal}
use Rattle.std.proofs.lemmas.List.{take_more}
use Rattle.bac_text.specs.Words.{number}
use Rattle.bac_lines.specs.Scanning.{clear, is_decimal}
use Rattle.bac_lines.proofs.Digits.{IsRead, value_after, decimal_digits, decimal_value, digit_read, no_less, first_is_digit}

pub first_read : (line : List ℕ) (digit : ℕ) → 0 < length line → digit < 10 → slice_index line 0 ≡ 48 + digit → take 1 line ≡ number digit
first_read [] digit some small is = absurd (omega (arith, some))
first_read (x ∷ line) digit some small is = ap (λ (k : ℕ). k ∷ []) is ∙ sym (decimal_digit digit small)

pub more_read : (line : List ℕ) (taken n digit : ℕ) → taken < length line → take taken line ≡ number n → 0 < n → n * 10 + digit < 2 ^ 64 → digit < 10 → slice_index line taken ≡ 48 + digit → take (taken + 1) line ≡ number (n * 10 + digit)
more_read line taken n digit within e some fits small is =
    let front : (n * 10 + digit) / 10 ≡ n = omega (arith, small) in
    let last : (n * 10 + digit) % 10 ≡ digit = omega (arith, small) in
    take_more line taken 0 within ∙ ap (λ (l : List ℕ). l ++ slice_index line taken ∷ []) e ∙ ap (λ (k : ℕ). decimal n ++ k ∷ []) is
    ∙ sym (decimal_step (n * 10 + digit) (omega (arith, some)) fits ∙ ap (λ (k : ℕ). decimal k ++ (48 + (n * 10 + digit) % 10) ∷ []) front ∙ ap (λ (k : ℕ). decimal n ++ (48 + k) ∷ []) last)

pub as_read : (line : List ℕ) (taken n : ℕ) → taken ≤ length line → take taken line ≡ number n → n < 2 ^ 64 → IsRead line taken n
as_read line taken n within e small =
    record { within = within; digits = rw e (decimal_digits n small); is_value = ap (value_after 0) e ∙ decimal_value n small }

-- ---- no number

pub no_digit : (line : List ℕ) → IsTrue (clear is_decimal line) → (n : ℕ) (more : List ℕ) → n < 2 ^ 64 → line ≡ number n ++ more → ⊥
no_digit [] ends n more small is = by (decimal n) (decimal_nonempty n small) is
  where
    by : (ds : List ℕ) → 0 < length ds → [] ≡ ds ++ more → ⊥
    by [] some e = omega (arith, some)
    by (x ∷ ds) some e = absurd (cc)
no_digit (x ∷ line) ends n more small is = both_ways (is_decimal x) (not-true (is_decimal x) ends) (first_is_digit n x more line small is)

-- a first digit that is too small, as 0 is, or too great
pub first_out : (line : List ℕ) (digit least most : ℕ) → 0 < length line → digit < 10 → slice_index line 0 ≡ 48 + digit → (digit < least) ⊎ (most < digit) → most < 2 ^ 64
    → least ≤ 1 → (n : ℕ) (more : List ℕ) → least ≤ n → n ≤ most → IsTrue (clear is_decimal more) → line ≡ number n ++ more → ⊥
first_out line digit least most some small is (inr out) fits low n more over under ends e =
    omega (arith, out, under, no_less line 1 digit n more (as_read line 1 digit (omega (arith, some)) (first_read line digit some small is) (omega (arith, small))) (omega (arith, under, fits)) ends e)
first_out line digit least most some small is (inl out) fits low n more over under ends e =
    by (decimal n) (decimal_nonempty n (omega (arith, under, fits))) (first_decimal n (omega (arith, out, over)) (omega (arith, under, fits))) e
  where
    by : (ds : List ℕ) → 0 < length ds → 48 < get_or ds 0 0 → line ≡ ds ++ more → ⊥
    by [] nonempty first at = omega (arith, nonempty)
    by (x ∷ ds) nonempty first at =
        let same : slice_index line 0 ≡ x = ap (λ (l : List ℕ). slice_index l 0) at in
        omega (arith, first, same, is, out, low)

-- a digit with which the number is too great
pub grown_out : (line : List ℕ) (taken m digit least most : ℕ) → take taken line ≡ number m → m < 2 ^ 64 → taken < length line → digit < 10 → slice_index line taken ≡ 48 + digit → most < m * 10 + digit → most < 2 ^ 64
    → least ≤ 1 → (n : ℕ) (more : List ℕ) → least ≤ n → n ≤ most → IsTrue (clear is_decimal more) → line ≡ number n ++ more → ⊥
grown_out line taken m digit least most e room within small is out fits low n more over under ends at =
    omega (arith, out, under, no_less line (taken + 1) (m * 10 + digit) n more (digit_read line taken m digit (as_read line taken m (omega (arith, within)) e room) within small is) (omega (arith, under, fits)) ends at)
