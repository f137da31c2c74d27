-- Decimal digits, and the numbers that they are.
use Rattle.std.specs.Prelude.{◌≡◌, ◌⊎◌, ℕ, ◌+◌, ◌-◌, ◌*◌, ◌/◌, ◌%◌, ◌^◌, ◌<◌, ◌≤◌, List, [], ◌∷◌, ◌++◌, length, take, drop, slice_index, Option, Some, None, false, true, nat_le, IsTrue, decimal, refl}
use Rattle.std.specs.Fmt.{signed_decimal}
use Rattle.std.specs.Int.{w64, cast_signed}
use Rattle.std.proofs.Common.{sym, ◌∙◌, ap, subst, arith, suc, zero, inl, inr, unwrap_or}
use Rattle.std.proofs.lemmas.Bool.{and_parts, le-leb, cases_lt}
use Rattle.std.proofs.lemmas.Int.{to_z_pos}
use Rattle.std.proofs.Math.Facts.{to_z-neg}
use Rattle.std.proofs.lemmas.Fmt.{decimal_by_steps, decimal_digit, decimal_nonempty, decimal_step}
use Rattle.std.proofs.lemmas.List.{take-append-drop, length-take-le, length-drop, take_more, take_all}
use Rattle.std.proofs.Math.Seq.{take-add}
use Rattle.bac_text.specs.Words.{number, object_text}
use Rattle.bac_fields.specs.Line.{object_of}
use Rattle.bac_lines.specs.Scanning.{clear, each, is_decimal, Finds}
use Rattle.bac_lines.proofs.SymbolRuns.{runs_join, run_more, run_goes_on, run_is_one}

pub is_digit_of : (d : ℕ) → d < 10 → IsTrue (is_decimal (48 + d))
is_digit_of d lt = let low : IsTrue (nat_le 48 (48 + d)) = le-leb 48 (48 + d) (omega arith) in let high : IsTrue (nat_le (48 + d) 57) = le-leb (48 + d) 57 (omega arith) in rw (low, high) refl

-- the number that digits go on to
abbrev pub value_after : ℕ → List ℕ → ℕ
value_after n [] = n
value_after n (x ∷ es) = value_after (n * 10 + (x - 48)) es

value_grows : (n : ℕ) (es : List ℕ) → n ≤ value_after n es
value_grows n [] = omega arith
value_grows n (x ∷ es) = omega (arith, value_grows (n * 10 + (x - 48)) es)

value_join : (n : ℕ) (xs ys : List ℕ) → value_after n (xs ++ ys) ≡ value_after (value_after n xs) ys
value_join n [] ys = refl
value_join n (x ∷ xs) ys = value_join (n * 10 + (x - 48)) xs ys

-- one digit more
value_more : (m : ℕ) (es : List ℕ) (n digit : ℕ) → n < length es → slice_index es n ≡ 48 + digit → value_after m (take (n + 1) es) ≡ value_after m (take n es) * 10 + digit
value_more m [] n digit lt is = absurd (omega (arith, lt))
value_more m (x ∷ es) zero digit lt is = omega (arith, is)
value_more m (x ∷ es) (suc n) digit lt is =
    let next : suc n + 1 ≡ suc (n + 1) = omega arith in
    rw next (value_more (m * 10 + (x - 48)) es n digit (omega (arith, lt)) is)

pub decimal_digits : (n : ℕ) → n < 2 ^ 64 → IsTrue (each is_decimal (decimal n))
decimal_digits n small = decimal_by_steps (λ k ds. IsTrue (each is_decimal ds)) (λ k lt. rw (is_digit_of k lt) refl)
    (λ k ds le p. runs_join is_decimal ds ((48 + k % 10) ∷ []) p (rw (is_digit_of (k % 10) (omega arith)) refl)) n small

pub decimal_value : (n : ℕ) → n < 2 ^ 64 → value_after 0 (decimal n) ≡ n
decimal_value n small = decimal_by_steps (λ k ds. value_after 0 ds ≡ k) (λ k lt. omega arith)
    (λ k ds le p. value_join 0 ds ((48 + k % 10) ∷ []) ∙ ap (λ (m : ℕ). m * 10 + ((48 + k % 10) - 48)) p ∙ omega arith) n small

-- it begins with a digit, which is 0 only if the number is
record Begins (n : ℕ) (es : List ℕ) : Type 0 where
  pub first : ℕ
  pub others : List ℕ
  pub is : es ≡ first ∷ others
  pub some : 1 ≤ n → first ≡ 48 → ⊥

decimal_begins : (n : ℕ) → n < 2 ^ 64 → Begins n (decimal n)
decimal_begins n small = decimal_by_steps Begins (λ k lt. record { first = 48 + k; others = []; is = refl; some = λ le e. omega (arith, le, e) })
    (λ k ds le p. record { first = p.first; others = p.others ++ (48 + k % 10) ∷ []; is = ap (λ (l : List ℕ). l ++ (48 + k % 10) ∷ []) p.is; some = λ one e. p.some (omega arith) e }) n small

zero_alone : (n : ℕ) (t : List ℕ) → n < 2 ^ 64 → decimal n ≡ 48 ∷ t → (n ≡ 0) × (t ≡ [])
zero_alone zero t small e = (refl, let zero_is : decimal 0 ≡ 48 ∷ [] = decimal_digit 0 (omega arith) in let whole : 48 ∷ [] ≡ 48 ∷ t = sym zero_is ∙ e in cc)
zero_alone (suc n) t small e =
    let b = decimal_begins (suc n) small in
    let is = b.is in
    let same : b.first ≡ 48 = cc in
    absurd (b.some (omega arith) same)

-- one digit more
decimal_more : (n d : ℕ) → 1 ≤ n → d < 10 → n * 10 + d < 2 ^ 64 → decimal (n * 10 + d) ≡ decimal n ++ (48 + d) ∷ []
decimal_more n d some lt small =
    let front : (n * 10 + d) / 10 ≡ n = omega arith in
    let last : (n * 10 + d) % 10 ≡ d = omega arith in
    decimal_step (n * 10 + d) (omega arith) small ∙ ap (λ (m : ℕ). decimal m ++ (48 + (n * 10 + d) % 10) ∷ []) front ∙ ap (λ (m : ℕ). decimal n ++ (48 + m) ∷ []) last

-- Digits are the first ones of the line, and these are their number.
pub record IsRead (line : List ℕ) (taken n : ℕ) : Type 0 where
  pub within : taken ≤ length line
  pub digits : IsTrue (each is_decimal (take taken line))
  pub is_value : value_after 0 (take taken line) ≡ n

pub digit_read : (line : List ℕ) (taken n digit : ℕ) → IsRead line taken n → taken < length line → digit < 10 → slice_index line taken ≡ 48 + digit → IsRead line (taken + 1) (n * 10 + digit)
digit_read line taken n digit r lt below is = record {
  within = omega (arith, lt);
  digits = run_more is_decimal line taken lt r.digits (rw is (is_digit_of digit below));
  is_value = value_more 0 line taken digit lt is ∙ ap (λ (m : ℕ). m * 10 + digit) r.is_value;
}

-- The front of the line is the text of the number.
pub record IsNumeral (line : List ℕ) (taken n : ℕ) : Type 0 where
  pub within : taken ≤ length line
  pub small : n < 2 ^ 64
  pub is_text : take taken line ≡ decimal n

pub numeral_one : (line : List ℕ) (digit : ℕ) → 0 < length line → digit < 10 → slice_index line 0 ≡ 48 + digit → IsNumeral line 1 digit
numeral_one line digit lt below is = record {
  within = omega (arith, lt);
  small = omega (arith, below);
  is_text = take_more line 0 0 lt ∙ ap (λ (x : ℕ). x ∷ []) is ∙ sym (decimal_digit digit below);
}

pub numeral_more : (line : List ℕ) (taken n digit : ℕ) → IsNumeral line taken n → (n ≡ 0 → ⊥) → taken < length line → digit < 10 → slice_index line taken ≡ 48 + digit → n * 10 + digit < 2 ^ 64 → IsNumeral line (taken + 1) (n * 10 + digit)
numeral_more line taken n digit m some lt below is small = record {
  within = omega (arith, lt);
  small = small;
  is_text = take_more line taken 0 lt ∙ ap (λ (x : ℕ). take taken line ++ x ∷ []) is ∙ ap (λ (l : List ℕ). l ++ (48 + digit) ∷ []) m.is_text ∙ sym (decimal_more n digit (omega (arith, some)) below small);
}

numeral_read : (line : List ℕ) (taken n : ℕ) → IsNumeral line taken n → IsRead line taken n
numeral_read line taken n m = record {
  within = m.within;
  digits = subst (λ (l : List ℕ). IsTrue (each is_decimal l)) (sym m.is_text) (decimal_digits n m.small);
  is_value = ap (value_after 0) m.is_text ∙ decimal_value n m.small;
}

abbrev pub FindsNumber : List ℕ → Option (ℕ × ℕ) → Type 0
FindsNumber = Finds (λ n. n < 2 ^ 64) number is_decimal

-- what begins with digits goes on behind them
goes_on : (line : List ℕ) (taken n v : ℕ) (more : List ℕ) → IsRead line taken n → IsTrue (clear is_decimal more) → line ≡ decimal v ++ more → (t : List ℕ) × (decimal v ≡ take taken line ++ t)
goes_on line taken n v more r ends is = run_goes_on is_decimal (take taken line) (decimal v) (drop taken line) more r.digits (take-append-drop taken line ∙ is) ends

-- a number with which the line begins is no less than that of its first digits
pub no_less : (line : List ℕ) (taken n v : ℕ) (more : List ℕ) → IsRead line taken n → v < 2 ^ 64 → IsTrue (clear is_decimal more) → line ≡ number v ++ more → n ≤ v
no_less line taken n v more r small ends is =
    let run = goes_on line taken n v more r ends is in
    let value : v ≡ value_after n run.0 = sym (decimal_value v small) ∙ ap (value_after 0) run.1 ∙ value_join 0 (take taken line) run.0 ∙ ap (λ (m : ℕ). value_after m run.0) r.is_value in
    omega (arith, value, value_grows n run.0)

-- none of more than 64 bits
pub no_room : (line : List ℕ) (taken n digit : ℕ) → IsNumeral line taken n → taken < length line → digit < 10 → slice_index line taken ≡ 48 + digit → 2 ^ 64 ≤ n * 10 + digit → FindsNumber line None
no_room line taken n digit m lt below is large v more small ends whole =
    let r = digit_read line taken n digit (numeral_read line taken n m) lt below is in
    let run = goes_on line (taken + 1) (n * 10 + digit) v more r ends whole in
    let value : v ≡ value_after (n * 10 + digit) run.0 = sym (decimal_value v small) ∙ ap (value_after 0) run.1 ∙ value_join 0 (take (taken + 1) line) run.0 ∙ ap (λ (m : ℕ). value_after m run.0) r.is_value in
    absurd (omega (arith, small, large, value, value_grows (n * 10 + digit) run.0))

-- none with a 0 before other digits
pub no_more : (line : List ℕ) (taken n digit : ℕ) → IsNumeral line taken n → n ≡ 0 → taken < length line → digit < 10 → slice_index line taken ≡ 48 + digit → FindsNumber line None
no_more line taken n digit m nothing lt below is v more small ends whole =
    let run = goes_on line (taken + 1) (n * 10 + digit) v more (digit_read line taken n digit (numeral_read line taken n m) lt below is) ends whole in
    let zero_is : take taken line ≡ 48 ∷ [] = m.is_text ∙ ap decimal nothing ∙ decimal_digit 0 (omega arith) in
    let text : decimal v ≡ 48 ∷ slice_index line taken ∷ run.0 = run.1 ∙ ap (λ (l : List ℕ). l ++ run.0) (take_more line taken 0 lt ∙ ap (λ (l : List ℕ). l ++ slice_index line taken ∷ []) zero_is) in
    let alone = (zero_alone v (slice_index line taken ∷ run.0) small text).1 in
    absurd (cc)

pub all_read : (line : List ℕ) (taken n : ℕ) → IsNumeral line taken n → IsTrue (clear is_decimal (drop taken line)) → FindsNumber line (Some (n, taken))
all_read line taken n m k v more small ends is =
    let r = numeral_read line taken n m in
    let same = run_is_one is_decimal (take taken line) (decimal v) (drop taken line) more r.digits (decimal_digits v small) (take-append-drop taken line ∙ is) k ends in
    let value : n ≡ v = sym r.is_value ∙ ap (value_after 0) (sym same) ∙ decimal_value v small in
    let size : taken ≡ length (decimal v) = sym (length-take-le taken line m.within) ∙ ap length (sym same) in
    rw (value, size) refl

-- none where no digit comes first
pub none_read : (line : List ℕ) → IsTrue (clear is_decimal line) → FindsNumber line None
none_read line k v more small ends is =
    let same = run_is_one is_decimal [] (decimal v) line more refl (decimal_digits v small) is k ends in
    absurd (omega (arith, decimal_nonempty v small, ap length same))

-- a decimal number begins with a digit
pub first_is_digit : (v x : ℕ) (more line : List ℕ) → v < 2 ^ 64 → x ∷ line ≡ decimal v ++ more → IsTrue (is_decimal x)
first_is_digit v x more line small is = by (decimal v) (decimal_digits v small) (decimal_nonempty v small) is
  where
    by : (ds : List ℕ) → IsTrue (each is_decimal ds) → 0 < length ds → x ∷ line ≡ ds ++ more → IsTrue (is_decimal x)
    by [] run some e = absurd (omega (arith, some))
    by (y ∷ ds) run some e =
        let first : x ≡ y = cc in
        subst (λ (z : ℕ). IsTrue (is_decimal z)) (sym first) (and_parts (is_decimal y) (each is_decimal ds) run).0

pub no_minus : (v : ℕ) (more line : List ℕ) → v < 2 ^ 64 → 45 ∷ line ≡ decimal v ++ more → ⊥
no_minus v more line small is =
    let minus : false ≡ true = first_is_digit v 45 more line small is in
    absurd (cc)

-- the text of 64 bits of two's complement
pub record IsNegative (bits : ℕ) : Type 0 where
  pub magnitude : ℕ
  pub low : 2 ^ 63 ≤ bits
  pub sum : bits + magnitude ≡ 2 ^ 64
  pub is_text : signed_decimal (cast_signed w64 bits) ≡ 45 ∷ decimal magnitude

pub positive_text : (bits : ℕ) → bits < 2 ^ 63 → signed_decimal (cast_signed w64 bits) ≡ decimal bits
positive_text bits low = ap signed_decimal (to_z_pos w64 bits low)

pub is_negative : (bits : ℕ) → bits < 2 ^ 64 → 2 ^ 63 ≤ bits → IsNegative bits
is_negative bits small high =
    let k = 2 ^ 64 - suc bits in
    let back : bits ≡ 2 ^ 64 - suc k = omega (arith, small, high) in
    record {
      magnitude = suc k;
      low = high;
      sum = omega (arith, small);
      is_text = ap (λ (b : ℕ). signed_decimal (cast_signed w64 b)) back ∙ ap signed_decimal (to_z-neg w64 k (omega (arith, small, high)));
    }

abbrev FindsSigned : List ℕ → Option (ℕ × ℕ) → Type 0
FindsSigned = Finds (λ bits. bits < 2 ^ 64) (λ bits. signed_decimal (cast_signed w64 bits)) is_decimal

-- the number after a minus sign
after_minus : (line : List ℕ) (result : Option (ℕ × ℕ)) (bits : ℕ) (more : List ℕ) → FindsNumber line result → bits < 2 ^ 64 → IsTrue (clear is_decimal more) → 45 ∷ line ≡ signed_decimal (cast_signed w64 bits) ++ more
    → (n : IsNegative bits) × (result ≡ Some (n.magnitude, length (decimal n.magnitude)))
after_minus line result bits more found small ends is = elim (cases_lt bits (2 ^ 63)) [
  | inl low ↦ absurd (no_minus bits more line small (is ∙ ap (λ (l : List ℕ). l ++ more) (positive_text bits low)))
  | inr high ↦
      let n = is_negative bits small high in
      (n, found n.magnitude more (omega (arith, n.low, n.sum)) ends (ap (drop 1) (is ∙ ap (λ (l : List ℕ). l ++ more) n.is_text)))
]

pub negative_none : (line : List ℕ) → FindsNumber line None → FindsSigned (45 ∷ line) None
negative_none line none bits more small ends is =
    let n = after_minus line None bits more none small ends is in
    let found = n.1 in
    absurd (cc)

-- no magnitude is 0 or too large
pub negative_wrong : (line : List ℕ) (magnitude digits : ℕ) → FindsNumber line (Some (magnitude, digits)) → (magnitude ≡ 0) ⊎ (2 ^ 63 < magnitude) → FindsSigned (45 ∷ line) None
negative_wrong line magnitude digits some wrong bits more small ends is =
    let n = after_minus line (Some (magnitude, digits)) bits more some small ends is in
    let same : magnitude ≡ n.0.magnitude = ap (λ (o : Option (ℕ × ℕ)). (unwrap_or o (0, 0)).0) n.1 in
    elim wrong [
      | inl zero_is ↦ absurd (omega (arith, same, zero_is, small, n.0.sum))
      | inr large ↦ absurd (omega (arith, same, large, n.0.low, n.0.sum))
    ]

pub negative_some : (line : List ℕ) (magnitude digits wrapped : ℕ) → FindsNumber line (Some (magnitude, digits)) → (wrapped + magnitude) % 2 ^ 64 ≡ 0 → wrapped < 2 ^ 64 → FindsSigned (45 ∷ line) (Some (wrapped, digits + 1))
negative_some line magnitude digits wrapped some sum fits bits more small ends is =
    let n = after_minus line (Some (magnitude, digits)) bits more some small ends is in
    let same : magnitude ≡ n.0.magnitude = ap (λ (o : Option (ℕ × ℕ)). (unwrap_or o (0, 0)).0) n.1 in
    let size : digits ≡ length (decimal n.0.magnitude) = ap (λ (o : Option (ℕ × ℕ)). (unwrap_or o (0, 0)).1) n.1 in
    let whole : wrapped ≡ bits = omega (arith, sum, fits, same, n.0.low, n.0.sum, small) in
    let text : length (signed_decimal (cast_signed w64 bits)) ≡ suc (length (decimal n.0.magnitude)) = ap length n.0.is_text in
    let end : digits + 1 ≡ length (signed_decimal (cast_signed w64 bits)) = omega (arith, size, text) in
    rw (whole, end) refl

-- ---- a sign between

-- what is before a sign, and what is after it
pub sign_join : {sign : ℕ} (line rest front back : List ℕ) (count more : ℕ) → take count line ≡ front → take (length line - count) (drop count line) ≡ sign ∷ rest → take more rest ≡ back → take (count + 1 + more) line ≡ front ++ sign ∷ back
sign_join {sign} line rest front back count more is next is_too =
    let places : count + 1 + more ≡ count + suc more = omega arith in
    let behind : drop count line ≡ sign ∷ rest = sym (take_all (length line - count) (drop count line) (omega (arith, length-drop count line))) ∙ next in
    ap (λ (n : ℕ). take n line) places ∙ take-add count (suc more) line ∙ ap (λ (l : List ℕ). take count line ++ take (suc more) l) behind
    ∙ ap (λ (l : List ℕ). take count line ++ sign ∷ l) is_too ∙ ap (λ (l : List ℕ). l ++ sign ∷ back) is

-- ---- objects

-- the text of the object is at the front
pub object_sound : (line rest : List ℕ) (kind digits instance more : ℕ) → take digits line ≡ decimal kind → take (length line - digits) (drop digits line) ≡ 58 ∷ rest → take more rest ≡ decimal instance → kind ≤ 1023 → instance ≤ 4194303
    → take (digits + 1 + more) line ≡ object_text (object_of (kind * 4194304 + instance))
object_sound line rest kind digits instance more is next is_too low below =
    let front : kind ≡ (kind * 4194304 + instance) / 2 ^ 22 = omega (arith, below) in
    let back : instance ≡ (kind * 4194304 + instance) % 2 ^ 22 = omega (arith, below) in
    sign_join line rest _ _ digits more is next is_too
    ∙ ap (λ (n : ℕ). decimal n ++ 58 ∷ decimal instance) front ∙ ap (λ (n : ℕ). decimal ((kind * 4194304 + instance) / 2 ^ 22) ++ 58 ∷ decimal n) back
