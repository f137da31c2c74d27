-- Numbers and octets as digits.
use Rattle.std.proofs.Common.{◌≡◌, ℕ, zero, suc, ◌+◌, ◌-◌, ◌*◌, ◌/◌, ◌%◌, ◌^◌, ◌<◌, ◌≤◌, List, [], ◌∷◌, ◌++◌, length, take, drop, get_or, arith, inl, inr, refl, sym, ap, ◌∙◌, append_assoc}
use Rattle.std.specs.Fmt.{decimal}
use Rattle.std.proofs.lemmas.Fmt.{decimal_step, decimal_digit}
use Rattle.std.proofs.Math.ListN.{set}
use Rattle.std.proofs.lemmas.Bool.{cases_lt}
use Rattle.std.proofs.lemmas.List.{length-take-le, take_more, take_more_set, take-take}
use Rattle.std.proofs.Math.Seq.{take-append-add}
use Rattle.bac_record.specs.Digits.{digit, hexadecimal, two, four}

-- ---- words

-- one octet more of a word, at a place
pub word_step : (old room word : List ℕ) (at i : ℕ) → at + i < length room → i < length word → take (at + i) room ≡ old ++ take i word → take (at + (i + 1)) (set room (at + i) (get_or word i 0)) ≡ old ++ take (i + 1) word
word_step old room word at i inside below p =
    let behind : at + (i + 1) ≡ at + i + 1 = omega arith in
    ap (λ k. take k (set room (at + i) (get_or word i 0))) behind ∙ take_more_set room (at + i) (get_or word i 0) inside ∙ ap (λ l. l ++ get_or word i 0 ∷ []) p
    ∙ append_assoc old (take i word) (get_or word i 0 ∷ []) ∙ ap (λ l. old ++ l) (sym (take_more word i 0 below))

-- ---- numbers of few digits

pub one_digit : (n a : ℕ) → n < 10 → a ≡ 48 + n → a ∷ [] ≡ decimal n
one_digit n a few p = ap (λ (d : ℕ). d ∷ []) p ∙ sym (decimal_digit n few)

pub two_digits : (n a b : ℕ) → 10 ≤ n → n < 100 → a ≡ 48 + n / 10 → b ≡ 48 + n % 10 → a ∷ b ∷ [] ≡ decimal n
two_digits n a b ten few p q =
    ap (λ (d : ℕ). a ∷ d ∷ []) q ∙ ap (λ (l : List ℕ). l ++ (48 + n % 10) ∷ []) (one_digit (n / 10) a (omega arith) p) ∙ sym (decimal_step n ten (omega arith))

-- ---- longer ones

-- two digits behind those of the hundreds
pub two_more : (n : ℕ) → 100 ≤ n → n < 2 ^ 64 → decimal (n / 100) ++ two (n % 100) ≡ decimal n
two_more n least fits =
    let hundreds : n / 100 ≡ n / 10 / 10 = omega arith in
    let tens : n % 100 / 10 ≡ n / 10 % 10 = omega arith in
    let ones : n % 100 % 10 ≡ n % 10 = omega arith in
    ap (λ (k : ℕ). decimal k ++ two (n % 100)) hundreds
    ∙ ap (λ (k : ℕ). decimal (n / 10 / 10) ++ (48 + k) ∷ (48 + n % 100 % 10) ∷ []) tens
    ∙ ap (λ (k : ℕ). decimal (n / 10 / 10) ++ (48 + n / 10 % 10) ∷ (48 + k) ∷ []) ones
    ∙ sym (append_assoc (decimal (n / 10 / 10)) ((48 + n / 10 % 10) ∷ []) ((48 + n % 10) ∷ []))
    ∙ ap (λ (l : List ℕ). l ++ (48 + n % 10) ∷ []) (sym (decimal_step (n / 10) (omega arith) (omega arith)))
    ∙ sym (decimal_step n (omega arith) fits)

-- four digits behind those of the myriads
pub four_more : (n : ℕ) → 10000 ≤ n → n < 2 ^ 64 → decimal (n / 10000) ++ four (n % 10000) ≡ decimal n
four_more n least fits =
    let front : n / 10000 ≡ n / 100 / 100 = omega arith in
    let third : n % 10000 / 100 ≡ n / 100 % 100 = omega arith in
    let last : n % 10000 % 100 ≡ n % 100 = omega arith in
    ap (λ (k : ℕ). decimal k ++ four (n % 10000)) front
    ∙ ap (λ (k : ℕ). decimal (n / 100 / 100) ++ (two k ++ two (n % 10000 % 100))) third
    ∙ ap (λ (k : ℕ). decimal (n / 100 / 100) ++ (two (n / 100 % 100) ++ two k)) last
    ∙ sym (append_assoc (decimal (n / 100 / 100)) (two (n / 100 % 100)) (two (n % 100)))
    ∙ ap (λ (l : List ℕ). l ++ two (n % 100)) (two_more (n / 100) (omega arith) (omega arith))
    ∙ two_more n (omega arith) fits

-- a number below 1,000 that has three digits
pub three_digits : (n a : ℕ) → 100 ≤ n → n < 1000 → a ≡ 48 + n / 100 → a ∷ two (n % 100) ≡ decimal n
three_digits n a least few p =
    ap (λ (l : List ℕ). l ++ two (n % 100)) (one_digit (n / 100) a (omega arith) p) ∙ two_more n least (omega arith)

-- a number below 10,000 that has four digits
pub four_digits : (n : ℕ) → 1000 ≤ n → n < 10000 → four n ≡ decimal n
four_digits n least few =
    ap (λ (l : List ℕ). l ++ two (n % 100)) (two_digits (n / 100) (48 + n / 100 / 10) (48 + n / 100 % 10) (omega arith) (omega arith) refl refl)
    ∙ two_more n (omega arith) (omega arith)

-- four octets of a word, without the first
four_alike : (a b c d x y z w : ℕ) → a ≡ x → b ≡ y → c ≡ z → d ≡ w → a ∷ b ∷ c ∷ d ∷ [] ≡ x ∷ y ∷ z ∷ w ∷ []
four_alike a b c d x y z w p q r s = rw (p, q, r, s) refl

pub without : (a b c d count word shifted : ℕ) → a < 256 → b < 256 → c < 256 → d < 256 → count ≤ 3 → word ≡ a + b * 256 + c * 65536 + d * 16777216 → shifted ≡ word / 2 ^ (8 * count)
    → take (4 - count) (shifted % 256 ∷ shifted / 256 % 256 ∷ shifted / 65536 % 256 ∷ shifted / 16777216 % 256 ∷ []) ≡ drop count (a ∷ b ∷ c ∷ d ∷ [])
without a b c d zero word shifted p q r s most is e = four_alike (shifted % 256) (shifted / 256 % 256) (shifted / 65536 % 256) (shifted / 16777216 % 256) a b c d (omega (arith, e, is)) (omega (arith, e, is)) (omega (arith, e, is)) (omega (arith, e, is))
without a b c d (suc zero) word shifted p q r s most is e = ap (take 3) (four_alike (shifted % 256) (shifted / 256 % 256) (shifted / 65536 % 256) (shifted / 16777216 % 256) b c d 0 (omega (arith, e, is)) (omega (arith, e, is)) (omega (arith, e, is)) (omega (arith, e, is)))
without a b c d (suc (suc zero)) word shifted p q r s most is e = ap (take 2) (four_alike (shifted % 256) (shifted / 256 % 256) (shifted / 65536 % 256) (shifted / 16777216 % 256) c d 0 0 (omega (arith, e, is)) (omega (arith, e, is)) (omega (arith, e, is)) (omega (arith, e, is)))
without a b c d (suc (suc (suc zero))) word shifted p q r s most is e = ap (take 1) (four_alike (shifted % 256) (shifted / 256 % 256) (shifted / 65536 % 256) (shifted / 16777216 % 256) d 0 0 0 (omega (arith, e, is)) (omega (arith, e, is)) (omega (arith, e, is)) (omega (arith, e, is)))
without a b c d (suc (suc (suc (suc n)))) word shifted p q r s most is e = absurd (omega (arith, most))

-- the four digits of a number below 10,000, without those that are leading zeros
pub few_digits : (n skipped a b c d : ℕ) → n < 10000 → a ≡ 48 + n / 100 / 10 → b ≡ 48 + n / 100 % 10 → c ≡ 48 + n % 100 / 10 → d ≡ 48 + n % 100 % 10
    → (n < 10 → skipped ≡ 3) → (10 ≤ n → n < 100 → skipped ≡ 2) → (100 ≤ n → n < 1000 → skipped ≡ 1) → (1000 ≤ n → skipped ≡ 0) → drop skipped (a ∷ b ∷ c ∷ d ∷ []) ≡ decimal n
few_digits n skipped a b c d few p q r s one two three four = elim (cases_lt n 10) [
  | inl lt ↦ rw (one lt) (one_digit n d lt (omega (arith, s)))
  | inr ge ↦ elim (cases_lt n 100) [
    | inl lt ↦ rw (two ge lt) (two_digits n c d ge lt (omega (arith, r)) (omega (arith, s)))
    | inr ge ↦ elim (cases_lt n 1000) [
      | inl lt ↦ rw (three ge lt) (ap (λ (x : ℕ). b ∷ x ∷ d ∷ []) r ∙ ap (λ (x : ℕ). b ∷ (48 + n % 100 / 10) ∷ x ∷ []) s ∙ three_digits n b ge lt (omega (arith, q)))
      | inr ge ↦ rw (four ge) (ap (λ (x : ℕ). x ∷ b ∷ c ∷ d ∷ []) p ∙ ap (λ (x : ℕ). (48 + n / 100 / 10) ∷ x ∷ c ∷ d ∷ []) q ∙ ap (λ (x : ℕ). (48 + n / 100 / 10) ∷ (48 + n / 100 % 10) ∷ x ∷ d ∷ []) r
          ∙ ap (λ (x : ℕ). (48 + n / 100 / 10) ∷ (48 + n / 100 % 10) ∷ (48 + n % 100 / 10) ∷ x ∷ []) s ∙ four_digits n ge few)
    ]
  ]
]

-- octets that were put at a place, without the last
pub cut_behind : (new old octets : List ℕ) (at skipped end : ℕ) → skipped ≤ 4 → at ≤ length old → end ≡ at + 4 → take end new ≡ take at old ++ octets → take (at + 4 - skipped) new ≡ take at old ++ take (4 - skipped) octets
cut_behind new old octets at skipped end most inside e put =
    let long : length (take at old) ≡ at = length-take-le at old inside in
    let sum : at + 4 - skipped ≡ length (take at old) + (4 - skipped) = omega (arith, long) in
    sym (take-take (at + 4 - skipped) end new (omega (arith, e))) ∙ ap (take (at + 4 - skipped)) put ∙ ap (λ (k : ℕ). take k (take at old ++ octets)) sum ∙ take-append-add (take at old) octets (4 - skipped)

-- behind a front of the myriads
pub four_behind : (old out new : List ℕ) (n : ℕ) → 10000 ≤ n → n < 2 ^ 64 → out ≡ old ++ decimal (n / 10000) → new ≡ out ++ four (n % 10000) → new ≡ old ++ decimal n
four_behind old out new n least fits p q =
    q ∙ ap (λ (l : List ℕ). l ++ four (n % 10000)) p ∙ append_assoc old (decimal (n / 10000)) (four (n % 10000)) ∙ ap (λ (l : List ℕ). old ++ l) (four_more n least fits)

-- behind a front of the hundreds of millions
pub eight_behind : (old front out new : List ℕ) (n : ℕ) → 100000000 ≤ n → n < 2 ^ 64 → front ≡ old ++ decimal (n / 100000000) → out ≡ front ++ four (n / 10000 % 10000) → new ≡ out ++ four (n % 10000) → new ≡ old ++ decimal n
eight_behind old front out new n least fits p q r =
    let same : n / 100000000 ≡ n / 10000 / 10000 = omega arith in
    four_behind old out new n (omega arith) fits (four_behind old front out (n / 10000) (omega arith) (omega arith) (p ∙ ap (λ (k : ℕ). old ++ decimal k) same) q) r

-- ---- hexadecimal digits

hexadecimal-append : (octets others : List ℕ) → hexadecimal (octets ++ others) ≡ hexadecimal octets ++ hexadecimal others
hexadecimal-append [] others = refl
hexadecimal-append (octet ∷ octets) others = ap (λ (l : List ℕ). digit (octet / 16) ∷ digit (octet % 16) ∷ l) (hexadecimal-append octets others)

-- two digits more
pub hexadecimal_step : (old out new octets digits : List ℕ) (i : ℕ) → i < length octets → digits ≡ digit (get_or octets i 0 / 16) ∷ digit (get_or octets i 0 % 16) ∷ [] → out ≡ old ++ hexadecimal (take i octets)
    → new ≡ out ++ digits → new ≡ old ++ hexadecimal (take (i + 1) octets)
hexadecimal_step old out new octets digits i below e p q =
    q ∙ ap (λ (l : List ℕ). l ++ digits) p ∙ append_assoc old (hexadecimal (take i octets)) digits ∙ ap (λ (l : List ℕ). old ++ (hexadecimal (take i octets) ++ l)) e
    ∙ ap (λ (l : List ℕ). old ++ l) (sym (ap hexadecimal (take_more octets i 0 below) ∙ hexadecimal-append (take i octets) (get_or octets i 0 ∷ [])))
