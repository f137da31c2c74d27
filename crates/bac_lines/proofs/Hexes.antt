-- Hexadecimal digits, and the octets that they are.
use Rattle.std.specs.Prelude.{◌≡◌, ◌⊎◌, ℕ, ◌+◌, ◌-◌, ◌*◌, ◌/◌, ◌%◌, ◌^◌, ◌<◌, ◌≤◌, List, [], ◌∷◌, ◌++◌, length, take, drop, slice_index, Option, Some, None, ◌&&◌, ◌||◌, ◌==◌, not, nat_le, nat_lt, if◌then◌else◌, IsTrue, refl}
use Rattle.std.proofs.Common.{sym, ◌∙◌, ap, subst, arith, suc, zero, inl, inr, append_assoc}
use Rattle.std.proofs.lemmas.Bool.{or_cases, or_left, or_right, eqb-true, le-leb, lt-ltb, le-ltb, cases_lt}
use Rattle.std.proofs.lemmas.List.{take-append-drop, length-take-le, take_more}
use Rattle.std.proofs.Math.Nat.{mul-le-mul_left, mul-le-mul_right, one-le-pow, pow-succ', mul_assoc}
use Rattle.bac_tag.specs.Octets.{IsOctets}
use Rattle.bac_tag.specs.Laws.Octets.{octets_append}
use Rattle.bac_record.specs.Digits.{digit, hexadecimal}
use Rattle.bac_text.specs.FrameText.{address_text}
use Rattle.bac_lines.specs.Scanning.{clear, each, is_hex, ends_field, number_after}
use Rattle.bac_lines.proofs.SymbolRuns.{run_more, run_goes_on, run_is_one}

-- ---- one digit

low_digit : (d : ℕ) → d < 10 → digit d ≡ 48 + d
low_digit zero lt = refl
low_digit (suc zero) lt = refl
low_digit (suc (suc zero)) lt = refl
low_digit (suc (suc (suc zero))) lt = refl
low_digit (suc (suc (suc (suc zero)))) lt = refl
low_digit (suc (suc (suc (suc (suc zero))))) lt = refl
low_digit (suc (suc (suc (suc (suc (suc zero)))))) lt = refl
low_digit (suc (suc (suc (suc (suc (suc (suc zero))))))) lt = refl
low_digit (suc (suc (suc (suc (suc (suc (suc (suc zero)))))))) lt = refl
low_digit (suc (suc (suc (suc (suc (suc (suc (suc (suc zero))))))))) lt = refl
low_digit (suc (suc (suc (suc (suc (suc (suc (suc (suc (suc d)))))))))) lt = absurd (omega (arith, lt))

high_digit : (d : ℕ) → d < 6 → digit (10 + d) ≡ 65 + d
high_digit zero lt = refl
high_digit (suc zero) lt = refl
high_digit (suc (suc zero)) lt = refl
high_digit (suc (suc (suc zero))) lt = refl
high_digit (suc (suc (suc (suc zero)))) lt = refl
high_digit (suc (suc (suc (suc (suc zero))))) lt = refl
high_digit (suc (suc (suc (suc (suc (suc d)))))) lt = absurd (omega (arith, lt))

-- what a digit below 16 is
digit_cases : (n : ℕ) → n < 16 → ((n < 10) × (digit n ≡ 48 + n)) ⊎ ((10 ≤ n) × (digit n ≡ 55 + n))
digit_cases n lt = elim (cases_lt n 10) [
  | inl low ↦ inl (low, low_digit n low)
  | inr high ↦
      let is : n ≡ 10 + (n - 10) = omega (arith, high) in
      inr (high, ap digit is ∙ high_digit (n - 10) (omega (arith, lt, high)) ∙ omega (arith, high))
]

low_is_hex : (x : ℕ) → 48 ≤ x → x ≤ 57 → IsTrue (is_hex x)
low_is_hex x low high = or_left (nat_le 48 x && nat_le x 57) (nat_le 65 x && nat_le x 70) (rw (le-leb 48 x low, le-leb x 57 high) refl)

high_is_hex : (x : ℕ) → 65 ≤ x → x ≤ 70 → IsTrue (is_hex x)
high_is_hex x low high = or_right (nat_le 48 x && nat_le x 57) (nat_le 65 x && nat_le x 70) (rw (le-leb 65 x low, le-leb x 70 high) refl)

digit_is_hex : (n : ℕ) → n < 16 → IsTrue (is_hex (digit n))
digit_is_hex n lt = elim (digit_cases n lt) [
  | inl p ↦ low_is_hex (digit n) (omega (arith, p.1)) (omega (arith, p.0, p.1))
  | inr p ↦ high_is_hex (digit n) (omega (arith, p.0, p.1)) (omega (arith, lt, p.1))
]

-- the number that a digit is
abbrev hex_value : ℕ → ℕ
hex_value x = if nat_lt x 58 then x - 48 else x - 55

value_of_digit : (n : ℕ) → n < 16 → hex_value (digit n) ≡ n
value_of_digit n lt = elim (digit_cases n lt) [
  | inl p ↦ rw (lt-ltb (digit n) 58 (omega (arith, p.0, p.1))) (omega (arith, p.1))
  | inr p ↦ rw (le-ltb (digit n) 58 (omega (arith, p.0, p.1))) (omega (arith, p.1))
]

-- ---- the digits of octets

pub hex_digits : (octets : List ℕ) → IsOctets octets → IsTrue (each is_hex (hexadecimal octets))
hex_digits [] o = refl
hex_digits (x ∷ octets) o = rw (digit_is_hex (x / 16) (omega (arith, o.0)), digit_is_hex (x % 16) (omega arith), hex_digits octets o.1) refl

pub hex_length : (octets : List ℕ) → length (hexadecimal octets) ≡ 2 * length octets
hex_length [] = refl
hex_length (x ∷ octets) = omega (arith, hex_length octets)

hex_join : (a b : List ℕ) → hexadecimal (a ++ b) ≡ hexadecimal a ++ hexadecimal b
hex_join [] b = refl
hex_join (x ∷ a) b = ap (λ (l : List ℕ). digit (x / 16) ∷ digit (x % 16) ∷ l) (hex_join a b)

-- octets are told by their digits
pub hex_tells : (a b : List ℕ) → IsOctets a → IsOctets b → hexadecimal a ≡ hexadecimal b → a ≡ b
hex_tells [] [] o p e = refl
hex_tells [] (y ∷ b) o p e = absurd (cc)
hex_tells (x ∷ a) [] o p e = absurd (cc)
hex_tells (x ∷ a) (y ∷ b) o p e =
    let high : digit (x / 16) ≡ digit (y / 16) = cc in
    let low : digit (x % 16) ≡ digit (y % 16) = cc in
    let tails : hexadecimal a ≡ hexadecimal b = cc in
    let front : x / 16 ≡ y / 16 = sym (value_of_digit (x / 16) (omega (arith, o.0))) ∙ ap hex_value high ∙ value_of_digit (y / 16) (omega (arith, p.0)) in
    let back : x % 16 ≡ y % 16 = sym (value_of_digit (x % 16) (omega arith)) ∙ ap hex_value low ∙ value_of_digit (y % 16) (omega arith) in
    let first : x ≡ y = omega (arith, front, back) in
    rw (first, hex_tells a b o.1 p.1 tails) refl

-- ---- the number of the digits

abbrev hex_after : ℕ → List ℕ → ℕ
hex_after n [] = n
hex_after n (x ∷ es) = hex_after (n * 16 + hex_value x) es

hex_grows : (n : ℕ) (es : List ℕ) → n ≤ hex_after n es
hex_grows n [] = omega arith
hex_grows n (x ∷ es) = omega (arith, hex_grows (n * 16 + hex_value x) es)

hex_after_join : (n : ℕ) (xs ys : List ℕ) → hex_after n (xs ++ ys) ≡ hex_after (hex_after n xs) ys
hex_after_join n [] ys = refl
hex_after_join n (x ∷ xs) ys = hex_after_join (n * 16 + hex_value x) xs ys

hex_number : (m : ℕ) (octets : List ℕ) → IsOctets octets → hex_after m (hexadecimal octets) ≡ number_after m octets
hex_number m [] o = refl
hex_number m (x ∷ octets) o =
    let high = value_of_digit (x / 16) (omega (arith, o.0)) in
    let low = value_of_digit (x % 16) (omega arith) in
    let octet : (m * 16 + hex_value (digit (x / 16))) * 16 + hex_value (digit (x % 16)) ≡ m * 256 + x = omega (arith, high, low) in
    ap (λ (n : ℕ). hex_after n (hexadecimal octets)) octet ∙ hex_number (m * 256 + x) octets o.1

number_below : (m : ℕ) (octets : List ℕ) (k : ℕ) → IsOctets octets → length octets ≤ k → number_after m octets < (m + 1) * 256 ^ k
number_below m [] k o le = omega (arith, mul-le-mul_left (m + 1) (one-le-pow k 256 (omega arith)))
number_below m (x ∷ octets) zero o le = absurd (omega (arith, le))
number_below m (x ∷ octets) (suc k) o le =
    let here = number_below (m * 256 + x) octets k o.1 (omega (arith, le)) in
    let bound : m * 256 + x + 1 ≤ (m + 1) * 256 = omega (arith, o.0) in
    let more = mul-le-mul_right (256 ^ k) bound in
    let power : (m + 1) * 256 ^ suc k ≡ (m + 1) * 256 * 256 ^ k = ap (λ (n : ℕ). (m + 1) * n) (pow-succ' 256 k) ∙ sym (mul_assoc (m + 1) 256 (256 ^ k)) in
    omega (arith, here, more, power)

number_join : (m : ℕ) (octets : List ℕ) (octet : ℕ) → number_after m (octets ++ octet ∷ []) ≡ number_after m octets * 256 + octet
number_join m [] octet = refl
number_join m (x ∷ octets) octet = number_join (m * 256 + x) octets octet

-- ---- the octets at the front of a line

-- The digits of the octets are the first ones of the line.
pub record AreRead (line : List ℕ) (taken : ℕ) (octets : List ℕ) : Type 0 where
  pub are_octets : IsOctets octets
  pub within : taken ≤ length line
  pub digits : take taken line ≡ hexadecimal octets

one_read : (line : List ℕ) (taken first second : ℕ) (octets : List ℕ) → AreRead line taken octets → first < 16 → second < 16 → taken + 1 < length line → slice_index line taken ≡ digit first → slice_index line (taken + 1) ≡ digit second
    → AreRead line (taken + 2) (octets ++ (first * 16 + second) ∷ [])
one_read line taken first second octets r low high lt is is_too = record {
  are_octets = octets_append octets ((first * 16 + second) ∷ []) r.are_octets (omega (arith, low, high), tt);
  within = omega (arith, lt);
  digits =
      let two : taken + 2 ≡ (taken + 1) + 1 = omega arith in
      let front : (first * 16 + second) / 16 ≡ first = omega (arith, high) in
      let back : (first * 16 + second) % 16 ≡ second = omega (arith, high) in
      ap (λ (n : ℕ). take n line) two ∙ take_more line (taken + 1) 0 lt ∙ ap (λ (l : List ℕ). l ++ slice_index line (taken + 1) ∷ []) (take_more line taken 0 (omega (arith, lt)))
      ∙ append_assoc (take taken line) (slice_index line taken ∷ []) (slice_index line (taken + 1) ∷ []) ∙ ap (λ (l : List ℕ). l ++ slice_index line taken ∷ slice_index line (taken + 1) ∷ []) r.digits
      ∙ ap (λ (x : ℕ). hexadecimal octets ++ x ∷ slice_index line (taken + 1) ∷ []) (is ∙ ap digit (sym front)) ∙ ap (λ (x : ℕ). hexadecimal octets ++ digit ((first * 16 + second) / 16) ∷ x ∷ []) (is_too ∙ ap digit (sym back))
      ∙ sym (hex_join octets ((first * 16 + second) ∷ []));
}

module _ (line : List ℕ) (taken : ℕ) (octets : List ℕ) (r : AreRead line taken octets) where
  all_hex : IsTrue (each is_hex (take taken line))
  all_hex = rw r.digits (hex_digits octets r.are_octets)

  -- no others are read if no digit comes next
  all_read : IsTrue (clear is_hex (drop taken line)) → (others more : List ℕ) → IsOctets others → IsTrue (clear is_hex more) → line ≡ hexadecimal others ++ more → (octets ≡ others) × (taken ≡ length (hexadecimal others))
  all_read k others more are ends is =
      let same = run_is_one is_hex (take taken line) (hexadecimal others) (drop taken line) more all_hex (hex_digits others are) (take-append-drop taken line ∙ is) k ends in
      (hex_tells octets others r.are_octets are (sym r.digits ∙ sym same), sym (length-take-le taken line r.within) ∙ ap length (sym same))

  -- no octets have half an octet at their end
  pub half_read : (first : ℕ) → taken < length line → first < 16 → slice_index line taken ≡ digit first → IsTrue (clear is_hex (drop (taken + 1) line)) → (others more : List ℕ) → IsOctets others → IsTrue (clear is_hex more)
      → line ≡ hexadecimal others ++ more → ⊥
  half_read first lt below is k others more are ends whole =
      let longer = run_more is_hex line taken lt all_hex (rw is (digit_is_hex first below)) in
      let same = run_is_one is_hex (take (taken + 1) line) (hexadecimal others) (drop (taken + 1) line) more longer (hex_digits others are) (take-append-drop (taken + 1) line ∙ whole) k ends in
      let size : length (hexadecimal others) ≡ taken + 1 = ap length same ∙ length-take-le (taken + 1) line (omega (arith, lt)) in
      let even : taken ≡ length (hexadecimal octets) = sym (length-take-le taken line r.within) ∙ ap length r.digits in
      omega (arith, size, even, hex_length others, hex_length octets)

-- ---- digits read as a number

-- The octets at the front of the line are the number.
pub record IsHexRead (line : List ℕ) (taken n : ℕ) : Type 0 where
  pub octets : List ℕ
  pub read : AreRead line taken octets
  pub is_number : n ≡ number_after 0 octets

pub hex_read : (line : List ℕ) (taken n first second next : ℕ) → IsHexRead line taken n → first < 16 → second < 16 → taken + 1 < length line → slice_index line taken ≡ digit first → slice_index line (taken + 1) ≡ digit second
    → next ≡ n * 256 + (first * 16 + second) → IsHexRead line (taken + 2) next
hex_read line taken n first second next h low high lt is is_too more = record {
  octets = h.octets ++ (first * 16 + second) ∷ [];
  read = one_read line taken first second h.octets h.read low high lt is is_too;
  is_number = more ∙ ap (λ (m : ℕ). m * 256 + (first * 16 + second)) h.is_number ∙ sym (number_join 0 h.octets (first * 16 + second));
}

abbrev pub FindsBits : List ℕ → Option (ℕ × ℕ) → Type 0
FindsBits line result = (octets more : List ℕ) → length octets ≤ 8 → IsOctets octets → IsTrue (clear is_hex more) → line ≡ hexadecimal octets ++ more → result ≡ Some (number_after 0 octets, length (hexadecimal octets))

-- none of more than eight octets
pub no_room_for_bits : (line : List ℕ) (taken n : ℕ) → IsHexRead line taken n → 2 ^ 64 ≤ n → FindsBits line None
no_room_for_bits line taken n h large octets more few are ends is =
    let run = run_goes_on is_hex (take taken line) (hexadecimal octets) (drop taken line) more (all_hex line taken h.octets h.read) (take-append-drop taken line ∙ is) ends in
    let value : number_after 0 octets ≡ hex_after n run.0 = sym (hex_number 0 octets are) ∙ ap (hex_after 0) run.1 ∙ hex_after_join 0 (take taken line) run.0
    ∙ ap (λ (l : List ℕ). hex_after (hex_after 0 l) run.0) h.read.digits ∙ ap (λ (m : ℕ). hex_after m run.0) (hex_number 0 h.octets h.read.are_octets ∙ sym h.is_number) in
    absurd (omega (arith, number_below 0 octets 8 are few, large, value, hex_grows n run.0))

pub all_hex_read : (line : List ℕ) (taken n : ℕ) → IsHexRead line taken n → IsTrue (clear is_hex (drop taken line)) → FindsBits line (Some (n, taken))
all_hex_read line taken n h k octets more few are ends is =
    let all = all_read line taken h.octets h.read k octets more are ends is in
    let value : n ≡ number_after 0 octets = h.is_number ∙ ap (number_after 0) all.0 in
    rw (value, all.1) refl

-- ---- digits read as octets

-- The octets at the front of the line have been added.
pub record AreAdded (line : List ℕ) (taken : ℕ) (old new : List ℕ) : Type 0 where
  pub octets : List ℕ
  pub read : AreRead line taken octets
  pub added : new ≡ old ++ octets

pub octet_added : (line : List ℕ) (taken first second : ℕ) (old now next : List ℕ) → AreAdded line taken old now → first < 16 → second < 16 → taken + 1 < length line
    → slice_index line taken ≡ digit first → slice_index line (taken + 1) ≡ digit second → next ≡ now ++ (first * 16 + second) ∷ [] → AreAdded line (taken + 2) old next
octet_added line taken first second old now next a low high lt is is_too pushed = record {
  octets = a.octets ++ (first * 16 + second) ∷ [];
  read = one_read line taken first second a.octets a.read low high lt is is_too;
  added = pushed ∙ ap (λ (l : List ℕ). l ++ (first * 16 + second) ∷ []) a.added ∙ append_assoc old a.octets ((first * 16 + second) ∷ []);
}

pub all_added : (line : List ℕ) (taken : ℕ) (old new : List ℕ) → AreAdded line taken old new → IsTrue (clear is_hex (drop taken line)) → (octets more : List ℕ) → IsOctets octets → IsTrue (clear is_hex more)
    → line ≡ hexadecimal octets ++ more → (◌≡◌ {A = Option ℕ} (Some taken) (Some (length (hexadecimal octets)))) × (new ≡ old ++ octets)
all_added line taken old new a k octets more are ends is =
    let all = all_read line taken a.octets a.read k octets more are ends is in
    (ap (λ (n : ℕ). Some n) all.1, a.added ∙ ap (λ (l : List ℕ). old ++ l) all.0)

-- ---- the octets of an address

-- what ends a field is no digit
end_is_clear : (more : List ℕ) → IsTrue (ends_field more) → IsTrue (clear is_hex more)
end_is_clear [] e = refl
end_is_clear (x ∷ more) e = elim (or_cases (x == 32) ((x == 41) || (x == 125)) e) [
  | inl a ↦ subst (λ (y : ℕ). IsTrue (not (is_hex y))) (sym (eqb-true x 32 a)) refl
  | inr r ↦ (elim (or_cases (x == 41) (x == 125) r) [
    | inl b ↦ subst (λ (y : ℕ). IsTrue (not (is_hex y))) (sym (eqb-true x 41 b)) refl
    | inr d ↦ subst (λ (y : ℕ). IsTrue (not (is_hex y))) (sym (eqb-true x 125 d)) refl
  ])
]

abbrev FindsOctets : List ℕ → List ℕ → List ℕ → Option ℕ → Type 0
FindsOctets line old new taken = (octets more : List ℕ) → IsOctets octets → IsTrue (clear is_hex more) → line ≡ hexadecimal octets ++ more → (taken ≡ Some (length (hexadecimal octets))) × (new ≡ old ++ octets)

abbrev FindsAddress : List ℕ → List ℕ → List ℕ → Option ℕ → Type 0
FindsAddress line old new taken = (octets more : List ℕ) → IsOctets octets → IsTrue (ends_field more) → line ≡ address_text octets ++ more → (taken ≡ Some (length (address_text octets))) × (new ≡ old ++ octets)

module _ (line old new : List ℕ) (other : (rest : List ℕ) → line ≡ 42 ∷ rest → ⊥) where
  -- an address has octets if its text does not begin with an asterisk
  pub address_found : (taken : Option ℕ) → FindsOctets line old new taken → FindsAddress line old new taken
  address_found taken found [] more are ends is = absurd (other more is)
  address_found taken found (x ∷ octets) more are ends is = found (x ∷ octets) more are (end_is_clear more ends) is

  -- and digits
  pub no_address : FindsOctets line old new (Some 0) → FindsAddress line old new None
  no_address found [] more are ends is = absurd (other more is)
  no_address found (x ∷ octets) more are ends is =
      let some = (found (x ∷ octets) more are (end_is_clear more ends) is).0 in
      absurd (cc)

-- the number of one octet
pub one_octet : (digits : List ℕ) (k n : ℕ) (octets : List ℕ) → n ≡ 2 → n ≤ length digits → take n digits ≡ hexadecimal octets → k ≡ number_after 0 octets → IsOctets octets → (k < 256) × (take 2 digits ≡ hexadecimal (k ∷ []))
one_octet digits k n [] e le d is o = absurd (omega (arith, e, length-take-le n digits le, ap length d))
one_octet digits k n (x ∷ []) e le d is o =
    let same : x ≡ k = omega (arith, is) in
    (omega (arith, same, o.0), ap (λ (m : ℕ). take m digits) (sym e) ∙ d ∙ ap (λ (m : ℕ). hexadecimal (m ∷ [])) same)
one_octet digits k n (x ∷ y ∷ octets) e le d is o = absurd (omega (arith, e, length-take-le n digits le, ap length d))
