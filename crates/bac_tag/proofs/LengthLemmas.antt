-- Reading a length.
use Rattle.std.proofs.Common.{◌≡◌, ◌≢◌, ℕ, suc, ◌+◌, ◌^◌, ◌<◌, ◌≤◌, ◌⊎◌, inl, inr, List, [], ◌∷◌, length, get_or, take, drop, refl, sym, ap, subst, ◌∙◌, arith}
use Rattle.std.proofs.lemmas.Nat.{be_bytes_2, be_bytes_4}
use Rattle.std.specs.Int.{w16, w32, to_be_bytes}
use Rattle.bac_tag.specs.declared.refusals.Refusal.{Refusal}
use Rattle.bac_tag.specs.declared.refusals.Why.{Why}
use Rattle.bac_tag.specs.declared.refusals.Why.TheVariants.{Short}
use Rattle.bac_tag.specs.Octets.{IsOctets}
use Rattle.bac_tag.specs.Laws.Octets.{octets_below}
use Rattle.bac_tag.specs.Number.{number, NumberIn}
use Rattle.bac_tag.specs.Spelling.{IsViable, IsRefusal, Takes}
use Rattle.bac_tag.specs.Laws.Spelling.{short_at_start, refused_at_first, refused_behind}
use Rattle.bac_tag.specs.Heads.{LengthForm, in_lvt, one_octet, two_octets, four_octets, lengths, lvt_of, length_octets}
use Rattle.bac_tag.specs.Reading.{IsWide, LengthWithin}

-- ---- a length in two or four octets is a number in so many

two_number : (n : ℕ) (b : List ℕ) → n < 2 ^ 16 → b ≡ to_be_bytes w16 n → IsOctets b × (length b ≡ 2) × (number b ≡ n)
two_number n b lt e = rw e ((omega arith, (omega arith, tt)), refl, omega arith)

four_number : (n : ℕ) (b : List ℕ) → n < 2 ^ 32 → b ≡ to_be_bytes w32 n → IsOctets b × (length b ≡ 4) × (number b ≡ n)
four_number n b lt e = rw e ((omega arith, (omega arith, (omega arith, (omega arith, tt)))), refl, omega arith)

from_by : (f : LengthForm) (first width least most len : ℕ) (b : List ℕ) → IsWide first width → len < lengths f → 5 ≡ lvt_of f len → first ∷ b ≡ length_octets f len → least ≤ len → len ≤ most → NumberIn width least most len b
from_by in_lvt first width least most len b wide lt lvt e low high = absurd (omega arith)
from_by one_octet first width least most len b wide lt lvt e low high =
    let same : first ≡ len = cc in elim wide [ inl w ↦ absurd (omega (arith, w.0)) | inr w ↦ absurd (omega (arith, w.0)) ]
from_by two_octets first width least most len b wide lt lvt e low high =
    let same : first ≡ 254 = cc in
    let n = two_number len b lt (let t : b ≡ to_be_bytes w16 len = cc in t) in
    elim wide [
      | inl w ↦ record { are_octets = n.0; sized = n.1 ∙ sym w.1; is = n.2; least = low; most = high }
      | inr w ↦ absurd (omega (arith, w.0))
    ]
from_by four_octets first width least most len b wide lt lvt e low high =
    let same : first ≡ 255 = cc in
    let n = four_number len b lt (let t : b ≡ to_be_bytes w32 len = cc in t) in
    elim wide [
      | inl w ↦ absurd (omega (arith, w.0))
      | inr w ↦ record { are_octets = n.0; sized = n.1 ∙ sym w.1; is = n.2; least = low; most = high }
    ]

pub wide_from : (first width least most len : ℕ) (b : List ℕ) → IsWide first width → LengthWithin least most 5 len (first ∷ b) → NumberIn width least most len b
wide_from first width least most len b wide l = from_by l.length_is.form first width least most len b wide l.length_is.fits l.length_is.lvt_is l.length_is.octets l.low l.high

number_two : (n : ℕ) (b : List ℕ) → IsOctets b → length b ≡ 2 → number b ≡ n → (n < 2 ^ 16) × (b ≡ to_be_bytes w16 n)
number_two n [] p e is = absurd (omega arith)
number_two n (x ∷ []) p e is = absurd (omega arith)
number_two n (x ∷ y ∷ z ∷ b) p e is = absurd (omega arith)
number_two n (x ∷ y ∷ []) p e is = (omega (arith, is, p.0, p.1.0), sym (be_bytes_2 (x ∷ y ∷ []) n refl (octets_below (x ∷ y ∷ []) p) (omega (arith, is))))

number_four : (n : ℕ) (b : List ℕ) → IsOctets b → length b ≡ 4 → number b ≡ n → (n < 2 ^ 32) × (b ≡ to_be_bytes w32 n)
number_four n [] p e is = absurd (omega arith)
number_four n (x ∷ []) p e is = absurd (omega arith)
number_four n (x ∷ y ∷ []) p e is = absurd (omega arith)
number_four n (x ∷ y ∷ z ∷ []) p e is = absurd (omega arith)
number_four n (x ∷ y ∷ z ∷ w ∷ v ∷ b) p e is = absurd (omega arith)
number_four n (x ∷ y ∷ z ∷ w ∷ []) p e is = (omega (arith, is, p.0, p.1.0, p.1.1.0, p.1.1.1.0), sym (be_bytes_4 (x ∷ y ∷ z ∷ w ∷ []) n refl (octets_below (x ∷ y ∷ z ∷ w ∷ []) p) (omega (arith, is))))

pub wide_to : (first width least most len : ℕ) (b : List ℕ) → IsWide first width → NumberIn width least most len b → LengthWithin least most 5 len (first ∷ b)
wide_to first width least most len b (inl w) n =
    let o = number_two len b n.are_octets (n.sized ∙ w.1) n.is in
    record { low = n.least; high = n.most; length_is = record { form = two_octets; fits = o.0; lvt_is = refl; octets = (let f : first ≡ 254 = w.0 in let t : b ≡ to_be_bytes w16 len = o.1 in cc) } }
wide_to first width least most len b (inr w) n =
    let o = number_four len b n.are_octets (n.sized ∙ w.1) n.is in
    record { low = n.least; high = n.most; length_is = record { form = four_octets; fits = o.0; lvt_is = refl; octets = (let f : first ≡ 255 = w.0 in let t : b ≡ to_be_bytes w32 len = o.1 in cc) } }

-- ---- what begins a length

not_empty_by : (f : LengthForm) (len : ℕ) → 5 ≡ lvt_of f len → len < lengths f → [] ≡ length_octets f len → ⊥
not_empty_by in_lvt len lvt lt e = absurd (omega arith)
not_empty_by one_octet len lvt lt e = absurd cc
not_empty_by two_octets len lvt lt e = absurd cc
not_empty_by four_octets len lvt lt e = absurd cc

pub length_not_empty : (least most len : ℕ) → LengthWithin least most 5 len [] → ⊥
length_not_empty least most len l = not_empty_by l.length_is.form len l.length_is.lvt_is l.length_is.fits l.length_is.octets

-- the least expected length has a spelling
pub some_length_within : (least most : ℕ) → least ≤ most → least < 2 ^ 32 → (b : List ℕ) × LengthWithin least most 5 least b
some_length_within least most le fits =
    (length_octets four_octets least, record { low = omega arith; high = le; length_is = record { form = four_octets; fits = fits; lvt_is = refl; octets = refl } })

length_viable : (least most : ℕ) → least ≤ most → least < 2 ^ 32 → IsViable (LengthWithin least most 5) []
length_viable least most le fits = let s = some_length_within least most le fits in record { value = least; rest = s.0; spelled = s.1 }

-- ---- the readers' exits

pub short_length : (least most lvt : ℕ) (xs : List ℕ) → lvt ≡ 5 → least ≤ most → least < 2 ^ 32 → length xs < 1 → IsRefusal (LengthWithin least most lvt) xs (record { place = 0; why = Short })
short_length least most lvt [] five le fits lt = subst (λ (l : ℕ). IsRefusal (LengthWithin least most l) [] (record { place = 0; why = Short })) (sym five)
    (short_at_start (LengthWithin least most 5) (length_viable least most le fits) (length_not_empty least most))
short_length least most lvt (x ∷ xs) five le fits lt = absurd (omega arith)

-- an octet that is the length of no expected head, and does not say that wider ones follow
one_hopeless : (f : LengthForm) (first least most len : ℕ) (b : List ℕ) → (first ≢ 254) ⊎ (65535 < least) → first ≢ 255 → (first < 254 → (first < least) ⊎ (most < first))
    → least ≤ len → len ≤ most → len < lengths f → 5 ≡ lvt_of f len → first ∷ b ≡ length_octets f len → ⊥
one_hopeless in_lvt first least most len b two four one low high lt lvt e = absurd (omega arith)
one_hopeless one_octet first least most len b two four one low high lt lvt e =
    let same : first ≡ len = cc in elim (one (omega arith)) [ inl k ↦ absurd (omega arith) | inr k ↦ absurd (omega arith) ]
one_hopeless two_octets first least most len b two four one low high lt lvt e =
    let same : first ≡ 254 = cc in elim two [ inl k ↦ absurd (k same) | inr k ↦ absurd (omega arith) ]
one_hopeless four_octets first least most len b two four one low high lt lvt e = let same : first ≡ 255 = cc in absurd (four same)

pub hopeless_length : (least most lvt first : ℕ) (xs : List ℕ) (why : Why) → lvt ≡ 5 → least ≤ most → least < 2 ^ 32 → (why ≡ Short → ⊥) → 0 < length xs → first ≡ get_or xs 0 0
    → (first ≢ 254) ⊎ (65535 < least) → first ≢ 255 → (first < 254 → (first < least) ⊎ (most < first))
    → IsRefusal (LengthWithin least most lvt) xs (record { place = 0; why = why })
hopeless_length least most lvt first [] why five le fits w some is two four one = absurd (omega arith)
hopeless_length least most lvt first (x ∷ xs) why five le fits w some is two four one =
    subst (λ (l : ℕ). IsRefusal (LengthWithin least most l) (x ∷ xs) (record { place = 0; why = why })) (sym five)
    (refused_at_first (LengthWithin least most 5) x xs why w (length_viable least most le fits) (length_not_empty least most)
    (λ len b l. one_hopeless l.length_is.form first least most len b two four one l.low l.high l.length_is.fits l.length_is.lvt_is (ap (λ (z : ℕ). z ∷ b) is ∙ l.length_is.octets)))

pub refused_wide : (width least most : ℕ) (xs : List ℕ) (r : Refusal) → 0 < length xs → IsWide (get_or xs 0 0) width → IsRefusal (NumberIn width least most) (drop 1 xs) r
    → IsRefusal (LengthWithin least most 5) xs (record { place = 1 + r.place; why = r.why })
refused_wide width least most [] r some wide h = absurd (omega arith)
refused_wide width least most (x ∷ xs) r some wide h =
    refused_behind (NumberIn width least most) (LengthWithin least most 5) x xs r (length_not_empty least most)
    (λ len b l. (len, wide_from x width least most len b wide l)) (λ len b n. (len, wide_to x width least most len b wide n)) h

pub found_wide : (width least most len : ℕ) (xs : List ℕ) → 0 < length xs → IsWide (get_or xs 0 0) width → Takes (NumberIn width least most) (drop 1 xs) (len, width)
    → Takes (LengthWithin least most 5) xs (len, 1 + width)
found_wide width least most len [] some wide t = absurd (omega arith)
found_wide width least most len (x ∷ xs) some wide t = record {
  within = omega (arith, t.within);
  spelled = subst (λ (l : List ℕ). LengthWithin least most 5 len l) (sym front) (wide_to x width least most len (take width xs) wide t.spelled);
}
  where
    front : take (1 + width) (x ∷ xs) ≡ x ∷ take width xs
    front = let e : 1 + width ≡ suc width = omega arith in rw e refl

-- in two octets there is no length that is too large for them
pub hopeless_wide : (width least most : ℕ) (xs : List ℕ) (why : Why) → least ≤ most → least < 2 ^ 32 → (why ≡ Short → ⊥) → 0 < length xs → IsWide (get_or xs 0 0) width → width ≡ 2 → 65535 < least
    → IsRefusal (LengthWithin least most 5) xs (record { place = 0; why = why })
hopeless_wide width least most xs why le fits w some wide two large =
    let first : get_or xs 0 0 ≡ 254 = elim wide [ inl k ↦ k.0 | inr k ↦ absurd (omega (arith, k.1)) ] in
    hopeless_length least most 5 (get_or xs 0 0) xs why refl le fits w some refl (inr large) (λ e. absurd (omega arith)) (λ lt. absurd (omega arith))
