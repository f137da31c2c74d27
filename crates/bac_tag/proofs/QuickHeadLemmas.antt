-- Heads that are found at once.
use Rattle.std.proofs.Common.{◌≡◌, ◌≢◌, ℕ, zero, suc, ◌+◌, ◌*◌, ◌%◌, ◌^◌, ◌<◌, ◌≤◌, Bool, true, false, List, [], ◌∷◌, ◌++◌, length, get_or, take, drop, refl, sym, ap, subst, ◌∙◌, inl, inr, take-append-drop, length-drop, arith}
use Rattle.std.proofs.lemmas.List.{take-take, drop-take, get_or-drop}
use Rattle.std.specs.Int.{w32, to_be_bytes}
use Rattle.bac_tag.specs.declared.heads.TagHead.{TagHead}
use Rattle.bac_tag.specs.declared.heads.TagHead.TheVariants.{App, Ctx}
use Rattle.bac_tag.specs.Spelling.{Takes}
use Rattle.bac_tag.specs.Heads.{IsValid, class_bit, class_of, number_of, in_nibble, in_octet, four_octets, Opening, LengthIn, Ending, Heads}
use Rattle.bac_tag.specs.Short.{headed, BeginsLong}

-- an opening and a length
pub takes_length : (head : TagHead) (octets : List ℕ) (start end lvt : ℕ) → IsValid head → start ≤ end → end ≤ length octets → Opening (class_of head) (number_of head) lvt (take start octets) → Ending head lvt (drop start (take end octets)) → Takes Heads octets (head, end)
takes_length head octets start end lvt valid le within o e =
    let back : List ℕ = drop start (take end octets) in
    let octets_are : take end octets ≡ take start octets ++ back = sym (ap (λ (l : List ℕ). l ++ back) (sym (take-take start end octets le)) ∙ take-append-drop start (take end octets)) in
    record { within = within; spelled = record { valid = valid; lvt = lvt; front = take start octets; back = back; opening = o; ending = e; octets = octets_are } }

-- a head of context class
pub takes_context : (context : Bool) (number len : ℕ) (octets : List ℕ) (start end lvt : ℕ) → context ≡ true → number < 255 → start ≤ end → end ≤ length octets
    → Opening (class_bit context) number lvt (take start octets) → LengthIn len lvt (drop start (take end octets)) → Takes Heads octets (Ctx number len, end)
takes_context context number len octets start end lvt class few le within o e =
    takes_length (Ctx number len) octets start end lvt (omega arith) le within (subst (λ (c : Bool). Opening (class_bit c) number lvt (take start octets)) class o) e

-- a head of application class
pub takes_application : (context : Bool) (number len : ℕ) (octets : List ℕ) (start end lvt : ℕ) → context ≡ false → number ≤ 12 → number ≢ 1 → start ≤ end → end ≤ length octets
    → Opening (class_bit context) number lvt (take start octets) → LengthIn len lvt (drop start (take end octets)) → Takes Heads octets (App number len, end)
takes_application context number len octets start end lvt class few other le within o e =
    takes_length (App number len) octets start end lvt (few, other) le within (subst (λ (c : Bool). Opening (class_bit c) number lvt (take start octets)) class o) e

-- ---- lengths behind the octet that says that they follow

take_five : (xs : List ℕ) → 5 ≤ length xs → take 5 xs ≡ get_or xs 0 0 ∷ get_or xs 1 0 ∷ get_or xs 2 0 ∷ get_or xs 3 0 ∷ get_or xs 4 0 ∷ []
take_five [] h = absurd (omega arith)
take_five (x ∷ []) h = absurd (omega arith)
take_five (x ∷ y ∷ []) h = absurd (omega arith)
take_five (x ∷ y ∷ z ∷ []) h = absurd (omega arith)
take_five (x ∷ y ∷ z ∷ u ∷ []) h = absurd (omega arith)
take_five (x ∷ y ∷ z ∷ u ∷ v ∷ xs) h = refl

pub in_four_octets : (octets : List ℕ) (start n : ℕ) → start + 5 ≤ length octets → n < 2 ^ 32 → get_or (drop start octets) 0 0 ≡ 255
    → to_be_bytes w32 n ≡ get_or (drop start octets) 1 0 ∷ get_or (drop start octets) 2 0 ∷ get_or (drop start octets) 3 0 ∷ get_or (drop start octets) 4 0 ∷ [] → LengthIn n 5 (drop start (take (start + 5) octets))
in_four_octets octets start n within fits first e =
    let five = drop-take start 5 octets ∙ take_five (drop start octets) (omega (arith, length-drop start octets)) in
    record { form = four_octets; fits = fits; lvt_is = refl; octets = rw (first, ← e) at five }

-- the octets of such a length
pub four_bytes : (octets : List ℕ) (start : ℕ) → ((k : ℕ) → get_or octets k 0 < 256) → (i : ℕ)
    → get_or (get_or (drop start octets) 1 0 ∷ get_or (drop start octets) 2 0 ∷ get_or (drop start octets) 3 0 ∷ get_or (drop start octets) 4 0 ∷ []) i 0 < 256
four_bytes octets start below zero = omega (arith, get_or-drop start octets 1 0, below (start + 1))
four_bytes octets start below (suc zero) = omega (arith, get_or-drop start octets 2 0, below (start + 2))
four_bytes octets start below (suc (suc zero)) = omega (arith, get_or-drop start octets 3 0, below (start + 3))
four_bytes octets start below (suc (suc (suc zero))) = omega (arith, get_or-drop start octets 4 0, below (start + 4))
four_bytes octets start below (suc (suc (suc (suc i)))) = omega arith

-- ---- heads that leave the number or the length to octets behind the first

take_one : (xs : List ℕ) → 0 < length xs → take 1 xs ≡ get_or xs 0 0 ∷ []
take_one [] h = absurd (omega arith)
take_one (x ∷ xs) h = refl

take_two : (xs : List ℕ) → 1 < length xs → take 2 xs ≡ get_or xs 0 0 ∷ get_or xs 1 0 ∷ []
take_two [] h = absurd (omega arith)
take_two (x ∷ []) h = absurd (omega arith)
take_two (x ∷ y ∷ xs) h = refl

pub valid_number : (context : Bool) (number : ℕ) → IsValid (headed context number 0) → number < 255
valid_number true number h = omega (arith, h)
valid_number false number h = omega (arith, h.0)

-- the number stands in the first octet
pub opens_in_first : (class number : ℕ) (octets : List ℕ) → class < 2 → BeginsLong class number octets → get_or octets 0 0 < 240 → Opening class number (get_or octets 0 0 % 8) (take 1 octets)
opens_in_first class number octets small b below = elim b.opens [
  | inl h ↦
      let first : get_or octets 0 0 ≡ 16 * number + 8 * class + get_or octets 0 0 % 8 = omega (arith, h.1) in
      record { form = in_nibble; fits = h.0; octets = take_one octets b.some ∙ ap (λ (o : ℕ). o ∷ []) first }
  | inr h ↦ absurd (omega (arith, h))
]

-- the number stands behind the first octet
pub opens_in_two : (class number : ℕ) (octets : List ℕ) → class < 2 → number < 255 → BeginsLong class number octets → 240 ≤ get_or octets 0 0 → 1 < length octets → get_or octets 1 0 ≡ number
    → Opening class number (get_or octets 0 0 % 8) (take 2 octets)
opens_in_two class number octets small fits b above two second = elim b.opens [
  | inl h ↦ absurd (omega (arith, h.0, h.1))
  | inr h ↦
      let first : get_or octets 0 0 ≡ 16 * 15 + 8 * class + get_or octets 0 0 % 8 = omega (arith, h) in
      record { form = in_octet; fits = fits; octets = take_two octets two ∙ ap (λ (o : ℕ). o ∷ get_or octets 1 0 ∷ []) first ∙ ap (λ (n : ℕ). (16 * 15 + 8 * class + get_or octets 0 0 % 8) ∷ n ∷ []) second }
]

-- an opening and a length, with the class and the number
pub takes_headed : (context : Bool) (number len : ℕ) (octets : List ℕ) (start end lvt : ℕ) → IsValid (headed context number 0) → start ≤ end → end ≤ length octets
    → Opening (class_bit context) number lvt (take start octets) → LengthIn len lvt (drop start (take end octets)) → Takes (λ (len : ℕ). Heads (headed context number len)) octets (len, end)
takes_headed true number len octets start end lvt valid le within o e = let t = takes_length (Ctx number len) octets start end lvt valid le within o e in record { within = t.within; spelled = t.spelled }
takes_headed false number len octets start end lvt valid le within o e = let t = takes_length (App number len) octets start end lvt valid le within o e in record { within = t.within; spelled = t.spelled }
