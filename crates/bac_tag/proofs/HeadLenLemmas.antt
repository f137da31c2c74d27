-- How many octets the least spelling of a head has, and that no other spelling has as few.
use Rattle.std.proofs.Common.{◌≡◌, ℕ, ◌+◌, ◌*◌, ◌^◌, ◌<◌, inl, inr, Bool, true, false, List, [], ◌∷◌, ◌++◌, length, get_or, refl, sym, ap, ◌∙◌, arith}
use mir.Val.{bool_byte}
use Rattle.std.proofs.lemmas.List.{append-nil, length-append}
use Rattle.bac_tag.specs.declared.heads.TagHead.{TagHead}
use Rattle.bac_tag.specs.declared.heads.TagHead.TheVariants.{App, AppBool, Ctx, Open, Close}
use Rattle.bac_tag.specs.Spelling.{IsLeast}
use Rattle.bac_tag.specs.Laws.Spelling.{IsLeast-one}
use Rattle.bac_tag.specs.Heads.{IsValid, NumberForm, numbers, nibble_of, number_octets, LengthForm, lengths, lvt_of, length_octets, Opening, LengthIn, Heads, LengthFits}
use Rattle.bac_tag.specs.Laws.Heads.{length_below}
use Rattle.bac_tag.specs.Writing.{number_form, length_form, narrow_opening, narrow_head}
use Rattle.bac_tag.proofs.WritingLemmas.{narrowest_number, narrowest_length, least_app, least_bool, least_ctx, least_open, least_close}

-- ---- the least spelling is the narrowest

pub fits_spelled : (h : TagHead) (b : List ℕ) → Heads h b → LengthFits h
fits_spelled (App number len) b s = length_below len s.lvt s.back s.ending
fits_spelled (AppBool value) b s = tt
fits_spelled (Ctx number len) b s = length_below len s.lvt s.back s.ending
fits_spelled (Open number) b s = tt
fits_spelled (Close number) b s = tt

abbrev narrowest : TagHead → List ℕ
narrowest (App number len) = narrow_head 0 number len
narrowest (AppBool value) = narrow_opening 0 1 (bool_byte value)
narrowest (Ctx number len) = narrow_head 1 number len
narrowest (Open number) = narrow_opening 1 number 6
narrowest (Close number) = narrow_opening 1 number 7

narrowest_is_least : (h : TagHead) → IsValid h → LengthFits h → IsLeast (Heads h) (narrowest h)
narrowest_is_least (App number len) v f = least_app number len _ v f refl
narrowest_is_least (AppBool value) v f = least_bool value _ refl
narrowest_is_least (Ctx number len) v f = least_ctx number len _ v f refl
narrowest_is_least (Open number) v f = least_open number _ v refl
narrowest_is_least (Close number) v f = least_close number _ v refl

least_is_narrowest : (h : TagHead) (b : List ℕ) → IsLeast (Heads h) b → b ≡ narrowest h
least_is_narrowest h b p = IsLeast-one (Heads h) b (narrowest h) p (narrowest_is_least h p.member.valid (fits_spelled h b p.member))

-- ---- its length

length_of_narrow : (class number len : ℕ) → length (narrow_head class number len) ≡ 1 + length (number_octets (number_form number) number) + length (length_octets (length_form len) len)
length_of_narrow class number len = omega (arith, length-append (number_octets (number_form number) number) (length_octets (length_form len) len))

pub length_of_app : (number len : ℕ) (b : List ℕ) → IsLeast (Heads (App number len)) b → length b ≡ 1 + length (number_octets (number_form number) number) + length (length_octets (length_form len) len)
length_of_app number len b p = ap length (least_is_narrowest (App number len) b p) ∙ length_of_narrow 0 number len

pub length_of_ctx : (number len : ℕ) (b : List ℕ) → IsLeast (Heads (Ctx number len)) b → length b ≡ 1 + length (number_octets (number_form number) number) + length (length_octets (length_form len) len)
length_of_ctx number len b p = ap length (least_is_narrowest (Ctx number len) b p) ∙ length_of_narrow 1 number len

pub length_of_bool : (value : Bool) (b : List ℕ) → IsLeast (Heads (AppBool value)) b → length b ≡ 1
length_of_bool value b p = ap length (least_is_narrowest (AppBool value) b p)

pub length_of_open : (number : ℕ) (b : List ℕ) → IsLeast (Heads (Open number)) b → length b ≡ 1 + length (number_octets (number_form number) number)
length_of_open number b p = omega (arith, ap length (least_is_narrowest (Open number) b p))

pub length_of_close : (number : ℕ) (b : List ℕ) → IsLeast (Heads (Close number)) b → length b ≡ 1 + length (number_octets (number_form number) number)
length_of_close number b p = omega (arith, ap length (least_is_narrowest (Close number) b p))

-- ---- no other spelling is as short

forms_as_short : (class number len : ℕ) (f : NumberForm) (g : LengthForm) → number < numbers f → len < lengths g → len < 2 ^ 32
    → length (number_octets f number ++ length_octets g len) ≡ length (number_octets (number_form number) number ++ length_octets (length_form len) len)
    → ((16 * nibble_of f number + 8 * class + lvt_of g len) ∷ number_octets f number) ++ length_octets g len ≡ narrow_head class number len
forms_as_short class number len f g p q fits long =
    let x = length-append (number_octets f number) (length_octets g len) in
    let y = length-append (number_octets (number_form number) number) (length_octets (length_form len) len) in
    elim (narrowest_number number f p) [
      | inl same ↦ elim ((narrowest_length len fits).least g q) [
        | inl alike ↦ ap (λ (z : NumberForm). ((16 * nibble_of z number + 8 * class + lvt_of g len) ∷ number_octets z number) ++ length_octets g len) same
            ∙ ap (λ (z : LengthForm). narrow_opening class number (lvt_of z len) ++ length_octets z len) alike
        | inr less ↦ absurd (omega (arith, ap (λ (z : NumberForm). length (number_octets z number)) same))
      ]
      | inr fewer ↦ elim ((narrowest_length len fits).least g q) [
        | inl alike ↦ absurd (omega (arith, ap (λ (z : LengthForm). length (length_octets z len)) alike))
        | inr less ↦ absurd (omega arith)
      ]
    ]

length_as_short : (class number len lvt : ℕ) (a front back : List ℕ) → Opening class number lvt front → LengthIn len lvt back → a ≡ front ++ back
    → length a ≡ length (narrow_head class number len) → a ≡ narrow_head class number len
length_as_short class number len lvt a front back o l is long =
    let spelled = is ∙ ap (λ (t : List ℕ). t ++ back) o.octets
    ∙ ap (λ (k : ℕ). ((16 * nibble_of o.form number + 8 * class + k) ∷ number_octets o.form number) ++ back) l.lvt_is
    ∙ ap (λ (t : List ℕ). ((16 * nibble_of o.form number + 8 * class + lvt_of l.form len) ∷ number_octets o.form number) ++ t) l.octets in
    spelled ∙ forms_as_short class number len o.form l.form o.fits l.fits (length_below len lvt back l) (omega (arith, ap length spelled))

opening_as_short : (class number lvt k : ℕ) (a front back : List ℕ) → Opening class number k front → (k ≡ lvt) × (back ≡ []) → a ≡ front ++ back
    → length a ≡ length (narrow_opening class number lvt) → a ≡ narrow_opening class number lvt
opening_as_short class number lvt k a front back o (lvt-is, empty) is long =
    let spelled = is ∙ ap (λ (t : List ℕ). front ++ t) empty ∙ append-nil front ∙ o.octets ∙ ap (λ (l : ℕ). (16 * nibble_of o.form number + 8 * class + l) ∷ number_octets o.form number) lvt-is in
    elim (narrowest_number number o.form o.fits) [
      | inl same ↦ spelled ∙ ap (λ (z : NumberForm). (16 * nibble_of z number + 8 * class + lvt) ∷ number_octets z number) same
      | inr fewer ↦ absurd (omega (arith, ap length spelled))
    ]

narrowest_as_short : (h : TagHead) (a : List ℕ) → Heads h a → length a ≡ length (narrowest h) → a ≡ narrowest h
narrowest_as_short (App number len) a s long = length_as_short 0 number len s.lvt a s.front s.back s.opening s.ending s.octets long
narrowest_as_short (AppBool false) a s long = opening_as_short 0 1 0 s.lvt a s.front s.back s.opening s.ending s.octets long
narrowest_as_short (AppBool true) a s long = opening_as_short 0 1 1 s.lvt a s.front s.back s.opening s.ending s.octets long
narrowest_as_short (Ctx number len) a s long = length_as_short 1 number len s.lvt a s.front s.back s.opening s.ending s.octets long
narrowest_as_short (Open number) a s long = opening_as_short 1 number 6 s.lvt a s.front s.back s.opening s.ending s.octets long
narrowest_as_short (Close number) a s long = opening_as_short 1 number 7 s.lvt a s.front s.back s.opening s.ending s.octets long

-- a spelling of a head with as many octets as its least is the least
pub least_as_short : (h : TagHead) (a b : List ℕ) → Heads h a → IsLeast (Heads h) b → length a ≡ length b → a ≡ b
least_as_short h a b s p long = let is = least_is_narrowest h b p in narrowest_as_short h a s (long ∙ ap length is) ∙ sym is

-- ---- its first octet

first_of : (h : TagHead) (b : List ℕ) → IsLeast (Heads h) b → get_or b 0 0 ≡ get_or (narrowest h) 0 0
first_of h b p = ap (λ (t : List ℕ). get_or t 0 0) (least_is_narrowest h b p)

pub first_of_app : (number len : ℕ) (b : List ℕ) → IsLeast (Heads (App number len)) b
    → get_or b 0 0 ≡ 16 * nibble_of (number_form number) number + 8 * 0 + lvt_of (length_form len) len
first_of_app number len b p = first_of (App number len) b p

pub first_of_bool : (value : Bool) (b : List ℕ) → IsLeast (Heads (AppBool value)) b
    → get_or b 0 0 ≡ 16 * nibble_of (number_form 1) 1 + 8 * 0 + bool_byte value
first_of_bool value b p = first_of (AppBool value) b p

pub first_of_ctx : (number len : ℕ) (b : List ℕ) → IsLeast (Heads (Ctx number len)) b
    → get_or b 0 0 ≡ 16 * nibble_of (number_form number) number + 8 * 1 + lvt_of (length_form len) len
first_of_ctx number len b p = first_of (Ctx number len) b p

pub first_of_open : (number : ℕ) (b : List ℕ) → IsLeast (Heads (Open number)) b
    → get_or b 0 0 ≡ 16 * nibble_of (number_form number) number + 8 * 1 + 6
first_of_open number b p = first_of (Open number) b p

pub first_of_close : (number : ℕ) (b : List ℕ) → IsLeast (Heads (Close number)) b
    → get_or b 0 0 ≡ 16 * nibble_of (number_form number) number + 8 * 1 + 7
first_of_close number b p = first_of (Close number) b p
