-- Heads of one octet.
use mir.Val.{bool_byte}
use Rattle.std.proofs.Common.{◌≡◌, ℕ, ◌+◌, ◌*◌, ◌<◌, inl, inr, Bool, true, false, List, [], ◌∷◌, length, take, get_or, refl, sym, ap, ◌∙◌, length-append, arith}
use Rattle.std.proofs.lemmas.Bool.{cases_lt, lt-ltb, le-ltb}
use Rattle.bac_tag.specs.declared.heads.TagHead.{TagHead}
use Rattle.bac_tag.specs.declared.heads.TagHead.TheVariants.{AppBool, Open, Close}
use Rattle.bac_tag.specs.Spelling.{IsLeast}
use Rattle.bac_tag.specs.Laws.Spelling.{IsLeast-one}
use Rattle.bac_tag.specs.Heads.{IsValid, class_bit, number_octets, Heads}
use Rattle.bac_tag.specs.Laws.Heads.{head_is}
use Rattle.bac_tag.specs.Writing.{number_form, narrow_opening, narrow_head}
use Rattle.bac_tag.specs.Short.{headed, BeginsShort, BeginsWith}
use Rattle.bac_tag.proofs.WritingLemmas.{least_app, least_bool, least_ctx, least_open, least_close}
use Rattle.bac_tag.proofs.HeadLenLemmas.{length_of_open, length_of_close, least_as_short}

-- ---- narrow forms of one octet

one_opening : (class n lvt : ℕ) → n < 15 → narrow_opening class n lvt ≡ (16 * n + 8 * class + lvt) ∷ []
one_opening class n lvt p = rw (lt-ltb n 15 p) refl

one_head : (class n len : ℕ) → n < 15 → len < 5 → narrow_head class n len ≡ (16 * n + 8 * class + len) ∷ []
one_head class n len p q = rw (lt-ltb n 15 p, lt-ltb len 5 q) refl

first_of : (octets : List ℕ) → 0 < length octets → take 1 octets ≡ get_or octets 0 0 ∷ []
first_of [] p = absurd (omega arith)
first_of (o ∷ octets) p = refl

-- ---- what is found

pub short_headed : (c : Bool) (n len : ℕ) (octets : List ℕ) → IsValid (headed c n 0) → len < 5 → BeginsWith (class_bit c) n len octets → BeginsShort (headed c n len) octets
short_headed true n len octets v small b = record { some = b.some; least = least_ctx n len (take 1 octets) v (omega arith) (first_of octets b.some ∙ ap (λ (o : ℕ). o ∷ []) b.octet ∙ sym (one_head 1 n len b.nibble small)) }
short_headed false n len octets v small b = record { some = b.some; least = least_app n len (take 1 octets) v (omega arith) (first_of octets b.some ∙ ap (λ (o : ℕ). o ∷ []) b.octet ∙ sym (one_head 0 n len b.nibble small)) }

pub short_open : (n : ℕ) (octets : List ℕ) → IsValid (Open n) → BeginsWith 1 n 6 octets → BeginsShort (Open n) octets
short_open n octets v b = record { some = b.some; least = least_open n (take 1 octets) v (first_of octets b.some ∙ ap (λ (o : ℕ). o ∷ []) b.octet ∙ sym (one_opening 1 n 6 b.nibble)) }

pub short_close : (n : ℕ) (octets : List ℕ) → IsValid (Close n) → BeginsWith 1 n 7 octets → BeginsShort (Close n) octets
short_close n octets v b = record { some = b.some; least = least_close n (take 1 octets) v (first_of octets b.some ∙ ap (λ (o : ℕ). o ∷ []) b.octet ∙ sym (one_opening 1 n 7 b.nibble)) }

pub short_bool : (v : Bool) (octets : List ℕ) → BeginsWith 0 1 (bool_byte v) octets → BeginsShort (AppBool v) octets
short_bool v octets b = record { some = b.some; least = least_bool v (take 1 octets) (first_of octets b.some ∙ ap (λ (o : ℕ). o ∷ []) b.octet ∙ sym (one_opening 0 1 (bool_byte v) b.nibble)) }

-- ---- and nothing else is

one_long : (octets : List ℕ) → 0 < length octets → length (take 1 octets) ≡ 1
one_long octets p = ap length (first_of octets p)

number_in_nibble : (n : ℕ) → 1 + length (number_octets (number_form n) n) ≡ 1 → n < 15
number_in_nibble n e =
    elim (cases_lt n 15) [
      | inl p ↦ p
      | inr p ↦ absurd (let f : 1 + length (number_octets (number_form n) n) ≡ 2 = rw (le-ltb n 15 p) refl in omega arith)
    ]

-- the octet of a least spelling that is one octet
octet_is : (octets : List ℕ) (o : ℕ) → 0 < length octets → take 1 octets ≡ o ∷ [] → get_or octets 0 0 ≡ o
octet_is octets o some e = head_is _ _ [] [] (sym (first_of octets some) ∙ e)

pub open_begins : (n : ℕ) (octets : List ℕ) → BeginsShort (Open n) octets → BeginsWith 1 n 6 octets
open_begins n octets b =
    let long = length_of_open n (take 1 octets) b.least in
    let one = one_long octets b.some in
    let p = number_in_nibble n (omega arith) in
    let same = IsLeast-one (Heads (Open n)) (take 1 octets) (narrow_opening 1 n 6) b.least (least_open n _ b.least.member.valid refl) in
    record { some = b.some; nibble = p; octet = octet_is octets _ b.some (same ∙ one_opening 1 n 6 p) }

pub close_begins : (n : ℕ) (octets : List ℕ) → BeginsShort (Close n) octets → BeginsWith 1 n 7 octets
close_begins n octets b =
    let long = length_of_close n (take 1 octets) b.least in
    let one = one_long octets b.some in
    let p = number_in_nibble n (omega arith) in
    let same = IsLeast-one (Heads (Close n)) (take 1 octets) (narrow_opening 1 n 7) b.least (least_close n _ b.least.member.valid refl) in
    record { some = b.some; nibble = p; octet = octet_is octets _ b.some (same ∙ one_opening 1 n 7 p) }

-- ---- a head of one octet is the least

some_octet : (h : TagHead) (b : List ℕ) → Heads h b → 0 < length b
some_octet h b s = omega (arith, ap length s.octets, ap length s.opening.octets, length-append s.front s.back)

pub one_is_least : (h : TagHead) (a b : List ℕ) → Heads h a → length a ≡ 1 → IsLeast (Heads h) b → a ≡ b
one_is_least h a b s one p = least_as_short h a b s p (elim (p.least a s) [
  | inl shorter ↦ absurd (omega (arith, some_octet h b p.member))
  | inr alike ↦ sym alike.0
])
