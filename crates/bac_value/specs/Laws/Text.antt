-- Laws on character strings as contents.
use Rattle.std.proofs.Common.{◌≡◌, ℕ, ◌≤◌, List, [], ◌∷◌, length, arith, ◌∙◌, ap, refl}
use Rattle.bac_tag.specs.Octets.{IsOctets}
use Rattle.bac_value.specs.Primitives.{IsTheList}
use Rattle.bac_value.specs.Laws.AnyOctets.{AreAnyOctets}
use Rattle.bac_value.specs.TextContents.{TextValue, text_octets, IsText}

text_once : (a b : TextValue) → IsText a → IsText b → text_octets a ≡ text_octets b → a ≡ b
text_once a b p q e =
    let sets : a.set ≡ b.set = cc in
    let rests : a.octets ≡ b.octets = cc in
    ap (λ (k : ℕ). let v : TextValue = record { set = k; octets = a.octets } in v) sets ∙ ap (λ (o : List ℕ). let v : TextValue = record { set = b.set; octets = o } in v) rests

-- the first octet is the set
text_of : (octets : List ℕ) → IsOctets octets → 1 ≤ length octets → length octets ≤ 1048576 → (value : TextValue) × IsTheList IsText text_octets value octets
text_of [] p least most = absurd (omega arith)
text_of (x ∷ xs) p least most = (record { set = x; octets = xs }, record { value_holds = (p, most); is = refl })

pub text_any_octets : AreAnyOctets 1 1048576 IsText text_octets
text_any_octets = record {
  once = text_once;
  sized = λ value h. let most : length (text_octets value) ≤ 1048576 = h.1 in (omega arith, most);
  any = text_of;
}
