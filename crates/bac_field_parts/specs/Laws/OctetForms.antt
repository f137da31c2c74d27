-- Numbers and octets without tags are made, and stand in heads.
use Rattle.std.specs.Prelude.{◌≡◌, ℕ, ◌/◌, ◌%◌, ◌<◌, List, [], ◌∷◌, ◌++◌, length, map, refl}
use Rattle.std.proofs.Common.{sym, ◌∙◌, ap, subst, arith, lit<, append_assoc}
use Rattle.bac_tag.specs.HeadOctets.{Part, octet, Headed}
use Rattle.bac_tag.specs.Laws.Octets.{NoGreater-same}
use Rattle.bac_tag.specs.Octets.{IsOctets}
use Rattle.bac_tag.specs.Spelling.{Joins, IsLeast}
use Rattle.bac_productions.specs.Laws.Least.{least_joined}
use Rattle.bac_productions.specs.Productions.{IsInhabited}
use Rattle.bac_npdu_parts.specs.Addresses.{two_octets, counted}
use Rattle.bac_field_parts.specs.OctetForms.{IsOneOctet, AreTwoOctets, AreCounted}
use Rattle.bac_field_parts.specs.Opaques.{AreTheOctets}
use Rattle.bac_field_parts.specs.Symbols.{HasContents, no_octet_number}
use Rattle.bac_field_parts.specs.Laws.Messages.{Alike, then_alike, first_alike, second_alike, grouped_first}

-- ---- the least spellings: each is the only one

pub one_octet_inhabited : IsInhabited IsOneOctet
one_octet_inhabited = record { value = 0; octets = 0 ∷ []; spelled = (refl, lit< tt) }

pub two_octets_inhabited : IsInhabited AreTwoOctets
two_octets_inhabited = record { value = 0; octets = 0 ∷ 0 ∷ []; spelled = (refl, lit< tt) }

pub counted_inhabited : IsInhabited AreCounted
counted_inhabited = record { value = []; octets = 0 ∷ []; spelled = record { front = 0 ∷ []; back = []; first = (refl, lit< tt); second = (refl, tt); octets = refl } }

pub least_octet : (n : ℕ) → n < 256 → IsLeast (IsOneOctet n) (n ∷ [])
least_octet n fits = record { member = (refl, fits); least = λ c s. NoGreater-same (n ∷ []) c (sym s.0) }

least_octets : (octets : List ℕ) → IsOctets octets → IsLeast (AreTheOctets octets) octets
least_octets octets are = record { member = (refl, are); least = λ c s. NoGreater-same octets c (sym s.0) }

pub counted_made : (held old : List ℕ) (count : ℕ) → IsOctets held → length held < 256 → count ≡ length held → HasContents no_octet_number (λ v. v) AreCounted 0 held old ((old ++ count ∷ []) ++ held)
counted_made held old count are few is = record {
  value = held;
  is_given = refl;
  is_held = refl;
  appended = record {
    more = (length held ∷ []) ++ held;
    is_least = least_joined (least_octet (length held) few) (least_octets held are);
    new_is = append_assoc old (count ∷ []) held ∙ ap (λ (n : ℕ). old ++ n ∷ held) is;
  };
}

-- ---- in heads

pub turned : {P Q : List ℕ → Type 0} → Alike P Q → Alike Q P
turned same b = ((same b).1, (same b).0)

module _ (ps : List Part) (B : List ℕ → Type 0) where
  pub octet_headed : (n : ℕ) → Alike (Joins (IsOneOctet n) (Headed ps B)) (Headed (octet n ∷ ps) B)
  octet_headed n b = (to, from b)
    where
      to : Joins (IsOneOctet n) (Headed ps B) b → Headed (octet n ∷ ps) B b
      to j = subst (Headed (octet n ∷ ps) B) (sym (j.octets ∙ ap (λ (l : List ℕ). l ++ j.back) j.first.0)) ((refl, j.first.1), j.second)

      from : (b : List ℕ) → Headed (octet n ∷ ps) B b → Joins (IsOneOctet n) (Headed ps B) b
      from [] h = absurd h
      from (o ∷ b) h = let e = h.0.0 in let small = h.0.1 in record { front = o ∷ []; back = b; first = (ap (λ (i : ℕ). i ∷ []) e, subst (λ (i : ℕ). i < 256) e small); second = h.1; octets = refl }

  octets_to : (octets c : List ℕ) → IsOctets octets → Headed ps B c → Headed (map octet octets ++ ps) B (octets ++ c)
  octets_to [] c are h = h
  octets_to (o ∷ octets) c are h = ((refl, are.0), octets_to octets c are.1 h)

  octets_from : (octets b : List ℕ) → Headed (map octet octets ++ ps) B b → Joins (AreTheOctets octets) (Headed ps B) b
  octets_from [] b h = record { front = []; back = b; first = (refl, tt); second = h; octets = refl }
  octets_from (o ∷ octets) [] h = absurd h
  octets_from (o ∷ octets) (i ∷ b) h =
      let rest = octets_from octets b h.1 in
      let same = h.0.0 in
      record {
        front = i ∷ rest.front;
        back = rest.back;
        first = (ap (λ (k : ℕ). k ∷ rest.front) same ∙ ap (λ (l : List ℕ). o ∷ l) rest.first.0, (subst (λ (k : ℕ). k < 256) same h.0.1, rest.first.1));
        second = rest.second;
        octets = ap (λ (l : List ℕ). i ∷ l) rest.octets;
      }

  pub octets_headed : (octets : List ℕ) → Alike (Joins (AreTheOctets octets) (Headed ps B)) (Headed (map octet octets ++ ps) B)
  octets_headed octets b = (
    λ j. subst (Headed (map octet octets ++ ps) B) (sym (j.octets ∙ ap (λ (l : List ℕ). l ++ j.back) j.first.0)) (octets_to octets j.back j.first.1 j.second),
    octets_from octets b,
  )

two_alike : (n : ℕ) → Alike (AreTwoOctets n) (Joins (IsOneOctet (n / 256)) (IsOneOctet (n % 256)))
two_alike n b = (
  λ h. record { front = n / 256 ∷ []; back = n % 256 ∷ []; first = (refl, (let fits = h.1 in omega (arith, fits))); second = (refl, omega arith); octets = h.0 },
  λ j. (j.octets ∙ ap (λ (l : List ℕ). l ++ j.back) j.first.0 ∙ ap (λ (l : List ℕ). n / 256 ∷ l) j.second.0, (let fits = j.first.1 in omega (arith, fits))),
)

module _ (ps : List Part) (B : List ℕ → Type 0) where
  pub two_headed : (n : ℕ) → Alike (Joins (AreTwoOctets n) (Headed ps B)) (Headed (two_octets n ++ ps) B)
  two_headed n =
      then_alike (first_alike (two_alike n)) (then_alike (turned grouped_first) (then_alike (second_alike (octet_headed ps B (n % 256))) (octet_headed (octet (n % 256) ∷ ps) B (n / 256))))

  pub counted_headed : (octets : List ℕ) → Alike (Joins (AreCounted octets) (Headed ps B)) (Headed (counted octets ++ ps) B)
  counted_headed octets = then_alike (turned grouped_first) (then_alike (second_alike (octets_headed ps B octets)) (octet_headed (map octet octets ++ ps) B (length octets)))
