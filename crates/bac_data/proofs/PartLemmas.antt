-- What begins a spelling of an element, and of elements.
use Rattle.std.specs.Prelude.{◌↔◌, ◌⊎◌, ℕ, List, [], ◌++◌, refl}
use Rattle.std.proofs.Common.{inl, inr}
use Rattle.bac_tag.specs.Spelling.{IsViable, IsPartway, JoinedBy}
use Rattle.bac_tag.specs.Laws.Spelling.{viable-JoinedBy}
use Rattle.bac_data.specs.OpenValue.{Element, primitive, context, group, none}
use Rattle.bac_data.specs.Spells.{SpellsPrimitive, Spells, SpellsAll}
use Rattle.bac_data.specs.Parts.{SpellsContextOf, SpellsGroup, SpellsMore}

-- ---- an element is of one of three cases

case_of : (e : Element) (b rest : List ℕ) → Spells e (b ++ rest) → IsViable SpellsPrimitive b ⊎ (IsViable SpellsContextOf b ⊎ IsViable SpellsGroup b)
case_of (primitive prim) b rest s = inl (record { value = prim; rest = rest; spelled = s })
case_of (context number octets) b rest s = inr (inl (record { value = (number, octets); rest = rest; spelled = s }))
case_of (group number inner) b rest s = inr (inr (record { value = (number, inner); rest = rest; spelled = s }))

pub viable_element : (b : List ℕ) → IsViable Spells b ↔ (IsViable SpellsPrimitive b ⊎ (IsViable SpellsContextOf b ⊎ IsViable SpellsGroup b))
viable_element b = (
  λ v. case_of v.value b v.rest v.spelled,
  λ s. elim s [
    | inl v ↦ record { value = primitive v.value; rest = v.rest; spelled = v.spelled }
    | inr t ↦ elim t [
      | inl v ↦ record { value = context v.value.0 v.value.1; rest = v.rest; spelled = v.spelled }
      | inr v ↦ record { value = group v.value.0 v.value.1; rest = v.rest; spelled = v.spelled }
    ]
  ],
)

-- ---- an element with others behind it

to_pair : (b : List ℕ) → IsViable SpellsMore b → IsViable (JoinedBy Spells (λ (e : Element). SpellsAll)) b
to_pair b v = let j = v.spelled in record { value = v.value; rest = v.rest; spelled = record { front = j.front; back = j.back; first = j.first; second = j.second; octets = j.octets } }

of_pair : (b : List ℕ) → IsViable (JoinedBy Spells (λ (e : Element). SpellsAll)) b → IsViable SpellsMore b
of_pair b v = let j = v.spelled in record { value = v.value; rest = v.rest; spelled = record { front = j.front; back = j.back; first = j.first; second = j.second; octets = j.octets } }

pub viable_more : (b : List ℕ) → IsViable SpellsMore b ↔ (IsViable Spells b ⊎ IsPartway Spells (λ (e : Element). SpellsAll) b)
viable_more b =
    let same = viable-JoinedBy Spells (λ (e : Element). SpellsAll) (λ e c s. (none, [], refl)) b in
    (λ v. same.0 (to_pair b v), λ h. of_pair b (same.1 h))
