use Rattle.std.specs.Prelude.{ℕ, List, ◌⊎◌}
use Rattle.std.proofs.Common.{inl, inr}
use Rattle.bac_tag.specs.Spelling.{IsViable, IsPartway}
use Rattle.bac_productions.specs.Contents.{ApplicationEnumerated, ApplicationEnumeratedPart, of_number}
use Rattle.bac_service.proofs.laws.causes_are_viable_in_turn.Goals as goal

-- an Enumerated is viable where the number in it is
by_number : (b : List ℕ) → IsViable ApplicationEnumeratedPart b → IsViable ApplicationEnumerated b
by_number b v = record { value = v.value.0; rest = v.rest; spelled = v.spelled }

by_part : (b : List ℕ) → IsViable ApplicationEnumerated b → IsViable ApplicationEnumeratedPart b
by_part b v = record { value = of_number v.value; rest = v.rest; spelled = v.spelled }

numbers_in_turn : (b : List ℕ) → IsViable ApplicationEnumeratedPart b ⊎ IsPartway ApplicationEnumeratedPart (λ _. ApplicationEnumeratedPart) b
    → IsViable ApplicationEnumerated b ⊎ IsPartway ApplicationEnumerated (λ _. ApplicationEnumerated) b
numbers_in_turn b (inl v) = inl (by_number b v)
numbers_in_turn b (inr p) = inr (record { value = p.value.0; front = p.front; back = p.back; first = p.first; viable = by_number p.back p.viable; octets = p.octets })

parts_in_turn : (b : List ℕ) → IsViable ApplicationEnumerated b ⊎ IsPartway ApplicationEnumerated (λ _. ApplicationEnumerated) b
    → IsViable ApplicationEnumeratedPart b ⊎ IsPartway ApplicationEnumeratedPart (λ _. ApplicationEnumeratedPart) b
parts_in_turn b (inl v) = inl (by_part b v)
parts_in_turn b (inr p) = inr (record { value = of_number p.value; front = p.front; back = p.back; first = p.first; viable = by_part p.back p.viable; octets = p.octets })

pub returns : goal.returns
returns c b =
    let both = c.joined_parts_are_viable_in_turn.ensures b in (
      λ v. numbers_in_turn b (both.0 (record { value = (of_number v.value.class, of_number v.value.code); rest = v.rest; spelled = v.spelled })),
      λ s. let v = both.1 (parts_in_turn b s) in record { value = record { class = v.value.0.0; code = v.value.1.0 }; rest = v.rest; spelled = v.spelled },
    )
