use Rattle.std.specs.Prelude.{ℕ, ◌⊎◌, List, ◌++◌}
use Rattle.std.proofs.Common.{inl, inr}
use Rattle.bac_tag.specs.Spelling.{IsViable}
use Rattle.bac_data.specs.Spells.{SpellsOpen}
use Rattle.bac_productions.specs.Productions.{Grouped}
use Rattle.bac_service.specs.declared.service.property_result.ReadResult.{ReadResult}
use Rattle.bac_service.specs.declared.service.property_result.ReadResult.TheVariants.{Value, Error}
use Rattle.bac_service.specs.ErrorCause.{SpellsErrorCause}
use Rattle.bac_service.specs.PropertyResult.{SpellsReadResult}
use Rattle.bac_service.proofs.laws.results_are_viable_in_a_case.Goals as goal

pub returns : goal.returns
returns c b = (
  λ v. by_case b v.value v.rest v.spelled,
  λ s. elim s [ inl v ↦ record { value = Value v.value; rest = v.rest; spelled = v.spelled } | inr v ↦ record { value = Error v.value; rest = v.rest; spelled = v.spelled } ],
)
  where
    by_case : (b : List ℕ) (r : ReadResult) (rest : List ℕ) → SpellsReadResult 32 r (b ++ rest) → IsViable (SpellsOpen 32 4) b ⊎ IsViable (Grouped 5 SpellsErrorCause) b
    by_case b (Value value) rest s = inl (record { value = value; rest = rest; spelled = s })
    by_case b (Error cause) rest s = inr (record { value = cause; rest = rest; spelled = s })
