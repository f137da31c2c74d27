-- What begins contents of a value of any type.
use Rattle.std.proofs.Common.{◌≡◌, ℕ, List, refl}
use Rattle.std.specs.Prelude.{◌↔◌}
use Rattle.bac_tag.specs.Spelling.{IsViable}
use Rattle.bac_value.specs.PrimContents.{PrimContents, ContentsOf, application_number}

in_a_type : (b : List ℕ) → IsViable PrimContents b → (number : ℕ) × IsViable (ContentsOf number) b
in_a_type b v = (application_number v.value, record { value = v.value; rest = v.rest; spelled = (refl, v.spelled) })

of_a_type : (b : List ℕ) → (number : ℕ) × IsViable (ContentsOf number) b → IsViable PrimContents b
of_a_type b n = record { value = n.1.value; rest = n.1.rest; spelled = n.1.spelled.1 }

pub viable_contents : (b : List ℕ) → IsViable PrimContents b ↔ ((number : ℕ) × IsViable (ContentsOf number) b)
viable_contents b = (in_a_type b, of_a_type b)
