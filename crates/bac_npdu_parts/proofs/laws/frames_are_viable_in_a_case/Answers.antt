use Rattle.std.specs.Prelude.{refl}
use Rattle.bac_npdu_parts.proofs.CaseLemmas.{by_case, of_case}
use Rattle.bac_npdu_parts.proofs.laws.frames_are_viable_in_a_case.Goals as goal

pub returns : goal.returns
returns c b = (λ v. by_case v.value v.value.body refl b v.rest v.spelled, of_case b)
