use Rattle.std.specs.Prelude.{ℕ, Some, None, [], ◌++◌, refl}
use Rattle.std.proofs.Common.{sym, subst, ◌∙◌}
use Rattle.bac_tag.specs.Octets.{IsOctets}
use Rattle.bac_tag.specs.Laws.Octets.{octets_append, octets_front}
use Rattle.bac_service.specs.Services.{typed, opaque}
use Rattle.bac_service.specs.Laws.Service.{spelled_as, said_alike}
use Rattle.bac_service.proofs.laws.services_are_viable_by_their_production.Goals as goal

pub returns-clause-typed : goal.returns-clause-typed
returns-clause-typed c kind choice production b fits e = (
  λ v. (let s = said_alike v.value.production (Some production) (v.spelled.production_is ∙ e) v.value.said (b ++ v.rest) v.spelled.spelled in record { value = s.0; rest = v.rest; spelled = s.1 }),
  λ v. record { value = typed kind choice production v.value; rest = v.rest; spelled = (spelled_as kind choice production v.value fits e (b ++ v.rest)).0 v.spelled },
)

pub returns-clause-opaque : goal.returns-clause-opaque
returns-clause-opaque c kind choice b fits e = (
  λ v. (let s = said_alike v.value.production None (v.spelled.production_is ∙ e) v.value.said (b ++ v.rest) v.spelled.spelled in octets_front b v.rest (subst IsOctets (sym s.1.0) s.1.1)),
  λ are. record {
    value = opaque kind choice (b ++ []);
    rest = [];
    spelled = record { kind_is = refl; choice_is = refl; choice_fits = fits; production_is = sym e; spelled = (refl, octets_append b [] are tt) };
  },
)
