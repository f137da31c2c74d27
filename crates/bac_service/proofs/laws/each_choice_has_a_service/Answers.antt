use Rattle.std.specs.Prelude.{◌≡◌, ℕ, ◌<◌, true, Option, None, Some, [], refl}
use Rattle.std.proofs.Common.{sym}
use Rattle.bac_tag.specs.Spelling.{IsViable}
use Rattle.bac_productions.specs.Productions.{IsInhabited}
use Rattle.bac_service.specs.declared.kind.Kind.{Kind}
use Rattle.bac_service.specs.ServiceTable.{ServiceProduction, production_of}
use Rattle.bac_service.specs.Services.{typed, opaque, SpellsBy, SpellsService}
use Rattle.bac_service.specs.Laws.Service.{spelled_as}
use Rattle.bac_service.proofs.laws.each_choice_has_a_service.Goals as goal

-- with a production, what it is inhabited by; without one, no octets
by_production : (inhabited : (p : ServiceProduction) → IsInhabited (SpellsBy 32 p)) (k : Kind) (c : ℕ) (p : Option ServiceProduction) → c < 256 → production_of true k c ≡ p → IsViable (SpellsService true 32 k c) []
by_production inhabited k c None fits e = record {
  value = opaque k c [];
  rest = [];
  spelled = record { kind_is = refl; choice_is = refl; choice_fits = fits; production_is = sym e; spelled = (refl, tt) };
}
by_production inhabited k c (Some p) fits e =
    let some = inhabited p in
    record { value = typed k c p some.value; rest = some.octets; spelled = (spelled_as k c p some.value fits e some.octets).0 some.spelled }

pub returns : goal.returns
returns c kind choice fits = by_production (λ p. (c.productions_are_well_spelled.ensures p).inhabited) kind choice (production_of true kind choice) fits refl
