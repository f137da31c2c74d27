use Rattle.std.proofs.Common.{true}
use Rattle.bac_tag.specs.Laws.Spelling.{IsLeast-tells}
use Rattle.bac_service.specs.Services.{SpellsService}
use Rattle.bac_service.proofs.laws.canonical_octets_tell_the_service.Goals as goal

pub returns : goal.returns
returns c kind choice = IsLeast-tells (SpellsService true 32 kind choice) (c.services_have_one_value.ensures kind choice)
