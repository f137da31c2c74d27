use Rattle.bac_tag.specs.Laws.Spelling.{IsLeast-tells, ends_one}
use Rattle.bac_data.specs.Spells.{SpellsOpen}
use Rattle.bac_data.proofs.OpenLemmas.{open_ends}
use Rattle.bac_data.proofs.laws.canonical_octets_tell_the_value.Goals as goal

pub returns : goal.returns
returns c limit number = IsLeast-tells (SpellsOpen limit number) (ends_one (SpellsOpen limit number) (open_ends limit number))
