use Rattle.std.proofs.lemmas.Bool.{leb-true}
use Rattle.bac_productions.specs.Laws.Tag.{closing_inhabited}
use Rattle.bac_field_parts.specs.Laws.Leaves.{end_stopped}
use Rattle.bac_field_parts.proofs.tagged.ClosedEndFromFields.make.Goals as goal

pub returns-then-not-is_empty-clause-stopped : goal.returns-then-not-is_empty-clause-stopped
returns-then-not-is_empty-clause-stopped c = rw c.at.ensures (end_stopped _ (closing_inhabited c.args.self.now.0 c.requires) c.args._octets.now c.args.fields.now (c.if-not-is_empty.ensures))

pub append_head-requires : goal.append_head-requires
append_head-requires c = leb-true c.args.self.now.0 254 c.requires
