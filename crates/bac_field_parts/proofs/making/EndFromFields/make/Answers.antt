use Rattle.bac_field_parts.specs.Laws.Leaves.{end_stopped, nothing_inhabited}
use Rattle.bac_field_parts.proofs.making.EndFromFields.make.Goals as goal

pub returns-else-is_empty-clause-stopped : goal.returns-else-is_empty-clause-stopped
returns-else-is_empty-clause-stopped c = rw c.at.ensures (end_stopped _ nothing_inhabited c.args._octets.now c.args.fields.now (c.if-is_empty.ensures))
