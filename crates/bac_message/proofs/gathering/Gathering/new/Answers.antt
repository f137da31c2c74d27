use Rattle.std.proofs.Common.{refl}
use Rattle.bac_segment.specs.Tables.{empty_table}
use Rattle.bac_message.proofs.gathering.Gathering.new.Goals as goal

pub returns-clause-empty : goal.returns-clause-empty
unfolding empty_table
returns-clause-empty c = refl
