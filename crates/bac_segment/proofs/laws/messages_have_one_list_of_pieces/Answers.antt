use Rattle.bac_segment.proofs.PieceLemmas.{some_list, one_list, many_pieces}
use Rattle.bac_segment.proofs.laws.messages_have_one_list_of_pieces.Goals as goal

pub returns-clause-exists : goal.returns-clause-exists
returns-clause-exists c = some_list

pub returns-clause-unique : goal.returns-clause-unique
returns-clause-unique c = one_list

pub returns-clause-many : goal.returns-clause-many
returns-clause-many c = many_pieces
