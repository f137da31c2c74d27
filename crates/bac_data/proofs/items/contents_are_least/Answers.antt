use Rattle.bac_data.proofs.MarkLemmas.{written_told}
use Rattle.bac_data.proofs.items.contents_are_least.Goals as goal

pub returns-in-Application : goal.returns-in-Application
returns-in-Application c = written_told c.args.item c.in-Application.number c.in-Application.contents c.in-Application.written c.in-Application.is c.requires
