use Rattle.bac_pack.proofs.TextLaws.{unbroken, is_text}
use Rattle.bac_pack.proofs.laws.texts_are_lines.Goals as goal

pub returns-clause-unbroken : goal.returns-clause-unbroken
returns-clause-unbroken c = unbroken

pub returns-clause-text : goal.returns-clause-text
returns-clause-text c = is_text
