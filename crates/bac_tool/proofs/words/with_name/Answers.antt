use Rattle.std.proofs.Common.{ap}
use Rattle.std.proofs.lemmas.Result.{IfOk-weaker}
use Rattle.bac_tool.proofs.Aliases.{has_alias}
use Rattle.bac_tool.proofs.words.with_name.Goals as goal

pub returns-clause-shape : goal.returns-clause-shape
returns-clause-shape c = IfOk-weaker c.alias.result _ _ (λ r added. has_alias _ r _ added) c.alias.ensures

pub returns-clause-local : goal.returns-clause-local
returns-clause-local c = IfOk-weaker c.alias.result _ _ (λ r added. ap (λ f. f.has_globals) added.0) c.alias.ensures
