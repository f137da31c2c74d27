use Rattle.std.proofs.Common.{◌∙◌, sym}
use Rattle.std.proofs.lemmas.Result.{IfErr-weaker}
use Rattle.bac_service.specs.Laws.Checked.{checked_as}
use Rattle.bac_service.specs.Laws.Service.{never}
use Rattle.bac_service.proofs.named.check_list.Goals as goal

pub returns : goal.returns
returns g c =
    let e = c.check.ensures in
    checked_as g.S.NamedList.kind g.S.NamedList.choice c.args.octets.now c.check.result g.met.S.NamedList.named e.found e.refused (IfErr-weaker c.check.result _ _ (λ refusal h w. never (sym c.requires.short ∙ (h w).1)) e.memory) e.reasons
