use Rattle.std.proofs.Common.{◌≤◌, arith, leb-true, subst, sym}
use Rattle.bac_tag.specs.declared.heads.TagHead.{TagHead}
use Rattle.bac_tag.specs.Expected.{FitsOne}
use Rattle.bac_tag.specs.Heads.{IsValid}
use Rattle.bac_data.specs.Reading.{next_heads}
use Rattle.bac_data.proofs.NextHeadLemmas.{application_stands}
use Rattle.bac_data.proofs.items.may_stand.Goals as goal

pub returns-then-shortest-len : goal.returns-then-shortest-len
returns-then-shortest-len c = λ h.
    let high : c.in-App.len ≤ c.lengths-shortest.result.1 = leb-true c.in-App.len c.lengths-shortest.result.1 h in
    subst (λ (head : TagHead). FitsOne (next_heads c.args.room c.args.closing) head) (sym c.in-App.is)
    (application_stands c.args.room c.args.closing c.in-App.number c.in-App.len c.lengths-shortest.result.0 c.lengths-shortest.result.1 (subst IsValid c.in-App.is c.requires).1 c.lengths-shortest.ensures.lengths (omega (arith, c.if-shortest-len.true)) high)
