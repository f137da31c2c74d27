use Rattle.std.proofs.Common.{ap, sym, subst, take, drop}
use Rattle.std.specs.Prelude.{Some, IfErr}
use Rattle.std.proofs.lemmas.List.{take-append-drop}
use Rattle.bac_tag.specs.Heads.{Heads}
use Rattle.bac_tag.specs.Spelling.{IsRefusal}
use Rattle.bac_tag.specs.declared.heads.TagHead.{TagHead}
use Rattle.bac_explain.proofs.NumberLemmas.{head_found}
use Rattle.bac_explain.proofs.numbers.tag_in.Goals as goal

pub returns-in-Ok-clause-found : goal.returns-in-Ok-clause-found
returns-in-Ok-clause-found c = λ tag le spelled.
    ap (λ (t : TagHead). Some t) (head_found c.args.own.now c.in-Ok.tag tag c.in-Ok.taken c.args.size c.heads_end_themselves.ensures c.in-Ok.ensures.found le spelled).1

pub returns-in_default-clause-found : goal.returns-in_default-clause-found
returns-in_default-clause-found c = λ tag le spelled.
    absurd (c.if-taken-size.false (head_found c.args.own.now c.in-Ok.tag tag c.in-Ok.taken c.args.size c.heads_end_themselves.ensures c.in-Ok.ensures.found le spelled).0)

pub returns-in_default-2-clause-found : goal.returns-in_default-2-clause-found
returns-in_default-2-clause-found c = λ tag le spelled.
    let refused = subst (λ r. IfErr r (IsRefusal Heads c.args.own.now)) c.in_default.is c.read_head.ensures.refused in
    absurd (refused.none tag (take c.args.size c.args.own.now) (drop c.args.size c.args.own.now) (sym (take-append-drop c.args.size c.args.own.now)) spelled)
