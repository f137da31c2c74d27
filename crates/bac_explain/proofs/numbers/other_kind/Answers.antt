use Rattle.std.proofs.Common.{ap, sym, ◌∙◌, option_map}
use Rattle.bac_explain.specs.declared.piece.Kind.TheVariants as kind
use Rattle.bac_explain.proofs.NumberLemmas.{element_told, unjudged_told}
use Rattle.bac_explain.proofs.numbers.other_kind.Goals as goal

pub returns-in-Some-clause-found : goal.returns-in-Some-clause-found
returns-in-Some-clause-found c = λ above is number reason begins.
    ap (option_map kind.Element) (sym c.in-Some.is) ∙ element_told c.args.own.now c.args.head c.tag_in.result is c.tag_in.ensures.found (sym c.in-31.is ∙ number) begins

pub returns-in-None-clause-found : goal.returns-in-None-clause-found
returns-in-None-clause-found c = λ above is number reason begins.
    ap (option_map kind.Element) (sym c.in-None.is) ∙ element_told c.args.own.now c.args.head c.tag_in.result is c.tag_in.ensures.found (sym c.in-31.is ∙ number) begins

pub returns-in-Some-tag_in-clause-found : goal.returns-in-Some-tag_in-clause-found
returns-in-Some-tag_in-clause-found c = λ above is number reason begins.
    ap (option_map kind.Unjudged) (sym c.in-Some-tag_in.is) ∙ unjudged_told c.args.own.now c.args.head c.tag_in-in-32.result is c.tag_in-in-32.ensures.found (sym c.in-32.is ∙ number) begins

pub returns-in-None-tag_in-clause-found : goal.returns-in-None-tag_in-clause-found
returns-in-None-tag_in-clause-found c = λ above is number reason begins.
    ap (option_map kind.Unjudged) (sym c.in-None-tag_in.is) ∙ unjudged_told c.args.own.now c.args.head c.tag_in-in-32.result is c.tag_in-in-32.ensures.found (sym c.in-32.is ∙ number) begins
