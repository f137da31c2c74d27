use Rattle.bac_field_parts.specs.declared.making.Part.TheVariants as part
use Rattle.bac_field_parts.proofs.WholeLemmas.{short_refused, trailing_refused, part_refused}
use Rattle.bac_field_parts.proofs.refusing.why_stopped.Goals as goal

pub returns-then-index-fields-clause-refused : goal.returns-then-index-fields-clause-refused
returns-then-index-fields-clause-refused g c =
    short_refused (g.P.FromFields.said c.args.part.now) (g.P.FromFields.spells c.args.part.now) c.args.octets.now c.args.fields.now c.args.stop c.requires.stop c.requires.within c.if-index-fields.true

pub returns-in-Some-true-clause-refused : goal.returns-in-Some-true-clause-refused
returns-in-Some-true-clause-refused g c =
    trailing_refused (g.P.FromFields.said c.args.part.now) (g.P.FromFields.spells c.args.part.now) c.args.octets.now c.args.fields.now c.args.stop c.requires.stop c.requires.within c.if-index-fields.false c.in-Name.is (c.in-Some-true.ensures.yes c.in-Some-true.field-0-test)

pub returns-in-Some-false-clause-refused : goal.returns-in-Some-false-clause-refused
returns-in-Some-false-clause-refused g c =
    part_refused (g.P.FromFields.said c.args.part.now) (g.P.FromFields.spells c.args.part.now) c.args.octets.now c.args.fields.now c.args.stop c.requires.stop c.requires.within c.if-index-fields.false part.Name c.in-Name.is (λ all name. c.in-Some-false.ensures.no c.in-Some-false.field-0-test all)

pub returns-in-Number-clause-refused : goal.returns-in-Number-clause-refused
returns-in-Number-clause-refused g c =
    part_refused (g.P.FromFields.said c.args.part.now) (g.P.FromFields.spells c.args.part.now) c.args.octets.now c.args.fields.now c.args.stop c.requires.stop c.requires.within c.if-index-fields.false part.Number c.in-Number.is (λ all name. absurd (cc))

pub returns-in-Contents-clause-refused : goal.returns-in-Contents-clause-refused
returns-in-Contents-clause-refused g c =
    part_refused (g.P.FromFields.said c.args.part.now) (g.P.FromFields.spells c.args.part.now) c.args.octets.now c.args.fields.now c.args.stop c.requires.stop c.requires.within c.if-index-fields.false part.Contents c.in-Contents.is (λ all name. absurd (cc))
