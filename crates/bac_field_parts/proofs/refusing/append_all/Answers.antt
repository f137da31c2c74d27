use Rattle.bac_field_parts.proofs.WholeLemmas.{made_of_all}
use Rattle.bac_field_parts.proofs.refusing.append_all.Goals as goal

pub returns-in-Ok-clause-made : goal.returns-in-Ok-clause-made
returns-in-Ok-clause-made g c =
    made_of_all (g.P.FromFields.said c.args.part.now) (g.P.FromFields.spells c.args.part.now) (g.P.FromFields.at_end c.args.part.now) c.requires.ends c.args.octets.now c.args.fields.now c.in-Ok.field-0 c.in-Ok.ensures.within c.args.out.now.items c.make.new.out.items c.in-Ok.ensures.made
