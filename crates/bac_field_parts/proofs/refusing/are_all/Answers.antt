use Rattle.bac_field_parts.proofs.WholeLemmas.{are_all_of_one, are_of_none}
use Rattle.bac_field_parts.proofs.refusing.are_all.Goals as goal

pub returns-in_default-clause-yes : goal.returns-in_default-clause-yes
returns-in_default-clause-yes g c t =
    are_all_of_one (g.P.FromFields.said c.args.part.now) (g.P.FromFields.spells c.args.part.now) (g.P.FromFields.at_end c.args.part.now) c.requires.ends c.args.octets.now c.args.fields.now c.in_default.field-0 c.in_default.ensures.within c.args.out.now.items c.make-made.new.out.items c.in_default.ensures.made

pub returns-in-Stop-clause-no : goal.returns-in-Stop-clause-no
returns-in-Stop-clause-no g c f all = are_of_none (g.P.FromFields.said c.args.part.now) (g.P.FromFields.spells c.args.part.now) c.args.octets.now c.args.fields.now _ (rw c.in-Stop.is at c.in-Err.ensures.stopped) all
