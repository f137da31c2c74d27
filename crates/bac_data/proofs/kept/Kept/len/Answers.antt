use Rattle.std.proofs.Common.{sym, ◌∙◌, ap, length}
use Rattle.bac_data.proofs.KeptLemmas.{few_length, many_kept}
use Rattle.bac_data.proofs.kept.Kept.len.Goals as goal

pub returns-then-self-le-SHORT : goal.returns-then-self-le-SHORT
returns-then-self-le-SHORT c = sym (few_length c.self.inside.count c.self.inside.few c.self.inside.many.items c.args.self.now c.self.invariant.0 c.if-self-le-SHORT.true c.self.view_is)

pub returns-else-self-le-SHORT : goal.returns-else-self-le-SHORT
returns-else-self-le-SHORT c = c.len.ensures ∙ c.self.inside.many.ok.0 ∙ ap length (sym (many_kept c.self.inside.count c.self.inside.few c.self.inside.many.items c.if-self-le-SHORT.false) ∙ c.self.view_is)
