use Rattle.std.proofs.Common.{sym, ◌∙◌}
use Rattle.bac_data.proofs.KeptLemmas.{few_kept, many_kept}
use Rattle.bac_data.proofs.kept.Kept.as_slice.Goals as goal

pub returns-then-self-le-SHORT : goal.returns-then-self-le-SHORT
returns-then-self-le-SHORT c = sym (few_kept c.self.inside.count c.self.inside.few c.self.inside.many.items c.if-self-le-SHORT.true) ∙ c.self.view_is

pub returns-else-self-le-SHORT : goal.returns-else-self-le-SHORT
returns-else-self-le-SHORT c = c.as_slice.ensures.value ∙ sym (many_kept c.self.inside.count c.self.inside.few c.self.inside.many.items c.if-self-le-SHORT.false) ∙ c.self.view_is
