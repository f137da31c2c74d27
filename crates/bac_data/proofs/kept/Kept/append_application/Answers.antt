use Rattle.std.proofs.Common.{◌++◌, List, ℕ, ◌∙◌, ap}
use Rattle.bac_data.proofs.KeptLemmas.{many_kept}
use Rattle.bac_data.proofs.ResultLemmas.{on_ok}
use Rattle.bac_data.proofs.kept.Kept.append_application.Goals as goal

pub returns : goal.returns
returns c = on_ok c.append_application.result c.append_application.ensures.ok (λ a. record {
  more = a.more;
  is_least = a.is_least;
  new_is = many_kept c.spill.new.count c.self.inside.few c.append_application.new.out.items c.in_ok-spill.ensures.many ∙ a.new_is ∙ ap (λ (l : List ℕ). l ++ a.more) (c.in_ok-spill.ensures.octets ∙ c.self.view_is);
})
