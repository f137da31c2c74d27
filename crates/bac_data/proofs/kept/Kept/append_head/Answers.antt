use Rattle.std.proofs.Common.{◌++◌, List, ℕ, ◌∙◌, ap}
use Rattle.bac_data.proofs.ResultLemmas.{on_ok}
use Rattle.bac_data.proofs.kept.Kept.append_head.Goals as goal

pub returns : goal.returns
returns c = on_ok c.extend.result c.extend.ensures (λ e. record {
  more = c.write_head-octets.result.items;
  is_least = c.write_head-octets.ensures;
  new_is = e ∙ ap (λ (l : List ℕ). c.args.self.now ++ l) c.as_slice.ensures.value;
})
