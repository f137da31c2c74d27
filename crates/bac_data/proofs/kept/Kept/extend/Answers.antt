use Rattle.std.proofs.Common.{◌++◌, List, ℕ, ◌∙◌, ap, arith}
use Rattle.bac_data.proofs.KeptLemmas.{few_extended, many_kept}
use Rattle.bac_data.proofs.kept.Kept.extend.Goals as goal

pub returns-then-octets-self : goal.returns-then-octets-self
returns-then-octets-self c = few_extended c.self.inside.count c.self.inside.few c.self.inside.many.items c.args.octets.now c.copy_short.new.room c.args.self.now c.self.invariant.0 (omega arith) c.copy_short.ensures c.self.view_is

pub returns : goal.returns
returns c =
    many_kept c.spill.new.count c.self.inside.few c.extend_from_slice.new.self.items c.in_ok-spill.ensures.many ∙ c.in_ok-extend_from_slice.ensures.items
    ∙ ap (λ (l : List ℕ). l ++ c.args.octets.now) (c.in_ok-spill.ensures.octets ∙ c.self.view_is)
