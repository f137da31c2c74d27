use Rattle.std.proofs.Common.{◌++◌, List, ℕ, take, sym, ◌∙◌, ap, arith}
use Rattle.bac_data.proofs.KeptLemmas.{few_kept, many_kept}
use Rattle.bac_data.proofs.kept.spill.Goals as goal

pub returns-then-count-gt-SHORT-clause-octets : goal.returns-then-count-gt-SHORT-clause-octets
returns-then-count-gt-SHORT-clause-octets c = sym (many_kept c.args.count.now c.args.few.now c.args.many.now.items c.if-count-gt-SHORT.true)

pub returns-clause-octets : goal.returns-clause-octets
returns-clause-octets c =
    let few = few_kept c.args.count.now c.args.few.now c.args.many.now.items (omega arith) in
    c.in_ok-extend_from_slice.ensures.items ∙ ap (λ (l : List ℕ). l ++ take c.args.count.now c.args.few.now) (c.in_ok-reserve.ensures.items ∙ c.requires (omega arith)) ∙ sym few
