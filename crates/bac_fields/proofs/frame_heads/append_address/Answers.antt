use Rattle.std.proofs.Common.{◌++◌, List, ℕ, ◌∙◌, ap, append_assoc}
use Rattle.bac_productions.specs.Laws.Least.{extends_more}
use Rattle.bac_fields.proofs.frame_heads.append_address.Goals as goal

pub returns-clause-written : goal.returns-clause-written
returns-clause-written c =
    c.in_ok-extend_from_slice-2.ensures.items ∙ ap (λ (l : List ℕ). l ++ c.args.address.now) c.in_ok-extend_from_slice.ensures.items ∙ append_assoc c.args.out.now.items _ c.args.address.now

pub returns-clause-kept : goal.returns-clause-kept
returns-clause-kept c = extends_more _ _ _ (_, c.in_ok-extend_from_slice.ensures.items) (_, c.in_ok-extend_from_slice-2.ensures.items)
