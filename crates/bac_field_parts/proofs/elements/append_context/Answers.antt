use Rattle.std.proofs.Common.{◌++◌, ◌∙◌, ap, append_assoc, List, ℕ}
use Rattle.bac_data.proofs.EventLeastLemmas.{least_context}
use Rattle.bac_productions.specs.Laws.Least.{extends_more}
use Rattle.bac_field_parts.proofs.elements.append_context.Goals as goal

pub returns-clause-ok : goal.returns-clause-ok
returns-clause-ok c =
    let a = c.in_ok-append_head.ensures.ok in
    record {
      more = a.more ++ c.args.held.now;
      is_least = least_context c.args.number c.args.held.now a.more c.requires.contents a.is_least;
      new_is = c.in_ok-extend_from_slice.ensures.items ∙ ap (λ (l : List ℕ). l ++ c.args.held.now) a.new_is ∙ append_assoc c.args.out.now.items a.more c.args.held.now;
    }

pub append_head-requires : goal.append_head-requires
append_head-requires c = c.requires.number

pub returns-clause-kept : goal.returns-clause-kept
returns-clause-kept c = let head = c.in_ok-append_head.ensures.ok in extends_more _ _ _ (head.more, head.new_is) (c.args.held.now, c.in_ok-extend_from_slice.ensures.items)
