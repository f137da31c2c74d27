use Rattle.std.proofs.Common.{ℕ, List, ◌++◌, ◌∙◌, ap, append_assoc}
use Rattle.bac_tag.specs.Octets.{Extends}
use Rattle.bac_data.proofs.EventLeastLemmas.{least_context}
use Rattle.bac_data.proofs.ResultLemmas.{err_anyway}
use Rattle.bac_data.proofs.writing.append_context_parts.Goals as goal

pub returns-clause-ok : goal.returns-clause-ok
returns-clause-ok c =
    let a = c.in_ok-append_head.ensures.ok in
    record {
      more = a.more ++ c.args.contents.now;
      is_least = least_context c.args.number c.args.contents.now a.more c.requires.contents a.is_least;
      new_is = c.in_ok-extend_from_slice.ensures.items ∙ ap (λ (l : List ℕ). l ++ c.args.contents.now) a.new_is ∙ append_assoc c.args.out.now.items a.more c.args.contents.now;
    }

pub returns-in_err-extend_from_slice-clause-err : goal.returns-in_err-extend_from_slice-clause-err
returns-in_err-extend_from_slice-clause-err c =
    let a = c.in_ok-append_head.ensures.ok in
    let kept : Extends c.args.out.now.items c.extend_from_slice.new.self.items = (a.more, c.in_err-extend_from_slice.ensures.items ∙ a.new_is) in
    err_anyway _ kept
