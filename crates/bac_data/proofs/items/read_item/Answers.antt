use Rattle.std.proofs.Common.{◌≡◌, ◌++◌, ◌∙◌, ap, sym, List, ℕ, take, drop, subst, arith, length-take, take-add}
use Rattle.std.proofs.lemmas.List.{take_rest}
use Rattle.std.proofs.lemmas.Result.{err_from_is_err_and}
use Rattle.bac_tag.specs.declared.heads.TagHead.{TagHead}
use Rattle.bac_tag.specs.Heads.{Heads}
use Rattle.bac_data.specs.Reading.{item_event, item_contents}
use Rattle.bac_data.proofs.StandingLemmas.{refused_head, refused_under, has_contents, taken_under}
use Rattle.bac_data.specs.Laws.Heads.{head_some}
use Rattle.bac_data.proofs.items.read_item.Goals as goal

pub returns-in_err-head-clause-refused : goal.returns-in_err-head-clause-refused
returns-in_err-head-clause-refused c =
    let p = err_from_is_err_and c.from_residual.result c.from_residual.ensures.1 in
    rw (p.1, p.2) (refused_head c.args.room c.args.closing c.args.octets.now _ c.in_err-head.ensures.refused)

pub read_under-requires : goal.read_under-requires
read_under-requires c = has_contents c.args.room c.args.closing c.in_ok-head.head (take c.in_ok-head.start c.args.octets.now) c.in_ok-head.ensures.found.spelled

pub returns-in-Ok-clause-found : goal.returns-in-Ok-clause-found
returns-in-Ok-clause-found c =
    let head = c.in_ok-head.ensures.found in
    taken_under c.args.room c.args.closing c.in_ok-head.head (item_event c.in-Ok.item) c.args.octets.now c.in_ok-head.start c.in-Ok.size head.within head.spelled
    (rw take_rest at c.in-Ok.ensures.within)
    (rw take_rest at c.in-Ok.ensures.found)
    (take-add c.in_ok-head.start c.in-Ok.size c.args.octets.now)

pub returns-in-Ok-clause-some : goal.returns-in-Ok-clause-some
returns-in-Ok-clause-some c =
    let head = c.in_ok-head.ensures.found in
    let some = head_some c.in_ok-head.head (take c.in_ok-head.start c.args.octets.now) head.spelled.spelled in
    omega (arith, some, length-take c.in_ok-head.start c.args.octets.now)

pub returns-in-Err-clause-refused : goal.returns-in-Err-clause-refused
returns-in-Err-clause-refused c =
    let head = c.in_ok-head.ensures.found in
    rw c.behind.ensures (refused_under c.args.room c.args.closing c.in_ok-head.head c.args.octets.now c.in_ok-head.start c.in-Err.refusal head.within head.spelled
    (rw take_rest at c.in-Err.ensures.refused))

pub returns-in-Ok-clause-parts : goal.returns-in-Ok-clause-parts
returns-in-Ok-clause-parts c =
    let contents : take c.in-Ok.size (drop c.in_ok-head.start c.args.octets.now) ≡ item_contents c.in-Ok.item =
    rw take_rest at c.in-Ok.ensures.contents in
    record {
      within = omega arith;
      headed = subst (λ (h : TagHead). Heads h (take c.in_ok-head.start c.args.octets.now)) (sym c.in-Ok.ensures.head) c.in_ok-head.ensures.found.spelled.spelled;
      octets_are = take-add c.in_ok-head.start c.in-Ok.size c.args.octets.now ∙ ap (λ (l : List ℕ). take c.in_ok-head.start c.args.octets.now ++ l) contents;
    }
