use Rattle.std.proofs.Common.{◌∙◌, ◌++◌, List, ℕ, refl, ap, append_assoc}
use Rattle.bac_data.specs.Events.{events}
use Rattle.bac_data.proofs.LeastLemmas.{least_whole, least_open}
use Rattle.bac_data.proofs.ResultLemmas.{on_ok, on_err_then}
use Rattle.bac_data.proofs.writing.append_any.Goals as goal

pub returns-clause-ok : goal.returns-clause-ok
returns-clause-ok c =
    let octets = c.octets-octets.result.now in
    let a = c.in_ok-append_head.ensures.ok in
    on_ok c.append_head-2.result c.append_head-2.ensures.ok (λ d. record {
      more = a.more ++ (octets ++ d.more);
      is_least = least_open 32 c.args.number c.args.value.now (a.more ++ (octets ++ d.more)) c.octets-octets.ensures.depth
          (least_whole c.args.number c.args.value.now (events c.args.value.now) a.more octets d.more refl a.is_least c.octets-octets.ensures.least d.is_least);
      new_is = d.new_is ∙ ap (λ (l : List ℕ). l ++ d.more) (c.in_ok-extend_from_slice.ensures.items ∙ ap (λ (l : List ℕ). l ++ octets) (a.new_is ∙ ap (λ (l : List ℕ). l ++ a.more) c.reserve.ensures.items)) ∙ append_assoc (c.args.out.now.items ++ a.more) octets d.more ∙ append_assoc c.args.out.now.items a.more (octets ++ d.more);
    })

pub returns-clause-err : goal.returns-clause-err
returns-clause-err c =
    let octets = c.octets-octets.result.now in
    let a = c.in_ok-append_head.ensures.ok in
    on_err_then c.append_head-2.result c.append_head-2.ensures.err (λ kept.
    (a.more ++ octets, kept ∙ c.in_ok-extend_from_slice.ensures.items ∙ ap (λ (l : List ℕ). l ++ octets) (a.new_is ∙ ap (λ (l : List ℕ). l ++ a.more) c.reserve.ensures.items) ∙ append_assoc c.args.out.now.items a.more octets))
