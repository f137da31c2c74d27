use Rattle.std.proofs.Common.{◌∙◌}
use Rattle.bac_data.proofs.LinkLemmas.{around_small, opening_lists}
use Rattle.bac_data.proofs.ResultLemmas.{on_ok_all}
use Rattle.bac_data.proofs.listing.Listing.open.Goals as goal

pub push-requires-clause-short : goal.push-requires-clause-short
push-requires-clause-short c = λ few least. let (value, es, octets, more, before, behind, m) = c.requires.may in around_small value c.args.number c.args.end c.args.self.now es octets more before behind m few

pub returns : goal.returns
returns c = on_ok_all c.push.result c.push.ensures.nodes c.push.ensures.sound c.push.ensures.few (λ nodes sound few.
    λ value es octets more before behind m.
    opening_lists value c.args.number c.args.end c.args.self.now es octets more before behind m c.push.new.self nodes (c.push.ensures.groups.innermost ∙ c.len-self.ensures) c.push.ensures.groups.depth c.push.ensures.groups.closing c.push.ensures.groups.number sound few)
