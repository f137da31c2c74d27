use Rattle.std.proofs.Common.{◌∙◌}
use Rattle.bac_npdu_parts.specs.FrameHeads.{address_read}
use Rattle.bac_head.proofs.NpciLemmas.{read_there, after_two, source_lacks, source_empty, hops_lack}
use Rattle.bac_head.proofs.npci.read_npci.Goals as goal

pub returns-then-begins_empty-clause-none : goal.returns-then-begins_empty-clause-none
returns-then-begins_empty-clause-none c =
    source_empty c.args.octets.now c.args.control c.requires _ (after_two c.args.octets.now) (address_read c.in-Some.goes_to) (read_there c.in-Some.goes_to ∙ c.in-Some.ensures.there) c.in-Some.rest.now c.in-Some.ensures.some
    c.if-control.true (c.begins_empty.ensures.0 c.if-begins_empty.true).1

pub returns-in_default-split_where-clause-none : goal.returns-in_default-split_where-clause-none
returns-in_default-split_where-clause-none c =
    let cut = c.in_default-split_where.ensures.none in
    source_lacks c.args.octets.now c.args.control c.requires _ (after_two c.args.octets.now) (address_read c.in-Some.goes_to) (read_there c.in-Some.goes_to ∙ c.in-Some.ensures.there) c.in-Some.rest.now c.in-Some.ensures.some cut.0 cut.1

pub returns-in_default-split_hops-clause-none : goal.returns-in_default-split_hops-clause-none
returns-in_default-split_hops-clause-none c =
    let cut = c.in_default-split_hops.ensures.none in
    let source = c.in-Some-split_where.source in
    hops_lack c.args.octets.now c.args.control c.requires _ (after_two c.args.octets.now) (address_read c.in-Some.goes_to) (read_there c.in-Some.goes_to ∙ c.in-Some.ensures.there) c.in-Some.rest.now c.in-Some.ensures.some
    (address_read source) (read_there source ∙ c.in-Some-split_where.ensures.there) c.in-Some-split_where.rest.now c.in-Some-split_where.ensures.some (read_there c.in-Some.goes_to ∙ cut.0) cut.1
