use Rattle.std.proofs.Common.{refl, sym, ◌∙◌, ap, arith, length, length-append}
use Rattle.bac_value.specs.PrimContents.{prim_written}
use Rattle.bac_value.specs.Laws.Prim.{prim_limit, prim_written_contents}
use Rattle.bac_data.specs.Events.{application}
use Rattle.bac_data.proofs.EventLeastLemmas.{number_of_others}
use Rattle.bac_data.proofs.NodeLemmas.{least_written}
use Rattle.bac_data.proofs.nodes.primitive_node.Goals as goal

pub returns-in-Boolean : goal.returns-in-Boolean
returns-in-Boolean c = ap application c.in-Boolean.is

pub overflow_cast-result : goal.overflow_cast-result
overflow_cast-result c =
    let limit = prim_limit c.args.prim.now (prim_written c.args.prim.now) (prim_written_contents c.args.prim.now c.written_len-len.ensures.value) in
    omega (arith, c.written_len-len.ensures.len, limit)

pub overflow_sub-result : goal.overflow_sub-result
overflow_sub-result c =
    let (start, octets, least, ends) = c.requires in
    let written = least_written c.args.prim.now octets (number_of_others c.args.prim.now c.in_default.not-Boolean) least in
    omega (arith, c.written_len-len.ensures.len, ends, ap length written.octets_are, length-append written.head (prim_written c.args.prim.now))

pub returns : goal.returns
returns c =
    let fits = overflow_sub-result c in
    (c.args.prim.now, refl, sym c.number.ensures, (λ e. number_of_others c.args.prim.now c.in_default.not-Boolean (sym c.number.ensures ∙ e)), c.written_len-len.ensures.len, omega (arith, fits))
