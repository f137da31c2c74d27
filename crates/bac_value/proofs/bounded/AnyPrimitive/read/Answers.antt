use Rattle.std.proofs.Common.{arith}
use Rattle.std.proofs.lemmas.Result.{err_from_is_err_and}
use Rattle.bac_tag.specs.Laws.Octets.{octets_at}
use Rattle.bac_value.specs.Laws.NumberTypes.{number_hopeless}
use Rattle.bac_value.proofs.bounded.AnyPrimitive.read.Goals as goal

pub returns-in_err-read_number-clause-content : goal.returns-in_err-read_number-clause-content
returns-in_err-read_number-clause-content g c =
    let p = err_from_is_err_and c.from_residual.result c.from_residual.ensures.1 in
    rw (p.1, p.2) (λ why. let h = rw (c.LEAST.ensures, c.MOST.ensures) at c.in_err-read_number.ensures.content why in
    number_hopeless g.N.Bounded.number_of g.N.Bounded.value_of g.met.N.Bounded.bounded.number_of_value g.N.Bounded.LEAST g.N.Bounded.MOST c.args.octets.now _ _ (octets_at _ (λ k. omega (arith, c.type_inv.octets k))) h.0 h.1)
