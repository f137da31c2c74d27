use Rattle.std.proofs.Common.{arith}
use Rattle.std.proofs.lemmas.Option.{IfSome_then}
use Rattle.bac_tag.specs.Laws.Octets.{octets_at}
use Rattle.bac_value.specs.Laws.Primitives.{IfNone_then}
use Rattle.bac_value.specs.Laws.NumberTypes.{number_begun, number_hopeless}
use Rattle.bac_value.proofs.bounded.AnyPrimitive.hopeless.Goals as goal

pub returns-clause-none : goal.returns-clause-none
returns-clause-none g c =
    IfNone_then c.hopeless_number.result _ _ (rw (c.LEAST.ensures, c.MOST.ensures) at c.hopeless_number.ensures.none)
    (number_begun g.N.Bounded.number_of g.N.Bounded.value_of g.met.N.Bounded.bounded.number_of_value g.N.Bounded.LEAST g.N.Bounded.MOST c.args.front.now c.args.size (octets_at _ (λ k. omega (arith, c.type_inv.front k))) c.requires.size)

pub returns-clause-some : goal.returns-clause-some
returns-clause-some g c =
    IfSome_then c.hopeless_number.result (rw (c.LEAST.ensures, c.MOST.ensures) at c.hopeless_number.ensures.some)
    (λ place. number_hopeless g.N.Bounded.number_of g.N.Bounded.value_of g.met.N.Bounded.bounded.number_of_value g.N.Bounded.LEAST g.N.Bounded.MOST c.args.front.now c.args.size place (octets_at _ (λ k. omega (arith, c.type_inv.front k))) c.requires.size)
