use Rattle.std.proofs.Common.{arith, length-take}
use Rattle.bac_tag.specs.Laws.Octets.{octets_at}
use Rattle.bac_tag.proofs.NumberLemmas.{refused_number, short_number, found_number}
use Rattle.bac_tag.proofs.reading.read_number.Goals as goal

pub returns-in-Err-clause-refused : goal.returns-in-Err-clause-refused
returns-in-Err-clause-refused c =
    rw c.at-in-Err.ensures (refused_number c.args.width c.args.low c.args.high c.min.result c.in-Err.place c.args.octets.now _
    (octets_at _ (λ k. omega (arith, c.type_inv.octets k))) c.min.ensures (λ e. cc) c.in-Err.ensures.err)

pub returns-in-Ok-2-clause-refused : goal.returns-in-Ok-2-clause-refused
returns-in-Ok-2-clause-refused c =
    rw c.at.ensures (short_number c.args.width c.args.low c.args.high c.min.result c.args.octets.now
    (octets_at _ (λ k. omega (arith, c.type_inv.octets k))) c.min.ensures (omega (arith, c.if-front-width.false, length-take c.min.result c.args.octets.now)) c.in-Ok-2.ensures.ok)

pub returns-in-Ok-clause-found : goal.returns-in-Ok-clause-found
returns-in-Ok-clause-found c =
    found_number c.args.width c.args.low c.args.high c.min.result c.in-Ok.number c.args.octets.now
    (octets_at _ (λ k. omega (arith, c.type_inv.octets k))) c.min.ensures (omega (arith, c.if-front-width.true)) c.in-Ok.ensures.ok c.in-Ok.ensures.number
