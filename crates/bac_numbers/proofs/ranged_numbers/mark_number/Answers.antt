use Rattle.std.proofs.Common.{arith, refl}
use Rattle.bac_tag.specs.Number.{number}
use Rattle.bac_tag.specs.Laws.Octets.{octets_at}
use Rattle.bac_numbers.specs.Laws.Numbers.{written_if}
use Rattle.bac_numbers.proofs.ranged_numbers.mark_number.Goals as goal

pub returns-in-len1-clause-none : goal.returns-in-len1-clause-none
returns-in-len1-clause-none c =
    written_if (number c.args.octets.now) c.args.octets.now (octets_at _ (λ k. omega (arith, c.type_inv.octets k))) c.requires refl (λ two. omega (arith, c.in-len1.len_below))

pub returns-in-len1-up-clause-none : goal.returns-in-len1-up-clause-none
returns-in-len1-up-clause-none c =
    written_if (number c.args.octets.now) c.args.octets.now (octets_at _ (λ k. omega (arith, c.type_inv.octets k))) c.requires refl (λ two. omega (arith, c.if-first-ne0.true))
