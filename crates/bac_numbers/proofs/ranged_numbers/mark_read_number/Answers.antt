use Rattle.std.proofs.Common.{arith, refl}
use Rattle.bac_tag.specs.Number.{number}
use Rattle.bac_tag.specs.Laws.Number.{number_fits}
use Rattle.bac_tag.specs.Laws.Octets.{octets_at, differs_at}
use Rattle.bac_numbers.specs.Numbers.{least_number}
use Rattle.bac_numbers.specs.Laws.Numbers.{written_if, first_of_least, least_spells}
use Rattle.bac_numbers.proofs.ranged_numbers.mark_read_number.Goals.{then-octets-eq1-via-then-octets-eq1, then-octets-eq1-via-else-octets-eq1+then-octets-ne0}
use Rattle.bac_numbers.proofs.ranged_numbers.mark_read_number.Goals as goal

pub returns-then-octets-eq1-clause-none : goal.returns-then-octets-eq1-clause-none
returns-then-octets-eq1-clause-none c =
    written_if (number c.args.octets.now) c.args.octets.now (octets_at _ (λ k. omega (arith, c.type_inv.octets k))) c.requires.sized refl (λ two.
    elim c.then-octets-eq1.branch [
      | then-octets-eq1-via-then-octets-eq1 w ↦ omega (arith, w.if-octets-eq1.true)
      | then-octets-eq1-via-else-octets-eq1+then-octets-ne0 w ↦ omega (arith, w.if-octets-ne0.true)
    ])

pub returns-then-read-ne0-clause-some : goal.returns-then-read-ne0-clause-some
returns-then-read-ne0-clause-some c =
    let octets = octets_at c.args.octets.now (λ k. omega (arith, c.type_inv.octets k)) in
    let first = first_of_least (number c.args.octets.now) (omega (arith, c.requires.read, c.if-read-ne0.true)) in
    let some = (least_spells (number c.args.octets.now) (number_fits c.args.octets.now octets c.requires.sized.1)).sized.0 in
    differs_at c.args.octets.now (least_number (number c.args.octets.now)) 0 (omega (arith, c.requires.sized.0)) (omega (arith, some)) refl (λ same. omega (arith, same, first, c.if-octets-ne0.false))
