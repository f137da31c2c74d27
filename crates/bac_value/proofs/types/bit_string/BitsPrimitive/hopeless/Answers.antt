use Rattle.std.proofs.Common.{arith, ◌≡◌, true, false, refl}
use Rattle.bac_tag.specs.Laws.Octets.{octets_at}
use Rattle.bac_numbers.specs.Laws.Numbers.{some_octets, no_octets}
use Rattle.bac_value.specs.Laws.Bits.{bits_begun, bits_hopeless}
use Rattle.bac_value.proofs.types.bit_string.BitsPrimitive.hopeless.Goals.{else-not-is_empty-via-then-not-is_empty+else-not-counts_unused, else-not-is_empty-via-else-not-is_empty}
use Rattle.bac_value.proofs.types.bit_string.BitsPrimitive.hopeless.Goals as goal

pub returns-then-not-counts_unused-clause-some : goal.returns-then-not-counts_unused-clause-some
returns-then-not-counts_unused-clause-some c =
    bits_hopeless c.args.front.now c.args.size c.requires.size.0 c.requires.size.1 (some_octets c.args.front.now c.if-not-is_empty.ensures)
    (λ counts. let e : false ≡ true = c.if-not-counts_unused.ensures.1 counts in absurd (cc))

pub returns-clause-none : goal.returns-clause-none
returns-clause-none c = bits_begun c.args.front.now c.args.size (octets_at _ (λ k. omega (arith, c.type_inv.front k))) c.requires.sized c.requires.size.0 c.requires.size.1
    (λ here. elim c.else-not-is_empty.branch [
      | else-not-is_empty-via-then-not-is_empty+else-not-counts_unused w ↦ w.if-not-counts_unused.ensures.0 refl
      | else-not-is_empty-via-else-not-is_empty w ↦ absurd (omega (arith, no_octets c.args.front.now w.if-not-is_empty.ensures))
    ])
