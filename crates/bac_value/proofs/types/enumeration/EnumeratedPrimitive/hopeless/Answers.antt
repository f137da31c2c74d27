use Rattle.std.proofs.Common.{◌≡◌, ◌≤◌, ◌⊎◌, ◌+◌, ◌∙◌, ap, arith, length}
use Rattle.std.specs.Prelude.{min}
use Rattle.bac_tag.specs.Laws.Octets.{octets_at}
use Rattle.bac_value.specs.Laws.Primitives.{IfNone_then}
use Rattle.bac_value.specs.Laws.Enumerated.{four_begun, front_zeros, all_or_but_four, looked_place}
use Rattle.bac_value.proofs.types.enumeration.EnumeratedPrimitive.hopeless.Goals as goal

pub wide : (c : goal.After-first_other_than_zero) → (c.min-wide.result ≤ length c.args.front.now) × ((c.min-wide.result ≡ length c.args.front.now) ⊎ (c.args.size ≤ c.min-wide.result + 4))
wide c = all_or_but_four (length c.args.front.now) c.args.size c.min-wide.result (c.min-wide.ensures ∙ ap (min (length c.args.front.now)) c.saturating_sub.ensures)

pub returns-clause-none : goal.returns-clause-none
returns-clause-none c =
    IfNone_then c.first_other_than_zero.result _ _ c.first_other_than_zero.ensures.none
    (λ zeros. four_begun c.args.front.now c.args.size c.min-wide.result (octets_at _ (λ k. omega (arith, c.type_inv.front k))) c.requires.sized c.requires.size (wide c).0 (wide c).1 (front_zeros c.args.front.now c.min-wide.result (wide c).0 zeros))

pub returns-clause-some : goal.returns-clause-some
returns-clause-some c =
    looked_place c.args.front.now c.args.size c.min-wide.result c.first_other_than_zero.result (octets_at _ (λ k. omega (arith, c.type_inv.front k))) c.requires.sized c.requires.size (wide c) (c.min-wide.ensures ∙ ap (min (length c.args.front.now)) c.saturating_sub.ensures)
    c.first_other_than_zero.ensures.within c.first_other_than_zero.ensures.zeros c.first_other_than_zero.ensures.other
