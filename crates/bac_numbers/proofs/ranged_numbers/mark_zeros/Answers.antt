use Rattle.std.proofs.Common.{ℕ, List, drop, length-drop, refl, add-zero, subst, arith}
use Rattle.std.proofs.lemmas.List.{get_or-drop}
use Rattle.bac_tag.specs.Octets.{FirstDifference}
use Rattle.bac_tag.specs.Laws.Octets.{octets_at, differs_at}
use Rattle.bac_numbers.specs.Laws.Numbers.{significant_is}
use Rattle.bac_numbers.proofs.ranged_numbers.mark_zeros.Goals as goal

pub returns-in-Some-clause-some : goal.returns-in-Some-clause-some
returns-in-Some-clause-some c =
    let place = c.in-Some.field-0 in
    let least = significant_is c.args.octets.now place (octets_at _ (λ k. omega (arith, c.type_inv.octets k))) c.requires.sized.1 c.in-Some.ensures.within c.in-Some.ensures.zeros (λ two. c.in-Some.ensures.other) in
    subst (λ (l : List ℕ). FirstDifference c.args.octets.now l 0) least
    (differs_at c.args.octets.now (drop place c.args.octets.now) 0 (omega (arith, c.in-Some.ensures.within)) (omega (arith, c.in-Some.ensures.within, length-drop place c.args.octets.now)) refl
    (λ same. let alike = rw (get_or-drop place c.args.octets.now 0 0, add-zero) at same in omega (arith, alike, c.requires.zero, c.in-Some.ensures.other)))
