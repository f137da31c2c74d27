use Rattle.std.proofs.Common.{List, ℕ, reverse, sym, subst}
use Rattle.std.proofs.lemmas.List.{take_rest}
use Rattle.bac_productions.specs.Laws.Least.{extends_more}
use Rattle.bac_field_parts.specs.Laws.Steps.{HasStepped, steps_none, steps_more}
use Rattle.bac_field_parts.proofs.groups.make_elements.Goals as goal

pub loop-groups-init : goal.loop-groups-init
loop-groups-init c =
    subst (λ (l : List ℕ). HasStepped c.args.octets.now c.args.fields.now 0 (reverse l) c.args.out.now.items c.args.out.now.items) (sym c.new-groups.ensures) (steps_none c.args.octets.now c.args.fields.now c.args.out.now.items)

pub loop-groups-preserved : goal.loop-groups-preserved
loop-groups-preserved c = steps_more c.args.octets.now c.args.fields.now c.loop-groups.taken _ _ _ _ _ c.loop-groups.invariant (rw take_rest at c.in-Ok.ensures.made)

pub returns-in-Err-clause-kept : goal.returns-in-Err-clause-kept
returns-in-Err-clause-kept c = let made = c.loop-groups.invariant.appended in extends_more _ _ _ (made.more, made.new_is) c.in-Err.ensures.kept

pub returns-clause-kept : goal.returns-clause-kept
returns-clause-kept c = let made = c.loop-groups.invariant.appended in (made.more, made.new_is)
