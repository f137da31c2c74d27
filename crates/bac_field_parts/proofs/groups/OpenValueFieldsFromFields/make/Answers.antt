use Rattle.std.specs.Prelude.{Bool, true, false, ◌&&◌, IsTrue}
use Rattle.std.proofs.Common.{◌*◌, ℕ, subst, arith}
use Rattle.std.proofs.lemmas.List.{take_rest}
use Rattle.std.proofs.lemmas.Result.{err_from_is_err_and}
use Rattle.bac_data.specs.OpenValue.{Elements}
use Rattle.bac_data.specs.Spells.{SpellsOpen}
use Rattle.bac_productions.specs.Laws.Least.{extends_more}
use Rattle.bac_field_parts.specs.OpenValueFields.{open_steps}
use Rattle.bac_field_parts.specs.Symbols.{Made, steps_said, symbols_in}
use Rattle.bac_field_parts.specs.Laws.Making.{stop_then}
use Rattle.bac_field_parts.specs.Laws.OpenValues.{open_stop_first, open_made, elements_stopped, end_stopped}
use Rattle.bac_field_parts.proofs.groups.OpenValueFieldsFromFields.make.Goals as goal

pub returns-in_err-first-clause-stopped : goal.returns-in_err-first-clause-stopped
returns-in_err-first-clause-stopped g c =
    let p = err_from_is_err_and c.from_residual.result c.from_residual.ensures.1 in
    rw (p.1, p.2) (stop_then c.in_err-first.field-0.0 _ _ (λ q h. open_stop_first g.row.N c.requires _ q h) c.in_err-first.ensures.stopped)

pub returns-in-Err-clause-stopped : goal.returns-in-Err-clause-stopped
returns-in-Err-clause-stopped g c =
    rw c.behind.ensures (elements_stopped g.row.N c.requires c.args.octets.now c.args.fields.now c.in_ok-first.first _ _ c.in-Err.fault c.in_ok-first.ensures.within c.in_ok-first.ensures.made (rw take_rest at c.in-Err.ensures.stopped))

pub returns-in-Ok-make-clause-made : goal.returns-in-Ok-make-clause-made
returns-in-Ok-make-clause-made g c =
    let steps = rw take_rest at c.in-Ok.ensures.made in
    let sliced = rw take_rest at c.in-Ok-make.ensures.made in
    let last = rw take_rest at sliced in
    let made = open_made g.row.N c.requires c.args.octets.now c.args.fields.now c.in_ok-first.first c.in-Ok.taken (3 * c.in-Ok-make.last) _ _ _ _ c.in_ok-first.ensures.made c.in_ok-first.ensures.within steps last in
    subst (λ (n : ℕ). Made (λ (v : Elements). steps_said (open_steps g.row.N v)) (SpellsOpen 32 g.row.N) (symbols_in c.args.octets.now c.args.fields.now) n c.args.out.now.items c.make-2.new.out.items) (omega arith) made

pub returns-in-Err-make-clause-stopped : goal.returns-in-Err-make-clause-stopped
returns-in-Err-make-clause-stopped g c =
    let steps = rw take_rest at c.in-Ok.ensures.made in
    let lead = rw take_rest at c.in-Ok.ensures.end in
    let sliced = rw take_rest at c.in-Err-make.ensures.stopped in
    let stop = rw take_rest at sliced in
    rw (c.behind-in-Err-make-2.ensures, c.behind-in-Err-make.ensures) (end_stopped g.row.N c.requires c.args.octets.now c.args.fields.now c.in_ok-first.first c.in-Ok.taken _ _ _ c.in-Err-make.fault c.in_ok-first.ensures.within c.in_ok-first.ensures.made steps lead stop)

pub returns-in-Err-clause-kept : goal.returns-in-Err-clause-kept
returns-in-Err-clause-kept g c = extends_more _ _ _ c.in_ok-first.ensures.kept c.in-Err.ensures.kept

pub returns-in-Ok-make-clause-kept : goal.returns-in-Ok-make-clause-kept
returns-in-Ok-make-clause-kept g c = extends_more _ _ _ c.in_ok-first.ensures.kept (extends_more _ _ _ c.in-Ok.ensures.kept c.in-Ok-make.ensures.kept)

pub returns-in-Err-make-clause-kept : goal.returns-in-Err-make-clause-kept
returns-in-Err-make-clause-kept g c = extends_more _ _ _ c.in_ok-first.ensures.kept (extends_more _ _ _ c.in-Ok.ensures.kept c.in-Err-make.ensures.kept)

-- a test with nothing else beside it
alone : (test : Bool) → IsTrue test → IsTrue (test && true)
alone true h = h
alone false h = h

pub make-requires : goal.make-requires
make-requires g c = alone _ c.requires
