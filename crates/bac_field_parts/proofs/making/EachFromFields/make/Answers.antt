use Rattle.std.proofs.Common.{◌<◌, sym, ◌∙◌, arith}
use Rattle.std.proofs.lemmas.Bool.{and_parts}
use Rattle.std.proofs.lemmas.List.{take_rest, length-drop}
use Rattle.bac_productions.specs.Laws.Least.{extends_more}
use Rattle.bac_field_parts.specs.Laws.Making.{none_made, some_taken, more_made, item_stop, end_stop, all_made}
use Rattle.bac_field_parts.proofs.making.EachFromFields.make.Goals as goal

pub loop-out-init : goal.loop-out-init
loop-out-init g c = none_made _ _ _ _ c.args.octets.now c.args.fields.now c.args.out.now.items

pub loop-out-smaller : goal.loop-out-smaller
loop-out-smaller g c =
    let sound = and_parts _ _ c.requires in
    let rest = and_parts _ _ sound.1 in
    let first = g.met.P.FromFields.lawful c.args.self.now.0 sound.0 in
    let second = g.met.T.FromFields.lawful c.args.self.now.1 rest.0 in
    let last = and_parts _ _ rest.1 in
    let some : 0 < c.in-Ok.item = some_taken _ _ _ _ c.args.octets.now c.args.fields.now _ _ first second last.1 _ _ _ _ _ last.0 (rw take_rest at c.in-Ok.ensures.made) in
    let within = rw take_rest at c.in-Ok.ensures.within in
    omega (arith, some, c.loop-out.invariant.within, within, length-drop c.loop-out.taken c.args.fields.now)

pub loop-out-preserved : goal.loop-out-preserved
loop-out-preserved g c =
    let sound = and_parts _ _ c.requires in
    let rest = and_parts _ _ sound.1 in
    let first = g.met.P.FromFields.lawful c.args.self.now.0 sound.0 in
    let second = g.met.T.FromFields.lawful c.args.self.now.1 rest.0 in
    let last = and_parts _ _ rest.1 in
    more_made _ _ _ _ c.args.octets.now c.args.fields.now _ _ first second last.1 _ c.lead.result c.loop-out.taken c.in-Ok.item _ _ _ last.0 c.loop-out.invariant (rw take_rest at c.lead.ensures) (sym c.begins.ensures ∙ c.loop-out-test.true)
    (rw take_rest at c.in-Ok.ensures.within) (rw take_rest at c.in-Ok.ensures.made)

pub returns-in-Err-clause-stopped : goal.returns-in-Err-clause-stopped
returns-in-Err-clause-stopped g c =
    let sound = and_parts _ _ c.requires in
    let rest = and_parts _ _ sound.1 in
    let first = g.met.P.FromFields.lawful c.args.self.now.0 sound.0 in
    let second = g.met.T.FromFields.lawful c.args.self.now.1 rest.0 in
    let last = and_parts _ _ rest.1 in
    rw c.behind.ensures
    (item_stop _ _ _ _ c.args.octets.now c.args.fields.now _ _ first second last.1 c.lead.result c.loop-out.taken _ _ c.in-Err.fault c.loop-out.invariant (rw take_rest at c.lead.ensures) (sym c.begins.ensures ∙ c.loop-out-test.true) (rw take_rest at c.in-Err.ensures.stopped))

pub returns-in-Ok-make-clause-made : goal.returns-in-Ok-make-clause-made
returns-in-Ok-make-clause-made g c =
    let sound = and_parts _ _ c.requires in
    let rest = and_parts _ _ sound.1 in
    let first = g.met.P.FromFields.lawful c.args.self.now.0 sound.0 in
    let second = g.met.T.FromFields.lawful c.args.self.now.1 rest.0 in
    let last = and_parts _ _ rest.1 in
    all_made _ _ _ _ c.args.octets.now c.args.fields.now _ _ first second last.1 _ c.loop-out.taken c.in-Ok-make.rest _ _ _ c.loop-out.invariant (rw take_rest at c.in-Ok-make.ensures.made)

pub returns-in-Ok-make-clause-kept : goal.returns-in-Ok-make-clause-kept
returns-in-Ok-make-clause-kept g c = let made = c.loop-out.invariant.appended in extends_more _ _ _ (made.more, made.new_is) c.in-Ok-make.ensures.kept

pub returns-in-Err-make-clause-stopped : goal.returns-in-Err-make-clause-stopped
returns-in-Err-make-clause-stopped g c =
    let sound = and_parts _ _ c.requires in
    let rest = and_parts _ _ sound.1 in
    let first = g.met.P.FromFields.lawful c.args.self.now.0 sound.0 in
    let second = g.met.T.FromFields.lawful c.args.self.now.1 rest.0 in
    let last = and_parts _ _ rest.1 in
    rw c.behind-in-Err-make.ensures
    (end_stop _ _ _ _ c.args.octets.now c.args.fields.now _ _ first second last.1 c.lead.result c.loop-out.taken _ _ c.in-Err-make.fault c.loop-out.invariant (rw take_rest at c.lead.ensures) (sym c.begins.ensures ∙ c.loop-out-test.false) (rw take_rest at c.in-Err-make.ensures.stopped))

pub make-requires : goal.make-requires
make-requires g c = (and_parts _ _ c.requires).0

pub make-requires-2 : goal.make-requires-2
make-requires-2 g c = (and_parts _ _ (and_parts _ _ c.requires).1).0

pub returns-in-Err-clause-kept : goal.returns-in-Err-clause-kept
returns-in-Err-clause-kept g c = let made = c.loop-out.invariant.appended in extends_more _ _ _ (made.more, made.new_is) c.in-Err.ensures.kept

pub returns-in-Err-make-clause-kept : goal.returns-in-Err-make-clause-kept
returns-in-Err-make-clause-kept g c = let made = c.loop-out.invariant.appended in extends_more _ _ _ (made.more, made.new_is) c.in-Err-make.ensures.kept
