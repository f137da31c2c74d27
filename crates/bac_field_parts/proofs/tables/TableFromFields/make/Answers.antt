use Rattle.std.proofs.Common.{◌≡◌, ◌++◌, ◌∷◌, [], ◌<◌, length, refl, sym, ◌∙◌, arith}
use Rattle.std.proofs.lemmas.Bool.{and_parts}
use Rattle.std.proofs.lemmas.List.{take_rest, length-drop}
use Rattle.bac_productions.specs.Laws.Least.{extends_more}
use Rattle.bac_field_parts.specs.Laws.Making.{some_taken}
use Rattle.bac_field_parts.specs.Laws.Tables.{none_counted, more_counted, full_stop, item_counted_stop, end_counted_stop, set_extends, all_counted}
use Rattle.bac_field_parts.proofs.tables.TableFromFields.make.Goals as goal

pub loop-place-init : goal.loop-place-init
loop-place-init g c = rw c.in-Ok.ensures.items (none_counted _ _ _ _ c.args.octets.now c.args.fields.now (c.args.out.now.items ++ 0 ∷ []))

pub returns-then-count-clause-stopped : goal.returns-then-count-clause-stopped
returns-then-count-clause-stopped g c =
    let sound = and_parts _ _ c.requires in
    let rest = and_parts _ _ sound.1 in
    let first = g.met.P.FromFields.lawful c.args.self.now.0 sound.0 in
    let second = g.met.T.FromFields.lawful c.args.self.now.1 rest.0 in
    let last = and_parts _ _ rest.1 in
    rw (c.behind.ensures, c.at.ensures)
    (full_stop _ _ _ _ c.args.octets.now c.args.fields.now _ _ first second last.1 c.lead.result c.loop-place.count c.loop-place.taken _ _ c.if-count.true c.loop-place.invariant (rw take_rest at c.lead.ensures) (sym c.begins.ensures ∙ c.loop-place-test.true))

pub returns-in-Err-clause-stopped : goal.returns-in-Err-clause-stopped
returns-in-Err-clause-stopped g c =
    let room : c.loop-place.count < 255 = omega (arith, c.loop-place.invariant.few, c.if-count.false) in
    let sound = and_parts _ _ c.requires in
    let rest = and_parts _ _ sound.1 in
    let first = g.met.P.FromFields.lawful c.args.self.now.0 sound.0 in
    let second = g.met.T.FromFields.lawful c.args.self.now.1 rest.0 in
    let last = and_parts _ _ rest.1 in
    rw c.behind-in-Err.ensures
    (item_counted_stop _ _ _ _ c.args.octets.now c.args.fields.now _ _ first second last.1 c.lead.result c.loop-place.count c.loop-place.taken _ _ c.in-Err.fault c.loop-place.invariant (rw take_rest at c.lead.ensures) (sym c.begins.ensures ∙ c.loop-place-test.true) room
    (rw take_rest at c.in-Err.ensures.stopped))

pub loop-place-smaller : goal.loop-place-smaller
loop-place-smaller g c =
    let sound = and_parts _ _ c.requires in
    let rest = and_parts _ _ sound.1 in
    let first = g.met.P.FromFields.lawful c.args.self.now.0 sound.0 in
    let second = g.met.T.FromFields.lawful c.args.self.now.1 rest.0 in
    let last = and_parts _ _ rest.1 in
    let some : 0 < c.in-Ok-make.item = some_taken _ _ _ _ c.args.octets.now c.args.fields.now _ _ first second last.1 _ _ _ _ _ last.0 (rw take_rest at c.in-Ok-make.ensures.made) in
    let within = rw take_rest at c.in-Ok-make.ensures.within in
    omega (arith, some, c.loop-place.invariant.within, within, length-drop c.loop-place.taken c.args.fields.now)

pub loop-place-preserved : goal.loop-place-preserved
loop-place-preserved g c =
    let room : c.loop-place.count < 255 = omega (arith, c.loop-place.invariant.few, c.if-count.false) in
    let sound = and_parts _ _ c.requires in
    let rest = and_parts _ _ sound.1 in
    let first = g.met.P.FromFields.lawful c.args.self.now.0 sound.0 in
    let second = g.met.T.FromFields.lawful c.args.self.now.1 rest.0 in
    let last = and_parts _ _ rest.1 in
    more_counted _ _ _ _ c.args.octets.now c.args.fields.now _ _ first second last.1 _ c.lead.result c.loop-place.count c.loop-place.taken c.in-Ok-make.item _ _ _ last.0 c.loop-place.invariant (rw take_rest at c.lead.ensures) (sym c.begins.ensures ∙ c.loop-place-test.true) room
    (rw take_rest at c.in-Ok-make.ensures.within) (rw take_rest at c.in-Ok-make.ensures.made)

pub returns-in-Ok-make-2-clause-made : goal.returns-in-Ok-make-2-clause-made
returns-in-Ok-make-2-clause-made g c =
    let place : c.len-place.result ≡ length c.args.out.now.items = c.len-place.ensures ∙ c.args.out.now.ok.0 in
    all_counted _ _ _ _ c.args.octets.now c.args.fields.now _ c.loop-place.count c.loop-place.taken c.in-Ok-make-2.rest c.len-place.result c.args.out.now.items _ _ place c.loop-place.invariant (rw take_rest at c.in-Ok-make-2.ensures.made)

pub returns-in-Ok-make-2-clause-kept : goal.returns-in-Ok-make-2-clause-kept
returns-in-Ok-make-2-clause-kept g c =
    let place : c.len-place.result ≡ length c.args.out.now.items = c.len-place.ensures ∙ c.args.out.now.ok.0 in
    set_extends _ _ _ _ _ _ c.loop-place.count c.loop-place.taken c.len-place.result c.args.out.now.items _ _ place c.loop-place.invariant c.in-Ok-make-2.ensures.kept

pub returns-in-Err-make-clause-stopped : goal.returns-in-Err-make-clause-stopped
returns-in-Err-make-clause-stopped g c =
    let sound = and_parts _ _ c.requires in
    let rest = and_parts _ _ sound.1 in
    let first = g.met.P.FromFields.lawful c.args.self.now.0 sound.0 in
    let second = g.met.T.FromFields.lawful c.args.self.now.1 rest.0 in
    let last = and_parts _ _ rest.1 in
    rw c.behind-in-Err-make.ensures
    (end_counted_stop _ _ _ _ c.args.octets.now c.args.fields.now _ _ first second last.1 c.lead.result c.loop-place.count c.loop-place.taken _ _ c.in-Err-make.fault c.loop-place.invariant (rw take_rest at c.lead.ensures) (sym c.begins.ensures ∙ c.loop-place-test.false)
    (rw take_rest at c.in-Err-make.ensures.stopped))

pub returns-in-Err-make-clause-kept : goal.returns-in-Err-make-clause-kept
returns-in-Err-make-clause-kept g c =
    let place : c.len-place.result ≡ length c.args.out.now.items = c.len-place.ensures ∙ c.args.out.now.ok.0 in
    set_extends _ _ _ _ _ _ c.loop-place.count c.loop-place.taken c.len-place.result c.args.out.now.items _ _ place c.loop-place.invariant c.in-Err-make.ensures.kept

pub make-requires : goal.make-requires
make-requires g c = (and_parts _ _ c.requires).0

pub make-requires-2 : goal.make-requires-2
make-requires-2 g c = (and_parts _ _ (and_parts _ _ c.requires).1).0

pub returns-then-count-clause-kept : goal.returns-then-count-clause-kept
returns-then-count-clause-kept g c = let made = c.loop-place.invariant.appended in extends_more _ _ _ (0 ∷ [], refl) (made.more, made.new_is)

pub returns-in-Err-clause-kept : goal.returns-in-Err-clause-kept
returns-in-Err-clause-kept g c =
    let made = c.loop-place.invariant.appended in
    extends_more _ _ _ (0 ∷ [], refl) (extends_more _ _ _ (made.more, made.new_is) c.in-Err.ensures.kept)
