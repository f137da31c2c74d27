use Rattle.std.proofs.Common.{◌++◌, [], List, append-nil, sym, subst, ◌∙◌, take}
use Rattle.bac_field_parts.specs.declared.field.Field.{Field}
use Rattle.bac_explain.proofs.LineLemmas.{DataContinues, appended, data_begun, data_cut, data_last, data_passed}
use Rattle.bac_explain.proofs.named_lines.write_data.Goals as goal

pub loop-field-init : goal.loop-field-init
loop-field-init c =
    (c.requires.place, c.requires.order, ([], sym (append-nil (take c.args.at c.args.out.now.items)), data_begun c.args.octets.now c.args.canonical.now c.args.fields.now c.args.from c.args.to))

pub loop-field-preserved-in_ok-end : goal.loop-field-preserved-in_ok-end
loop-field-preserved-in_ok-end c =
    let octets = c.args.octets.now in
    let canonical = c.args.canonical.now in
    let fields = c.args.fields.now in
    let from = c.args.from in
    let to = c.args.to in
    let left = c.loop-field.left.now in
    let f = c.in-Some.field.now in
    let more = c.in-Some.more.now in
    let so_far = c.loop-field.invariant.2 in
    let lines = c.in_ok-end.ensures.text in
    let is = c.in-Some.ensures.cases.0 in
    let goes = subst (λ (l : List Field). DataContinues octets canonical fields from to c.loop-field.place left l so_far.0) is so_far.2 in
    let cut = data_cut octets canonical fields from to c.loop-field.place left f more so_far.0 lines.0 (sym c.begins_between.ensures.begins ∙ c.if-begins_between.true) lines.2 goes in (
      c.in_ok-end.ensures.end,
      c.begins_between.ensures.before c.if-begins_between.true,
      (
        so_far.0 ++ lines.0,
        appended (take c.args.at c.args.out.now.items) (take c.loop-field.end c.loop-field.out.items) (take c.in_ok-end.end c.write_data_part.new.out.items) so_far.0 lines.0 so_far.1 lines.1,
        subst (λ (l : List Field). DataContinues octets canonical fields from to f.place l more (so_far.0 ++ lines.0)) (sym is) cut,
      ),
    )

pub loop-field-preserved : goal.loop-field-preserved
loop-field-preserved c =
    let octets = c.args.octets.now in
    let canonical = c.args.canonical.now in
    let fields = c.args.fields.now in
    let place = c.loop-field.place in
    let left = c.loop-field.left.now in
    let so_far = c.loop-field.invariant.2 in
    let goes = subst (λ (l : List Field). DataContinues octets canonical fields c.args.from c.args.to place left l so_far.0) c.in-Some.ensures.cases.0 so_far.2 in
    (c.loop-field.invariant.0, c.loop-field.invariant.1, (so_far.0, so_far.1, data_passed octets canonical fields c.args.from c.args.to place left c.in-Some.field.now c.in-Some.more.now so_far.0 (sym c.begins_between.ensures.begins ∙ c.if-begins_between.false) goes))

pub returns-clause-text : goal.returns-clause-text
returns-clause-text c =
    let so_far = c.loop-field.invariant.2 in
    let cases = rw c.in_default.is at c.split_first.ensures.cases in
    data_last c.write_data_part-2.result c.args.octets.now c.args.canonical.now c.args.fields.now c.args.from c.args.to c.loop-field.place c.loop-field.left.now c.loop-field.rest.now so_far.0 (take c.args.at c.args.out.now.items) (take c.loop-field.end c.loop-field.out.items) c.write_data_part-2.new.out.items cases so_far.1 so_far.2
    c.write_data_part-2.ensures.text
