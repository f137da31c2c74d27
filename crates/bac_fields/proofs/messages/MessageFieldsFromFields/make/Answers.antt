use Rattle.std.proofs.Common.{◌≡◌, refl, sym, ◌∙◌, ap, arith}
use Rattle.std.proofs.lemmas.Bool.Decides.{nat_tests}
use Rattle.bac_npdu_parts.specs.MessageTypes.{is_typed}
use Rattle.bac_fields.specs.MessageSymbols.{who_is, i_am, could_be, reject, busy, available, table, table_ack, establishing, disconnecting, number_wanted, number_told, plain, vendored}
use Rattle.bac_fields.specs.Laws.Layouts.{message_other_name, layout_made, layout_stopped, told_opaque}
use Rattle.std.specs.Prelude.{Some, true, false}
use Rattle.bac_fields.proofs.messages.MessageFieldsFromFields.make.Goals as goal

pub returns-in-Some-eq0-clause-made : goal.returns-in-Some-eq0-clause-made
returns-in-Some-eq0-clause-made c = layout_made who_is _ _ _ c.make.result c.make.ensures.made

pub returns-in-Some-eq0-clause-stopped : goal.returns-in-Some-eq0-clause-stopped
returns-in-Some-eq0-clause-stopped c = layout_stopped who_is c.args.octets.now c.args.fields.now 0 (sym c.type_in.ensures ∙ c.in-Some-eq0.is ∙ ap Some c.in-Some-eq0.field-0-test) refl c.make.result c.make.ensures.stopped

pub returns-in-Some-eq1-clause-made : goal.returns-in-Some-eq1-clause-made
returns-in-Some-eq1-clause-made c = layout_made i_am _ _ _ c.make-in-Some-eq1.result c.make-in-Some-eq1.ensures.made

pub returns-in-Some-eq1-clause-stopped : goal.returns-in-Some-eq1-clause-stopped
returns-in-Some-eq1-clause-stopped c = layout_stopped i_am c.args.octets.now c.args.fields.now 1 (sym c.type_in.ensures ∙ c.in-Some-eq1.is ∙ ap Some c.in-Some-eq1.field-0-test) refl c.make-in-Some-eq1.result c.make-in-Some-eq1.ensures.stopped

pub returns-in-Some-eq2-clause-made : goal.returns-in-Some-eq2-clause-made
returns-in-Some-eq2-clause-made c = layout_made could_be _ _ _ c.make-in-Some-eq2.result c.make-in-Some-eq2.ensures.made

pub returns-in-Some-eq2-clause-stopped : goal.returns-in-Some-eq2-clause-stopped
returns-in-Some-eq2-clause-stopped c = layout_stopped could_be c.args.octets.now c.args.fields.now 2 (sym c.type_in.ensures ∙ c.in-Some-eq2.is ∙ ap Some c.in-Some-eq2.field-0-test) refl c.make-in-Some-eq2.result c.make-in-Some-eq2.ensures.stopped

pub returns-in-Some-eq3-clause-made : goal.returns-in-Some-eq3-clause-made
returns-in-Some-eq3-clause-made c = layout_made reject _ _ _ c.make-in-Some-eq3.result c.make-in-Some-eq3.ensures.made

pub returns-in-Some-eq3-clause-stopped : goal.returns-in-Some-eq3-clause-stopped
returns-in-Some-eq3-clause-stopped c = layout_stopped reject c.args.octets.now c.args.fields.now 3 (sym c.type_in.ensures ∙ c.in-Some-eq3.is ∙ ap Some c.in-Some-eq3.field-0-test) refl c.make-in-Some-eq3.result c.make-in-Some-eq3.ensures.stopped

pub returns-in-Some-eq4-clause-made : goal.returns-in-Some-eq4-clause-made
returns-in-Some-eq4-clause-made c = layout_made busy _ _ _ c.make-in-Some-eq4.result c.make-in-Some-eq4.ensures.made

pub returns-in-Some-eq4-clause-stopped : goal.returns-in-Some-eq4-clause-stopped
returns-in-Some-eq4-clause-stopped c = layout_stopped busy c.args.octets.now c.args.fields.now 4 (sym c.type_in.ensures ∙ c.in-Some-eq4.is ∙ ap Some c.in-Some-eq4.field-0-test) refl c.make-in-Some-eq4.result c.make-in-Some-eq4.ensures.stopped

pub returns-in-Some-eq5-clause-made : goal.returns-in-Some-eq5-clause-made
returns-in-Some-eq5-clause-made c = layout_made available _ _ _ c.make-in-Some-eq5.result c.make-in-Some-eq5.ensures.made

pub returns-in-Some-eq5-clause-stopped : goal.returns-in-Some-eq5-clause-stopped
returns-in-Some-eq5-clause-stopped c = layout_stopped available c.args.octets.now c.args.fields.now 5 (sym c.type_in.ensures ∙ c.in-Some-eq5.is ∙ ap Some c.in-Some-eq5.field-0-test) refl c.make-in-Some-eq5.result c.make-in-Some-eq5.ensures.stopped

pub returns-in-Some-eq6-clause-made : goal.returns-in-Some-eq6-clause-made
returns-in-Some-eq6-clause-made c = layout_made table _ _ _ c.make-in-Some-eq6.result c.make-in-Some-eq6.ensures.made

pub returns-in-Some-eq6-clause-stopped : goal.returns-in-Some-eq6-clause-stopped
returns-in-Some-eq6-clause-stopped c = layout_stopped table c.args.octets.now c.args.fields.now 6 (sym c.type_in.ensures ∙ c.in-Some-eq6.is ∙ ap Some c.in-Some-eq6.field-0-test) refl c.make-in-Some-eq6.result c.make-in-Some-eq6.ensures.stopped

pub returns-in-Some-eq7-clause-made : goal.returns-in-Some-eq7-clause-made
returns-in-Some-eq7-clause-made c = layout_made table_ack _ _ _ c.make-in-Some-eq7.result c.make-in-Some-eq7.ensures.made

pub returns-in-Some-eq7-clause-stopped : goal.returns-in-Some-eq7-clause-stopped
returns-in-Some-eq7-clause-stopped c = layout_stopped table_ack c.args.octets.now c.args.fields.now 7 (sym c.type_in.ensures ∙ c.in-Some-eq7.is ∙ ap Some c.in-Some-eq7.field-0-test) refl c.make-in-Some-eq7.result c.make-in-Some-eq7.ensures.stopped

pub returns-in-Some-eq8-clause-made : goal.returns-in-Some-eq8-clause-made
returns-in-Some-eq8-clause-made c = layout_made establishing _ _ _ c.make-in-Some-eq8.result c.make-in-Some-eq8.ensures.made

pub returns-in-Some-eq8-clause-stopped : goal.returns-in-Some-eq8-clause-stopped
returns-in-Some-eq8-clause-stopped c = layout_stopped establishing c.args.octets.now c.args.fields.now 8 (sym c.type_in.ensures ∙ c.in-Some-eq8.is ∙ ap Some c.in-Some-eq8.field-0-test) refl c.make-in-Some-eq8.result c.make-in-Some-eq8.ensures.stopped

pub returns-in-Some-eq9-clause-made : goal.returns-in-Some-eq9-clause-made
returns-in-Some-eq9-clause-made c = layout_made disconnecting _ _ _ c.make-in-Some-eq9.result c.make-in-Some-eq9.ensures.made

pub returns-in-Some-eq9-clause-stopped : goal.returns-in-Some-eq9-clause-stopped
returns-in-Some-eq9-clause-stopped c = layout_stopped disconnecting c.args.octets.now c.args.fields.now 9 (sym c.type_in.ensures ∙ c.in-Some-eq9.is ∙ ap Some c.in-Some-eq9.field-0-test) refl c.make-in-Some-eq9.result c.make-in-Some-eq9.ensures.stopped

pub returns-in-Some-eq18-clause-made : goal.returns-in-Some-eq18-clause-made
returns-in-Some-eq18-clause-made c = layout_made number_wanted _ _ _ c.make-in-Some-eq18.result c.make-in-Some-eq18.ensures.made

pub returns-in-Some-eq18-clause-stopped : goal.returns-in-Some-eq18-clause-stopped
returns-in-Some-eq18-clause-stopped c = layout_stopped number_wanted c.args.octets.now c.args.fields.now 18 (sym c.type_in.ensures ∙ c.in-Some-eq18.is ∙ ap Some c.in-Some-eq18.field-0-test) refl c.make-in-Some-eq18.result c.make-in-Some-eq18.ensures.stopped

pub returns-in-Some-eq19-clause-made : goal.returns-in-Some-eq19-clause-made
returns-in-Some-eq19-clause-made c = layout_made number_told _ _ _ c.make-in-Some-eq19.result c.make-in-Some-eq19.ensures.made

pub returns-in-Some-eq19-clause-stopped : goal.returns-in-Some-eq19-clause-stopped
returns-in-Some-eq19-clause-stopped c = layout_stopped number_told c.args.octets.now c.args.fields.now 19 (sym c.type_in.ensures ∙ c.in-Some-eq19.is ∙ ap Some c.in-Some-eq19.field-0-test) refl c.make-in-Some-eq19.result c.make-in-Some-eq19.ensures.stopped

pub returns-then-has_vendor-clause-made : goal.returns-then-has_vendor-clause-made
returns-then-has_vendor-clause-made c = layout_made vendored _ _ _ c.make-then-has_vendor.result c.make-then-has_vendor.ensures.made

pub returns-then-has_vendor-clause-stopped : goal.returns-then-has_vendor-clause-stopped
returns-then-has_vendor-clause-stopped c =
    let untyped : is_typed c.in-Some.kind ≡ false = grind (arith, nat_tests, c.in-Some.kind-test) in
    let told = told_opaque true c.in-Some.kind untyped (sym c.has_vendor.ensures ∙ c.if-has_vendor.true) in
    layout_stopped vendored c.args.octets.now c.args.fields.now c.in-Some.kind (sym c.type_in.ensures ∙ c.in-Some.is) told c.make-then-has_vendor.result c.make-then-has_vendor.ensures.stopped

pub returns-else-has_vendor-clause-made : goal.returns-else-has_vendor-clause-made
returns-else-has_vendor-clause-made c = layout_made plain _ _ _ c.make-else-has_vendor.result c.make-else-has_vendor.ensures.made

pub returns-else-has_vendor-clause-stopped : goal.returns-else-has_vendor-clause-stopped
returns-else-has_vendor-clause-stopped c =
    let untyped : is_typed c.in-Some.kind ≡ false = grind (arith, nat_tests, c.in-Some.kind-test) in
    let told = told_opaque false c.in-Some.kind untyped (sym c.has_vendor.ensures ∙ c.if-has_vendor.false) in
    layout_stopped plain c.args.octets.now c.args.fields.now c.in-Some.kind (sym c.type_in.ensures ∙ c.in-Some.is) told c.make-else-has_vendor.result c.make-else-has_vendor.ensures.stopped

pub returns-in-None-clause-stopped : goal.returns-in-None-clause-stopped
returns-in-None-clause-stopped c = rw c.at.ensures (message_other_name c.args.octets.now c.args.fields.now (sym c.type_in.ensures ∙ c.in-None.is))
