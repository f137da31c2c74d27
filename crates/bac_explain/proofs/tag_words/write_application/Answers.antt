use Rattle.std.proofs.Common.{◌≡◌, ◌∙◌, true, false, sym, take}
use Rattle.bac_explain.proofs.LineLemmas.{said_value, said_type}
use Rattle.bac_explain.proofs.tag_words.write_application.Goals as goal

pub returns-then-is_value-clause-text : goal.returns-then-is_value-clause-text
returns-then-is_value-clause-text c =
    let is = c.is_value.ensures.0 c.if-is_value.true in
    said_value c.args.number c.args.len c.args.contents.now (take c.args.at c.args.out.now.items) c.write_primitive.new.out.items c.write_primitive.result _ is (c.of_contents.ensures.value is.2.value is.2.spelled) c.write_primitive.ensures.text

pub returns-else-is_value-clause-text : goal.returns-else-is_value-clause-text
returns-else-is_value-clause-text c =
    said_type c.args.number c.args.len c.args.contents.now (take c.args.at c.args.out.now.items) c.write_type.new.out.items c.write_type.result (λ is. absurd (let i : false ≡ true = sym c.if-is_value.false ∙ c.is_value.ensures.1 is in cc)) c.write_type.ensures.text
