use Rattle.std.proofs.Common.{take}
use Rattle.bac_explain.proofs.LineLemmas.{said_unjudged}
use Rattle.bac_explain.proofs.tag_words.write_unjudged.Goals as goal

pub returns-clause-text : goal.returns-clause-text
returns-clause-text c =
    let said = c.in_ok-end.ensures.text in
    said_unjudged c.write_word.result c.args.head c.args.contents.now (take c.args.at c.args.out.now.items) (take c.in_ok-end.end c.write_tag.new.out.items) c.write_word.new.out.items said.0 said.1 said.2 c.write_word.ensures.text
