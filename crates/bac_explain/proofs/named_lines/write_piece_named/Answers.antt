use Rattle.std.proofs.Common.{take}
use Rattle.bac_explain.proofs.LineLemmas.{extended, refused_last, said_itself}
use Rattle.bac_explain.proofs.named_lines.write_piece_named.Goals as goal

pub returns-clause-text : goal.returns-clause-text
returns-clause-text c =
    said_itself c.write_end.result c.args.fields.now c.args.piece.now c.args.own.now (take c.args.at c.args.out.now.items) (take c.in_ok-beginning.beginning c.write_beginning.new.out.items) (take c.in_ok-words.words c.write_named.new.out.items) c.write_end.new.out.items c.label_of.result c.label_of.ensures c.in_ok-beginning.ensures.text c.in_ok-words.ensures.text
    c.write_end.ensures.text

pub returns-clause-err : goal.returns-clause-err
returns-clause-err c =
    let said = c.in_ok-words.ensures.text in
    refused_last c.write_end.result (take c.args.at c.args.out.now.items) (take c.in_ok-words.words c.write_named.new.out.items) c.write_end.new.out.items
    (extended (take c.args.at c.args.out.now.items) (take c.in_ok-beginning.beginning c.write_beginning.new.out.items) (take c.in_ok-words.words c.write_named.new.out.items) (_, c.in_ok-beginning.ensures.text) (said.0, said.1)) c.write_end.ensures.err
