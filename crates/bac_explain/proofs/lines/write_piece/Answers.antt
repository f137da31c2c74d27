use Rattle.std.proofs.Common.{take}
use Rattle.bac_explain.specs.Words.{IsSaid}
use Rattle.bac_explain.proofs.LineLemmas.{extended, refused_last, said_piece}
use Rattle.bac_explain.proofs.lines.write_piece.Goals as goal

pub returns-clause-text : goal.returns-clause-text
returns-clause-text c =
    let said = c.in_ok-words.ensures.text in
    said_piece (IsSaid c.args.piece.now c.args.own.now) c.write_end.result c.args.piece.now c.args.own.now (take c.args.at c.args.out.now.items) (take c.in_ok-beginning.beginning c.write_beginning.new.out.items) (take c.in_ok-words.words c.write_said.new.out.items) c.write_end.new.out.items said.0 c.in_ok-beginning.ensures.text said.1 said.2 c.write_end.ensures.text

pub returns-clause-err : goal.returns-clause-err
returns-clause-err c =
    let said = c.in_ok-words.ensures.text in
    refused_last c.write_end.result (take c.args.at c.args.out.now.items) (take c.in_ok-words.words c.write_said.new.out.items) c.write_end.new.out.items
    (extended (take c.args.at c.args.out.now.items) (take c.in_ok-beginning.beginning c.write_beginning.new.out.items) (take c.in_ok-words.words c.write_said.new.out.items) (_, c.in_ok-beginning.ensures.text) (said.0, said.1)) c.write_end.ensures.err
