use Rattle.std.proofs.Common.{take}
use Rattle.bac_explain.specs.NamedLines.{IsSaidBeside}
use Rattle.bac_explain.proofs.LineLemmas.{extended, refused_last, said_piece}
use Rattle.bac_explain.proofs.named_lines.write_piece_beside.Goals as goal

pub returns-clause-text : goal.returns-clause-text
returns-clause-text c =
    let said = c.in_ok-words.ensures.text in
    said_piece (IsSaidBeside c.args.fields.now c.args.piece.now c.args.own.now c.args.other.now c.args.canonical.now) c.write_end.result c.args.piece.now c.args.own.now (take c.args.at c.args.out.now.items) (take c.in_ok-beginning.beginning c.write_beginning.new.out.items) (take c.in_ok-words.words c.write_beside.new.out.items) c.write_end.new.out.items said.0 c.in_ok-beginning.ensures.text said.1 said.2 c.write_end.ensures.text

pub returns-clause-err : goal.returns-clause-err
returns-clause-err c =
    let said = c.in_ok-words.ensures.text in
    refused_last c.write_end.result (take c.args.at c.args.out.now.items) (take c.in_ok-words.words c.write_beside.new.out.items) c.write_end.new.out.items
    (extended (take c.args.at c.args.out.now.items) (take c.in_ok-beginning.beginning c.write_beginning.new.out.items) (take c.in_ok-words.words c.write_beside.new.out.items) (_, c.in_ok-beginning.ensures.text) (said.0, said.1)) c.write_end.ensures.err
