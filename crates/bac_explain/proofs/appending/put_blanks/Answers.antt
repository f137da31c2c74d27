use Rattle.std.proofs.Common.{arith}
use Rattle.bac_explain.proofs.LineLemmas.{first_blanks}
use Rattle.bac_explain.proofs.appending.put_blanks.Goals as goal

pub returns-clause-text : goal.returns-clause-text
returns-clause-text c = first_blanks c.args.at c.args.count c.put_word.result c.args.room.now c.put_word.new.room (omega (arith, c.requires.room)) c.requires.few c.put_word.ensures.end c.put_word.ensures.text
