use Rattle.bac_record.proofs.RoomLemmas.{front_extends}
use Rattle.bac_record.proofs.digits.make_room.Goals as goal

pub returns-in_err-lengthen-clause-err : goal.returns-in_err-lengthen-clause-err
returns-in_err-lengthen-clause-err c = front_extends c.from_residual.result c.args.at c.args.out.now.items c.lengthen.new.out.items c.lengthen.ensures.kept
