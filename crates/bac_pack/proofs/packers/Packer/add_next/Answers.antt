use Rattle.std.proofs.Common.{arith}
use Rattle.std.proofs.lemmas.Result.{err_from_is_err_and}
use Rattle.bac_pack.proofs.PackingLemmas.{found_next}
use Rattle.bac_pack.proofs.packers.Packer.add_next.Goals as goal

pub returns-in_err-add-clause-fault : goal.returns-in_err-add-clause-fault
returns-in_err-add-clause-fault g c =
    let p = err_from_is_err_and c.from_residual.result c.from_residual.ensures.1 in
    rw (p.1, p.2) (found_next g.L.LineForm.refuses g.L.LineForm.LONGEST c.args.self.now.lines c.args.octets.now c.in-Some.end _ (rw c.in-Some.is at c.line_end.ensures) c.requires.room (omega arith) c.in_err-add.ensures.fault)
