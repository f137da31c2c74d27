use Rattle.std.specs.Prelude.{drop}
use Rattle.std.proofs.lemmas.List.{take_rest}
use Rattle.bac_lines.proofs.ShownLineLemmas.{refused_line, none_of_rest}
use Rattle.bac_lines.proofs.shown_lines.ShownLinesLineFormPIECE.push.Goals as goal

pub returns-in-Err-clause-fault : goal.returns-in-Err-clause-fault
returns-in-Err-clause-fault c = refused_line c.args.line.now c.strip_return-line.result.now c.args.number c.fault_of.result c.strip_return-line.ensures c.fault_of.ensures

pub fault_of-requires-in-Err-append_octets-clause-none : goal.fault_of-requires-in-Err-append_octets-clause-none
fault_of-requires-in-Err-append_octets-clause-none c =
    none_of_rest c.strip_return-line.result.now (drop c.in-Ok.start c.strip_return-line.result.now) _ c.in-Ok.start c.in-Err-read_refusal.place c.in-Err-append_octets.fault c.farther.result c.after.result c.in-Ok.ensures.only (take_rest c.strip_return-line.result.now c.in-Ok.start) c.farther.ensures c.after.ensures c.in-Err-append_octets.ensures.refused

pub returns-in-Err-append_octets-clause-fault : goal.returns-in-Err-append_octets-clause-fault
returns-in-Err-append_octets-clause-fault c = refused_line c.args.line.now c.strip_return-line.result.now c.args.number c.fault_of-in-Err-append_octets.result c.strip_return-line.ensures c.fault_of-in-Err-append_octets.ensures
