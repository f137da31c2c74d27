use Rattle.std.proofs.Common.{◌≡◌, ◌∙◌, sym, ap, false, rules}
use Rattle.bac_pack.specs.Lines.{digits_of, without_blanks}
use Rattle.bac_pack.proofs.DigitLemmas.{without_blanks-none}
use Rattle.bac_pack.proofs.packing.push_line.Goals as goal

pub returns-then-not-contains-clause-ok : goal.returns-then-not-contains-clause-ok
returns-then-not-contains-clause-ok c =
    let none : c.contains.result ≡ false = search rules in
    let same : digits_of c.args.line.now ≡ c.strip_return-octets.result.now =
    ap without_blanks (sym c.strip_return-octets.ensures) ∙ without_blanks-none c.strip_return-octets.result.now (sym c.contains.ensures.value ∙ none) in
    rw same c.push_record.ensures.ok

pub returns-then-not-contains-clause-fault : goal.returns-then-not-contains-clause-fault
returns-then-not-contains-clause-fault c =
    let none : c.contains.result ≡ false = search rules in
    let same : digits_of c.args.line.now ≡ c.strip_return-octets.result.now =
    ap without_blanks (sym c.strip_return-octets.ensures) ∙ without_blanks-none c.strip_return-octets.result.now (sym c.contains.ensures.value ∙ none) in
    rw same c.push_record.ensures.fault
