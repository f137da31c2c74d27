use Rattle.std.proofs.Common.{◌-◌, length, take, drop, subst}
use Rattle.std.proofs.lemmas.List.{take_rest}
use Rattle.bac_pack.specs.Lines.{IsUnbroken}
use Rattle.bac_pack.specs.Packing.{EndsAt}
use Rattle.bac_pack.proofs.LineEnds.{first_tells, ends_behind, unbroken_behind}
use Rattle.bac_pack.proofs.lines.line_end.Goals as goal

pub returns-in-Some : goal.returns-in-Some
returns-in-Some c =
    let octets = c.args.octets.now in
    let found = rw c.in-Some.is at (first_tells (take (length octets - c.args.passed) (drop c.args.passed octets)) c.memchr.result c.memchr.ensures) in
    ends_behind octets c.args.passed c.in-Some.behind c.requires.within c.requires.passed
    (subst (λ l. EndsAt l c.in-Some.behind) (take_rest octets c.args.passed) found)

pub returns-in-None : goal.returns-in-None
returns-in-None c =
    let octets = c.args.octets.now in
    let found = rw c.in-None.is at (first_tells (take (length octets - c.args.passed) (drop c.args.passed octets)) c.memchr.result c.memchr.ensures) in
    unbroken_behind octets c.args.passed c.requires.passed (subst IsUnbroken (take_rest octets c.args.passed) found)
