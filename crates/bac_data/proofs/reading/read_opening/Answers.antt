use Rattle.std.proofs.Common.{take, arith}
use Rattle.std.proofs.lemmas.Result.{err_from_is_err_and}
use Rattle.bac_tag.specs.Heads.{Heads}
use Rattle.bac_tag.specs.Laws.Spelling.{IsLeast-one}
use Rattle.bac_tag.specs.declared.heads.TagHead.TheVariants.{Open}
use Rattle.bac_data.proofs.AnyLemmas.{opening_is, refused_opening}
use Rattle.bac_data.proofs.reading.read_opening.Goals as goal

pub returns-then-is_short_opening-clause-within : goal.returns-then-is_short_opening-clause-within
returns-then-is_short_opening-clause-within c = let b = c.is_short_opening.ensures.0 c.if-is_short_opening.true in omega (arith, b.some)

pub returns-then-is_short_opening-clause-opened : goal.returns-then-is_short_opening-clause-opened
returns-then-is_short_opening-clause-opened c = let b = c.is_short_opening.ensures.0 c.if-is_short_opening.true in b.least.member

pub returns-then-is_short_opening-clause-mark : goal.returns-then-is_short_opening-clause-mark
returns-then-is_short_opening-clause-mark c = λ b p. let s = c.is_short_opening.ensures.0 c.if-is_short_opening.true in IsLeast-one (Heads (Open c.args.number)) (take 1 c.args.octets.now) b s.least p

pub returns-in_err-opening-clause-refused : goal.returns-in_err-opening-clause-refused
returns-in_err-opening-clause-refused c =
    let p = err_from_is_err_and c.from_residual.result c.from_residual.ensures.1 in
    rw (p.1, p.2) (refused_opening c.args.number c.args.octets.now _ c.requires c.in_err-opening.ensures.refused)

pub returns-clause-opened : goal.returns-clause-opened
returns-clause-opened c = opening_is c.args.number c.in_ok-opening.opening (take c.in_ok-opening.start c.args.octets.now) c.in_ok-opening.ensures.found.spelled
