use Rattle.std.proofs.lemmas.List.{take_rest}
use Rattle.bac_tag.proofs.LengthLemmas.{hopeless_wide, refused_wide, found_wide}
use Rattle.bac_tag.proofs.reading.read_wide_length.Goals as goal

pub returns-then-least-gt65535-clause-refused : goal.returns-then-least-gt65535-clause-refused
returns-then-least-gt65535-clause-refused c =
    rw c.at.ensures (hopeless_wide c.args.width c.args.least c.args.most c.args.octets.now _ c.requires.range c.ranges.least.fits (λ e. cc) c.requires.some c.requires.wide c.if-width-eq2.true c.if-least-gt65535.true)

pub returns-in-Err-clause-refused : goal.returns-in-Err-clause-refused
returns-in-Err-clause-refused c =
    rw c.behind.ensures (refused_wide c.args.width c.args.least c.args.most c.args.octets.now c.in-Err.refusal c.requires.some c.requires.wide (rw (c.from.ensures, c.from-2.ensures, take_rest) at c.in-Err.ensures.refused))

pub returns-in-Ok-clause-found : goal.returns-in-Ok-clause-found
returns-in-Ok-clause-found c =
    found_wide c.args.width c.args.least c.args.most c.in-Ok.len c.args.octets.now c.requires.some c.requires.wide (rw (c.from.ensures, c.from-2.ensures, take_rest) at c.in-Ok.ensures.found)
