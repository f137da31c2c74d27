use Rattle.std.proofs.lemmas.Bool.{iff_false}
use Rattle.bac_tag.proofs.ReadingLemmas.{none_fits, none_there}
use Rattle.bac_tag.proofs.reading.read_one_of.Goals as goal
use Rattle.bac_tag.proofs.reading.read_one_of.Goals.{in-Ok+else-fits_one, in_default}

pub refusal_of_all-requires-clause-none : goal.refusal_of_all-requires-clause-none
refusal_of_all-requires-clause-none c =
    elim c.match-read_head.branch [
      | in-Ok+else-fits_one w ↦ none_fits c.args.expected.now _ _ c.args.octets.now w.in-Ok.ensures.found (iff_false w.fits_one.ensures w.if-fits_one.false)
      | in_default w ↦ none_there c.args.expected.now c.args.octets.now w.in_default.ensures.refused.none
    ]
