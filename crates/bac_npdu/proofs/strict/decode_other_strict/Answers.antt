use Rattle.std.specs.Prelude.{ℕ, Option, refl}
use Rattle.std.proofs.Common.{subst}
use Rattle.bac_tag.specs.Spelling.{HasMark}
use Rattle.bac_npdu_parts.specs.Frames.{SpellsFrame, value_of}
use Rattle.bac_npdu.proofs.strict.decode_other_strict.Goals as goal

pub returns-in-Some : goal.returns-in-Some
returns-in-Some c =
    let f = value_of c.in_ok-frame.frame in
    let e = c.in_ok-frame.ensures in
    let marked = subst (λ (o : Option ℕ). HasMark (SpellsFrame f) c.args.octets.now o) c.in-Some.is e.marked in
    rw c.at.ensures (record { flaw = λ why. (f, e.spelled, marked); refused = λ other. absurd (other refl) })
