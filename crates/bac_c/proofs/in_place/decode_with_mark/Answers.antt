use Rattle.std.proofs.Common.{ℕ, sym, subst}
use Rattle.std.specs.Prelude.{Option}
use Rattle.bac_npdu_parts.specs.FrameHeads.{frame_with}
use Rattle.bac_npdu_parts.specs.Frames.{body_value}
use Rattle.bac_c.specs.InPlace.{IsMadeOf}
use Rattle.bac_c.proofs.in_place.decode_with_mark.Goals as goal

pub returns-in-Some : goal.returns-in-Some
returns-in-Some c = λ octets e.
    subst (λ (mark : Option ℕ). IsMadeOf octets c.args.room (frame_with c.args.head.now (body_value c.args.body.now)) mark c.args.fields.now c.decode_tolerated.new.fields c.decode_tolerated.result) (sym c.in-Some.is)
    (c.decode_tolerated.ensures octets c.in-Some.field-0)
