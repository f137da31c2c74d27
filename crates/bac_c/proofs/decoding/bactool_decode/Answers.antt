use Rattle.std.proofs.Common.{subst}
use Rattle.bac_c.proofs.FrameLemmas.{short_in_place, whole_in_place}
use Rattle.bac_c.specs.InPlace.{IsInPlaceIfSome}
use Rattle.bac_c.proofs.decoding.bactool_decode.Goals as goal

pub returns-in-Ok-Some-clause-written : goal.returns-in-Ok-Some-clause-written
returns-in-Ok-Some-clause-written c = λ code.
    let found = c.in-Ok-Some in
    let told = c.hand_out_both.ensures in
    whole_in_place c.args.octets.now c.args.out.now c.hand_out_both.new.out c.args.fields.now c.decode_in_place.new.fields found.frame c.hand_out_both.new.outcome (told.ok.0 code)
    (subst (IsInPlaceIfSome c.args.octets.now _ c.args.fields.now c.decode_in_place.new.fields) found.field-0-is found.ensures.made) told.told (told.written (told.ok.0 code))

pub returns-in-Ok-Some-clause-room : goal.returns-in-Ok-Some-clause-room
returns-in-Ok-Some-clause-room c = λ code.
    let found = c.in-Ok-Some in
    let told = c.hand_out_both.ensures in
    short_in_place c.args.octets.now c.args.out.now c.args.fields.now c.decode_in_place.new.fields found.frame c.hand_out_both.new.outcome (told.short.0 code)
    (subst (IsInPlaceIfSome c.args.octets.now _ c.args.fields.now c.decode_in_place.new.fields) found.field-0-is found.ensures.made) told.told
