-- Fields that are all of a frame.
use Rattle.std.specs.Prelude.{◌≡◌, ℕ, true, List, [], ◌++◌, refl}
use Rattle.std.proofs.Common.{sym, ◌∙◌, ap, subst}
use Rattle.bac_npdu_parts.specs.Frames.{FrameValue, SpellsFrame}
use Rattle.bac_field_parts.specs.declared.field.Field.{Field}
use Rattle.bac_field_parts.specs.Symbols.{steps_said, symbols_in}
use Rattle.bac_field_parts.specs.Refused.{EndsWithThem, MadeOfAll}
use Rattle.bac_fields.specs.FrameFields.{frame_steps}
use Rattle.bac_fields.specs.FrameSymbols.{frame_said}
use Rattle.bac_fields.specs.Making.{MadeOf}

pub frames_end : EndsWithThem true frame_said
frames_end = record { is_at_end = refl; last = λ frame. (steps_said (frame_steps frame), refl) }

pub made_of : {octets : List ℕ} {fields : List Field} {old new : List ℕ} → MadeOfAll frame_said SpellsFrame octets fields old new → MadeOf octets fields old new
made_of made = record { frame = made.value; are_fields = made.is_said; appended = made.appended }

-- what is decoded from canonical octets is the frame that was said
pub decoded_said : (octets : List ℕ) (fields : List Field) (frame : FrameValue) (old new read : List ℕ) → old ≡ [] → read ≡ new → MadeOf octets fields old new → SpellsFrame frame read
    → ((f g : FrameValue) (b : List ℕ) → SpellsFrame f b → SpellsFrame g b → f ≡ g) → symbols_in octets fields ≡ frame_said frame
decoded_said octets fields frame old new read nothing same made spelled one =
    let canonical : new ≡ made.appended.more = made.appended.new_is ∙ ap (λ (l : List ℕ). l ++ made.appended.more) nothing in
    let frames : made.frame ≡ frame = one made.frame frame read (subst (SpellsFrame made.frame) (sym (same ∙ canonical)) made.appended.is_least.member) spelled in
    made.are_fields ∙ ap frame_said frames
