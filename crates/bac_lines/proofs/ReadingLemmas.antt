-- What a line is read as is the frame whose line it is, and the line of each frame is read.
use Rattle.std.specs.Prelude.{◌≡◌, ◌≢◌, ℕ, Bool, true, false, List, [], ◌∷◌, ◌++◌, refl}
use Rattle.std.proofs.Common.{◌∙◌, sym, ap, subst}
use Rattle.std.proofs.lemmas.List.{append_cancel_right}
use Rattle.bac_tag.specs.Spelling.{IsLeast}
use Rattle.bac_tag.specs.Laws.Spelling.{IsLeast-one}
use Rattle.bac_npdu_parts.specs.Frames.{FrameValue, SpellsFrame}
use Rattle.bac_npdu.proofs.FrameOctets.{frame as frame_octets}
use Rattle.bac_text.specs.FrameText.{text}
use Rattle.bac_field_parts.specs.declared.field.Field.{Field}
use Rattle.bac_field_parts.specs.declared.field_refusal.FieldRefusal.{FieldRefusal}
use Rattle.bac_field_parts.specs.declared.field_refusal.FieldWhy.TheVariants.{OutOfMemory}
use Rattle.bac_field_parts.specs.Fields.{FieldValue, Step, next, aside, pass, fields_of, held_field}
use Rattle.bac_fields.specs.FrameFields.{fields, frame_steps}
use Rattle.bac_fields.specs.Line.{printed}
use Rattle.bac_fields.specs.Making.{AreFieldsOf, MadeOf, IsFieldRefusal}
use Rattle.bac_field_parts.specs.Symbols.{Symbol, field_said, steps_said, symbols_in, finished}
use Rattle.bac_lines.specs.declared.said.Said.{Said}
use Rattle.bac_lines.specs.Lines.{IsRead, IsOnlyLine, IsOnlyFrame, IsNoLine, IsFrame, SaysFrame}
use Rattle.bac_lines.specs.Scanning.{AreTokens}
use Rattle.bac_lines.specs.Found.{fields_said, AreScanned}
use Rattle.bac_lines.proofs.FrameTokens.{frame_tokens}
use Rattle.bac_lines.proofs.PrintedLemmas.{same_printed}

-- ---- the octets of a line

abbrev pub OneValue : Type 0
OneValue = (f g : FrameValue) (b : List ℕ) → SpellsFrame f b → SpellsFrame g b → f ≡ g

-- the frame that the octets of a line spell, where nothing was there before
pub frame_read : (line old new slice : List ℕ) (frame : FrameValue) → OneValue → old ≡ [] → IsRead line old new → slice ≡ new → SpellsFrame frame slice → (line ≡ text frame) × IsFrame frame
frame_read line old new slice frame one empty read same s =
    let more_is : slice ≡ read.appended.more = same ∙ read.appended.new_is ∙ ap (λ (l : List ℕ). l ++ read.appended.more) empty in
    (read.is_line ∙ ap text (one read.frame frame read.appended.more read.appended.is_least.member (subst (SpellsFrame frame) more_is s)), (slice, s))

-- and it is each frame whose line it is
pub frame_only : (line old new slice : List ℕ) (frame : FrameValue) → OneValue → old ≡ [] → IsOnlyLine line old new → slice ≡ new → SpellsFrame frame slice → IsOnlyFrame line frame
frame_only line old new slice frame one empty only same s other octets least is_line =
    let is : slice ≡ octets = same ∙ only other octets least is_line ∙ ap (λ (l : List ℕ). l ++ octets) empty in
    one other frame octets least.member (subst (SpellsFrame frame) is s)

-- ---- what is made

pub told : (steps : List Step) → fields_said (fields_of steps) ≡ steps_said steps
told [] = refl
told (next v ∷ steps) = ap (λ (l : List Symbol). field_said v ++ l) (told steps)
told (aside n name number ∷ steps) = ap (λ (l : List Symbol). field_said (held_field name number) ++ l) (told steps)
told (pass n ∷ steps) = told steps

made_line : (line held : List ℕ) (listed : List Field) (said : Said) (scanned : AreScanned line said) (same : symbols_in held listed ≡ symbols_in said.contents.items said.fields.items) (f : FrameValue) (c : List ℕ)
    → ((f : FrameValue) (b : List ℕ) → SpellsFrame f b → printed (fields f) ≡ text f) → IsLeast (SpellsFrame f) c → AreFieldsOf held listed f → line ≡ text f
made_line line held listed said scanned same f c prints least are =
    let say : fields_said scanned.fields ++ finished ∷ [] ≡ fields_said (fields f) ++ finished ∷ [] =
    sym scanned.are_said ∙ sym same ∙ are ∙ ap (λ (l : List Symbol). l ++ finished ∷ []) (sym (told (frame_steps f))) in
    let said_same = append_cancel_right (fields_said scanned.fields) (fields_said (fields f)) (finished ∷ []) say in
    scanned.is_line ∙ same_printed [] scanned.fields (fields f) scanned.tokens (frame_tokens f c least (frame_octets f c least.member)) said_same ∙ prints f c least.member

-- The line is that of the frame that was made: no other line of fields says the same.
pub read_of : (line held old new : List ℕ) (listed : List Field) (said : Said) → AreScanned line said → held ≡ said.contents.items → listed ≡ said.fields.items
    → ((f : FrameValue) (b : List ℕ) → SpellsFrame f b → printed (fields f) ≡ text f) → MadeOf held listed old new → IsRead line old new
read_of line held old new listed said scanned contents_are fields_are prints made =
    let same = ap (λ (l : List Field). symbols_in held l) fields_are ∙ ap (λ (l : List ℕ). symbols_in l said.fields.items) contents_are in
    record { frame = made.frame; is_line = made_line line held listed said scanned same made.frame made.appended.more prints made.appended.is_least made.are_fields; appended = made.appended }

-- so the fields are those of that frame
pub says_of : (line held old new : List ℕ) (listed : List Field) (said : Said) → AreScanned line said → held ≡ said.contents.items → listed ≡ said.fields.items
    → ((f : FrameValue) (b : List ℕ) → SpellsFrame f b → printed (fields f) ≡ text f) → MadeOf held listed old new → SaysFrame line said.contents.items said.fields.items
says_of line held old new listed said scanned contents_are fields_are prints made =
    let same = ap (λ (l : List Field). symbols_in held l) fields_are ∙ ap (λ (l : List ℕ). symbols_in l said.fields.items) contents_are in
    record {
      frame = made.frame;
      is_frame = (made.appended.more, made.appended.is_least.member);
      is_line = made_line line held listed said scanned same made.frame made.appended.more prints made.appended.is_least made.are_fields;
      are_fields = sym same ∙ made.are_fields;
    }

-- ---- what is found

-- fields that are those of no frame are not all those of one
never_refused : (f : FrameValue) (c contents : List ℕ) (said : List Field) (refusal : FieldRefusal) → SpellsFrame f c → AreFieldsOf contents said f → refusal.why ≢ OutOfMemory → IsFieldRefusal contents said refusal → ⊥
never_refused f c contents said refusal s are other r =
    (r.stopped other).none (f, record { octets = c; spelled = s; is_said = are })

-- a line that is scanned
module _ (line contents : List ℕ) (said : List Field) (whole : Bool)
    (found : (vs : List FieldValue) → AreTokens [] vs → line ≡ printed vs → (whole ≡ true) × (symbols_in contents said ≡ fields_said vs ++ finished ∷ []))
    (prints : (f : FrameValue) (b : List ℕ) → SpellsFrame f b → printed (fields f) ≡ text f) where
  -- the fields of a frame whose line it is
  fields_found : (f : FrameValue) (c : List ℕ) → IsLeast (SpellsFrame f) c → line ≡ text f → (whole ≡ true) × AreFieldsOf contents said f
  fields_found f c least is_line =
      let h = found (fields f) (frame_tokens f c least (frame_octets f c least.member)) (is_line ∙ sym (prints f c least.member)) in
      (h.0, h.1 ∙ ap (λ (l : List Symbol). l ++ finished ∷ []) (told (frame_steps f)))

  pub not_whole : whole ≡ false → IsNoLine line
  not_whole none f c least is_line = let h : true ≡ false = sym (fields_found f c least is_line).0 ∙ none in absurd (cc)

  -- what makes the frame sees the same fields
  module _ (held : List ℕ) (listed : List Field) (contents_are : held ≡ contents) (fields_are : listed ≡ said) where
    listed_found : (f : FrameValue) (c : List ℕ) → IsLeast (SpellsFrame f) c → line ≡ text f → AreFieldsOf held listed f
    listed_found f c least is_line =
        ap (λ (l : List Field). symbols_in held l) fields_are ∙ ap (λ (l : List ℕ). symbols_in l said) contents_are ∙ (fields_found f c least is_line).1

    pub no_refusal : (refusal : FieldRefusal) → refusal.why ≢ OutOfMemory → IsFieldRefusal held listed refusal → IsNoLine line
    no_refusal refusal other r f c least is_line = never_refused f c held listed refusal least.member (listed_found f c least is_line) other r

    -- what is made is each frame whose line it is
    pub only_line : ((octets : List ℕ) (l : List Field) (f g : FrameValue) (b c : List ℕ) → SpellsFrame f b → SpellsFrame g c → AreFieldsOf octets l f → AreFieldsOf octets l g → f ≡ g)
        → (old new : List ℕ) → MadeOf held listed old new → IsOnlyLine line old new
    only_line one old new made f c least is_line =
        let more = made.appended.more in
        let same = one held listed f made.frame c more least.member made.appended.is_least.member (listed_found f c least is_line) made.are_fields in
        let is : c ≡ more = IsLeast-one (SpellsFrame f) c more least (subst (λ (g : FrameValue). IsLeast (SpellsFrame g) more) (sym same) made.appended.is_least) in
        made.appended.new_is ∙ ap (λ (l : List ℕ). old ++ l) (sym is)
