-- What is made of a frame.
use Rattle.std.proofs.Common.{◌≡◌, ◌⊎◌, ℕ, ◌+◌, ◌*◌, ◌^◌, ◌<◌, ◌≤◌, Bool, true, false, List, [], ◌++◌, length, refl, sym, ap, subst, ◌∙◌, inl, inr, arith}
use Rattle.std.specs.Prelude.{Option, None, Some, Result, Ok, Err, IfOk, IsTrue}
use Rattle.bac_tag.specs.Spelling.{IsLeast, HasMark, AppendsLeast}
use Rattle.bac_npdu_parts.specs.Frames.{FrameValue, SpellsFrame}
use Rattle.bac_npdu_parts.specs.Decoded.{IsMade}
use Rattle.bac_field_parts.specs.declared.field.Field.{Field}
use Rattle.bac_fields.specs.FrameFields.{placed_fields, FrameFits}
use Rattle.bac_c.specs.declared.outcomes.Outcome.{Outcome}
use Rattle.bac_c.specs.declared.in_place.Decoded.{Decoded}
use Rattle.bac_c.specs.Outcomes.{IsTold, IsDecoded, LacksEither, IsFront, decoded}
use Rattle.bac_c.specs.InPlace.{octets_or, HasRoomFor, IsFilled, IsInPlace, IsInPlaceIfSome, IsFilledIf, IsCanonicalIf, IsMadeOf, IsMadeOfSome}

-- what is appended to nothing
pub least_alone : (S : List ℕ → Type 0) (old new : List ℕ) → old ≡ [] → AppendsLeast S old new → IsLeast S new
least_alone S old new none a = subst (IsLeast S) (sym (a.new_is ∙ ap (λ l. l ++ a.more) none)) a.is_least

-- octets without a mark are the least ones, and else those that were made are
canonical_by : (frame : FrameValue) (octets : List ℕ) (mark : Option ℕ) (canonical : List ℕ) → HasMark (SpellsFrame frame) octets mark → IsCanonicalIf frame octets mark canonical → IsLeast (SpellsFrame frame) canonical
canonical_by frame octets None canonical marked is = subst (IsLeast (SpellsFrame frame)) (sym marked.is_mark ∙ sym is) marked.is_least
canonical_by frame octets (Some place) canonical marked is = is

-- nothing is made of a frame that was spelled otherwise where a number of its fields has no room
pub unfit_made : (octets : List ℕ) (room : ℕ) (frame : FrameValue) (place : ℕ) (canonical : List ℕ) (size : ℕ) (was are : List Field) → IsLeast (SpellsFrame frame) canonical → size ≡ length canonical
    → (are ≡ was) ⊎ (HasRoomFor size was × (FrameFits frame → ⊥)) → IsMadeOf octets room frame (Some place) was are None
unfit_made octets room frame place canonical size was are least count (inl same) = inl same
unfit_made octets room frame place canonical size was are least count (inr unfit) = inr (canonical, least, subst (λ (n : ℕ). HasRoomFor n was) count unfit.0, unfit.1)

-- what is made where a frame is visited
pub made_where_visited : {P E : Type 0} (makes : FrameValue → Option ℕ → P → P → Option Decoded → Type 0) (old new : P) (octets : List ℕ) (room : ℕ) (was are : List Field) (result : Result (Option Decoded) E)
    → IfOk result (IsMade makes octets old new) → ((value : FrameValue) (mark : Option ℕ) (made : Option Decoded) → makes value mark old new made → IsMadeOf octets room value mark was are made)
    → IfOk result (λ made. IsMadeOfSome octets room was are made)
made_where_visited makes old new octets room was are (Ok made) m says = (m.value, m.mark, m.spelled, m.marked, says m.value m.mark made m.made_of)
made_where_visited makes old new octets room was are (Err e) m says = tt

module _ (few : (f : FrameValue) (c : List ℕ) → IsLeast (SpellsFrame f) c → length (placed_fields f) ≤ 2 * length c + 2) (fits : (f : FrameValue) (c : List ℕ) → IsLeast (SpellsFrame f) c → 2 * length c + 2 < 2 ^ 64 → FrameFits f) where
  -- there is room for all fields of the frame
  filled_by : (canonical : List ℕ) (room : ℕ) (frame : FrameValue) (was are : List Field) (written : Bool) → IsLeast (SpellsFrame frame) canonical → IsFilledIf (length canonical) room frame was are written
      → IsFilled (length canonical) room frame was are written
  filled_by canonical room frame was are true least (within, inl fit, front) = (within, front fit)
  filled_by canonical room frame was are true least (within, inr roomy, front) = (within, front (omega (arith, few frame canonical least, roomy.0)))
  filled_by canonical room frame was are false least p = p

  made_in_place : (octets : List ℕ) (room : ℕ) (was are : List Field) (made : Option Decoded) → IsMadeOfSome octets room was are made → IsInPlaceIfSome octets room was are made
  made_in_place octets room was are None (frame, mark, spelled, marked, inl same) = (same, (frame, spelled))
  made_in_place octets room was are None (frame, mark, spelled, marked, inr unfit) = absurd (unfit.3 (fits frame unfit.0 (canonical_by frame octets mark unfit.0 marked unfit.1) (omega (arith, unfit.2))))
  made_in_place octets room was are (Some d) (frame, mark, spelled, marked, made) =
      let canonical = octets_or octets d.canonical in
      let least = canonical_by frame octets mark canonical marked made.0 in
      record { frame = frame; spelled = spelled; is_least = least; count = made.1; filled = filled_by canonical room frame was are d.are_written least made.2 }

  pub result_in_place : {E : Type 0} (octets : List ℕ) (room : ℕ) (was are : List Field) (result : Result (Option Decoded) E) → IfOk result (λ made. IsMadeOfSome octets room was are made) → IfOk result (λ made. IsInPlaceIfSome octets room was are made)
  result_in_place octets room was are (Ok made) p = made_in_place octets room was are made p
  result_in_place octets room was are (Err e) p = tt

told_of : (octets : List ℕ) (room : ℕ) (was are : List Field) (made : Decoded) (outcome : Outcome) (p : IsInPlace octets room was are made) → outcome ≡ decoded (length (octets_or octets made.canonical)) made.count
    → IsTold octets (octets_or octets made.canonical) (placed_fields p.frame) outcome
told_of octets room was are made outcome p e =
    record { frame = p.frame; spelled = p.spelled; is_least = p.is_least; fields_are = refl; told = e ∙ ap (decoded (length (octets_or octets made.canonical))) p.count }

-- what is told: one of the two rooms is too short,
pub short_in_place : (octets out : List ℕ) (was are : List Field) (made : Decoded) (outcome : Outcome) → made.are_written ≡ false → IsInPlace octets (length out) was are made → outcome ≡ decoded (length (octets_or octets made.canonical)) made.count
    → LacksEither octets out was outcome
short_in_place octets out was are made outcome short p e =
    let canonical = octets_or octets made.canonical in
    let filled : IsFilled (length canonical) (length out) p.frame was are false = subst (IsFilled (length canonical) (length out) p.frame was are) short p.filled in
    record { canonical = canonical; fields = placed_fields p.frame; of_frame = told_of octets (length out) was are made outcome p e; lacking = filled.0 }

-- or both are written
pub whole_in_place : (octets out new : List ℕ) (was are : List Field) (made : Decoded) (outcome : Outcome) → IsTrue made.are_written → IsInPlace octets (length out) was are made → outcome ≡ decoded (length (octets_or octets made.canonical)) made.count
    → (length (octets_or octets made.canonical) ≤ length out → IsFront (octets_or octets made.canonical) out new) → IsDecoded octets out new was are outcome
whole_in_place octets out new was are made outcome whole p e written =
    let canonical = octets_or octets made.canonical in
    let filled : IsFilled (length canonical) (length out) p.frame was are true = subst (IsFilled (length canonical) (length out) p.frame was are) whole p.filled in
    record { canonical = canonical; fields = placed_fields p.frame; of_frame = told_of octets (length out) was are made outcome p e; new_is = written filled.0; fields_are = filled.1 }
