-- What the calls for C tell.
use Rattle.std.proofs.Common.{◌≡◌, ◌≢◌, ◌↔◌, ◌⊎◌, ℕ, List, refl, subst, inl, inr, ap₂, ◌∙◌}
use Rattle.std.specs.Prelude.{Bool, Option, Some, Result, Ok, Err, IfErr, IsTrue}
use Rattle.bac_tag.specs.declared.refusals.Refusal.{Refusal}
use Rattle.bac_tag.specs.declared.refusals.Why.{Why}
use Rattle.bac_tag.specs.declared.refusals.Why.TheVariants.{Version, Address, PduType, Window, NotCanonical, OutOfMemory}
use Rattle.bac_tag.specs.Spelling.{IsSpelling, IsWholeRefusal, HasMark}
use Rattle.bac_npdu_parts.specs.Heads.{IsVersionPlace, IsAddressPlace}
use Rattle.bac_npdu_parts.specs.Frames.{FrameValue, SpellsFrame}
use Rattle.bac_npdu_parts.specs.Decoded.{IsPduTypePlace, IsFrameWindowPlace, IsFrameReason}
use Rattle.bac_npdu.specs.Meanings.{IsShortOfMemory}
use Rattle.bac_npdu.specs.declared.meaning.Side.{Side}
use Rattle.bac_npdu.specs.declared.meaning.Side.TheVariants.{Left, Right}
use Rattle.bac_c.specs.declared.outcomes.Outcome.{Outcome}
use Rattle.bac_c.specs.Outcomes.{IsHopeless, IsRefusedBy, refused_as, without_memory}

-- what decoding says of a refusal
pub hopeless : (octets : List ℕ) (refusal : Refusal) → refusal.why ≢ OutOfMemory → IsWholeRefusal SpellsFrame octets refusal
    → (refusal.why ≡ Version) ↔ IsVersionPlace octets refusal.place → (refusal.why ≡ Address) ↔ IsAddressPlace octets refusal.place
    → (refusal.why ≡ PduType) ↔ IsPduTypePlace octets refusal.place → (refusal.why ≡ Window) ↔ IsFrameWindowPlace octets refusal.place
    → IsFrameReason refusal.why → IsHopeless octets refusal
hopeless octets refusal memory refused versions addresses types windows reasons = record {
  refused = refused;
  reasoned = record { of_version = versions; of_address = addresses; of_type = types; of_window = windows; others = reasons };
  memory = memory;
}

-- the same, of what a call returns
pub hopeless_result : {X : Type 0} (octets : List ℕ) (result : Result X Refusal) → IfErr result (λ refusal. refusal.why ≢ OutOfMemory → IsWholeRefusal SpellsFrame octets refusal)
    → IfErr result (λ refusal. (refusal.why ≡ Version) ↔ IsVersionPlace octets refusal.place) → IfErr result (λ refusal. (refusal.why ≡ Address) ↔ IsAddressPlace octets refusal.place)
    → IfErr result (λ refusal. (refusal.why ≡ PduType) ↔ IsPduTypePlace octets refusal.place) → IfErr result (λ refusal. (refusal.why ≡ Window) ↔ IsFrameWindowPlace octets refusal.place)
    → IfErr result (λ refusal. IsFrameReason refusal.why) → IfErr result (λ refusal. refusal.why ≢ OutOfMemory → IsHopeless octets refusal)
hopeless_result octets (Ok x) refused versions addresses types windows reasons = tt
hopeless_result octets (Err refusal) refused versions addresses types windows reasons = λ memory. hopeless octets refusal memory (refused memory) versions addresses types windows reasons

-- where only canonical octets are asked for: what is said of others
pub flawed : (strict : Bool) (octets : List ℕ) (refusal : Refusal) (frame : FrameValue) (mark : Option ℕ) (place : ℕ) → IsTrue strict → SpellsFrame frame octets → HasMark (SpellsFrame frame) octets mark
    → mark ≡ Some place → refusal ≡ record { place = place; why = NotCanonical } → IsRefusedBy strict octets refusal
flawed strict octets refusal frame mark place asked spelled marked some is =
    rw is (inr (asked, ((frame, spelled, subst (HasMark (SpellsFrame frame) octets) some marked), refl)))

-- what C is told where memory was refused
pub without : (outcome : Outcome) (refusal : Refusal) → outcome ≡ refused_as refusal → refusal.why ≡ OutOfMemory → refusal.place ≡ 0 → outcome ≡ without_memory
without outcome refusal told why place = told ∙ ap₂ (λ (w : Why) (p : ℕ). refused_as (record { place = p; why = w })) why place

-- of which of two inputs memory was refused
pub short_sides : (side : Side) (left right : List ℕ) (refusal : Refusal) → refusal.why ≡ OutOfMemory
    → (side ≡ Left → refusal.why ≡ OutOfMemory → (refusal.place ≡ 0) × IsShortOfMemory left)
    → (side ≡ Right → refusal.why ≡ OutOfMemory → (refusal.place ≡ 0) × IsSpelling SpellsFrame left × IsShortOfMemory right)
    → (refusal.place ≡ 0) × (IsShortOfMemory left ⊎ (IsSpelling SpellsFrame left × IsShortOfMemory right))
short_sides Left left right refusal why of_left of_right = let short = of_left refl why in (short.0, inl short.1)
short_sides Right left right refusal why of_left of_right = let short = of_right refl why in (short.0, inr (short.1, short.2))
