-- What the steps of decoding a frame give. These definitions are for the functions below decode_frame, decode_marked and
-- decode_strict.
use Rattle.std.specs.Prelude.{◌≡◌, ◌≢◌, ℕ, ◌%◌, Bool, Option, Some, List, Result, Ok, Err}
use Rattle.bac_tag.specs.declared.refusals.Refusal.{Refusal}
use Rattle.bac_tag.specs.declared.refusals.Why.TheVariants.{NotCanonical}
use Rattle.bac_tag.specs.HeadOctets.{HasBit}
use Rattle.bac_tag.specs.Octets.{joined_mark}
use Rattle.bac_tag.specs.Spelling.{IsLeast, HasMark}
use Rattle.bac_apdu.specs.Apdus.{ApduValue}
use Rattle.bac_npdu_parts.specs.declared.frame.Body.{Body}
use Rattle.bac_npdu_parts.specs.declared.frame.Frame.{Frame}
use Rattle.bac_npdu_parts.specs.declared.frame_heads.HeadRead.{HeadRead}
use Rattle.bac_npdu_parts.specs.Decoded.{IsRefused}
use Rattle.bac_npdu_parts.specs.FrameHeads.{address_read, destination_read}
use Rattle.bac_npdu_parts.specs.Frames.{FrameValue, SpellsFrame, apdu, body_value, value_of}
use Rattle.bac_npdu_parts.specs.HeadsRead.{control_octet, IsBehind, IsControlMark, IsBodyFound, IsBodyRefused}
use Rattle.bac_npdu.specs.Meanings.{IsFirstFlaw}

-- The frame says what the head says that was read, and has this APDU.
pub record IsFrameOf (front : HeadRead) (a : ApduValue) (f : FrameValue) : Type 0 where
  pub reply : HasBit 2 (Some f.reply) (control_octet front.control)
  pub priority : f.priority ≡ control_octet front.control % 4
  pub destination : f.destination ≡ destination_read front.destination
  pub source : f.source ≡ address_read front.source
  pub body : f.body ≡ apdu a

-- The octets spell the frame of this head and of an APDU. Its mark joins those of the head and of the APDU. What is made is
-- what a visitor makes of the APDU.
pub record IsLocalMade {P M : Type 0} (makes : ApduValue → Option ℕ → P → P → M → Type 0) (octets : List ℕ) (front : HeadRead) (old new : P) (made : M) : Type 0 where
  pub value : ApduValue
  pub mark : Option ℕ
  pub spelled : (f : FrameValue) → IsFrameOf front value f → SpellsFrame f octets
  pub marked : (f : FrameValue) (first : Option ℕ) → IsFrameOf front value f → IsControlMark (control_octet front.control) first → HasMark (SpellsFrame f) octets (joined_mark first front.size mark)
  pub behind : IsBehind front.size mark
  pub made_of : makes value mark old new made

-- What visiting the APDU after a head gives: what is made of it (IsLocalMade), or a refusal of the frame (IsRefused).
abbrev pub IsLocalVisited : {P M : Type 0} → (ApduValue → Option ℕ → P → P → M → Type 0) → List ℕ → HeadRead → P → P → Result M Refusal → Type 0
IsLocalVisited makes octets front old new (Ok made) = IsLocalMade makes octets front old new made
IsLocalVisited makes octets front old new (Err refusal) = IsRefused octets refusal

-- What decoding a body gives: a body of this kind and its mark (IsBodyFound), or a refusal (IsBodyRefused).
abbrev pub IsBodyDecoded : Bool → List ℕ → Result (Body × Option ℕ) Refusal → Type 0
IsBodyDecoded m octets (Ok found) = IsBodyFound m octets (body_value found.0) found.1
IsBodyDecoded m octets (Err refusal) = IsBodyRefused m octets refusal

-- The octets spell a frame but are not canonical, or are refused as by decode_frame (IsRefused). These are clauses of
-- decode_strict.
pub record IsStrictlyRefused (octets : List ℕ) (refusal : Refusal) : Type 0 where
  pub flaw : refusal.why ≡ NotCanonical → IsFirstFlaw octets refusal.place
  pub refused : refusal.why ≢ NotCanonical → IsRefused octets refusal

-- What decoding canonical octets gives: a frame with these canonical octets, or a refusal (IsStrictlyRefused).
abbrev pub IsStrictlyDecoded : List ℕ → Result Frame Refusal → Type 0
IsStrictlyDecoded octets (Ok frame) = IsLeast (SpellsFrame (value_of frame)) octets
IsStrictlyDecoded octets (Err refusal) = IsStrictlyRefused octets refusal
