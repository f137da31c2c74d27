-- What reading the octets before a body gives (clause 6.2). These definitions are for the functions below visit_frame.
use Rattle.std.specs.Prelude.{◌≡◌, ◌≢◌, ◌↔◌, ℕ, ◌+◌, ◌/◌, ◌%◌, ◌^◌, ◌<◌, ◌≤◌, nat_eq, cond, Bool, false, Option, Some, None, List, ◌∷◌, ◌++◌, length, slice_index, IfSome, Result, Ok, Err}
use Rattle.bac_tag.specs.declared.refusals.Refusal.{Refusal}
use Rattle.bac_tag.specs.declared.refusals.Why.TheVariants.{PduType, Window, OutOfMemory}
use Rattle.bac_tag.specs.HeadOctets.{HasBit}
use Rattle.bac_tag.specs.Spelling.{HasMark, IsWholeRefusal}
use Rattle.bac_apdu.specs.FirstOctet.{IsTypePlace, IsWindowPlace}
use Rattle.bac_apdu.specs.Decoded.{IsApduReason, begins_small as begins_small_apdu}
use Rattle.bac_npdu_parts.specs.declared.control.Control.{Control}
use Rattle.bac_npdu_parts.specs.declared.frame_heads.HeadRead.{HeadRead}
use Rattle.bac_npdu_parts.specs.Addresses.{SourceValue, DestinationValue, address_of, source_octets, hops_octets, HasAddress}
use Rattle.bac_npdu_parts.specs.Control.{ControlValue, least_of}
use Rattle.bac_npdu_parts.specs.FrameHeads.{address_read, destination_read}
use Rattle.bac_npdu_parts.specs.Frames.{BodyValue, is_there, is_message, SpellsBody}
use Rattle.bac_npdu_parts.specs.Decoded.{begins_small_message, IsRefused}

-- What is after the control octet: destination, source, hop count, and the rest.
abbrev pub behind_control : Option DestinationValue → Option SourceValue → List ℕ → List ℕ
behind_control d s rest = source_octets (address_of d) ++ (source_octets s ++ (hops_octets d ++ rest))

-- The octets end within a network, a length and an address.
abbrev pub IsCutAddress : List ℕ → Type 0
IsCutAddress b = 3 ≤ length b → length b < 3 + slice_index b 2

-- The octet that holds the flags.
abbrev pub control_octet : Control → ℕ
control_octet c = c.0

-- What a control octet says.
abbrev pub control_at : ℕ → ControlValue
control_at c = record { message = nat_eq (c / 2 ^ 7 % 2) 1; destination = nat_eq (c / 2 ^ 5 % 2) 1; source = nat_eq (c / 2 ^ 3 % 2) 1; reply = nat_eq (c / 2 ^ 2 % 2) 1; priority = c % 4 }

-- The mark is 1, the place of the control octet, if a bit of it that is ignored is not 0. Else there is no mark.
abbrev pub IsControlMark : ℕ → Option ℕ → Type 0
IsControlMark c None = c ≡ least_of (control_at c)
IsControlMark c (Some place) = (place ≡ 1) × (c ≢ least_of (control_at c))

-- The octets are a head that says this, and a rest.
pub record IsHead (octets : List ℕ) (control : ℕ) (d : Option DestinationValue) (s : Option SourceValue) (rest : List ℕ) : Type 0 where
  pub octets_are : octets ≡ 1 ∷ control ∷ behind_control d s rest
  pub destination : HasBit 5 (Some (is_there d)) control
  pub source : HasBit 3 (Some (is_there s)) control
  pub address : HasAddress s

-- The octets are a head as it was read, and a rest after as many octets as the head has.
pub record IsHeadOf (octets : List ℕ) (head : HeadRead) : Type 0 where
  pub rest : List ℕ
  pub is_head : IsHead octets (control_octet head.control) (destination_read head.destination) (address_read head.source) rest
  pub size : length octets ≡ head.size + length rest

-- What reading a head gives: the head that the octets begin with (IsHeadOf), or a refusal (IsRefused) that is not for want of
-- memory.
abbrev pub IsHeadRead : List ℕ → Result HeadRead Refusal → Type 0
IsHeadRead octets (Ok head) = IsHeadOf octets head
IsHeadRead octets (Err refusal) = IsRefused octets refusal × (refusal.why ≢ OutOfMemory)

-- ---- the body

-- The lists that spell a body of this kind, which is a network message if the flag is set, and else an APDU.
abbrev pub SpellsBodyOf : Bool → BodyValue → List ℕ → Type 0
SpellsBodyOf m x b = (is_message x ≡ m) × SpellsBody x b

-- The octets spell the body, which is of this kind, and have the mark.
pub record IsBodyFound (m : Bool) (octets : List ℕ) (body : BodyValue) (mark : Option ℕ) : Type 0 where
  pub is : is_message body ≡ m
  pub spelled : SpellsBody body octets
  pub marked : HasMark (SpellsBody body) octets mark

-- The octets spell no body of this kind, or memory was refused. OutOfMemory is at place 0 and is not reported of a small body.
-- PduType is reported exactly of a first octet of an APDU of no type, and Window exactly of an octet for a window that is none.
-- Any other reason is one of APDUs. This is the same as IsRefused, of a body.
pub record IsBodyRefused (m : Bool) (octets : List ℕ) (refusal : Refusal) : Type 0 where
  pub refused : refusal.why ≢ OutOfMemory → IsWholeRefusal (SpellsBodyOf m) octets refusal
  pub memory : refusal.why ≡ OutOfMemory → (refusal.place ≡ 0) × (cond m (begins_small_message octets) (begins_small_apdu octets) ≡ false)
  pub of_type : (refusal.why ≡ PduType) ↔ ((m ≡ false) × IsTypePlace octets refusal.place)
  pub of_window : (refusal.why ≡ Window) ↔ ((m ≡ false) × IsWindowPlace octets refusal.place)
  pub reason : IsApduReason refusal.why

-- The place of a mark in a body stays below 2^64 with so many octets before the body.
abbrev pub IsBehind : ℕ → Option ℕ → Type 0
IsBehind size mark = IfSome mark (λ place. size + place < 2 ^ 64)

-- The octets spell a body and have a mark, and made is what is made of both. This is the same as IsMade, of a body.
pub record IsBodyMade {P M : Type 0} (makes : BodyValue → Option ℕ → P → P → M → Type 0) (m : Bool) (octets : List ℕ) (old new : P) (made : M) : Type 0 where
  pub body : BodyValue
  pub mark : Option ℕ
  pub found : IsBodyFound m octets body mark
  pub made_of : makes body mark old new made

-- What checking a body gives: some body of this kind that the octets spell, and their mark (IsBodyFound), or a refusal
-- (IsBodyRefused) that is not for want of memory.
abbrev pub IsBodyChecked : Bool → List ℕ → Result (Option ℕ) Refusal → Type 0
IsBodyChecked m octets (Ok mark) = (body : BodyValue) × IsBodyFound m octets body mark
IsBodyChecked m octets (Err refusal) = IsBodyRefused m octets refusal × (refusal.why ≢ OutOfMemory)

-- What visiting a body gives: what is made of it (IsBodyMade), or a refusal (IsBodyRefused) with nothing changed. This is the
-- same as IsVisited, of a body.
abbrev pub IsBodyVisited : {P M : Type 0} → (BodyValue → Option ℕ → P → P → M → Type 0) → Bool → List ℕ → P → P → Result M Refusal → Type 0
IsBodyVisited makes m octets old new (Ok made) = IsBodyMade makes m octets old new made
IsBodyVisited makes m octets old new (Err refusal) = IsBodyRefused m octets refusal × (new ≡ old)

-- ---- version and control octet

-- What reading the version and the control octet gives: the control octet after a version 1, or a refusal (IsRefused) that is
-- not for want of memory.
abbrev pub IsControlRead : List ℕ → Result Control Refusal → Type 0
IsControlRead octets (Ok control) = (rest : List ℕ) × (octets ≡ 1 ∷ control_octet control ∷ rest)
IsControlRead octets (Err refusal) = IsRefused octets refusal × (refusal.why ≢ OutOfMemory)
