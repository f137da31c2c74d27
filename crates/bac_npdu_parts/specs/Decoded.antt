-- What decoding a frame or a network message gives.
use Rattle.std.specs.Prelude.{◌≡◌, ◌≢◌, ◌↔◌, ◌⊎◌, ℕ, ◌+◌, ◌<◌, cond, nat_le, nat_eq, ◌&&◌, ◌||◌, Bool, true, false, Option, None, Some, List, length, drop, slice_index, Result, Ok, Err}
use Rattle.bac_tag.specs.declared.refusals.Refusal.{Refusal}
use Rattle.bac_tag.specs.declared.refusals.Why.{Why}
use Rattle.bac_tag.specs.declared.refusals.Why.TheVariants.{Short, Trailing, Version, Address, PduType, Window, OutOfMemory}
use Rattle.bac_tag.specs.Spelling.{HasMark, IsWholeRefusal}
use Rattle.bac_tag.specs.HeadOctets.{least_head}
use Rattle.bac_productions.specs.Productions.{IsMarked}
use Rattle.bac_apdu.specs.FirstOctet.{IsTypePlace, IsWindowPlace}
use Rattle.bac_apdu.specs.Decoded.{IsApduReason, begins_small as begins_small_apdu, is_small as is_small_apdu}
use Rattle.bac_npdu_parts.specs.declared.frame.Frame.{Frame}
use Rattle.bac_npdu_parts.specs.declared.message.NetMessage.{NetMessage}
use Rattle.bac_npdu_parts.specs.Addresses.{SourceValue, address_of}
use Rattle.bac_npdu_parts.specs.Messages.{MessageValue, i_am_router, router_busy, router_available, init_table, init_table_ack, opaque, octets_of, SpellsMessage, message_value}
use Rattle.bac_npdu_parts.specs.Frames as frames
use Rattle.bac_npdu_parts.specs.Frames.{BodyValue, FrameValue, SpellsFrame, value_of}
use Rattle.bac_npdu_parts.specs.Heads.{says_message, says_destination, says_source, source_place, body_place, HasHead, IsVersionPlace, IsAddressPlace}

-- The octets are that many, or the refusal says how they are not. It is Short at their end if they are fewer. It is Trailing
-- after that many if they are more.
abbrev pub IsSized : List ℕ → ℕ → Result Unit Refusal → Type 0
IsSized octets count (Ok done) = length octets ≡ count
IsSized octets count (Err refusal) = ((length octets < count) × (refusal ≡ record { place = length octets; why = Short })) ⊎ ((count < length octets) × (refusal ≡ record { place = count; why = Trailing }))

-- ---- network messages

-- Whether a message of this type and with so many octets has no list and no opaque octets. It is of type 0, 2, 3, 8, 9, 18 or
-- 19, or of type 7 with nothing after the type.
abbrev pub small_message : ℕ → ℕ → Bool
small_message kind count = nat_eq kind 0 || (nat_eq kind 2 || (nat_eq kind 3 || (nat_eq kind 8 || (nat_eq kind 9 || (nat_eq kind 18 || (nat_eq kind 19 || (nat_eq kind 7 && nat_eq count 1)))))))

-- Whether octets begin as a network message without a list and without opaque octets. This goes by the type and
-- by how many octets there are.
abbrev pub begins_small_message : List ℕ → Bool
begins_small_message octets = small_message (slice_index octets 0) (length octets)

-- The octets begin with this type.
abbrev pub BeginsWith : ℕ → List ℕ → Type 0
BeginsWith kind octets = (0 < length octets) × (slice_index octets 0 ≡ kind)

-- The reasons for which a network message is refused: Short, Trailing and OutOfMemory.
abbrev pub IsMessageReason : Why → Type 0
IsMessageReason why = (why ≡ Short) ⊎ ((why ≡ Trailing) ⊎ (why ≡ OutOfMemory))

-- The octets spell no network message, or memory was refused. OutOfMemory is at place 0 and is not reported of a small message.
-- This is the same as IsRefused, of a network message.
pub record IsMessageRefused (octets : List ℕ) (refusal : Refusal) : Type 0 where
  pub refused : refusal.why ≢ OutOfMemory → IsWholeRefusal SpellsMessage octets refusal
  pub memory : refusal.why ≡ OutOfMemory → (refusal.place ≡ 0) × (begins_small_message octets ≡ false)
  pub reason : IsMessageReason refusal.why

-- What decoding a network message gives: a message that the octets spell, or a refusal (IsMessageRefused).
abbrev pub IsMessageDecoded : List ℕ → Result NetMessage Refusal → Type 0
IsMessageDecoded octets (Ok message) = SpellsMessage (message_value message) octets
IsMessageDecoded octets (Err refusal) = IsMessageRefused octets refusal

-- The octets are those of a network message: there is one that they spell, and they are its octets_of. No other octets spell
-- it, so they are the canonical ones.
pub record AreMessageOctets (octets : List ℕ) : Type 0 where
  pub message : MessageValue
  pub spelled : SpellsMessage message octets
  pub octets_are : octets ≡ least_head (octets_of message)

-- The octets spell no network message. This is the same as IsMessageRefused, where no memory is asked for.
pub record IsNoMessage (octets : List ℕ) (refusal : Refusal) : Type 0 where
  pub refused : IsWholeRefusal SpellsMessage octets refusal
  pub memory : refusal.why ≢ OutOfMemory
  pub reason : IsMessageReason refusal.why

-- What checking a network message gives: the octets are those of a message (AreMessageOctets), or a refusal (IsNoMessage). Both
-- decoding and checking refuse such octets at the place that IsWholeRefusal says, so for the same reason.
abbrev pub IsMessageChecked : List ℕ → Result Unit Refusal → Type 0
IsMessageChecked octets (Ok done) = AreMessageOctets octets
IsMessageChecked octets (Err refusal) = IsNoMessage octets refusal

-- ---- frames

-- Whether the address at this place has at most seven octets, or is not there.
abbrev pub few_octets : Bool → ℕ → List ℕ → Bool
few_octets there place octets = cond there (nat_le (slice_index octets (place + 2)) 7) true

-- Whether octets begin as a small frame. The addresses have at most seven octets. The body is a small APDU, or a network
-- message without a list and without opaque octets (begins_small_message). This goes by the octets of the head and of the body.
abbrev pub begins_small : List ℕ → Bool
begins_small octets =
    few_octets (says_destination octets) 2 octets && (few_octets (says_source octets) (source_place octets) octets
    && cond (says_message octets) (begins_small_message (drop (body_place octets) octets)) (begins_small_apdu (drop (body_place octets) octets)))

-- Whether an address has at most seven octets, or is not there.
abbrev pub is_short_address : Option SourceValue → Bool
is_short_address None = true
is_short_address (Some a) = nat_le (length a.address) 7

-- Whether a network message has no list and no opaque octets.
abbrev pub is_small_message : MessageValue → Bool
is_small_message (i_am_router networks) = false
is_small_message (router_busy networks) = false
is_small_message (router_available networks) = false
is_small_message (init_table ports) = false
is_small_message (init_table_ack (Some ports)) = false
is_small_message (opaque message) = false
is_small_message _ = true

-- Whether a body is a small APDU or a small network message.
abbrev pub is_small_body : BodyValue → Bool
is_small_body (frames.apdu a) = is_small_apdu a
is_small_body (frames.message m) = is_small_message m

-- Whether a frame is small: no address above seven octets, and no list, open value, opaque octets or piece. This is the same as
-- begins_small, by the frame instead of by its octets.
abbrev pub is_small : FrameValue → Bool
is_small f = is_short_address (address_of f.destination) && (is_short_address f.source && is_small_body f.body)

-- The place is that of the first octet of an APDU of no type. The octet is there, after a whole
-- head, and it is of type 8 to 15.
abbrev pub IsPduTypePlace : List ℕ → ℕ → Type 0
IsPduTypePlace octets place = HasHead octets × (says_message octets ≡ false) × (place ≡ body_place octets) × IsTypePlace (drop (body_place octets) octets) 0

-- The place is that of an octet for a window of an APDU, which is no window. The octet is there, after a whole head of the
-- frame, and it is no number from 1 to 127.
abbrev pub IsFrameWindowPlace : List ℕ → ℕ → Type 0
IsFrameWindowPlace octets place = HasHead octets × (says_message octets ≡ false) × ((k : ℕ) × (place ≡ body_place octets + k) × IsWindowPlace (drop (body_place octets) octets) k)

-- The reasons for which a frame is refused: Version, Address, and those of an APDU.
abbrev pub IsFrameReason : Why → Type 0
IsFrameReason why = (why ≡ Version) ⊎ ((why ≡ Address) ⊎ IsApduReason why)

-- The reason of the refusal is the one that belongs to its place. Version is reported exactly of a first octet that is not 1.
-- Address is reported exactly of a length 0 of a source's address. PduType is reported exactly of a first octet of an APDU of
-- no type. Window is reported exactly of an octet for a window that is none. Any other reason is one of APDUs. These are the
-- five clauses of decode_marked on reasons in one word. normalise_frame promises it, and same_meaning promises it of each side.
pub record IsReasoned (octets : List ℕ) (refusal : Refusal) : Type 0 where
  pub of_version : (refusal.why ≡ Version) ↔ IsVersionPlace octets refusal.place
  pub of_address : (refusal.why ≡ Address) ↔ IsAddressPlace octets refusal.place
  pub of_type : (refusal.why ≡ PduType) ↔ IsPduTypePlace octets refusal.place
  pub of_window : (refusal.why ≡ Window) ↔ IsFrameWindowPlace octets refusal.place
  pub others : IsFrameReason refusal.why

-- The octets spell no frame, or memory was refused, and the reason is the one that belongs to the place. OutOfMemory is at
-- place 0 and is not reported of a small frame. These are clauses of decode_marked, for the functions below it.
pub record IsRefused (octets : List ℕ) (refusal : Refusal) : Type 0 where
  pub refused : refusal.why ≢ OutOfMemory → IsWholeRefusal SpellsFrame octets refusal
  pub memory : refusal.why ≡ OutOfMemory → (refusal.place ≡ 0) × (begins_small octets ≡ false)
  pub reasoned : IsReasoned octets refusal

-- The octets spell a frame and have a mark, and made is what a visitor makes of both. The visitor's place changes from old to
-- new. visit_frame promises this.
pub record IsMade {P M : Type 0} (makes : FrameValue → Option ℕ → P → P → M → Type 0) (octets : List ℕ) (old new : P) (made : M) : Type 0 where
  pub value : FrameValue
  pub mark : Option ℕ
  pub spelled : SpellsFrame value octets
  pub marked : HasMark (SpellsFrame value) octets mark
  pub made_of : makes value mark old new made

-- What visiting a frame gives: what a visitor makes of it (IsMade), or a refusal (IsRefused). With a refusal the visitor's
-- place is as it was. These are the clauses of visit_frame.
abbrev pub IsVisited : {P M : Type 0} → (FrameValue → Option ℕ → P → P → M → Type 0) → List ℕ → P → P → Result M Refusal → Type 0
IsVisited makes octets old new (Ok made) = IsMade makes octets old new made
IsVisited makes octets old new (Err refusal) = IsRefused octets refusal × (new ≡ old)

-- What checking a frame gives: the octets spell some frame and have this mark, or they spell none and the reason is the one
-- that belongs to the place (IsRefused). No refusal is for want of memory.
abbrev pub IsFrameChecked : List ℕ → Result (Option ℕ) Refusal → Type 0
IsFrameChecked octets (Ok mark) = IsMarked SpellsFrame octets mark
IsFrameChecked octets (Err refusal) = IsRefused octets refusal × (refusal.why ≢ OutOfMemory)

-- The octets spell the frame, and have the mark. This is a clause of decode_marked, for the functions below it.
pub record IsFound (octets : List ℕ) (frame : Frame) (mark : Option ℕ) : Type 0 where
  pub spelled : SpellsFrame (value_of frame) octets
  pub marked : HasMark (SpellsFrame (value_of frame)) octets mark

-- What decoding a frame gives: the frame and its mark (IsFound), or a refusal (IsRefused). These are clauses of decode_marked,
-- for the functions below it.
abbrev pub IsDecoded : List ℕ → Result (Frame × Option ℕ) Refusal → Type 0
IsDecoded octets (Ok found) = IsFound octets found.0 found.1
IsDecoded octets (Err refusal) = IsRefused octets refusal

-- What decoding a frame without its mark gives: a frame that the octets spell, or a refusal (IsRefused).
abbrev pub IsDecodedAlone : List ℕ → Result Frame Refusal → Type 0
IsDecodedAlone octets (Ok frame) = SpellsFrame (value_of frame) octets
IsDecodedAlone octets (Err refusal) = IsRefused octets refusal
