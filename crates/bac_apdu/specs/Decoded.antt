-- What decoding an APDU gives.
use Rattle.std.specs.Prelude.{◌≡◌, ◌≢◌, ◌↔◌, ◌⊎◌, ℕ, ◌<◌, ◌≤◌, Bool, true, false, Option, Some, None, List, length, take, drop, slice_index, Result, Ok, Err}
use Rattle.bac_tag.specs.declared.refusals.Refusal.{Refusal}
use Rattle.bac_tag.specs.declared.refusals.Why.{Why}
use Rattle.bac_tag.specs.declared.refusals.Why.TheVariants.{Trailing, PduType, Window, OutOfMemory}
use Rattle.bac_tag.specs.Octets.{IsMark, joined_mark}
use Rattle.bac_tag.specs.Refusals.{behind}
use Rattle.bac_tag.specs.Spelling.{HasMark, IsWholeRefusal}
use Rattle.bac_productions.specs.Productions.{IsMarked}
use Rattle.bac_productions.specs.Reasons.{IsServiceReason}
use Rattle.bac_service.specs.declared.kind.Kind.{Kind}
use Rattle.bac_service.specs.declared.kind.Kind.TheVariants.{Confirmed, Unconfirmed, ComplexAck, Error}
use Rattle.bac_service.specs.declared.service.Service.{Service}
use Rattle.bac_service.specs.ServiceTable.{is_small as is_small_service}
use Rattle.bac_service.specs.Services.{ServiceValue, value_of as service_of, SpellsService}
use Rattle.bac_apdu.specs.FirstOctet.{Behind, a_service, a_piece, nothing, HeadRow, row_of, type_at, seg_at, IsTypePlace, IsWindowPlace}
use Rattle.bac_apdu.specs.declared.segment.SegmentStart.{SegmentStart}
use Rattle.bac_apdu.specs.Apdus.{ApduValue, confirmed_request, unconfirmed_request, simple_ack, complex_ack, segment_ack, error, reject, abort, segment, SpellsApdu}

-- Whether an APDU is small: it ends after its head, or it carries a small service.
abbrev pub is_small : ApduValue → Bool
is_small (confirmed_request head service) = is_small_service Confirmed service.choice
is_small (unconfirmed_request service) = is_small_service Unconfirmed service.choice
is_small (simple_ack invoke choice) = true
is_small (complex_ack invoke service) = is_small_service ComplexAck service.choice
is_small (segment_ack invoke nak srv seq size) = true
is_small (error invoke service) = is_small_service Error service.choice
is_small (reject invoke reason) = true
is_small (abort invoke srv reason) = true
is_small (segment head seq size more choice piece) = false

-- Whether an APDU is small, by what is after the head that these octets begin with.
abbrev pub small_behind : Behind → List ℕ → Bool
small_behind (a_service kind place) octets = is_small_service kind (slice_index octets place)
small_behind a_piece octets = false
small_behind nothing octets = true

-- Whether an APDU is small, by the row of its head. It is true if no row is for it, since octets that begin no head are
-- refused at once.
abbrev pub small_by : Option HeadRow → List ℕ → Bool
small_by None octets = true
small_by (Some r) octets = small_behind r.behind octets

-- Whether an APDU is small, by the row for this type and this bit 3.
abbrev pub small_of : ℕ → ℕ → List ℕ → Bool
small_of type bit octets = small_by (row_of type bit) octets

-- Whether octets begin a small APDU, by what the row of the first octet says is after the head. It is true also if no row
-- is for the first octet.
abbrev pub begins_small : List ℕ → Bool
begins_small octets = small_of (type_at (slice_index octets 0)) (seg_at (slice_index octets 0)) octets

-- The reasons for which an APDU is refused: PduType, Window, or a reason of services.
abbrev pub IsApduReason : Why → Type 0
IsApduReason why = (why ≡ PduType) ⊎ ((why ≡ Window) ⊎ IsServiceReason why)

-- The reason of a refusal is one of IsApduReason, and PduType and Window are reported for their octets only. It is PduType
-- exactly for a first octet of no type, and Window exactly for the octet of a window that is none. These are clauses of
-- visit_apdu in one word, for the functions below it.
pub record IsReasoned (octets : List ℕ) (refusal : Refusal) : Type 0 where
  pub of_type : (refusal.why ≡ PduType) ↔ IsTypePlace octets refusal.place
  pub of_window : (refusal.why ≡ Window) ↔ IsWindowPlace octets refusal.place
  pub others : IsApduReason refusal.why

-- The octets spell no APDU, or memory was refused, and the reason is one by IsReasoned. If memory was refused, the place is
-- 0, and the octets do not begin a small APDU. These are clauses of visit_apdu in one word, for the functions below it.
pub record IsRefused (octets : List ℕ) (refusal : Refusal) : Type 0 where
  pub refused : refusal.why ≢ OutOfMemory → IsWholeRefusal SpellsApdu octets refusal
  pub memory : refusal.why ≡ OutOfMemory → (refusal.place ≡ 0) × (begins_small octets ≡ false)
  pub reasoned : IsReasoned octets refusal

-- The octets spell an APDU and have a mark, and a visitor makes made of both. The place of the visitor changes from old to
-- new. visit_apdu says so.
pub record IsMade {P M : Type 0} (makes : ApduValue → Option ℕ → P → P → M → Type 0) (octets : List ℕ) (old new : P) (made : M) : Type 0 where
  pub value : ApduValue
  pub mark : Option ℕ
  pub spelled : SpellsApdu value octets
  pub marked : HasMark (SpellsApdu value) octets mark
  pub made_of : makes value mark old new made

-- The clauses of visit_apdu in one word, for the functions below it: IsMade of what is made; or IsRefused of the refusal,
-- and the place of the visitor is as it was.
abbrev pub IsVisited : {P M : Type 0} → (ApduValue → Option ℕ → P → P → M → Type 0) → List ℕ → P → P → Result M Refusal → Type 0
IsVisited makes octets old new (Ok made) = IsMade makes octets old new made
IsVisited makes octets old new (Err refusal) = IsRefused octets refusal × (new ≡ old)

-- After a head with these least octets is the service, and the mark is that of the head and the service together. These are
-- clauses on a service after a head in one word, for the functions below visit_apdu.
pub record IsServiceBehind (kind : Kind) (choice : ℕ) (octets head : List ℕ) (service : ServiceValue) (mark : Option ℕ) : Type 0 where
  pub spelled : SpellsService true 32 kind choice service (drop (length head) octets)
  pub first : Option ℕ
  pub second : Option ℕ
  pub of_head : IsMark (take (length head) octets) head first
  pub of_service : HasMark (SpellsService true 32 kind choice service) (drop (length head) octets) second
  pub mark_is : mark ≡ joined_mark first (length head) second

-- After a head with these least octets is no service, or memory was refused, and the reason is one of services. If memory
-- was refused, the place is 0, and the service is not small. These are clauses on a service after a head in one word, for
-- the functions below visit_apdu.
pub record IsRefusedBehind (kind : Kind) (choice : ℕ) (octets head : List ℕ) (refusal : Refusal) : Type 0 where
  pub refused : refusal.why ≢ OutOfMemory → (r : Refusal) × IsWholeRefusal (SpellsService true 32 kind choice) (drop (length head) octets) r × (refusal ≡ behind (length head) r)
  pub memory : refusal.why ≡ OutOfMemory → (refusal.place ≡ 0) × (is_small_service kind choice ≡ false)
  pub reason : IsServiceReason refusal.why

-- The clauses on a service after a head in one word, for the functions below visit_apdu: IsServiceBehind of the service
-- that is found, or IsRefusedBehind of the refusal.
abbrev pub IsBehind : Kind → ℕ → List ℕ → List ℕ → Result (Service × Option ℕ) Refusal → Type 0
IsBehind kind choice octets head (Ok found) = IsServiceBehind kind choice octets head (service_of found.0) found.1
IsBehind kind choice octets head (Err refusal) = IsRefusedBehind kind choice octets head refusal

-- The clauses on a service after a head that is checked and not made, in one word: some service is there by IsServiceBehind,
-- with the mark of head and service. Or none is, by IsRefusedBehind, and not for want of memory.
abbrev pub IsBehindChecked : Kind → ℕ → List ℕ → List ℕ → Result (Option ℕ) Refusal → Type 0
IsBehindChecked kind choice octets head (Ok mark) = (service : ServiceValue) × IsServiceBehind kind choice octets head service mark
IsBehindChecked kind choice octets head (Err refusal) = IsRefusedBehind kind choice octets head refusal × (refusal.why ≢ OutOfMemory)

-- The clauses on a head that nothing may follow, in one word, for the functions below visit_apdu. The octets end after a
-- head with these least octets, and the mark is that of the octets against them. Or the octets continue, and they are
-- refused with Trailing at the first octet after the head.
abbrev pub IsEnded : List ℕ → List ℕ → Result (Option ℕ) Refusal → Type 0
IsEnded octets head (Ok mark) = (length octets ≡ length head) × IsMark octets head mark
IsEnded octets head (Err refusal) = (length head < length octets) × (refusal ≡ record { place = length head; why = Trailing })

-- The result of checking octets as an APDU is a mark or a refusal. With a mark the octets spell some APDU, and the mark is that
-- against its canonical octets. With a refusal they spell none, and the reason is no want of memory.
abbrev pub IsApduChecked : List ℕ → Result (Option ℕ) Refusal → Type 0
IsApduChecked octets (Ok mark) = IsMarked SpellsApdu octets mark
IsApduChecked octets (Err refusal) = IsRefused octets refusal × (refusal.why ≢ OutOfMemory)

-- Before the piece of a segment are so many octets, and what they say is this. The octets with the piece spell the segment and
-- have the mark. If there is no memory for the piece, the refusal is right.
pub record IsSegmentStart (octets : List ℕ) (size : ℕ) (start : SegmentStart) : Type 0 where
  pub within : size ≤ length octets
  pub spelled : SpellsApdu (segment start.head start.seq start.window start.more start.choice (drop size octets)) octets
  pub marked : HasMark (SpellsApdu (segment start.head start.seq start.window start.more start.choice (drop size octets))) octets start.mark
  pub memory : IsRefused octets (record { place = 0; why = OutOfMemory })

-- The result of reading what is before the piece of a segment, which are so many octets: IsSegmentStart of it, or IsRefused of
-- the refusal, and not for want of memory.
abbrev pub IsStartRead : List ℕ → ℕ → Result SegmentStart Refusal → Type 0
IsStartRead octets size (Ok start) = IsSegmentStart octets size start
IsStartRead octets size (Err refusal) = IsRefused octets refusal × (refusal.why ≢ OutOfMemory)
