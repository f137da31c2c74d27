-- An APDU by its type, and by its parts (clause 20.1).
use Rattle.std.specs.Prelude.{◌≡◌, ℕ, Bool, List, []}
use Rattle.bac_service.specs.Services.{ServiceValue}
use Rattle.bac_apdu.specs.declared.confirmed_request.RequestHead.{RequestHead}
use Rattle.bac_apdu.specs.declared.segment.SegHead.{SegHead}
use Rattle.bac_tag.specs.HeadOctets.{Headed}
use Rattle.bac_apdu.specs.Apdus.{ApduValue, confirmed_request, unconfirmed_request, simple_ack, complex_ack, segment_ack, error, reject, abort, segment, head_of, SpellsBody, SpellsApdu}

-- ---- the lists that spell an APDU of one type, by what it says

-- The lists that spell a Confirmed-Request in one piece, by its head and its service.
abbrev pub SpellsConfirmed : RequestHead × ServiceValue → List ℕ → Type 0
SpellsConfirmed (head, service) = SpellsApdu (confirmed_request head service)

-- The lists that spell an Unconfirmed-Request, by its service.
abbrev pub SpellsUnconfirmed : ServiceValue → List ℕ → Type 0
SpellsUnconfirmed service = SpellsApdu (unconfirmed_request service)

-- The lists that spell a SimpleACK, by its invoke id and its service choice.
abbrev pub SpellsSimpleAck : ℕ × ℕ → List ℕ → Type 0
SpellsSimpleAck (invoke, choice) = SpellsApdu (simple_ack invoke choice)

-- The lists that spell a ComplexACK in one piece, by its invoke id and its service.
abbrev pub SpellsComplexAck : ℕ × ServiceValue → List ℕ → Type 0
SpellsComplexAck (invoke, service) = SpellsApdu (complex_ack invoke service)

-- The lists that spell a SegmentACK, by its invoke id, whether it is negative, whether a server sent it, its sequence
-- number and its window.
abbrev pub SpellsSegmentAck : ℕ × (Bool × (Bool × (ℕ × ℕ))) → List ℕ → Type 0
SpellsSegmentAck (invoke, (nak, (srv, (seq, size)))) = SpellsApdu (segment_ack invoke nak srv seq size)

-- The lists that spell an Error, by its invoke id and its service.
abbrev pub SpellsError : ℕ × ServiceValue → List ℕ → Type 0
SpellsError (invoke, service) = SpellsApdu (error invoke service)

-- The lists that spell a Reject, by its invoke id and its reason.
abbrev pub SpellsReject : ℕ × ℕ → List ℕ → Type 0
SpellsReject (invoke, reason) = SpellsApdu (reject invoke reason)

-- The lists that spell an Abort, by its invoke id, whether a server sent it, and its reason.
abbrev pub SpellsAbort : ℕ × (Bool × ℕ) → List ℕ → Type 0
SpellsAbort (invoke, (srv, reason)) = SpellsApdu (abort invoke srv reason)

-- The lists that spell a segment, by what it is of, its sequence number, its window, whether more follow, its service
-- choice and its piece.
abbrev pub SpellsSegment : SegHead × (ℕ × (ℕ × (Bool × (ℕ × List ℕ)))) → List ℕ → Type 0
SpellsSegment (head, (seq, (size, (more, (choice, piece))))) = SpellsApdu (segment head seq size more choice piece)

-- ---- its parts

-- The lists that spell the head of an APDU and nothing after it.
abbrev pub SpellsHead : ApduValue → List ℕ → Type 0
SpellsHead apdu = Headed (head_of apdu) (λ rest. rest ≡ [])

-- The other APDU has the same head as this one, and the list spells what the other has after this head.
abbrev pub SpellsAfter : ApduValue → ApduValue → List ℕ → Type 0
SpellsAfter apdu other b = (head_of other ≡ head_of apdu) × SpellsBody other b
