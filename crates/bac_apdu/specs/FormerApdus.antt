-- The APDUs as they were spelled while WritePropertyMultiple and its error were opaque and at most 16 groups nested.
use Rattle.std.specs.Prelude.{ℕ, false, List}
use Rattle.bac_service.specs.declared.kind.Kind.{Kind}
use Rattle.bac_service.specs.declared.kind.Kind.TheVariants as kind
use Rattle.bac_service.specs.ServiceTable.{IsUnchanged}
use Rattle.bac_service.specs.Services.{ServiceValue, SpellsService}
use Rattle.bac_tag.specs.HeadOctets.{Headed}
use Rattle.bac_apdu.specs.Apdus.{ApduValue, confirmed_request, unconfirmed_request, complex_ack, error, head_of, SpellsBody}

-- The lists that spelled a service while WritePropertyMultiple and its error were opaque and at most 16 groups nested. They
-- are those of SpellsService with the settings false and 16, whatever the choice.
abbrev pub SpellsFormerService : Kind → ServiceValue → List ℕ → Type 0
SpellsFormerService of_kind service = SpellsService false 16 of_kind service.choice service

-- The lists that spelled what was after the head of an APDU, by SpellsFormerService.
abbrev pub SpellsFormerBody : ApduValue → List ℕ → Type 0
SpellsFormerBody (confirmed_request head service) b = SpellsFormerService kind.Confirmed service b
SpellsFormerBody (unconfirmed_request service) b = SpellsFormerService kind.Unconfirmed service b
SpellsFormerBody (complex_ack invoke service) b = SpellsFormerService kind.ComplexAck service b
SpellsFormerBody (error invoke service) b = SpellsFormerService kind.Error service b
SpellsFormerBody apdu b = SpellsBody apdu b

-- The lists that spelled an APDU, by SpellsFormerBody.
abbrev pub SpellsFormerApdu : ApduValue → List ℕ → Type 0
SpellsFormerApdu apdu = Headed (head_of apdu) (SpellsFormerBody apdu)

-- The APDU carries no service whose production has changed since then, by IsUnchanged. That is every APDU except two kinds
-- with choice 16: a request in one piece, and an error.
abbrev pub IsKept : ApduValue → Type 0
IsKept (confirmed_request head service) = IsUnchanged kind.Confirmed service.choice
IsKept (unconfirmed_request service) = IsUnchanged kind.Unconfirmed service.choice
IsKept (complex_ack invoke service) = IsUnchanged kind.ComplexAck service.choice
IsKept (error invoke service) = IsUnchanged kind.Error service.choice
IsKept apdu = Unit {0}
