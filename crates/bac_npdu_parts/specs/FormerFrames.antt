-- The frames as they were spelled while WritePropertyMultiple and its error were opaque and at most 16 groups nested.
use Rattle.std.specs.Prelude.{◌≡◌, ℕ, ◌||◌, nat_lt, nat_eq, Bool, true, false, List, []}
use Rattle.bac_tag.specs.HeadOctets.{Headed}
use Rattle.bac_apdu.specs.FormerApdus.{SpellsFormerApdu, IsKept as IsKeptApdu}
use Rattle.bac_npdu_parts.specs.MessageTypes.{is_typed, IsVendored}
use Rattle.bac_npdu_parts.specs.Messages.{MessageValue, opaque, octets_of, type_of}
use Rattle.bac_npdu_parts.specs.Frames.{BodyValue, apdu, message, FrameValue, Framed}

-- Whether network messages of this type had a layout then. The types 0 to 9, 18 and 19 had one.
abbrev pub had_layout : ℕ → Bool
had_layout kind = nat_lt kind 10 || (nat_eq kind 18 || nat_eq kind 19)

-- The message is one that was a network message then: of a type that had a layout, or opaque and of another type. An opaque
-- message has a vendor exactly where its type is from 128 on (IsVendored).
abbrev pub WasMessage : MessageValue → Type 0
WasMessage (opaque m) = (had_layout m.kind ≡ false) × IsVendored m.kind m.vendor
WasMessage m = had_layout (type_of m) ≡ true

-- The list that spelled a network message then: its octets_of, if it was a message (WasMessage).
abbrev pub SpellsFormerMessage : MessageValue → List ℕ → Type 0
SpellsFormerMessage m b = WasMessage m × Headed (octets_of m) (λ rest. rest ≡ []) b

-- The lists that spelled a body then. They are as in SpellsBody, but with SpellsFormerApdu for an APDU and
-- SpellsFormerMessage for a network message.
abbrev pub SpellsFormerBody : BodyValue → List ℕ → Type 0
SpellsFormerBody (apdu a) = SpellsFormerApdu a
SpellsFormerBody (message m) = SpellsFormerMessage m

-- The lists that spelled a frame then. They are as in SpellsFrame, but with SpellsFormerBody for the body.
abbrev pub SpellsFormerFrame : FrameValue → List ℕ → Type 0
SpellsFormerFrame f = Framed f (SpellsFormerBody f.body)

-- The body is of a kind that has not changed since then: a network message of a type that has a layout exactly if it had one,
-- or an APDU that is kept. These are the bodies of all frames but those with a request in one piece or an error of choice 16,
-- or with a network message of a type that has a layout now and had none.
abbrev pub IsKept : BodyValue → Type 0
IsKept (apdu a) = IsKeptApdu a
IsKept (message m) = had_layout (type_of m) ≡ is_typed (type_of m)
