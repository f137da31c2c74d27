-- The text of frames.
use Rattle.std.specs.Prelude.{ℕ, List, [], ◌∷◌, ◌++◌, codes}
use Rattle.bac_npdu_parts.specs.Addresses.{SourceValue, DestinationValue}
use Rattle.bac_npdu_parts.specs.Frames.{FrameValue, BodyValue, apdu, message}
use Rattle.bac_record.specs.Digits.{hexadecimal}
use Rattle.bac_text.specs.Words.{number, truth, field, optional}
use Rattle.bac_text.specs.ApduText.{apdu_text}
use Rattle.bac_text.specs.MessageText.{message_text}

-- The text of an address: hexadecimal digits, or * if it has no octets. An address without octets is that of every
-- device on its network.
abbrev pub address_text : List ℕ → List ℕ
address_text [] = codes "*"
address_text (octet ∷ octets) = hexadecimal (octet ∷ octets)

-- The text of a destination: network, address and hop count.
abbrev pub destination_text : DestinationValue → List ℕ
destination_text destination = number destination.network ++ field "/" (address_text destination.address) ++ field " hops=" (number destination.hops)

-- The text of a source: network and address.
abbrev pub source_text : SourceValue → List ℕ
source_text source = number source.network ++ field "/" (hexadecimal source.address)

-- The text of the body of a frame, which is an APDU or a network message.
abbrev pub body_text : BodyValue → List ℕ
body_text (apdu a) = apdu_text a
body_text (message m) = message_text m

-- The whole line of a frame without its end. Its parts are the priority, whether a reply is expected, destination and
-- source if they are there, and the text of the body.
abbrev pub text : FrameValue → List ℕ
text frame =
    field "prio=" (number frame.priority) ++ field " reply=" (truth frame.reply) ++ optional " dest=" destination_text frame.destination ++ optional " src=" source_text frame.source
    ++ field " " (body_text frame.body)
