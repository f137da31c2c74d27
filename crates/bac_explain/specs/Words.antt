-- The words of a piece.
use Rattle.std.specs.Prelude.{◌≡◌, ◌⊎◌, ◌≤◌, ℕ, ◌+◌, ◌*◌, ◌/◌, ◌%◌, nat_eq, nat_lt, Bool, true, false, if◌then◌else◌, List, [], ◌∷◌, ◌++◌, drop, length, codes}
use Rattle.std.specs.Fmt.{decimal}
use Rattle.bac_tag.specs.declared.heads.TagHead.{TagHead}
use Rattle.bac_tag.specs.declared.heads.TagHead.TheVariants.{App, AppBool, Ctx, Open, Close}
use Rattle.bac_tag.specs.declared.refusals.Why.{Why}
use Rattle.bac_tag.specs.declared.refusals.Why.TheVariants as why
use Rattle.bac_tag.specs.Refusals.{name_of}
use Rattle.bac_value.specs.PrimContents.{IsWrittenOf}
use Rattle.bac_record.specs.Digits.{hexadecimal}
use Rattle.bac_text.specs.PrimitiveText.{primitive_text}
use Rattle.bac_explain.specs.declared.piece.Kind.{Kind}
use Rattle.bac_explain.specs.declared.piece.Kind.TheVariants as kind
use Rattle.bac_explain.specs.declared.piece.Piece.{Piece}

-- What a piece of a kind is, in a few words.
abbrev pub word_of : Kind → List ℕ
word_of kind.Version = codes "version"
word_of kind.Control = codes "control"
word_of kind.DestinationNetwork = codes "destination network"
word_of kind.DestinationLength = codes "destination address length"
word_of kind.DestinationAddress = codes "destination address"
word_of kind.SourceNetwork = codes "source network"
word_of kind.SourceLength = codes "source address length"
word_of kind.SourceAddress = codes "source address"
word_of kind.HopCount = codes "hop count"
word_of kind.Addresses = codes "addresses that are not whole"
word_of kind.MessageType = codes "network message"
word_of kind.Vendor = codes "vendor"
word_of kind.Data = codes "data"
word_of kind.ConfirmedRequest = codes "Confirmed-Request"
word_of kind.RequestSegment = codes "Confirmed-Request, a segment"
word_of kind.UnconfirmedRequest = codes "Unconfirmed-Request"
word_of kind.SimpleAck = codes "SimpleACK"
word_of kind.ComplexAck = codes "ComplexACK"
word_of kind.AckSegment = codes "ComplexACK, a segment"
word_of kind.SegmentAck = codes "SegmentACK"
word_of kind.Error = codes "Error"
word_of kind.Reject = codes "Reject"
word_of kind.Abort = codes "Abort"
word_of kind.Accepted = codes "accepted answers"
word_of kind.InvokeId = codes "invoke id"
word_of kind.Sequence = codes "sequence number"
word_of kind.Window = codes "window"
word_of kind.Choice = codes "service choice"
word_of kind.Reason = codes "reason"
word_of kind.PduHead = codes "a head that is not whole"
word_of (kind.Element head) = codes "tag"
word_of (kind.Unjudged head) = codes "tag (not judged)"
word_of kind.Segment = codes "octets of a segment"
word_of kind.Octets = codes "octets"
word_of (kind.Refused why) = codes "refused"
word_of kind.Rest = codes "not read"

-- Whether the octets of a kind are a number.
abbrev pub has_number : Kind → Bool
has_number kind.Version = true
has_number kind.DestinationNetwork = true
has_number kind.DestinationLength = true
has_number kind.SourceNetwork = true
has_number kind.SourceLength = true
has_number kind.HopCount = true
has_number kind.MessageType = true
has_number kind.Vendor = true
has_number kind.InvokeId = true
has_number kind.Sequence = true
has_number kind.Window = true
has_number kind.Choice = true
has_number kind.Reason = true
has_number _ = false

-- The number that one or two octets are, the higher one first, and 0 of others.
abbrev pub number_in : List ℕ → ℕ
number_in (a ∷ []) = a
number_in (a ∷ b ∷ []) = 256 * a + b
number_in _ = 0

-- The first octet, or 0 if there is none.
abbrev pub first_in : List ℕ → ℕ
first_in [] = 0
first_in (a ∷ rest) = a

-- The word of a kind, and the number of its octets if they are one.
abbrev pub numbered_words : Kind → List ℕ → List ℕ
numbered_words k own = word_of k ++ (if has_number k then codes " " ++ decimal (number_in own) else [])

-- Whether a reply is expected, by bit 2 of a control octet (clause 6.2.2).
abbrev pub reply_words : ℕ → List ℕ
reply_words octet = if nat_eq (octet / 4 % 2) 0 then codes "no reply expected" else codes "reply expected"

-- What a control octet says: whether a reply is expected, and the priority (clause 6.2.2).
abbrev pub control_words : ℕ → List ℕ
control_words octet = (codes "control: " ++ reply_words octet) ++ (codes ", priority " ++ decimal (octet % 4))

-- How many segments of an answer are accepted, by the number that encodes it (clause 20.1.2.4).
abbrev pub segments_words : ℕ → List ℕ
segments_words n =
    if nat_eq n 0 then codes "unspecified" else
    if nat_eq n 1 then codes "2" else
    if nat_eq n 2 then codes "4" else
    if nat_eq n 3 then codes "8" else
    if nat_eq n 4 then codes "16" else
    if nat_eq n 5 then codes "32" else
    if nat_eq n 6 then codes "64" else codes "more than 64"

-- The octets of the longest APDU that is accepted, by the number that encodes it; those above 5 are reserved (clause 20.1.2.5).
abbrev pub longest_apdu : ℕ → ℕ
longest_apdu n = if nat_eq n 0 then 50 else if nat_eq n 1 then 128 else if nat_eq n 2 then 206 else if nat_eq n 3 then 480 else if nat_eq n 4 then 1024 else 1476

-- How long an APDU is accepted, by the number that encodes it.
abbrev pub apdu_words : ℕ → List ℕ
apdu_words n = if nat_lt n 6 then codes ", APDU up to " ++ decimal (longest_apdu n) else codes ", APDU of reserved length " ++ decimal n

-- Which answers are accepted: how many segments, and how long an APDU.
abbrev pub accepted_words : ℕ → List ℕ
accepted_words octet = (codes "segments accepted: " ++ segments_words (octet / 16 % 8)) ++ apdu_words (octet % 16)

-- A number in brackets.
abbrev pub bracketed : ℕ → List ℕ
bracketed number = codes "[" ++ (decimal number ++ codes "]")

-- The contents of a tag as digits, after a blank, or nothing if there are none.
abbrev pub digit_words : List ℕ → List ℕ
digit_words [] = []
digit_words (octet ∷ octets) = codes " " ++ hexadecimal (octet ∷ octets)

-- The contents of a tag whose head says this length, or the length if some of them are missing.
abbrev pub contents_words : ℕ → List ℕ → List ℕ
contents_words len contents = if nat_eq (length contents) len then digit_words contents else codes " of length " ++ decimal len

-- They are the contents that are written of a value of the type with this application number, and all that the head says.
abbrev pub IsValue : ℕ → ℕ → List ℕ → Type 0
IsValue number len contents = (length contents ≡ len) × (number ≤ 12) × IsWrittenOf number contents

-- What is said of an application tag and its contents: the value as it is shown, or the contents if they are not what is written
-- of a value.
abbrev pub IsSaidOfValue : ℕ → ℕ → List ℕ → List ℕ → Type 0
IsSaidOfValue number len contents text =
    ((is : IsValue number len contents) × (text ≡ primitive_text is.2.value))
    ⊎ ((IsValue number len contents → ⊥) × (text ≡ (codes "type " ++ decimal number) ++ contents_words len contents))

-- What is said of a tag head and its contents (clause 20.2.1).
abbrev pub IsSaidOfTag : TagHead → List ℕ → List ℕ → Type 0
IsSaidOfTag (App number len) contents text = IsSaidOfValue number len contents text
IsSaidOfTag (AppBool value) contents text = text ≡ (if value then codes "true" else codes "false")
IsSaidOfTag (Ctx number len) contents text = text ≡ bracketed number ++ contents_words len contents
IsSaidOfTag (Open number) contents text = text ≡ bracketed number ++ codes " {"
IsSaidOfTag (Close number) contents text = text ≡ codes "}"

-- The same, in a service without a production.
abbrev pub IsSaidUnjudged : TagHead → List ℕ → List ℕ → Type 0
IsSaidUnjudged head contents text = (said : List ℕ) × IsSaidOfTag head contents said × (text ≡ said ++ codes " (not judged)")

-- What a reason means.
abbrev pub sentence_of : Why → List ℕ
sentence_of why.Short = codes ": the octets end, and more must come"
sentence_of why.Trailing = codes ": the octets before it are whole"
sentence_of why.Version = codes ": the version is 1"
sentence_of why.Address = codes ": a source address has octets"
sentence_of why.PduType = codes ": no APDU has this type"
sentence_of why.Window = codes ": a window is 1 to 127"
sentence_of why.Tag = codes ": a tag that cannot be here"
sentence_of why.Length = codes ": a length that cannot be here"
sentence_of why.Content = codes ": contents that no value has here"
sentence_of why.Depth = codes ": a group inside too many others"
sentence_of why.NotCanonical = codes ": tolerated, and not canonical"
sentence_of why.OutOfMemory = codes ": memory was refused"

-- Why octets are refused.
abbrev pub refused_words : Why → List ℕ
refused_words reason = codes "<- " ++ (name_of reason ++ sentence_of reason)

-- What is said of a piece of a kind with these octets, of which so many are a tag head.
abbrev pub IsSaidOf : Kind → ℕ → List ℕ → List ℕ → Type 0
IsSaidOf kind.Control head own text = text ≡ control_words (first_in own)
IsSaidOf kind.Accepted head own text = text ≡ accepted_words (first_in own)
IsSaidOf (kind.Element tag) head own text = IsSaidOfTag tag (drop head own) text
IsSaidOf (kind.Unjudged tag) head own text = IsSaidUnjudged tag (drop head own) text
IsSaidOf (kind.Refused reason) head own text = text ≡ refused_words reason
IsSaidOf k head own text = text ≡ numbered_words k own

-- What is said of a piece with these octets.
abbrev pub IsSaid : Piece → List ℕ → List ℕ → Type 0
IsSaid p own text = IsSaidOf p.kind p.head own text
