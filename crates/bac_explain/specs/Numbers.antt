-- Pieces as numbers.
use Rattle.std.specs.Prelude.{ℕ, ◌+◌, ◌≤◌, List, length, take}
use Rattle.bac_tag.specs.Heads.{Heads, number_of}
use Rattle.bac_tag.specs.declared.heads.TagHead.{TagHead}
use Rattle.bac_tag.specs.declared.heads.TagHead.TheVariants.{App, AppBool, Ctx, Open, Close}
use Rattle.bac_tag.specs.declared.refusals.Why.{Why}
use Rattle.bac_tag.specs.declared.refusals.Why.TheVariants as why
use Rattle.bac_explain.specs.declared.numbers.PieceNumbers.{PieceNumbers}
use Rattle.bac_explain.specs.declared.piece.Kind.{Kind}
use Rattle.bac_explain.specs.declared.piece.Kind.TheVariants as kind
use Rattle.bac_explain.specs.declared.piece.Piece.{Piece}
use Rattle.bac_explain.specs.Tiles.{octets_of}

-- The number of a kind, 1 to 36, in their order. These numbers never change.
abbrev pub kind_number : Kind → ℕ
kind_number kind.Version = 1
kind_number kind.Control = 2
kind_number kind.DestinationNetwork = 3
kind_number kind.DestinationLength = 4
kind_number kind.DestinationAddress = 5
kind_number kind.SourceNetwork = 6
kind_number kind.SourceLength = 7
kind_number kind.SourceAddress = 8
kind_number kind.HopCount = 9
kind_number kind.Addresses = 10
kind_number kind.MessageType = 11
kind_number kind.Vendor = 12
kind_number kind.Data = 13
kind_number kind.ConfirmedRequest = 14
kind_number kind.RequestSegment = 15
kind_number kind.UnconfirmedRequest = 16
kind_number kind.SimpleAck = 17
kind_number kind.ComplexAck = 18
kind_number kind.AckSegment = 19
kind_number kind.SegmentAck = 20
kind_number kind.Error = 21
kind_number kind.Reject = 22
kind_number kind.Abort = 23
kind_number kind.Accepted = 24
kind_number kind.InvokeId = 25
kind_number kind.Sequence = 26
kind_number kind.Window = 27
kind_number kind.Choice = 28
kind_number kind.Reason = 29
kind_number kind.PduHead = 30
kind_number (kind.Element tag) = 31
kind_number (kind.Unjudged tag) = 32
kind_number kind.Segment = 33
kind_number kind.Octets = 34
kind_number (kind.Refused reason) = 35
kind_number kind.Rest = 36

-- The number of a reason, 1 to 12, in their order.
abbrev pub reason_number : Why → ℕ
reason_number why.Short = 1
reason_number why.Trailing = 2
reason_number why.Version = 3
reason_number why.Address = 4
reason_number why.PduType = 5
reason_number why.Window = 6
reason_number why.Tag = 7
reason_number why.Length = 8
reason_number why.Content = 9
reason_number why.Depth = 10
reason_number why.NotCanonical = 11
reason_number why.OutOfMemory = 12

-- The number of a tag's class: 1 application, 2 context, 3 opening, 4 closing.
abbrev pub class_number : TagHead → ℕ
class_number (App number len) = 1
class_number (AppBool value) = 1
class_number (Ctx number len) = 2
class_number (Open number) = 3
class_number (Close number) = 4

-- The class and the number of the tag of a kind, or 0 and the number of its reason.
abbrev pub tag_numbers : Kind → ℕ × ℕ
tag_numbers (kind.Element tag) = (class_number tag, number_of tag)
tag_numbers (kind.Unjudged tag) = (class_number tag, number_of tag)
tag_numbers (kind.Refused reason) = (0, reason_number reason)
tag_numbers _ = (0, 0)

-- A piece as numbers.
abbrev pub numbers_of : Piece → PieceNumbers
numbers_of p = record {
  place = p.place;
  length = p.length;
  head = p.head;
  depth = p.depth;
  kind = kind_number p.kind;
  tag = (tag_numbers p.kind).0;
  number = (tag_numbers p.kind).1;
}

-- The kind has neither a tag nor a reason.
abbrev pub IsPlain : Kind → Type 0
IsPlain (kind.Element tag) = ⊥
IsPlain (kind.Unjudged tag) = ⊥
IsPlain (kind.Refused reason) = ⊥
IsPlain _ = Unit {0}

-- The octets of a piece begin with the tag head of its kind, if it has one, and so many of them are that head.
abbrev pub BeginsWith : List ℕ → ℕ → Kind → Type 0
BeginsWith own head (kind.Element tag) = (head ≤ length own) × Heads tag (take head own)
BeginsWith own head (kind.Unjudged tag) = (head ≤ length own) × Heads tag (take head own)
BeginsWith own head _ = Unit {0}

-- The piece is within the octets, and its own octets begin with its tag head.
pub record IsPieceOf (octets : List ℕ) (p : Piece) : Type 0 where
  pub within : p.place + p.length ≤ length octets
  pub begins : BeginsWith (octets_of octets p) p.head p.kind
