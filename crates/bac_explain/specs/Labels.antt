-- The names of pieces.
use Rattle.std.specs.Prelude.{◌≡◌, ℕ, ◌+◌, ◌/◌, ◌%◌, ◌^◌, nat_lt, Bool, true, false, Option, None, Some, List, [], ◌∷◌, ◌++◌, drop, codes, if◌then◌else◌}
use Rattle.std.specs.Fmt.{decimal}
use Rattle.std.specs.List.{AllByRecursion}
use Rattle.bac_tag.specs.declared.heads.TagHead.{TagHead}
use Rattle.bac_tag.specs.declared.heads.TagHead.TheVariants.{App, Ctx, Open}
use Rattle.bac_field_parts.specs.declared.field.Field.{Field}
use Rattle.bac_field_parts.specs.declared.names.Name.{Name}
use Rattle.bac_field_parts.specs.declared.names.Name.TheVariants as name
use Rattle.bac_field_parts.specs.Names.{number_of, word_of}
use Rattle.bac_explain.specs.declared.label.Label.{Label}
use Rattle.bac_explain.specs.declared.piece.Kind.{Kind}
use Rattle.bac_explain.specs.declared.piece.Kind.TheVariants as kind
use Rattle.bac_explain.specs.declared.piece.Piece.{Piece}
use Rattle.bac_explain.specs.FieldPieces.{BeginsIn}
use Rattle.bac_explain.specs.Words.{IsSaidOf, IsSaidOfTag, bracketed, numbered_words}

-- The fields from the first one on that does not begin before a piece.
abbrev pub ahead : Piece → List Field → List Field
ahead p [] = []
ahead p (f ∷ fs) = if nat_lt f.place p.place then ahead p fs else f ∷ fs

-- The fields before the first one that begins after a piece.
abbrev pub within : Piece → List Field → List Field
within p [] = []
within p (f ∷ fs) = if nat_lt f.place (p.place + p.length) then f ∷ within p fs else []

-- It is one of the fields, and begins in the piece, and this is its name and its number.
pub record IsLabelOf (fields : List Field) (p : Piece) (label : Label) : Type 0 where
  pub field : Field
  pub before : List Field
  pub after : List Field
  pub among : fields ≡ before ++ field ∷ after
  pub begins : BeginsIn field p
  pub named : field.name ≡ number_of label.name
  pub numbered : field.number ≡ label.number

-- The field has no name, or does not begin in the piece.
abbrev pub IsElsewhere : Piece → Field → Type 0
IsElsewhere p f = BeginsIn f p → (n : Name) → f.name ≡ number_of n → ⊥

-- No field with a name begins in the piece, or this is the label of one that does.
abbrev pub IsLabel : List Field → Piece → Option Label → Type 0
IsLabel fields p None = AllByRecursion (IsElsewhere p) fields
IsLabel fields p (Some label) = IsLabelOf fields p label

-- The names of parts of services that are numbers.
abbrev pub is_part : Name → Bool
is_part name.Vendor = true
is_part name.Object = true
is_part name.Property = true
is_part name.Index = true
is_part name.Priority = true
is_part name.Process = true
is_part name.Device = true
is_part name.Confirmed = true
is_part name.Lifetime = true
is_part name.Remaining = true
is_part name.Low = true
is_part name.High = true
is_part name.MaxApdu = true
is_part name.Segmentation = true
is_part name.ErrorClass = true
is_part name.ErrorCode = true
is_part _ = false

-- Those of them whose number is an object identifier.
abbrev pub is_object : Name → Bool
is_object name.Object = true
is_object name.Device = true
is_object _ = false

-- The names of groups with a word.
abbrev pub is_group : Name → Bool
is_group name.Properties = true
is_group name.Results = true
is_group name.Values = true
is_group name.PropertyError = true
is_group name.Value = true
is_group _ = false

-- The names of services.
abbrev pub is_service : Name → Bool
is_service name.ReadProperty = true
is_service name.ReadPropertyMultiple = true
is_service name.WriteProperty = true
is_service name.WritePropertyMultiple = true
is_service name.WhoIs = true
is_service name.IAm = true
is_service name.SubscribeCov = true
is_service name.ConfirmedCovNotification = true
is_service name.UnconfirmedCovNotification = true
is_service _ = false

-- The names of parts of network messages that are numbers.
abbrev pub is_datum : Name → Bool
is_datum name.Network = true
is_datum name.ListedNetwork = true
is_datum name.Performance = true
is_datum name.PortId = true
is_datum name.Reason = true
is_datum name.Time = true
is_datum name.Flag = true
is_datum _ = false

-- The word of a part of a network message, and its number if it is one.
abbrev pub data_words : Label → List ℕ
data_words label = word_of label.name ++ (if is_datum label.name then codes " " ++ decimal label.number else [])

-- An object identifier as type and instance.
abbrev pub object_words : ℕ → List ℕ
object_words bits = decimal (bits / 2 ^ 22) ++ (codes ":" ++ decimal (bits % 2 ^ 22))

-- The word of a part, and its number.
abbrev pub part_words : Label → List ℕ
part_words label = word_of label.name ++ (codes " " ++ (if is_object label.name then object_words label.number else decimal label.number))

-- The first if it is so, otherwise the second.
abbrev pub Either : Bool → Type 0 → Type 0 → Type 0
Either true first second = first
Either false first second = second

-- What is said of a tag head and its contents with a label: for a part its word and its number, for a group its word.
abbrev pub IsSaidOfNamed : Label → TagHead → List ℕ → List ℕ → Type 0
IsSaidOfNamed label (App number len) contents text = Either (is_part label.name) (text ≡ part_words label) (IsSaidOfTag (App number len) contents text)
IsSaidOfNamed label (Ctx number len) contents text = Either (is_part label.name) (text ≡ bracketed number ++ (codes " " ++ part_words label)) (IsSaidOfTag (Ctx number len) contents text)
IsSaidOfNamed label (Open number) contents text = Either (is_group label.name) (text ≡ bracketed number ++ (codes " " ++ (word_of label.name ++ codes " {"))) (IsSaidOfTag (Open number) contents text)
IsSaidOfNamed label tag contents text = IsSaidOfTag tag contents text

-- What is said of a piece of a kind with a label and these octets, of which so many are a tag head. A service choice has the word
-- of the service, and data of a network message that of the field.
abbrev pub IsNamedOf : Label → Kind → ℕ → List ℕ → List ℕ → Type 0
IsNamedOf label (kind.Element tag) head own text = IsSaidOfNamed label tag (drop head own) text
IsNamedOf label kind.Choice head own text = Either (is_service label.name) (text ≡ numbered_words kind.Choice own ++ (codes " " ++ word_of label.name)) (IsSaidOf kind.Choice head own text)
IsNamedOf label kind.Data head own text = text ≡ data_words label
IsNamedOf label k head own text = IsSaidOf k head own text

-- What is said of a piece with these octets and this label, if it has one.
abbrev pub IsNamed : Option Label → Piece → List ℕ → List ℕ → Type 0
IsNamed None p own text = IsSaidOf p.kind p.head own text
IsNamed (Some label) p own text = IsNamedOf label p.kind p.head own text
