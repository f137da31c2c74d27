-- What can be at the place of a refusal.
use Rattle.std.specs.Prelude.{◌≡◌, ℕ, Option, None, Some, List, [], ◌++◌, codes}
use Rattle.std.specs.Fmt.{decimal}
use Rattle.bac_tag.specs.declared.heads.TagHead.{TagHead}
use Rattle.bac_tag.specs.declared.heads.TagHead.TheVariants.{App, AppBool, Ctx, Open, Close}
use Rattle.bac_field_parts.specs.declared.field.Field.{Field}
use Rattle.bac_field_parts.specs.Names.{word_of}
use Rattle.bac_explain.specs.declared.label.Label.{Label}
use Rattle.bac_explain.specs.declared.piece.Kind.{Kind}
use Rattle.bac_explain.specs.declared.piece.Kind.TheVariants as kind
use Rattle.bac_explain.specs.declared.piece.Piece.{Piece}
use Rattle.bac_explain.specs.Labels.{IsLabel, within}
use Rattle.bac_explain.specs.Words.{bracketed}

-- The word of a field after a blank, if there is one.
abbrev pub label_words : Option Label → List ℕ
label_words None = []
label_words (Some label) = codes " " ++ word_of label.name

-- The number of a type of primitive values.
abbrev pub type_words : ℕ → List ℕ
type_words number = codes "type " ++ decimal number

-- A tag, with the word of the field that begins with it.
abbrev pub tag_hint : TagHead → Option Label → List ℕ
tag_hint (App number len) label = type_words number ++ label_words label
tag_hint (AppBool value) label = type_words 1 ++ label_words label
tag_hint (Ctx number len) label = bracketed number ++ label_words label
tag_hint (Open number) label = bracketed number ++ (label_words label ++ codes " {")
tag_hint (Close number) label = codes "}"

-- That a tag can be at the place of a refusal. Nothing is said of what has no tag.
abbrev pub hint_words : Kind → Option Label → List ℕ
hint_words (kind.Element tag) label = codes "; possible here: " ++ tag_hint tag label
hint_words k label = []

-- That this piece can be at the place of a refusal, with the name of the field that begins in it.
abbrev pub IsHint : List Field → Option Piece → List ℕ → Type 0
IsHint fields None text = text ≡ []
IsHint fields (Some q) text = (label : Option Label) × IsLabel (within q fields) q label × (text ≡ hint_words q.kind label)
