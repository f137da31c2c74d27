-- The words of a text. A text is a list of octets. Each is a character of ASCII, except the characters of a text in
-- UTF-8.
use Rattle.std.specs.Prelude.{ℕ, Bool, Option, List, [], ◌++◌, codes, if◌then◌else◌}
use Rattle.std.specs.Fmt.{decimal}
use Rattle.std.specs.List.{join_by}
use Rattle.std.specs.Option.{option_map_or}
use Prim.Native.String.{String}
use Rattle.bac_value.specs.Identifier.{Identifier}

-- A number in decimal digits, without leading zeros.
abbrev pub number : ℕ → List ℕ
number = decimal

-- A truth value as 0 or 1.
abbrev pub truth : Bool → List ℕ
truth value = if value then codes "1" else codes "0"

-- A name, and a text after it.
abbrev pub field : String → List ℕ → List ℕ
field name text = codes name ++ text

-- A name, and the text of a part that may be absent, or no text if it is absent.
abbrev pub optional : {X : Type 0} → String → (X → List ℕ) → Option X → List ℕ
optional name text part = option_map_or (λ there. field name (text there)) part []

-- Items in parentheses, with a blank between two.
abbrev pub listed : {X : Type 0} → (X → List ℕ) → List X → List ℕ
listed text items = codes "(" ++ join_by text (codes " ") items ++ codes ")"

-- The text of an object identifier: type, colon, instance.
abbrev pub object_text : Identifier → List ℕ
object_text object = number object.kind ++ field ":" (number object.instance)
