-- The text of open values.
use Rattle.std.specs.Prelude.{ℕ, List, [], ◌++◌, codes}
use Rattle.bac_data.specs.OpenValue.{Element, primitive, context, group, Elements, none, more}
use Rattle.bac_record.specs.Digits.{hexadecimal}
use Rattle.bac_text.specs.Words.{number, field}
use Rattle.bac_text.specs.PrimitiveText.{primitive_text}

abbrev mutual
  -- The text of an element: a primitive by its type, a context primitive as [N] and its octets, and a group as [N]
  -- and its elements in braces.
  pub element_text : Element → List ℕ
  element_text (primitive prim) = primitive_text prim
  element_text (context tag octets) = field "[" (number tag) ++ field "]" (hexadecimal octets)
  element_text (group tag inner) = field "[" (number tag) ++ field "]{" (elements_text inner) ++ codes "}"

  -- The text of elements, with a blank between two.
  pub elements_text : Elements → List ℕ
  elements_text none = []
  elements_text (more element rest) = element_text element ++ further_text rest

  -- The text of elements that follow another one, each with a blank before it.
  pub further_text : Elements → List ℕ
  further_text none = []
  further_text (more element rest) = field " " (element_text element) ++ further_text rest

-- The text of an open value: its elements in braces.
abbrev pub open_text : Elements → List ℕ
open_text value = field "{" (elements_text value) ++ codes "}"
