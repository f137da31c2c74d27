-- An open value: what is between an opening and a closing tag where the standard says "any" (clause 20.2).
-- An Any is seen as such a value. A builder is seen as the list of its events. A walk is seen as the list of the events
-- that it has not given yet.
use Rattle.std.specs.Prelude.{ℕ, suc, ◌≤◌, max, List}
use Rattle.bac_value.specs.declared.prim.PrimitiveValue.{PrimitiveValue}
use Rattle.bac_value.specs.OctetStringContents.{IsOctetString}
use Rattle.bac_value.specs.PrimContents.{IsPrim}

mutual
  -- An element is an application primitive, a context primitive or a group. An application primitive is a value of any
  -- primitive type. A context primitive has its number and its contents. A group has its number and its elements.
  pub data Element : Type 0 where
    primitive : PrimitiveValue → Element
    context : ℕ → List ℕ → Element
    group : ℕ → Elements → Element

  -- A list of elements, which is an open value.
  pub data Elements : Type 0 where
    none : Elements
    more : Element → Elements → Elements

abbrev mutual
  -- How deep groups nest in an element: 0 for a primitive, and for a group one more than in its elements.
  pub element_depth : Element → ℕ
  element_depth (primitive prim) = 0
  element_depth (context number octets) = 0
  element_depth (group number inner) = suc (depth inner)

  -- How deep groups nest in a list of elements: as deep as in the deepest of them.
  pub depth : Elements → ℕ
  depth none = 0
  depth (more element rest) = max (element_depth element) (depth rest)

abbrev mutual
  -- Each number and each length in the element is in its range. An application primitive is a value of its type. The
  -- numbers of context primitives and of groups are 0 to 254. The contents of a context primitive are octets, at most
  -- 1,048,576.
  pub IsElement : Element → Type 0
  IsElement (primitive prim) = IsPrim prim
  IsElement (context number octets) = (number ≤ 254) × IsOctetString octets
  IsElement (group number inner) = (number ≤ 254) × AreElements inner

  -- IsElement holds of each element of the list.
  pub AreElements : Elements → Type 0
  AreElements none = Unit {0}
  AreElements (more element rest) = IsElement element × AreElements rest

-- The list is an open value: AreElements holds of it, and no more groups nest than the limit.
abbrev pub IsOpenValue : ℕ → Elements → Type 0
IsOpenValue limit value = AreElements value × (depth value ≤ limit)
