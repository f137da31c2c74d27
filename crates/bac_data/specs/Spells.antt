-- The lists that spell an open value (clause 20.2).
use Rattle.std.specs.Prelude.{◌≡◌, ℕ, ◌≤◌, List, [], ◌++◌, ◌⊎◌, length}
use Rattle.bac_tag.specs.declared.heads.TagHead.TheVariants.{App, AppBool, Ctx, Open, Close}
use Rattle.bac_tag.specs.Heads.{Heads}
use Rattle.bac_tag.specs.Spelling.{Joins}
use Rattle.bac_value.specs.declared.types.boolean_value.Boolean.{Boolean as BooleanValue}
use Rattle.bac_value.specs.declared.prim.PrimitiveValue.{PrimitiveValue}
use Rattle.bac_value.specs.declared.prim.PrimitiveValue.TheVariants.{Boolean}
use Rattle.bac_value.specs.OctetStringContents.{IsOctetString}
use Rattle.bac_value.specs.PrimContents.{application_number, PrimContents}
use Rattle.bac_data.specs.OpenValue.{Element, primitive, context, group, Elements, none, more, depth}

-- The lists that spell an application Boolean: its head, in any of its spellings, and no more. The head says which Boolean
-- it is.
pub record SpellsBoolean (prim : PrimitiveValue) (b : List ℕ) : Type 0 where
  pub value : BooleanValue
  pub is : prim ≡ Boolean value
  pub headed : Heads (AppBool value.0) b

-- The lists that spell an application primitive other than a Boolean: a head and its contents. The head is an application
-- head with the number of the type and the length of the contents, in any of its spellings. The contents are any of those
-- that spell the value. No Boolean is spelled so, since no head is one of application number 1 with a length.
pub record SpellsContents (prim : PrimitiveValue) (b : List ℕ) : Type 0 where
  pub head : List ℕ
  pub contents : List ℕ
  pub headed : Heads (App (application_number prim) (length contents)) head
  pub spelled : PrimContents prim contents
  pub octets : b ≡ head ++ contents

-- The lists that spell an application primitive: by SpellsBoolean or by SpellsContents.
abbrev pub SpellsPrimitive : PrimitiveValue → List ℕ → Type 0
SpellsPrimitive prim b = SpellsBoolean prim b ⊎ SpellsContents prim b

-- The lists that spell a context primitive: a context head and the contents. The head has the number and the length of the
-- contents, in any of its spellings. The contents may be any octets, at most 1,048,576.
pub record SpellsContext (number : ℕ) (octets b : List ℕ) : Type 0 where
  pub head : List ℕ
  pub headed : Heads (Ctx number (length octets)) head
  pub within : IsOctetString octets
  pub joined : b ≡ head ++ octets

-- The lists that are an opening tag, a list of the inner kind, and a closing tag of the same number.
abbrev pub Encloses : ℕ → (List ℕ → Type 0) → List ℕ → Type 0
Encloses number Inner = Joins (Heads (Open number)) (Joins Inner (Heads (Close number)))

abbrev mutual
  -- The lists that spell an element. The tags of a group enclose its elements.
  pub Spells : Element → List ℕ → Type 0
  Spells (primitive prim) b = SpellsPrimitive prim b
  Spells (context number octets) b = SpellsContext number octets b
  Spells (group number inner) b = Encloses number (SpellsAll inner) b

  -- The lists that spell elements one after another. No elements are spelled by no octets.
  pub SpellsAll : Elements → List ℕ → Type 0
  SpellsAll none b = b ≡ []
  SpellsAll (more element rest) b = Joins (Spells element) (SpellsAll rest) b

-- The lists that spell an open value: its elements enclosed in tags of that number. No more groups nest in it than the
-- limit. The tags themselves are not counted.
pub record SpellsOpen (limit number : ℕ) (value : Elements) (b : List ℕ) : Type 0 where
  pub enclosed : Encloses number (SpellsAll value) b
  pub nested : depth value ≤ limit
