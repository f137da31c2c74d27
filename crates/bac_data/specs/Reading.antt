-- What may be next between the tags of an open value, as a reader meets it. These are the words for one step of read_any.
-- An item is what one step reads: a primitive with its contents as they are in the input, or a tag. An application
-- primitive other than a Boolean also says whether its contents are those that are written of their value.
use Rattle.std.specs.Prelude.{◌≡◌, ◌≢◌, ◌↔◌, ℕ, Bool, true, false, IsTrue, ◌<◌, ◌≤◌, None, Some, List, [], ◌∷◌, ◌++◌, length, take}
use Rattle.bac_tag.specs.declared.heads.TagHead.{TagHead}
use Rattle.bac_tag.specs.declared.heads.TagHead.TheVariants.{App, AppBool, Ctx, Open, Close}
use Rattle.bac_tag.specs.Heads.{Heads}
use Rattle.bac_tag.specs.Spelling.{IsLeast}
use Rattle.bac_tag.specs.declared.expecting.Expected.{Expected}
use Rattle.bac_tag.specs.declared.expecting.Expected.TheVariants as expected
use Rattle.bac_value.specs.declared.prim.PrimitiveValue.{PrimitiveValue}
use Rattle.bac_value.specs.declared.prim.PrimitiveValue.TheVariants.{Boolean}
use Rattle.bac_value.specs.OctetStringContents.{IsOctetString}
use Rattle.bac_value.specs.PrimContents.{ContentsOf, IsWrittenOf, prim_written}
use Rattle.bac_value.specs.PrimOfContents.{prim_of_contents}
use Rattle.bac_data.specs.declared.items.Item.{Item}
use Rattle.bac_data.specs.declared.items.Item.TheVariants as item
use Rattle.bac_data.specs.Events.{Event, application, contextual, opening, closing, SpellsEvent}

-- The event may be next where a reader is: an opening if room is true, a closing with this number, any primitive. room says
-- whether a group can begin there. The number is that of the innermost group, or of the value if no group is open.
abbrev pub MayStand : Bool → ℕ → Event → Type 0
MayStand room number (application prim) = Unit {0}
MayStand room number (contextual m octets) = Unit {0}
MayStand room number (opening m) = IsTrue room
MayStand room number (closing m) = m ≡ number

-- The lists that spell an event that may be next where a reader is, by MayStand.
pub record SpellsStanding (room : Bool) (number : ℕ) (event : Event) (b : List ℕ) : Type 0 where
  pub stands : MayStand room number event
  pub spelled : SpellsEvent event b

-- The heads of the openings that may be next, as expected heads: those of any number if room is true, and else none.
abbrev pub group_heads : Bool → List Expected
group_heads true = expected.Open None ∷ []
group_heads false = []

-- The heads of the events that may be next, as expected heads. group_heads are the openings among them.
abbrev pub next_heads : Bool → ℕ → List Expected
next_heads room number =
    expected.App 0 0 0
    ∷ expected.App 2 1 8
    ∷ expected.App 3 1 8
    ∷ expected.App 4 4 4
    ∷ expected.App 5 8 8
    ∷ expected.App 6 0 1048576
    ∷ expected.App 7 1 1048576
    ∷ expected.App 8 1 1048576
    ∷ expected.App 9 1 8
    ∷ expected.App 10 4 4
    ∷ expected.App 11 4 4
    ∷ expected.App 12 4 4
    ∷ expected.AppBool
    ∷ expected.Ctx None 0 1048576
    ∷ expected.Close (Some number)
    ∷ group_heads room

-- The event that an item is.
abbrev pub item_event : Item → Event
item_event (item.Boolean bit) = application (Boolean (record { 0 = bit }))
item_event (item.Application number contents written) = application (prim_of_contents number contents.now)
item_event (item.Context number octets) = contextual number octets.now
item_event (item.Open number) = opening number
item_event (item.Close number) = closing number

-- The contents of an item as they are in the input. A tag has none, and an application Boolean has none.
abbrev pub item_contents : Item → List ℕ
item_contents (item.Boolean bit) = []
item_contents (item.Application number contents written) = contents.now
item_contents (item.Context number octets) = octets.now
item_contents (item.Open number) = []
item_contents (item.Close number) = []

-- The head before the contents of an item, with their length.
abbrev pub item_head : Item → TagHead
item_head (item.Boolean bit) = AppBool bit
item_head (item.Application number contents written) = App number (length contents.now)
item_head (item.Context number octets) = Ctx number (length octets.now)
item_head (item.Open number) = Open number
item_head (item.Close number) = Close number

-- The contents of the item are those of a value, and its number is one of its kind. What an application primitive other
-- than a Boolean says of its contents is right, which is whether they are those that are written of their value.
abbrev pub IsItem : Item → Type 0
IsItem (item.Boolean bit) = Unit {0}
IsItem (item.Application number contents written) = (number ≤ 12) × (number ≢ 1) × ((prim : PrimitiveValue) × ContentsOf number prim contents.now) × (IsTrue written ↔ IsWrittenOf number contents.now)
IsItem (item.Context number octets) = (number ≤ 254) × IsOctetString octets.now
IsItem (item.Open number) = number ≤ 254
IsItem (item.Close number) = number ≤ 254

-- If the item is an application primitive, its contents are those that are written of their value.
abbrev pub HasLeastContents : Item → Type 0
HasLeastContents (item.Application number contents written) = (prim : PrimitiveValue) → ContentsOf number prim contents.now → contents.now ≡ prim_written prim
HasLeastContents _ = Unit {0}

-- The item is at the front of the octets: the first start octets spell its head, and with the contents after them it takes
-- taken octets.
pub record LiesInFront (item : Item) (start taken : ℕ) (octets : List ℕ) : Type 0 where
  pub within : start ≤ taken
  pub headed : Heads (item_head item) (take start octets)
  pub octets_are : take taken octets ≡ take start octets ++ item_contents item

-- The item is an application primitive.
abbrev pub IsApplication : Item → Type 0
IsApplication (item.Boolean bit) = Unit {0}
IsApplication (item.Application number contents written) = Unit {0}
IsApplication _ = ⊥

-- An application primitive is at the front with a head of one octet, and the first taken octets are its canonical ones.
pub record BeginsLeast (item : Item) (taken : ℕ) (octets : List ℕ) : Type 0 where
  pub is_item : IsItem item
  pub primitive : IsApplication item
  pub lies : LiesInFront item 1 taken octets
  pub least : HasLeastContents item

-- The item may be next, by MayStand, and the first taken octets are its canonical ones.
pub record StandsLeast (room : Bool) (number : ℕ) (octets : List ℕ) (item : Item) (taken : ℕ) : Type 0 where
  pub is_item : IsItem item
  pub stands : MayStand room number (item_event item)
  pub some : 0 < taken
  pub within : taken ≤ length octets
  pub least : IsLeast (SpellsEvent (item_event item)) (take taken octets)
