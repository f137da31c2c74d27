-- What is under a head.
use Rattle.std.specs.Prelude.{◌≡◌, ◌≢◌, ℕ, ◌≤◌, List, [], length}
use Rattle.bac_tag.specs.declared.heads.TagHead.{TagHead}
use Rattle.bac_tag.specs.declared.heads.TagHead.TheVariants.{App, AppBool, Ctx, Open, Close}
use Rattle.bac_value.specs.declared.types.boolean_value.Boolean.{Boolean as BooleanValue}
use Rattle.bac_value.specs.declared.prim.PrimitiveValue.{PrimitiveValue}
use Rattle.bac_value.specs.declared.prim.PrimitiveValue.TheVariants.{Boolean}
use Rattle.bac_value.specs.Primitives.{IsBegun}
use Rattle.bac_value.specs.OctetStringContents.{IsOctetString}
use Rattle.bac_value.specs.PrimContents.{application_number, PrimContents, ContentsOf}
use Rattle.bac_data.specs.Events.{Event, application, contextual, opening, closing}

-- The octets are contents that are under the head, for that event. A tag has none, and an application Boolean has none.
abbrev pub Under : TagHead → Event → List ℕ → Type 0
Under (App number len) e c = (prim : PrimitiveValue) × (e ≡ application prim) × (application_number prim ≡ number) × PrimContents prim c × (length c ≡ len)
Under (AppBool bit) e c = (value : BooleanValue) × (e ≡ application (Boolean value)) × (value.0 ≡ bit) × (c ≡ [])
Under (Ctx number len) e c = (e ≡ contextual number c) × IsOctetString c × (length c ≡ len)
Under (Open number) e c = (e ≡ opening number) × (c ≡ [])
Under (Close number) e c = (e ≡ closing number) × (c ≡ [])

-- Some contents can be under the head.
abbrev pub HasContents : TagHead → Type 0
HasContents (App number len) = (number ≤ 12) × (number ≢ 1) × IsBegun (ContentsOf number) [] len
HasContents (AppBool bit) = Unit {0}
HasContents (Ctx number len) = (number ≤ 254) × (len ≤ 1048576)
HasContents (Open number) = number ≤ 254
HasContents (Close number) = number ≤ 254
