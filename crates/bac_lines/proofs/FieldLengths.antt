-- How many octets the texts of parts of productions have: fields under tags, optional parts and lists.
use Prim.Native.String.{String}
use Rattle.std.specs.List.{flat_map, join_by}
use Rattle.std.specs.Prelude.{Option, None, Some, codes}
use Rattle.std.proofs.Common.{ℕ, ◌+◌, ◌*◌, ◌^◌, ◌<◌, ◌≤◌, Bool, List, [], ◌∷◌, ◌++◌, length, ap, arith}
use Rattle.std.proofs.lemmas.List.{length-append}
use Rattle.bac_tag.specs.declared.heads.TagHead.{TagHead}
use Rattle.bac_tag.specs.declared.heads.TagHead.TheVariants.{Open, Close}
use Rattle.bac_tag.proofs.MarksLemmas.{spelled_some}
use Rattle.bac_value.specs.Primitives.{IsTheList}
use Rattle.bac_value.specs.Identifier.{Identifier, IsIdentifier, identifier_octets}
use Rattle.bac_value.specs.Laws.AnyOctets.{any_octets_lengths}
use Rattle.bac_value.specs.Laws.Identifier.{identifier_any_octets}
use Rattle.bac_productions.specs.Fields.{IsField}
use Rattle.bac_productions.specs.Contents.{ObjectField, EnumeratedField, UnsignedField, InstanceField, PriorityField, BooleanField, ApplicationObject, ApplicationUnsigned, ApplicationEnumerated, ApplicationUnsigned16}
use Rattle.bac_productions.specs.Productions.{Optional, Items, Grouped}
use Rattle.bac_text.specs.Words.{number, truth, field, optional, listed, object_text}
use Rattle.bac_lines.proofs.ValueLengths.{ten_digits, one_digit, object_short, joined_length}

-- ---- fields under tags

-- a number has at least one octet for its head and one of its own, and room for twenty octets more
number_paid : {V : Type 0} {head_for : ℕ → TagHead} {contents : V → List ℕ → Type 0} {value : V} {b : List ℕ} (h : IsField head_for contents value b) (n : ℕ) → n < 2 ^ 32 → 1 ≤ length h.body
    → length (number n) + 20 ≤ 15 * length b
number_paid h n small some = omega (arith, some, ten_digits n small, spelled_some _ h.head h.headed, ap length h.octets, length-append h.head h.body)

-- an Enumerated under a context tag
pub enumerated_paid : (tag value : ℕ) (b : List ℕ) → EnumeratedField tag value b → length (number value) + 20 ≤ 15 * length b
enumerated_paid tag value b h = number_paid h value (omega (arith, h.spelled.most)) h.spelled.sized.0

-- an Unsigned
pub unsigned_paid : (tag value : ℕ) (b : List ℕ) → UnsignedField tag value b → length (number value) + 20 ≤ 15 * length b
unsigned_paid tag value b h = number_paid h value (omega (arith, h.spelled.most)) h.spelled.sized.0

-- an instance
pub instance_paid : (tag value : ℕ) (b : List ℕ) → InstanceField tag value b → length (number value) + 20 ≤ 15 * length b
instance_paid tag value b h = number_paid h value (omega (arith, h.spelled.most)) h.spelled.sized.0

-- a priority
pub priority_paid : (tag value : ℕ) (b : List ℕ) → PriorityField tag value b → length (number value) + 20 ≤ 15 * length b
priority_paid tag value b h = number_paid h value (omega (arith, h.spelled.most)) h.spelled.sized.0

-- an Enumerated under the tag of its type
pub application_enumerated_paid : (value : ℕ) (b : List ℕ) → ApplicationEnumerated value b → length (number value) + 20 ≤ 15 * length b
application_enumerated_paid value b h = number_paid h value (omega (arith, h.spelled.most)) h.spelled.sized.0

-- an Unsigned
pub application_unsigned_paid : (value : ℕ) (b : List ℕ) → ApplicationUnsigned value b → length (number value) + 20 ≤ 15 * length b
application_unsigned_paid value b h = number_paid h value (omega (arith, h.spelled.most)) h.spelled.sized.0

-- an Unsigned of 16 bits
pub application_unsigned16_paid : (value : ℕ) (b : List ℕ) → ApplicationUnsigned16 value b → length (number value) + 20 ≤ 15 * length b
application_unsigned16_paid value b h = number_paid h value (omega (arith, h.spelled.most)) h.spelled.sized.0

-- a Boolean has at least one octet for its head
pub boolean_paid : (tag : ℕ) (bit : Bool) (b : List ℕ) → BooleanField tag bit b → length (truth bit) + 14 ≤ 15 * length b
boolean_paid tag bit b h = omega (arith, spelled_some _ h.head h.headed, one_digit bit, ap length h.octets, length-append h.head h.body)

-- an object has at least one octet for its head, and four of its own
object_by : {head_for : ℕ → TagHead} {object : Identifier} {b : List ℕ} → IsField head_for (IsTheList IsIdentifier identifier_octets) object b → length (object_text object) + 54 ≤ 15 * length b
object_by {object = object} h =
    let all = any_octets_lengths identifier_any_octets object h.body h.spelled in
    omega (arith, all.0, spelled_some _ h.head h.headed, object_short object h.spelled.value_holds, ap length h.octets, length-append h.head h.body)

-- an object under a context tag
pub object_paid : (tag : ℕ) (object : Identifier) (b : List ℕ) → ObjectField tag object b → length (object_text object) + 54 ≤ 15 * length b
object_paid tag object b h = object_by h

-- an object under the tag of its type
pub application_object_paid : (object : Identifier) (b : List ℕ) → ApplicationObject object b → length (object_text object) + 54 ≤ 15 * length b
application_object_paid object b h = object_by h

-- ---- optional parts, groups and lists

-- a part that may be absent
pub optional_paid : {V : Type 0} (S : V → List ℕ → Type 0) (name : String) (text : V → List ℕ) → ((v : V) (b : List ℕ) → S v b → length (field name (text v)) ≤ 15 * length b)
    → (part : Option V) (b : List ℕ) → Optional S part b → length (optional name text part) ≤ 15 * length b
optional_paid S name text each None b h = omega arith
optional_paid S name text each (Some v) b h = each v b h

-- a group has at least two octets for its tags
pub grouped_paid : {V : Type 0} (S : V → List ℕ → Type 0) (tag n : ℕ) (v : V) (b : List ℕ) (h : Grouped tag S v b) → n ≤ 15 * length h.second.front → n + 30 ≤ 15 * length b
grouped_paid S tag n v b h short =
    let some = spelled_some (Open tag) h.front h.first in
    let last = spelled_some (Close tag) h.second.back h.second.second in
    omega (arith, some, last, short, joined_length h, joined_length h.second)

-- items, each with room for a blank
module _ {V : Type 0} (S : V → List ℕ → Type 0) (text : V → List ℕ) (each : (v : V) (b : List ℕ) → S v b → length (text v) + 1 ≤ 15 * length b) where
  -- those after the first one
  others_paid : (vs : List V) (b : List ℕ) → Items S vs b → length (flat_map (λ v. codes " " ++ text v) vs) ≤ 15 * length b
  others_paid [] b h = omega arith
  others_paid (v ∷ vs) b h =
      omega (arith, joined_length h, each v h.front h.first, others_paid vs h.back h.second, length-append (text v) (flat_map (λ v. codes " " ++ text v) vs))

  -- all of them
  items_paid : (vs : List V) (b : List ℕ) → Items S vs b → length (join_by text (codes " ") vs) ≤ 15 * length b
  items_paid [] b h = omega arith
  items_paid (v ∷ vs) b h =
      omega (arith, joined_length h, each v h.front h.first, others_paid vs h.back h.second, length-append (text v) (flat_map (λ v. codes " " ++ text v) vs))

  -- and in parentheses
  pub listed_paid : (vs : List V) (b : List ℕ) → Items S vs b → length (listed text vs) ≤ 15 * length b + 2
  listed_paid vs b h = omega (arith, items_paid vs b h, length-append (join_by text (codes " ") vs) (codes ")"))

  -- and in a group
  pub list_paid : (tag : ℕ) (vs : List V) (b : List ℕ) → Grouped tag (Items S) vs b → length (listed text vs) + 28 ≤ 15 * length b
  list_paid tag vs b h =
      let inner = items_paid vs h.second.front h.second.first in
      omega (arith, grouped_paid (Items S) tag _ vs b h inner, length-append (join_by text (codes " ") vs) (codes ")"))
