-- What ReadPropertyMultiple gives for an object (clause 21): [0] the object, [1] a group with the results, which may
-- be absent.
use Rattle.std.specs.Prelude.{ℕ, List, Option, refl}
use Rattle.std.specs.Option.{option_map}
use Rattle.bac_tag.specs.Spelling.{Joins, Joined}
use Rattle.bac_value.specs.Identifier.{Identifier}
use Rattle.bac_productions.specs.Contents.{ObjectField}
use Rattle.bac_productions.specs.Productions.{Optional, Items, Grouped, IsRecordOf}
use Rattle.bac_service.specs.declared.service.property_result.PropertyResult.{PropertyResult}
use Rattle.bac_service.specs.declared.service.read_property_multiple_ack.ReadAccessResult.{ReadAccessResult}
use Rattle.bac_service.specs.PropertyResult.{SpellsPropertyResult}

-- An object and what reading its properties gave, which is a list of results or none.
pub record AccessResult : Type 0 where
  pub object : Identifier
  pub results : Option (List PropertyResult)

-- The AccessResult that a ReadAccessResult holds.
abbrev pub access_result_of : ReadAccessResult → AccessResult
access_result_of r = record { object = r.object; results = option_map (λ results. results.items) r.results }

-- The lists that spell an AccessResult: the object, and a group with the results if there are results. The first
-- argument is how many groups may nest in an open value.
abbrev pub SpellsAccessResult : ℕ → AccessResult → List ℕ → Type 0
SpellsAccessResult groups r = Joins (ObjectField 0 r.object) (Optional (Grouped 1 (Items (SpellsPropertyResult groups))) r.results)

-- An AccessResult is its fields, and is spelled as they are.
unfoldable pub access_result_parts : (groups : ℕ) → IsRecordOf (Joined (ObjectField 0) (Optional (Grouped 1 (Items (SpellsPropertyResult groups))))) (SpellsAccessResult groups)
access_result_parts groups = record {
  fields = λ r. (r.object, r.results);
  of_fields = λ p. record { object = p.0; results = p.1 };
  same = λ r. refl;
  split = λ r b s. s;
  joined = λ p b s. s;
}
