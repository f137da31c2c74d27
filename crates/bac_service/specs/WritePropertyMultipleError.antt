-- The error of WritePropertyMultiple (clause 21): [0] a group with the class and the code, [1] a group with the
-- reference to the property of an object whose write failed first.
use Rattle.std.specs.Prelude.{ℕ, List, refl}
use Rattle.bac_tag.specs.Spelling.{Joins, Joined}
use Rattle.bac_productions.specs.Productions.{Grouped, IsRecordOf}
use Rattle.bac_productions.specs.Contents.{of_number}
use Rattle.bac_service.specs.declared.service.write_property_multiple_error.WritePropertyMultipleError.{WritePropertyMultipleError}
use Rattle.bac_service.specs.ErrorCause.{SpellsErrorCause}
use Rattle.bac_service.specs.ObjectProperty.{SpellsObjectProperty, ObjectPropertyParts}

-- The lists that spell an error of WritePropertyMultiple: a group with the class and the code, and a group with a
-- reference to a property of an object.
abbrev pub SpellsWriteError : WritePropertyMultipleError → List ℕ → Type 0
SpellsWriteError e = Joins (Grouped 0 SpellsErrorCause (record { class = e.class; code = e.code })) (Grouped 1 SpellsObjectProperty (e.object, (e.property, e.index)))

-- An error of WritePropertyMultiple is its fields, and is spelled as they are.
pub write_error_parts : IsRecordOf (Joined (Grouped 0 SpellsErrorCause) (Grouped 1 ObjectPropertyParts)) SpellsWriteError
write_error_parts = record {
  fields = λ e. (record { class = e.class; code = e.code }, (e.object, (of_number e.property, e.index)));
  of_fields = λ p. record { class = p.0.class; code = p.0.code; object = p.1.0; property = p.1.1.0.0; index = p.1.1.1 };
  same = λ e. refl;
  split = λ e b s. s;
  joined = λ p b s. s;
}
