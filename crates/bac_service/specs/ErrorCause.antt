-- Error (clause 21): the class and the code, under their application tags.
use Rattle.std.specs.Prelude.{ℕ, List, refl}
use Rattle.bac_tag.specs.Spelling.{Joins, Joined}
use Rattle.bac_productions.specs.Contents.{ApplicationEnumerated, ApplicationEnumeratedPart, of_number}
use Rattle.bac_productions.specs.Productions.{IsRecordOf}
use Rattle.bac_value.specs.declared.types.enumeration.Enumerated.{Enumerated}
use Rattle.bac_service.specs.declared.service.error_cause.ErrorCause.{ErrorCause}

-- The lists that spell an error: the class and the code.
abbrev pub SpellsErrorCause : ErrorCause → List ℕ → Type 0
SpellsErrorCause cause = Joins (ApplicationEnumerated cause.class) (ApplicationEnumerated cause.code)

-- The lists that spell the parts of an error, which are a class and a code.
abbrev pub CauseParts : Enumerated × Enumerated → List ℕ → Type 0
CauseParts = Joined ApplicationEnumeratedPart ApplicationEnumeratedPart

-- An error is its fields, and is spelled as they are.
pub error_cause_parts : IsRecordOf CauseParts SpellsErrorCause
error_cause_parts = record {
  fields = λ cause. (of_number cause.class, of_number cause.code);
  of_fields = λ p. record { class = p.0.0; code = p.1.0 };
  same = λ cause. refl;
  split = λ cause b s. s;
  joined = λ p b s. s;
}
