-- The result of a property is its fields, and a value or an error.
use Rattle.std.specs.Prelude.{◌≡◌, ◌↔◌, ℕ, Option, List, ◌⊎◌, refl}
use Rattle.std.proofs.Common.{inl, inr, sym, ap, subst}
use Rattle.bac_tag.specs.Spelling.{OneOf, Joins, Joined}
use Rattle.bac_data.specs.OpenValue.{Elements}
use Rattle.bac_data.specs.Spells.{SpellsOpen}
use Rattle.bac_value.specs.declared.types.enumeration.Enumerated.{Enumerated}
use Rattle.bac_productions.specs.Contents.{EnumeratedField, UnsignedField, EnumeratedPart, of_number}
use Rattle.bac_productions.specs.Productions.{Optional, Grouped, IsRecordOf}
use Rattle.bac_service.specs.declared.service.property_result.ReadResult.{ReadResult}
use Rattle.bac_service.specs.declared.service.property_result.ReadResult.TheVariants.{Value, Error}
use Rattle.bac_service.specs.declared.service.property_result.PropertyResult.{PropertyResult}
use Rattle.bac_service.specs.ErrorCause.{CauseParts}
use Rattle.bac_service.specs.Laws.Joins.{joined_first, joined_last}
use Rattle.bac_service.specs.PropertyResult.{SpellsReadResult, SpellsPropertyResult, result_of_parts}

abbrev pub choice_of : ReadResult → Elements ⊎ (Enumerated × Enumerated)
choice_of (Value value) = inl value
choice_of (Error cause) = inr (of_number cause.class, of_number cause.code)

-- ---- the parts

chosen : (groups : ℕ) (r : ReadResult) → SpellsReadResult groups r ≡ OneOf (SpellsOpen groups 4) (Grouped 5 CauseParts) (choice_of r)
chosen groups (Value value) = refl
chosen groups (Error cause) = refl

told : (groups : ℕ) (x : Elements ⊎ (Enumerated × Enumerated)) → OneOf (SpellsOpen groups 4) (Grouped 5 CauseParts) x ≡ SpellsReadResult groups (result_of_parts x)
told groups (inl value) = refl
told groups (inr cause) = refl

once : (r : ReadResult) → result_of_parts (choice_of r) ≡ r
once (Value value) = refl
once (Error cause) = refl

abbrev pub property_result_of : (Enumerated × Option ℕ) × (Elements ⊎ (Enumerated × Enumerated)) → PropertyResult
property_result_of p = record { property = p.0.0.0; index = p.0.1; result = result_of_parts p.1 }

pub property_result_alike : (groups : ℕ) (p : (Enumerated × Option ℕ) × (Elements ⊎ (Enumerated × Enumerated))) (b : List ℕ)
    → Joined (Joined (EnumeratedPart 2) (Optional (UnsignedField 3))) (OneOf (SpellsOpen groups 4) (Grouped 5 CauseParts)) p b ↔ SpellsPropertyResult groups (property_result_of p) b
property_result_alike groups p b = (
  λ s. joined_last (subst (λ (P : List ℕ → Type 0). Joins (Joins (EnumeratedField 2 p.0.0.0) (Optional (UnsignedField 3) p.0.1)) P b) (told groups p.1) s),
  λ s. subst (λ (P : List ℕ → Type 0). Joins (Joins (EnumeratedField 2 p.0.0.0) (Optional (UnsignedField 3) p.0.1)) P b) (sym (told groups p.1)) (joined_first s),
)

pub property_result_parts : (groups : ℕ) → IsRecordOf (Joined (Joined (EnumeratedPart 2) (Optional (UnsignedField 3))) (OneOf (SpellsOpen groups 4) (Grouped 5 CauseParts))) (SpellsPropertyResult groups)
property_result_parts groups = record {
  fields = λ r. ((of_number r.property, r.index), choice_of r.result);
  of_fields = property_result_of;
  same = λ r. ap (λ (x : ReadResult). record { property = r.property; index = r.index; result = x }) (once r.result);
  split = λ r b s. joined_first (subst (λ (P : List ℕ → Type 0). Joins (EnumeratedField 2 r.property) (Joins (Optional (UnsignedField 3) r.index) P) b) (chosen groups r.result) s);
  joined = λ p b s. (property_result_alike groups p b).0 s;
}
