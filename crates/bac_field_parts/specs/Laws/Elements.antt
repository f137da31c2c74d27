-- The types whose values are numbers, as elements of an open value.
use Rattle.std.specs.Prelude.{◌≡◌, ℕ, ◌-◌, ◌^◌, List, None, refl}
use Rattle.std.specs.Int.{w64, cast_unsigned}
use Rattle.std.proofs.Common.{arith, inl, inr}
use Rattle.bac_value.specs.Primitives.{IsTheList}
use Rattle.bac_numbers.specs.Numbers.{NumberContents}
use Rattle.bac_numbers.specs.SignedContents.{SignedContents}
use Rattle.bac_value.specs.RealContents.{IsReal, real_octets}
use Rattle.bac_value.specs.DoubleContents.{IsDouble, double_octets}
use Rattle.bac_value.specs.Identifier.{Identifier, IsIdentifier, identifier_octets}
use Rattle.bac_value.specs.declared.types.unsigned_integer.Unsigned.{Unsigned as UnsignedType}
use Rattle.bac_value.specs.declared.types.signed_integer.Signed.{Signed as SignedType}
use Rattle.bac_value.specs.declared.types.real.RealBits.{RealBits as RealType}
use Rattle.bac_value.specs.declared.types.double.DoubleBits.{DoubleBits as DoubleType}
use Rattle.bac_value.specs.declared.types.enumeration.Enumerated.{Enumerated as EnumeratedType}
use Rattle.bac_value.specs.declared.prim.PrimitiveValue.{PrimitiveValue}
use Rattle.bac_value.specs.declared.prim.PrimitiveValue.TheVariants.{Unsigned, Signed, RealBits, DoubleBits, Enumerated, ObjectId}
use Rattle.bac_data.specs.Events.{Event, application, SpellsEvent}
use Rattle.bac_productions.specs.Fields.{heading, IsField}
use Rattle.bac_field_parts.specs.Names.{number_of}
use Rattle.bac_field_parts.specs.PrimitiveFields.{object_number}
use Rattle.bac_field_parts.specs.OpenValueFields.{event_field}
use Rattle.bac_field_parts.specs.Symbols.{number_said}
use Rattle.bac_field_parts.specs.Laws.Kinds.{IsKind}

-- a type: the elements of an open value that have the name with this number are its values
abbrev pub IsElementType : {V : Type 0} → ℕ → ℕ → (V → ℕ) → (V → List ℕ → Type 0) → (V → PrimitiveValue) → Type 0
IsElementType name app number contents prim = IsKind (number_said name number) (IsField (heading None app) contents) name (λ v. application (prim v))

unsigned_only : (e : Event) (b : List ℕ) → number_of (event_field e).name ≡ 132 → SpellsEvent e b → (v : UnsignedType) × (e ≡ application (Unsigned v))
unsigned_only (application (Unsigned v)) b h p = (v, refl)
unsigned_only e b h p = absurd (omega (arith, h))

pub unsigned_element : IsElementType 132 2 (λ (v : UnsignedType). v.0) (λ (v : UnsignedType) octets. NumberContents 0 (2 ^ 64 - 1) v.0 octets) (λ (v : UnsignedType). Unsigned v)
unsigned_element = record {
  element = λ h. absurd (omega (arith, h));
  told = λ v. refl;
  spelled = λ v b. (
    λ f. inr (record { head = f.head; contents = f.body; headed = f.headed; spelled = f.spelled; octets = f.octets }),
    λ s. elim s [ inl bit ↦ (let is = bit.is in absurd (cc)) | inr c ↦ record { head = c.head; body = c.contents; headed = c.headed; spelled = c.spelled; octets = c.octets } ],
  );
  only = unsigned_only;
  keeps = λ v s. refl;
}

signed_only : (e : Event) (b : List ℕ) → number_of (event_field e).name ≡ 133 → SpellsEvent e b → (v : SignedType) × (e ≡ application (Signed v))
signed_only (application (Signed v)) b h p = (v, refl)
signed_only e b h p = absurd (omega (arith, h))

pub signed_element : IsElementType 133 3 (λ (v : SignedType). cast_unsigned w64 v.0) (λ (v : SignedType) octets. SignedContents v.0 octets) (λ (v : SignedType). Signed v)
signed_element = record {
  element = λ h. absurd (omega (arith, h));
  told = λ v. refl;
  spelled = λ v b. (
    λ f. inr (record { head = f.head; contents = f.body; headed = f.headed; spelled = f.spelled; octets = f.octets }),
    λ s. elim s [ inl bit ↦ (let is = bit.is in absurd (cc)) | inr c ↦ record { head = c.head; body = c.contents; headed = c.headed; spelled = c.spelled; octets = c.octets } ],
  );
  only = signed_only;
  keeps = λ v s. refl;
}

real_only : (e : Event) (b : List ℕ) → number_of (event_field e).name ≡ 134 → SpellsEvent e b → (v : RealType) × (e ≡ application (RealBits v))
real_only (application (RealBits v)) b h p = (v, refl)
real_only e b h p = absurd (omega (arith, h))

pub real_element : IsElementType 134 4 (λ (v : RealType). v.0) (IsTheList IsReal real_octets) (λ (v : RealType). RealBits v)
real_element = record {
  element = λ h. absurd (omega (arith, h));
  told = λ v. refl;
  spelled = λ v b. (
    λ f. inr (record { head = f.head; contents = f.body; headed = f.headed; spelled = f.spelled; octets = f.octets }),
    λ s. elim s [ inl bit ↦ (let is = bit.is in absurd (cc)) | inr c ↦ record { head = c.head; body = c.contents; headed = c.headed; spelled = c.spelled; octets = c.octets } ],
  );
  only = real_only;
  keeps = λ v s. refl;
}

double_only : (e : Event) (b : List ℕ) → number_of (event_field e).name ≡ 135 → SpellsEvent e b → (v : DoubleType) × (e ≡ application (DoubleBits v))
double_only (application (DoubleBits v)) b h p = (v, refl)
double_only e b h p = absurd (omega (arith, h))

pub double_element : IsElementType 135 5 (λ (v : DoubleType). v.0) (IsTheList IsDouble double_octets) (λ (v : DoubleType). DoubleBits v)
double_element = record {
  element = λ h. absurd (omega (arith, h));
  told = λ v. refl;
  spelled = λ v b. (
    λ f. inr (record { head = f.head; contents = f.body; headed = f.headed; spelled = f.spelled; octets = f.octets }),
    λ s. elim s [ inl bit ↦ (let is = bit.is in absurd (cc)) | inr c ↦ record { head = c.head; body = c.contents; headed = c.headed; spelled = c.spelled; octets = c.octets } ],
  );
  only = double_only;
  keeps = λ v s. refl;
}

enumerated_only : (e : Event) (b : List ℕ) → number_of (event_field e).name ≡ 139 → SpellsEvent e b → (v : EnumeratedType) × (e ≡ application (Enumerated v))
enumerated_only (application (Enumerated v)) b h p = (v, refl)
enumerated_only e b h p = absurd (omega (arith, h))

pub enumerated_element : IsElementType 139 9 (λ (v : EnumeratedType). v.0) (λ (v : EnumeratedType) octets. NumberContents 0 (2 ^ 32 - 1) v.0 octets) (λ (v : EnumeratedType). Enumerated v)
enumerated_element = record {
  element = λ h. absurd (omega (arith, h));
  told = λ v. refl;
  spelled = λ v b. (
    λ f. inr (record { head = f.head; contents = f.body; headed = f.headed; spelled = f.spelled; octets = f.octets }),
    λ s. elim s [ inl bit ↦ (let is = bit.is in absurd (cc)) | inr c ↦ record { head = c.head; body = c.contents; headed = c.headed; spelled = c.spelled; octets = c.octets } ],
  );
  only = enumerated_only;
  keeps = λ v s. refl;
}

object_only : (e : Event) (b : List ℕ) → number_of (event_field e).name ≡ 142 → SpellsEvent e b → (v : Identifier) × (e ≡ application (ObjectId v))
object_only (application (ObjectId v)) b h p = (v, refl)
object_only e b h p = absurd (omega (arith, h))

pub object_element : IsElementType 142 12 (object_number) (IsTheList IsIdentifier identifier_octets) (λ (v : Identifier). ObjectId v)
object_element = record {
  element = λ h. absurd (omega (arith, h));
  told = λ v. refl;
  spelled = λ v b. (
    λ f. inr (record { head = f.head; contents = f.body; headed = f.headed; spelled = f.spelled; octets = f.octets }),
    λ s. elim s [ inl bit ↦ (let is = bit.is in absurd (cc)) | inr c ↦ record { head = c.head; body = c.contents; headed = c.headed; spelled = c.spelled; octets = c.octets } ],
  );
  only = object_only;
  keeps = λ v s. refl;
}
