-- Services without a production as their parts.
use Rattle.std.specs.Prelude.{◌≡◌, ℕ, ◌<◌, Bool, true, false, Option, None, Some, List, [], ◌∷◌, ◌++◌, IsTrue, refl}
use Rattle.std.proofs.Common.{lit<}
use Rattle.bac_tag.specs.Spelling.{Joined}
use Rattle.bac_productions.specs.Productions.{IsInhabited}
use Rattle.bac_service.specs.declared.kind.Kind.{Kind}
use Rattle.bac_service.specs.declared.kind.Kind.TheVariants.{Confirmed, Unconfirmed, ComplexAck, Error}
use Rattle.bac_field_parts.specs.OpaqueFields.{opaque_steps}
use Rattle.bac_field_parts.specs.Opaques.{is_some, IsOpaqueChoice, AreTheOctets}
use Rattle.bac_field_parts.specs.Symbols.{Symbol, finished, IsMessage, no_number, no_octets, number_said, contents_said, end_said, steps_said, no_octet_number}
use Rattle.bac_field_parts.specs.Laws.Messages.{first_part, last_part, second_alike, then_alike}

-- 255 has no production
pub opaque_choice_inhabited : (kind : Kind) → IsInhabited (IsOpaqueChoice kind)
opaque_choice_inhabited Confirmed = record { value = 255; octets = 255 ∷ []; spelled = record { octet = refl; fits = lit< tt; production_is = refl } }
opaque_choice_inhabited Unconfirmed = record { value = 255; octets = 255 ∷ []; spelled = record { octet = refl; fits = lit< tt; production_is = refl } }
opaque_choice_inhabited ComplexAck = record { value = 255; octets = 255 ∷ []; spelled = record { octet = refl; fits = lit< tt; production_is = refl } }
opaque_choice_inhabited Error = record { value = 255; octets = 255 ∷ []; spelled = record { octet = refl; fits = lit< tt; production_is = refl } }

pub octets_inhabited : IsInhabited AreTheOctets
octets_inhabited = record { value = []; octets = []; spelled = (refl, tt) }

is_none : {A : Type 0} (p : Option A) → is_some p ≡ false → p ≡ None
is_none None e = refl
is_none (Some a) e = absurd (cc)

-- ---- as parts

-- a choice, and octets
abbrev pub OpaqueParts : Type 0
OpaqueParts = Unit {0} × (ℕ × (List ℕ × Unit {0}))

abbrev pub opaque_said : Kind → ℕ × List ℕ → List Symbol
opaque_said kind v = steps_said (opaque_steps kind v.0 v.1) ++ finished ∷ []

abbrev pub opaque_parts_said : OpaqueParts → List Symbol
opaque_parts_said w = number_said 69 no_number w.0 ++ (number_said 30 (λ n. n) w.1.0 ++ (contents_said 31 no_octet_number (λ v. v) w.1.1.0 ++ end_said w.1.1.1))

abbrev pub SpellsOpaque : Kind → ℕ × List ℕ → List ℕ → Type 0
SpellsOpaque kind = Joined (IsOpaqueChoice kind) AreTheOctets

abbrev pub SpellsOpaqueParts : Kind → OpaqueParts → List ℕ → Type 0
SpellsOpaqueParts kind = Joined no_octets (Joined (IsOpaqueChoice kind) (Joined AreTheOctets no_octets))

abbrev pub has_word : Kind → Bool
has_word Error = false
has_word _ = true

pub opaque_message : (kind : Kind) → IsTrue (has_word kind) → IsMessage (opaque_said kind) opaque_parts_said (SpellsOpaque kind) (SpellsOpaqueParts kind)
opaque_message kind word = record {
  of_parts = λ w. (w.1.0, w.1.1.0);
  parts_of = λ v b spelled. ((tt, (v.0, (v.1, tt))), refl);
  said = λ w. said kind word w.1.0 w.1.1.0;
  spelled = λ w. then_alike first_part (second_alike last_part);
}
  where
    said : (kind : Kind) → IsTrue (has_word kind) → (choice : ℕ) (octets : List ℕ) → opaque_said kind (choice, octets) ≡ opaque_parts_said (tt, (choice, (octets, tt)))
    said Confirmed word choice octets = refl
    said Unconfirmed word choice octets = refl
    said ComplexAck word choice octets = refl
    said Error word choice octets = absurd (cc)

-- an error without a production, which no word precedes
abbrev pub OpaqueErrorParts : Type 0
OpaqueErrorParts = ℕ × (List ℕ × Unit {0})

abbrev pub opaque_error_parts_said : OpaqueErrorParts → List Symbol
opaque_error_parts_said w = number_said 30 (λ n. n) w.0 ++ (contents_said 31 no_octet_number (λ v. v) w.1.0 ++ end_said w.1.1)

pub opaque_error_message : IsMessage (opaque_said Error) opaque_error_parts_said (SpellsOpaque Error) (Joined (IsOpaqueChoice Error) (Joined AreTheOctets no_octets))
opaque_error_message = record {
  of_parts = λ w. (w.0, w.1.0);
  parts_of = λ v b spelled. ((v.0, (v.1, tt)), refl);
  said = λ w. refl;
  spelled = λ w. second_alike last_part;
}
