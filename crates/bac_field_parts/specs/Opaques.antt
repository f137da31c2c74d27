-- Service choices, and services without a production, as fields say them.
use Rattle.std.specs.Prelude.{◌≡◌, ℕ, ◌<◌, Bool, true, false, Option, None, Some, List, [], ◌∷◌}
use Rattle.bac_tag.specs.Octets.{IsOctets}
use Rattle.bac_service.specs.ServiceTable.{ServiceProduction, service_error, production_of}
use Rattle.bac_service.specs.declared.kind.Kind.{Kind}
use Rattle.bac_service.specs.declared.kind.Kind.TheVariants.{Error}

-- Whether an optional value is there.
abbrev pub is_some : {A : Type 0} → Option A → Bool
is_some None = false
is_some (Some a) = true

-- The list is one octet, a service choice of this kind that has this production, or none.
pub record IsChoiceOf (kind : Kind) (production : Option ServiceProduction) (choice : ℕ) (b : List ℕ) : Type 0 where
  pub octet : b ≡ choice ∷ []
  pub fits : choice < 256
  pub production_is : production_of true kind choice ≡ production

-- The list is one octet, a service choice of this kind that has no production.
abbrev pub IsOpaqueChoice : Kind → ℕ → List ℕ → Type 0
IsOpaqueChoice kind = IsChoiceOf kind None

-- The list is one octet, the service choice of an error with a class and a code.
abbrev pub IsCauseChoice : ℕ → List ℕ → Type 0
IsCauseChoice = IsChoiceOf Error (Some service_error)

-- The list is these octets as they are, each below 256.
abbrev pub AreTheOctets : List ℕ → List ℕ → Type 0
AreTheOctets octets b = (b ≡ octets) × IsOctets octets
