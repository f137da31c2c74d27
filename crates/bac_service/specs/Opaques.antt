-- Services without a production.
use Rattle.std.specs.Prelude.{ℕ, Bool, nat_eq, List, ◌∷◌, refl}
use Rattle.std.specs.Ordering.{on}
use Rattle.std.specs.Cmp.Lexicographic.{pointwise}
use Rattle.std.specs.Coded.{Coded, code_by, coded×, coded_ℕ, coded_list}
use Rattle.bac_service.specs.declared.kind.Kind.{Kind}
use Rattle.bac_service.specs.declared.kind.Kind.TheVariants.{Confirmed, Unconfirmed, ComplexAck, Error}
use Rattle.bac_service.specs.contracts.kind.Kind.{the_row}

-- A service without a production as a value: a kind, a service choice and octets. Contracts see an Opaque as this.
pub record OpaqueValue : Type 0 where
  pub kind : Kind
  pub choice : ℕ
  pub octets : List ℕ

-- How the logic stores an opaque service.
abbrev pub opaque_code : Coded OpaqueValue
opaque_code =
    code_by (Kind × (ℕ × List ℕ)) (coded× the_row.coded (coded× coded_ℕ (coded_list coded_ℕ))) (λ s. (s.kind, (s.choice, s.octets))) (λ p. record { kind = p.0; choice = p.1.0; octets = p.1.1 })
    (λ s. refl)

-- The number of a kind, which says which of the four it is.
abbrev pub kind_number : Kind → ℕ
kind_number Confirmed = 0
kind_number Unconfirmed = 1
kind_number ComplexAck = 2
kind_number Error = 3

-- The key of an opaque service: its kind as a number, its service choice and its octets in one list.
abbrev pub opaque_key : OpaqueValue → List ℕ
opaque_key service = kind_number service.kind ∷ service.choice ∷ service.octets

-- True exactly where two opaque services have the same kind, choice and octets, so the same key.
abbrev pub same_opaque : OpaqueValue → OpaqueValue → Bool
same_opaque = on opaque_key (pointwise nat_eq)
