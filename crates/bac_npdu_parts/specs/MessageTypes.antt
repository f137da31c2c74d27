-- The types of network messages (clauses 6.2.3 and 6.4).
use Rattle.std.specs.Prelude.{ℕ, ◌<◌, ◌≤◌, nat_lt, nat_eq, ◌||◌, ◌&&◌, Bool, Option, Some, None, List, refl}
use Rattle.std.specs.Option.{option_eq}
use Rattle.std.specs.Cmp.Lexicographic.{pointwise}
use Rattle.std.specs.Coded.{Coded, code_by, coded×, coded_ℕ, coded_list, coded_option}

-- Whether network messages of this type have a layout. The types 0 to 9, 18 and 19 have one.
abbrev pub is_typed : ℕ → Bool
is_typed kind = nat_lt kind 10 || (nat_eq kind 18 || nat_eq kind 19)

-- Whether network messages of this type are a list of networks. Those of the types 1, 4 and 5 are.
abbrev pub has_networks : ℕ → Bool
has_networks kind = nat_eq kind 1 || (nat_eq kind 4 || nat_eq kind 5)

-- Types from 128 on have a vendor, and no others.
abbrev pub IsVendored : ℕ → Option ℕ → Type 0
IsVendored kind None = kind < 128
IsVendored kind (Some vendor) = 128 ≤ kind

-- A network message without a layout: a type, a vendor or none, and octets.
pub record OpaqueNetValue : Type 0 where
  pub kind : ℕ
  pub vendor : Option ℕ
  pub octets : List ℕ

-- How the logic stores a network message without a layout.
abbrev pub opaque_net_code : Coded OpaqueNetValue
opaque_net_code =
    code_by (ℕ × (Option ℕ × List ℕ)) (coded× coded_ℕ (coded× (coded_option coded_ℕ) (coded_list coded_ℕ))) (λ m. (m.kind, (m.vendor, m.octets))) (λ p. record { kind = p.0; vendor = p.1.0; octets = p.1.1 })
    (λ m. refl)

-- Whether two opaque messages have the same type, vendor and octets.
abbrev pub same_opaque_net : OpaqueNetValue → OpaqueNetValue → Bool
same_opaque_net a b = nat_eq a.kind b.kind && (option_eq nat_eq a.vendor b.vendor && pointwise nat_eq a.octets b.octets)
