-- One primitive type as one of the thirteen.
use Rattle.std.proofs.Common.{◌≡◌, ℕ, List}
use Rattle.bac_value.specs.declared.prim.PrimitiveValue.{PrimitiveValue}
use Rattle.bac_value.specs.PrimContents.{ContentsOf}

-- The values of a type, wrapped, are the values that have contents under that application number, with the same contents.
pub record IsVariant {V : Type 0} (number : ℕ) (contents : V → List ℕ → Type 0) (wrapped : V → PrimitiveValue) : Type 0 where
  pub into : (value : V) (octets : List ℕ) → contents value octets → ContentsOf number (wrapped value) octets
  pub from : (prim : PrimitiveValue) (octets : List ℕ) → ContentsOf number prim octets → (value : V) × (prim ≡ wrapped value) × contents value octets
