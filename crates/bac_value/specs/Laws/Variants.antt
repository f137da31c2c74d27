-- What one primitive type has is so under its application number.
use Rattle.std.proofs.Common.{◌≡◌, ℕ, List, [], ◌≤◌, ◌+◌, ◌++◌, length, take, ◌∙◌, ap}
use Rattle.bac_value.specs.declared.prim.PrimitiveValue.{PrimitiveValue}
use Rattle.bac_value.specs.Primitives.{IsBegun, AreLengths, IsHopelessAt, IsWritten}
use Rattle.bac_value.specs.PrimContents.{ContentsOf, IsWrittenOf, prim_written}
use Rattle.bac_value.specs.Variants.{IsVariant}

pub begun_into : {V : Type 0} (number : ℕ) (contents : V → List ℕ → Type 0) (wrapped : V → PrimitiveValue) → IsVariant number contents wrapped
    → (front : List ℕ) (size : ℕ) → IsBegun contents front size → IsBegun (ContentsOf number) front size
begun_into number contents wrapped v front size h = record {
  value = wrapped h.value;
  rest = h.rest;
  spelled = v.into h.value (front ++ h.rest) h.spelled;
  sized = h.sized;
}

pub begun_from : {V : Type 0} (number : ℕ) (contents : V → List ℕ → Type 0) (wrapped : V → PrimitiveValue) → IsVariant number contents wrapped
    → (front : List ℕ) (size : ℕ) → IsBegun (ContentsOf number) front size → IsBegun contents front size
begun_from number contents wrapped v front size h =
    let p = v.from h.value (front ++ h.rest) h.spelled in
    record { value = p.0; rest = h.rest; spelled = p.2; sized = h.sized }

-- the lengths of a type's contents are those of contents under its application number
pub lengths_into : {V : Type 0} (number : ℕ) (contents : V → List ℕ → Type 0) (wrapped : V → PrimitiveValue) → IsVariant number contents wrapped → (shortest longest : ℕ)
    → ((value : V) (octets : List ℕ) → contents value octets → (shortest ≤ length octets) × (length octets ≤ longest))
    → ((size : ℕ) → shortest ≤ size → size ≤ longest → IsBegun contents [] size)
    → AreLengths (ContentsOf number) shortest longest
lengths_into number contents wrapped v shortest longest lengths each = record {
  least = λ prim octets h. let p = v.from prim octets h in (lengths p.0 octets p.2).0;
  most = λ prim octets h. let p = v.from prim octets h in (lengths p.0 octets p.2).1;
  each = λ size least most. begun_into number contents wrapped v [] size (each size least most);
}

pub hopeless_into : {V : Type 0} (number : ℕ) (contents : V → List ℕ → Type 0) (wrapped : V → PrimitiveValue) → IsVariant number contents wrapped
    → (octets : List ℕ) (size place : ℕ) → IsHopelessAt contents octets size place → IsHopelessAt (ContentsOf number) octets size place
hopeless_into number contents wrapped v octets size place h =
    (h.0, begun_into number contents wrapped v (take place octets) size h.1, λ begun. h.2 (begun_from number contents wrapped v (take (place + 1) octets) size begun))

-- what is written under its application number is what is written of a value of the type
pub written_from : {V : Type 0} (number : ℕ) (contents : V → List ℕ → Type 0) (wrapped : V → PrimitiveValue) (written : V → List ℕ) → IsVariant number contents wrapped
    → ((value : V) → prim_written (wrapped value) ≡ written value) → (octets : List ℕ) → IsWrittenOf number octets → IsWritten contents written octets
written_from number contents wrapped written v same octets h =
    let p = v.from h.value octets h.spelled in
    record { value = p.0; spelled = p.2; is = h.is ∙ ap prim_written p.1 ∙ same p.0 }
