-- Signed integers and their contents.
use Rattle.std.proofs.Common.{◌≡◌, ℕ, ℤ, ◌≤◌, List, [], ◌++◌, length, replicate, refl, arith, sym, ◌∙◌, ap}
use Rattle.std.proofs.lemmas.List.{length-replicate}
use Rattle.bac_tag.specs.Octets.{IsOctets}
use Rattle.bac_tag.specs.Laws.Octets.{octets_replicate}
use Rattle.bac_value.specs.declared.types.signed_integer.Signed.{Signed}
use Rattle.bac_value.specs.Primitives.{IsBegun}
use Rattle.bac_numbers.specs.SignedContents.{signed_number, SignedContents}

pub one_signed : (a b : Signed) (octets : List ℕ) → SignedContents a.0 octets → SignedContents b.0 octets → a ≡ b
one_signed a b octets p q = ap (λ (z : ℤ). let v : Signed = record { 0 = z } in v) (sym p.is ∙ q.is)

pub signed_begun : (front rest : List ℕ) (size : ℕ) → IsOctets (front ++ rest) → length (front ++ rest) ≡ size → 1 ≤ size → size ≤ 8
    → IsBegun (λ (value : Signed) octets. SignedContents value.0 octets) front size
signed_begun front rest size p sized some within = record {
  value = record { 0 = signed_number (front ++ rest) };
  rest = rest;
  sized = sized;
  spelled = record { are_octets = p; sized = (omega arith, omega arith); is = refl };
}

pub signed_each_length : (size : ℕ) → 1 ≤ size → size ≤ 8 → IsBegun (λ (value : Signed) octets. SignedContents value.0 octets) [] size
signed_each_length size some within = signed_begun [] (replicate size 0) size (octets_replicate size) (length-replicate {A = ℕ} size 0) some within
