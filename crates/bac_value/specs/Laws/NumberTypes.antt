-- Laws on types whose values are numbers.
use Rattle.std.proofs.Common.{◌≡◌, ℕ, ◌<◌, ◌≤◌, ◌+◌, List, [], ◌++◌, take, arith, sym, ◌∙◌, ap}
use Rattle.bac_tag.specs.Octets.{IsOctets}
use Rattle.bac_tag.specs.Laws.Octets.{octets_take, octets_append, octets_back}
use Rattle.bac_tag.specs.Number.{number, BeginsNumber, MissesAt}
use Rattle.bac_tag.specs.Laws.Number.{begins_number}
use Rattle.bac_numbers.specs.Numbers.{HasNumberLength, NumberContents, least_number}
use Rattle.bac_numbers.specs.Laws.Numbers.{number_written_in, low_fits}
use Rattle.bac_value.specs.Primitives.{IsBegun, IsHopelessAt}
use Rattle.bac_value.specs.Bounded.{IsBounded}

-- A type whose values are numbers: `worth` is the number of a value, and `of_number` gives a value of each.
module _ {V : Type 0} (worth : V → ℕ) (of_number : ℕ → V) (same : (n : ℕ) → worth (of_number n) ≡ n) (low high : ℕ) where
  pub number_begun : (front : List ℕ) (size : ℕ) → IsOctets front → HasNumberLength size → BeginsNumber low high front size
      → IsBegun (λ (value : V) octets. NumberContents low high (worth value) octets) front size
  number_begun front size p sized h =
      let n : ℕ = number (front ++ h.rest) in
      record {
        value = of_number n;
        rest = h.rest;
        sized = h.sized;
        spelled = record {
          are_octets = octets_append front h.rest p h.are_octets;
          sized = (omega (arith, h.sized, sized.0), omega (arith, h.sized, sized.1));
          is = sym (same n);
          least = rw (same n) h.least;
          most = rw (same n) h.most;
        };
      }

  pub number_begins : (front : List ℕ) (size : ℕ) → IsBegun (λ (value : V) octets. NumberContents low high (worth value) octets) front size → BeginsNumber low high front size
  number_begins front size h = record {
    rest = h.rest;
    are_octets = octets_back front h.rest h.spelled.are_octets;
    sized = h.sized;
    least = rw h.spelled.is h.spelled.least;
    most = rw h.spelled.is h.spelled.most;
  }

  pub number_hopeless : (octets : List ℕ) (size place : ℕ) → IsOctets octets → HasNumberLength size → MissesAt low high octets size place
      → IsHopelessAt (λ (value : V) octets. NumberContents low high (worth value) octets) octets size place
  number_hopeless octets size place p sized h =
      (h.0, number_begun (take place octets) size (octets_take place octets p) sized h.1, λ begun. h.2 (number_begins (take (place + 1) octets) size begun))

  pub number_each_length : low ≤ high → low < 256 → (size : ℕ) → 1 ≤ size → size ≤ 8 → IsBegun (λ (value : V) octets. NumberContents low high (worth value) octets) [] size
  number_each_length range room size some within =
      let fits = low_fits low size room (some, within) in
      number_begun [] size tt (some, within) (begins_number low high [] size size (omega arith) range (omega arith) (omega arith))

-- ---- laws of a type whose values are the numbers of a range

module _ {V : Type 0} (low high : ℕ) (number_of : V → ℕ) (value_of : ℕ → V) (bounded : IsBounded low high number_of value_of) where
  pub bounded_once : (a b : V) (octets : List ℕ) → NumberContents low high (number_of a) octets → NumberContents low high (number_of b) octets → a ≡ b
  bounded_once a b octets p q = sym (bounded.value_of_number a) ∙ ap value_of (sym p.is ∙ q.is) ∙ bounded.value_of_number b

  pub bounded_written : (value : V) → (low ≤ number_of value) × (number_of value ≤ high) → NumberContents low high (number_of value) (least_number (number_of value))
  bounded_written value h = number_written_in low high (number_of value) h.0 h.1 (omega (arith, h.1, bounded.fits))

  pub bounded_each_length : (size : ℕ) → 1 ≤ size → size ≤ 8 → IsBegun (λ (value : V) octets. NumberContents low high (number_of value) octets) [] size
  bounded_each_length = number_each_length number_of value_of bounded.number_of_value low high bounded.range bounded.room
