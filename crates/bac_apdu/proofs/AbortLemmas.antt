-- Abort.
use Rattle.std.specs.Prelude.{◌≡◌, ℕ, ◌/◌, ◌%◌, ◌^◌, ◌<◌, ◌≤◌, Bool, Some, None, List, [], ◌∷◌, length, slice_index, Option, Ok, Err, refl}
use Rattle.std.proofs.Common.{ap, arith}
use Rattle.bac_tag.specs.declared.refusals.Refusal.{Refusal}
use Rattle.bac_tag.specs.declared.refusals.Why.TheVariants.{Short}
use Rattle.bac_tag.specs.Spelling.{HasMark}
use Rattle.bac_tag.specs.HeadOctets.{typed, bit_of, least_part}
use Rattle.bac_apdu.specs.FirstOctet.{seg_at, ends_at, HasType, HasEnd, HasGoodWindow}
use Rattle.bac_apdu.specs.Apdus.{ApduValue, abort, SpellsApdu}
use Rattle.bac_apdu.specs.Decoded.{IsRefused, IsEnded}
use Rattle.bac_tag.proofs.FilledLemmas.{filled, viable_itself}
use Rattle.bac_apdu.proofs.ReasonLemmas.{windowless, ends_within, flag_at, flag_is}
use Rattle.bac_apdu.proofs.EndingLemmas.{end_refused, end_found}

module _ (b : List ℕ) (small : (k : ℕ) → slice_index b k < 256) (h : HasType 7 b) where
  abbrev pub value : Bool → ApduValue
  value srv = abort (slice_index b 1) srv (slice_index b 2)

  spelled : (srv : Bool) → slice_index b 0 / 2 ^ 0 % 2 ≡ bit_of srv → SpellsApdu (value srv) (filled 3 b)
  spelled srv f = ((h.1, tt, tt, tt, f), ((refl, small 1), ((refl, small 2), refl)))

  good : HasGoodWindow b
  good = windowless 7 (seg_at (slice_index b 0)) b h refl refl

  end : HasEnd b
  end = (h.0, ap (λ (n : ℕ). ends_at n (seg_at (slice_index b 0))) h.1)

  pub abort_short : length b < 3 → IsRefused b (record { place = length b; why = Short })
  abort_short lt =
      ends_within 7 (seg_at (slice_index b 0)) 3 b h refl (omega arith) good (omega (arith, lt)) lt (viable_itself SpellsApdu (value (flag_at 0 (slice_index b 0))) (filled 3 b) (spelled (flag_at 0 (slice_index b 0)) (flag_is 0 (slice_index b 0))))

  module _ (srv : Bool) (first : ℕ) (long : 3 ≤ length b) (f : slice_index b 0 / 2 ^ 0 % 2 ≡ bit_of srv) (e : first ≡ least_part (typed 7 None None None (Some srv))) where
    abbrev least : List ℕ
    least = first ∷ slice_index b 1 ∷ slice_index b 2 ∷ []

    pub abort_refused : (r : Refusal) → IsEnded b (first ∷ slice_index b 1 ∷ slice_index b 2 ∷ []) (Err r) → IsRefused b r
    abort_refused r w = end_refused (value srv) b least end long (ap (λ (n : ℕ). n ∷ slice_index b 1 ∷ slice_index b 2 ∷ []) e) (spelled srv f) r good w

    pub abort_found : (m : Option ℕ) → IsEnded b (first ∷ slice_index b 1 ∷ slice_index b 2 ∷ []) (Ok m) → SpellsApdu (abort (slice_index b 1) srv (slice_index b 2)) b × HasMark (SpellsApdu (abort (slice_index b 1) srv (slice_index b 2))) b m
    abort_found m w = end_found (value srv) b least end long (ap (λ (n : ℕ). n ∷ slice_index b 1 ∷ slice_index b 2 ∷ []) e) (spelled srv f) m w
