-- Reject.
use Rattle.std.specs.Prelude.{ℕ, ◌<◌, ◌≤◌, List, [], ◌∷◌, length, slice_index, Option, Ok, Err, refl}
use Rattle.std.proofs.Common.{ap, arith}
use Rattle.bac_tag.specs.declared.refusals.Refusal.{Refusal}
use Rattle.bac_tag.specs.declared.refusals.Why.TheVariants.{Short}
use Rattle.bac_tag.specs.Spelling.{HasMark}
use Rattle.bac_apdu.specs.FirstOctet.{seg_at, ends_at, HasType, HasEnd, HasGoodWindow}
use Rattle.bac_apdu.specs.Apdus.{ApduValue, reject, SpellsApdu}
use Rattle.bac_apdu.specs.Decoded.{IsRefused, IsEnded}
use Rattle.bac_tag.proofs.FilledLemmas.{filled, viable_itself}
use Rattle.bac_apdu.proofs.ReasonLemmas.{windowless, ends_within}
use Rattle.bac_apdu.proofs.EndingLemmas.{end_refused, end_found}

module _ (b : List ℕ) (small : (k : ℕ) → slice_index b k < 256) (h : HasType 6 b) where
  abbrev pub value : ApduValue
  value = reject (slice_index b 1) (slice_index b 2)

  spelled : SpellsApdu value (filled 3 b)
  spelled = ((h.1, tt, tt, tt, tt), ((refl, small 1), ((refl, small 2), refl)))

  good : HasGoodWindow b
  good = windowless 6 (seg_at (slice_index b 0)) b h refl refl

  end : HasEnd b
  end = (h.0, ap (λ (n : ℕ). ends_at n (seg_at (slice_index b 0))) h.1)

  pub reject_short : length b < 3 → IsRefused b (record { place = length b; why = Short })
  reject_short lt = ends_within 6 (seg_at (slice_index b 0)) 3 b h refl (omega arith) good (omega (arith, lt)) lt (viable_itself SpellsApdu value (filled 3 b) spelled)

  pub reject_refused : (r : Refusal) → 3 ≤ length b → IsEnded b (96 ∷ slice_index b 1 ∷ slice_index b 2 ∷ []) (Err r) → IsRefused b r
  reject_refused r long e = end_refused value b (96 ∷ slice_index b 1 ∷ slice_index b 2 ∷ []) end long refl spelled r good e

  pub reject_found : (m : Option ℕ) → 3 ≤ length b → IsEnded b (96 ∷ slice_index b 1 ∷ slice_index b 2 ∷ []) (Ok m) → SpellsApdu value b × HasMark (SpellsApdu value) b m
  reject_found m long e = end_found value b (96 ∷ slice_index b 1 ∷ slice_index b 2 ∷ []) end long refl spelled m e
