-- SegmentACK.
use Rattle.std.specs.Prelude.{◌≡◌, ℕ, ◌/◌, ◌%◌, ◌^◌, ◌<◌, ◌≤◌, Bool, Some, None, List, [], ◌∷◌, ◌++◌, length, slice_index, Option, Ok, Err, refl}
use Rattle.std.proofs.Common.{sym, ap, subst, arith}
use Rattle.bac_tag.specs.declared.refusals.Refusal.{Refusal}
use Rattle.bac_tag.specs.declared.refusals.Why.TheVariants.{Short, Window}
use Rattle.bac_tag.specs.Spelling.{IsViable, HasMark}
use Rattle.bac_tag.specs.HeadOctets.{typed, bit_of, least_part, IsWindow}
use Rattle.bac_apdu.specs.FirstOctet.{seg_at, ends_at, HasType, HasEnd, HasGoodWindow}
use Rattle.bac_apdu.specs.Apdus.{ApduValue, segment_ack, SpellsApdu}
use Rattle.bac_apdu.specs.Decoded.{IsRefused, IsEnded}
use Rattle.bac_tag.proofs.FilledLemmas.{filled}
use Rattle.bac_apdu.proofs.TypeLemmas.{named}
use Rattle.bac_apdu.proofs.ReasonLemmas.{windowed, ends_within, flag_at, flag_is}
use Rattle.bac_apdu.proofs.WindowLemmas.{window_refused}
use Rattle.bac_apdu.proofs.EndingLemmas.{end_refused, end_found}

module _ (b : List ℕ) (small : (k : ℕ) → slice_index b k < 256) (h : HasType 4 b) where
  abbrev pub value : Bool → Bool → ApduValue
  value nak srv = segment_ack (slice_index b 1) nak srv (slice_index b 2) (slice_index b 3)

  begun : IsViable SpellsApdu (filled 3 b)
  begun = record {
    value = segment_ack (slice_index b 1) (flag_at 1 (slice_index b 0)) (flag_at 0 (slice_index b 0)) (slice_index b 2) 1;
    rest = 1 ∷ [];
    spelled = ((h.1, tt, tt, flag_is 1 (slice_index b 0), flag_is 0 (slice_index b 0)), ((refl, small 1), ((refl, small 2), ((refl, (omega arith, omega arith)), refl))));
  }

  only : (x : ApduValue) (w : ℕ) (d : List ℕ) → SpellsApdu x (filled 3 b ++ w ∷ d) → IsWindow w
  only x w d p =
      let n = named 4 (seg_at (slice_index b 0)) x (slice_index b 0) (slice_index b 1 ∷ slice_index b 2 ∷ w ∷ d) h.1 refl p in
      let s = subst (λ (y : ApduValue). SpellsApdu y (filled 3 b ++ w ∷ d)) n.5 p in
      subst IsWindow (sym s.1.1.1.0.0) s.1.1.1.0.1

  end : HasEnd b
  end = (h.0, ap (λ (n : ℕ). ends_at n (seg_at (slice_index b 0))) h.1)

  good : (3 < length b → IsWindow (slice_index b 3)) → HasGoodWindow b
  good w = windowed 4 (seg_at (slice_index b 0)) 3 b h refl refl w

  pub segment_ack_short : length b < 4 → IsRefused b (record { place = length b; why = Short })
  segment_ack_short lt = ends_within 4 (seg_at (slice_index b 0)) 3 b h refl (omega arith) (good (λ k. absurd (omega (arith, k, lt)))) (omega (arith, lt)) lt begun

  pub segment_ack_window : 4 ≤ length b → (IsWindow (slice_index b 3) → ⊥) → IsRefused b (record { place = 3; why = Window })
  segment_ack_window long bad = window_refused 4 (seg_at (slice_index b 0)) 2 b h refl (omega arith) refl (omega arith) long bad begun only

  module _ (nak srv : Bool) (size first : ℕ) (long : 4 ≤ length b) (f : slice_index b 0 / 2 ^ 1 % 2 ≡ bit_of nak) (g : slice_index b 0 / 2 ^ 0 % 2 ≡ bit_of srv) (w : IsWindow (slice_index b 3)) (same : size ≡ slice_index b 3)
      (e : first ≡ least_part (typed 4 None None (Some nak) (Some srv))) where
    spelled : SpellsApdu (value nak srv) (filled 4 b)
    spelled = ((h.1, tt, tt, f, g), ((refl, small 1), ((refl, small 2), ((refl, w), refl))))

    abbrev least : List ℕ
    least = first ∷ slice_index b 1 ∷ slice_index b 2 ∷ slice_index b 3 ∷ []

    pub segment_ack_refused : (r : Refusal) → IsEnded b (first ∷ slice_index b 1 ∷ slice_index b 2 ∷ slice_index b 3 ∷ []) (Err r) → IsRefused b r
    segment_ack_refused r k = end_refused (value nak srv) b least end long (ap (λ (n : ℕ). n ∷ slice_index b 1 ∷ slice_index b 2 ∷ slice_index b 3 ∷ []) e) spelled r (good (λ _. w)) k

    pub segment_ack_found : (m : Option ℕ) → IsEnded b (first ∷ slice_index b 1 ∷ slice_index b 2 ∷ slice_index b 3 ∷ []) (Ok m)
        → SpellsApdu (segment_ack (slice_index b 1) nak srv (slice_index b 2) size) b × HasMark (SpellsApdu (segment_ack (slice_index b 1) nak srv (slice_index b 2) size)) b m
    segment_ack_found m k =
        subst (λ (n : ℕ). SpellsApdu (segment_ack (slice_index b 1) nak srv (slice_index b 2) n) b × HasMark (SpellsApdu (segment_ack (slice_index b 1) nak srv (slice_index b 2) n)) b m) (sym same)
        (end_found (value nak srv) b least end long (ap (λ (n : ℕ). n ∷ slice_index b 1 ∷ slice_index b 2 ∷ slice_index b 3 ∷ []) e) spelled m k)
