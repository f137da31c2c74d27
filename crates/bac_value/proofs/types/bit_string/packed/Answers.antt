use Rattle.std.proofs.Common.{arith, ◌≡◌, ◌+◌, ◌*◌, ◌-◌, ◌∷◌, ◌++◌, [], ◌∙◌, ap, sym, ℕ, List, Bool, length, map}
use Rattle.std.specs.List.{range_with_len}
use Rattle.std.proofs.lemmas.List.FromFn.{map-range_with_len_more}
use Rattle.bac_value.specs.BitsContents.{octet_from, octets_for, packed_bits, least_bits}
use Rattle.bac_value.proofs.types.bit_string.packed.Goals as goal

step : (f : ℕ → ℕ) (x place o : ℕ) (items new : List ℕ) → items ≡ x ∷ map f (range_with_len 0 place) → new ≡ items ++ o ∷ [] → o ≡ f place → new ≡ x ∷ map f (range_with_len 0 (place + 1))
step f x place o items new i e v =
    e ∙ ap (λ (l : List ℕ). l ++ o ∷ []) i ∙ ap (λ (y : ℕ). x ∷ (map f (range_with_len 0 place) ++ y ∷ [])) v ∙ ap (λ (l : List ℕ). x ∷ l) (sym (map-range_with_len_more f 0 place place (omega arith)))

pub loop-place-preserved : goal.loop-place-preserved
loop-place-preserved c = step (λ (i : ℕ). octet_from c.args.bits.now (8 * i)) _ c.loop-place.place c.octet_at.result c.loop-place.contents.items _ c.loop-place.invariant c.in_ok-push-2.ensures.items c.octet_at.ensures

whole : (bits : List Bool) (count : ℕ) (items : List ℕ) → items ≡ (8 * octets_for (length bits) - length bits) ∷ map (λ (i : ℕ). octet_from bits (8 * i)) (range_with_len 0 count) → count ≡ octets_for (length bits) → items ≡ least_bits bits
unfolding least_bits packed_bits
whole bits count items i e = i ∙ ap (λ (n : ℕ). (8 * octets_for (length bits) - length bits) ∷ map (λ (i : ℕ). octet_from bits (8 * i)) (range_with_len 0 n)) e

pub returns : goal.returns
returns c = whole c.args.bits.now c.loop-place.place c.loop-place.contents.items c.loop-place.invariant (omega (arith, c.div_ceil-count.ensures))
