-- The bits of the octets that bits are packed in, however many they are.
use Rattle.std.specs.Prelude.{◌≡◌, ℕ, ◌+◌, ◌*◌, ◌-◌, ◌/◌, ◌%◌, ◌<◌, ◌≤◌, ◌==◌, Bool, true, false, List, length, map, refl}
use Rattle.std.specs.List.{range_with_len}
use Rattle.std.specs.Int.{bit_at}
use Rattle.std.proofs.Common.{◌∙◌, ap, arith, suc, zero, add-zero, get_or}
use Rattle.std.proofs.lemmas.List.{same_lists, get_or_default}
use Rattle.std.proofs.lemmas.List.FromFn.{length-map-range_with_len, get_or-map-range_with_len}
use Rattle.bac_value.specs.BitsContents.{bit_in, bits_in, worth, octet_from, octets_for, packed_bits}

worth_small : (b : Bool) → worth b ≤ 1
worth_small true = omega arith
worth_small false = omega arith

worth_is : (b : Bool) → (worth b == 1) ≡ b
worth_is true = refl
worth_is false = refl

-- bit j of the sum of eight bits
bit_of_sum : (w : ℕ → ℕ) → ((i : ℕ) → w i ≤ 1) → (k j : ℕ) → j < 8 → bit_at (128 * w k + 64 * w (k + 1) + 32 * w (k + 2) + 16 * w (k + 3) + 8 * w (k + 4) + 4 * w (k + 5) + 2 * w (k + 6) + w (k + 7)) (7 - j) ≡ w (k + j)
bit_of_sum w s k zero h = let first : w (k + 0) ≡ w k = ap w (add-zero k) in omega (arith, first, s k, s (k + 1), s (k + 2), s (k + 3), s (k + 4), s (k + 5), s (k + 6), s (k + 7))
bit_of_sum w s k (suc zero) h = omega (arith, s k, s (k + 1), s (k + 2), s (k + 3), s (k + 4), s (k + 5), s (k + 6), s (k + 7))
bit_of_sum w s k (suc (suc zero)) h = omega (arith, s k, s (k + 1), s (k + 2), s (k + 3), s (k + 4), s (k + 5), s (k + 6), s (k + 7))
bit_of_sum w s k (suc (suc (suc zero))) h = omega (arith, s k, s (k + 1), s (k + 2), s (k + 3), s (k + 4), s (k + 5), s (k + 6), s (k + 7))
bit_of_sum w s k (suc (suc (suc (suc zero)))) h = omega (arith, s k, s (k + 1), s (k + 2), s (k + 3), s (k + 4), s (k + 5), s (k + 6), s (k + 7))
bit_of_sum w s k (suc (suc (suc (suc (suc zero))))) h = omega (arith, s k, s (k + 1), s (k + 2), s (k + 3), s (k + 4), s (k + 5), s (k + 6), s (k + 7))
bit_of_sum w s k (suc (suc (suc (suc (suc (suc zero)))))) h = omega (arith, s k, s (k + 1), s (k + 2), s (k + 3), s (k + 4), s (k + 5), s (k + 6), s (k + 7))
bit_of_sum w s k (suc (suc (suc (suc (suc (suc (suc zero))))))) h = omega (arith, s k, s (k + 1), s (k + 2), s (k + 3), s (k + 4), s (k + 5), s (k + 6), s (k + 7))
bit_of_sum w s k (suc (suc (suc (suc (suc (suc (suc (suc j)))))))) h = absurd (omega arith)

-- bit j of eight bits
bit_of_octet : (bits : List Bool) (k j : ℕ) → j < 8 → bit_at (octet_from bits k) (7 - j) ≡ worth (get_or bits (k + j) false)
bit_of_octet bits = bit_of_sum (λ i. worth (get_or bits i false)) (λ i. worth_small (get_or bits i false))

pub bits_of_packed : (bits : List Bool) → bits_in (packed_bits bits) (length bits) ≡ bits
unfolding packed_bits
bits_of_packed bits =
    let f : ℕ → ℕ = λ i. octet_from bits (8 * i) in
    let packed : List ℕ = map f (range_with_len 0 (octets_for (length bits))) in
    let size : length (map (bit_in packed) (range_with_len 0 (length bits))) ≡ length bits = length-map-range_with_len (bit_in packed) 0 (length bits) in
    same_lists (map (bit_in packed) (range_with_len 0 (length bits))) bits size (λ k d l.
    let inside : k < length bits = omega (arith, l, size) in
    let octet : get_or packed (k / 8) 0 ≡ f (k / 8) = get_or-map-range_with_len f 0 (octets_for (length bits)) (k / 8) (k / 8) 0 (omega (arith, inside)) (omega arith) in
    let back : 8 * (k / 8) + k % 8 ≡ k = omega arith in
    let bit : bit_at (octet_from bits (8 * (k / 8))) (7 - k % 8) ≡ worth (get_or bits k false) = bit_of_octet bits (8 * (k / 8)) (k % 8) (omega arith) ∙ ap (λ i. worth (get_or bits i false)) back in
    get_or-map-range_with_len (bit_in packed) 0 (length bits) k k d inside (omega arith) ∙ ap (λ (x : ℕ). bit_at x (7 - k % 8) == 1) octet ∙ ap (λ (x : ℕ). x == 1) bit
    ∙ worth_is (get_or bits k false) ∙ get_or_default bits k false d inside)
