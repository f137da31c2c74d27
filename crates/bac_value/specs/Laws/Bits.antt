-- Laws on bit strings as contents.
use Rattle.std.proofs.Common.{◌≡◌, ℕ, zero, suc, ◌<◌, ◌≤◌, ◌^◌, ◌+◌, ◌*◌, ◌-◌, ◌/◌, ◌%◌, Bool, true, false, List, [], ◌∷◌, ◌++◌, length, take, drop, map, arith, add-zero, subst, replicate, sym, ◌∙◌, ap, refl, inl, inr, get_or}
use Rattle.std.specs.Prelude.{◌==◌}
use Rattle.std.specs.List.{range_with_len}
use Rattle.std.specs.Int.{bit_at}
use Rattle.std.proofs.Math.ListN.{get_or-eq_default}
use Rattle.std.proofs.Math.Seq.{take-length}
use Rattle.std.proofs.lemmas.Bool.{cases_lt}
use Rattle.std.proofs.Common.{set, length-append}
use Rattle.std.proofs.lemmas.List.{same_lists, get_or_default, length-set, get_or-set_same, get_or-set_other, set-get_or, set-append_right, take-set, get_or-append_right}
use Rattle.std.proofs.lemmas.List.FromFn.{length-map-range_with_len, get_or-map-range_with_len, fill_by_all}
use Rattle.std.proofs.lemmas.Nat.Bits.{bit_at-lt}
use Rattle.bac_tag.specs.Octets.{IsOctets, NoGreater, FirstDifference}
use Rattle.bac_value.specs.Primitives.{IsBegun, IsHopelessAt}
use Rattle.bac_tag.specs.Laws.Octets.{octets_below, octets_at, octets_replicate, octets_filled, length-filled, zeros_to, differs_at}
use Rattle.std.proofs.lemmas.List.{length-replicate}
use Rattle.bac_value.specs.BitsContents.{bit_in, bits_in, HoldsBits, BitsContents, IsBits, worth, octet_from, octets_for, packed_bits, least_bits, bits_of, IsLeastBits, CountsUnused, IsPacked}

pub bits_once : (a b : List Bool) (octets : List ℕ) → BitsContents a octets → BitsContents b octets → a ≡ b
bits_once a b [] p q = absurd p
bits_once a b (unused ∷ packed) p q = same_lists a b (omega (arith, p.sized, q.sized)) (λ k d l.
    get_or_default a k d false l ∙ p.agree k l ∙ sym (q.agree k (omega (arith, p.sized, q.sized))) ∙ get_or_default b k false d (omega (arith, p.sized, q.sized)))

pub bits_only_values : (bits : List Bool) (octets : List ℕ) → BitsContents bits octets → IsBits bits
bits_only_values bits [] h = absurd h
bits_only_values bits (unused ∷ packed) h = omega (arith, h.sized, h.within)

pub bits_lengths : (bits : List Bool) (octets : List ℕ) → BitsContents bits octets → (1 ≤ length octets) × (length octets ≤ 1048576)
bits_lengths bits [] h = absurd h
bits_lengths bits (unused ∷ packed) h = (omega arith, omega (arith, h.within))

-- an octet is the sum of its bits
pub octet_is : (x : ℕ) → x < 256 → x ≡ 128 * bit_at x 7 + 64 * bit_at x 6 + 32 * bit_at x 5 + 16 * bit_at x 4 + 8 * bit_at x 3 + 4 * bit_at x 2 + 2 * bit_at x 1 + bit_at x 0
octet_is x h = omega arith

worth_small : (b : Bool) → worth b ≤ 1
worth_small true = omega arith
worth_small false = omega arith

worth_test : (n : ℕ) → worth (n == 1) ≤ n
worth_test zero = omega arith
worth_test (suc zero) = omega arith
worth_test (suc (suc n)) = omega (arith, worth_small (suc (suc n) == 1))

-- a bit of the value is no more than the octets' bit in its place
worth_le : (bits : List Bool) (unused : ℕ) (packed : List ℕ) → HoldsBits bits unused packed → (i j k : ℕ) → j < 8 → k ≡ 8 * i + j → worth (get_or bits k false) ≤ bit_at (get_or packed i 0) (7 - j)
worth_le bits unused packed h i j k small e = elim (cases_lt k (length bits)) [
  | inl inside ↦
      let place : k / 8 ≡ i = omega arith in
      let bit : k % 8 ≡ j = omega arith in
      let is : get_or bits k false ≡ (bit_at (get_or packed i 0) (7 - j) == 1) = h.agree k inside ∙ ap (λ p. bit_at (get_or packed p 0) (7 - k % 8) == 1) place ∙ ap (λ q. bit_at (get_or packed i 0) (7 - q) == 1) bit in
      rw is (worth_test (bit_at (get_or packed i 0) (7 - j)))
  | inr outside ↦ rw (get_or-eq_default bits false outside) (omega arith)
]

octet_le : (bits : List Bool) (unused : ℕ) (packed : List ℕ) → HoldsBits bits unused packed → (i : ℕ) → get_or packed i 0 < 256 → octet_from bits (8 * i) ≤ get_or packed i 0
octet_le bits unused packed h i small =
    let le = worth_le bits unused packed h i in
    omega (
      arith,
      octet_is (get_or packed i 0) small,
      le 0 (8 * i) (omega arith) (omega arith),
      le 1 (8 * i + 1) (omega arith) (omega arith),
      le 2 (8 * i + 2) (omega arith) (omega arith),
      le 3 (8 * i + 3) (omega arith) (omega arith),
      le 4 (8 * i + 4) (omega arith) (omega arith),
      le 5 (8 * i + 5) (omega arith) (omega arith),
      le 6 (8 * i + 6) (omega arith) (omega arith),
      le 7 (8 * i + 7) (omega arith) (omega arith),
    )

bits_place : (bits : List Bool) (unused : ℕ) (packed : List ℕ) → HoldsBits bits unused packed → (place : ℕ) → octets_for (length bits) ≡ length packed → get_or (least_bits bits) place 0 ≤ get_or (unused ∷ packed) place 0
unfolding least_bits packed_bits
bits_place bits unused packed h zero long = omega (arith, h.sized)
bits_place bits unused packed h (suc i) long = elim (cases_lt i (length packed)) [
  | inl inside ↦
      let is : get_or (map (λ i. octet_from bits (8 * i)) (range_with_len 0 (octets_for (length bits)))) i 0 ≡ octet_from bits (8 * i) = get_or-map-range_with_len (λ i. octet_from bits (8 * i)) 0 (octets_for (length bits)) i i 0 (omega arith) (omega arith) in
      rw is (octet_le bits unused packed h i (octets_below packed h.are_octets i))
  | inr outside ↦
      let end : length (map (λ i. octet_from bits (8 * i)) (range_with_len 0 (octets_for (length bits)))) ≤ i = omega (arith, length-map-range_with_len (λ i. octet_from bits (8 * i)) 0 (octets_for (length bits))) in
      let past : get_or (map (λ i. octet_from bits (8 * i)) (range_with_len 0 (octets_for (length bits)))) i 0 ≡ 0 = get_or-eq_default _ 0 end in
      rw past (omega arith)
]

pub bits_least : (bits : List Bool) (octets : List ℕ) → BitsContents bits octets → NoGreater (least_bits bits) octets
unfolding least_bits packed_bits
bits_least bits [] h = absurd h
bits_least bits (unused ∷ packed) h =
    let long : octets_for (length bits) ≡ length packed = omega (arith, h.sized, h.few) in
    let same : length (packed_bits bits) ≡ octets_for (length bits) = length-map-range_with_len (λ i. octet_from bits (8 * i)) 0 (octets_for (length bits)) in
    inr (omega arith, λ place below. bits_place bits unused packed h place long)

-- bit j of the sum of eight bits
bit_of_sum : (w : ℕ → ℕ) → ((i : ℕ) → w i ≤ 1) → (k j : ℕ) → j < 8 → bit_at (128 * w k + 64 * w (k + 1) + 32 * w (k + 2) + 16 * w (k + 3) + 8 * w (k + 4) + 4 * w (k + 5) + 2 * w (k + 6) + w (k + 7)) (7 - j) ≡ w (k + j)
bit_of_sum w s k zero h = let first : w (k + 0) ≡ w k = ap w (add-zero k) in omega (arith, first, s k, s (k + 1), s (k + 2), s (k + 3), s (k + 4), s (k + 5), s (k + 6), s (k + 7))
bit_of_sum w s k (suc zero) h = omega (arith, s k, s (k + 1), s (k + 2), s (k + 3), s (k + 4), s (k + 5), s (k + 6), s (k + 7))
bit_of_sum w s k (suc (suc zero)) h = omega (arith, s k, s (k + 1), s (k + 2), s (k + 3), s (k + 4), s (k + 5), s (k + 6), s (k + 7))
bit_of_sum w s k (suc (suc (suc zero))) h = omega (arith, s k, s (k + 1), s (k + 2), s (k + 3), s (k + 4), s (k + 5), s (k + 6), s (k + 7))
bit_of_sum w s k (suc (suc (suc (suc zero)))) h = omega (arith, s k, s (k + 1), s (k + 2), s (k + 3), s (k + 4), s (k + 5), s (k + 6), s (k + 7))
bit_of_sum w s k (suc (suc (suc (suc (suc zero))))) h = omega (arith, s k, s (k + 1), s (k + 2), s (k + 3), s (k + 4), s (k + 5), s (k + 6), s (k + 7))
bit_of_sum w s k (suc (suc (suc (suc (suc (suc zero)))))) h = omega (arith, s k, s (k + 1), s (k + 2), s (k + 3), s (k + 4), s (k + 5), s (k + 6), s (k + 7))
bit_of_sum w s k (suc (suc (suc (suc (suc (suc (suc zero))))))) h = omega (arith, s k, s (k + 1), s (k + 2), s (k + 3), s (k + 4), s (k + 5), s (k + 6), s (k + 7))
bit_of_sum w s k (suc (suc (suc (suc (suc (suc (suc (suc j)))))))) h = absurd (omega arith)

-- bit j of eight bits
bit_of_octet : (bits : List Bool) (k j : ℕ) → j < 8 → bit_at (octet_from bits k) (7 - j) ≡ worth (get_or bits (k + j) false)
bit_of_octet bits = bit_of_sum (λ i. worth (get_or bits i false)) (λ i. worth_small (get_or bits i false))

worth_is : (b : Bool) → (worth b == 1) ≡ b
worth_is true = refl
worth_is false = refl

sum_small : (w : ℕ → ℕ) → ((i : ℕ) → w i ≤ 1) → (k : ℕ) → 128 * w k + 64 * w (k + 1) + 32 * w (k + 2) + 16 * w (k + 3) + 8 * w (k + 4) + 4 * w (k + 5) + 2 * w (k + 6) + w (k + 7) < 256
sum_small w s k = omega (arith, s k, s (k + 1), s (k + 2), s (k + 3), s (k + 4), s (k + 5), s (k + 6), s (k + 7))

octet_small : (bits : List Bool) (k : ℕ) → octet_from bits k < 256
octet_small bits = sum_small (λ i. worth (get_or bits i false)) (λ i. worth_small (get_or bits i false))

pub bits_written : (bits : List Bool) → IsBits bits → BitsContents bits (least_bits bits)
unfolding least_bits packed_bits
bits_written bits h =
    let f : ℕ → ℕ = λ i. octet_from bits (8 * i) in
    let many : length (map f (range_with_len 0 (octets_for (length bits)))) ≡ octets_for (length bits) = length-map-range_with_len f 0 (octets_for (length bits)) in
    record {
      few = omega arith;
      sized = omega arith;
      are_octets = octets_at _ (λ i. elim (cases_lt i (octets_for (length bits))) [
        | inl inside ↦
            let is : get_or (map f (range_with_len 0 (octets_for (length bits)))) i 0 ≡ octet_from bits (8 * i) = get_or-map-range_with_len f 0 (octets_for (length bits)) i i 0 inside (omega arith) in
            rw is (octet_small bits (8 * i))
        | inr outside ↦
            let end : length (map f (range_with_len 0 (octets_for (length bits)))) ≤ i = omega arith in
            let past : get_or (map f (range_with_len 0 (octets_for (length bits)))) i 0 ≡ 0 = get_or-eq_default _ 0 end in
            rw past (omega arith)
      ]);
      within = omega arith;
      agree = λ k inside.
          let is : get_or (map f (range_with_len 0 (octets_for (length bits)))) (k / 8) 0 ≡ octet_from bits (8 * (k / 8)) = get_or-map-range_with_len f 0 (octets_for (length bits)) (k / 8) (k / 8) 0 (omega arith) (omega arith) in
          let back : 8 * (k / 8) + k % 8 ≡ k = omega arith in
          let bit : bit_at (octet_from bits (8 * (k / 8))) (7 - k % 8) ≡ worth (get_or bits k false) = bit_of_octet bits (8 * (k / 8)) (k % 8) (omega arith) ∙ ap (λ i. worth (get_or bits i false)) back in
          sym (ap (λ x. bit_at x (7 - k % 8) == 1) is ∙ ap (λ b. b == 1) bit ∙ worth_is (get_or bits k false));
    }

-- octets with a possible count spell bits
pub bits_of_holds : (unused : ℕ) (packed : List ℕ) → IsOctets packed → length packed < 1048576 → unused < 8 → unused ≤ 8 * length packed → HoldsBits (bits_of (unused ∷ packed)) unused packed
unfolding bits_of
bits_of_holds unused packed p within few room =
    let many : length (map (bit_in packed) (range_with_len 0 (8 * length packed - unused))) ≡ 8 * length packed - unused = length-map-range_with_len (bit_in packed) 0 (8 * length packed - unused) in
    record {
      few = few;
      sized = omega arith;
      are_octets = p;
      within = within;
      agree = λ k inside. get_or-map-range_with_len (bit_in packed) 0 (8 * length packed - unused) k k false (omega arith) (omega arith);
    }

test_worth : (n : ℕ) → n < 2 → worth (n == 1) ≡ n
test_worth zero h = refl
test_worth (suc zero) h = refl
test_worth (suc (suc n)) h = absurd (omega arith)

-- a bit of the value is the octets' bit in its place
worth_eq : (bits : List Bool) (unused : ℕ) (packed : List ℕ) → HoldsBits bits unused packed → (i j k : ℕ) → j < 8 → k ≡ 8 * i + j → k < length bits → worth (get_or bits k false) ≡ bit_at (get_or packed i 0) (7 - j)
worth_eq bits unused packed h i j k small e inside =
    let place : k / 8 ≡ i = omega arith in
    let bit : k % 8 ≡ j = omega arith in
    let is : get_or bits k false ≡ (bit_at (get_or packed i 0) (7 - j) == 1) = h.agree k inside ∙ ap (λ p. bit_at (get_or packed p 0) (7 - k % 8) == 1) place ∙ ap (λ q. bit_at (get_or packed i 0) (7 - q) == 1) bit in
    rw is (test_worth (bit_at (get_or packed i 0) (7 - j)) (bit_at-lt (get_or packed i 0) (7 - j)))

-- past the end a bit is 0
worth_past : (bits : List Bool) (k : ℕ) → length bits ≤ k → worth (get_or bits k false) ≡ 0
worth_past bits k outside = rw (get_or-eq_default bits false outside) refl

-- Eight bits, of which the last u are 0 and the others those of an octet.
cleared_sum : (w : ℕ → ℕ) (k x u : ℕ) → x < 256 → u < 8 → ((j : ℕ) → j + u < 8 → w (k + j) ≡ bit_at x (7 - j)) → ((j : ℕ) → j < 8 → 8 ≤ j + u → w (k + j) ≡ 0)
    → 128 * w k + 64 * w (k + 1) + 32 * w (k + 2) + 16 * w (k + 3) + 8 * w (k + 4) + 4 * w (k + 5) + 2 * w (k + 6) + w (k + 7) ≡ x / 2 ^ u * 2 ^ u
cleared_sum w k x zero small few is past = let first : w (k + 0) ≡ w k = ap w (add-zero k) in omega (arith, first, octet_is x small, is 0 (omega arith), is 1 (omega arith), is 2 (omega arith), is 3 (omega arith), is 4 (omega arith), is 5 (omega arith), is 6 (omega arith), is 7 (omega arith))
cleared_sum w k x (suc zero) small few is past = let first : w (k + 0) ≡ w k = ap w (add-zero k) in omega (arith, first, octet_is x small, is 0 (omega arith), is 1 (omega arith), is 2 (omega arith), is 3 (omega arith), is 4 (omega arith), is 5 (omega arith), is 6 (omega arith), past 7 (omega arith) (omega arith))
cleared_sum w k x (suc (suc zero)) small few is past = let first : w (k + 0) ≡ w k = ap w (add-zero k) in omega (arith, first, octet_is x small, is 0 (omega arith), is 1 (omega arith), is 2 (omega arith), is 3 (omega arith), is 4 (omega arith), is 5 (omega arith), past 6 (omega arith) (omega arith), past 7 (omega arith) (omega arith))
cleared_sum w k x (suc (suc (suc zero))) small few is past = let first : w (k + 0) ≡ w k = ap w (add-zero k) in omega (arith, first, octet_is x small, is 0 (omega arith), is 1 (omega arith), is 2 (omega arith), is 3 (omega arith), is 4 (omega arith), past 5 (omega arith) (omega arith), past 6 (omega arith) (omega arith), past 7 (omega arith) (omega arith))
cleared_sum w k x (suc (suc (suc (suc zero)))) small few is past = let first : w (k + 0) ≡ w k = ap w (add-zero k) in omega (arith, first, octet_is x small, is 0 (omega arith), is 1 (omega arith), is 2 (omega arith), is 3 (omega arith), past 4 (omega arith) (omega arith), past 5 (omega arith) (omega arith), past 6 (omega arith) (omega arith), past 7 (omega arith) (omega arith))
cleared_sum w k x (suc (suc (suc (suc (suc zero))))) small few is past = let first : w (k + 0) ≡ w k = ap w (add-zero k) in omega (arith, first, octet_is x small, is 0 (omega arith), is 1 (omega arith), is 2 (omega arith), past 3 (omega arith) (omega arith), past 4 (omega arith) (omega arith), past 5 (omega arith) (omega arith), past 6 (omega arith) (omega arith), past 7 (omega arith) (omega arith))
cleared_sum w k x (suc (suc (suc (suc (suc (suc zero)))))) small few is past = let first : w (k + 0) ≡ w k = ap w (add-zero k) in omega (arith, first, octet_is x small, is 0 (omega arith), is 1 (omega arith), past 2 (omega arith) (omega arith), past 3 (omega arith) (omega arith), past 4 (omega arith) (omega arith), past 5 (omega arith) (omega arith), past 6 (omega arith) (omega arith), past 7 (omega arith) (omega arith))
cleared_sum w k x (suc (suc (suc (suc (suc (suc (suc zero))))))) small few is past = let first : w (k + 0) ≡ w k = ap w (add-zero k) in omega (arith, first, octet_is x small, is 0 (omega arith), past 1 (omega arith) (omega arith), past 2 (omega arith) (omega arith), past 3 (omega arith) (omega arith), past 4 (omega arith) (omega arith), past 5 (omega arith) (omega arith), past 6 (omega arith) (omega arith), past 7 (omega arith) (omega arith))
cleared_sum w k x (suc (suc (suc (suc (suc (suc (suc (suc u)))))))) small few is past = absurd (omega arith)

-- the octet with the unused bits
octet_last : (bits : List Bool) (unused : ℕ) (packed : List ℕ) → HoldsBits bits unused packed → (i u : ℕ) → get_or packed i 0 < 256 → u < 8 → 8 * i + 8 ≡ length bits + u → octet_from bits (8 * i) ≡ get_or packed i 0 / 2 ^ u * 2 ^ u
octet_last bits unused packed h i u small few e = cleared_sum (λ k. worth (get_or bits k false)) (8 * i) (get_or packed i 0) u small few
    (λ j inside. worth_eq bits unused packed h i j (8 * i + j) (omega arith) refl (omega arith))
    (λ j within past. worth_past bits (8 * i + j) (omega arith))

-- an octet with no unused bits
octet_whole : (bits : List Bool) (unused : ℕ) (packed : List ℕ) → HoldsBits bits unused packed → (i : ℕ) → get_or packed i 0 < 256 → 8 * i + 8 ≤ length bits → octet_from bits (8 * i) ≡ get_or packed i 0
octet_whole bits unused packed h i small inside =
    let is : octet_from bits (8 * i) ≡ get_or packed i 0 / 2 ^ 0 * 2 ^ 0 = cleared_sum (λ k. worth (get_or bits k false)) (8 * i) (get_or packed i 0) 0 small (omega arith)
    (λ j within. worth_eq bits unused packed h i j (8 * i + j) (omega arith) refl (omega arith)) (λ j within past. absurd (omega arith)) in
    omega (arith, is)

-- octets with the unused bits of the last one cleared are those that are written
pub cleared : (bits : List Bool) (unused : ℕ) (packed other : List ℕ) → HoldsBits bits unused packed → length other ≡ length packed
    → ((i : ℕ) → i + 1 < length packed → get_or other i 0 ≡ get_or packed i 0)
    → ((i : ℕ) → i + 1 ≡ length packed → get_or other i 0 ≡ get_or packed i 0 / 2 ^ unused * 2 ^ unused)
    → unused ∷ other ≡ least_bits bits
unfolding least_bits packed_bits
cleared bits unused packed other h l front last =
    let f : ℕ → ℕ = λ i. octet_from bits (8 * i) in
    let count : unused ≡ 8 * octets_for (length bits) - length bits = omega (arith, h.sized, h.few) in
    let long : length other ≡ octets_for (length bits) = omega (arith, h.sized, h.few) in
    let rest : other ≡ map f (range_with_len 0 (octets_for (length bits))) = fill_by_all f other (octets_for (length bits)) 0 long (λ i inside. elim (cases_lt (i + 1) (length packed)) [
      | inl before ↦ front i before ∙ sym (octet_whole bits unused packed h i (octets_below packed h.are_octets i) (omega (arith, h.sized, h.few)))
      | inr end ↦ last i (omega arith) ∙ sym (octet_last bits unused packed h i unused (octets_below packed h.are_octets i) h.few (omega (arith, h.sized)))
    ]) in
    cc

-- what begins bits of a size
bits_begun_from : (all front rest : List ℕ) (size : ℕ) → front ++ rest ≡ all → IsOctets all → length all ≡ size → 1 ≤ size → size ≤ 1048576 → CountsUnused (get_or all 0 0) size → IsBegun BitsContents front size
bits_begun_from [] front rest size e p sized some within counts = absurd (omega arith)
bits_begun_from (u ∷ packed) front rest size e p sized some within counts = record {
  value = bits_of (u ∷ packed);
  rest = rest;
  sized = ap length e ∙ sized;
  spelled = subst (BitsContents (bits_of (u ∷ packed))) (sym e) (bits_of_holds u packed p.1 (omega arith) counts.0 (let l : u ≤ 8 * (size - 1) = counts.1 in omega arith));
}

pub bits_each_length : (size : ℕ) → 1 ≤ size → size ≤ 1048576 → IsBegun BitsContents [] size
bits_each_length zero some within = absurd (omega arith)
bits_each_length (suc size) some within = bits_begun_from (replicate (suc size) 0) [] (replicate (suc size) 0) (suc size) refl (octets_replicate (suc size)) (length-replicate {A = ℕ} (suc size) 0) some within (omega arith, omega arith)

pub bits_begun : (front : List ℕ) (size : ℕ) → IsOctets front → length front ≤ size → 1 ≤ size → size ≤ 1048576 → (0 < length front → CountsUnused (get_or front 0 0) size) → IsBegun BitsContents front size
bits_begun [] size p sized some within counts = bits_each_length size some within
bits_begun (u ∷ fs) size p sized some within counts =
    bits_begun_from ((u ∷ fs) ++ zeros_to (u ∷ fs) size) (u ∷ fs) (zeros_to (u ∷ fs) size) size refl (octets_filled (u ∷ fs) size p) (length-filled (u ∷ fs) size sized) some within (counts (omega arith))

pub bits_hopeless : (front : List ℕ) (size : ℕ) → 1 ≤ size → size ≤ 1048576 → 0 < length front → (CountsUnused (get_or front 0 0) size → ⊥) → IsHopelessAt BitsContents front size 0
bits_hopeless [] size some within here wrong = absurd (omega arith)
bits_hopeless (u ∷ fs) size some within here wrong =
    (here, bits_each_length size some within, λ begun. wrong (begun.spelled.few, (let e : length begun.value + u ≡ 8 * length begun.rest = begun.spelled.sized in let l : suc (length begun.rest) ≡ size = begun.sized in omega arith)))

-- written contents spell their bits
pub least_holds : (unused : ℕ) (packed : List ℕ) → IsLeastBits (unused ∷ packed) → HoldsBits (bits_of (unused ∷ packed)) unused packed
least_holds unused packed h = subst (BitsContents (bits_of (unused ∷ packed))) (sym h.is) (bits_written (bits_of (unused ∷ packed)) h.are_bits)

pub least_some : (octets : List ℕ) → IsLeastBits octets → 1 ≤ length octets
least_some octets h = (bits_lengths (bits_of octets) octets (subst (BitsContents (bits_of octets)) (sym h.is) (bits_written (bits_of octets) h.are_bits))).0

pub least_length : (octets : List ℕ) → IsLeastBits octets → (length (bits_of octets) + get_or octets 0 0 ≡ 8 * (length octets - 1)) × (get_or octets 0 0 < 8) × (length octets ≤ 1048576)
least_length [] h = absurd (omega (arith, least_some [] h))
least_length (unused ∷ packed) h = let holds = least_holds unused packed h in (omega (arith, holds.sized), holds.few, omega (arith, holds.within))

pub least_bit : (octets : List ℕ) (k : ℕ) → IsLeastBits octets → k < length (bits_of octets) → get_or (bits_of octets) k false ≡ (bit_at (get_or octets (1 + k / 8) 0) (7 - k % 8) == 1)
least_bit [] k h inside = absurd (omega (arith, least_some [] h))
least_bit (unused ∷ packed) k h inside = (least_holds unused packed h).agree k inside ∙ ap (λ x. bit_at x (7 - k % 8) == 1) (let e : get_or packed (k / 8) 0 ≡ get_or (unused ∷ packed) (1 + k / 8) 0 = ap (λ i. get_or (unused ∷ packed) i 0) (let one : suc (k / 8) ≡ 1 + k / 8 = omega arith in one) in e)

-- what is cleared is written, and of the bits that the octets spell
pub cleared_is : (octets other : List ℕ) → IsOctets octets → 1 ≤ length octets → length octets ≤ 1048576 → CountsUnused (get_or octets 0 0) (length octets)
    → length other ≡ length octets
    → ((i : ℕ) → i + 1 < length octets → get_or other i 0 ≡ get_or octets i 0)
    → ((i : ℕ) → 0 < i → i + 1 ≡ length octets → get_or other i 0 ≡ get_or octets i 0 / 2 ^ get_or octets 0 0 * 2 ^ get_or octets 0 0)
    → (length octets ≡ 1 → get_or other 0 0 ≡ get_or octets 0 0)
    → IsLeastBits other × BitsContents (bits_of other) octets
cleared_is [] other p some within counts l front last lone = absurd (omega arith)
cleared_is (u ∷ packed) [] p some within counts l front last lone = absurd (omega arith)
cleared_is (u ∷ packed) (v ∷ rest) p some within counts l front last lone =
    let room : u ≤ 8 * (length (u ∷ packed) - 1) = counts.1 in
    let holds : HoldsBits (bits_of (u ∷ packed)) u packed = bits_of_holds u packed p.1 (omega arith) counts.0 (omega arith) in
    let same : v ≡ u = elim (cases_lt 1 (length (u ∷ packed))) [ inl more ↦ front 0 (omega arith) | inr one ↦ lone (omega arith) ] in
    let list : u ∷ rest ≡ least_bits (bits_of (u ∷ packed)) = cleared (bits_of (u ∷ packed)) u packed rest holds (omega arith) (λ i before. front (suc i) (omega arith)) (λ i end. last (suc i) (omega arith) (omega arith)) in
    let whole : v ∷ rest ≡ least_bits (bits_of (u ∷ packed)) = ap (λ x. x ∷ rest) same ∙ list in
    let spelled : HoldsBits (bits_of (u ∷ packed)) v rest = subst (BitsContents (bits_of (u ∷ packed))) (sym whole) (bits_written (bits_of (u ∷ packed)) (bits_only_values (bits_of (u ∷ packed)) (u ∷ packed) holds)) in
    let again : bits_of (v ∷ rest) ≡ bits_of (u ∷ packed) = bits_once _ _ (v ∷ rest) (bits_of_holds v rest spelled.are_octets spelled.within spelled.few (omega (arith, spelled.sized))) spelled in
    (record { is = whole ∙ ap least_bits (sym again); are_bits = rw again (bits_only_values (bits_of (u ∷ packed)) (u ∷ packed) holds) }, subst (λ (b : List Bool). BitsContents b (u ∷ packed)) (sym again) holds)

-- octets that begin bits of their own size have a possible count
pub bits_counts : (octets : List ℕ) → 1 ≤ length octets → IsBegun BitsContents octets (length octets) → CountsUnused (get_or octets 0 0) (length octets)
bits_counts [] some h = absurd (omega arith)
bits_counts (u ∷ fs) some h =
    let e : length h.value + u ≡ 8 * length (fs ++ h.rest) = h.spelled.sized in
    let l : suc (length (fs ++ h.rest)) ≡ suc (length fs) = h.sized in
    (h.spelled.few, omega arith)

-- the bits of written contents are those that were written
pub bits_of_least : (bits : List Bool) → IsBits bits → bits_of (least_bits bits) ≡ bits
unfolding least_bits
bits_of_least bits h =
    let holds : HoldsBits bits (8 * octets_for (length bits) - length bits) (packed_bits bits) = bits_written bits h in
    bits_once _ _ (least_bits bits) (bits_of_holds (8 * octets_for (length bits) - length bits) (packed_bits bits) holds.are_octets holds.within holds.few (omega (arith, holds.sized))) holds

pub least_is_least : (bits : List Bool) (octets : List ℕ) → IsBits bits → octets ≡ least_bits bits → IsLeastBits octets × (bits_of octets ≡ bits)
least_is_least bits octets h e =
    let back : bits_of octets ≡ bits = ap bits_of e ∙ bits_of_least bits h in
    (record { is = e ∙ ap least_bits (sym back); are_bits = rw back h }, back)

-- the octets behind the count of written contents
pub least_behind : (octets : List ℕ) → IsLeastBits octets → take (length octets - 1) (drop 1 octets) ≡ packed_bits (bits_of octets)
unfolding least_bits
least_behind [] h = absurd (omega (arith, least_some [] h))
least_behind (unused ∷ packed) h =
    let rest : suc (length packed) - 1 ≡ length packed = omega arith in
    ap (λ (n : ℕ). take n packed) rest ∙ take-length packed ∙ ap (drop 1) h.is

-- the bits at the front of the octets that hold bits
pub bits_in_packed : (bits : List Bool) (count : ℕ) (packed : List ℕ) → IsBits bits → packed ≡ packed_bits bits → count ≡ length bits → bits_in packed count ≡ bits
unfolding least_bits bits_of
bits_in_packed bits count packed h e n =
    let holds : HoldsBits bits (8 * octets_for (length bits) - length bits) (packed_bits bits) = bits_written bits h in
    let whole : 8 * length (packed_bits bits) - (8 * octets_for (length bits) - length bits) ≡ length bits = omega (arith, holds.sized) in
    rw (e, n) (subst (λ (n : ℕ). bits_in (packed_bits bits) n ≡ bits) whole (bits_of_least bits h))

-- contents spell the bits that `bits_of` tells
pub bits_of_contents : (bits : List Bool) (octets : List ℕ) → BitsContents bits octets → bits_of octets ≡ bits
bits_of_contents bits [] h = absurd h
bits_of_contents bits (unused ∷ packed) h = bits_once _ _ (unused ∷ packed) (bits_of_holds unused packed h.are_octets h.within h.few (omega (arith, h.sized))) h

-- and so do the octets behind their count
pub bits_behind_count : (bits : List Bool) (octets : List ℕ) (unused : ℕ) → unused ≡ get_or octets 0 0 → BitsContents bits octets
    → bits_in (take (length octets - 1) (drop 1 octets)) (8 * (length octets - 1) - unused) ≡ bits
unfolding bits_of
bits_behind_count bits [] unused n h = absurd h
bits_behind_count bits (u ∷ packed) unused n h =
    let rest : suc (length packed) - 1 ≡ length packed = omega arith in
    ap (λ (k : ℕ). bits_in (take k packed) (8 * k - unused)) rest ∙ ap (λ (p : List ℕ). bits_in p (8 * length packed - unused)) (take-length packed)
    ∙ ap (λ (k : ℕ). bits_in packed (8 * length packed - k)) n ∙ bits_of_contents bits (u ∷ packed) h

-- ---- what clearing the last octet gives

octets_of_bits : (bits : List Bool) (octets : List ℕ) → BitsContents bits octets → IsOctets octets
octets_of_bits bits [] h = absurd h
octets_of_bits bits (unused ∷ packed) h = (omega (arith, h.few), h.are_octets)

bits_of_one : (bits : List Bool) (octets : List ℕ) → BitsContents bits octets → IsLeastBits octets × BitsContents (bits_of octets) octets → octets ≡ least_bits bits
bits_of_one bits octets h k = k.0.is ∙ ap least_bits (bits_of_contents bits octets h)

counts_of_bits : (bits : List Bool) (octets : List ℕ) → BitsContents bits octets → CountsUnused (get_or octets 0 0) (length octets)
counts_of_bits bits [] h = absurd h
counts_of_bits bits (unused ∷ packed) h = (h.few, omega (arith, h.sized))

-- the count alone is written
pub least_lone : (bits : List Bool) (octets : List ℕ) → BitsContents bits octets → length octets ≡ 1 → octets ≡ least_bits bits
least_lone bits octets h one =
    let within = (bits_lengths bits octets h).1 in
    bits_of_one bits octets h (cleared_is octets octets (octets_of_bits bits octets h) (omega arith) within (counts_of_bits bits octets h) refl (λ i lt. absurd (omega arith)) (λ i some last. absurd (omega arith)) (λ e. refl))

-- with the unused bits of its last octet cleared
pub least_cleared : (bits : List Bool) (octets : List ℕ) (x : ℕ) → BitsContents bits octets → 1 < length octets → x ≡ get_or octets (length octets - 1) 0 / 2 ^ get_or octets 0 0 * 2 ^ get_or octets 0 0
    → set octets (length octets - 1) x ≡ least_bits bits
least_cleared bits octets x h more e =
    let other = set octets (length octets - 1) x in
    let within = (bits_lengths bits octets h).1 in
    let k = cleared_is octets other (octets_of_bits bits octets h) (omega arith) within (counts_of_bits bits octets h) (length-set octets (length octets - 1) x)
    (λ i lt. get_or-set_other octets (length octets - 1) i x 0 (λ same. absurd (omega arith)))
    (λ i some last. let here : i ≡ length octets - 1 = omega arith in
    ap (λ (n : ℕ). get_or other n 0) here ∙ get_or-set_same octets (length octets - 1) x 0 (omega arith) ∙ e ∙ ap (λ (n : ℕ). get_or octets n 0 / 2 ^ get_or octets 0 0 * 2 ^ get_or octets 0 0) (sym here))
    (λ one. absurd (omega arith)) in
    k.0.is ∙ ap least_bits (bits_once _ _ octets k.1 h)

-- the same behind other octets
pub least_cleared_behind : (bits : List Bool) (front octets all : List ℕ) (n x : ℕ) → BitsContents bits octets → 1 < length octets → all ≡ front ++ octets → n ≡ length all → x ≡ get_or all (n - 1) 0 / 2 ^ get_or octets 0 0 * 2 ^ get_or octets 0 0
    → set all (n - 1) x ≡ front ++ least_bits bits
least_cleared_behind bits front octets all n x h more e size value =
    let long : n ≡ length front + length octets = omega (arith, size, ap length e, length-append front octets) in
    let place : n - 1 - length front ≡ length octets - 1 = omega arith in
    let octet : get_or all (n - 1) 0 ≡ get_or octets (length octets - 1) 0 =
    ap (λ (l : List ℕ). get_or l (n - 1) 0) e ∙ get_or-append_right front octets (length front) (n - 1) 0 refl (omega arith) ∙ ap (λ (k : ℕ). get_or octets k 0) place in
    let cleared : x ≡ get_or octets (length octets - 1) 0 / 2 ^ get_or octets 0 0 * 2 ^ get_or octets 0 0 = value ∙ ap (λ (o : ℕ). o / 2 ^ get_or octets 0 0 * 2 ^ get_or octets 0 0) octet in
    ap (λ (l : List ℕ). set l (n - 1) x) e ∙ set-append_right front octets (length front) (n - 1) x refl (omega arith) ∙ ap (λ (k : ℕ). front ++ set octets k x) place
    ∙ ap (λ (l : List ℕ). front ++ l) (least_cleared bits octets x h more cleared)

-- where the last octet is cleared already
pub least_already : (bits : List Bool) (octets : List ℕ) (x : ℕ) → BitsContents bits octets → 1 < length octets → x ≡ get_or octets (length octets - 1) 0 / 2 ^ get_or octets 0 0 * 2 ^ get_or octets 0 0
    → get_or octets (length octets - 1) 0 ≡ x → octets ≡ least_bits bits
least_already bits octets x h more e same =
    sym (set-get_or octets (length octets - 1) 0) ∙ ap (λ (y : ℕ). set octets (length octets - 1) y) same ∙ least_cleared bits octets x h more e

-- and where it is not
pub differs_last : (bits : List Bool) (octets : List ℕ) (x : ℕ) → BitsContents bits octets → 1 < length octets → x ≡ get_or octets (length octets - 1) 0 / 2 ^ get_or octets 0 0 * 2 ^ get_or octets 0 0
    → (get_or octets (length octets - 1) 0 ≡ x → ⊥) → FirstDifference octets (least_bits bits) (length octets - 1)
differs_last bits octets x h more e other =
    let least = least_cleared bits octets x h more e in
    subst (λ (l : List ℕ). FirstDifference octets l (length octets - 1)) least
    (differs_at octets (set octets (length octets - 1) x) (length octets - 1) (omega arith) (omega (arith, length-set octets (length octets - 1) x))
    (sym (take-set octets (length octets - 1) x))
    (λ same. other (same ∙ get_or-set_same octets (length octets - 1) x 0 (omega arith))))

-- contents have as many octets as those that are written
pub bits_same_length : (bits : List Bool) (octets : List ℕ) → BitsContents bits octets → length octets ≡ length (least_bits bits)
unfolding least_bits packed_bits
bits_same_length bits [] h = absurd h
bits_same_length bits (unused ∷ packed) h =
    let same : length (packed_bits bits) ≡ octets_for (length bits) = length-map-range_with_len (λ i. octet_from bits (8 * i)) 0 (octets_for (length bits)) in
    omega (arith, h.sized, h.few, same)

-- ---- what is handed out

-- the octets of bits hold those bits and nothing else
pub packed_is_packed : (bits : List Bool) → IsPacked (length bits) (packed_bits bits)
unfolding packed_bits
packed_is_packed bits =
    let f : ℕ → ℕ = λ i. octet_from bits (8 * i) in
    let many : length (map f (range_with_len 0 (octets_for (length bits)))) ≡ octets_for (length bits) = length-map-range_with_len f 0 (octets_for (length bits)) in
    record {
      few = many;
      unused = λ k behind inside.
          let is : get_or (map f (range_with_len 0 (octets_for (length bits)))) (k / 8) 0 ≡ octet_from bits (8 * (k / 8)) = get_or-map-range_with_len f 0 (octets_for (length bits)) (k / 8) (k / 8) 0 (omega arith) (omega arith) in
          let back : 8 * (k / 8) + k % 8 ≡ k = omega arith in
          let bit : bit_at (octet_from bits (8 * (k / 8))) (7 - k % 8) ≡ worth (get_or bits k false) = bit_of_octet bits (8 * (k / 8)) (k % 8) (omega arith) ∙ ap (λ i. worth (get_or bits i false)) back in
          ap (λ x. bit_at x (7 - k % 8) == 1) is ∙ ap (λ b. b == 1) bit ∙ worth_is (get_or bits k false) ∙ get_or-eq_default bits false behind;
    }

-- and so do the octets behind the count of written contents
pub packed_behind_count : (bits : List Bool) (octets : List ℕ) (unused : ℕ) → unused ≡ get_or octets 0 0 → octets ≡ least_bits bits
    → IsPacked (8 * (length octets - 1) - unused) (take (length octets - 1) (drop 1 octets))
unfolding least_bits
packed_behind_count bits [] unused n e = absurd (cc)
packed_behind_count bits (u ∷ packed) unused n e =
    let tail : packed ≡ packed_bits bits = ap (drop 1) e in
    let head : u ≡ 8 * octets_for (length bits) - length bits = ap (λ (l : List ℕ). get_or l 0 0) e in
    let is = packed_is_packed bits in
    let rest : suc (length packed) - 1 ≡ length packed = omega arith in
    let same : take (suc (length packed) - 1) packed ≡ packed_bits bits = ap (λ (k : ℕ). take k packed) rest ∙ take-length packed ∙ tail in
    let count : 8 * (suc (length packed) - 1) - unused ≡ length bits = omega (arith, n, head, is.few, ap length tail) in
    rw (same, count) is
