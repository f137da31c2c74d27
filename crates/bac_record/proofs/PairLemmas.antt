-- The two digits of numbers below 100, by a table.
use Rattle.std.proofs.Common.{◌≡◌, ℕ, zero, suc, ◌+◌, ◌*◌, ◌/◌, ◌%◌, ◌<◌, List, refl, Bool, true, ◌&&◌, ◌==◌}
use Rattle.std.specs.Prelude.{codes, slice_index_or}
use Rattle.std.proofs.lemmas.Bool.Decides.{Decides-below_and, Decides-eqb}

abbrev pub pairs : List ℕ
pairs = codes "00010203040506070809101112131415161718192021222324252627282930313233343536373839404142434445464748495051525354555657585960616263646566676869707172737475767778798081828384858687888990919293949596979899"

-- the numbers below n have their first digits there, and their second ones
tens_below : ℕ → Bool
tens_below zero = true
tens_below (suc n) = (slice_index_or pairs (2 * n) 0 == 48 + n / 10) && tens_below n

ones_below : ℕ → Bool
ones_below zero = true
ones_below (suc n) = (slice_index_or pairs (2 * n + 1) 0 == 48 + n % 10) && ones_below n

pub pair_tens : (n : ℕ) → n < 100 → slice_index_or pairs (2 * n) 0 ≡ 48 + n / 10
unfolding tens_below
pair_tens n few =
    (Decides-below_and (λ (k : ℕ). slice_index_or pairs (2 * k) 0 == 48 + k / 10) (λ (k : ℕ). slice_index_or pairs (2 * k) 0 ≡ 48 + k / 10) tens_below
    (λ (k : ℕ). Decides-eqb (slice_index_or pairs (2 * k) 0) (48 + k / 10)) refl (λ _. refl) 100).0 refl n few

pub pair_ones : (n : ℕ) → n < 100 → slice_index_or pairs (2 * n + 1) 0 ≡ 48 + n % 10
unfolding ones_below
pair_ones n few =
    (Decides-below_and (λ (k : ℕ). slice_index_or pairs (2 * k + 1) 0 == 48 + k % 10) (λ (k : ℕ). slice_index_or pairs (2 * k + 1) 0 ≡ 48 + k % 10) ones_below
    (λ (k : ℕ). Decides-eqb (slice_index_or pairs (2 * k + 1) 0) (48 + k % 10)) refl (λ _. refl) 100).0 refl n few
