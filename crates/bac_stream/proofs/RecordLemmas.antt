-- Records and canonical octets that are appended.
use Rattle.std.proofs.Common.{◌≡◌, ℕ, ◌+◌, ◌-◌, slice_index_or, slice_set, ◌/◌, ◌%◌, ◌<◌, ◌≤◌, List, [], ◌∷◌, ◌++◌, length, take, refl, ap, ◌∙◌, append_assoc, arith}
use Rattle.std.specs.Int.{w16, to_be_bytes}
use Rattle.std.proofs.Math.Seq.{set-append_seam}
use Rattle.std.proofs.lemmas.List.{take_at, set-append_right}
use Rattle.bac_tag.specs.Octets.{Extends}
use Rattle.bac_record.specs.Records.{record_of, LONGEST}

two_cells : (n : ℕ) → n < 65536 → to_be_bytes w16 n ≡ n / 256 ∷ n % 256 ∷ []
two_cells n lt = let high : n / 256 % 256 ≡ n / 256 = omega arith in ap (λ (x : ℕ). x ∷ n % 256 ∷ []) high

-- what was appended is taken off again
pub truncated : (old new : List ℕ) → Extends old new → take (length old) new ≡ old
truncated old new e = ap (take (length old)) e.1 ∙ take_at old e.0 (length old) refl

-- two octets that were left free are filled with the length of what stands behind them
pub record_filled : (old mid full more cells : List ℕ) (start : ℕ) → start ≡ length old → mid ≡ old ++ 0 ∷ 0 ∷ [] → full ≡ mid ++ more → length more ≤ LONGEST → cells ≡ to_be_bytes w16 (length more)
    → slice_set (slice_set full start (slice_index_or cells 0 0)) (start + 1) (slice_index_or cells 1 0) ≡ old ++ record_of more
record_filled old mid full more cells start at mid_is full_is small cells_is =
    let high = length more / 256 in
    let low = length more % 256 in
    let pair : cells ≡ high ∷ low ∷ [] = cells_is ∙ two_cells (length more) (omega arith) in
    let whole : full ≡ old ++ 0 ∷ 0 ∷ more = full_is ∙ ap (λ (l : List ℕ). l ++ more) mid_is ∙ append_assoc old (0 ∷ 0 ∷ []) more in
    let first : slice_set (old ++ 0 ∷ 0 ∷ more) (length old) high ≡ old ++ high ∷ 0 ∷ more = set-append_seam old 0 (0 ∷ more) high in
    let one : (length old + 1) - length old ≡ 1 = omega arith in
    let second : slice_set (old ++ high ∷ 0 ∷ more) (length old + 1) low ≡ old ++ high ∷ low ∷ more =
    set-append_right old (high ∷ 0 ∷ more) (length old) (length old + 1) low refl (omega arith) ∙ ap (λ (k : ℕ). old ++ slice_set (high ∷ 0 ∷ more) k low) one in
    rw (pair, at, whole) (ap (λ (l : List ℕ). slice_set l (length old + 1) low) first ∙ second)
