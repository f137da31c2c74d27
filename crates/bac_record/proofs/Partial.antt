-- Less than a whole record begins none.
use Rattle.std.proofs.Common.{◌≡◌, ℕ, ◌/◌, ◌%◌, ◌<◌, List, [], ◌∷◌, ◌++◌, length, arith, ap, length-append}
use Rattle.bac_record.specs.Records.{BeginsRecord}

pub part_begins_none : (count : ℕ) (front : List ℕ) → length front < count → BeginsRecord (count / 256 ∷ count % 256 ∷ front) → ⊥
part_begins_none count front short found =
    let e = found.3 in
    let high : count / 256 ≡ length found.0 / 256 = cc in
    let low : count % 256 ≡ length found.0 % 256 = cc in
    let rest : front ≡ found.0 ++ found.1 = cc in
    omega (arith, length-append found.0 found.1, ap length rest)

pub nothing_begins_none : BeginsRecord [] → ⊥
nothing_begins_none found = let e = found.3 in cc
