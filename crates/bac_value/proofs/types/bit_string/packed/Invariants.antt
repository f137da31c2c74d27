use Rattle.std.proofs.Common.{◌≡◌, ◌*◌, ◌-◌, ◌∷◌, ℕ, length, map}
use Rattle.std.specs.List.{range_with_len}
use Rattle.bac_value.specs.BitsContents.{octet_from, octets_for}
use Rattle.bac_value.proofs.types.bit_string.packed.Given as goal

abbrev pub invariant-loop-place : goal.invariant-loop-place
invariant-loop-place l = l.contents.items ≡ (8 * octets_for (length l.bits) - length l.bits) ∷ map (λ (i : ℕ). octet_from l.bits (8 * i)) (range_with_len 0 l.place)
