use Rattle.std.proofs.Common.{◌≡◌, ◌+◌, ◌++◌, map, take}
use Rattle.bac_value.specs.BitsContents.{bits_in}
use Rattle.bac_text.specs.PrimitiveText.{bit_digit}
use Rattle.bac_text.proofs.primitives.put_bits.Given as goal

abbrev pub invariant-loop-place : goal.invariant-loop-place
invariant-loop-place l = take (l.at + l.place) l.room ≡ take l.at l.fn.room ++ map bit_digit (bits_in l.packed l.place)
