-- A Double as contents (clause 20.2.7). Its bits are kept as they are, whatever number they mean.
use Rattle.std.specs.Prelude.{ℕ, ◌<◌, ◌^◌, List}
use Rattle.std.specs.Int.{w64, to_be_bytes}
use Rattle.bac_value.specs.declared.types.double.DoubleBits.{DoubleBits}

-- The value is 64 bits, any.
abbrev pub IsDouble : DoubleBits → Type 0
IsDouble value = value.0 < 2 ^ 64

-- The eight octets of the bits, the one with the sign first.
unfoldable pub double_octets : DoubleBits → List ℕ
double_octets value = to_be_bytes w64 value.0
