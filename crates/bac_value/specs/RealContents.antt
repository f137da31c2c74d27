-- A Real as contents (clause 20.2.6). Its bits are kept as they are, whatever number they mean. No definition says which number
-- that is.
use Rattle.std.specs.Prelude.{ℕ, ◌<◌, ◌^◌, List}
use Rattle.std.specs.Int.{w32, to_be_bytes}
use Rattle.bac_value.specs.declared.types.real.RealBits.{RealBits}

-- The value is 32 bits, any.
abbrev pub IsReal : RealBits → Type 0
IsReal value = value.0 < 2 ^ 32

-- The four octets of the bits, the one with the sign first.
unfoldable pub real_octets : RealBits → List ℕ
real_octets value = to_be_bytes w32 value.0
