-- A borrowed value of any of the thirteen primitive types.
use Rattle.bac_value.specs.declared.prim.PrimitiveValue.{PrimitiveValue}
use Rattle.bac_value.specs.declared.prim.PrimitiveValue.TheVariants as prim
use Rattle.bac_value.specs.declared.prim_ref.PrimRef.{PrimRef}
use Rattle.bac_value.specs.declared.prim_ref.PrimRef.TheVariants.{Null, Boolean, Unsigned, Signed, RealBits, DoubleBits, Octets, Text, Bits, Enumerated, Date, Time, ObjectId}
use Rattle.bac_value.specs.BitsContents.{bits_in, IsPacked}

-- The value that a PrimRef borrows.
abbrev pub prim_of : PrimRef → PrimitiveValue
prim_of (Null value) = prim.Null value
prim_of (Boolean value) = prim.Boolean value
prim_of (Unsigned value) = prim.Unsigned value
prim_of (Signed value) = prim.Signed value
prim_of (RealBits value) = prim.RealBits value
prim_of (DoubleBits value) = prim.DoubleBits value
prim_of (Octets octets) = prim.Octets octets.now
prim_of (Text set octets) = prim.Text (record { set = set; octets = octets.now })
prim_of (Bits count packed) = prim.Bits (bits_in packed.now count)
prim_of (Enumerated value) = prim.Enumerated value
prim_of (Date value) = prim.Date value
prim_of (Time value) = prim.Time value
prim_of (ObjectId value) = prim.ObjectId value

-- If the PrimRef is a bit string, its octets hold its bits and nothing else, by IsPacked.
abbrev pub IsPackedRef : PrimRef → Type 0
IsPackedRef (Bits count packed) = IsPacked count packed.now
IsPackedRef _ = Unit {0}
