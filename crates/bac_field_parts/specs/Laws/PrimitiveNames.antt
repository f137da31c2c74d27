-- The names of elements that are primitive values.
use Rattle.std.specs.Prelude.{◌≤◌}
use Rattle.std.proofs.Common.{lit≤}
use Rattle.bac_value.specs.declared.prim.PrimitiveValue.{PrimitiveValue}
use Rattle.bac_value.specs.declared.prim.PrimitiveValue.TheVariants.{Null, Boolean, Unsigned, Signed, RealBits, DoubleBits, Octets, Text, Bits, Enumerated, Date, Time, ObjectId}
use Rattle.bac_field_parts.specs.Names.{number_of}
use Rattle.bac_field_parts.specs.PrimitiveFields.{primitive_field}

-- Their numbers are 130 to 142.
pub prim_named : (p : PrimitiveValue) → (130 ≤ number_of (primitive_field p).name) × (number_of (primitive_field p).name ≤ 142)
prim_named (Null value) = (lit≤ tt, lit≤ tt)
prim_named (Boolean value) = (lit≤ tt, lit≤ tt)
prim_named (Unsigned value) = (lit≤ tt, lit≤ tt)
prim_named (Signed value) = (lit≤ tt, lit≤ tt)
prim_named (RealBits value) = (lit≤ tt, lit≤ tt)
prim_named (DoubleBits value) = (lit≤ tt, lit≤ tt)
prim_named (Octets octets) = (lit≤ tt, lit≤ tt)
prim_named (Text text) = (lit≤ tt, lit≤ tt)
prim_named (Bits bits) = (lit≤ tt, lit≤ tt)
prim_named (Enumerated value) = (lit≤ tt, lit≤ tt)
prim_named (Date value) = (lit≤ tt, lit≤ tt)
prim_named (Time value) = (lit≤ tt, lit≤ tt)
prim_named (ObjectId object) = (lit≤ tt, lit≤ tt)
