-- The heads of what may stand next.
use Rattle.std.proofs.Common.{◌≡◌, ◌≢◌, ℕ, ◌≤◌, ◌^◌, ◌-◌, Bool, true, false, List, [], length, refl, sym, subst, inl, inr, arith}
use Rattle.std.specs.Prelude.{IsTrue}
use Rattle.bac_tag.specs.declared.heads.TagHead.TheVariants.{App, AppBool, Ctx, Open, Close}
use Rattle.bac_tag.specs.Expected.{FitsOne}
use Rattle.bac_value.specs.declared.prim.PrimitiveValue.{PrimitiveValue}
use Rattle.bac_value.specs.declared.prim.PrimitiveValue.TheVariants as prim
use Rattle.bac_value.specs.Primitives.{IsBegun, AreLengths}
use Rattle.bac_value.specs.PrimContents.{application_number, PrimContents, ContentsOf}
use Rattle.bac_value.specs.Laws.Variants.{begun_into}
use Rattle.bac_value.specs.Laws.VariantsOfPrim.{null_variant, unsigned_variant, signed_variant, real_variant, double_variant, octets_variant, text_variant, bits_variant, enumerated_variant, date_variant, time_variant, object_id_variant}
use Rattle.bac_value.specs.Laws.AnyOctets.{any_octets_lengths, any_octets_each_length}
use Rattle.bac_value.specs.Laws.Null.{null_any_octets}
use Rattle.bac_numbers.specs.Laws.Numbers.{number_lengths}
use Rattle.bac_value.specs.Laws.Unsigned.{unsigned_each_length}
use Rattle.bac_value.specs.Laws.Enumerated.{enumerated_each_length}
use Rattle.bac_numbers.specs.Laws.Signed.{signed_lengths}
use Rattle.bac_value.specs.Laws.SignedValues.{signed_each_length}
use Rattle.bac_value.specs.Laws.Real.{real_any_octets}
use Rattle.bac_value.specs.Laws.Double.{double_any_octets}
use Rattle.bac_value.specs.Laws.OctetString.{octet_string_any_octets}
use Rattle.bac_value.specs.Laws.Text.{text_any_octets}
use Rattle.bac_value.specs.Laws.Bits.{bits_lengths, bits_each_length}
use Rattle.bac_value.specs.Laws.Date.{date_any_octets}
use Rattle.bac_value.specs.Laws.Time.{time_any_octets}
use Rattle.bac_value.specs.Laws.Identifier.{identifier_any_octets}
use Rattle.bac_data.specs.Reading.{next_heads}

-- contents have the lengths of a number's type
begun : (m n len : ℕ) → m ≡ n → IsBegun (ContentsOf n) [] len → IsBegun (ContentsOf m) [] len
begun m n len e h = subst (λ (k : ℕ). IsBegun (ContentsOf k) [] len) (sym e) h

-- a head with the number of a type has a length of its contents
pub application_head : (room : Bool) (number m len : ℕ) → FitsOne (next_heads room number) (App m len) → IsBegun (ContentsOf m) [] len × (m ≤ 12)
application_head room number m len (inl h) = (begun m 0 len h.0 (begun_into 0 _ _ null_variant [] len (any_octets_each_length null_any_octets len h.1 h.2)), omega (arith, h.0))
application_head room number m len (inr (inl h)) = (begun m 2 len h.0 (begun_into 2 _ _ unsigned_variant [] len (unsigned_each_length len h.1 h.2)), omega (arith, h.0))
application_head room number m len (inr (inr (inl h))) = (begun m 3 len h.0 (begun_into 3 _ _ signed_variant [] len (signed_each_length len h.1 h.2)), omega (arith, h.0))
application_head room number m len (inr (inr (inr (inl h)))) = (begun m 4 len h.0 (begun_into 4 _ _ real_variant [] len (any_octets_each_length real_any_octets len h.1 h.2)), omega (arith, h.0))
application_head room number m len (inr (inr (inr (inr (inl h))))) = (begun m 5 len h.0 (begun_into 5 _ _ double_variant [] len (any_octets_each_length double_any_octets len h.1 h.2)), omega (arith, h.0))
application_head room number m len (inr (inr (inr (inr (inr (inl h)))))) = (begun m 6 len h.0 (begun_into 6 _ _ octets_variant [] len (any_octets_each_length octet_string_any_octets len h.1 h.2)), omega (arith, h.0))
application_head room number m len (inr (inr (inr (inr (inr (inr (inl h))))))) = (begun m 7 len h.0 (begun_into 7 _ _ text_variant [] len (any_octets_each_length text_any_octets len h.1 h.2)), omega (arith, h.0))
application_head room number m len (inr (inr (inr (inr (inr (inr (inr (inl h)))))))) = (begun m 8 len h.0 (begun_into 8 _ _ bits_variant [] len (bits_each_length len h.1 h.2)), omega (arith, h.0))
application_head room number m len (inr (inr (inr (inr (inr (inr (inr (inr (inl h))))))))) = (begun m 9 len h.0 (begun_into 9 _ _ enumerated_variant [] len (enumerated_each_length len h.1 h.2)), omega (arith, h.0))
application_head room number m len (inr (inr (inr (inr (inr (inr (inr (inr (inr (inl h)))))))))) = (begun m 10 len h.0 (begun_into 10 _ _ date_variant [] len (any_octets_each_length date_any_octets len h.1 h.2)), omega (arith, h.0))
application_head room number m len (inr (inr (inr (inr (inr (inr (inr (inr (inr (inr (inl h))))))))))) = (begun m 11 len h.0 (begun_into 11 _ _ time_variant [] len (any_octets_each_length time_any_octets len h.1 h.2)), omega (arith, h.0))
application_head room number m len (inr (inr (inr (inr (inr (inr (inr (inr (inr (inr (inr (inl h)))))))))))) = (begun m 12 len h.0 (begun_into 12 _ _ object_id_variant [] len (any_octets_each_length identifier_any_octets len h.1 h.2)), omega (arith, h.0))
application_head room number m len (inr (inr (inr (inr (inr (inr (inr (inr (inr (inr (inr (inr (inl h))))))))))))) = absurd h
application_head room number m len (inr (inr (inr (inr (inr (inr (inr (inr (inr (inr (inr (inr (inr (inl h)))))))))))))) = absurd h
application_head room number m len (inr (inr (inr (inr (inr (inr (inr (inr (inr (inr (inr (inr (inr (inr (inl h))))))))))))))) = absurd h
application_head true number m len (inr (inr (inr (inr (inr (inr (inr (inr (inr (inr (inr (inr (inr (inr (inr (inl h)))))))))))))))) = absurd h
application_head true number m len (inr (inr (inr (inr (inr (inr (inr (inr (inr (inr (inr (inr (inr (inr (inr (inr (h))))))))))))))))) = absurd h
application_head false number m len (inr (inr (inr (inr (inr (inr (inr (inr (inr (inr (inr (inr (inr (inr (inr (h)))))))))))))))) = absurd h

-- a context head has a length of its contents
pub context_head : (room : Bool) (number m len : ℕ) → FitsOne (next_heads room number) (Ctx m len) → len ≤ 1048576
context_head room number m len (inl h) = absurd h
context_head room number m len (inr (inl h)) = absurd h
context_head room number m len (inr (inr (inl h))) = absurd h
context_head room number m len (inr (inr (inr (inl h)))) = absurd h
context_head room number m len (inr (inr (inr (inr (inl h))))) = absurd h
context_head room number m len (inr (inr (inr (inr (inr (inl h)))))) = absurd h
context_head room number m len (inr (inr (inr (inr (inr (inr (inl h))))))) = absurd h
context_head room number m len (inr (inr (inr (inr (inr (inr (inr (inl h)))))))) = absurd h
context_head room number m len (inr (inr (inr (inr (inr (inr (inr (inr (inl h))))))))) = absurd h
context_head room number m len (inr (inr (inr (inr (inr (inr (inr (inr (inr (inl h)))))))))) = absurd h
context_head room number m len (inr (inr (inr (inr (inr (inr (inr (inr (inr (inr (inl h))))))))))) = absurd h
context_head room number m len (inr (inr (inr (inr (inr (inr (inr (inr (inr (inr (inr (inl h)))))))))))) = absurd h
context_head room number m len (inr (inr (inr (inr (inr (inr (inr (inr (inr (inr (inr (inr (inl h))))))))))))) = absurd h
context_head room number m len (inr (inr (inr (inr (inr (inr (inr (inr (inr (inr (inr (inr (inr (inl h)))))))))))))) = h.2
context_head room number m len (inr (inr (inr (inr (inr (inr (inr (inr (inr (inr (inr (inr (inr (inr (inl h))))))))))))))) = absurd h
context_head true number m len (inr (inr (inr (inr (inr (inr (inr (inr (inr (inr (inr (inr (inr (inr (inr (inl h)))))))))))))))) = absurd h
context_head true number m len (inr (inr (inr (inr (inr (inr (inr (inr (inr (inr (inr (inr (inr (inr (inr (inr (h))))))))))))))))) = absurd h
context_head false number m len (inr (inr (inr (inr (inr (inr (inr (inr (inr (inr (inr (inr (inr (inr (inr (h)))))))))))))))) = absurd h

-- an opening tag wants room for a group
pub opening_head : (room : Bool) (number m : ℕ) → FitsOne (next_heads room number) (Open m) → IsTrue room
opening_head room number m (inl h) = absurd h
opening_head room number m (inr (inl h)) = absurd h
opening_head room number m (inr (inr (inl h))) = absurd h
opening_head room number m (inr (inr (inr (inl h)))) = absurd h
opening_head room number m (inr (inr (inr (inr (inl h))))) = absurd h
opening_head room number m (inr (inr (inr (inr (inr (inl h)))))) = absurd h
opening_head room number m (inr (inr (inr (inr (inr (inr (inl h))))))) = absurd h
opening_head room number m (inr (inr (inr (inr (inr (inr (inr (inl h)))))))) = absurd h
opening_head room number m (inr (inr (inr (inr (inr (inr (inr (inr (inl h))))))))) = absurd h
opening_head room number m (inr (inr (inr (inr (inr (inr (inr (inr (inr (inl h)))))))))) = absurd h
opening_head room number m (inr (inr (inr (inr (inr (inr (inr (inr (inr (inr (inl h))))))))))) = absurd h
opening_head room number m (inr (inr (inr (inr (inr (inr (inr (inr (inr (inr (inr (inl h)))))))))))) = absurd h
opening_head room number m (inr (inr (inr (inr (inr (inr (inr (inr (inr (inr (inr (inr (inl h))))))))))))) = absurd h
opening_head room number m (inr (inr (inr (inr (inr (inr (inr (inr (inr (inr (inr (inr (inr (inl h)))))))))))))) = absurd h
opening_head room number m (inr (inr (inr (inr (inr (inr (inr (inr (inr (inr (inr (inr (inr (inr (inl h))))))))))))))) = absurd h
opening_head true number m (inr (inr (inr (inr (inr (inr (inr (inr (inr (inr (inr (inr (inr (inr (inr (inl h)))))))))))))))) = refl
opening_head true number m (inr (inr (inr (inr (inr (inr (inr (inr (inr (inr (inr (inr (inr (inr (inr (inr (h))))))))))))))))) = absurd h
opening_head false number m (inr (inr (inr (inr (inr (inr (inr (inr (inr (inr (inr (inr (inr (inr (inr (h)))))))))))))))) = absurd h

-- a closing tag has the number of the innermost group
pub closing_head : (room : Bool) (number m : ℕ) → FitsOne (next_heads room number) (Close m) → m ≡ number
closing_head room number m (inl h) = absurd h
closing_head room number m (inr (inl h)) = absurd h
closing_head room number m (inr (inr (inl h))) = absurd h
closing_head room number m (inr (inr (inr (inl h)))) = absurd h
closing_head room number m (inr (inr (inr (inr (inl h))))) = absurd h
closing_head room number m (inr (inr (inr (inr (inr (inl h)))))) = absurd h
closing_head room number m (inr (inr (inr (inr (inr (inr (inl h))))))) = absurd h
closing_head room number m (inr (inr (inr (inr (inr (inr (inr (inl h)))))))) = absurd h
closing_head room number m (inr (inr (inr (inr (inr (inr (inr (inr (inl h))))))))) = absurd h
closing_head room number m (inr (inr (inr (inr (inr (inr (inr (inr (inr (inl h)))))))))) = absurd h
closing_head room number m (inr (inr (inr (inr (inr (inr (inr (inr (inr (inr (inl h))))))))))) = absurd h
closing_head room number m (inr (inr (inr (inr (inr (inr (inr (inr (inr (inr (inr (inl h)))))))))))) = absurd h
closing_head room number m (inr (inr (inr (inr (inr (inr (inr (inr (inr (inr (inr (inr (inl h))))))))))))) = absurd h
closing_head room number m (inr (inr (inr (inr (inr (inr (inr (inr (inr (inr (inr (inr (inr (inl h)))))))))))))) = absurd h
closing_head room number m (inr (inr (inr (inr (inr (inr (inr (inr (inr (inr (inr (inr (inr (inr (inl h))))))))))))))) = h
closing_head true number m (inr (inr (inr (inr (inr (inr (inr (inr (inr (inr (inr (inr (inr (inr (inr (inl h)))))))))))))))) = absurd h
closing_head true number m (inr (inr (inr (inr (inr (inr (inr (inr (inr (inr (inr (inr (inr (inr (inr (inr (h))))))))))))))))) = absurd h
closing_head false number m (inr (inr (inr (inr (inr (inr (inr (inr (inr (inr (inr (inr (inr (inr (inr (h)))))))))))))))) = absurd h

-- ---- and back

pub application_fits : (room : Bool) (number m len : ℕ) (p : PrimitiveValue) (c : List ℕ) → application_number p ≡ m → (m ≡ 1 → ⊥) → PrimContents p c → length c ≡ len → FitsOne (next_heads room number) (App m len)
application_fits room number m len (prim.Null value) c n other h l = inl (sym n, omega (arith, l, (any_octets_lengths null_any_octets value c h).0), omega (arith, l, (any_octets_lengths null_any_octets value c h).1))
application_fits room number m len (prim.Unsigned value) c n other h l = inr (inl (sym n, omega (arith, l, (number_lengths 0 (2 ^ 64 - 1) value.0 c h).0), omega (arith, l, (number_lengths 0 (2 ^ 64 - 1) value.0 c h).1)))
application_fits room number m len (prim.Signed value) c n other h l = inr (inr (inl (sym n, omega (arith, l, (signed_lengths value.0 c h).0), omega (arith, l, (signed_lengths value.0 c h).1))))
application_fits room number m len (prim.RealBits value) c n other h l = inr (inr (inr (inl (sym n, omega (arith, l, (any_octets_lengths real_any_octets value c h).0), omega (arith, l, (any_octets_lengths real_any_octets value c h).1)))))
application_fits room number m len (prim.DoubleBits value) c n other h l = inr (inr (inr (inr (inl (sym n, omega (arith, l, (any_octets_lengths double_any_octets value c h).0), omega (arith, l, (any_octets_lengths double_any_octets value c h).1))))))
application_fits room number m len (prim.Octets value) c n other h l = inr (inr (inr (inr (inr (inl (sym n, omega (arith, l, (any_octets_lengths octet_string_any_octets value c h).0), omega (arith, l, (any_octets_lengths octet_string_any_octets value c h).1)))))))
application_fits room number m len (prim.Text value) c n other h l = inr (inr (inr (inr (inr (inr (inl (sym n, omega (arith, l, (any_octets_lengths text_any_octets value c h).0), omega (arith, l, (any_octets_lengths text_any_octets value c h).1))))))))
application_fits room number m len (prim.Bits value) c n other h l = inr (inr (inr (inr (inr (inr (inr (inl (sym n, omega (arith, l, (bits_lengths value c h).0), omega (arith, l, (bits_lengths value c h).1)))))))))
application_fits room number m len (prim.Enumerated value) c n other h l = inr (inr (inr (inr (inr (inr (inr (inr (inl (sym n, omega (arith, l, (number_lengths 0 (2 ^ 32 - 1) value.0 c h).0), omega (arith, l, (number_lengths 0 (2 ^ 32 - 1) value.0 c h).1))))))))))
application_fits room number m len (prim.Date value) c n other h l = inr (inr (inr (inr (inr (inr (inr (inr (inr (inl (sym n, omega (arith, l, (any_octets_lengths date_any_octets value c h).0), omega (arith, l, (any_octets_lengths date_any_octets value c h).1)))))))))))
application_fits room number m len (prim.Time value) c n other h l = inr (inr (inr (inr (inr (inr (inr (inr (inr (inr (inl (sym n, omega (arith, l, (any_octets_lengths time_any_octets value c h).0), omega (arith, l, (any_octets_lengths time_any_octets value c h).1))))))))))))
application_fits room number m len (prim.ObjectId value) c n other h l = inr (inr (inr (inr (inr (inr (inr (inr (inr (inr (inr (inl (sym n, omega (arith, l, (any_octets_lengths identifier_any_octets value c h).0), omega (arith, l, (any_octets_lengths identifier_any_octets value c h).1)))))))))))))
application_fits room number m len (prim.Boolean value) c n other h l = absurd (other (sym n))

pub boolean_fits : (room : Bool) (number : ℕ) (bit : Bool) → FitsOne (next_heads room number) (AppBool bit)
boolean_fits room number bit = inr (inr (inr (inr (inr (inr (inr (inr (inr (inr (inr (inr (inl tt))))))))))))

pub context_fits : (room : Bool) (number m len : ℕ) → len ≤ 1048576 → FitsOne (next_heads room number) (Ctx m len)
context_fits room number m len most = inr (inr (inr (inr (inr (inr (inr (inr (inr (inr (inr (inr (inr (inl (tt, omega arith, most))))))))))))))

pub closing_fits : (room : Bool) (number m : ℕ) → m ≡ number → FitsOne (next_heads room number) (Close m)
closing_fits room number m e = inr (inr (inr (inr (inr (inr (inr (inr (inr (inr (inr (inr (inr (inr (inl e))))))))))))))

pub opening_fits : (room : Bool) (number m : ℕ) → IsTrue room → FitsOne (next_heads room number) (Open m)
opening_fits true number m h = inr (inr (inr (inr (inr (inr (inr (inr (inr (inr (inr (inr (inr (inr (inr (inl tt)))))))))))))))
opening_fits false number m h = absurd (let i : false ≡ true = h in cc)

-- a head with the number of a type and a length of its contents may stand next
pub application_stands : (room : Bool) (number m len shortest longest : ℕ) → m ≢ 1 → AreLengths (ContentsOf m) shortest longest → shortest ≤ len → len ≤ longest → FitsOne (next_heads room number) (App m len)
application_stands room number m len shortest longest other sizes low high = let s = sizes.each len low high in application_fits room number m len s.value s.rest s.spelled.0 other s.spelled.1 s.sized
