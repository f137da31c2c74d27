-- How much a run reads at most.
use Rattle.std.proofs.Common.{◌≡◌, ◌≢◌, ℕ, ◌+◌, ◌-◌, ◌*◌, ◌≤◌, ◌<◌, List, [], ◌∷◌, ◌++◌, length, take, drop, refl, ap, arith, length-append, length-drop}
use Rattle.std.specs.Prelude.{min}
use Rattle.std.specs.List.{AllByRecursion}
use Rattle.std.proofs.Math.Nat.{min-le_left}
use Rattle.std.proofs.lemmas.List.{length-take-le}
use Rattle.bac_record.specs.Devices.{LARGEST}
use Rattle.bac_record.specs.Records.{joined, record_of, IsRecord, HELD, MOST}

pub joined_within : (list : List (List ℕ)) → AllByRecursion IsRecord list → length (joined list) ≤ length list * HELD
joined_within [] each = omega arith
joined_within (octets ∷ list) each = omega (arith, each.0, joined_within list each.1, length-append (record_of octets) (joined list))

pub drop_within : (n : ℕ) (octets : List ℕ) (most : ℕ) → length octets ≤ most → length (drop n octets) ≤ most
drop_within n octets most within = omega (arith, within, length-drop n octets)

-- what a reader gave, once what was held is longer by fresh octets and the records at its front are dealt with
pub given_so_far : (given given' begun count records taken : ℕ) (held fresh now : List ℕ) (list : List (List ℕ)) → given' ≡ min (given + count) LARGEST → given ≤ begun + (records * HELD + length held) → length fresh ≡ count
    → now ≡ held ++ fresh → taken ≤ length now → take taken now ≡ joined list → AllByRecursion IsRecord list → given' ≤ begun + ((records + length list) * HELD + length (drop taken now))
given_so_far given given' begun count records taken held fresh now list gave before fresh_is now_is within whole each =
    omega (arith, gave, min-le_left (given + count) LARGEST, before, fresh_is, ap length now_is, length-append held fresh, within, length-take-le taken now within, ap length whole, joined_within list each, length-drop taken now)

-- What is left to do gets smaller where there are more records, or as many and more octets are held.
pub nearer : (records taken : ℕ) (held fresh now : List ℕ) (list : List (List ℕ)) → length fresh ≢ 0 → now ≡ held ++ fresh → length now ≤ HELD → taken ≤ length now
    → take taken now ≡ joined list → records + length list ≤ MOST
    → (MOST - (records + length list)) * (HELD + 1) + (HELD - length (drop taken now)) < (MOST - records) * (HELD + 1) + (HELD - length held)
nearer records taken held [] now list some now_is most within whole few = absurd (some refl)
nearer records taken held (octet ∷ fresh) now [] some now_is most within whole few =
    omega (arith, most, ap length now_is, length-append held (octet ∷ fresh), within, length-take-le taken now within, ap length whole, length-drop taken now)
nearer records taken held (octet ∷ fresh) now (first ∷ list) some now_is most within whole few = omega (arith, few)
