use Rattle.std.proofs.Common.{arith, ◌≡◌, ◌+◌, ◌*◌, ◌/◌, ◌^◌, ◌≤◌, ◌<◌, ℕ, List, length, get_or, sym, subst, ap}
use Rattle.bac_tag.specs.Octets.{IsOctets}
use Rattle.bac_value.specs.Primitives.{IsBegun}
use Rattle.bac_tag.specs.Laws.Octets.{octets_at}
use Rattle.bac_numbers.specs.Laws.Numbers.{some_octets}
use Rattle.bac_value.specs.Laws.Primitives.{hopeless_none}
use Rattle.bac_value.specs.BitsContents.{BitsContents, IsLeastBits, CountsUnused, bits_of}
use Rattle.bac_value.specs.Laws.Bits.{bits_counts, cleared_is}
use Rattle.bac_value.proofs.types.bit_string.BitsPrimitive.read.Goals as goal

pub returns-in-Some-clause-none : goal.returns-in-Some-clause-none
returns-in-Some-clause-none c = λ why. hopeless_none _ c.args.octets.now c.in-Some.place c.in-Some.ensures.some

-- what the call that clears gives of a copy of the octets
done : (octets old new : List ℕ) → old ≡ octets → ((k : ℕ) → get_or octets k 0 < 256) → 1 ≤ length octets → length octets ≤ 1048576 → IsBegun BitsContents octets (length octets)
    → length new ≡ length old → ((i : ℕ) → i + 1 < length old → get_or new i 0 ≡ get_or old i 0)
    → ((i : ℕ) → 0 < i → i + 1 ≡ length old → get_or new i 0 ≡ get_or old i 0 / 2 ^ get_or old 0 0 * 2 ^ get_or old 0 0)
    → (length old ≡ 1 → get_or new 0 0 ≡ get_or old 0 0)
    → IsLeastBits new × BitsContents (bits_of new) octets
done octets old new e small some within begun long front last lone =
    let long' : length old ≡ length octets = ap length e in
    let counts : CountsUnused (get_or old 0 0) (length old) = subst (λ (l : List ℕ). CountsUnused (get_or l 0 0) (length l)) (sym e) (bits_counts octets some begun) in
    let both = cleared_is old new (subst IsOctets (sym e) (octets_at octets small)) (omega arith) (omega arith) counts long front last lone in
    (both.0, subst (BitsContents (bits_of new)) e both.1)

pub invariant_of-result : goal.invariant_of-result
invariant_of-result c = (done c.args.octets.now c.in-Ok.contents.items c.clear_unused.new.contents.items c.in-Ok.ensures.items (λ k. omega (arith, c.type_inv.octets k)) (some_octets c.args.octets.now c.if-is_empty.ensures) (omega arith) c.in_default.ensures.none
    c.clear_unused.ensures.long c.clear_unused.ensures.front c.clear_unused.ensures.last c.clear_unused.ensures.lone).0

pub returns-in-Ok-clause-value : goal.returns-in-Ok-clause-value
returns-in-Ok-clause-value c = (done c.args.octets.now c.in-Ok.contents.items c.clear_unused.new.contents.items c.in-Ok.ensures.items (λ k. omega (arith, c.type_inv.octets k)) (some_octets c.args.octets.now c.if-is_empty.ensures) (omega arith) c.in_default.ensures.none
    c.clear_unused.ensures.long c.clear_unused.ensures.front c.clear_unused.ensures.last c.clear_unused.ensures.lone).0.are_bits

pub returns-in-Ok-clause-found : goal.returns-in-Ok-clause-found
returns-in-Ok-clause-found c = (done c.args.octets.now c.in-Ok.contents.items c.clear_unused.new.contents.items c.in-Ok.ensures.items (λ k. omega (arith, c.type_inv.octets k)) (some_octets c.args.octets.now c.if-is_empty.ensures) (omega arith) c.in_default.ensures.none
    c.clear_unused.ensures.long c.clear_unused.ensures.front c.clear_unused.ensures.last c.clear_unused.ensures.lone).1
