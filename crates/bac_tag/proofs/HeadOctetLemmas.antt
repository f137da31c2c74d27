-- Heads: their least octets, and their marks.
use Rattle.std.specs.Prelude.{◌^◌, nat_eq}
use Rattle.std.proofs.Common.{◌≡◌, ℕ, zero, suc, ◌/◌, ◌%◌, ◌<◌, ◌≤◌, List, [], ◌∷◌, ◌++◌, length, Option, None, Some, Bool, true, false, refl, ap, arith}
use Rattle.bac_tag.specs.Octets.{NoGreater, IsMark, joined_mark}
use Rattle.bac_tag.specs.Laws.Octets.{NoGreater-append, one_no_greater, mark-append}
use Rattle.bac_tag.specs.Spelling.{IsLeast, HasMark}
use Rattle.bac_tag.specs.HeadOctets.{Part, typed, limits, octet, window, bit_of, HasBit, SpellsPart, Headed, bit_or_zero, least_part, least_head, IsPart, AreParts}

-- a number is the bit of one flag
pub bit_once : (f g : Bool) (n : ℕ) → n ≡ bit_of f → n ≡ bit_of g → f ≡ g
bit_once true true n p q = refl
bit_once false false n p q = refl
bit_once true false n p q = absurd (omega (arith, p, q))
bit_once false true n p q = absurd (omega (arith, p, q))

-- a bit as a flag
pub bit_is : (n : ℕ) → n < 2 → n ≡ bit_of (nat_eq n 1)
bit_is zero lt = refl
bit_is (suc zero) lt = refl
bit_is (suc (suc n)) lt = absurd (omega arith)

bit_small : (f : Option Bool) → bit_or_zero f ≤ 1
bit_small None = omega arith
bit_small (Some true) = omega arith
bit_small (Some false) = omega arith

has_bit : (place : ℕ) (f : Option Bool) (o : ℕ) → o / 2 ^ place % 2 ≡ bit_or_zero f → HasBit place f o
has_bit place None o e = tt
has_bit place (Some flag) o e = e

bit_most : (place : ℕ) (f : Option Bool) (o : ℕ) → HasBit place f o → bit_or_zero f ≤ o / 2 ^ place % 2
bit_most place None o h = omega arith
bit_most place (Some flag) o h = omega (arith, h)

pub part_spelled : (p : Part) → IsPart p → SpellsPart p (least_part p)
part_spelled (typed t a b c d) h =
    let x = bit_small a in
    let y = bit_small b in
    let z = bit_small c in
    let w = bit_small d in
    (omega arith, has_bit 3 a _ (omega arith), has_bit 2 b _ (omega arith), has_bit 1 c _ (omega arith), has_bit 0 d _ (omega arith))
part_spelled (limits segs resp) h = (omega (arith, h.0, h.1), omega (arith, h.0, h.1), omega (arith, h.0, h.1))
part_spelled (octet n) h = (refl, h)
part_spelled (window n) h = (refl, h)

pub part_is : (p : Part) (o : ℕ) → SpellsPart p o → IsPart p
part_is (typed t a b c d) o h = tt
part_is (limits segs resp) o h = (omega (arith, h.0, h.1, h.2), omega (arith, h.0, h.1, h.2))
part_is (octet n) o h = omega (arith, h.0, h.1)
part_is (window n) o h = h.1

pub part_least : (p : Part) (o : ℕ) → SpellsPart p o → least_part p ≤ o
part_least (typed t a b c d) o h =
    let x = bit_most 3 a o h.1 in
    let y = bit_most 2 b o h.2 in
    let z = bit_most 1 c o h.3 in
    let w = bit_most 0 d o h.4 in
    let e = h.0 in
    omega arith
part_least (limits segs resp) o h = omega (arith, h.0, h.1, h.2)
part_least (octet n) o h = omega (arith, h.0)
part_least (window n) o h = omega (arith, h.0)

pub parts_are : (ps : List Part) (B : List ℕ → Type 0) (b : List ℕ) → Headed ps B b → AreParts ps
parts_are [] B b h = tt
parts_are (p ∷ ps) B [] h = absurd h
parts_are (p ∷ ps) B (o ∷ b) h = (part_is p o h.0, parts_are ps B b h.1)

headed_spelled : (ps : List Part) (B : List ℕ → Type 0) (c : List ℕ) → AreParts ps → B c → Headed ps B (least_head ps ++ c)
headed_spelled [] B c v s = s
headed_spelled (p ∷ ps) B c v s = (part_spelled p v.0, headed_spelled ps B c v.1 s)

headed_lowest : (ps : List Part) (B : List ℕ → Type 0) (c b : List ℕ) → ((d : List ℕ) → B d → NoGreater c d) → Headed ps B b → NoGreater (least_head ps ++ c) b
headed_lowest [] B c b least h = least b h
headed_lowest (p ∷ ps) B c [] least h = absurd h
headed_lowest (p ∷ ps) B c (o ∷ b) least h = NoGreater-append (least_part p ∷ []) (o ∷ []) (least_head ps ++ c) b (one_no_greater (least_part p) o (part_least p o h.0)) (headed_lowest ps B c b least h.1)

-- what stands behind a head is a body
pub headed_rest : (ps : List Part) (B : List ℕ → Type 0) (b : List ℕ) → Headed ps B b → (c : List ℕ) × B c
headed_rest [] B b h = (b, h)
headed_rest (p ∷ ps) B [] h = absurd h
headed_rest (p ∷ ps) B (o ∷ b) h = headed_rest ps B b h.1

-- the least list: each part's least octet, and the least list of the body
pub headed_least : (ps : List Part) (B : List ℕ → Type 0) (c : List ℕ) → AreParts ps → IsLeast B c → IsLeast (Headed ps B) (least_head ps ++ c)
headed_least ps B c v L = record { member = headed_spelled ps B c v L.member; least = λ b h. headed_lowest ps B c b L.least h }

-- the mark: that of the head against its least octets, and then that of the body
pub headed_mark : (ps : List Part) (B : List ℕ → Type 0) (m o : Option ℕ) (front back : List ℕ) → Headed ps B (front ++ back) → IsMark front (least_head ps) m → HasMark B back o → HasMark (Headed ps B) (front ++ back) (joined_mark m (length front) o)
headed_mark ps B m o front back h i D = record {
  least = least_head ps ++ D.least;
  is_least = headed_least ps B D.least (parts_are ps B (front ++ back) h) D.is_least;
  is_mark = mark-append front back (least_head ps) D.least m o i D.is_mark;
}

pub headed_long : (ps : List Part) (B : List ℕ → Type 0) (b : List ℕ) → Headed ps B b → length ps ≤ length b
headed_long [] B b h = omega arith
headed_long (p ∷ ps) B [] h = absurd h
headed_long (p ∷ ps) B (o ∷ b) h = omega (arith, headed_long ps B b h.1)

pub length-least : (ps : List Part) → length (least_head ps) ≡ length ps
length-least [] = refl
length-least (p ∷ ps) = ap suc (length-least ps)

-- what stands behind as many octets as the head has
pub headed_body : (ps : List Part) (B : List ℕ → Type 0) (front b : List ℕ) → length front ≡ length ps → Headed ps B (front ++ b) → B b
headed_body [] B [] b e h = h
headed_body [] B (o ∷ front) b e h = absurd (omega (arith, e))
headed_body (p ∷ ps) B [] b e h = absurd (omega (arith, e))
headed_body (p ∷ ps) B (o ∷ front) b e h = headed_body ps B front b (omega (arith, e)) h.1
