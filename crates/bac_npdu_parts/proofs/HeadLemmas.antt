-- Heads of frames: their octets, and what these tell.
use Rattle.std.specs.Prelude.{◌≡◌, ℕ, ◌/◌, ◌%◌, ◌^◌, nat_eq, Bool, true, false, Option, Some, None, List, [], ◌∷◌, ◌++◌, length, drop, slice_index, refl}
use Rattle.std.proofs.Common.{◌∙◌, ap, append_assoc, arith}
use Rattle.std.proofs.lemmas.Nat.Bits.{bit_at-lt}
use Rattle.bac_tag.proofs.HeadOctetLemmas.{bit_once, bit_is}
use Rattle.bac_tag.specs.HeadOctets.{HasBit}
use Rattle.bac_npdu_parts.specs.Addresses.{SourceValue, DestinationValue, address_octets, source_octets, destination_octets, hops_octets}
use Rattle.bac_npdu_parts.specs.Frames.{is_there}
use Rattle.bac_npdu_parts.specs.HeadsRead.{behind_control}

-- ---- lists

cons_head : (x y : ℕ) (a b : List ℕ) → x ∷ a ≡ y ∷ b → x ≡ y
cons_head x y a b e = ap (λ (l : List ℕ). slice_index l 0) e

cons_tail : (x y : ℕ) (a b : List ℕ) → x ∷ a ≡ y ∷ b → a ≡ b
cons_tail x y a b e = ap (λ (l : List ℕ). drop 1 l) e

pub cons_same : (x y : ℕ) (a b : List ℕ) → x ≡ y → a ≡ b → x ∷ a ≡ y ∷ b
cons_same x y a b e f = ap (λ (n : ℕ). n ∷ a) e ∙ ap (λ (l : List ℕ). y ∷ l) f

-- fronts of one length in front of what is the same
pub fronts_agree : (a c r s : List ℕ) → length a ≡ length c → a ++ r ≡ c ++ s → (a ≡ c) × (r ≡ s)
fronts_agree [] [] r s e h = (refl, h)
fronts_agree [] (y ∷ c) r s e h = absurd (omega (arith, e))
fronts_agree (x ∷ a) [] r s e h = absurd (omega (arith, e))
fronts_agree (x ∷ a) (y ∷ c) r s e h =
    let q = fronts_agree a c r s (omega (arith, e)) (cons_tail x y (a ++ r) (c ++ s) h) in
    (cons_same x y a c (cons_head x y (a ++ r) (c ++ s) h) q.0, q.1)

-- ---- addresses, and what comes after them

pub addresses_then : (d : Option DestinationValue) (s : Option SourceValue) (b : List ℕ) → (destination_octets d ++ (source_octets s ++ hops_octets d)) ++ b ≡ behind_control d s b
addresses_then d s b = append_assoc (destination_octets d) (source_octets s ++ hops_octets d) b ∙ ap (λ (l : List ℕ). destination_octets d ++ l) (append_assoc (source_octets s) (hops_octets d) b)

-- ---- octets tell their addresses

address_agrees : (n m : ℕ) (a c r s : List ℕ) → address_octets n a ++ r ≡ address_octets m c ++ s → (n ≡ m) × (a ≡ c) × (r ≡ s)
address_agrees n m a c r s e =
    let high = ap (λ (l : List ℕ). slice_index l 0) e in
    let low = ap (λ (l : List ℕ). slice_index l 1) e in
    let size = ap (λ (l : List ℕ). slice_index l 2) e in
    let q = fronts_agree a c r s size (ap (λ (l : List ℕ). drop 3 l) e) in
    (omega (arith, high, low), q.0, q.1)

same_source : (x y : SourceValue) → x.network ≡ y.network → x.address ≡ y.address → x ≡ y
same_source x y e f =
    let p : record { network = x.network; address = x.address } ≡ record { network = y.network; address = x.address } = ap (λ (n : ℕ). record { network = n; address = x.address }) e in
    let q : record { network = y.network; address = x.address } ≡ record { network = y.network; address = y.address } = ap (λ (l : List ℕ). record { network = y.network; address = l }) f in
    p ∙ q

same_destination : (x y : DestinationValue) → x.network ≡ y.network → x.address ≡ y.address → x.hops ≡ y.hops → x ≡ y
same_destination x y e f g =
    let p : x ≡ record { network = y.network; address = x.address; hops = x.hops } = ap (λ (n : ℕ). record { network = n; address = x.address; hops = x.hops }) e in
    let q : record { network = y.network; address = x.address; hops = x.hops } ≡ record { network = y.network; address = y.address; hops = x.hops } = ap (λ (l : List ℕ). record { network = y.network; address = l; hops = x.hops }) f in
    let r : record { network = y.network; address = y.address; hops = x.hops } ≡ y = ap (λ (n : ℕ). record { network = y.network; address = y.address; hops = n }) g in
    p ∙ q ∙ r

pub from_agrees : (x y : Option SourceValue) (r s : List ℕ) → is_there x ≡ is_there y → source_octets x ++ r ≡ source_octets y ++ s → (x ≡ y) × (r ≡ s)
from_agrees None None r s t e = (refl, e)
from_agrees None (Some y) r s t e = absurd (let i : false ≡ true = t in cc)
from_agrees (Some x) None r s t e = absurd (let i : true ≡ false = t in cc)
from_agrees (Some x) (Some y) r s t e =
    let q = address_agrees x.network y.network x.address y.address r s e in
    (ap (λ (v : SourceValue). Some v) (same_source x y q.0 q.1), q.2)

pub addresses_agree : (x y : Option DestinationValue) (u v : Option SourceValue) (r s : List ℕ) → is_there x ≡ is_there y → is_there u ≡ is_there v → behind_control x u r ≡ behind_control y v s → (x ≡ y) × (u ≡ v) × (r ≡ s)
addresses_agree None None u v r s t w e = let q = from_agrees u v r s w e in (refl, q.0, q.1)
addresses_agree None (Some y) u v r s t w e = absurd (let i : false ≡ true = t in cc)
addresses_agree (Some x) None u v r s t w e = absurd (let i : true ≡ false = t in cc)
addresses_agree (Some x) (Some y) u v r s t w e =
    let p = address_agrees x.network y.network x.address y.address (source_octets u ++ (x.hops ∷ r)) (source_octets v ++ (y.hops ∷ s)) e in
    let q = from_agrees u v (x.hops ∷ r) (y.hops ∷ s) w p.2 in
    (ap (λ (d : DestinationValue). Some d) (same_destination x y p.0 p.1 (cons_head x.hops y.hops r s q.1)), q.0, cons_tail x.hops y.hops r s q.1)

-- ---- flags

pub flag_once : (n o : ℕ) (f g : Bool) → HasBit n (Some f) o → HasBit n (Some g) o → f ≡ g
flag_once n o f g h k = bit_once f g (o / 2 ^ n % 2) h k

-- the flag as the octet tells it
pub flag_told : (n o : ℕ) (f : Bool) → HasBit n (Some f) o → nat_eq (o / 2 ^ n % 2) 1 ≡ f
flag_told n o true h = ap (λ (k : ℕ). nat_eq k 1) h
flag_told n o false h = ap (λ (k : ℕ). nat_eq k 1) h

pub flag_is : (n o : ℕ) → HasBit n (Some (nat_eq (o / 2 ^ n % 2) 1)) o
flag_is n o = bit_is (o / 2 ^ n % 2) (bit_at-lt o n)
