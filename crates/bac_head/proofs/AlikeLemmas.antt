-- Addresses and flags that one list of octets tells.
use Rattle.std.specs.Prelude.{◌≡◌, ℕ, ◌/◌, ◌%◌, ◌^◌, ◌<◌, ◌≤◌, nat_eq, Bool, true, false, Option, Some, None, List, [], ◌∷◌, ◌++◌, length, take, drop, slice_index, refl}
use Rattle.std.proofs.Common.{sym, ◌∙◌, ap, subst, arith}
use Rattle.std.proofs.lemmas.List.{length-append, length-take-le, get_or-take, get_or_append_left}
use Rattle.bac_tag.specs.HeadOctets.{HasBit}
use Rattle.bac_tag.proofs.HeadOctetLemmas.{bit_once}
use Rattle.bac_npdu_parts.specs.Addresses.{SourceValue, DestinationValue, address_of, address_octets, source_octets}
use Rattle.bac_npdu_parts.specs.Control.{ControlValue, IsControl}
use Rattle.bac_npdu_parts.specs.Frames.{is_there}
use Rattle.bac_npdu_parts.specs.HeadsRead.{behind_control, IsCutAddress}

-- ---- lists

-- two fronts of one length, each with a rest, are the same
fronts_agree : (a c r s : List ℕ) → length a ≡ length c → a ++ r ≡ c ++ s → (a ≡ c) × (r ≡ s)
fronts_agree [] [] r s e h = (refl, h)
fronts_agree [] (y ∷ c) r s e h = absurd (omega (arith, e))
fronts_agree (x ∷ a) [] r s e h = absurd (omega (arith, e))
fronts_agree (x ∷ a) (y ∷ c) r s e h =
    let q = fronts_agree a c r s (omega (arith, e)) (ap (λ (l : List ℕ). drop 1 l) h) in
    let f : x ≡ y = ap (λ (l : List ℕ). slice_index l 0) h in
    (λ i. f i ∷ q.0 i, q.1)

-- an octet of the first n is the same in each list that begins with these
pub front_at : (n k : ℕ) (b more : List ℕ) → k < n → n ≤ length b → slice_index (take n b ++ more) k ≡ slice_index b k
front_at n k b more lt le = get_or_append_left (take n b) more 0 k (omega (arith, lt, length-take-le n b le)) ∙ get_or-take n b k 0 lt

-- ---- flags

pub flag_once : (n o : ℕ) (f g : Bool) → HasBit n (Some f) o → HasBit n (Some g) o → f ≡ g
flag_once n o f g h k = bit_once f g (o / 2 ^ n % 2) h k

-- the flag as the octet tells it
pub flag_told : (n o : ℕ) (f : Bool) → HasBit n (Some f) o → nat_eq (o / 2 ^ n % 2) 1 ≡ f
flag_told n o true h = ap (λ (k : ℕ). nat_eq k 1) h
flag_told n o false h = ap (λ (k : ℕ). nat_eq k 1) h

-- an octet says one thing as a control octet
pub control_once : (u v : ControlValue) (o : ℕ) → IsControl u o → IsControl v o → u ≡ v
control_once u v o h k =
    let a = flag_once 7 o u.message v.message h.message k.message in
    let b = flag_once 5 o u.destination v.destination h.destination k.destination in
    let c = flag_once 3 o u.source v.source h.source k.source in
    let d = flag_once 2 o u.reply v.reply h.reply k.reply in
    let e : u.priority ≡ v.priority = sym h.priority ∙ k.priority in
    λ i. record { message = a i; destination = b i; source = c i; reply = d i; priority = e i }

-- ---- addresses

address_agrees : (n m : ℕ) (a c r s : List ℕ) → address_octets n a ++ r ≡ address_octets m c ++ s → (n ≡ m) × (a ≡ c) × (r ≡ s)
address_agrees n m a c r s e =
    let high = ap (λ (l : List ℕ). slice_index l 0) e in
    let low = ap (λ (l : List ℕ). slice_index l 1) e in
    let size = ap (λ (l : List ℕ). slice_index l 2) e in
    let q = fronts_agree a c r s size (ap (λ (l : List ℕ). drop 3 l) e) in
    (omega (arith, high, low), q.0, q.1)

pub from_agrees : (x y : Option SourceValue) (r s : List ℕ) → is_there x ≡ is_there y → source_octets x ++ r ≡ source_octets y ++ s → (x ≡ y) × (r ≡ s)
from_agrees None None r s t e = (refl, e)
from_agrees None (Some y) r s t e = absurd (let i : false ≡ true = t in cc)
from_agrees (Some x) None r s t e = absurd (let i : true ≡ false = t in cc)
from_agrees (Some x) (Some y) r s t e =
    let q = address_agrees x.network y.network x.address y.address r s e in
    (λ i. Some (record { network = q.0 i; address = q.1 i }), q.2)

pub addresses_agree : (x y : Option DestinationValue) (u v : Option SourceValue) (r s : List ℕ) → is_there x ≡ is_there y → is_there u ≡ is_there v → behind_control x u r ≡ behind_control y v s → (x ≡ y) × (u ≡ v) × (r ≡ s)
addresses_agree None None u v r s t w e = let q = from_agrees u v r s w e in (refl, q.0, q.1)
addresses_agree None (Some y) u v r s t w e = absurd (let i : false ≡ true = t in cc)
addresses_agree (Some x) None u v r s t w e = absurd (let i : true ≡ false = t in cc)
addresses_agree (Some x) (Some y) u v r s t w e =
    let p = address_agrees x.network y.network x.address y.address (source_octets u ++ (x.hops ∷ r)) (source_octets v ++ (y.hops ∷ s)) e in
    let q = from_agrees u v (x.hops ∷ r) (y.hops ∷ s) w p.2 in
    let h : x.hops ≡ y.hops = ap (λ (l : List ℕ). slice_index l 0) q.1 in
    (λ i. Some (record { network = p.0 i; address = p.1 i; hops = h i }), q.0, ap (λ (l : List ℕ). drop 1 l) q.1)

-- an address that is there is not cut
not_cut : (n : ℕ) (a r b : List ℕ) → b ≡ address_octets n a ++ r → IsCutAddress b → ⊥
not_cut n a r b e cut =
    let now : IsCutAddress (address_octets n a ++ r) = subst IsCutAddress e cut in
    omega (arith, now (omega arith), length-append a r)

pub source_whole : (s : Option SourceValue) (r b : List ℕ) → is_there s ≡ true → b ≡ source_octets s ++ r → IsCutAddress b → ⊥
source_whole None r b t e cut = absurd (let i : false ≡ true = t in cc)
source_whole (Some s) r b t e cut = not_cut s.network s.address r b e cut

pub is_address : (d : Option DestinationValue) → is_there (address_of d) ≡ is_there d
is_address None = refl
is_address (Some d) = refl
