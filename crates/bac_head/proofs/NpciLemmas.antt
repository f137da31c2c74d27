-- Octets that lack addresses.
use Rattle.std.specs.Prelude.{◌≡◌, ℕ, ◌-◌, true, false, Option, Some, None, List, [], ◌++◌, length, take, drop, slice_index, refl}
use Rattle.std.proofs.Common.{sym, ◌∙◌, ap, subst, length-drop, arith}
use Rattle.std.proofs.lemmas.List.{take_all}
use Rattle.bac_tag.specs.HeadOctets.{HasBit}
use Rattle.bac_npdu_parts.specs.declared.frame_head.Addressed.{Addressed}
use Rattle.bac_npdu_parts.specs.Addresses.{SourceValue, DestinationValue, HasAddress, address_of, source_octets, hops_octets}
use Rattle.bac_npdu_parts.specs.FrameHeads.{address_read}
use Rattle.bac_npdu_parts.specs.Frames.{is_there}
use Rattle.bac_npdu_parts.specs.HeadsRead.{behind_control, IsCutAddress}
use Rattle.bac_head.specs.declared.control_head.ControlHead.{ControlHead}
use Rattle.bac_head.specs.Saying.{SaysControl}
use Rattle.bac_head.specs.Reach.{HasNpci}
use Rattle.bac_head.proofs.AlikeLemmas.{flag_once, from_agrees, source_whole, is_address}

-- what was read is there where it was told
pub read_there : (a : Option Addressed) → is_there (address_read a) ≡ is_there a
read_there None = refl
read_there (Some a) = refl

-- the octets from the second on, as they are split off
pub after_two : (b : List ℕ) → take (length b - 2) (drop 2 b) ≡ drop 2 b
after_two b = take_all (length b - 2) (drop 2 b) (omega (arith, length-drop 2 b))

not_empty : (s : Option SourceValue) (r b : List ℕ) → is_there s ≡ true → HasAddress s → b ≡ source_octets s ++ r → slice_index b 2 ≡ 0 → ⊥
not_empty None r b t a e zero = absurd (let i : false ≡ true = t in cc)
not_empty (Some s) r b t a e zero = let size : slice_index b 2 ≡ length s.address = ap (λ (l : List ℕ). slice_index l 2) e in omega (arith, a, size, zero)

hops_there : (d : Option DestinationValue) (r : List ℕ) → is_there d ≡ true → hops_octets d ++ r ≡ [] → ⊥
hops_there None r t e = absurd (let i : false ≡ true = t in cc)
hops_there (Some d) r t e = omega (arith, ap (λ (l : List ℕ). length l) e)

module _ (octets : List ℕ) (c : ControlHead) (says : SaysControl c octets) (v : List ℕ) (is : v ≡ drop 2 octets) where
  -- another reading of these octets has the same control octet
  same_octet : (h : HasNpci octets) → h.control ≡ says.control
  same_octet h = ap (λ (l : List ℕ). slice_index l 1) (sym h.is_head.octets_are ∙ says.octets_are)

  behind : (h : HasNpci octets) → v ≡ behind_control h.destination h.source h.rest
  behind h = is ∙ ap (λ (l : List ℕ). drop 2 l) h.is_head.octets_are

  same_destination : (h : HasNpci octets) → is_there h.destination ≡ c.destination
  same_destination h = flag_once 5 says.control (is_there h.destination) c.destination (subst (λ (o : ℕ). HasBit 5 (Some (is_there h.destination)) o) (same_octet h) h.is_head.destination) says.is_control.destination

  same_source : (h : HasNpci octets) → is_there h.source ≡ c.source
  same_source h = flag_once 3 says.control (is_there h.source) c.source (subst (λ (o : ℕ). HasBit 3 (Some (is_there h.source)) o) (same_octet h) h.is_head.source) says.is_control.source

  module _ (g : Option SourceValue) (there : is_there g ≡ c.destination) (r : List ℕ) (e : v ≡ source_octets g ++ r) where
    after : (h : HasNpci octets) → (address_of h.destination ≡ g) × (source_octets h.source ++ (hops_octets h.destination ++ h.rest) ≡ r)
    after h = from_agrees (address_of h.destination) g (source_octets h.source ++ (hops_octets h.destination ++ h.rest)) r (is_address h.destination ∙ same_destination h ∙ sym there) (sym (behind h) ∙ e)

    pub source_lacks : c.source ≡ true → IsCutAddress r → HasNpci octets → ⊥
    source_lacks t cut h = source_whole h.source (hops_octets h.destination ++ h.rest) r (same_source h ∙ t) (sym (after h).1) cut

    pub source_empty : c.source ≡ true → slice_index r 2 ≡ 0 → HasNpci octets → ⊥
    source_empty t zero h = not_empty h.source (hops_octets h.destination ++ h.rest) r (same_source h ∙ t) h.is_head.address (sym (after h).1) zero

    pub hops_lack : (s : Option SourceValue) → is_there s ≡ c.source → (w : List ℕ) → r ≡ source_octets s ++ w → is_there g ≡ true → w ≡ [] → HasNpci octets → ⊥
    hops_lack s k w f t none h =
        let q = from_agrees h.source s (hops_octets h.destination ++ h.rest) w (same_source h ∙ sym k) ((after h).1 ∙ f) in
        hops_there h.destination h.rest (same_destination h ∙ sym there ∙ t) (q.1 ∙ none)
