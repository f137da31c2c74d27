-- The octets of what a program holds are octets, and so they are a spelling.
use Rattle.std.specs.Prelude.{◌≡◌, ℕ, suc, ◌+◌, ◌<◌, Option, List, [], ◌∷◌, ◌++◌, length, map, take, refl}
use Rattle.std.proofs.Common.{get_or, sym, ap, subst, ◌∙◌, arith}
use Rattle.std.proofs.Math.Seq.{take-suc}
use Rattle.bac_tag.specs.Octets.{IsOctets}
use Rattle.bac_tag.specs.Laws.Octets.{NoGreater-same, octets_append}
use Rattle.bac_tag.specs.Spelling.{IsLeast}
use Rattle.bac_tag.specs.HeadOctets.{Part, octet, least_head, AreParts}
use Rattle.bac_tag.proofs.HeadOctetLemmas.{headed_least}
use Rattle.bac_npdu_parts.specs.declared.messages.port.Port.{Port}
use Rattle.bac_npdu_parts.specs.Addresses.{HasAddress, two_octets, counted, address_octets, source_octets, destination_octets, hops_octets}
use Rattle.bac_npdu_parts.specs.MessageTypes.{OpaqueNetValue}
use Rattle.bac_npdu_parts.specs.Messages.{MessageValue, opaque, networks_of, network_or_none, ports_of, octets_of, IsMessage, SpellsMessage}
use Rattle.bac_npdu_parts.specs.Frames.{BodyValue, FrameValue, addresses_of, SpellsBody, SpellsFrame}
use Rattle.bac_npdu_parts.proofs.FrameLemmas.{least_before, frame_least}
use Rattle.bac_npdu_parts.proofs.WrittenLemmas.{ports_append}

-- ---- parts one after the other

parts_then : (ps qs : List Part) → AreParts ps → AreParts qs → AreParts (ps ++ qs)
parts_then [] qs h k = k
parts_then (p ∷ ps) qs h k = (h.0, parts_then ps qs h.1 k)

octets_parts : (octets : List ℕ) → IsOctets octets → AreParts (map octet octets)
octets_parts [] h = tt
octets_parts (o ∷ octets) h = (h.0, octets_parts octets h.1)

number_parts : (n : ℕ) (ps : List Part) → n < 65536 → AreParts ps → AreParts (two_octets n ++ ps)
number_parts n ps h k = (omega (arith, h), (omega arith, k))

counted_parts : (octets : List ℕ) (ps : List Part) → length octets < 256 → IsOctets octets → AreParts ps → AreParts (counted octets ++ ps)
counted_parts octets ps few h k = (few, parts_then (map octet octets) ps (octets_parts octets h) k)

-- ---- networks, ports, opaque messages

pub networks_held : (ns : List ℕ) → ((k : ℕ) → k < length ns → get_or ns k 0 < 65536) → AreParts (networks_of ns)
networks_held [] small = tt
networks_held (n ∷ ns) small = number_parts n (networks_of ns) (small 0 (omega arith)) (networks_held ns (λ k lt. small (suc k) (omega (arith, lt))))

pub port_held : (port : Port) (octets : List ℕ) → octets ≡ port.info → port.network < 65536 → port.id < 256 → length octets < 256 → IsOctets octets → AreParts (ports_of (port ∷ []))
port_held port octets e n i few h =
    number_parts port.network (octet port.id ∷ counted port.info ++ []) n
    (i, counted_parts port.info [] (subst (λ (l : List ℕ). length l < 256) e few) (subst IsOctets e h) tt)

-- the ports so far, and the next
pub ports_next : (ports : List Port) (i : ℕ) (port : Port) → port ≡ get_or ports i port → i < length ports → AreParts (ports_of (take i ports)) → AreParts (ports_of (port ∷ [])) → AreParts (ports_of (take (i + 1) ports))
ports_next ports i port e lt h k =
    let next : i + 1 ≡ suc i = omega arith in
    let all : ports_of (take (i + 1) ports) ≡ ports_of (take i ports) ++ ports_of (get_or ports i port ∷ [])
    = ap (λ (n : ℕ). ports_of (take n ports)) next ∙ ap (λ (l : List Port). ports_of l) (take-suc ports i port lt) ∙ ports_append (take i ports) (get_or ports i port ∷ []) in
    subst AreParts (sym all) (parts_then (ports_of (take i ports)) (ports_of (get_or ports i port ∷ [])) h (subst (λ (p : Port). AreParts (ports_of (p ∷ []))) e k))

pub opaque_held : (message : OpaqueNetValue) (kind : ℕ) (vendor : Option ℕ) (octets : List ℕ) → kind ≡ message.kind → vendor ≡ message.vendor → octets ≡ message.octets → kind < 256 → AreParts (network_or_none vendor) → IsOctets octets → AreParts (octets_of (opaque message))
opaque_held message kind vendor octets e f g k v h =
    (subst (λ (n : ℕ). n < 256) e k, parts_then (network_or_none message.vendor) (map octet message.octets) (subst (λ (w : Option ℕ). AreParts (network_or_none w)) f v) (octets_parts message.octets (subst IsOctets g h)))

-- ---- addresses

pub address_held : (network : ℕ) (address octets : List ℕ) → octets ≡ address → network < 65536 → length octets < 256 → IsOctets octets → IsOctets (address_octets network address)
address_held network address octets e n few h = (omega (arith, n), (omega arith, (subst (λ (l : List ℕ). length l < 256) e few, subst IsOctets e h)))

-- ---- the least spelling

-- there is nothing after a head
nothing_least : IsLeast (λ (rest : List ℕ). rest ≡ []) []
nothing_least = record { member = refl; least = λ c e. NoGreater-same [] c (sym e) }

pub message_held : (m : MessageValue) → IsMessage m → AreParts (octets_of m) → (b : List ℕ) × IsLeast (SpellsMessage m) b
message_held m formed parts =
    let all = headed_least (octets_of m) (λ rest. rest ≡ []) [] parts nothing_least in
    (least_head (octets_of m) ++ [], record { member = (formed, all.member); least = λ c k. all.least c k.1 })

module _ (f : FrameValue) (priority : f.priority < 4) (destination : IsOctets (destination_octets f.destination)) (hops : IsOctets (hops_octets f.destination)) (source : IsOctets (source_octets f.source)) (some : HasAddress f.source) where
  addresses_held : IsOctets (addresses_of f)
  addresses_held = octets_append (destination_octets f.destination) (source_octets f.source ++ hops_octets f.destination) destination (octets_append (source_octets f.source) (hops_octets f.destination) source hops)

  pub frame_held : (x : BodyValue) → f.body ≡ x → (b : List ℕ) × IsLeast (SpellsBody x) b → (b : List ℕ) × IsLeast (SpellsFrame f) b
  frame_held x e body = (least_before f ++ body.0, frame_least f body.0 some priority addresses_held (subst (λ (y : BodyValue). IsLeast (SpellsBody y) body.0) (sym e) body.1))
