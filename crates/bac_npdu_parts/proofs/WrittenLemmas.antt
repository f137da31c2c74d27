-- What is written of lists of parts.
use Rattle.std.specs.Prelude.{◌≡◌, ℕ, suc, ◌+◌, ◌/◌, ◌%◌, ◌<◌, List, [], ◌∷◌, ◌++◌, length, map, take, refl}
use Rattle.std.proofs.Common.{ap, ◌∙◌, sym, append_assoc, append-nil, get_or, arith}
use Rattle.std.proofs.Math.Seq.{take-suc}
use Rattle.bac_tag.specs.HeadOctets.{Part, octet, least_part, least_head}
use Rattle.bac_npdu_parts.specs.declared.messages.port.Port.{Port}
use Rattle.bac_npdu_parts.specs.Addresses.{two_octets}
use Rattle.bac_npdu_parts.specs.Messages.{networks_of, ports_of}

pub least_append : (ps qs : List Part) → least_head (ps ++ qs) ≡ least_head ps ++ least_head qs
least_append [] qs = refl
least_append (p ∷ ps) qs = ap (λ (l : List ℕ). least_part p ∷ l) (least_append ps qs)

-- octets that are told are written as they are
pub least_octets : (octets : List ℕ) → least_head (map octet octets) ≡ octets
least_octets [] = refl
least_octets (o ∷ octets) = ap (λ (l : List ℕ). o ∷ l) (least_octets octets)

pub least_octets_then : (octets : List ℕ) (ps : List Part) → least_head (map octet octets ++ ps) ≡ octets ++ least_head ps
least_octets_then octets ps = least_append (map octet octets) ps ∙ ap (λ (l : List ℕ). l ++ least_head ps) (least_octets octets)

pub networks_append : (ms ns : List ℕ) → networks_of (ms ++ ns) ≡ networks_of ms ++ networks_of ns
networks_append [] ns = refl
networks_append (m ∷ ms) ns = ap (λ (l : List Part). two_octets m ++ l) (networks_append ms ns)

pub ports_append : (ms ns : List Port) → ports_of (ms ++ ns) ≡ ports_of ms ++ ports_of ns
ports_append [] ns = refl
ports_append (m ∷ ms) ns = ap (λ (l : List Part). two_octets m.network ++ octet m.id ∷ octet (length m.info) ∷ l) (ap (λ (l : List Part). map octet m.info ++ l) (ports_append ms ns) ∙ sym (append_assoc (map octet m.info) (ports_of ms) (ports_of ns)))

-- one thing written behind another
pub one_behind : (old a b : List ℕ) {new newer : List ℕ} → new ≡ old ++ a → newer ≡ new ++ b → newer ≡ old ++ (a ++ b)
one_behind old a b e f = f ∙ ap (λ (l : List ℕ). l ++ b) e ∙ append_assoc old a b

pub told : (octets : List ℕ) → octets ≡ least_head (map octet octets ++ [])
told octets = sym (least_octets_then octets [] ∙ append-nil octets)

next : (i : ℕ) → i + 1 ≡ suc i
next i = omega arith

pub networks_next : (ns : List ℕ) (i : ℕ) → i < length ns → least_head (networks_of (take i ns)) ++ (get_or ns i 0 / 256 ∷ get_or ns i 0 % 256 ∷ []) ≡ least_head (networks_of (take (i + 1) ns))
networks_next ns i lt = sym (ap (λ (n : ℕ). least_head (networks_of (take n ns))) (next i) ∙ ap (λ (l : List ℕ). least_head (networks_of l)) (take-suc ns i 0 lt) ∙ ap least_head (networks_append (take i ns) (get_or ns i 0 ∷ [])) ∙ least_append (networks_of (take i ns)) (networks_of (get_or ns i 0 ∷ [])))

ports_next : (ps : List Port) (i : ℕ) (p : Port) → i < length ps → least_head (ports_of (take i ps)) ++ least_head (ports_of (get_or ps i p ∷ [])) ≡ least_head (ports_of (take (i + 1) ps))
ports_next ps i p lt = sym (ap (λ (n : ℕ). least_head (ports_of (take n ps))) (next i) ∙ ap (λ (l : List Port). least_head (ports_of l)) (take-suc ps i p lt) ∙ ap least_head (ports_append (take i ps) (get_or ps i p ∷ [])) ∙ least_append (ports_of (take i ps)) (ports_of (get_or ps i p ∷ [])))

pub port_next : (ps : List Port) (i : ℕ) (p : Port) → p ≡ get_or ps i p → i < length ps → least_head (ports_of (take i ps)) ++ least_head (ports_of (p ∷ [])) ≡ least_head (ports_of (take (i + 1) ps))
port_next ps i p e lt = ap (λ (q : Port). least_head (ports_of (take i ps)) ++ least_head (ports_of (q ∷ []))) e ∙ ports_next ps i p lt
