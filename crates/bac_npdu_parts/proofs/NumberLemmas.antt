-- Parts that are numbers, each in an octet of its own.
use Rattle.std.specs.Prelude.{◌≡◌, ℕ, Option, Some, None, List, [], ◌∷◌, ◌++◌, map}
use Rattle.std.proofs.Common.{◌∙◌, ap}
use Rattle.bac_tag.specs.Octets.{IsOctets}
use Rattle.bac_tag.specs.HeadOctets.{Part, octet, Headed, least_head, AreParts}
use Rattle.bac_npdu_parts.specs.declared.messages.port.Port.{Port}
use Rattle.bac_npdu_parts.specs.Messages.{MessageValue, who_is_router, i_am_router, router_busy, router_available, init_table, init_table_ack, opaque, networks_of, network_or_none, ports_of, table_or_none, octets_of}

abbrev pub AreNumbers : List Part → Type 0
AreNumbers [] = Unit {0}
AreNumbers (octet n ∷ ps) = AreNumbers ps
AreNumbers _ = ⊥

-- what is written of them is octets exactly where they are
pub numbers_parts : (ps : List Part) → AreNumbers ps → IsOctets (least_head ps) → AreParts ps
numbers_parts [] n o = tt
numbers_parts (octet k ∷ ps) n o = (o.0, numbers_parts ps n o.1)
numbers_parts (p ∷ ps) n o = absurd n

-- parts that are numbers have one spelling
pub numbers_told : (ps : List Part) (b : List ℕ) → AreNumbers ps → Headed ps (λ rest. rest ≡ []) b → b ≡ least_head ps
numbers_told [] b n h = h
numbers_told (p ∷ ps) [] n h = absurd h
numbers_told (octet k ∷ ps) (o ∷ b) n h = ap (λ (x : ℕ). x ∷ b) h.0.0 ∙ ap (λ (l : List ℕ). k ∷ l) (numbers_told ps b n h.1)
numbers_told (p ∷ ps) (o ∷ b) n h = absurd n

octets_then : (xs : List ℕ) (ps : List Part) → AreNumbers ps → AreNumbers (map octet xs ++ ps)
octets_then [] ps n = n
octets_then (x ∷ xs) ps n = octets_then xs ps n

octets_alone : (xs : List ℕ) → AreNumbers (map octet xs)
octets_alone [] = tt
octets_alone (x ∷ xs) = octets_alone xs

networks_numbers : (ns : List ℕ) → AreNumbers (networks_of ns)
networks_numbers [] = tt
networks_numbers (n ∷ ns) = networks_numbers ns

network_numbers : (v : Option ℕ) → AreNumbers (network_or_none v)
network_numbers None = tt
network_numbers (Some v) = tt

vendor_then : (v : Option ℕ) (xs : List ℕ) → AreNumbers (network_or_none v ++ map octet xs)
vendor_then None xs = octets_alone xs
vendor_then (Some v) xs = octets_alone xs

ports_numbers : (ps : List Port) → AreNumbers (ports_of ps)
ports_numbers [] = tt
ports_numbers (p ∷ ps) = octets_then p.info (ports_of ps) (ports_numbers ps)

table_numbers : (t : Option (List Port)) → AreNumbers (table_or_none t)
table_numbers None = tt
table_numbers (Some ps) = ports_numbers ps

-- the last line is that of each message with numbers alone
pub message_numbers : (m : MessageValue) → AreNumbers (octets_of m)
message_numbers (who_is_router v) = network_numbers v
message_numbers (i_am_router ns) = networks_numbers ns
message_numbers (router_busy ns) = networks_numbers ns
message_numbers (router_available ns) = networks_numbers ns
message_numbers (init_table ps) = ports_numbers ps
message_numbers (init_table_ack t) = table_numbers t
message_numbers (opaque m) = vendor_then m.vendor m.octets
message_numbers _ = tt
