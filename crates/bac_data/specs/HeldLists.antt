-- What a value holds, as its two lists: its canonical octets, and its nodes. Short ones lie in arrays.
use Rattle.std.specs.Prelude.{◌≡◌, ℕ, ◌≤◌, List, length, map, take}
use Rattle.bac_data.specs.declared.nodes.Node.{Node}
use Rattle.bac_data.specs.declared.held.Held.{Held}
use Rattle.bac_data.specs.declared.held.Held.TheVariants as held
use Rattle.bac_data.specs.ShortNodes.{wide_node}

-- The canonical octets that are held.
abbrev pub octets_of : Held → List ℕ
octets_of (held.Short count len nodes octets) = take len octets
octets_of (held.Long nodes octets) = octets.items

-- The nodes that are held.
abbrev pub nodes_of : Held → List Node
nodes_of (held.Short count len nodes octets) = map wide_node (take count nodes)
nodes_of (held.Long nodes octets) = nodes.items

-- The counts are no more than the arrays have places.
abbrev pub IsSound : Held → Type 0
IsSound (held.Short count len nodes octets) = (count ≤ 6) × (len ≤ 24) × (length nodes ≡ 6) × (length octets ≡ 24)
IsSound (held.Long nodes octets) = Unit {0}
