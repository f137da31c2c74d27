-- Short nodes, and the lists that are held.
use Rattle.std.proofs.Common.{◌≡◌, ℕ, ◌<◌, ◌≤◌, Some, List, get_or, take, length, map, ◌∙◌, ap, arith}
use Rattle.std.specs.Prelude.{slice_get}
use Rattle.std.specs.Option.{option_map}
use Rattle.std.proofs.lemmas.List.{get_or-take, length-map, length-take-le}
use Rattle.std.proofs.lemmas.Option.{slice_get-map, slice_get-get_or}
use Rattle.bac_data.specs.declared.short_nodes.ShortNode.{ShortNode}
use Rattle.bac_data.specs.ShortNodes.{wide_node}

-- as many few nodes as are counted
pub counted : (count : ℕ) (few : List ShortNode) → count ≤ 6 → length few ≡ 6 → length (map wide_node (take count few)) ≡ count
counted count few most places = length-map (take count few) wide_node ∙ length-take-le count few (omega (arith, most, places))

-- the node with an index
pub node_there : (count : ℕ) (few : List ShortNode) (i : ℕ) (d : ShortNode) → count ≤ 6 → length few ≡ 6 → i < count → slice_get (map wide_node (take count few)) i ≡ Some (wide_node (get_or few i d))
node_there count few i d most places within =
    let long : length (take count few) ≡ count = length-take-le count few (omega (arith, most, places)) in
    slice_get-map wide_node (take count few) i ∙ ap (option_map wide_node) (slice_get-get_or (take count few) i d (omega (arith, long, within)))
    ∙ ap (λ (n : ShortNode). Some (wide_node n)) (get_or-take count few i d within)
