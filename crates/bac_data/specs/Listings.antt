-- The nodes of a value that is being read, and which groups are open.
use Rattle.std.specs.Prelude.{◌≡◌, ℕ, ◌+◌, ◌<◌, ◌≤◌, Some, List, [], ◌∷◌, length, map, reverse, take, slice_get}
use Rattle.std.specs.List.{AllByRecursion}
use Rattle.bac_tag.specs.Spelling.{IsLeast}
use Rattle.bac_data.specs.declared.nodes.Node.{Node}
use Rattle.bac_data.specs.declared.nodes.Node.TheVariants as node
use Rattle.bac_data.specs.declared.short_nodes.ShortNode.{ShortNode}
use Rattle.bac_data.specs.declared.listing.Listing.{Listing}
use Rattle.bac_data.specs.ShortNodes.{wide_node}
use Rattle.bac_data.specs.Events.{Event, Opens, SpellsEvent}
use Rattle.bac_data.specs.Building.{closing_number}
use Rattle.bac_data.specs.NodeEvents.{AreNodes}

-- All nodes: the many, or those that the few stand for if there are not many.
abbrev pub all_nodes : List ShortNode → List Node → List Node
all_nodes few [] = map wide_node few
all_nodes few (n ∷ ns) = n ∷ ns

-- The nodes of a listing.
abbrev pub listed_nodes : Listing → List Node
listed_nodes l = all_nodes (take l.count l.few) l.many.items

-- There are at most six few nodes. If there are fewer, there are not many.
pub record IsSoundListing (l : Listing) : Type 0 where
  pub places : length l.few ≡ 6
  pub most : l.count ≤ 6
  pub none : l.count < 6 → l.many.items ≡ []

-- The same groups are open in both.
pub record SameGroups (old new : Listing) : Type 0 where
  pub innermost : new.innermost ≡ old.innermost
  pub depth : new.depth ≡ old.depth
  pub closing : new.closing ≡ old.closing
  pub number : new.number ≡ old.number

-- The groups with these numbers are open, and begin at these indices, the innermost first. The first index is the last
-- argument. Each opening has the index of the one around it in the place of that of its closing, and the outermost has 0.
abbrev pub Linked : List Node → List ℕ → List ℕ → ℕ → Type 0
Linked nodes [] [] at = at ≡ 0
Linked nodes (index ∷ indices) (number ∷ numbers) at = (at ≡ index) × (outer : ℕ) × (slice_get nodes index ≡ Some (node.Open number outer)) × Linked nodes indices numbers outer
Linked nodes _ _ at = ⊥

-- The nodes stand for these events of a value with that number, whose canonical octets these are. The groups with the last
-- numbers are open, the innermost first. Their depth is how many they are, and closing ends the innermost one, or the value.
pub record Listed (number : ℕ) (nodes : List Node) (innermost depth closing : ℕ) (es : List Event) (octets numbers : List ℕ) : Type 0 where
  pub indices : List ℕ
  pub are_nodes : AreNodes es octets nodes indices numbers
  pub linked : Linked nodes (reverse indices) numbers innermost
  pub opened : Opens 32 [] es numbers
  pub small : AllByRecursion (λ number. number ≤ 254) numbers
  pub depth_is : depth ≡ length numbers
  pub closing_is : closing ≡ closing_number number numbers

-- The listing has the nodes of these events. If they are few, their canonical octets are short.
pub record Lists (number : ℕ) (l : Listing) (es : List Event) (octets numbers : List ℕ) : Type 0 where
  pub listed : Listed number (listed_nodes l) l.innermost l.depth l.closing es octets numbers
  pub number_is : l.number ≡ number
  pub sound : IsSoundListing l
  pub short : l.many.items ≡ [] → length octets ≤ 24

-- One more event may be listed. Its canonical octets stand behind those of the others, and end there. The groups that are
-- open have the numbers before, and behind it those behind.
pub record MayAdd (number : ℕ) (event : Event) (end : ℕ) (l : Listing) (es : List Event) (octets more before behind : List ℕ) : Type 0 where
  pub lists : Lists number l es octets before
  pub opens : Opens 32 before (event ∷ []) behind
  pub least : IsLeast (SpellsEvent event) more
  pub ends : end ≡ length octets + length more
