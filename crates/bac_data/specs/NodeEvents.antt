-- The nodes of an open value, and the events that they stand for.
use Rattle.std.specs.Prelude.{◌≡◌, ◌≢◌, ℕ, ◌+◌, ◌≤◌, Some, List, [], ◌∷◌, ◌++◌, ◌⊎◌, length, map, reverse, take, drop, slice_get}
use Rattle.std.specs.List.{All}
use Rattle.bac_tag.specs.Spelling.{IsLeast}
use Rattle.bac_value.specs.declared.prim.PrimitiveValue.{PrimitiveValue}
use Rattle.bac_value.specs.declared.prim.PrimitiveValue.TheVariants.{Boolean}
use Rattle.bac_value.specs.PrimContents.{application_number, prim_written, IsWrittenOf}
use Rattle.bac_value.specs.PrimOfContents.{prim_of_contents}
use Rattle.bac_data.specs.declared.nodes.Node.{Node}
use Rattle.bac_data.specs.declared.nodes.Node.TheVariants as node
use Rattle.bac_data.specs.OpenValue.{Elements}
use Rattle.bac_data.specs.Events.{Event, application, contextual, opening, closing, events, Opens, SpellsEvent, SpellsEvents}

-- So many octets from that place on.
abbrev pub octets_at : ℕ → ℕ → List ℕ → List ℕ
octets_at start len octets = take len (drop start octets)

-- The event that a node stands for. Contents are those at its range in the octets.
abbrev pub node_event : List ℕ → Node → Event
node_event octets (node.Boolean bit) = application (Boolean (record { 0 = bit }))
node_event octets (node.Application number len start) = application (prim_of_contents number (octets_at start len octets))
node_event octets (node.Context number len start) = contextual number (octets_at start len octets)
node_event octets (node.Open number end) = opening number
node_event octets (node.Close number) = closing number

-- The events that nodes stand for.
abbrev pub node_events : List ℕ → List Node → List Event
node_events octets nodes = map (node_event octets) nodes

-- The range of the node lies within the octets. Contents of an application primitive are those that are written of their value,
-- and the number of an opening has one octet.
abbrev pub Lies : List ℕ → Node → Type 0
Lies octets (node.Boolean bit) = Unit {0}
Lies octets (node.Application number len start) = (start + len ≤ length octets) × (number ≤ 12) × IsWrittenOf number (octets_at start len octets)
Lies octets (node.Context number len start) = start + len ≤ length octets
Lies octets (node.Open number end) = number ≤ 254
Lies octets (node.Close number) = Unit {0}

-- At the index a group with that number begins, and it ends at the other index.
pub record IsGroup (es : List Event) (index number end : ℕ) : Type 0 where
  pub front : List Event
  pub inner : Elements
  pub rest : List Event
  pub events_are : es ≡ front ++ opening number ∷ (events inner ++ closing number ∷ rest)
  pub begins : length front ≡ index
  pub ends : end ≡ index + length (events inner) + 1

-- The groups with these numbers are open, and begin at these indices, the innermost first.
abbrev pub AreBegun : List Event → List ℕ → List ℕ → Type 0
AreBegun es [] [] = (inner : Elements) × (es ≡ events inner)
AreBegun es (index ∷ indices) (number ∷ numbers) =
    (front : List Event) × (inner : Elements) × (es ≡ front ++ opening number ∷ events inner) × (length front ≡ index) × AreBegun front indices numbers
AreBegun es _ _ = ⊥

-- The index is among these.
abbrev pub Among : ℕ → List ℕ → Type 0
Among index [] = ⊥
Among index (first ∷ others) = (index ≡ first) ⊎ Among index others

-- The nodes stand for these events. The groups that begin at these indices, the outermost first, are open. They have these
-- numbers, the innermost first. Each other opening has the index of its closing.
pub record AreNodes (es : List Event) (octets : List ℕ) (nodes : List Node) (groups numbers : List ℕ) : Type 0 where
  pub events_are : node_events octets nodes ≡ es
  pub lie : All (Lies octets) nodes
  pub begun : AreBegun es (reverse groups) numbers
  pub ended : (index number end : ℕ) → slice_get nodes index ≡ Some (node.Open number end) → Among index groups ⊎ IsGroup es index number end

-- What is held of a value whose groups at these indices are still open: the canonical octets of its events, and its nodes. A
-- value that is whole has no open group.
pub record IsHeld (octets : List ℕ) (nodes : List Node) (groups : List ℕ) : Type 0 where
  pub numbers : List ℕ
  pub least : IsLeast (SpellsEvents (node_events octets nodes)) octets
  pub opened : Opens 32 [] (node_events octets nodes) numbers
  pub are_nodes : AreNodes (node_events octets nodes) octets nodes groups numbers

-- The node is that of a primitive whose octets end at that place.
abbrev pub NodeFor : Event → ℕ → Node → Type 0
NodeFor e end (node.Boolean bit) = e ≡ application (Boolean (record { 0 = bit }))
NodeFor e end (node.Application number len start) =
    (prim : PrimitiveValue) × (e ≡ application prim) × (application_number prim ≡ number) × (number ≢ 1) × (len ≡ length (prim_written prim)) × (start + len ≡ end)
NodeFor e end (node.Context number len start) = (octets : List ℕ) × (e ≡ contextual number octets) × (len ≡ length octets) × (start + len ≡ end)
NodeFor e end (node.Open number last) = ⊥
NodeFor e end (node.Close number) = ⊥

-- An event may be listed behind the others. Its canonical octets stand behind theirs, and end at that place. The groups that
-- are open have the numbers before, and behind it those behind, the innermost first.
pub record MayList (event : Event) (end : ℕ) (nodes : List Node) (groups : List ℕ) (es : List Event) (octets more before behind : List ℕ) : Type 0 where
  pub are_nodes : AreNodes es octets nodes groups before
  pub opens : Opens 32 before (event ∷ []) behind
  pub least : IsLeast (SpellsEvent event) more
  pub ends : end ≡ length octets + length more
