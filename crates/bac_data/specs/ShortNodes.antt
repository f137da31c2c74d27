-- The nodes of a short value.
use Rattle.std.specs.Prelude.{◌<◌}
use Rattle.bac_data.specs.declared.nodes.Node.{Node}
use Rattle.bac_data.specs.declared.nodes.Node.TheVariants as node
use Rattle.bac_data.specs.declared.short_nodes.ShortNode.{ShortNode}
use Rattle.bac_data.specs.declared.short_nodes.ShortNode.TheVariants as short

-- The node that a short one stands for.
abbrev pub wide_node : ShortNode → Node
wide_node (short.Boolean bit) = node.Boolean bit
wide_node (short.Application number len start) = node.Application number len start
wide_node (short.Context number len start) = node.Context number len start
wide_node (short.Open number closing) = node.Open number closing
wide_node (short.Close number) = node.Close number

-- A short node stands for the node: its length and its indices have one octet each.
abbrev pub IsShort : Node → Type 0
IsShort (node.Boolean bit) = Unit {0}
IsShort (node.Application number len start) = (len < 256) × (start < 256)
IsShort (node.Context number len start) = (len < 256) × (start < 256)
IsShort (node.Open number closing) = closing < 256
IsShort (node.Close number) = Unit {0}
