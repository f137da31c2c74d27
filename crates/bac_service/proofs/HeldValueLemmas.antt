-- An open value that a program holds has its numbers, its lengths and its depth in their ranges.
use Rattle.bac_data.specs.OpenValue.{Elements, IsOpenValue}
use Rattle.bac_data.specs.HeldLists.{octets_of, nodes_of}
use Rattle.bac_data.proofs.HeldLemmas.{held_elements, held_depth}
use Rattle.bac_service.proofs.HeldParts.{any_known}

pub held_value : (v : Elements) → any_known.Fact v → IsOpenValue 32 v
held_value v f = (held_elements (octets_of f.0.held) (nodes_of f.0.held) v f.1.1.1 f.1.0, held_depth (octets_of f.0.held) (nodes_of f.0.held) v f.1.1.1 f.1.0)
