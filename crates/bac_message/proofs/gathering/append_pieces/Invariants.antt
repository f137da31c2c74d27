use Rattle.std.proofs.Common.{drop}
use Rattle.bac_message.specs.Gathered.{table_of}
use Rattle.bac_message.proofs.GatheringLemmas.{IsAppended}
use Rattle.bac_message.proofs.gathering.append_pieces.Given as goal

-- the pieces so far, none of them the last
abbrev pub invariant-loop-place : goal.invariant-loop-place
invariant-loop-place l = IsAppended (table_of l.places) (table_of (drop l.place-index l.places)) l.fn.out.items l.out.items
