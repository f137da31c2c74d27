-- The octets in front were taken in.
use Rattle.std.proofs.Common.{◌≡◌, ◌≤◌, ℕ, List, ◌++◌, length}
use Rattle.bac_record.specs.Records.{MOST}
use Rattle.bac_stream.specs.Intakes.{Item, TakesIn}
use Rattle.bac_stream.proofs.IntakeLemmas.{at_record}
use Rattle.bac_stream.proofs.items.push_items.Given as goal

abbrev pub invariant-loop-behind : goal.invariant-loop-behind
invariant-loop-behind l = record {
  front : List ℕ;
  items : List Item;
  splits : l.octets ≡ front ++ l.rest;
  takes : TakesIn (at_record l.mode l.before) front items (at_record l.mode l.records);
  appended : l.out.items ≡ l.initial.out.items ++ items;
  few : l.records ≤ MOST;
  begins : l.before ≤ MOST;
}

abbrev pub decreases-loop-behind : goal.decreases-loop-behind
decreases-loop-behind l = length l.rest
