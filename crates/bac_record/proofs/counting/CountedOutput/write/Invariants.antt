-- An interrupted write changes nothing that is known.
use Rattle.std.proofs.Common.{◌≡◌}
use Rattle.std.specs.Io.KnownBytes.{Keeps}
use Rattle.bac_record.proofs.counting.CountedOutput.write.Given as goal

abbrev pub invariant-loop : goal.invariant-loop
invariant-loop g l = (l.self.failures ≡ l.initial.self.failures) × Keeps (g.T.Write.contents l.initial.self.device) (g.T.Write.contents l.self.device)
