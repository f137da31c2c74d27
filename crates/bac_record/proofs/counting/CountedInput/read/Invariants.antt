-- An interrupted read changes nothing that is known.
use Rattle.std.proofs.Common.{◌≡◌}
use Rattle.std.specs.Io.KnownBytes.{Keeps}
use Rattle.bac_record.proofs.counting.CountedInput.read.Given as goal

abbrev pub invariant-loop : goal.invariant-loop
invariant-loop g l = (l.self.given ≡ l.initial.self.given) × (l.self.failures ≡ l.initial.self.failures) × Keeps (g.T.Read.remaining l.initial.self.device) (g.T.Read.remaining l.self.device)
