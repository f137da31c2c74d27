use Rattle.std.proofs.Common.{map, ℕ, List, Bor}
use Rattle.bac_tool.proofs.Named.{answers}
use Rattle.bac_tool.proofs.words.job.Goals as goal

pub returns-clause-accepted : goal.returns-clause-accepted
returns-clause-accepted c = answers (map {A = Bor (List ℕ)} {B = List ℕ} (λ word. word.now) c.args.words.now) c.named_job.result c.named_job.ensures.named c.named_job.ensures.taken
