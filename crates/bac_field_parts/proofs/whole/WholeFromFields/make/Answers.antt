use Rattle.std.proofs.lemmas.Result.{IfErr-weaker}
use Rattle.bac_field_parts.specs.Laws.Making.{stop_then}
use Rattle.bac_field_parts.specs.Laws.Messages.{message_stopped}
use Rattle.bac_field_parts.proofs.whole.WholeFromFields.make.Goals as goal

pub returns-clause-stopped : goal.returns-clause-stopped
returns-clause-stopped g c =
    IfErr-weaker c.make.result _ _ (λ fault. stop_then fault _ _ (λ p. message_stopped _ _ _ _ (g.met.M.Message.is_message c.args.self.now.0) (_) p)) (rw c.parts.ensures at c.make.ensures.stopped)
