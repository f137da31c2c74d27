use Rattle.std.proofs.Common.{◌-◌, ap, ◌∙◌}
use Rattle.std.proofs.lemmas.Result.{IfOk-weaker}
use Rattle.bac_lines.proofs.AddLemmas.{adds_since}
use Rattle.bac_lines.proofs.said.Said.add_since.Goals as goal

pub returns-clause-added : goal.returns-clause-added
returns-clause-added c = λ before v is_name is_number starts fields contents.
    IfOk-weaker c.add_held.result _ _ (λ _ added.
    adds_since before c.args.self.now c.add_held.new.self v c.args.name c.args.number c.args.start _ is_name is_number starts fields contents (c.saturating_sub-length.ensures ∙ ap (λ n. n - c.args.start) (c.len.ensures ∙ c.args.self.now.contents.ok.0)) added c.add_held.ensures.contents) c.add_held.ensures.added
