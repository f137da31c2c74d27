use Rattle.std.proofs.Common.{◌∙◌, ap₂, Bool}
use Rattle.std.specs.Prelude.{◌||◌}
use Rattle.std.proofs.lemmas.Result.{IfOk-weaker}
use Rattle.clap.specs.Words.{with_rule}
use Rattle.bac_tool.proofs.words.moded_command.Goals as goal

pub returns-clause-shape : goal.returns-clause-shape
returns-clause-shape c =
    IfOk-weaker c.arg.result _ _ (λ r added. added.shape c.strict_flag.ensures.local ∙ ap₂ with_rule c.plain_command.ensures.shape c.strict_flag.ensures.rule) c.arg.ensures

pub returns-clause-local : goal.returns-clause-local
returns-clause-local c =
    IfOk-weaker c.arg.result _ _ (λ r added. added.globals ∙ ap₂ (λ (a b : Bool). a || b) c.plain_command.ensures.local c.strict_flag.ensures.local) c.arg.ensures
