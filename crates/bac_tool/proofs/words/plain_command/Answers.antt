use Rattle.std.proofs.Common.{◌∙◌, ap}
use Rattle.clap.specs.Simple.{app_of_fields}
use Rattle.bac_tool.proofs.words.plain_command.Goals as goal

pub returns-clause-shape : goal.returns-clause-shape
returns-clause-shape c = ap app_of_fields c.after_help.ensures ∙ ap app_of_fields c.override_usage.ensures ∙ ap app_of_fields c.about.ensures ∙ c.new.ensures.app

pub returns-clause-local : goal.returns-clause-local
returns-clause-local c = ap (λ f. f.has_globals) c.after_help.ensures ∙ ap (λ f. f.has_globals) c.override_usage.ensures ∙ ap (λ f. f.has_globals) c.about.ensures ∙ c.new.ensures.local
