use Rattle.std.proofs.Common.{◌∙◌, ap, true}
use Rattle.clap.specs.Words.{App}
use Rattle.clap.specs.Simple.{app_of_fields}
use Rattle.bac_tool.proofs.words.bare_command.Goals as goal

pub returns : goal.returns
returns c =
    let about_is = ap app_of_fields c.about.ensures ∙ c.new.ensures.app in
    let version_is = ap app_of_fields c.version.ensures ∙ ap (λ (a : App). record a { top = record a.top { has_version = true } }) about_is in
    ap app_of_fields c.after_help.ensures ∙ ap app_of_fields c.subcommand_required.ensures
    ∙ ap (λ (a : App). record a { top = record a.top { subcommand_required = true } }) version_is
