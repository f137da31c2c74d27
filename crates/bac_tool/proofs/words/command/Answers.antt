use Rattle.std.proofs.Common.{ap, ap₂, codes, ◌≡◌, ◌∙◌}
use Rattle.std.proofs.lemmas.Result.{IfOk-weaker}
use Rattle.clap.specs.Words.{App, app_of, new_app, with_subcommand}
use Rattle.bac_tool.specs.CommandLine.{moded, reporting, with_alias}
use Rattle.bac_tool.proofs.words.command.Goals as goal

pub returns : goal.returns
returns c =
    let one_is : app_of c.in_ok-one.one ≡ with_subcommand reporting (with_alias (moded (codes "normalise")) (codes "normalize")).top =
    c.in_ok-one.ensures.shape (c.in_ok-normalise_or_normalize.ensures.local ∙ c.in_ok-normalise.ensures.local)
    ∙ ap₂ with_subcommand c.in_ok-reporting.ensures (ap (λ (a : App). a.top) (c.in_ok-normalise_or_normalize.ensures.shape ∙ ap (λ (a : App). with_alias a (codes "normalize")) c.in_ok-normalise.ensures.shape)) in
    let two_is : app_of c.in_ok-two.two ≡ with_subcommand (with_subcommand reporting (with_alias (moded (codes "normalise")) (codes "normalize")).top) (new_app (codes "pack")).top =
    c.in_ok-two.ensures.shape c.plain_command-pack.ensures.local ∙ ap₂ with_subcommand one_is (ap (λ (a : App). a.top) c.plain_command-pack.ensures.shape) in
    IfOk-weaker c.subcommand-3.result _ _
    (λ r added. added.shape c.plain_command-read.ensures.local ∙ ap₂ with_subcommand two_is (ap (λ (a : App). a.top) c.plain_command-read.ensures.shape)) c.subcommand-3.ensures
