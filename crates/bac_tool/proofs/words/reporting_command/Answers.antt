use Rattle.std.proofs.Common.{ap, ap₂, codes, ◌≡◌, ◌∙◌}
use Rattle.std.proofs.lemmas.Result.{IfOk-weaker}
use Rattle.clap.specs.Words.{App, app_of, with_subcommand}
use Rattle.bac_tool.specs.CommandLine.{bare, moded}
use Rattle.bac_tool.proofs.words.reporting_command.Goals as goal

pub returns : goal.returns
returns c =
    let one_is : app_of c.in_ok-one.one ≡ with_subcommand bare (moded (codes "show")).top =
    c.in_ok-one.ensures.shape c.in_ok-show.ensures.local ∙ ap₂ with_subcommand c.bare_command.ensures (ap (λ (a : App). a.top) c.in_ok-show.ensures.shape) in
    let two_is : app_of c.in_ok-two.two ≡ with_subcommand (with_subcommand bare (moded (codes "show")).top) (moded (codes "explain")).top =
    c.in_ok-two.ensures.shape c.in_ok-explain.ensures.local ∙ ap₂ with_subcommand one_is (ap (λ (a : App). a.top) c.in_ok-explain.ensures.shape) in
    IfOk-weaker c.subcommand-3.result _ _
    (λ r added. added.shape c.in_ok-check.ensures.local ∙ ap₂ with_subcommand two_is (ap (λ (a : App). a.top) c.in_ok-check.ensures.shape)) c.subcommand-3.ensures
